use Rattle.std.proofs.Common.{◌≡◌, ◌++◌, sym, ap, subst, ◌∙◌, map as each}
use Rattle.std.specs.Prelude.{filter}
use Rattle.std.specs.List.Sorted.{IsPermutation}
use Rattle.std.specs.Map.Iter.{deref_pair}
use Rattle.std.proofs.lemmas.List.{append-nil, take_at}
use Rattle.rubis_schema.specs.Keys.{holds}
use Rattle.rubis_schema.specs.declared.row_keys.RowKey.{RowKey}
use Rattle.rubis_schema.specs.declared.rows.Row.{Row}
use Rattle.rubis_shadow.proofs.Listed.{rows_listed}
use Rattle.rubis_shadow.proofs.listing.rows_in_order.Goals as goal

pub returns : goal.returns
returns c =
    let p = λ (e : RowKey × Row). holds c.args.table e.0 in
    let es = c.args.all.now.entries in
    let gs = each deref_pair c.put_in_order.new.rows in
    let all : filter p c.into_iter-key-iterator.result
    ≡ filter p es = ap (filter p) (c.into_iter-key-iterator.ensures.into_iter_gives ∙ c.iter-key-items.ensures.rest) in
    let picked : each deref_pair c.deref_mut.result.now ≡ filter p es =
    ap (each deref_pair) c.deref_mut.ensures.value
    ∙ sym (append-nil _)
    ∙ ap (λ rest. each deref_pair c.loop-key.rows.items ++ filter p rest) (sym (c.in-None.ensures.steps.0))
    ∙ c.loop-key.invariant ∙ all in
    let moved : IsPermutation (filter p es) gs = subst (λ fs. IsPermutation fs gs) picked c.put_in_order.ensures.permutation in
    let whole = take_at c.put_in_order.new.rows _ c.loop-key.rows.len (c.put_in_order.ensures.len ∙ c.deref_mut.ensures.len) in
    ap (each deref_pair) whole
    ∙ rows_listed c.args.table es gs c.iter-key-items.ensures.unique moved c.in_ok-put_in_order.ensures.sorted
