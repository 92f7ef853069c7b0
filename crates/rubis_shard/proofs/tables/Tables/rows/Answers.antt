use Rattle.rubis_shard.proofs.Common.{◌≡◌, List, ap, subst, ◌∙◌, map as each, arith, IsPermutation, take_all, take_at, rows_of}
use Rattle.rubis_shard.specs.Chains.{lent_row}
use Rattle.rubis_shard.specs.States.{ShardState}
use Rattle.rubis_shard.specs.Holdings.{union}
use Rattle.rubis_shard.proofs.Listing.{rows_by_shard, union_listed}
use Rattle.rubis_shard.proofs.tables.Tables.rows.Goals as goal

pub returns : goal.returns
returns c =
    let ts : List ShardState = c.self.inside.shards.items in
    let gs = each lent_row c.put_rows_in_order.new.rows in
    let picked : each lent_row c.deref_mut.result.now ≡ rows_by_shard c.args.table ts =
    ap (each lent_row) c.deref_mut.ensures.value ∙ c.loop-shard.invariant
    ∙ ap (rows_by_shard c.args.table) (take_all _ _ (omega arith) ∙ c.deref-shard-items.ensures.value) in
    let moved : IsPermutation (rows_by_shard c.args.table ts) gs = subst (λ fs. IsPermutation fs gs) picked
    c.put_rows_in_order.ensures.permutation in
    let whole = take_at c.put_rows_in_order.new.rows _ c.loop-shard.all.len (c.put_rows_in_order.ensures.len ∙ c.deref_mut.ensures.len) in
    ap (each lent_row) whole
    ∙ union_listed c.args.table ts gs c.self.invariant moved c.in_ok-put_rows_in_order.ensures.sorted
    ∙ ap (λ (us : List ShardState). rows_of c.args.table (union us)) c.self.view_is
