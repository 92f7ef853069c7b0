use Rattle.rubis_shard.proofs.Common.{rules, ◌≡◌, ◌<◌, [], List, length, sym, ap, subst, ◌∙◌, arith, slice_index_or, IsPermutation, take_all, take_at}
use Rattle.rubis_shard.proofs.Common.{IsPermutation-refl, IsPermutation-trans, RowKey, Row}
use Rattle.rubis_shard.specs.States.{ShardState}
use Rattle.rubis_shard.specs.Holdings.{union}
use Rattle.rubis_shard.specs.Listed.{listed_of, table_with}
use Rattle.rubis_shard.proofs.Picked.{listed_by_shard, listed_one_more, shuffled_more, union_picked}
use Rattle.rubis_shard.proofs.tables.Tables.listed.Goals as goal

pub loop-shard-init : goal.loop-shard-init
loop-shard-init c = subst (λ (xs : List (RowKey × Row)). IsPermutation [] xs) (sym c.in_ok-picked.ensures) (IsPermutation-refl [])

pub loop-shard-preserved : goal.loop-shard-preserved
loop-shard-preserved c =
    let l = c.args.listing.now in
    let ts : List ShardState = c.deref-shard-items.result.now in
    let i = c.loop-shard.shard-index in
    let s : ShardState = c.shard-item.result in
    let within : i < length ts = search rules in
    let is : s ≡ slice_index_or ts i s = search rules in
    shuffled_more _ c.loop-shard.picked.items (listed_of l (table_with c.args.table) s.folded.tables) _ _ c.loop-shard.invariant
    (listed_one_more l (table_with c.args.table) ts i s within is c.in_ok-pick.ensures.own) c.in_ok-pick.ensures.rows

pub returns : goal.returns
returns c =
    let ts : List ShardState = c.self.inside.shards.items in
    let l = c.args.listing.now in
    let gs : List (RowKey × Row) = c.put_in_order.new.rows in
    let found : IsPermutation (listed_by_shard l (table_with c.args.table) ts) c.deref_mut.result.now =
    subst (λ xs. IsPermutation xs c.deref_mut.result.now)
    (ap (listed_by_shard l (table_with c.args.table)) (take_all _ _ (omega arith) ∙ c.deref-shard-items.ensures.value))
    (subst (IsPermutation _) (sym c.deref_mut.ensures.value) c.loop-shard.invariant) in
    let moved = IsPermutation-trans _ c.deref_mut.result.now gs found c.put_in_order.ensures.permutation in
    let whole = take_at c.put_in_order.new.rows _ c.loop-shard.picked.len (c.put_in_order.ensures.len ∙ c.deref_mut.ensures.len) in
    whole
    ∙ union_picked l (table_with c.args.table) ts gs c.self.invariant moved c.in_ok-put_in_order.ensures.sorted
    ∙ ap (λ (us : List ShardState). listed_of l (table_with c.args.table) (union us)) c.self.view_is
