use Rattle.rubis_shard.proofs.Common.{◌++◌, List, sym, subst, ◌∙◌, IsPermutation, take_at, IsPermutation-trans, RowKey, Row}
use Rattle.rubis_shard.specs.Listed.{listed_of, table_with}
use Rattle.rubis_shard.proofs.Picked.{listed_again}
use Rattle.rubis_shard.proofs.shards.Shard.listed.Goals as goal

pub returns-clause-rows : goal.returns-clause-rows
returns-clause-rows c =
    let l = c.args.listing.now in
    let t = table_with c.args.table in
    let m = c.args.self.now.folded.tables in
    let gs : List (RowKey × Row) = c.put_in_order.new.rows in
    let found : IsPermutation (listed_of l t m) c.deref_mut.result.now =
    subst (IsPermutation (listed_of l t m)) (sym c.deref_mut.ensures.value)
    (subst (λ (xs : List (RowKey × Row)). IsPermutation (xs ++ listed_of l t m) c.pick.new.picked.items) c.in_ok-picked.ensures c.in_ok-pick.ensures.rows) in
    let moved = IsPermutation-trans _ c.deref_mut.result.now gs found c.put_in_order.ensures.permutation in
    let whole = take_at c.put_in_order.new.rows _ c.pick.new.picked.len (c.put_in_order.ensures.len ∙ c.deref_mut.ensures.len) in
    whole ∙ listed_again l t m gs moved c.in_ok-put_in_order.ensures.sorted
