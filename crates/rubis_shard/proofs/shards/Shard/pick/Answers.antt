use Rattle.rubis_shard.proofs.Common.{◌≡◌, ◌++◌, [], List, sym, ap, subst, ◌∙◌, Option, IsPermutation, append-nil, IsPermutation-refl, RowKey, Row}
use Rattle.rubis_shard.specs.Listed.{listed_of, table_with}
use Rattle.rubis_shard.specs.States.{ShardState, held_in}
use Rattle.rubis_shard.specs.declared.shard_store.Store.{Store}
use Rattle.rubis_shard.proofs.Openings.{none_listed}
use Rattle.rubis_shard.proofs.shards.Shard.pick.Goals as goal

pub returns-in-None-clause-rows : goal.returns-in-None-clause-rows
returns-in-None-clause-rows c =
    let l = c.args.listing.now in
    let t = table_with c.args.table in
    let before : List (RowKey × Row) = c.args.picked.now.items in
    let none : listed_of l t c.args.self.now.folded.tables ≡ [] =
    sym (sym (none_listed l t)
    ∙ ap (λ (o : Option Store). listed_of l t (held_in o).tables) (sym c.in-None.is)
    ∙ ap (λ (s : ShardState). listed_of l t s.folded.tables) c.self.view_is) in
    subst (λ (xs : List (RowKey × Row)). IsPermutation xs before) (sym (ap (λ (xs : List (RowKey × Row)). before ++ xs) none ∙ append-nil before))
    (IsPermutation-refl before)
