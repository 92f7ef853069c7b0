use Rattle.rubis_shard.proofs.Common.{◌≡◌, ◌++◌, [], List, sym, ap, subst, ◌∙◌, Option, IsPermutation, append-nil, IsPermutation-refl, RowKey, Row}
use Rattle.rubis_shard.specs.Listed.{categories_of}
use Rattle.rubis_shard.specs.States.{ShardState, held_in}
use Rattle.rubis_shard.specs.declared.shard_store.Store.{Store}
use Rattle.rubis_shard.proofs.Categories.{no_categories}
use Rattle.rubis_shard.proofs.shards.Shard.pick_categories.Goals as goal

pub returns-in-None-clause-rows : goal.returns-in-None-clause-rows
returns-in-None-clause-rows c =
    let before : List (RowKey × Row) = c.args.picked.now.items in
    let none : categories_of c.args.self.now.folded.tables ≡ [] =
    sym (sym no_categories
    ∙ ap (λ (o : Option Store). categories_of (held_in o).tables) (sym c.in-None.is)
    ∙ ap (λ (s : ShardState). categories_of s.folded.tables) c.self.view_is) in
    subst (λ (xs : List (RowKey × Row)). IsPermutation xs before) (sym (ap (λ (xs : List (RowKey × Row)). before ++ xs) none ∙ append-nil before))
    (IsPermutation-refl before)
