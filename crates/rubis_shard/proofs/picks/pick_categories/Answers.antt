use Rattle.rubis_shard.proofs.Common.{◌++◌, List, sym, ap, subst, ◌∙◌, IsPermutation, RowKey, Row}
use Rattle.rubis_shard.specs.Listed.{categories_of}
use Rattle.rubis_shard.specs.Rows.{tables_in}
use Rattle.rubis_shard.proofs.Categories.{categories_shown}
use Rattle.rubis_shard.proofs.Picked.{categories_behind}
use Rattle.rubis_shard.proofs.Linking.{if_done}
use Rattle.rubis_shard.proofs.picks.pick_categories.Goals as goal

pub returns : goal.returns
returns c =
    let r = c.args.rows.now in
    let before : List (RowKey × Row) = c.args.picked.now.items in
    if_done _ _ (λ is.
    subst (IsPermutation (before ++ categories_of (tables_in r))) (sym (is ∙ ap (λ (xs : List (RowKey × Row)). before ++ xs) (categories_shown r)))
    (categories_behind r before c.lens-lens.ensures)) _ c.pick_shown.ensures
