use Rattle.rubis_shard.proofs.Common.{List, ap, ◌∙◌, arith, take_all, keys_of, RowKey, Row}
use Rattle.rubis_shard.specs.Holdings.{union}
use Rattle.rubis_shard.specs.Listed.{listed_of}
use Rattle.rubis_shard.proofs.Grouped.{keys_grouped}
use Rattle.rubis_shard.proofs.tables.Tables.group.Goals as goal

pub returns : goal.returns
returns c =
    c.from.ensures ∙ c.loop-row.invariant
    ∙ ap (λ (xs : List (RowKey × Row)). keys_of xs)
    (take_all c.loop-row.row-index c.deref-row-items.result.now (omega (arith, c.loop-row-test.false)) ∙ c.deref-row-items.ensures.value)
    ∙ ap keys_of c.in_ok-rows.ensures
    ∙ (λ i. keys_of (listed_of (c.listing.ensures i) (c.table.ensures i) (union c.args.self.now)))
    ∙ keys_grouped c.args.group.now (union c.args.self.now)
