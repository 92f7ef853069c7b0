use Rattle.std.proofs.Common.{◌≡◌, ◌++◌, drop}
use Rattle.rubis_shard.specs.Listed.{listed_among, table_with}
use Rattle.rubis_shard.specs.Rows.{kept_of}
use Rattle.rubis_shard.proofs.picks.pick_from.Given as goal

-- those that were added, and those of the rows to come, are all
abbrev pub invariant-loop-at : goal.invariant-loop-at
invariant-loop-at l =
    l.picked.items ++ listed_among l.listing (table_with l.table) (drop l.at (kept_of l.rows))
    ≡ l.fn.picked.items ++ listed_among l.listing (table_with l.table) (drop l.fn.from (kept_of l.rows))
