use Rattle.rubis_shard.proofs.Common.{◌≡◌, ◌-◌, categories_from, part_of}
use Rattle.std.specs.FinMap as map
use Rattle.rubis_shard.specs.Rows.{tables_in}
use Rattle.rubis_shard.proofs.shards.opening_rows.Given as goal

abbrev pub invariant-loop-cat : goal.invariant-loop-cat
invariant-loop-cat l = tables_in l.rows ≡ part_of l.shards l.number (map.from_entries (categories_from l.cat (1000 -
    l.cat)))
