use Rattle.std.proofs.Common.{◌≡◌, take, map as each}
use Rattle.rubis_shard.specs.Chains.{lent_row}
use Rattle.rubis_shard.proofs.Listing.{rows_by_shard}
use Rattle.rubis_shard.proofs.tables.Tables.rows.Given as goal

abbrev pub invariant-loop-shard : goal.invariant-loop-shard
invariant-loop-shard l = each lent_row l.all.items ≡ rows_by_shard l.table (take l.shard-index l.shard-items)
