use Rattle.std.proofs.Common.{◌≡◌, ◌+◌, drop}
use Rattle.rubis_shard.proofs.Counting.{recorded_by_shard}
use Rattle.rubis_shard.proofs.tables.Tables.count_recorded.Given as goal

abbrev pub invariant-loop-shard : goal.invariant-loop-shard
invariant-loop-shard l = l.count + recorded_by_shard l.first (drop l.shard-index l.shard-items) ≡ l.counted + recorded_by_shard l.first l.shard-items
