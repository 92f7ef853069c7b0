use Rattle.std.proofs.Common.{◌+◌, ◌≤◌, drop}
use Rattle.rubis_shard.proofs.Counting.{recorded_by_shard}
use Rattle.rubis_shard.proofs.tables.Tables.most_recorded.Given as goal

abbrev pub invariant-loop-shard : goal.invariant-loop-shard
invariant-loop-shard l = recorded_by_shard 0 l.shard-items ≤ l.most + recorded_by_shard 0 (drop l.shard-index l.shard-items)
