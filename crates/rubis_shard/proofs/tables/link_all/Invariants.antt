use Rattle.std.proofs.Common.{◌≡◌}
use Rattle.rubis_shard.proofs.tables.link_all.Given as goal

abbrev pub invariant-loop-at : goal.invariant-loop-at
invariant-loop-at l = l.shards ≡ l.initial.shards
