use Rattle.rubis_shard.proofs.Common.{◌≡◌, slice_range}
use Rattle.rubis_shard.specs.States.{with_parts}
use Rattle.rubis_shard.proofs.shards.Shard.apply.Given as goal

abbrev pub invariant-loop-at : goal.invariant-loop-at
invariant-loop-at l = l.self ≡ with_parts l.initial.self (slice_range l.share.effects l.from l.at)
