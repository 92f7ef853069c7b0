use Rattle.rubis_shard.proofs.Common.{◌≡◌, ℕ, ◌<◌, length, slice_get, Some}
use Rattle.rubis_shard.specs.States.{ShardState}
use Rattle.rubis_shard.proofs.tables.is_set.Given as goal

abbrev pub invariant-loop-at : goal.invariant-loop-at
invariant-loop-at l = (k : ℕ) (s : ShardState) → slice_get l.shards k ≡ Some s → k < l.at → (s.number ≡ k)
    × (s.shards ≡ length l.shards)
