use Rattle.rubis_shard.proofs.Common.{◌≡◌, ℕ, ◌<◌, length, slice_get, Some}
use Rattle.rubis_shard.specs.States.{opening_shard}
use Rattle.rubis_shard.proofs.tables.Tables.hashed.Given as goal

abbrev pub invariant-loop-number : goal.invariant-loop-number
invariant-loop-number l = record {
  many : length l.list.items ≡ l.number;
  each : (k : ℕ) → k < l.number → slice_get l.list.items k ≡ Some (opening_shard l.shards k);
}
