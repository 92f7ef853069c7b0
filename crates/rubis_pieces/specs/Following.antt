-- Shards that follow a log, each as far as memory went.
use Rattle.std.specs.Prelude.{◌≡◌, ℕ, ◌+◌, ◌<◌, ◌≤◌, Bool, cond, List, [], ◌∷◌, Option, None, Some, nat_lt, slice_get, slice_index, filter, length, set, take}
use Rattle.rubis_schema.specs.Keys.{home}
use Rattle.rubis_shadow.specs.declared.keyed_change.Effect.{Effect}
use Rattle.rubis_model.specs.Log.{Core, parts_of, share}
use Rattle.rubis_shard.specs.States.{ShardState, with_parts}
use Rattle.rubis_shard.specs.Holdings.{shard_of_log}

-- the parts of the first `done` messages of a batch are folded on the shard that is their home
pub record IsFollowed (first : ℕ) (batch : List Core) (old : ShardState) (done : ℕ) (new : ShardState) : Type 0 where
  pub within : done ≤ length batch
  pub shard : new ≡ with_parts old (share old.shards first (take done batch) old.number)

-- the same of each shard of a set, with how many messages are done of each
pub record AreFollowed (first : ℕ) (batch : List Core) (old new : List ShardState) (dones : List ℕ) : Type 0 where
  pub many : length new ≡ length old
  pub counts : length dones ≡ length old
  pub each : (k : ℕ) (s : ShardState) → slice_get old k ≡ Some s
      → (t : ShardState) × (slice_get new k ≡ Some t) × IsFollowed first batch s (slice_index dones k) t

-- each shard holds the log as far as its stop
pub record HoldsTo (shards : ℕ) (log : List Core) (stops : List ℕ) (ts : List ShardState) : Type 0 where
  pub many : length ts ≡ shards
  pub counts : length stops ≡ shards
  pub each : (k : ℕ) → k < shards → slice_get ts k ≡ Some (shard_of_log shards (take (slice_index stops k) log) k)

-- a part of the message at that place of the log, from 0, isn't done: its home's stop is no further
abbrev pub waits : ℕ → List ℕ → ℕ → Effect → Bool
waits shards stops place e = nat_lt (slice_index stops (home shards e.key)) (place + 1)

-- the same as a count, where there is a part
abbrev pub waits_or : ℕ → List ℕ → ℕ → Option Effect → ℕ
waits_or shards stops place None = 0
waits_or shards stops place (Some e) = cond (waits shards stops place e) 1 0

-- how many parts of these messages aren't done, the first of which stands at that place of the log
abbrev pub parts_behind : ℕ → List ℕ → ℕ → List Core → ℕ
parts_behind shards stops place [] = 0
parts_behind shards stops place (m ∷ ms) =
    length (filter (waits shards stops place) (parts_of m)) + parts_behind shards stops (place + 1) ms

-- each stop is one of a batch, which begins after message `from` and ends with message `upto`
abbrev pub StopWithin : ℕ → ℕ → List ℕ → Type 0
StopWithin from upto stops = (k : ℕ) → k < length stops → (from ≤ slice_index stops k) × (slice_index stops k ≤ upto)

-- shards that stand at stops of a log, shard n at `from`, come to stand so with shard n at `to`
abbrev pub GoesTo : ℕ → ℕ → ℕ → List Core → List ShardState → List ShardState → Type 0
GoesTo n from to log old new = (shards : ℕ) (stops : List ℕ) → slice_index stops n ≡ from → HoldsTo shards log stops old
    → HoldsTo shards log (set stops n to) new

-- each stop is where it was, or further on
abbrev pub AreFurther : List ℕ → List ℕ → Type 0
AreFurther old new = (k : ℕ) → slice_index old k ≤ slice_index new k
