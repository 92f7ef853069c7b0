-- How far tables are in a log, which they follow batch by batch.
use Rattle.std.specs.Prelude.{◌≡◌, ℕ, ◌-◌, ◌<◌, ◌≤◌, ◌⊎◌, Bool, true, false, List, nat_lt, length, ⊤, OnOk, OnErr, Result, slice_range, take}
use Rattle.rubis_message.specs.Message.{Message}
use Rattle.rubis_workers.specs.Logs.{parts_between}
use Rattle.rubis_replica.specs.declared.progress.Progress.{Progress}
use Rattle.rubis_replica.specs.declared.progress.Stage.{Stage}
use Rattle.rubis_replica.specs.declared.progress.Stage.TheVariants.{Level, Keeping, Begun}
use Rattle.std.specs.declared.alloc.AllocError.{AllocError}
use Rattle.rubis_schema.specs.declared.limits.TheConstants.{KEEP_MAX}
use Rattle.rubis_model.specs.Log.{cores}
use Rattle.rubis_workers.specs.Shard.{HoldsLog, ShardState}
use Rattle.rubis_workers.specs.Pieces.{HoldsTo, StopWithin, parts_behind}

-- n messages are applied, and what is pending up to message `upto` is kept as the next batch
abbrev pub keeping : ℕ → ℕ → Progress
keeping n upto = record { applied = n; stage = Keeping upto; ran_short = false }

-- n messages are applied, and no batch has begun or is kept
abbrev pub resting_at : ℕ → Progress
resting_at n = record { applied = n; stage = Level; ran_short = false }

-- the same, but that memory ran out when what is pending was to be applied
abbrev pub short : Progress → Progress
short p = record p { ran_short = true }

-- the message that ends the batch that is kept or has begun, or else what is applied
abbrev pub end_of : Progress → ℕ
end_of p = elim p.stage [ Level ↦ p.applied | Keeping upto ↦ upto | Begun upto left ↦ upto ]

-- how many parts of the begun batch aren't done; 0 if none has begun
abbrev pub left_of : Progress → ℕ
left_of p = elim p.stage [ Level ↦ 0 | Keeping upto ↦ 0 | Begun upto left ↦ left ]

-- a batch has begun and isn't whole
abbrev pub is_behind : Progress → Bool
is_behind p = nat_lt 0 (left_of p)

-- a kept batch has messages; of one that has begun some but not all parts are done
abbrev pub IsStage : List Message → ℕ → Stage → Type 0
IsStage log applied Level = ⊤
IsStage log applied (Keeping upto) = applied < upto
IsStage log applied (Begun upto left) = (0 < left) × (left < length (parts_between log applied upto))

-- and it is one of the log
pub record IsProgress (log : List Message) (p : Progress) : Type 0 where
  pub on : p.applied ≤ end_of p
  pub inside : end_of p ≤ length log
  pub stage : IsStage log p.applied p.stage

-- the batch from message `from` on, up to message `upto`, has begun, and some but not all of its parts are done
pub record BatchBegins (log : List Message) (from upto : ℕ) (new : Progress) : Type 0 where
  pub batch : new ≡ record { applied = from; stage = Begun upto (left_of new); ran_short = true }
  pub some_left : 0 < left_of new
  pub some_done : left_of new < length (parts_between log from upto)

-- a batch of an application has begun: the kept one, or, with that applied, the rest of what is pending
abbrev pub HasBegun : List Message → Progress → Progress → Type 0
HasBegun log old new = BatchBegins log old.applied (end_of old) new ⊎ BatchBegins log (end_of old) (length log) new

-- memory ran out with no part of the next batch done: nothing else changed, or exactly the kept batch was applied
abbrev pub IsBetweenBatches : Progress → Progress → Type 0
IsBetweenBatches old new = (new ≡ short old) ⊎ (new ≡ short (resting_at (end_of old)))

-- an attempt to apply all that is pending: it is applied; or memory ran out, and one of its batches has begun, or no part of the next is
-- done
abbrev pub IsTried : List Message → Progress → Progress → Type 0
IsTried log old new = (new ≡ resting_at (length log)) ⊎ HasBegun log old new ⊎ IsBetweenBatches old new

-- what was pending before the log grew was tried; where all of it is applied, what came since may be kept as the next batch
abbrev pub IsAhead : List Message → List Message → Progress → Progress → Type 0
IsAhead before after old new = IsTried before old new ⊎ (new ≡ keeping (length before) (length after))

-- if at least `batch` messages are pending, all are applied, unless memory ran out; if fewer are, all of them wait
pub record IsBatched (batch : ℕ) (log : List Message) (old new : Progress) : Type 0 where
  pub waits : length log - old.applied < batch → new ≡ old
  pub tried : batch ≤ length log - old.applied → IsTried log old new

-- the begun batch goes on, until memory ran out again: some of its parts are left, and no more than before
pub record BatchGoesOn (old new : Progress) : Type 0 where
  pub batch : new ≡ record { applied = old.applied; stage = Begun (end_of old) (left_of new); ran_short = true }
  pub some_left : 0 < left_of new
  pub fewer : left_of new ≤ left_of old

-- ---- tables that follow a log

-- the shards of the tables, how far they are in their log, and, where a batch has begun, how many of its messages stand in each
pub record Follower : Type 0 where
  pub progress : Progress
  pub stops : List ℕ
  pub tables : List ShardState

-- a batch has begun: each shard stands at its stop within it, and the parts that are left are those behind the stops
pub record HasStops (log : List Message) (f : Follower) : Type 0 where
  pub within : StopWithin f.progress.applied (end_of f.progress) f.stops
  pub holds : HoldsTo (length f.tables) (cores log) f.stops f.tables
  pub left : left_of f.progress ≡ parts_behind (length f.tables) f.stops f.progress.applied (cores (slice_range log f.progress.applied (end_of f.progress)))

-- the tables are those of the log as far as they are in it, misfits too
pub record FollowsLog (log : List Message) (f : Follower) : Type 0 where
  pub progress : IsProgress log f.progress
  pub some : 0 < length f.tables
  pub rests : left_of f.progress ≡ 0 → HoldsLog (length f.tables) (cores (take f.progress.applied log)) f.tables
  pub begun : 0 < left_of f.progress → HasStops log f

-- what is pending up to message `upto` can be applied
pub record CanFollow (log : List Message) (upto : ℕ) (f : Follower) : Type 0 where
  pub rests : left_of f.progress ≡ 0
  pub follows : FollowsLog log f
  pub on : f.progress.applied ≤ upto
  pub within : upto ≤ length log
  pub few : length log ≤ KEEP_MAX

-- each shard holds the log as far as its stop, which is within what was pending
abbrev pub StandWithin : List Message → ℕ → Follower → Type 0
StandWithin log upto f = StopWithin f.progress.applied upto f.stops × HoldsTo (length f.tables) (cores log) f.stops f.tables

-- that was applied, whole or as far as memory went, and isn't noted yet
pub record IsTriedTo (log : List Message) (upto : ℕ) (f : Follower) (ended : Result (Unit {0}) AllocError) : Type 0 where
  pub can : IsProgress log f.progress × (left_of f.progress ≡ 0)
  pub on : f.progress.applied ≤ upto
  pub within : upto ≤ length log
  pub few : length log ≤ KEEP_MAX
  pub some : 0 < length f.tables
  pub ok : OnOk ended (HoldsLog (length f.tables) (cores (take upto log)) f.tables)
  pub err : OnErr ended (StandWithin log upto f)

-- the batch that ends with message `upto` was tried: it is whole; or memory ran out, and it has begun, or nothing of it is done
pub record ComesTo (log : List Message) (upto : ℕ) (old new : Follower) (result : Result (Unit {0}) AllocError) : Type 0 where
  pub follows : FollowsLog log new
  pub ok : OnOk result (new.progress ≡ resting_at upto)
  pub err : OnErr result ((new.progress ≡ short old.progress) ⊎ BatchBegins log old.progress.applied upto new.progress)

-- the batch that has begun was gone on with: it is whole, or no more is left of it than before
pub record GoesOnTo (log : List Message) (old new : Follower) (result : Result (Unit {0}) AllocError) : Type 0 where
  pub follows : FollowsLog log new
  pub ok : OnOk result (new.progress ≡ resting_at (end_of old.progress))
  pub err : OnErr result (BatchGoesOn old.progress new.progress)
