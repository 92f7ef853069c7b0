-- A batch of a log, and what its application makes of the tables.
use Rattle.std.specs.Prelude.{◌≡◌, ℕ, ◌+◌, ◌<◌, ◌≤◌, List, All, Err, Ok, Result, length, slice_range, take}
use Rattle.std.specs.List.{flat_map}
use Rattle.rubis_shadow.specs.Tables.{AllInLimits}
use Rattle.rubis_shadow.specs.declared.keyed_change.Effect.{Effect}
use Rattle.rubis_schema.specs.declared.limits.TheConstants.{KEEP_MAX}
use Rattle.rubis_message.specs.Message.{IsMessage, Message, sites_of}
use Rattle.rubis_model.specs.Log.{cores, fold_of, parts_of}
use Rattle.rubis_shard.specs.Holdings.{HoldsLog, IsSet}
use Rattle.rubis_shard.specs.States.{ShardState}
use Rattle.rubis_pieces.specs.Following.{AreFollowed, HoldsTo, StopWithin}
use Rattle.rubis_pieces.specs.declared.gathers.CountedShards.{CountedShards}

-- the parts of the messages after the first `from` of a log, up to message `upto`
abbrev pub parts_between : List Message → ℕ → ℕ → List Effect
parts_between log from upto = flat_map parts_of (cores (slice_range log from upto))

-- the tables of the first messages of a log are within the limits of that many sites
abbrev pub AreWithin : ℕ → List Message → ℕ → Type 0
AreWithin sites log at = AllInLimits sites (fold_of (cores (take at log))).tables

-- where the tables were within the limits, they still are
abbrev pub StaysWithin : List Message → ℕ → ℕ → Type 0
StaysWithin log old new = (sites : ℕ) → All (λ m. sites_of m ≡ sites) log → AreWithin sites log old → AreWithin sites log new

-- tables that hold the log up to message `from` come to hold it up to message `upto`, whose batch is within the limits
pub record AppliesWhole (log : List Message) (from upto : ℕ) (old new : List ShardState) : Type 0 where
  pub many : length new ≡ length old
  pub holds : HoldsLog (length old) (cores (take from log)) old → HoldsLog (length old) (cores (take upto log)) new
  pub limits : StaysWithin log from upto

-- The same as far as memory went: each shard comes to stand at its stop
pub record AppliesTo (log : List Message) (from upto : ℕ) (old new : List ShardState) (stops : List ℕ) : Type 0 where
  pub many : length new ≡ length old
  pub counts : length stops ≡ length old
  pub within : StopWithin from upto stops
  pub holds : HoldsLog (length old) (cores (take from log)) old → HoldsTo (length old) (cores log) stops new

-- the messages are some of the log, and well formed
pub record IsPending (log : List Message) (from upto : ℕ) : Type 0 where
  pub few : length log ≤ KEEP_MAX
  pub within : upto ≤ length log
  pub pending : from < upto
  pub conditions : All IsMessage (slice_range log from upto)

-- they are folded on the shards of a set as far as memory went; or these are as they were
abbrev pub AreFolded : List Message → ℕ → ℕ → List ShardState → Result CountedShards (List ShardState) → Type 0
AreFolded log from upto ss (Ok c) = AreFollowed (from + 1) (cores (slice_range log from upto)) ss c.shards c.dones
AreFolded log from upto ss (Err back) = back ≡ ss

pub record WereFolded (log : List Message) (from upto : ℕ) (ss : List ShardState) (result : Result CountedShards (List ShardState)) : Type 0 where
  pub set : IsSet ss
  pub folded : AreFolded log from upto ss result
