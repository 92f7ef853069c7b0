-- What holds of any list of shards that hold a log: the laws of this crate, which the batches above cite.
use Rattle.std.specs.Prelude.{ℕ, ◌≡◌, ◌+◌, ◌<◌, List, ◌++◌, length}
use Rattle.rubis_model.specs.Log.{Core, fold_of, numbered_from}
use Rattle.rubis_shard.specs.States.{ShardState}
use Rattle.rubis_shard.specs.Holdings.{FoldsAtHome, HoldsLog, IsSet, union}

-- the shards that hold a log have its tables, together
abbrev pub ShardsHaveTheTables : Type 0
ShardsHaveTheTables = (shards : ℕ) (log : List Core) (ts : List ShardState) → 0 < shards → HoldsLog shards log ts
    → union ts ≡ (fold_of log).tables

-- and they are all the shards of one set
abbrev pub ShardsAreASet : Type 0
ShardsAreASet = (shards : ℕ) (log : List Core) (ts : List ShardState) → 0 < shards → HoldsLog shards log ts → IsSet ts

-- with the parts of a batch folded on, each at its home, they hold the log with the batch
abbrev pub BatchesFoldAtHome : Type 0
BatchesFoldAtHome = (shards : ℕ) (log batch : List Core) (old new : List ShardState) → HoldsLog shards log old
    → FoldsAtHome old (numbered_from (1 + length log) batch) new → HoldsLog shards (log ++ batch) new
