-- What the shards of a set hold together and of a log, and one message folded on them, each part at its home.
use Rattle.std.specs.Prelude.{ℕ, ◌≡◌, ◌+◌, ◌<◌, List, [], ◌∷◌, ◌++◌, Option, Some, None, length, filter, flat_map, nat_eq, slice_get, ◌≤◌}
use Rattle.std.specs.FinMap as map
use Rattle.rubis_schema.specs.Keys.{home}
use Rattle.rubis_schema.specs.Tables.{Tables}
use Rattle.rubis_shadow.specs.declared.keyed_change.Effect.{Effect}
use Rattle.rubis_shadow.specs.declared.numbered.Misfit.{Misfit}
use Rattle.rubis_shadow.specs.declared.numbered.Numbered.{Numbered}
use Rattle.rubis_model.specs.Log.{Core, share, number_parts, parts_of}
use Rattle.rubis_model.specs.Shares.{part_of}
use Rattle.rubis_shard.specs.States.{ShardState, opening_shard, with_parts, nothing_held}
use Rattle.rubis_shard.specs.declared.entries.LogEntry.{LogEntry}
use Rattle.std.specs.List.{AllZip}
use Rattle.rubis_shard.specs.declared.part_homes.PartHomes.{PartHomes}

-- shard k of a log: its share of the log, folded on the opening rows
abbrev pub shard_of_log : ℕ → List Core → ℕ → ShardState
shard_of_log shards log k = with_parts (opening_shard shards k) (share shards 1 log k)

-- the shards, in order of number, hold the log: each its share of it
pub record HoldsLog (shards : ℕ) (log : List Core) (ts : List ShardState) : Type 0 where
  pub many : length ts ≡ shards
  pub each : (k : ℕ) → k < shards → slice_get ts k ≡ Some (shard_of_log shards log k)

-- each stands at the place of its number, and was made for as many shards as there are
abbrev pub AreInOrder : List ShardState → Type 0
AreInOrder ts = (k : ℕ) (s : ShardState) → slice_get ts k ≡ Some s → (s.number ≡ k) × (s.shards ≡ length ts)

-- all the shards of one set, in order of number
pub record IsSet (ts : List ShardState) : Type 0 where
  pub some : 0 < length ts
  pub order : AreInOrder ts

-- the rows of all shards as one map, each row from its home: of shards that hold a log, the log's tables
abbrev pub union : List ShardState → Tables
union ts = map.from_entries (flat_map (λ s. map.entries (part_of s.shards s.number s.folded.tables)) ts)

-- the misfits of all shards, one shard after the other
abbrev pub all_misfits : List ShardState → List Misfit
all_misfits ts = flat_map (λ (s : ShardState). s.folded.misfits) ts

-- the parts whose key has its home at shard k
abbrev pub parts_at : ℕ → ℕ → List Numbered → List Numbered
parts_at shards k ns = filter (λ n. nat_eq (home shards n.effect.key) k) ns

-- each shard with those of the parts folded on whose home it is
pub record FoldsAtHome (old : List ShardState) (ns : List Numbered) (new : List ShardState) : Type 0 where
  pub many : length new ≡ length old
  pub each : (k : ℕ) (s : ShardState) → slice_get old k ≡ Some s
      → slice_get new k ≡ Some (with_parts s (parts_at (length old) k ns))

-- shard k with these parts folded on, and the others as they were
pub record FoldsOn (k : ℕ) (ns : List Numbered) (old new : List ShardState) : Type 0 where
  pub many : length new ≡ length old
  pub here : (s : ShardState) → slice_get old k ≡ Some s → slice_get new k ≡ Some (with_parts s ns)
  pub others : (j : ℕ) → ¬ (j ≡ k) → slice_get new j ≡ slice_get old j

-- shards that hold a log come to hold it with the message after it, which is that entry
abbrev pub TakesOn : Core → ℕ → List ShardState → List ShardState → Type 0
TakesOn m entry old new = (shards : ℕ) (log : List Core) → entry ≡ length log + 1 → HoldsLog shards log old
    → HoldsLog shards (log ++ m ∷ []) new

-- the home of a part, or the number of shards where there is none
abbrev pub home_or : ℕ → Option Effect → ℕ
home_or shards None = shards
home_or shards (Some e) = home shards e.key

-- ---- a message as an entry of a log

-- what the tables know of its message
abbrev pub core_of : LogEntry → Core
core_of entry = record { id = entry.id; red = entry.red; shadow = entry.shadow.now }

-- all its parts
abbrev pub numbered_of : LogEntry → List Numbered
numbered_of entry = number_parts entry.number 1 entry.id (parts_of (core_of entry))

-- ---- the homes of the parts of messages, as they are kept beside a batch

-- those of one message: the home of each of its parts, or the number of shards where there is none
pub record AreHomesOf (shards : ℕ) (m : Core) (h : PartHomes) : Type 0 where
  pub first : h.first ≡ home_or shards (slice_get (parts_of m) 0)
  pub second : h.second ≡ home_or shards (slice_get (parts_of m) 1)
  pub third : h.third ≡ home_or shards (slice_get (parts_of m) 2)

-- no part of a message with these homes belongs to that shard
abbrev pub NoneAt : ℕ → PartHomes → Type 0
NoneAt number h = (shards entry : ℕ) (m : Core) → number < shards → AreHomesOf shards m h
    → parts_at shards number (number_parts entry 1 m.id (parts_of m)) ≡ []

-- those of each message of a batch
abbrev pub AreHomes : ℕ → List Core → List PartHomes → Type 0
AreHomes shards batch homes = AllZip (AreHomesOf shards) batch homes

-- ---- one message folded on the shards of a set, each part at its home

-- the shard without its rows and misfits
abbrev pub emptied : ShardState → ShardState
emptied s = record { number = s.number; shards = s.shards; folded = nothing_held }

abbrev pub list_of : {X : Type 0} → Option X → List X
list_of None = []
list_of (Some x) = x ∷ []

-- the entry's part at a place, from 0, if there is one
abbrev pub at_place : LogEntry → ℕ → List Numbered
at_place entry place = number_parts entry.number (place + 1) entry.id (list_of (slice_get (parts_of (core_of entry)) place))

-- each shard from a number on has its parts folded on, and the shards before it are as they were
pub record FoldsFrom (from : ℕ) (old : List ShardState) (ns : List Numbered) (new : List ShardState) : Type 0 where
  pub many : length new ≡ length old
  pub before : (k : ℕ) → k < from → slice_get new k ≡ slice_get old k
  pub behind : (k : ℕ) (s : ShardState) → from ≤ k → slice_get old k ≡ Some s
      → slice_get new k ≡ Some (with_parts s (parts_at (length old) k ns))
