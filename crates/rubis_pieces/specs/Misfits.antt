-- The misfits of all shards, in order of their places.
use Rattle.std.specs.Prelude.{ℕ, ◌≡◌, ◌+◌, ◌*◌, ◌<◌, List}
use Rattle.rubis_shadow.specs.declared.numbered.Misfit.{Misfit}
use Rattle.rubis_model.specs.Log.{Core, fold_of}
use Rattle.rubis_shard.specs.States.{ShardState}
use Rattle.rubis_shard.specs.Holdings.{HoldsLog}

-- a number that orders misfits by entry, then by part
abbrev pub misfit_order : Misfit → ℕ
misfit_order m = m.entry * 256 + m.part

-- where the shards hold a log, these are its misfits
abbrev pub AreOfTheLog : List ShardState → List Misfit → Type 0
AreOfTheLog ts ms = (shards : ℕ) (log : List Core) → 0 < shards → HoldsLog shards log ts → ms ≡ (fold_of log).misfits
