-- A log, done part by part: its tables and its misfits.
use Rattle.std.specs.Prelude.{ℕ, ◌+◌, List, [], ◌∷◌, ◌++◌, nat_eq, map, fold, filter, Option, Some, None}
use Rattle.rubis_schema.specs.Keys.{home}
use Rattle.rubis_schema.specs.Tables.{Tables}
use Rattle.rubis_schema.specs.declared.ids.Id.{Id}
use Rattle.rubis_shadow.specs.Tables.{opening}
use Rattle.rubis_shadow.specs.Changes.{after_part, misfit_of}
use Rattle.rubis_shadow.specs.Shadows.{parts}
use Rattle.rubis_shadow.specs.declared.keyed_change.Effect.{Effect}
use Rattle.rubis_shadow.specs.declared.changes.MisfitKind.{MisfitKind}
use Rattle.rubis_shadow.specs.declared.numbered.Numbered.{Numbered}
use Rattle.rubis_shadow.specs.declared.numbered.Misfit.{Misfit}
use Rattle.rubis_shadow.specs.declared.shadows.Shadow.{Shadow}
use Rattle.rubis_message.specs.Message.{Message}

-- what the tables know of a message: its id, its red number and its shadow
pub record Core : Type 0 where
  pub id : Id
  pub red : ℕ
  pub shadow : Shadow

-- what the tables know of a message: id, red number and shadow
abbrev pub core : Message → Core
core m = record { id = m.stamp.id; red = m.stamp.red; shadow = m.shadow }

-- what the tables know of a log
abbrev pub cores : List Message → List Core
cores log = map core log

-- the parts of a message
abbrev pub parts_of : Core → List Effect
parts_of m = parts m.id m.red m.shadow

-- the parts of one message, the first of which has this number
abbrev pub number_parts : ℕ → ℕ → Id → List Effect → List Numbered
number_parts entry part id [] = []
number_parts entry part id (e ∷ es) = record { entry = entry; part = part; id = id; effect = e } ∷ number_parts entry (part + 1) id es

-- the parts of a batch in order, its first message being that entry of the log
abbrev pub numbered_from : ℕ → List Core → List Numbered
numbered_from first [] = []
numbered_from first (m ∷ ms) = number_parts first 1 m.id (parts_of m) ++ numbered_from (first + 1) ms

-- tables, and the misfits so far
pub record Folded : Type 0 where
  pub tables : Tables
  pub misfits : List Misfit

-- the misfit of a part, if there is one
abbrev pub noted : Numbered → Option MisfitKind → List Misfit
noted n None = []
noted n (Some kind) = record { entry = n.entry; part = n.part; id = n.id; kind = kind } ∷ []

-- one part more
abbrev pub step : Folded → Numbered → Folded
step f n = record { tables = after_part f.tables n.effect; misfits = f.misfits ++ noted n (misfit_of f.tables n.effect) }

-- some parts more, in order, folded on tables with the misfits so far
abbrev pub fold_on : Folded → List Numbered → Folded
fold_on f ns = fold step f ns

-- the opening tables, without misfits
abbrev pub before_any : Folded
before_any = record { tables = opening; misfits = [] }

-- the tables and misfits of a log: all parts of all messages, in order, one after the other on the opening tables
abbrev pub fold_of : List Core → Folded
fold_of log = fold_on before_any (numbered_from 1 log)

-- the share of shard k in a batch: the parts whose key has its home there
abbrev pub share : ℕ → ℕ → List Core → ℕ → List Numbered
share shards first batch k = filter (λ n. nat_eq (home shards n.effect.key) k) (numbered_from first batch)
