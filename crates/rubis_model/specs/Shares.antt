-- What one shard holds of the tables, what it makes of its share of a batch, and the order of misfits.
use Rattle.std.specs.Prelude.{ℕ, ◌≡◌, ◌<◌, nat_eq, List, [], ◌∷◌, ◌⊎◌, ⊤}
use Rattle.std.specs.FinMap as map
use Rattle.rubis_schema.specs.Keys.{home}
use Rattle.rubis_schema.specs.Tables.{Tables}
use Rattle.rubis_shadow.specs.declared.numbered.Misfit.{Misfit}
use Rattle.rubis_model.specs.Log.{Core, Folded, fold_on, numbered_from, share}
use Rattle.rubis_model.specs.Site.{Has}

-- the rows whose key has its home at shard k
abbrev pub part_of : ℕ → ℕ → Tables → Tables
part_of shards k t = map.retain_keys t (λ q. nat_eq (home shards q) k)

-- the tables and misfits of a batch that is folded on these tables, its first message being that entry of the log
abbrev pub batch_folded : ℕ → Tables → List Core → Folded
batch_folded first t batch = fold_on (record { tables = t; misfits = [] }) (numbered_from first batch)

-- the same of shard k alone: its share, on what it holds
abbrev pub share_folded : ℕ → ℕ → Tables → List Core → ℕ → Folded
share_folded shards first t batch k = fold_on (record { tables = part_of shards k t; misfits = [] }) (share shards first batch k)

-- it is of an earlier message, or of an earlier part of the same one
abbrev pub IsBefore : Misfit → Misfit → Type 0
IsBefore x y = (x.entry < y.entry) ⊎ ((x.entry ≡ y.entry) × (x.part < y.part))

-- the misfits stand in the order of their places
abbrev pub InPlace : List Misfit → Type 0
InPlace [] = ⊤
InPlace (x ∷ xs) = ((y : Misfit) → Has y xs → IsBefore x y) × InPlace xs
