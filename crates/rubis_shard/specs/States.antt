-- What a shard holds, what parts make of it, and for how much more it has room.
use Rattle.std.specs.Prelude.{ℕ, ◌≡◌, List, [], ◌≤◌, Option, Some, None, refl}
use Rattle.rubis_schema.specs.Keys.{home}
use Rattle.rubis_shadow.specs.Tables.{opening}
use Rattle.rubis_shadow.specs.declared.numbered.Numbered.{Numbered}
use Rattle.rubis_model.specs.Log.{Folded, fold_on}
use Rattle.rubis_model.specs.Shares.{part_of}
use Rattle.std.specs.FinMap as map
use Rattle.rubis_shard.specs.Rows.{tables_in}
use Rattle.rubis_shard.specs.declared.shard_store.Store.{Store}
use Rattle.std.specs.Coded.{Coded, code_by, coded×, coded_ℕ, coded_list}
use Rattle.rubis_schema.specs.Tables.{Tables}
use Rattle.rubis_schema.specs.contracts.row_keys.RowKey as key
use Rattle.rubis_schema.specs.contracts.rows.Row as row
use Rattle.rubis_shadow.specs.declared.numbered.Misfit.{Misfit}
use Rattle.rubis_shadow.specs.contracts.numbered.Misfit as misfit

-- a shard: its number, how many shards its set has, and the rows and misfits that it holds
pub record ShardState : Type 0 where
  pub number : ℕ
  pub shards : ℕ
  pub folded : Folded

-- a shard before any message: the opening rows whose home it is
abbrev pub opening_shard : ℕ → ℕ → ShardState
opening_shard shards k = record {
  number = k;
  shards = shards;
  folded = record {
    tables = part_of shards k opening;
    misfits =
        [];
  };
}

-- the shard with these parts folded on
abbrev pub with_parts : ShardState → List Numbered → ShardState
with_parts s ns = record { number = s.number; shards = s.shards; folded = fold_on s.folded ns }

-- the shard is the home of the part's key
abbrev pub IsHomeOf : ShardState → Numbered → Type 0
IsHomeOf s n = home s.shards n.effect.key ≡ s.number

-- each row has its home at the shard
abbrev pub HoldsOwnRows : ShardState → Type 0
HoldsOwnRows s = part_of s.shards s.number s.folded.tables ≡ s.folded.tables

-- ---- what a shard's store holds, and for how much more it has room

-- its rows as tables, and its misfits
abbrev pub held_by : Store → Folded
held_by s = record { tables = tables_in s.rows; misfits = s.misfits.items }

-- no rows and no misfits
abbrev pub nothing_held : Folded
nothing_held = record { tables = map.from_entries []; misfits = [] }

-- what a store holds, and nothing where it is out
abbrev pub held_in : Option Store → Folded
held_in None = nothing_held
held_in (Some s) = held_by s

-- there is room for `parts` more parts, whatever they do
abbrev pub HasRoom : Store → ℕ → Type 0
HasRoom s parts = parts ≤ s.spare

-- ---- the state of a shard as plain data, by which proofs tell states apart

abbrev pub shard_state_code : Coded ShardState
shard_state_code =
    code_by (ℕ × (ℕ × (Tables × List Misfit)))
    (coded× coded_ℕ (coded× coded_ℕ (coded× (map.code key.the_row.coded row.the_row.coded) (coded_list misfit.the_row.coded))))
    (λ s. (s.number, (s.shards, (s.folded.tables, s.folded.misfits))))
    (λ p. record { number = p.0; shards = p.1.0; folded = record { tables = p.1.1.0; misfits = p.1.1.1 } })
    (λ _. refl)
