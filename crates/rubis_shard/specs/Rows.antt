-- The rows of a shard, in four maps.
use Rattle.std.specs.Prelude.{◌≡◌, ℕ, ◌≤◌, Bool, true, cond, List, ◌++◌, Some, None, Option, length, take}
use Rattle.std.specs.FinMap as map
use Rattle.std.specs.Map.{lookup, set_value}
use Rattle.indexmap.specs.IndexMap.{spare}
use Rattle.rubis_schema.specs.Keys.{row_key}
use Rattle.rubis_schema.specs.Tables.{Tables}
use Rattle.rubis_schema.specs.declared.id_keys.IdTable.{IdTable}
use Rattle.rubis_schema.specs.declared.id_keys.IdTable.TheVariants as table
use Rattle.rubis_schema.specs.declared.row_keys.RowKey.{RowKey}
use Rattle.rubis_schema.specs.declared.row_keys.RowKey.TheVariants as key
use Rattle.rubis_schema.specs.declared.rows.Row.{Row}
use Rattle.rubis_shadow.specs.Changes.{change_row}
use Rattle.rubis_shadow.specs.declared.changes.Change.{Change}
use Rattle.rubis_shadow.specs.declared.changes.Fate.{Fate}
use Rattle.rubis_shadow.specs.declared.changes.MisfitKind.TheVariants.{NoRow}
use Rattle.rubis_shard.specs.Chains.{chain_written}
use Rattle.rubis_shard.specs.declared.row_map.LinkedRows.{LinkedRows}
use Rattle.rubis_shard.specs.declared.row_map.Rows.{Rows}

-- those of a map with ids
abbrev pub kept_of : LinkedRows → List (RowKey × Row)
kept_of r = chain_written row_key r.rows.entries

-- the first of them, which are linked
abbrev pub linked_of : LinkedRows → List (RowKey × Row)
linked_of r = take (length r.chains.before.items) (kept_of r)

-- all, one map after the other
abbrev pub entries_of : Rows → List (RowKey × Row)
entries_of r = kept_of r.users ++ (kept_of r.others ++ (chain_written key.Nick r.nicks.entries ++ chain_written key.Cat r.cats.entries))

-- the map that has the rows of a table
abbrev pub rows_with : IdTable → Rows → LinkedRows
rows_with table.User r = r.users
rows_with t r = r.others

abbrev pub tables_in : Rows → Tables
tables_in r = map.from_entries (entries_of r)

-- there is room for n rows more
pub record HasRoomForRows (r : Rows) (n : ℕ) : Type 0 where
  pub users : n ≤ spare r.users.rows
  pub others : n ≤ spare r.others.rows
  pub nicks : n ≤ spare r.nicks
  pub cats : n ≤ spare r.cats

-- what a change meets where there is no row
abbrev pub no_row : Fate
no_row = record { stays = true; misfit = Some NoRow }

-- a row was changed where it stands, or left where the change doesn't fit; it may have to be removed
pub record IsAltered {K : Type 0} (same : K → K → Bool) (old new : List (K × Row)) (key : K) (change : Change) (was : Row) (fate : Fate) : Type 0 where
  pub row : Row
  pub changed : (change_row change (Some was)).row ≡ cond fate.stays (Some row) None
  pub told : (change_row change (Some was)).misfit ≡ fate.misfit
  pub entries : new ≡ set_value (same key) old row
  pub found : (q : K) → lookup (same q) new ≡ cond (same key q) (Some row) (lookup (same q) old)

-- a row was changed where it stands, left where the change doesn't fit, or removed
pub record IsChanged {K : Type 0} (same : K → K → Bool) (old new : List (K × Row)) (key : K) (change : Change) (was : Row) (fate : Fate) : Type 0 where
  pub row : Option Row
  pub changed : (change_row change (Some was)).row ≡ row
  pub told : (change_row change (Some was)).misfit ≡ fate.misfit
  pub found : (q : K) → lookup (same q) new ≡ cond (same key q) row (lookup (same q) old)
