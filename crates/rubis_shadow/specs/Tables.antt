-- The tables before any message, rows that are in boxes, and the limits on rows.
use Rattle.std.specs.Prelude.{ℕ, ◌+◌, pos, List, [], ◌∷◌, filter, ◌≡◌, Option, Some, None, IfSome, ◌<◌, ⊤}
use Rattle.std.specs.FinMap as map
use Rattle.rubis_schema.specs.Keys.{holds}
use Rattle.rubis_schema.specs.Tables.{Tables}
use Rattle.rubis_schema.specs.declared.limits.TheConstants.{CATEGORIES}
use Rattle.rubis_schema.specs.declared.row_keys.RowKey.{RowKey}
use Rattle.rubis_schema.specs.declared.row_keys.RowKey.TheVariants as key
use Rattle.rubis_schema.specs.declared.row_keys.Table.{Table}
use Rattle.rubis_schema.specs.declared.rows.Row.{Row}
use Rattle.rubis_schema.specs.declared.rows.Row.TheVariants as row
use Rattle.rubis_shadow.specs.declared.changes.Change.{Change}
use Rattle.rubis_shadow.specs.declared.changes.Change.TheVariants.{Insert}
use Rattle.rubis_shadow.specs.declared.keyed_change.Effect.{Effect}
use Rattle.rubis_schema.specs.Ids.{IsId}

-- a category without items
abbrev pub new_category : Row
new_category = row.Cat (record { items = 0; live = pos 0 })

-- n categories from k on, without items
unfoldable pub categories_from : ℕ → ℕ → List (RowKey × Row)
categories_from k ℕ.zero = []
categories_from k (ℕ.suc n) = (key.Cat k, new_category) ∷ categories_from (k + 1) n

-- the tables before any message: all categories, without items
unfoldable pub opening : Tables
opening = map.from_entries (categories_from 0 CATEGORIES)

-- the rows of one table with their keys, in key order
abbrev pub rows_of : Table → Tables → List (RowKey × Row)
rows_of t tables = filter (λ e. holds t e.0) (map.entries tables)

-- ---- the rows that are in boxes, or shared: those of users, items and comments

-- the row that a change inserts, where that is in a box or shared
abbrev pub boxed_row_in : Change → Option Row
boxed_row_in (Insert (row.User u)) = Some (row.User u)
boxed_row_in (Insert (row.Item i)) = Some (row.Item i)
boxed_row_in (Insert (row.Comment c)) = Some (row.Comment c)
boxed_row_in change = None

-- that is the part's row in a box or shared, if there is a part
abbrev pub HasBoxedRow : Option Effect → Option Row → Type 0
HasBoxedRow part boxed = IfSome part (λ e. boxed ≡ boxed_row_in e.change)

-- ---- the limits on the rows of the tables when there are `sites` sites

-- what is known of every row: an item is in a category, and the id of its best bid is within the limits
abbrev pub RowInLimits : ℕ → Row → Type 0
RowInLimits sites (row.Item i) = (i.cat < CATEGORIES) × IfSome i.best (λ b. IsId sites b.bid)
RowInLimits sites r = ⊤

-- every row of the tables is within the limits
abbrev pub AllInLimits : ℕ → Tables → Type 0
AllInLimits sites t = (key : RowKey) → IfSome (map.get t key) (RowInLimits sites)
