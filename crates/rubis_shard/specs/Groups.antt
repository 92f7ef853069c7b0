-- Rows that belong together.
use Rattle.std.specs.Prelude.{Bool, false, List, Option, None, Some, filter}
use Rattle.std.specs.FinMap as map
use Rattle.std.specs.Map.{keys_of}
use Rattle.rubis_schema.specs.Tables.{Tables}
use Rattle.rubis_schema.specs.declared.listings.Listing.{Listing}
use Rattle.rubis_schema.specs.declared.listings.Listing.TheVariants as listing
use Rattle.rubis_schema.specs.declared.row_keys.RowKey.{RowKey}
use Rattle.rubis_schema.specs.declared.row_keys.Table.{Table}
use Rattle.rubis_schema.specs.declared.row_keys.Table.TheVariants as table
use Rattle.rubis_schema.specs.declared.rows.Row.{Row}
use Rattle.rubis_shadow.specs.Tables.{rows_of}
use Rattle.rubis_model.specs.Listings.{is_of}
use Rattle.rubis_shard.specs.declared.groups.Group.{Group}
use Rattle.rubis_shard.specs.declared.groups.Group.TheVariants as group

-- the listing that shows the rows of the group
abbrev pub listing_of : Group → Listing
listing_of (group.Items cat) = listing.Items cat
listing_of (group.Bids item) = listing.Bids item
listing_of (group.Purchases item) = listing.Purchases item
listing_of (group.Comments user) = listing.Comments user

-- the table whose rows these are
abbrev pub table_of_rows : Group → Table
table_of_rows (group.Items cat) = table.Items
table_of_rows (group.Bids item) = table.Bids
table_of_rows (group.Purchases item) = table.Purchases
table_of_rows (group.Comments user) = table.Comments

-- the row at a key, if there is one, belongs to the group
abbrev pub is_of_row : Group → RowKey → Option Row → Bool
is_of_row g k None = false
is_of_row g k (Some row) = is_of (listing_of g) k row

-- the keys of a group: those of its table whose rows are of it, in key order
abbrev pub group_of : Group → Tables → List RowKey
group_of g t = filter (λ k. is_of_row g k (map.get t k)) (keys_of (rows_of (table_of_rows g) t))
