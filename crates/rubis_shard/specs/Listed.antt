-- The rows that match a listing, their order, and those that belong together.
use Rattle.std.specs.Prelude.{Bool, true, List, filter, not, ℕ, ◌≡◌, ◌≤◌, ◌<◌, ◌+◌, ◌*◌, ◌^◌, ⊤, false, ◌&&◌, length, nat_le}
use Rattle.std.specs.FinMap as map
use Rattle.rubis_schema.specs.Tables.{shows_nothing, Tables}
use Rattle.rubis_schema.specs.Keys.{holds, table_of}
use Rattle.rubis_schema.specs.declared.listings.Listing.{Listing}
use Rattle.rubis_schema.specs.declared.row_keys.RowKey.{RowKey}
use Rattle.rubis_schema.specs.declared.row_keys.Table.{Table}
use Rattle.rubis_schema.specs.declared.row_keys.Table.TheVariants as table
use Rattle.rubis_schema.specs.declared.rows.Row.{Row}
use Rattle.rubis_schema.specs.declared.rows.Row.TheVariants as row
use Rattle.rubis_model.specs.Listings.{is_of}
use Rattle.rubis_schema.specs.declared.id_keys.IdTable.{IdTable}
use Rattle.rubis_schema.specs.declared.id_keys.IdTable.TheVariants as ids
use Rattle.rubis_schema.specs.declared.row_keys.RowKey.TheVariants as key
use Rattle.rubis_shard.specs.declared.listed_rows.ListedTable.{ListedTable}
use Rattle.rubis_shard.specs.declared.listed_rows.ListedTable.TheVariants as listed
use Rattle.rubis_model.specs.Shares.{part_of}
use Rattle.rubis_shard.specs.States.{ShardState}

-- the rows that match a listing, with their keys
abbrev pub picked_by : Listing → List (RowKey × Row) → List (RowKey × Row)
picked_by l es = filter (λ e. is_of l e.0 e.1) es

-- those of one table
abbrev pub listed_among : Listing → Table → List (RowKey × Row) → List (RowKey × Row)
listed_among l t es = filter (λ e. holds t e.0) (picked_by l es)

-- those of one table, in key order
abbrev pub listed_of : Listing → Table → Tables → List (RowKey × Row)
listed_of l t tables = filter (λ e. holds t e.0) (picked_by l (map.entries tables))

-- listings show a row, but for a category with neither items nor live ones
abbrev pub shows : Row → Bool
shows (row.Cat c) = not (shows_nothing c)
shows r = true

-- the rows that listings show
abbrev pub shown_among : List (RowKey × Row) → List (RowKey × Row)
shown_among es = filter (λ e. shows e.1) es

-- the categories that listings show
abbrev pub categories_among : List (RowKey × Row) → List (RowKey × Row)
categories_among es = filter (λ e. holds table.Cats e.0) (shown_among es)

-- in key order
abbrev pub categories_of : Tables → List (RowKey × Row)
categories_of tables = categories_among (map.entries tables)

-- ---- the keys of the rows that listings show, and their order as numbers

-- a table whose rows have ids, as one of all tables
abbrev pub table_with : IdTable → Table
table_with ids.User = table.Users
table_with ids.Item = table.Items
table_with ids.Bid = table.Bids
table_with ids.Purchase = table.Purchases
table_with ids.Comment = table.Comments

-- a key by its table, and by a site and a number there; a category has a number alone
abbrev pub listed_key : ListedTable → ℕ → ℕ → RowKey
listed_key listed.User s n = key.User (record { site = s; seq = n })
listed_key listed.Item s n = key.Item (record { site = s; seq = n })
listed_key listed.Bid s n = key.Bid (record { site = s; seq = n })
listed_key listed.Purchase s n = key.Purchase (record { site = s; seq = n })
listed_key listed.Comment s n = key.Comment (record { site = s; seq = n })
listed_key listed.Cat s n = key.Cat n

-- the site is 0 where there is none, and a category's number fits a key
abbrev pub FitsKey : ListedTable → ℕ → ℕ → Type 0
FitsKey listed.Cat s n = (s ≡ 0) × (n < 65536)
FitsKey t s n = ⊤

-- the table of an id's row
abbrev pub listed_with : IdTable → ListedTable
listed_with ids.User = listed.User
listed_with ids.Item = listed.Item
listed_with ids.Bid = listed.Bid
listed_with ids.Purchase = listed.Purchase
listed_with ids.Comment = listed.Comment

abbrev pub place_of : ListedTable → ℕ
place_of listed.User = 0
place_of listed.Item = 1
place_of listed.Bid = 2
place_of listed.Purchase = 3
place_of listed.Comment = 4
place_of listed.Cat = 5

-- the place of a key's table, its site and its number there; a category has no site
abbrev pub key_place : RowKey → ℕ
key_place (key.User i) = 0
key_place (key.Item i) = 1
key_place (key.Bid i) = 2
key_place (key.Purchase i) = 3
key_place (key.Comment i) = 4
key_place k = 5

abbrev pub key_site : RowKey → ℕ
key_site (key.User i) = i.site
key_site (key.Item i) = i.site
key_site (key.Bid i) = i.site
key_site (key.Purchase i) = i.site
key_site (key.Comment i) = i.site
key_site k = 0

abbrev pub key_seq : RowKey → ℕ
key_seq (key.User i) = i.seq
key_seq (key.Item i) = i.seq
key_seq (key.Bid i) = i.seq
key_seq (key.Purchase i) = i.seq
key_seq (key.Comment i) = i.seq
key_seq (key.Nick n) = 0
key_seq (key.Cat k) = k

-- a key as one number, by which keys are compared
abbrev pub key_number : RowKey → ℕ
key_number k = key_place k * 2 ^ 40 + key_site k * 2 ^ 32 + key_seq k

-- listings show rows with that key: an id or a category within the limits of their types
abbrev pub IsListed : RowKey → Type 0
IsListed (key.Nick n) = ⊥
IsListed k = (key_site k ≤ 255) × (key_seq k ≤ 4294967295)

-- ---- the rows that have a record

-- the row at a key has a record
abbrev pub has_record : RowKey → Row → Bool
has_record (key.User id) (row.User u) = true
has_record (key.Item id) (row.Item i) = true
has_record (key.Bid id) (row.Bid b) = true
has_record (key.Purchase id) (row.Purchase p) = true
has_record (key.Comment id) (row.Comment c) = true
has_record (key.Cat k) (row.Cat c) = not (shows_nothing c)
has_record k r = false

-- the place of a table in the order of keys
abbrev pub number_of_table : Table → ℕ
number_of_table table.Users = 0
number_of_table table.Items = 1
number_of_table table.Bids = 2
number_of_table table.Purchases = 3
number_of_table table.Comments = 4
number_of_table table.Nicks = 5
number_of_table table.Cats = 6

-- it has one, and its table is that of this number or comes later
abbrev pub is_recorded : ℕ → RowKey × Row → Bool
is_recorded first e = nat_le first (table_of e.0) && has_record e.0 e.1

abbrev pub recorded_from : ℕ → List (RowKey × Row) → List (RowKey × Row)
recorded_from first es = filter (is_recorded first) es

-- how many of those whose home is the shard
unfoldable pub recorded_of : ℕ → ShardState → ℕ
recorded_of first s = length (recorded_from first (map.entries (part_of s.shards s.number s.folded.tables)))
