-- The rows of a listing, table by table and in parts.
use Rattle.std.specs.Prelude.{List, [], ◌∷◌, ⊤, ℕ, ◌+◌, ◌≤◌, Option, Some, None, filter, length, nat_le, ◌*◌, ◌-◌, ◌≡◌, ◌++◌, min, slice_range}
use Rattle.rubis_schema.specs.declared.listings.Listing.{Listing}
use Rattle.rubis_schema.specs.declared.listings.Listing.TheVariants as listing
use Rattle.rubis_schema.specs.declared.row_keys.Table.{Table}
use Rattle.rubis_schema.specs.declared.row_keys.Table.TheVariants as table
use Rattle.std.specs.FinMap as map
use Rattle.rubis_schema.specs.Keys.{table_of}
use Rattle.rubis_schema.specs.Tables.{Tables}
use Rattle.rubis_model.specs.Listings.{records_of, log_from, misfit_rows}
use Rattle.rubis_shard.specs.Listed.{number_of_table}
use Rattle.rubis_shard.specs.Holdings.{union}
use Rattle.rubis_listing.specs.declared.later.Later.{Later}
use Rattle.rubis_listing.specs.declared.sources.Source.{Source}
use Rattle.rubis_listing.specs.declared.sources.Source.TheVariants.{Rows, Log, Misfits}

-- the tables whose rows a listing shows, in the order of their keys
abbrev pub tables_of : Listing → List Table
tables_of listing.Users = table.Users ∷ []
tables_of (listing.Items cat) = table.Items ∷ []
tables_of (listing.Bids item) = table.Bids ∷ []
tables_of (listing.Purchases item) = table.Purchases ∷ []
tables_of (listing.Comments user) = table.Comments ∷ []
tables_of listing.Categories = table.Cats ∷ []
tables_of listing.Tables = table.Users ∷ table.Items ∷ table.Bids ∷ table.Purchases ∷ table.Comments ∷ table.Cats ∷ []
tables_of listing.Log = []
tables_of listing.Misfits = []

-- ---- the rows of the tables that come later in the listing of all tables

-- the rows of the tables from that number on
abbrev pub rows_from_table : ℕ → Tables → List (List (List ℕ))
rows_from_table n m = records_of listing.Tables (filter (λ e. nat_le n (table_of e.0)) (map.entries m))

-- the table that is listed after another: nicknames are listed with their users
abbrev pub following_table : Table → Option Table
following_table table.Users = Some table.Items
following_table table.Items = Some table.Bids
following_table table.Bids = Some table.Purchases
following_table table.Purchases = Some table.Comments
following_table table.Comments = Some table.Cats
following_table table.Nicks = Some table.Cats
following_table table.Cats = None

-- the rows of a table and of those after it, if there is one
abbrev pub rows_after : Option Table → Tables → List (List (List ℕ))
rows_after None m = []
rows_after (Some t) m = rows_from_table (number_of_table t) m

abbrev pub rows_of_later : Later → List (List (List ℕ))
rows_of_later l = rows_from_table (number_of_table l.first) (union l.tables.now)

abbrev pub later_rows : Option Later → List (List (List ℕ))
later_rows None = []
later_rows (Some l) = rows_of_later l

-- these rows and those that come later, if any do, can be counted
abbrev pub AreCountable : List (List (List ℕ)) → Option Later → Type 0
AreCountable rows None = ⊤
AreCountable rows (Some l) = length rows + length (rows_of_later l) ≤ 18446744073709551615

-- ---- the rows of a listing, in parts

-- how many there are to make rows of
abbrev pub size_of : Source → ℕ
size_of (Rows l rows) = length rows.items
size_of (Log log) = length log.now
size_of (Misfits ms) = length ms.items

-- the rows that are made of those from a place on, up to another
abbrev pub between : Source → ℕ → ℕ → List (List (List ℕ))
between (Rows l rows) from upto = records_of l.now (slice_range rows.items from upto)
between (Log log) from upto = log_from (from + 1) (slice_range log.now from upto)
between (Misfits ms) from upto = misfit_rows (slice_range ms.items from upto)

-- the rows that are made of those from a place on
abbrev pub rows_from : Source → ℕ → List (List (List ℕ))
rows_from s from = between s from (size_of s)

-- some first rows were added, and `left` are those that are left
abbrev pub AddsFirst : {S : Type 0} → (List (List (List ℕ)) → S → S → Type 0) → List (List (List ℕ)) → List (List (List ℕ)) → S → S → Type 0
AddsFirst adds rows left before following_table = (first : List (List (List ℕ))) × (rows ≡ first ++ left) × adds first before following_table

-- the place behind a part, which is of 512 rows or of those that are left
abbrev pub part_end : ℕ → ℕ → ℕ
part_end at upto = at + min 512 (upto - at)

-- a part of the rows from a place on, up to another
abbrev pub rows_of_part : Source → ℕ → ℕ → ℕ → List (List (List ℕ))
rows_of_part s from upto at = between s (from + at * 512) (part_end (from + at * 512) upto)

-- each part holds the next rows, and all parts those up to the end
abbrev pub AreParts : {S : Type 0} → (List (List (List ℕ)) → S → Type 0) → Source → ℕ → ℕ → List S → Type 0
AreParts holds s at upto [] = at ≡ upto
AreParts holds s at upto (part ∷ parts) = holds (between s at (part_end at upto)) part × AreParts holds s (part_end at upto) upto parts
