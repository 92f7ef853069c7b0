-- Rows in chains, each linked to the one before it in its chain, and their keys as keys of the maps.
use Rattle.std.specs.Prelude.{◌≡◌, Bool, true, false, List, ⊤, map as each, ℕ, zero, suc, ◌<◌, ◌≤◌, length, get_or, take, Option, Some, None, cond, slice_index}
use Rattle.std.specs.List.{AllByRecursion}
use Rattle.rubis_schema.specs.Keys.{row_key, same_id_key}
use Rattle.rubis_schema.specs.declared.id_keys.IdKey.{IdKey}
use Rattle.rubis_schema.specs.declared.row_keys.RowKey.{RowKey}
use Rattle.rubis_schema.specs.declared.row_keys.RowKey.TheVariants as key
use Rattle.rubis_schema.specs.declared.rows.Row.{Row}
use Rattle.rubis_shard.specs.declared.map_keys.MapPlace.{MapPlace}
use Rattle.rubis_shard.specs.declared.map_keys.MapPlace.TheVariants as place
use Rattle.std.specs.Borrow.{Bor}
use Rattle.std.specs.Map.{lookup}
use Rattle.std.specs.Option.{unwrap_or}
use Rattle.rubis_schema.specs.declared.id_keys.IdTable.{IdTable}
use Rattle.rubis_schema.specs.declared.id_keys.IdTable.TheVariants as table
use Rattle.rubis_schema.specs.declared.ids.Id.{Id}
use Rattle.rubis_schema.specs.declared.listings.Listing.{Listing}
use Rattle.rubis_schema.specs.declared.listings.Listing.TheVariants as listing
use Rattle.rubis_schema.specs.declared.rows.Row.TheVariants as row
use Rattle.rubis_shard.specs.declared.chains.Chains.{Chains}

abbrev pub key_at : MapPlace → RowKey
key_at (place.User k) = row_key k
key_at (place.Other k) = row_key k
key_at (place.Nick n) = key.Nick n
key_at (place.Cat k) = key.Cat k

-- the key of a user
abbrev pub is_user : RowKey → Bool
is_user (key.User i) = true
is_user k = false

-- a key of rows with ids stands where its map is
abbrev pub IsPlaced : MapPlace → Type 0
IsPlaced (place.User k) = is_user (row_key k) ≡ true
IsPlaced (place.Other k) = is_user (row_key k) ≡ false
IsPlaced p = ⊤

-- all are rows of users
abbrev pub AreUsers : List (IdKey × Row) → Type 0
AreUsers es = AllByRecursion (λ e. is_user (row_key e.0) ≡ true) es

-- none of them is
abbrev pub AreOthers : List (IdKey × Row) → Type 0
AreOthers es = AllByRecursion (λ e. is_user (row_key e.0) ≡ false) es

-- ---- the entries of a map, with their keys as keys of rows

abbrev pub chain_written : {K : Type 0} → (K → RowKey) → List (K × Row) → List (RowKey × Row)
chain_written f es = each (λ e. (f e.0, e.1)) es

-- a key and a row that is lent
abbrev pub lent_row : RowKey × Bor Row → RowKey × Row
lent_row e = (e.0, e.1.now)

-- ---- rows in chains, each linked to the one before it in its chain

-- the chain of the rows of a table that are listed by that id
abbrev pub chain_by : IdTable → Id → IdKey
chain_by t id = record { seq = id.seq; site = id.site; table = t }

-- the chain of the items of a category
abbrev pub chain_of_items : ℕ → IdKey
chain_of_items cat = record { seq = cat; site = 0; table = table.Item }

-- the chain of all users
abbrev pub chain_of_users : IdKey
chain_of_users = record { seq = 0; site = 0; table = table.User }

-- the chain of a row by the item, the user or the category by which it is listed; other rows are in none
abbrev pub chain_of_row : Row → Option IdKey
chain_of_row (row.Item i) = Some (chain_of_items i.cat)
chain_of_row (row.Bid b) = Some (chain_by table.Bid b.item)
chain_of_row (row.Purchase p) = Some (chain_by table.Purchase p.item)
chain_of_row (row.Comment c) = Some (chain_by table.Comment c.to)
chain_of_row r = None

-- the chain of the row at a key: all users are in one
abbrev pub chain_of : RowKey → Row → Option IdKey
chain_of (key.User id) r = Some chain_of_users
chain_of k r = chain_of_row r

-- the chain that has all rows that match a listing, if one does
abbrev pub chain_with : Listing → Option IdKey
chain_with listing.Users = Some chain_of_users
chain_with (listing.Items cat) = Some (chain_of_items cat)
chain_with (listing.Bids item) = Some (chain_by table.Bid item)
chain_with (listing.Purchases item) = Some (chain_by table.Purchase item)
chain_with (listing.Comments user) = Some (chain_by table.Comment user)
chain_with l = None

-- the chain of each row
abbrev pub chains_of : List (RowKey × Row) → List (Option IdKey)
chains_of es = each (λ e. chain_of e.0 e.1) es

-- whether a row that has that chain, or none, is in chain k
abbrev pub is_in : Option IdKey → IdKey → Bool
is_in None k = false
is_in (Some chain) k = same_id_key chain k

-- the place of the last of the first n rows that is in the chain, counted from 1, or 0
unfoldable pub last_among : IdKey → List (Option IdKey) → ℕ → ℕ
last_among k cs zero = 0
last_among k cs (suc n) = cond (is_in (get_or cs n None) k) (suc n) (last_among k cs n)

-- the same for the chain of a row, which may be in none
abbrev pub last_before : Option IdKey → List (Option IdKey) → ℕ → ℕ
last_before None cs n = 0
last_before (Some k) cs n = last_among k cs n

-- the place that is noted as the last one of the chain of a row, or 0
abbrev pub last_noted : Option IdKey → List (IdKey × ℕ) → ℕ
last_noted None noted = 0
last_noted (Some k) noted = unwrap_or (lookup (same_id_key k) noted) 0

-- `c` links rows with the chains `cs`: it has each chain's last row, and for each row the one before it in its chain
pub record Links (cs : List (Option IdKey)) (c : Chains) : Type 0 where
  pub many : length c.before.items ≡ length cs
  pub last : (k : IdKey) → last_noted (Some k) c.last.entries ≡ last_among k cs (length cs)
  pub before : (i : ℕ) → i < length cs → slice_index c.before.items i ≡ last_before (get_or cs i None) cs i

-- `c` links a prefix of the rows with the chains `cs`: as many rows as it has links
pub record IsLinkedSoFar (cs : List (Option IdKey)) (c : Chains) : Type 0 where
  pub many : length c.before.items ≤ length cs
  pub links : Links (take (length c.before.items) cs) c
