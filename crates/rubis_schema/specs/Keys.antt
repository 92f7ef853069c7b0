-- The order of row keys, the table and the home shard of a key, and what the hashers of keys compute.
use Rattle.std.specs.Prelude.{ℕ, ◌+◌, ◌*◌, ◌^◌, Bool, ◌&&◌, nat_eq, ◌/◌, ◌%◌, List, [], ◌∷◌, bit_xor, slice_index, ◌++◌, sum, true, false, bytes_eq}
use Rattle.std.specs.Int.{rotate_right, w64, from_le_bytes, w32}
use Rattle.rubis_schema.specs.declared.ids.Id.{Id}
use Rattle.rubis_schema.specs.declared.id_keys.IdKey.{IdKey}
use Rattle.rubis_schema.specs.declared.id_keys.IdTable.{IdTable}
use Rattle.rubis_schema.specs.declared.id_keys.IdTable.TheVariants as table
use Rattle.rubis_schema.specs.declared.row_keys.RowKey.{RowKey}
use Rattle.rubis_schema.specs.declared.row_keys.RowKey.TheVariants as key
use Rattle.rubis_schema.specs.declared.key_hashes.NickHasher.{NickHasher}
use Rattle.rubis_schema.specs.declared.key_hashes.NickHashes.{NickHashes}
use Rattle.rubis_schema.specs.declared.key_hashes.KeyHasher.{KeyHasher}
use Rattle.rubis_schema.specs.declared.key_hashes.KeyHashes.{KeyHashes}
use Rattle.rubis_schema.specs.declared.key_hashes.Hashes.{Hashes}
use Rattle.rubis_schema.specs.declared.key_hashes.TheConstants.{FIXED, FIXED_NICKS}
use Rattle.std.specs.Ordering.{on, eq_by_cmp, nat_cmp}
use Rattle.std.specs.declared.cmp.Ordering.{Ordering}
use Rattle.std.specs.Cmp.Lexicographic.{slice_cmp}
use Rattle.std.specs.Hash as fed
use Rattle.rubis_schema.specs.declared.row_keys.RowKey.TheVariants.{User, Item, Bid, Purchase, Comment, Nick, Cat}
use Rattle.rubis_schema.specs.declared.row_keys.Table.{Table}
use Rattle.rubis_schema.specs.declared.row_keys.Table.TheVariants.{Users, Items, Bids, Purchases, Comments, Nicks, Cats}

-- the place of a table in the order of keys
abbrev pub table_place : IdTable → ℕ
table_place table.User = 0
table_place table.Item = 1
table_place table.Bid = 2
table_place table.Purchase = 3
table_place table.Comment = 4

-- an id in a table as the key of a row
abbrev pub key_in : IdTable → Id → RowKey
key_in table.User i = key.User i
key_in table.Item i = key.Item i
key_in table.Bid i = key.Bid i
key_in table.Purchase i = key.Purchase i
key_in table.Comment i = key.Comment i

abbrev pub row_key : IdKey → RowKey
row_key k = key_in k.table (record { site = k.site; seq = k.seq })

-- what a key is hashed by
abbrev pub key_word : IdKey → ℕ
key_word k = rotate_right w64 (table_place k.table * 2 ^ 58 + (k.site * 2 ^ 32 + k.seq)) 2

abbrev pub id_word : Id → ℕ
id_word i = i.site * 2 ^ 32 + i.seq

abbrev pub same_id_key : IdKey → IdKey → Bool
same_id_key k l = nat_eq (table_place k.table) (table_place l.table) && (nat_eq k.site l.site && nat_eq k.seq l.seq)

-- ---- what the hashers of nicknames compute

-- the four bytes from a place on as a number, the lowest first, with zeros for those that are missing
abbrev pub half_at : ℕ → List ℕ → ℕ
half_at at bytes = from_le_bytes w32 (slice_index bytes at ∷ slice_index bytes (at + 1) ∷ slice_index bytes (at + 2) ∷ slice_index bytes (at + 3) ∷ [])

abbrev pub sum64 : ℕ → ℕ → ℕ
sum64 a b = (a + b) % 2 ^ 64

-- the eight bytes
abbrev pub word_at : ℕ → List ℕ → ℕ
word_at at bytes = sum64 (half_at at bytes) ((half_at (at + 4) bytes * 2 ^ 32) % 2 ^ 64)

-- the two halves of a product, joined
abbrev pub joined_product : ℕ → ℕ → ℕ
joined_product a b = bit_xor ((a * b) % 2 ^ 64) (a * b / 2 ^ 64)

-- the hasher after these bytes, of which it takes 24
unfoldable pub with_bytes : NickHasher → List ℕ → NickHasher
with_bytes h bytes =
    let product = joined_product (sum64 (word_at 0 bytes) h.keys.first) (sum64 (word_at 8 bytes) h.keys.second) in
    record { keys = h.keys; state = joined_product (sum64 h.state (sum64 (word_at 16 bytes) product)) h.keys.last }

abbrev pub nick_hasher : NickHashes → NickHasher
nick_hasher h = record { keys = h; state = 0 }

-- ---- what the hashers of keys compute

-- the state after these bytes, read as a number of eight bytes
unfoldable pub written : KeyHasher → List ℕ → KeyHasher
written h bytes = record {
  state = (bit_xor h.state (from_le_bytes w64 bytes) * h.multiplier) % 2 ^ 64;
  multiplier = h.multiplier;
}

abbrev pub key_hasher : KeyHashes → KeyHasher
key_hasher h = record { state = 0; multiplier = h.multiplier }

-- the hashes that are the same in each run
abbrev pub fixed_hashes : Hashes
fixed_hashes = record { keys = record { multiplier = FIXED }; nicks = FIXED_NICKS }

-- ---- the order of row keys, the table and the home shard of a key, and what it is hashed by

-- a key as a list of numbers: that of its table, and then its id, its nickname or its category
abbrev pub key_code : RowKey → List ℕ
key_code (User i) = 0 ∷ i.site ∷ i.seq ∷ []
key_code (Item i) = 1 ∷ i.site ∷ i.seq ∷ []
key_code (Bid i) = 2 ∷ i.site ∷ i.seq ∷ []
key_code (Purchase i) = 3 ∷ i.site ∷ i.seq ∷ []
key_code (Comment i) = 4 ∷ i.site ∷ i.seq ∷ []
key_code (Nick n) = 5 ∷ n
key_code (Cat k) = 6 ∷ k ∷ []

-- by table, then by site and number, by the nickname's bytes, or by the category
unfoldable pub key_order : RowKey → RowKey → Ordering
key_order = on key_code (slice_cmp nat_cmp)

-- the keys have one place in that order
abbrev pub tied : RowKey → RowKey → Bool
tied = eq_by_cmp key_order

-- the home shard of a key, among `shards` shards; no answer shows it
unfoldable pub home : ℕ → RowKey → ℕ
home shards (User i) = (0 * 7 + i.site * 31 + i.seq) % shards
home shards (Item i) = (1 * 7 + i.site * 31 + i.seq) % shards
home shards (Bid i) = (2 * 7 + i.site * 31 + i.seq) % shards
home shards (Purchase i) = (3 * 7 + i.site * 31 + i.seq) % shards
home shards (Comment i) = (4 * 7 + i.site * 31 + i.seq) % shards
home shards (Nick n) = sum n % shards
home shards (Cat k) = k % shards

-- the place of a key's table in the order of keys
abbrev pub table_of : RowKey → ℕ
table_of (User i) = 0
table_of (Item i) = 1
table_of (Bid i) = 2
table_of (Purchase i) = 3
table_of (Comment i) = 4
table_of (Nick n) = 5
table_of (Cat k) = 6

-- a table has the keys of its kind
abbrev pub holds : Table → RowKey → Bool
holds Users (User i) = true
holds Items (Item i) = true
holds Bids (Bid i) = true
holds Purchases (Purchase i) = true
holds Comments (Comment i) = true
holds Nicks (Nick n) = true
holds Cats (Cat k) = true
holds t k = false

-- whether two ids are equal
abbrev pub same_id : Id → Id → Bool
same_id i j = nat_eq i.site j.site && nat_eq i.seq j.seq

-- two keys are one
abbrev pub key_eq : RowKey → RowKey → Bool
key_eq (User i) (User j) = same_id i j
key_eq (Item i) (Item j) = same_id i j
key_eq (Bid i) (Bid j) = same_id i j
key_eq (Purchase i) (Purchase j) = same_id i j
key_eq (Comment i) (Comment j) = same_id i j
key_eq (Nick m) (Nick n) = bytes_eq m n
key_eq (Cat k) (Cat l) = nat_eq k l
key_eq k l = false

-- an id in a table, as it is hashed
abbrev pub id_writes : ℕ → Id → fed.HashWrites
id_writes table i = fed.u8 table ++ fed.u8 i.site ++ fed.u32 i.seq

-- what a key is hashed by: the number of its table, and then its id, its nickname or its category
abbrev pub key_writes : RowKey → fed.HashWrites
key_writes (User i) = id_writes 0 i
key_writes (Item i) = id_writes 1 i
key_writes (Bid i) = id_writes 2 i
key_writes (Purchase i) = id_writes 3 i
key_writes (Comment i) = id_writes 4 i
key_writes (Nick n) = fed.u8 5 ++ n ∷ []
key_writes (Cat k) = fed.u8 6 ++ fed.u16 k
