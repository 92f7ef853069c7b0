-- The opening rows of one shard, and that they are at home there.
use Rattle.rubis_shard.proofs.Common.{◌≡◌, ℕ, zero, suc, ◌+◌, ◌<◌, arith, Bool, true, false, cond, refl, sym, ap, ◌∙◌, [], Option, Some, None, filter}
use Rattle.rubis_shard.proofs.Common.{nat_eq, lookup, holds, home, key_eq, key_order, Tables, Listing, RowKey, Table, Row, categories_from}
use Rattle.rubis_shard.proofs.Common.{new_category, rows_of, get_tables_of, part_of, same_tables, get-part_of, Decides-eqb}
use Rattle.rubis_model.proofs.Shares.{part_with_row}
use Rattle.std.specs.FinMap as map
use Rattle.rubis_schema.specs.declared.row_keys.RowKey.TheVariants as key
use Rattle.rubis_shard.specs.Listed.{listed_of, picked_by}
use Rattle.rubis_shard.specs.States.{held_in, nothing_held}
use Rattle.rubis_shard.specs.declared.shard_store.Store.{Store}
use Rattle.rubis_shard.proofs.Picked.{no_items}

other_number : (a b : ℕ) → ¬ (a ≡ b) → nat_eq a b ≡ false
other_number a b apart = at (nat_eq a b) refl
  where
    at : (x : Bool) → nat_eq a b ≡ x → nat_eq a b ≡ false
    at true e = absurd (apart ((Decides-eqb a b).0 e))
    at false e = e

neither : (b : Bool) → ◌≡◌ {A = Option Row} (cond b None None) None
neither true = refl
neither false = refl

-- no rows
pub part_empty : (shards k : ℕ) → part_of shards k map.empty ≡ map.empty
part_empty shards k = same_tables _ _ (λ q.
    get-part_of shards k map.empty q ∙ ap (λ (o : Option Row). cond (nat_eq (home shards q) k) o None) (map.get-empty key_order q)
    ∙ neither (nat_eq (home shards q) k) ∙ sym (map.get-empty key_order q))

-- nor where nothing is held
pub none_held : (shards k : ℕ) (o : Option Store) → o ≡ None → part_of shards k (held_in o).tables ≡ (held_in o).tables
none_held shards k o e =
    let none : (held_in o).tables ≡ nothing_held.tables = ap (λ (p : Option Store). (held_in p).tables) e in
    ap (part_of shards k) none ∙ part_empty shards k ∙ sym none

-- which no listing shows
pub none_there : (t : Tables) → t ≡ map.empty → map.entries t ≡ []
none_there t e = no_items _ (sym (map.len-entries t) ∙ ap (λ (u : Tables). map.len u) e ∙ map.len-empty key_order Row)

pub no_rows : (t : Table) → rows_of t map.empty ≡ []
no_rows t = ap (filter (λ e. holds t e.0)) (none_there map.empty refl)

pub none_listed : (l : Listing) (t : Table) → listed_of l t map.empty ≡ []
none_listed l t = ap (λ es. filter (λ e. holds t e.0) (picked_by l es)) (none_there map.empty refl)

-- a row more, whose home is the shard, and one whose home it isn't
pub part_here : (shards k : ℕ) (t : Tables) (p : RowKey) (row : Row) → nat_eq (home shards p) k ≡ true
    → part_of shards k (map.insert t p row) ≡ map.insert (part_of shards k t) p row
part_here shards k t p row h = part_with_row shards k t p (Some row)
    ∙ ap (λ b. cond b (map.insert (part_of shards k t) p row) (part_of shards k t)) h

pub part_elsewhere : (shards k : ℕ) (t : Tables) (p : RowKey) (row : Row) → nat_eq (home shards p) k ≡ false
    → part_of shards k (map.insert t p row) ≡ part_of shards k t
part_elsewhere shards k t p row h = part_with_row shards k t p (Some row)
    ∙ ap (λ b. cond b (map.insert (part_of shards k t) p row) (part_of shards k t)) h

-- a category before those from k on isn't there
category_absent : (k n j : ℕ) → j < k → lookup (key_eq (key.Cat j)) (categories_from k n) ≡ None
unfolding categories_from
category_absent k zero j before = refl
category_absent k (suc n) j before =
    ap (λ b. cond b (Some new_category) (lookup (key_eq (key.Cat j)) (categories_from (k + 1) n))) (other_number j k (λ e. omega (arith, e)))
    ∙ category_absent (k + 1) n j (omega arith)

pub not_open : (shards number k n j : ℕ) → j < k
    → map.get (part_of shards number (map.from_entries (categories_from k n))) (key.Cat j) ≡ None
not_open shards number k n j before =
    get-part_of shards number _ (key.Cat j)
    ∙ ap (λ o. cond (nat_eq (home shards (key.Cat j)) number) o None)
    (get_tables_of (categories_from k n) (key.Cat j) ∙ category_absent k n j before)
    ∙ neither (nat_eq (home shards (key.Cat j)) number)

twice : (b : Bool) (o : Option Row) → cond b (cond b o None) None ≡ cond b o None
twice true o = refl
twice false o = refl

-- what a shard has of some tables is at home there
pub part_twice : (shards k : ℕ) (t : Tables) → part_of shards k (part_of shards k t) ≡ part_of shards k t
part_twice shards k t = same_tables _ _ (λ q.
    get-part_of shards k (part_of shards k t) q
    ∙ ap (λ o. cond (nat_eq (home shards q) k) o None) (get-part_of shards k t q)
    ∙ twice (nat_eq (home shards q) k) (map.get t q)
    ∙ sym (get-part_of shards k t q))
