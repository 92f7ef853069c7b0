-- Entries in key order stand table by table.
use Rattle.rubis_listing.proofs.Common.{◌≡◌, ℕ, ◌+◌, ◌<◌, ◌≤◌, inl, inr, Bool, true, false, cond, List, [], ◌∷◌, ◌++◌, length, length-append, refl}
use Rattle.rubis_listing.proofs.Common.{sym, ap, ◌∙◌, arith, filter, not, append-nil, shows_nothing, Tables, holds, Listing, RowKey, Table, CatRow}
use Rattle.rubis_listing.proofs.Common.{Row, rows_of, category_record, records_of, row_record, table_rows, number_of_table, recorded_from}
use Rattle.std.proofs.Common.{T, ◌&&◌}
use Rattle.std.specs.Prelude.{⊤, flat_map, nat_eq, nat_le, nat_lt, ◌==◌}
use Rattle.std.specs.Cmp.Lexicographic.{slice_cmp}
use Rattle.std.specs.Ordering.{nat_cmp, is_lt, ordering_then}
use Rattle.std.specs.declared.cmp.Ordering.{Ordering}
use Rattle.std.specs.declared.cmp.Ordering.TheVariants.{Less, Equal, Greater}
use Rattle.std.specs.FinMap.Entries.{below_all, is_sorted}
use Rattle.std.proofs.lemmas.Bool.{cases_order, eqb-true, ltb-true}
use Rattle.std.proofs.lemmas.Bool.Decides.{nat_tests}
use Rattle.rubis_schema.specs.Keys.{key_code, key_order, table_of}
use Rattle.rubis_shard.specs.Listed.{has_record}
use Rattle.std.specs.FinMap as map
use Rattle.rubis_schema.specs.declared.listings.Listing.TheVariants as listing
use Rattle.rubis_schema.specs.declared.row_keys.RowKey.TheVariants as key
use Rattle.rubis_schema.specs.declared.row_keys.Table.TheVariants as table
use Rattle.rubis_schema.specs.declared.rows.Row.TheVariants as row
use Rattle.rubis_listing.specs.Parts.{tables_of, following_table, rows_after, rows_from_table}
use Rattle.rubis_listing.proofs.Selecting.{Entries, IsWithin, bids_within, categories_within, comments_within, items_within, one_table, purchases_within}
use Rattle.rubis_listing.proofs.Selecting.{records_append, shows_none, users_within}

-- ---- keys in order have tables in order

first_by : (x y : Bool) (a b : ℕ) (o : Ordering) → nat_lt a b ≡ x → (a == b) ≡ y → ordering_then (cond x Less (cond y Equal Greater)) o ≡ Less → a ≤ b
first_by true y a b o l q e = let h = ltb-true a b l in omega (arith, h)
first_by false true a b o l q e = let h = eqb-true a b q in omega (arith, h)
first_by false false a b o l q e = absurd cc

first_in_order : (a b : ℕ) (xs ys : List ℕ) → slice_cmp nat_cmp (a ∷ xs) (b ∷ ys) ≡ Less → a ≤ b
first_in_order a b xs ys e = first_by (nat_lt a b) (a == b) a b (slice_cmp nat_cmp xs ys) refl refl e

code_of : (k : RowKey) → (rest : List ℕ) × (key_code k ≡ table_of k ∷ rest)
code_of (key.User i) = (_, refl)
code_of (key.Item i) = (_, refl)
code_of (key.Bid i) = (_, refl)
code_of (key.Purchase i) = (_, refl)
code_of (key.Comment i) = (_, refl)
code_of (key.Nick n) = (_, refl)
code_of (key.Cat k) = (_, refl)

tables_in_order : (k l : RowKey) → key_order k l ≡ Less → table_of k ≤ table_of l
unfolding key_order
tables_in_order k l e =
    let a = code_of k in
    let b = code_of l in
    first_in_order (table_of k) (table_of l) a.0 b.0 (sym (λ i. slice_cmp nat_cmp (a.1 i) (b.1 i)) ∙ e)

-- the tables of the entries have no smaller numbers
abbrev Above : ℕ → Entries → Type 0
Above n [] = ⊤
Above n (e ∷ es) = (n ≤ table_of e.0) × Above n es

abbrev Rise : Entries → Type 0
Rise [] = ⊤
Rise (e ∷ es) = Above (table_of e.0) es × Rise es

less : (o : Ordering) → T (is_lt o) → o ≡ Less
less Less p = refl
less Equal p = absurd p
less Greater p = absurd p

both : (a b : Bool) → T (a && b) → T a × T b
both true b p = (tt, p)
both false b p = absurd p

above_sorted : (k : RowKey) (es : Entries) → T (below_all key_order k es) → Above (table_of k) es
above_sorted k [] h = tt
above_sorted k (e ∷ es) h =
    let w = both (is_lt (key_order k e.0)) (below_all key_order k es) h in
    (tables_in_order k e.0 (less (key_order k e.0) w.0), above_sorted k es w.1)

rise_sorted : (es : Entries) → T (is_sorted key_order es) → Rise es
rise_sorted [] h = tt
rise_sorted (e ∷ es) h =
    let w = both (below_all key_order e.0 es) (is_sorted key_order es) h in
    (above_sorted e.0 es w.0, rise_sorted es w.1)

-- ---- the entries of one table, and those from a table on

abbrev at : ℕ → Entries → Entries
at n es = filter (λ e. nat_eq (table_of e.0) n) es

abbrev from : ℕ → Entries → Entries
from n es = filter (λ e. nat_le n (table_of e.0)) es

no_number : (m n : ℕ) → n < m → nat_eq m n ≡ false
no_number m n h = grind (arith, nat_tests)

none_at : (n m : ℕ) → n < m → (es : Entries) → Above m es → at n es ≡ []
none_at n m l [] h = refl
none_at n m l (e ∷ es) h =
    ap (λ b. cond b (e ∷ at n es) (at n es)) (no_number (table_of e.0) n (omega (arith, l, h.0))) ∙ none_at n m l es h.1

-- what the three tests say of a number
abbrev Tests : ℕ → ℕ → Bool → Bool → Bool → Type 0
Tests k n a b c = (nat_le n k ≡ a) × (nat_eq k n ≡ b) × (nat_le (n + 1) k ≡ c)

one : (k n : ℕ) → k ≡ n → Tests k n true true false
one k n h = (grind (arith, nat_tests), grind (arith, nat_tests), grind (arith, nat_tests))

before : (k n : ℕ) → k < n → Tests k n false false false
before k n h = (grind (arith, nat_tests), grind (arith, nat_tests), grind (arith, nat_tests))

part_end : (k n : ℕ) → n < k → Tests k n true false true
part_end k n h = (grind (arith, nat_tests), grind (arith, nat_tests), grind (arith, nat_tests))

stepped : (e : RowKey × Row) (n : ℕ) (a b c : Bool) (es : Entries) → Tests (table_of e.0) n a b c
    → cond a (e ∷ from n es) (from n es) ≡ cond b (e ∷ at n es) (at n es) ++ cond c (e ∷ from (n + 1) es) (from (n + 1) es)
    → from n (e ∷ es) ≡ at n (e ∷ es) ++ from (n + 1) (e ∷ es)
stepped e n a b c es t same =
    ap (λ b. cond b (e ∷ from n es) (from n es)) t.0 ∙ same
    ∙ sym (λ i. cond (t.1 i) (e ∷ at n es) (at n es) ++ cond (t.2 i) (e ∷ from (n + 1) es) (from (n + 1) es))

split_at : (n : ℕ) (es : Entries) → Rise es → from n es ≡ at n es ++ from (n + 1) es
split_at n [] h = refl
split_at n (e ∷ es) h =
    let rest = split_at n es h.1 in
    elim (cases_order (table_of e.0) n) [
      | inl same ↦ stepped e n true true false es (one (table_of e.0) n same) (ap (λ fs. e ∷ fs) rest)
      | inr (inl less) ↦ stepped e n false false false es (before (table_of e.0) n less) rest
      | inr (inr more) ↦
          let none = none_at n (table_of e.0) more es h.0 in
          stepped e n true false true es (part_end (table_of e.0) n more)
          (ap (λ fs. e ∷ fs) (rest ∙ ap (λ fs. fs ++ from (n + 1) es) none) ∙ sym (ap (λ fs. fs ++ (e ∷ from (n + 1) es)) none))
    ]

-- ---- all tables

from_nought : (n : ℕ) → nat_le 0 n ≡ true
from_nought n = grind (arith, nat_tests)

all_from : (es : Entries) → from 0 es ≡ es
all_from [] = refl
all_from (e ∷ es) = ap (λ b. cond b (e ∷ from 0 es) (from 0 es)) (from_nought (table_of e.0)) ∙ ap (λ fs. e ∷ fs) (all_from es)

few_tables : (k : RowKey) → table_of k < 7
few_tables (key.User i) = omega arith
few_tables (key.Item i) = omega arith
few_tables (key.Bid i) = omega arith
few_tables (key.Purchase i) = omega arith
few_tables (key.Comment i) = omega arith
few_tables (key.Nick n) = omega arith
few_tables (key.Cat k) = omega arith

below_seven : (n : ℕ) → n < 7 → nat_le 7 n ≡ false
below_seven n h = grind (arith, nat_tests)

none_from : (es : Entries) → from 7 es ≡ []
none_from [] = refl
none_from (e ∷ es) =
    ap (λ b. cond b (e ∷ from 7 es) (from 7 es)) (below_seven (table_of e.0) (few_tables e.0)) ∙ none_from es

abbrev shown : Entries → List (List (List ℕ))
shown es = records_of listing.Tables es

-- nicknames show nothing
no_nicknames : (es : Entries) → shown (at 5 es) ≡ []
no_nicknames [] = refl
no_nicknames ((k, r) ∷ es) = elim k as (λ k. shown (at 5 ((k, r) ∷ es)) ≡ []) [
  | key.User i ↦ no_nicknames es
  | key.Item i ↦ no_nicknames es
  | key.Bid i ↦ no_nicknames es
  | key.Purchase i ↦ no_nicknames es
  | key.Comment i ↦ no_nicknames es
  | key.Nick n ↦ no_nicknames es
  | key.Cat c ↦ no_nicknames es
]

next_table : (n : ℕ) (es : Entries) → Rise es → shown (from n es) ≡ shown (at n es) ++ shown (from (n + 1) es)
next_table n es h = ap shown (split_at n es h) ∙ records_append listing.Tables (at n es) (from (n + 1) es)

held : (t : Table) (k : RowKey) → holds t k ≡ nat_eq (table_of k) (number_of_table t)
held table.Users (key.User x) = refl
held table.Users (key.Item x) = refl
held table.Users (key.Bid x) = refl
held table.Users (key.Purchase x) = refl
held table.Users (key.Comment x) = refl
held table.Users (key.Nick x) = refl
held table.Users (key.Cat x) = refl
held table.Items (key.User x) = refl
held table.Items (key.Item x) = refl
held table.Items (key.Bid x) = refl
held table.Items (key.Purchase x) = refl
held table.Items (key.Comment x) = refl
held table.Items (key.Nick x) = refl
held table.Items (key.Cat x) = refl
held table.Bids (key.User x) = refl
held table.Bids (key.Item x) = refl
held table.Bids (key.Bid x) = refl
held table.Bids (key.Purchase x) = refl
held table.Bids (key.Comment x) = refl
held table.Bids (key.Nick x) = refl
held table.Bids (key.Cat x) = refl
held table.Purchases (key.User x) = refl
held table.Purchases (key.Item x) = refl
held table.Purchases (key.Bid x) = refl
held table.Purchases (key.Purchase x) = refl
held table.Purchases (key.Comment x) = refl
held table.Purchases (key.Nick x) = refl
held table.Purchases (key.Cat x) = refl
held table.Comments (key.User x) = refl
held table.Comments (key.Item x) = refl
held table.Comments (key.Bid x) = refl
held table.Comments (key.Purchase x) = refl
held table.Comments (key.Comment x) = refl
held table.Comments (key.Nick x) = refl
held table.Comments (key.Cat x) = refl
held table.Nicks (key.User x) = refl
held table.Nicks (key.Item x) = refl
held table.Nicks (key.Bid x) = refl
held table.Nicks (key.Purchase x) = refl
held table.Nicks (key.Comment x) = refl
held table.Nicks (key.Nick x) = refl
held table.Nicks (key.Cat x) = refl
held table.Cats (key.User x) = refl
held table.Cats (key.Item x) = refl
held table.Cats (key.Bid x) = refl
held table.Cats (key.Purchase x) = refl
held table.Cats (key.Comment x) = refl
held table.Cats (key.Nick x) = refl
held table.Cats (key.Cat x) = refl

rows_at : (t : Table) (m : Tables) → at (number_of_table t) (map.entries m) ≡ rows_of t m
rows_at t m = ap (λ (p : RowKey × Row → Bool). filter p (map.entries m)) (sym (λ i e. held t e.0 i))

-- the rows of one table that are shown
abbrev table_shown : Table → Tables → List (List (List ℕ))
table_shown t m = records_of listing.Tables (rows_of t m)

table_by_table : (m : Tables) → table_shown table.Users m ++ (table_shown table.Items m ++ (table_shown table.Bids m
    ++ (table_shown table.Purchases m ++ (table_shown table.Comments m ++ table_shown table.Cats m)))) ≡ table_rows listing.Tables m
table_by_table m =
    let es = map.entries m in
    let rise = rise_sorted es (map.entries_sorted m) in
    let part : (t : Table) → shown (at (number_of_table t) es) ≡ table_shown t m = λ t. ap shown (rows_at t m) in
    let last : shown (from 6 es) ≡ table_shown table.Cats m =
    next_table 6 es rise ∙ (λ i. part table.Cats i ++ shown (none_from es i)) ∙ append-nil (table_shown table.Cats m) in
    let fifth : shown (from 5 es) ≡ table_shown table.Cats m = next_table 5 es rise ∙ (λ i. no_nicknames es i ++ last i) in
    let fourth = next_table 4 es rise ∙ (λ i. part table.Comments i ++ fifth i) in
    let third = next_table 3 es rise ∙ (λ i. part table.Purchases i ++ fourth i) in
    let second = next_table 2 es rise ∙ (λ i. part table.Bids i ++ third i) in
    let first = next_table 1 es rise ∙ (λ i. part table.Items i ++ second i) in
    sym (ap shown (sym (all_from es)) ∙ next_table 0 es rise ∙ (λ i. part table.Users i ++ first i))

-- ---- a listing, table by table

-- what the tables of a list add
abbrev pub rows_by_table : Listing → Tables → List Table → List (List (List ℕ))
rows_by_table l m ts = flat_map (λ t. records_of l (rows_of t m)) ts

one_of : (l : Listing) (t : Table) → IsWithin l t → (m : Tables) → rows_by_table l m (t ∷ []) ≡ table_rows l m
one_of l t w m = append-nil (records_of l (rows_of t m)) ∙ one_table l t w m

pub all_by_table : (l : Listing) (m : Tables) → rows_by_table l m (tables_of l) ≡ table_rows l m
all_by_table listing.Users m = one_of listing.Users table.Users users_within m
all_by_table (listing.Items cat) m = one_of (listing.Items cat) table.Items (items_within cat) m
all_by_table (listing.Bids item) m = one_of (listing.Bids item) table.Bids (bids_within item) m
all_by_table (listing.Purchases item) m = one_of (listing.Purchases item) table.Purchases (purchases_within item) m
all_by_table (listing.Comments user) m = one_of (listing.Comments user) table.Comments (comments_within user) m
all_by_table listing.Categories m = one_of listing.Categories table.Cats categories_within m
all_by_table listing.Tables m =
    ap (λ rows. table_shown table.Users m ++ (table_shown table.Items m ++ (table_shown table.Bids m
    ++ (table_shown table.Purchases m ++ (table_shown table.Comments m ++ rows))))) (append-nil (table_shown table.Cats m))
    ∙ table_by_table m
all_by_table listing.Log m = sym (shows_none listing.Log m (inl refl))
all_by_table listing.Misfits m = sym (shows_none listing.Misfits m (inr refl))

-- ---- the rows that are left, table by table

pub all_left : (m : Tables) → rows_from_table 0 m ≡ table_rows listing.Tables m
all_left m = ap shown (all_from (map.entries m))

next_left : (t : Table) (m : Tables) → rows_from_table (number_of_table t) m ≡ table_shown t m ++ rows_from_table (number_of_table t + 1) m
next_left t m =
    let es = map.entries m in
    next_table (number_of_table t) es (rise_sorted es (map.entries_sorted m)) ∙ ap (λ (fs : Entries). shown fs ++ rows_from_table (number_of_table t + 1) m) (rows_at t m)

-- nicknames show nothing
past_nicknames : (m : Tables) → rows_from_table 5 m ≡ rows_from_table 6 m
past_nicknames m =
    let es = map.entries m in
    next_table 5 es (rise_sorted es (map.entries_sorted m)) ∙ ap (λ rows. rows ++ rows_from_table 6 m) (no_nicknames es)

pub left_after : (t : Table) (m : Tables) → rows_from_table (number_of_table t) m ≡ records_of listing.Tables (rows_of t m) ++ rows_after (following_table t) m
left_after table.Users m = next_left table.Users m
left_after table.Items m = next_left table.Items m
left_after table.Bids m = next_left table.Bids m
left_after table.Purchases m = next_left table.Purchases m
left_after table.Comments m = next_left table.Comments m ∙ ap (λ rows. table_shown table.Comments m ++ rows) (past_nicknames m)
left_after table.Nicks m = next_left table.Nicks m
left_after table.Cats m = next_left table.Cats m ∙ ap (λ (es : Entries). table_shown table.Cats m ++ shown es) (none_from (map.entries m))

-- ---- how many are left

category_length : (b : Bool) (k : ℕ) (c : CatRow) → length (cond b [] (category_record k c ∷ [])) ≡ cond (not b) 1 0
category_length true k c = refl
category_length false k c = refl

one_record : (k : RowKey) (r : Row) → length (row_record k r) ≡ cond (has_record k r) 1 0
one_record (key.User id) (row.User u) = refl
one_record (key.Item id) (row.Item i) = refl
one_record (key.Bid id) (row.Bid b) = refl
one_record (key.Purchase id) (row.Purchase p) = refl
one_record (key.Comment id) (row.Comment c) = refl
one_record (key.Cat k) (row.Cat c) = category_length (shows_nothing c) k c
one_record k r = refl

one_left : (b h : Bool) (e : RowKey × Row) (fs gs : Entries) → length (row_record e.0 e.1) ≡ cond h 1 0 → length (shown fs) ≡ length gs
    → length (shown (cond b (e ∷ fs) fs)) ≡ length (cond (b && h) (e ∷ gs) gs)
one_left true true e fs gs one rest =
    let more : length (shown (e ∷ fs)) ≡ length (row_record e.0 e.1) + length (shown fs) = length-append (row_record e.0 e.1) (shown fs) in
    let has : length (row_record e.0 e.1) ≡ 1 = one in
    omega (arith, more, has, rest)
one_left true false e fs gs one rest =
    let more : length (shown (e ∷ fs)) ≡ length (row_record e.0 e.1) + length (shown fs) = length-append (row_record e.0 e.1) (shown fs) in
    let none : length (row_record e.0 e.1) ≡ 0 = one in
    omega (arith, more, none, rest)
one_left false h e fs gs one rest = rest

many_left : (n : ℕ) (es : Entries) → length (shown (from n es)) ≡ length (recorded_from n es)
many_left n [] = refl
many_left n (e ∷ es) = one_left (nat_le n (table_of e.0)) (has_record e.0 e.1) e (from n es) (recorded_from n es) (one_record e.0 e.1) (many_left n es)

pub left_length : (n : ℕ) (m : Tables) → length (rows_from_table n m) ≡ length (recorded_from n (map.entries m))
left_length n m = many_left n (map.entries m)
