-- The rows that match a listing, put in key order.
use Rattle.rubis_shard.proofs.Common.{◌≡◌, ℕ, zero, suc, ◌+◌, ◌<◌, List, [], ◌∷◌, ◌++◌, length, set, refl, sym, ap, ◌∙◌, arith, length-set, ⊎_elim}
use Rattle.rubis_shard.proofs.Common.{inl, inr, ◌≤◌, Bool, true, false, cond, T, ◌&&◌, subst, take, map as each, Bor, slice_get, Some, None, Option}
use Rattle.rubis_shard.proofs.Common.{filter, flat_map, slice_index_or, slice_get-get_or, nat_cmp, is_lt, Ordering, Less, Equal, Greater, key_order}
use Rattle.rubis_shard.proofs.Common.{holds, key_eq, RowKey, AllByRecursion, IsDistinct, IsPermutation, IsSortedByKey, keys_of, lookup, below_all}
use Rattle.rubis_shard.proofs.Common.{is_sorted, append-nil, take_more, get_or-map, length-map, filter-append, IsPermutation-append_left}
use Rattle.rubis_shard.proofs.Common.{IsPermutation-append_right, IsPermutation-sym, IsPermutation-trans, IsDistinct-keys_filter, Decides-key_eq}
use Rattle.rubis_shard.proofs.Common.{IdTable, Tables, Listing, Table, Row, rows_of, first_of, rows_listed, tables_of, get_tables_of, lookup_find}
use Rattle.rubis_shard.proofs.Common.{is_of, part_of, same_tables}
use Rattle.std.proofs.Common.{get_or-set_same, get_or-set_other, ◌*◌, ◌^◌}
use Rattle.std.specs.Prelude.{◌⊎◌}
use Rattle.std.specs.Cmp.{nat_cmp_is}
use Rattle.std.specs.Cmp.Lexicographic.{slice_cmp}
use Rattle.std.specs.Ordering.{ordering_then}
use Rattle.std.proofs.lemmas.Bool.{cases_order}
use Rattle.std.proofs.lemmas.Grind.{flat_map-append}
use Rattle.rubis_schema.specs.declared.row_keys.RowKey.TheVariants as key
use Rattle.rubis_shard.specs.Listed.{key_number, key_place, key_seq, key_site, listed_key, place_of, FitsKey, IsListed, categories_among, categories_of}
use Rattle.rubis_shard.specs.Listed.{listed_among, listed_of, picked_by, shows, table_with}
use Rattle.rubis_shard.specs.declared.listed_rows.ListedTable.{ListedTable}
use Rattle.rubis_shard.specs.declared.listed_rows.ListedTable.TheVariants as listed
use Rattle.std.specs.FinMap as map
use Rattle.rubis_schema.specs.declared.listings.Listing.TheVariants as listing
use Rattle.rubis_schema.specs.declared.row_keys.Table.TheVariants as table
use Rattle.rubis_shard.specs.Holdings.{AreInOrder, union}
use Rattle.rubis_shard.specs.Rows.{entries_of as entries_in, kept_of, rows_with, tables_in}
use Rattle.rubis_shard.specs.declared.row_map.Rows.{Rows}
use Rattle.rubis_shard.proofs.OneTable.{ids_listed}
use Rattle.rubis_shard.specs.States.{ShardState, HoldsOwnRows}
use Rattle.rubis_shard.proofs.Listing.{all_distinct, both, sorted_distinct}
use Rattle.rubis_shard.proofs.Shuffled.{shuffled}
use Rattle.rubis_shard.proofs.Unions.{entries_of, from_first}
use Rattle.rubis_shard.specs.Chains.{lent_row}

pub below_or_last : (k n : ℕ) → k < n + 1 → (k < n) ⊎ (k ≡ n)
below_or_last zero zero l = inr refl
below_or_last zero (suc n) l = inl (omega arith)
below_or_last (suc k) zero l = absurd (omega arith)
below_or_last (suc k) (suc n) l = ⊎_elim (λ b. inl (omega arith)) (λ e. inr (omega arith)) (below_or_last k n (omega arith))

pub no_items : {X : Type 0} (xs : List X) → length xs ≡ 0 → xs ≡ []
no_items [] e = refl
no_items (x ∷ xs) e = absurd (omega arith)

-- ---- one more, last
pub push_before : {X : Type 0} (xs : List X) (x : X) (k : ℕ) → k < length xs → slice_get (xs ++ x ∷ []) k ≡ slice_get xs k
push_before [] x k l = absurd (omega arith)
push_before (y ∷ xs) x zero l = refl
push_before (y ∷ xs) x (suc k) l = push_before xs x k (omega arith)

pub push_last : {X : Type 0} (xs : List X) (x : X) → slice_get (xs ++ x ∷ []) (length xs) ≡ Some x
push_last [] x = refl
push_last (y ∷ xs) x = push_last xs x

-- a list with each place as the function says, and one more
pub each_more : {X : Type 0} (f : ℕ → X) (xs ys : List X) (n : ℕ) (x : X) → ys ≡ xs ++ x ∷ [] → length xs ≡ n → x ≡ f n
    → ((k : ℕ) → k < n → slice_get xs k ≡ Some (f k)) → (k : ℕ) → k < n + 1 → slice_get ys k ≡ Some (f k)
each_more f xs ys n x more many is each k l = ap (λ zs. slice_get zs k) more ∙ ⊎_elim
    (λ b. push_before xs x k (omega arith) ∙ each k b)
    (λ e. ap (slice_get (xs ++ x ∷ [])) (e ∙ sym many) ∙ push_last xs x ∙ ap Some (is ∙ ap f (sym e)))
    (below_or_last k n l)

-- ---- one written
pub written_here : {X : Type 0} (xs : List X) (i : ℕ) (x : X) → i < length xs → slice_get (set xs i x) i ≡ Some x
written_here xs i x l = slice_get-get_or (set xs i x) i x (let w = length-set xs i x in omega (arith, w, l))
    ∙ ap Some (get_or-set_same xs i x x l)

pub written_elsewhere : {X : Type 0} (xs : List X) (i k : ℕ) (x : X) → ¬ (k ≡ i) → k < length xs
    → slice_get (set xs i x) k ≡ slice_get xs k
written_elsewhere xs i k x other l =
    slice_get-get_or (set xs i x) k x (let w = length-set xs i x in omega (arith, w, l))
    ∙ ap Some (get_or-set_other xs i k x x other) ∙ sym (slice_get-get_or xs k x l)

-- ---- the order of the keys that listings show is that of their numbers

-- ---- the order of numbers of three digits, digit by digit
digit : (a b : ℕ) (o r : Ordering) → (a ≡ b) ⊎ ((a < b) ⊎ (b < a)) → (a ≡ b → o ≡ r) → (a < b → o ≡ Less) → (b < a → o ≡ Greater)
    → o ≡ ordering_then (nat_cmp a b) r
digit a b o r (inl e) same less greater = same e ∙ ap (λ x. ordering_then x r) (nat_cmp_is a b Equal e)
digit a b o r (inr (inl l)) same less greater = less l ∙ ap (λ x. ordering_then x r) (nat_cmp_is a b Less l)
digit a b o r (inr (inr g)) same less greater = greater g ∙ ap (λ x. ordering_then x r) (nat_cmp_is a b Greater g)

compared : (p s n q t m : ℕ) → (s ≤ 255) × (n ≤ 4294967295) → (t ≤ 255) × (m ≤ 4294967295)
    → nat_cmp (p * 2 ^ 40 + s * 2 ^ 32 + n) (q * 2 ^ 40 + t * 2 ^ 32 + m) ≡ slice_cmp nat_cmp (p ∷ s ∷ n ∷ []) (q ∷ t ∷ m ∷ [])
compared p s n q t m few many =
    let a = p * 2 ^ 40 + s * 2 ^ 32 + n in
    let b = q * 2 ^ 40 + t * 2 ^ 32 + m in
    let below : a < b → nat_cmp a b ≡ Less = λ l. sym (nat_cmp_is a b Less l) in
    let above : b < a → nat_cmp a b ≡ Greater = λ g. sym (nat_cmp_is a b Greater g) in
    digit p q _ _ (cases_order p q)
    (λ e. digit s t _ _ (cases_order s t)
    (λ f. digit n m _ _ (cases_order n m)
    (λ g. sym (nat_cmp_is a b Equal (omega (arith, e, f, g))))
    (λ l. below (omega (arith, e, f, l)))
    (λ l. above (omega (arith, e, f, l))))
    (λ l. below (omega (arith, e, l, few, many)))
    (λ l. above (omega (arith, e, l, few, many))))
    (λ l. below (omega (arith, l, few, many)))
    (λ l. above (omega (arith, l, few, many)))

-- ---- the keys that listings show
limits : (k : RowKey) → IsListed k → (key_site k ≤ 255) × (key_seq k ≤ 4294967295)
limits (key.Nick n) h = absurd h
limits k h = h

by_digits : (k l : RowKey) → IsListed k → IsListed l
    → slice_cmp nat_cmp (key_place k ∷ key_site k ∷ key_seq k ∷ []) (key_place l ∷ key_site l ∷ key_seq l ∷ []) ≡ key_order k l
unfolding key_order
by_digits (key.Nick n) l h g = absurd h
by_digits k (key.Nick n) h g = absurd g
by_digits k l h g = refl

pub ordered : (k l : RowKey) → IsListed k → IsListed l → nat_cmp (key_number k) (key_number l) ≡ key_order k l
ordered k l h g =
    compared (key_place k) (key_site k) (key_seq k) (key_place l) (key_site l) (key_seq l) (limits k h) (limits l g) ∙ by_digits k l h g

-- ---- their parts
pub numbered : (t : ListedTable) (s n : ℕ) → FitsKey t s n → place_of t * 2 ^ 40 + s * 2 ^ 32 + n ≡ key_number (listed_key t s n)
numbered listed.Cat s n fits = ap (λ m. 5 * 2 ^ 40 + m * 2 ^ 32 + n) fits.0
numbered t s n fits = refl

pub is_listed : (t : ListedTable) (s n : ℕ) → s ≤ 255 → n ≤ 4294967295 → IsListed (listed_key t s n)
is_listed listed.Cat s n few many = (omega arith, many)
is_listed t s n few many = (few, many)

-- ---- the rows that match a listing, put in key order

abbrev pub Entries : Type 0
Entries = List (RowKey × Row)

-- ---- what is found among the entries that pass a test
pub missing : (q : RowKey) (es : Entries) → AllByRecursion (λ y. key_eq q y ≡ false) (keys_of es) → lookup (key_eq q) es ≡ None
missing q [] h = refl
missing q (e ∷ es) h = ap (λ b. cond b (Some e.1) (lookup (key_eq q) es)) h.0 ∙ missing q es h.1

-- what is found, if it passes
passing : (RowKey × Row → Bool) → RowKey → Option Row → Option Row
passing p q None = None
passing p q (Some v) = cond (p (q, v)) (Some v) None

join_tests : (a b : Bool) → T a → T b → T (a && b)
join_tests true b h g = g
join_tests false b h g = absurd h

module _ (p : RowKey × Row → Bool) where
  found : (q : RowKey) (es : Entries) → IsDistinct key_eq (keys_of es)
      → lookup (key_eq q) (filter p es) ≡ passing p q (lookup (key_eq q) es)
  unfolding IsDistinct passing
  found q [] d = refl
  found q (e ∷ es) d = at (key_eq q e.0) (p e) refl refl (found q es d.1)
    where
      at : (t b : Bool) → key_eq q e.0 ≡ t → p e ≡ b
          → lookup (key_eq q) (filter p es) ≡ passing p q (lookup (key_eq q) es)
          → lookup (key_eq q) (cond (p e) (e ∷ filter p es) (filter p es))
          ≡ passing p q (cond (key_eq q e.0) (Some e.1) (lookup (key_eq q) es))
      at true true is pass rest =
          ap (λ b. lookup (key_eq q) (cond b (e ∷ filter p es) (filter p es))) pass
          ∙ ap (λ b. cond b (Some e.1) (lookup (key_eq q) (filter p es))) is
          ∙ ap (λ b. cond b (Some e.1) None) (sym pass ∙ ap (λ k. p (k, e.1)) (sym ((Decides-key_eq q e.0).0 is)))
          ∙ ap (λ b. passing p q (cond b (Some e.1) (lookup (key_eq q) es))) (sym is)
      at true false is fail rest =
          ap (λ b. lookup (key_eq q) (cond b (e ∷ filter p es) (filter p es))) fail
          ∙ rest
          ∙ ap (passing p q) (ap (λ k. lookup (key_eq k) es) ((Decides-key_eq q e.0).0 is) ∙ missing e.0 es d.0)
          ∙ ap (λ b. cond b (Some e.1) None) (sym fail ∙ ap (λ k. p (k, e.1)) (sym ((Decides-key_eq q e.0).0 is)))
          ∙ ap (λ b. passing p q (cond b (Some e.1) (lookup (key_eq q) es))) (sym is)
      at false true not pass rest =
          ap (λ b. lookup (key_eq q) (cond b (e ∷ filter p es) (filter p es))) pass
          ∙ ap (λ b. cond b (Some e.1) (lookup (key_eq q) (filter p es))) not
          ∙ rest
          ∙ ap (λ b. passing p q (cond b (Some e.1) (lookup (key_eq q) es))) (sym not)
      at false false not fail rest =
          ap (λ b. lookup (key_eq q) (cond b (e ∷ filter p es) (filter p es))) fail
          ∙ rest
          ∙ ap (λ b. passing p q (cond b (Some e.1) (lookup (key_eq q) es))) (sym not)

  below_passing : (x : RowKey) (es : Entries) → T (below_all key_order x es) → T (below_all key_order x (filter p es))
  below_passing x [] h = tt
  below_passing x (e ∷ es) h =
      let w = both (is_lt (key_order x e.0)) (below_all key_order x es) h in
      let rest = below_passing x es w.1 in
      elim (p e) as (λ b. T (below_all key_order x (cond b (e ∷ filter p es) (filter p es)))) [
        | true ↦ join_tests _ _ w.0 rest
        | false ↦ rest
      ]

  sorted_passing : (es : Entries) → T (is_sorted key_order es) → T (is_sorted key_order (filter p es))
  sorted_passing [] h = tt
  sorted_passing (e ∷ es) h =
      let w = both (below_all key_order e.0 es) (is_sorted key_order es) h in
      let rest = sorted_passing es w.1 in
      elim (p e) as (λ b. T (is_sorted key_order (cond b (e ∷ filter p es) (filter p es)))) [
        | true ↦ join_tests _ _ (below_passing e.0 es w.0) rest
        | false ↦ rest
      ]

  -- the tables of the entries that pass
  pub entries_passing : (es : Entries) → IsDistinct key_eq (keys_of es)
      → map.entries (tables_of (filter p es)) ≡ filter p (map.entries (tables_of es))
  entries_passing es d =
      let m = tables_of es in
      let rows = map.entries m in
      let in_order = sorted_passing rows (map.entries_sorted m) in
      let same : tables_of (filter p es) ≡ map.from_sorted {R = key_order} (filter p rows) = same_tables _ _ (λ q.
      get_tables_of (filter p es) q
      ∙ found q es d
      ∙ ap (passing p q) (sym (get_tables_of es q) ∙ map.get-entries m q ∙ lookup_find rows q)
      ∙ sym (found q rows (sorted_distinct rows (map.entries_sorted m)))
      ∙ sym (lookup_find (filter p rows) q)
      ∙ sym (map.get-from_sorted key_order (filter p rows) q in_order)) in
      ap map.entries same ∙ map.entries-from_sorted key_order _ in_order

-- the entries of one table that pass a test, put in key order
pub passing_listed : (p : RowKey × Row → Bool) (t : Table) (es gs : Entries) → IsDistinct key_eq (keys_of es)
    → IsPermutation (filter (λ e. holds t e.0) (filter p es)) gs
    → IsSortedByKey first_of key_order gs → gs ≡ filter (λ e. holds t e.0) (filter p (map.entries (tables_of es)))
passing_listed p t es gs distinct moved sorted =
    rows_listed t (filter p es) gs (IsDistinct-keys_filter key_eq p es distinct) moved sorted
    ∙ ap (filter (λ (e : RowKey × Row). holds t e.0)) (entries_passing p es distinct)

-- those that match a listing
pub picked_listed : (l : Listing) (t : Table) (es gs : Entries) → IsDistinct key_eq (keys_of es)
    → IsPermutation (filter (λ e. holds t e.0) (picked_by l es)) gs
    → IsSortedByKey first_of key_order gs → gs ≡ listed_of l t (tables_of es)
picked_listed l t es gs distinct moved sorted = passing_listed (λ (e : RowKey × Row). is_of l e.0 e.1) t es gs distinct moved sorted

-- ---- a map has the entries that it was made of, in some order
made_shuffled : (es : Entries) → IsDistinct key_eq (keys_of es) → IsPermutation es (map.entries (tables_of es))
made_shuffled es distinct =
    let rows = map.entries (tables_of es) in
    shuffled es rows distinct (sorted_distinct rows (map.entries_sorted (tables_of es)))
    (λ q. sym (get_tables_of es q) ∙ map.get-entries (tables_of es) q ∙ lookup_find rows q)

pub passing_shuffled : (p : RowKey × Row → Bool) (t : Table) (es : Entries) → IsDistinct key_eq (keys_of es)
    → IsPermutation (filter (λ e. holds t e.0) (filter p es)) (filter (λ e. holds t e.0) (filter p (map.entries (tables_of es))))
passing_shuffled p t es distinct =
    let h = λ (e : RowKey × Row). holds t e.0 in
    let passed = IsDistinct-keys_filter key_eq p es distinct in
    subst (IsPermutation (filter h (filter p es)))
    (entries_passing h (filter p es) passed ∙ ap (filter h) (entries_passing p es distinct))
    (made_shuffled (filter h (filter p es)) (IsDistinct-keys_filter key_eq h (filter p es) passed))

-- those of a listing are behind others, in any order
pub listed_behind : (l : Listing) (t : IdTable) (r : Rows) (before after : Entries) → IsDistinct key_eq (keys_of (entries_in r))
    → IsPermutation (before ++ listed_among l (table_with t) (kept_of (rows_with t r))) after
    → IsPermutation (before ++ listed_of l (table_with t) (tables_in r)) after
listed_behind l t r before after distinct moved =
    let found = listed_among l (table_with t) (entries_in r) in
    IsPermutation-trans _ (before ++ found) _
    (IsPermutation-append_right before _ found
    (IsPermutation-sym found _ (passing_shuffled (λ (e : RowKey × Row). is_of l e.0 e.1) (table_with t) (entries_in r) distinct)))
    (subst (λ es. IsPermutation (before ++ es) after) (ids_listed l r t) moved)

pub categories_behind : (r : Rows) (before : Entries) → IsDistinct key_eq (keys_of (entries_in r))
    → IsPermutation (before ++ categories_of (tables_in r)) (before ++ categories_among (entries_in r))
categories_behind r before distinct =
    let found = categories_among (entries_in r) in
    IsPermutation-append_right before _ found
    (IsPermutation-sym found _ (passing_shuffled (λ (e : RowKey × Row). shows e.1) table.Cats (entries_in r) distinct))

-- the entries of a map make it
remade : (m : Tables) → tables_of (map.entries m) ≡ m
remade m = same_tables _ _ (λ q. get_tables_of (map.entries m) q ∙ sym (lookup_find (map.entries m) q) ∙ sym (map.get-entries m q))

-- the rows of a listing, put in order once more
pub listed_again : (l : Listing) (t : Table) (m : Tables) (gs : Entries) → IsPermutation (listed_of l t m) gs
    → IsSortedByKey first_of key_order gs → gs ≡ listed_of l t m
listed_again l t m gs moved sorted =
    picked_listed l t (map.entries m) gs (sorted_distinct (map.entries m) (map.entries_sorted m)) moved sorted
    ∙ ap (listed_of l t) (remade m)

-- the listing of all rows shows each of them
picked_all : (es : Entries) → picked_by listing.Tables es ≡ es
picked_all [] = refl
picked_all (e ∷ es) = ap (λ fs. e ∷ fs) (picked_all es)

pub all_listed : (t : Table) (tables : Tables) → listed_of listing.Tables t tables ≡ rows_of t tables
all_listed t tables = ap (filter (λ (e : RowKey × Row). holds t e.0)) (picked_all (map.entries tables))

-- ---- shard by shard
abbrev pub passing_by_shard : (RowKey × Row → Bool) → Table → List ShardState → Entries
passing_by_shard p t ts = flat_map (λ (s : ShardState). filter (λ e. holds t e.0) (filter p (entries_of s))) ts

abbrev pub listed_by_shard : Listing → Table → List ShardState → Entries
listed_by_shard l t ts = flat_map (λ (s : ShardState). listed_of l t (part_of s.shards s.number s.folded.tables)) ts

abbrev pub categories_by_shard : List ShardState → Entries
categories_by_shard ts = flat_map (λ (s : ShardState). categories_of (part_of s.shards s.number s.folded.tables)) ts

passing_flat : (p : RowKey × Row → Bool) (t : Table) (ts : List ShardState)
    → filter (λ e. holds t e.0) (filter p (flat_map entries_of ts)) ≡ passing_by_shard p t ts
passing_flat p t [] = refl
passing_flat p t (s ∷ ts) =
    let h = λ (e : RowKey × Row). holds t e.0 in
    ap (filter h) (filter-append p (entries_of s) (flat_map entries_of ts))
    ∙ filter-append h (filter p (entries_of s)) (filter p (flat_map entries_of ts))
    ∙ ap (λ es. filter h (filter p (entries_of s)) ++ es) (passing_flat p t ts)

pub union_passing : (p : RowKey × Row → Bool) (t : Table) (ts : List ShardState) (gs : Entries) → AreInOrder ts
    → IsPermutation (passing_by_shard p t ts) gs
    → IsSortedByKey first_of key_order gs → gs ≡ filter (λ e. holds t e.0) (filter p (map.entries (union ts)))
union_passing p t ts gs order moved sorted =
    passing_listed p t (flat_map entries_of ts) gs (all_distinct (length ts) 0 ts (from_first ts order))
    (subst (λ es. IsPermutation es gs) (sym (passing_flat p t ts)) moved) sorted

pub union_picked : (l : Listing) (t : Table) (ts : List ShardState) (gs : Entries) → AreInOrder ts
    → IsPermutation (listed_by_shard l t ts) gs
    → IsSortedByKey first_of key_order gs → gs ≡ listed_of l t (union ts)
union_picked l t ts gs order moved sorted = union_passing (λ (e : RowKey × Row). is_of l e.0 e.1) t ts gs order moved sorted

pub union_categories : (ts : List ShardState) (gs : Entries) → AreInOrder ts
    → IsPermutation (categories_by_shard ts) gs
    → IsSortedByKey first_of key_order gs → gs ≡ categories_of (union ts)
union_categories ts gs order moved sorted = union_passing (λ (e : RowKey × Row). shows e.1) table.Cats ts gs order moved sorted

-- ---- one shard more
pub listed_one_more : (l : Listing) (t : Table) (ts : List ShardState) (i : ℕ) (s : ShardState) → i < length ts → s ≡ slice_index_or ts i s
    → HoldsOwnRows s → listed_by_shard l t (take (i + 1) ts) ≡ listed_by_shard l t (take i ts) ++ listed_of l t s.folded.tables
listed_one_more l t ts i s within is own =
    let f = λ (x : ShardState). listed_of l t (part_of x.shards x.number x.folded.tables) in
    ap (flat_map f) (take_more ts i s within ∙ ap (λ (x : ShardState). take i ts ++ x ∷ []) (sym is))
    ∙ flat_map-append f (take i ts) (s ∷ [])
    ∙ ap (λ es. flat_map f (take i ts) ++ es) (append-nil (f s) ∙ ap (listed_of l t) own)

pub categories_one_more : (ts : List ShardState) (i : ℕ) (s : ShardState) → i < length ts → s ≡ slice_index_or ts i s
    → HoldsOwnRows s → categories_by_shard (take (i + 1) ts) ≡ categories_by_shard (take i ts) ++ categories_of s.folded.tables
categories_one_more ts i s within is own =
    let f = λ (x : ShardState). categories_of (part_of x.shards x.number x.folded.tables) in
    ap (flat_map f) (take_more ts i s within ∙ ap (λ (x : ShardState). take i ts ++ x ∷ []) (sym is))
    ∙ flat_map-append f (take i ts) (s ∷ [])
    ∙ ap (λ es. flat_map f (take i ts) ++ es) (append-nil (f s) ∙ ap categories_of own)

-- what the shards so far have, and one more adds
pub shuffled_more : (before found after more new : Entries) → IsPermutation before found → more ≡ before ++ after
    → IsPermutation (found ++ after) new → IsPermutation more new
shuffled_more before found after more new moved is added =
    subst (λ es. IsPermutation es new) (sym is) (IsPermutation-trans _ (found ++ after) _ (IsPermutation-append_left after before found moved) added)

-- ---- keys with rows that are lent, in key order

abbrev pub Lent : Type 0
Lent = RowKey × Bor Row

pub shown_in_order : (xs : List Lent) → IsSortedByKey (λ x. x.0) key_order xs → IsSortedByKey first_of key_order (each lent_row xs)
shown_in_order [] sorted k d low high = absurd (omega arith)
shown_in_order (x ∷ xs) sorted k d low high =
    let many = length-map (x ∷ xs) lent_row in
    let within : k + 1 < length (x ∷ xs) = omega arith in
    let first = get_or-map lent_row (x ∷ xs) k x d (omega arith) in
    let second = get_or-map lent_row (x ∷ xs) (k + 1) x d within in
    let es = each lent_row (x ∷ xs) in
    ap (λ e. is_lt (key_order e.0 (slice_index_or es k d).0)) second
    ∙ ap (λ e. is_lt (key_order (slice_index_or (x ∷ xs) (k + 1) x).0 e.0)) first
    ∙ sorted k x low within
