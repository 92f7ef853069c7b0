-- The rows of one table, shard by shard, put in key order, are those of the union.
use Rattle.rubis_shard.proofs.Common.{◌≡◌, ℕ, ◌+◌, ◌<◌, ◌≤◌, Bool, true, false, cond, refl, sym, ap, ◌∙◌, subst, arith, List, [], ◌∷◌, ◌++◌, length}
use Rattle.rubis_shard.proofs.Common.{T, None, ◌&&◌, nat_eq, filter, flat_map, AllByRecursion, IsDistinct, IsPermutation, IsSortedByKey, keys_of}
use Rattle.rubis_shard.proofs.Common.{is_lt, Ordering, Less, Equal, Greater, below_all, is_sorted, Decides-eqb, filter-append, holds, home, key_eq}
use Rattle.rubis_shard.proofs.Common.{key_order, Decides-key_eq, Tables, RowKey, Table, Row, rows_of, first_of, rows_listed, part_of, same_tables}
use Rattle.rubis_shard.proofs.Common.{get-part_of}
use Rattle.std.specs.Ordering.{is_eq}
use Rattle.std.specs.FinMap.Entries.{is_sorted-where_key, find-where_key}
use Rattle.rubis_schema.specs.KeyLaws.{key_antisymmetric, tied-key_eq}
use Rattle.std.specs.FinMap as map
use Rattle.rubis_shard.specs.States.{ShardState}
use Rattle.rubis_shard.specs.Holdings.{AreInOrder, union}
use Rattle.rubis_shard.proofs.Unions.{AreFrom, entries_of, from_rest, from_first}

abbrev Entries : Type 0
Entries = List (RowKey × Row)

-- ---- keys that differ
pub both : (a b : Bool) → T (a && b) → T a × T b
both true b h = (tt, h)
both false b h = absurd h

less_apart : (o : Ordering) → T (is_lt o) → is_eq o ≡ false
less_apart Less h = refl
less_apart Equal h = absurd h
less_apart Greater h = absurd h

below_apart : (x : RowKey) (es : Entries) → T (below_all key_order x es) → AllByRecursion (λ y. key_eq x y ≡ false) (keys_of es)
below_apart x [] h = tt
below_apart x (e ∷ es) h = let w = both (is_lt (key_order x e.0)) (below_all key_order x es) h in (
  sym (tied-key_eq x e.0)
      ∙ less_apart (key_order x e.0) w.0,
  below_apart x es w.1,
)

pub sorted_distinct : (es : Entries) → T (is_sorted key_order es) → IsDistinct key_eq (keys_of es)
unfolding IsDistinct
sorted_distinct [] h = tt
sorted_distinct (e ∷ es) h = let w = both (below_all key_order e.0 es) (is_sorted key_order es) h in
    (below_apart e.0 es w.0, sorted_distinct es w.1)

all_append : {X : Type 0} (P : X → Type 0) (xs ys : List X) → AllByRecursion P xs → AllByRecursion P ys
    → AllByRecursion P (xs ++ ys)
all_append P [] ys h k = k
all_append P (x ∷ xs) ys h k = (h.0, all_append P xs ys h.1 k)

all_weaker : {X : Type 0} (P Q : X → Type 0) → ((x : X) → P x → Q x) → (xs : List X) → AllByRecursion P xs → AllByRecursion Q xs
all_weaker P Q w [] h = tt
all_weaker P Q w (x ∷ xs) h = (w x h.0, all_weaker P Q w xs h.1)

-- keys with different homes
homes_apart : (shards : ℕ) (x y : RowKey) → home shards x < home shards y → key_eq x y ≡ false
homes_apart shards x y l = at (key_eq x y) refl
  where
    at : (b : Bool) → key_eq x y ≡ b → key_eq x y ≡ false
    at true e = let s = ap (home shards) ((Decides-key_eq x y).0 e) in absurd (omega (arith, l, s))
    at false e = e

distinct_append : (shards n : ℕ) (xs ys : List RowKey) → IsDistinct key_eq xs → IsDistinct key_eq ys
    → AllByRecursion (λ q. home shards q ≡ n) xs → AllByRecursion (λ q. n + 1 ≤ home shards q) ys → IsDistinct key_eq (xs ++ ys)
unfolding IsDistinct
distinct_append shards n [] ys dx dy hx hy = dy
distinct_append shards n (x ∷ xs) ys dx dy hx hy = (
  all_append _ xs ys dx.0 (all_weaker _ _ (λ y l. let e = hx.0 in homes_apart shards x y (omega (arith, l, e))) ys hy),
  distinct_append shards n xs ys dx.1 dy hx.1 hy,
)

keys_append : (es fs : Entries) → keys_of (es ++ fs) ≡ keys_of es ++ keys_of fs
keys_append [] fs = refl
keys_append (e ∷ es) fs = ap (λ ks. e.0 ∷ ks) (keys_append es fs)

-- ---- the entries of one shard
module _ (shards k : ℕ) (t : Tables) where
  abbrev at_home : RowKey → Bool
  at_home q = nat_eq (home shards q) k

  entries_at_home : map.entries (part_of shards k t) ≡ filter (λ e. at_home e.0) (map.entries t)
  entries_at_home =
      let in_order = is_sorted-where_key key_order at_home (map.entries t) (map.entries_sorted t) in
      let same : part_of shards k t ≡ map.from_sorted {R = key_order} (filter (λ e. at_home e.0) (map.entries t)) = same_tables
      _ _ (λ q.
      get-part_of shards k t q
      ∙ ap (λ o. cond (at_home q) o None) (map.get-entries t q)
      ∙ sym (find-where_key key_order at_home q (λ x e. ap at_home (sym (key_antisymmetric q x e))) (map.entries t))
      ∙ sym (map.get-from_sorted key_order (filter (λ e. at_home e.0) (map.entries t)) q in_order)) in
      ap map.entries same ∙ map.entries-from_sorted key_order _ in_order

  kept_at_home : (es : Entries) → AllByRecursion (λ q. home shards q ≡ k) (keys_of (filter (λ e. at_home e.0) es))
  kept_at_home [] = tt
  kept_at_home (e ∷ es) = elim (at_home e.0) as (λ b. at_home e.0 ≡ b
      → AllByRecursion (λ q. home shards q ≡ k) (keys_of (cond b (e ∷ filter (λ x. at_home x.0) es) (filter (λ x. at_home x.0)
      es)))) [
        | true ↦ λ h. ((Decides-eqb _ _).0 h, kept_at_home es)
        | false ↦ λ h. kept_at_home es
      ] refl

  all_at_home : AllByRecursion (λ q. home shards q ≡ k) (keys_of (map.entries (part_of shards k t)))
  all_at_home = subst (λ es. AllByRecursion (λ q. home shards q ≡ k) (keys_of es)) (sym entries_at_home) (kept_at_home
      (map.entries t))

-- ---- the entries of all shards
home_of_entries : (shards n : ℕ) (s : ShardState) → s.number ≡ n → s.shards ≡ shards
    → AllByRecursion (λ q. home shards q ≡ n) (keys_of (entries_of s))
home_of_entries shards n s number set = subst (λ m. AllByRecursion (λ q. home m q ≡ n) (keys_of (entries_of s))) set
    (subst (λ m. AllByRecursion (λ q. home s.shards q ≡ m) (keys_of (entries_of s))) number (all_at_home s.shards s.number
    s.folded.tables))

homes_from : (shards n : ℕ) (ts : List ShardState) → AreFrom shards n ts
    → AllByRecursion (λ q. n ≤ home shards q) (keys_of (flat_map entries_of ts))
homes_from shards n [] h = tt
homes_from shards n (t ∷ ts) h =
    let g = h 0 t refl in
    let numbered : t.number ≡ n = let z = g.0 in omega arith in
    subst (AllByRecursion (λ q. n ≤ home shards q)) (sym (keys_append (entries_of t) (flat_map entries_of ts)))
    (all_append _ _ _
    (all_weaker _ _ (λ q e. omega (arith, e)) _ (home_of_entries shards n t numbered g.1))
    (all_weaker _ _ (λ q l. omega (arith, l)) _ (homes_from shards (n + 1) ts (from_rest shards n t ts h))))

pub all_distinct : (shards n : ℕ) (ts : List ShardState) → AreFrom shards n ts → IsDistinct key_eq (keys_of (flat_map entries_of ts))
unfolding IsDistinct
all_distinct shards n [] h = tt
all_distinct shards n (t ∷ ts) h =
    let g = h 0 t refl in
    let numbered : t.number ≡ n = let z = g.0 in omega arith in
    let rest = from_rest shards n t ts h in
    subst (IsDistinct key_eq) (sym (keys_append (entries_of t) (flat_map entries_of ts)))
    (distinct_append shards n _ _ (sorted_distinct (entries_of t) (map.entries_sorted (part_of t.shards t.number
    t.folded.tables)))
    (all_distinct shards (n + 1) ts rest) (home_of_entries shards n t numbered g.1) (homes_from shards (n + 1) ts rest))

-- the rows of one table, shard by shard
abbrev pub rows_by_shard : Table → List ShardState → Entries
rows_by_shard table ts = flat_map (λ (s : ShardState). rows_of table (part_of s.shards s.number s.folded.tables)) ts

filter_flat : (table : Table) (ts : List ShardState)
    → filter (λ e. holds table e.0) (flat_map entries_of ts) ≡ rows_by_shard table ts
filter_flat table [] = refl
filter_flat table (t ∷ ts) =
    filter-append (λ e. holds table e.0) (entries_of t) (flat_map entries_of ts)
    ∙ ap (λ es. filter (λ e. holds table e.0) (entries_of t) ++ es) (filter_flat table ts)

pub union_listed : (table : Table) (ts : List ShardState) (gs : Entries) → AreInOrder ts
    → IsPermutation (rows_by_shard table ts) gs
    → IsSortedByKey first_of key_order gs → gs ≡ rows_of table (union ts)
union_listed table ts gs order moved sorted =
    rows_listed table (flat_map entries_of ts) gs (all_distinct (length ts) 0 ts (from_first ts order))
    (subst (λ es. IsPermutation es gs) (sym (filter_flat table ts)) moved) sorted
