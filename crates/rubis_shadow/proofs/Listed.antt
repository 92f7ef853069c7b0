-- The entries of one table, put in key order, are its rows.
use Rattle.std.proofs.Common.{◌≡◌, ◌+◌, ◌<◌, true, false, rules, arith, refl, sym, ap, ◌∙◌, List, [], ◌∷◌, map as each, length, cond, Bor}
use Rattle.std.specs.Prelude.{Some, None, Option, filter, slice_index_or}
use Rattle.std.specs.List.{IsDistinct}
use Rattle.std.specs.List.Sorted.{IsPermutation, IsSortedByKey, IsStrictlySortedBy}
use Rattle.std.specs.Map.{keys_of, lookup}
use Rattle.std.specs.Map.Iter.{deref_pair}
use Rattle.std.specs.Ordering.{is_lt, is_eq, ordering_reverse}
use Rattle.std.specs.declared.cmp.Ordering.{Ordering}
use Rattle.std.specs.declared.cmp.Ordering.TheVariants.{Less, Equal, Greater}
use Rattle.std.specs.FinMap as map
use Rattle.std.specs.FinMap.Entries.{is_sorted-where_key}
use Rattle.std.proofs.lemmas.List.{get_or-map, length-map}
use Rattle.std.proofs.lemmas.List.Sorted.{IsPermutation-map, IsPermutation-sym, Contains-permutation}
use Rattle.std.proofs.lemmas.Map.Keys.{IsDistinct-IsPermutation, apart_from_distinct, sorted_from_all_adjacent}
use Rattle.std.proofs.lemmas.Map.Entries.{lookup-filter-keys}
use Rattle.std.proofs.lemmas.Map.Made.{IsDistinct-keys_filter}
use Rattle.std.proofs.lemmas.Map.Views.{lookup-from_Contains, Contains-from_lookup}
use Rattle.rubis_schema.specs.Keys.{holds, key_eq, key_order}
use Rattle.rubis_schema.specs.KeyLaws.{key_total, key_antisymmetric, key_eq_equiv, Decides-key_eq, tied-key_eq}
use Rattle.rubis_schema.specs.declared.row_keys.RowKey.{RowKey}
use Rattle.rubis_schema.specs.declared.row_keys.RowKey.TheVariants as key
use Rattle.rubis_schema.specs.declared.row_keys.Table.{Table}
use Rattle.rubis_schema.specs.declared.rows.Row.{Row}
use Rattle.rubis_shadow.specs.Tables.{new_category, rows_of}
use Rattle.rubis_shadow.proofs.Entries.{entries_of_sorted, first_of}
use Rattle.rubis_shadow.proofs.Rows.{tables_of, lookup_find, get_tables_of}

abbrev Entries : Type 0
Entries = List (RowKey × Row)

-- two keys that are not one, of which the second isn't before the first
before : (r s : Ordering) → s ≡ ordering_reverse r → is_lt s ≡ false → is_eq r ≡ false → r ≡ Less
before Less s turned late apart = refl
before Equal s turned late apart = absurd (search rules)
before Greater s turned late apart = absurd (search rules)

-- keys in order that are distinct strictly rise
rises : (es : Entries) → IsSortedByKey first_of key_order es → IsDistinct key_eq (keys_of es) → IsStrictlySortedBy key_order (keys_of es)
rises es sorted distinct = sorted_from_all_adjacent key_total (keys_of es) (key.Cat 0) (λ k in_keys.
    let d : RowKey × Row = (key.Cat 0, new_category) in
    let many = length-map es first_of in
    let within : k + 1 < length es = omega arith in
    let first : slice_index_or (keys_of es) k (key.Cat 0) ≡ (slice_index_or es k d).0 = get_or-map first_of es k d (key.Cat 0) (omega arith) in
    let second : slice_index_or (keys_of es) (k + 1) (key.Cat 0) ≡ (slice_index_or es (k + 1) d).0 = get_or-map first_of es (k + 1) d (key.Cat 0) within in
    let a = slice_index_or (keys_of es) k (key.Cat 0) in
    let b = slice_index_or (keys_of es) (k + 1) (key.Cat 0) in
    let late : is_lt (key_order b a) ≡ false = ap (λ x. is_lt (key_order x a)) second ∙ ap (λ x. is_lt (key_order (slice_index_or es (k + 1) d).0 x)) first
    ∙ sorted k d (omega arith) within in
    let apart : key_eq a b ≡ false = apart_from_distinct key_eq (keys_of es) k (k + 1) (key.Cat 0) distinct (omega arith) in_keys in
    before (key_order a b) (key_order b a) (key_total.antisymm b a) late (tied-key_eq a b ∙ apart))

-- what is found at a key doesn't hang on the order of the entries
found : (q : RowKey) (v : Row) (es fs : Entries) → IsDistinct key_eq (keys_of fs) → IsPermutation es fs → lookup (key_eq q) es ≡ Some v → lookup (key_eq q) fs
    ≡ Some v
found q v es fs distinct moved here = lookup-from_Contains key_eq_equiv q v fs distinct
    (Contains-permutation es fs (q, v) moved (Contains-from_lookup (λ x y e. (Decides-key_eq x y).0 e) q v es here))

same_found : (q : RowKey) (es fs : Entries) → IsDistinct key_eq (keys_of es) → IsDistinct key_eq (keys_of fs) → IsPermutation es fs → (a b : Option Row) →
    lookup (key_eq q) es ≡ a → lookup (key_eq q) fs ≡ b → a ≡ b
same_found q es fs d h moved (Some v) b a_is b_is = sym (found q v es fs h moved a_is) ∙ b_is
same_found q es fs d h moved None None a_is b_is = refl
same_found q es fs d h moved None (Some w) a_is b_is = sym a_is ∙ found q w fs es d (IsPermutation-sym es fs moved) b_is

-- keys that are one are in one table
one_table : (t : Table) (q k : RowKey) → key_eq q k ≡ true → holds t k ≡ holds t q
one_table t q k e = ap (holds t) (sym ((Decides-key_eq q k).0 e))

-- what is found among the rows of one table
found_in : (t : Table) (es : Entries) (q : RowKey) → lookup (key_eq q) (filter (λ e. holds t e.0) es) ≡ cond (holds t q) (lookup (key_eq q) es) None
found_in t es q = lookup-filter-keys (key_eq q) (holds t) (holds t q) (one_table t q) es

pub rows_listed : (t : Table) (es gs : Entries) → IsDistinct key_eq (keys_of es) → IsPermutation (filter (λ e. holds t e.0) es) gs →
    IsSortedByKey first_of key_order gs → gs ≡ rows_of t (tables_of es)
rows_listed t es gs distinct moved sorted =
    let fs = filter (λ (e : RowKey × Row). holds t e.0) es in
    let few : IsDistinct key_eq (keys_of fs) = IsDistinct-keys_filter key_eq (λ e. holds t e.0) es distinct in
    let same : IsDistinct key_eq (keys_of gs) = IsDistinct-IsPermutation key_eq key_eq_equiv.symm (keys_of fs) (keys_of gs)
    (IsPermutation-map first_of fs gs moved) few in
    let m = tables_of es in
    let in_order = is_sorted-where_key key_order (holds t) (map.entries m) (map.entries_sorted m) in
    let one : map.from_entries {R = key_order} gs ≡ map.from_sorted {R = key_order} (rows_of t m) = map.same_map key_total key_antisymmetric _ _ (λ q.
    get_tables_of gs q
    ∙ sym (same_found q fs gs few same moved _ _ refl refl)
    ∙ found_in t es q
    ∙ ap (λ o. cond (holds t q) o None) (sym (get_tables_of es q) ∙ map.get-entries m q ∙ lookup_find (map.entries m) q)
    ∙ sym (found_in t (map.entries m) q)
    ∙ sym (lookup_find (rows_of t m) q)
    ∙ sym (map.get-from_sorted key_order (rows_of t m) q in_order)) in
    sym (entries_of_sorted gs (rises gs sorted same)) ∙ ap map.entries one ∙ map.entries-from_sorted key_order (rows_of t m) in_order

-- a key and a row, lent
abbrev pub Lent : Type 0
Lent = Bor RowKey × Bor Row

-- lent rows in key order show rows in key order
pub shown_in_order : (xs : List Lent) → IsSortedByKey (λ x. x.0.now) key_order xs → IsSortedByKey first_of key_order (each deref_pair xs)
shown_in_order [] sorted k d low high = absurd (omega arith)
shown_in_order (x ∷ xs) sorted k d low high =
    let many = length-map (x ∷ xs) deref_pair in
    let within : k + 1 < length (x ∷ xs) = omega arith in
    let first = get_or-map deref_pair (x ∷ xs) k x d (omega arith) in
    let second = get_or-map deref_pair (x ∷ xs) (k + 1) x d within in
    let es = each deref_pair (x ∷ xs) in
    ap (λ e. is_lt (key_order e.0 (slice_index_or es k d).0)) second
    ∙ ap (λ e. is_lt (key_order (slice_index_or (x ∷ xs) (k + 1) x).0.now e.0)) first
    ∙ sorted k x low within
