-- Entries of a map as tables, in key order, and what one change does to them.
use Rattle.std.proofs.Common.{◌≡◌, ℕ, ◌+◌, ◌-◌, ◌<◌, ◌≤◌, suc, ◌∷◌, refl, ap, ◌∙◌, arith, rules, sym, List, [], Bool, true, false, cond}
use Rattle.rubis_schema.specs.declared.limits.TheConstants.{CATEGORIES}
use Rattle.rubis_schema.specs.declared.row_keys.RowKey.TheVariants as key
use Rattle.rubis_shadow.specs.Tables.{categories_from, new_category}
use Rattle.std.specs.Bool.{MatchBool}
use Rattle.std.specs.Prelude.{Some, None, Option, is_none}
use Rattle.std.specs.Ordering.{eq_by_cmp}
use Rattle.std.specs.Cmp.{Equal-is}
use Rattle.std.specs.Map.{lookup}
use Rattle.std.specs.FinMap as map
use Rattle.rubis_schema.specs.Keys.{key_eq, key_order, tied}
use Rattle.rubis_schema.specs.KeyLaws.{key_total, key_antisymmetric, key_eq_equiv, tied-key_eq}
use Rattle.rubis_schema.specs.Tables.{Tables}
use Rattle.rubis_schema.specs.declared.row_keys.RowKey.{RowKey}
use Rattle.rubis_schema.specs.declared.rows.Row.{Row}
use Rattle.rubis_shadow.specs.Changes.{change_row, after_part, fits_as, misfit_of, misfits_as, with_row, Done}
use Rattle.rubis_shadow.specs.declared.changes.Change.{Change}
use Rattle.rubis_shadow.specs.declared.changes.Change.TheVariants.{Insert}
use Rattle.rubis_shadow.specs.declared.changes.MisfitKind.TheVariants.{RowThere, NoRow}
use Rattle.rubis_shadow.specs.declared.keyed_change.Effect.{Effect}
use Rattle.rubis_shadow.specs.declared.changes.MisfitKind.{MisfitKind}

first_of : (k n : ℕ) → categories_from k (suc n) ≡ (key.Cat k, new_category) ∷ categories_from (k + 1) n
unfolding categories_from
first_of k n = refl

pub categories_more : (k : ℕ) → 0 < k → k ≤ CATEGORIES → categories_from (k - 1) (CATEGORIES - (k - 1))
    ≡ (key.Cat (k - 1), new_category) ∷ categories_from k (CATEGORIES - k)
categories_more k low high =
    let more : CATEGORIES - (k - 1) ≡ suc (CATEGORIES - k) = omega arith in
    let next : k - 1 + 1 ≡ k = omega arith in
    ap (categories_from (k - 1)) more ∙ first_of (k - 1) (CATEGORIES - k) ∙ ap (λ j. (key.Cat (k - 1), new_category) ∷ categories_from j (CATEGORIES - k)) next

-- ---- entries of a map as tables, and what one change does to them

-- a list of entries as tables
abbrev pub tables_of : List (RowKey × Row) → Tables
tables_of es = map.from_entries es

pub lookup_find : (es : List (RowKey × Row)) (q : RowKey) → map.find key_order q es ≡ lookup (key_eq q) es
lookup_find [] q = refl
lookup_find (e ∷ es) q =
    ap (λ b. cond b (Some e.1) (map.find key_order q es)) (tied-key_eq q e.0)
    ∙ ap (cond (key_eq q e.0) (Some e.1)) (lookup_find es q)

pub get_tables_of : (es : List (RowKey × Row)) (q : RowKey) → map.get (tables_of es) q ≡ lookup (key_eq q) es
get_tables_of es q = map.get-from_entries key_total es q ∙ lookup_find es q

-- entries that have v at k, and at each other key what es has
pub tables_of_update : (es fs : List (RowKey × Row)) (k : RowKey) (v : Row) →
    ((q : RowKey) → lookup (key_eq q) fs ≡ cond (key_eq k q) (Some v) (lookup (key_eq q) es)) → tables_of fs ≡ map.insert (tables_of es) k v
tables_of_update es fs k v h = map.same_map key_total key_antisymmetric _ _ (λ q.
    get_tables_of fs q ∙ h q
    ∙ ap (λ b. cond b (Some v) (lookup (key_eq q) es)) (key_eq_equiv.symm k q ∙ sym (tied-key_eq q k))
    ∙ ap (cond (tied q k) (Some v)) (sym (get_tables_of es q))
    ∙ sym (map.get-insert key_total (tables_of es) k v q))

-- entries that have nothing at k, and at each other key what es has
pub tables_of_remove : (es fs : List (RowKey × Row)) (k : RowKey) → ((q : RowKey) → lookup (key_eq q) fs ≡ cond (key_eq k q) None (lookup (key_eq q) es)) →
    tables_of fs ≡ map.remove (tables_of es) k
tables_of_remove es fs k h = map.same_map key_total key_antisymmetric _ _ (λ q.
    get_tables_of fs q ∙ h q
    ∙ ap (λ b. cond b None (lookup (key_eq q) es)) (key_eq_equiv.symm k q ∙ sym (tied-key_eq q k))
    ∙ ap (cond (tied q k) None) (sym (get_tables_of es q))
    ∙ sym (map.get-remove key_total (tables_of es) k q))

-- a change in place of a row that is there
pub after_alter : (t : Tables) (e : Effect) (old : Row) (new : Option Row) → map.get t e.key ≡ Some old → (change_row e.change (Some old)).row ≡ new →
    with_row t e.key new ≡ after_part t e
after_alter t e old new g r = ap (with_row t e.key) (sym r ∙ ap (λ (o : Option Row). (change_row e.change o).row) (sym g))

pub misfit_alter : (t : Tables) (e : Effect) (old : Row) (m : Option MisfitKind) → map.get t e.key ≡ Some old → (change_row e.change (Some old)).misfit ≡ m → m
    ≡ misfit_of t e
misfit_alter t e old m g r = sym r ∙ ap (λ (o : Option Row). (change_row e.change o).misfit) (sym g)

pub row_stays : (b : Bool) (row : Row) → b ≡ true → cond b (Some row) None ≡ Some row
row_stays b row e = ap (λ c. cond c (Some row) None) e

pub row_goes : (b : Bool) (row : Row) → b ≡ false → cond b (Some row) None ≡ None
row_goes b row e = ap (λ c. cond c (Some row) None) e

-- a row that was changed and then removed
none_twice : (b : Bool) (row : Row) (o : Option Row) → cond b None (cond b (Some row) o) ≡ cond b None o
none_twice true row o = refl
none_twice false row o = refl

pub remove_put : (t : Tables) (k : RowKey) (row : Row) → map.remove (map.insert t k row) k ≡ map.remove t k
remove_put t k row = map.same_map key_total key_antisymmetric _ _ (λ q.
    map.get-remove key_total (map.insert t k row) k q
    ∙ ap (cond (eq_by_cmp key_order q k) None) (map.get-insert key_total t k row q)
    ∙ none_twice (eq_by_cmp key_order q k) row (map.get t q)
    ∙ sym (map.get-remove key_total t k q))

-- no row is there
pub after_none : (t : Tables) (e : Effect) (d : Done) → map.get t e.key ≡ None → change_row e.change None ≡ d → with_row t e.key d.row ≡ after_part t e
after_none t e d g r = ap (λ (x : Done). with_row t e.key x.row) (sym r ∙ ap (change_row e.change) (sym g))

pub misfit_none : (t : Tables) (e : Effect) (d : Done) → map.get t e.key ≡ None → change_row e.change None ≡ d → d.misfit ≡ misfit_of t e
misfit_none t e d g r = ap (λ (x : Done). x.misfit) (sym r ∙ ap (change_row e.change) (sym g))

-- taking away a row that isn't there
put_nothing : (t : Tables) (k q : RowKey) → map.get t k ≡ None → (b : Bool) → eq_by_cmp key_order q k ≡ b → cond b None (map.get t q) ≡ map.get t q
put_nothing t k q g true e = sym g ∙ map.get_tied key_total t q k ((Equal-is (key_order q k)).0 e)
put_nothing t k q g false e = refl

pub remove_none : (t : Tables) (k : RowKey) → map.get t k ≡ None → map.remove t k ≡ t
remove_none t k g = map.same_map key_total key_antisymmetric _ _ (λ q. map.get-remove key_total t k q ∙ put_nothing t k q g _ refl)

-- an option that is none, and one that isn't
pub none_of : (o : Option Row) → true ≡ is_none o → o ≡ None
none_of None e = refl
none_of (Some row) e = absurd (search rules)

pub some_of : (o : Option Row) → false ≡ is_none o → (row : Row) × (o ≡ Some row)
some_of None e = absurd (search rules)
some_of (Some row) e = (row, refl)

-- putting a row where it is
put_same : (t : Tables) (k q : RowKey) (row : Row) → map.get t k ≡ Some row → (b : Bool) → eq_by_cmp key_order q k ≡ b → cond b (Some row) (map.get t q)
    ≡ map.get t q
put_same t k q row g true e = sym g ∙ map.get_tied key_total t q k ((Equal-is (key_order q k)).0 e)
put_same t k q row g false e = refl

pub insert_same : (t : Tables) (k : RowKey) (row : Row) → map.get t k ≡ Some row → map.insert t k row ≡ t
insert_same t k row g = map.same_map key_total key_antisymmetric _ _ (λ q. map.get-insert key_total t k row q ∙ put_same t k q row g _ refl)

-- an insert where a row is
refused : (h : Change) (row old : Row) → h ≡ Insert row → change_row h (Some old) ≡ misfits_as RowThere (Some old)
unfolding change_row
refused h row old e = ap (λ x. change_row x (Some old)) e

pub after_refused : (t : Tables) (e : Effect) (row old : Row) → map.get t e.key ≡ Some old → e.change ≡ Insert row → t ≡ after_part t e
after_refused t e row old g i = sym (insert_same t e.key old g)
    ∙ ap (λ (x : Done). with_row t e.key x.row) (sym (refused e.change row old i) ∙ ap (change_row e.change) (sym g))

pub misfit_refused : (t : Tables) (e : Effect) (row old : Row) → map.get t e.key ≡ Some old → e.change ≡ Insert row → Some RowThere ≡ misfit_of t e
misfit_refused t e row old g i = ap (λ (x : Done). x.misfit) (sym (refused e.change row old i) ∙ ap (change_row e.change) (sym g))

-- an insert at a free key, and every other change there
pub inserted : (h : Change) (row new : _) → h ≡ Insert row → new ≡ row → change_row h None ≡ fits_as new
unfolding change_row
inserted h row new e s = ap (λ x. change_row x None) e ∙ ap fits_as (sym s)

pub not_insert : (h : Change) → ((x : _) → h ≡ Insert x → ⊥) → change_row h None ≡ misfits_as NoRow None
unfolding change_row
not_insert (Insert x) d = absurd (d x refl)
not_insert change d = refl

pub put_then : (P Q : Type 0) → (put : Bool) → put ≡ true → MatchBool put P Q → P
put_then P Q true e m = m
put_then P Q false e m = absurd (search rules)

pub put_else : (P Q : Type 0) → (put : Bool) → put ≡ false → MatchBool put P Q → Q
put_else P Q true e m = absurd (search rules)
put_else P Q false e m = m
