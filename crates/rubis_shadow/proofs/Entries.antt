-- Entries in key order are the entries of their map.
use Rattle.std.proofs.Common.{◌≡◌, Bool, true, false, ◌&&◌, List, [], ◌∷◌, map, sym, ap, subst, ◌∙◌}
use Rattle.std.specs.Ordering.{is_lt}
use Rattle.std.specs.List.{AllByRecursion}
use Rattle.std.specs.List.Sorted.{IsStrictlySortedBy}
use Rattle.std.proofs.lemmas.Map.Keys.{sorted_head, sorted_tail}
use Rattle.std.specs.declared.cmp.Ordering.TheVariants.{Less}
use Rattle.std.specs.Prelude.{T}
use Rattle.std.specs.FinMap as map
use Rattle.std.specs.FinMap.Entries.{below_all, is_sorted}
use Rattle.rubis_schema.specs.Keys.{key_order}
use Rattle.rubis_schema.specs.KeyLaws.{key_total, key_antisymmetric}
use Rattle.rubis_schema.specs.declared.row_keys.RowKey.{RowKey}
use Rattle.rubis_schema.specs.declared.rows.Row.{Row}

abbrev pub first_of : RowKey × Row → RowKey
first_of e = e.0

both : (a b : Bool) → T a → T b → T (a && b)
both true b h g = g
both false b h g = absurd h

below : (x : RowKey) (es : List (RowKey × Row)) → AllByRecursion (λ y. key_order x y ≡ Less) (map first_of es) → T (below_all key_order x es)
below x [] h = tt
below x (e ∷ es) h = both _ _ (subst (λ r. T (is_lt r)) (sym h.0) tt) (below x es h.1)

sorted : (es : List (RowKey × Row)) → IsStrictlySortedBy key_order (map first_of es) → T (is_sorted key_order es)
sorted [] h = tt
sorted (e ∷ es) h = both _ _ (below e.0 es (sorted_head key_order e.0 (map first_of es) h)) (sorted es (sorted_tail key_order e.0 (map first_of es) h))

pub entries_of_sorted : (es : List (RowKey × Row)) → IsStrictlySortedBy key_order (map first_of es) → map.entries (map.from_entries {R = key_order} es) ≡ es
entries_of_sorted es h =
    let s = sorted es h in
    let same : map.from_entries {R = key_order} es
    ≡ map.from_sorted {R = key_order} es = map.same_map key_total key_antisymmetric _ _
    (λ q. map.get-from_entries key_total es q ∙ sym (map.get-from_sorted key_order es q s)) in
    ap map.entries same ∙ map.entries-from_sorted key_order es s
