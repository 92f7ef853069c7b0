-- The keys of a listing are those of its table whose rows it is of.
use Rattle.rubis_shard.proofs.Common.{◌≡◌, Bool, true, false, cond, [], ◌∷◌, refl, sym, ap, ◌∙◌, Option, Some, filter, AllByRecursion, IsDistinct}
use Rattle.rubis_shard.proofs.Common.{keys_of, lookup, holds, key_eq, Decides-key_eq, key_eq_equiv, Tables, RowKey, Table, Row, rows_of, lookup_find}
use Rattle.rubis_shard.proofs.Common.{is_of}
use Rattle.std.specs.FinMap as map
use Rattle.rubis_shard.specs.Groups.{group_of, is_of_row, listing_of, table_of_rows}
use Rattle.rubis_shard.specs.Listed.{listed_of, picked_by}
use Rattle.rubis_shard.specs.declared.groups.Group.{Group}
use Rattle.rubis_shard.proofs.InMaps.{Entries}
use Rattle.rubis_shard.proofs.Listing.{sorted_distinct}

itself : (k : RowKey) → key_eq k k ≡ true
itself k = (Decides-key_eq k k).1 refl

-- a look-up that finds each of the rows
Shows : (RowKey → Option Row) → Entries → Type 0
Shows get [] = Unit {0}
Shows get (e ∷ es) = (get e.0 ≡ Some e.1) × Shows get es

shows_more : (e : RowKey × Row) (fs es : Entries) → AllByRecursion (λ y. key_eq e.0 y ≡ false) (keys_of es)
    → Shows (λ k. lookup (key_eq k) fs) es → Shows (λ k. lookup (key_eq k) (e ∷ fs)) es
unfolding Shows
shows_more e fs [] apart h = tt
shows_more e fs (x ∷ es) apart h = (
  ap (λ b. cond b (Some e.1) (lookup (key_eq x.0) fs)) (key_eq_equiv.symm x.0 e.0 ∙ apart.0) ∙ h.0,
  shows_more e fs es apart.1 h.1,
)

shows : (es : Entries) → IsDistinct key_eq (keys_of es) → Shows (λ k. lookup (key_eq k) es) es
unfolding Shows IsDistinct
shows [] d = tt
shows (e ∷ es) d = (ap (λ b. cond b (Some e.1) (lookup (key_eq e.0) es)) (itself e.0), shows_more e es es d.0 (shows es d.1))

-- the keys of the rows that pass both tests, and the keys that pass them
keys_passing : (g : Group) (t : Table) (get : RowKey → Option Row) (es : Entries) → Shows get es
    → keys_of (filter (λ e. holds t e.0) (picked_by (listing_of g) es)) ≡ filter (λ k. is_of_row g k (get k)) (keys_of (filter (λ e. holds t e.0) es))
unfolding Shows
keys_passing g t get [] h = refl
keys_passing g t get (e ∷ es) h = at (is_of (listing_of g) e.0 e.1) (holds t e.0) refl refl (keys_passing g t get es h.1)
  where
    row : is_of_row g e.0 (get e.0) ≡ is_of (listing_of g) e.0 e.1
    row = ap (is_of_row g e.0) h.0

    picked : Entries
    picked = picked_by (listing_of g) es

    at : (b c : Bool) → is_of (listing_of g) e.0 e.1 ≡ b → holds t e.0 ≡ c
        → keys_of (filter (λ e. holds t e.0) (picked_by (listing_of g) es)) ≡ filter (λ k. is_of_row g k (get k)) (keys_of (filter (λ e. holds t e.0) es))
        → keys_of (filter (λ e. holds t e.0) (cond (is_of (listing_of g) e.0 e.1) (e ∷ picked_by (listing_of g) es) (picked_by (listing_of g) es)))
        ≡ filter (λ k. is_of_row g k (get k)) (keys_of (cond (holds t e.0) (e ∷ filter (λ e. holds t e.0) es) (filter (λ e. holds t e.0) es)))
    at true true is has rest =
        ap (λ b. keys_of (filter (λ x. holds t x.0) (cond b (e ∷ picked_by (listing_of g) es) (picked_by (listing_of g) es)))) is
        ∙ ap (λ b. keys_of (cond b (e ∷ filter (λ x. holds t x.0) (picked_by (listing_of g) es)) (filter (λ x. holds t x.0) (picked_by (listing_of g) es)))) has
        ∙ ap (λ ks. e.0 ∷ ks) rest
        ∙ ap (λ b. cond b (e.0 ∷ filter (λ k. is_of_row g k (get k)) (keys_of (filter (λ x. holds t x.0) es)))
        (filter (λ k. is_of_row g k (get k)) (keys_of (filter (λ x. holds t x.0) es)))) (sym (row ∙ is))
        ∙ ap (λ b. filter (λ k. is_of_row g k (get k)) (keys_of (cond b (e ∷ filter (λ x. holds t x.0) es) (filter (λ x. holds t x.0) es)))) (sym has)
    at true false is not rest =
        ap (λ b. keys_of (filter (λ x. holds t x.0) (cond b (e ∷ picked_by (listing_of g) es) (picked_by (listing_of g) es)))) is
        ∙ ap (λ b. keys_of (cond b (e ∷ filter (λ x. holds t x.0) (picked_by (listing_of g) es)) (filter (λ x. holds t x.0) (picked_by (listing_of g) es)))) not
        ∙ rest
        ∙ ap (λ b. filter (λ k. is_of_row g k (get k)) (keys_of (cond b (e ∷ filter (λ x. holds t x.0) es) (filter (λ x. holds t x.0) es)))) (sym not)
    at false true none has rest =
        ap (λ b. keys_of (filter (λ x. holds t x.0) (cond b (e ∷ picked_by (listing_of g) es) (picked_by (listing_of g) es)))) none
        ∙ rest
        ∙ ap (λ b. cond b (e.0 ∷ filter (λ k. is_of_row g k (get k)) (keys_of (filter (λ x. holds t x.0) es)))
        (filter (λ k. is_of_row g k (get k)) (keys_of (filter (λ x. holds t x.0) es)))) (sym (row ∙ none))
        ∙ ap (λ b. filter (λ k. is_of_row g k (get k)) (keys_of (cond b (e ∷ filter (λ x. holds t x.0) es) (filter (λ x. holds t x.0) es)))) (sym has)
    at false false none not rest =
        ap (λ b. keys_of (filter (λ x. holds t x.0) (cond b (e ∷ picked_by (listing_of g) es) (picked_by (listing_of g) es)))) none
        ∙ rest
        ∙ ap (λ b. filter (λ k. is_of_row g k (get k)) (keys_of (cond b (e ∷ filter (λ x. holds t x.0) es) (filter (λ x. holds t x.0) es)))) (sym not)

pub keys_grouped : (g : Group) (t : Tables) → keys_of (listed_of (listing_of g) (table_of_rows g) t) ≡ group_of g t
keys_grouped g t =
    let es = map.entries t in
    keys_passing g (table_of_rows g) (λ k. lookup (key_eq k) es) es (shows es (sorted_distinct es (map.entries_sorted t)))
    ∙ (λ i. filter (λ k. is_of_row g k (sym (map.get-entries t k ∙ lookup_find es k) i)) (keys_of (rows_of (table_of_rows g) t)))
