-- The keys of a shadow's parts, place by place.
use Rattle.std.proofs.Common.{◌≡◌, ℕ, ◌+◌, ◌≤◌, List, ◌∷◌, drop, length, ap, ◌∙◌, arith, [], ◌++◌, map, refl}
use Rattle.std.specs.Prelude.{Some, slice_get, Option, option_map}
use Rattle.std.proofs.lemmas.List.{drop_more}
use Rattle.std.proofs.lemmas.Option.{slice_get_within, get_or_from_slice_get}
use Rattle.rubis_schema.specs.declared.ids.Id.{Id}
use Rattle.rubis_shadow.specs.Shadows.{parts, footprint_of, key_of}
use Rattle.rubis_shadow.specs.declared.keyed_change.Effect.{Effect}
use Rattle.rubis_shadow.specs.declared.parts.TheConstants.{PARTS_MAX}
use Rattle.rubis_shadow.specs.declared.shadows.Shadow.{Shadow}
use Rattle.rubis_shadow.specs.declared.shadows.Shadow.TheVariants.{Bid, User}
use Rattle.std.specs.Option.{option_to_list}
use Rattle.rubis_schema.specs.declared.row_keys.RowKey.{RowKey}

pub drop_from : {X : Type 0} (xs : List X) (i : ℕ) (x : X) → slice_get xs i ≡ Some x → drop i xs ≡ x ∷ drop (i + 1) xs
drop_from xs i x e = drop_more xs i x (slice_get_within xs i x e) ∙ ap (λ y. y ∷ drop (i + 1) xs) (get_or_from_slice_get xs i x x e)

pub few_parts : (id : Id) (red : ℕ) (s : Shadow) → length (parts id red s) ≤ PARTS_MAX
few_parts id red (User n) = omega arith
few_parts id red s = omega arith

-- one more part was given than before
pub one_more : (id : Id) (red : ℕ) (s : Shadow) (given : ℕ) (part : Effect) → slice_get (parts id red s) given ≡ Some part → given + 1 ≤ PARTS_MAX
one_more id red s given part e = omega (arith, slice_get_within (parts id red s) given part e, few_parts id red s)

-- ---- the keys of a shadow's parts, place by place

-- no key depends on the red number
pub key_of_any_red : (id : Id) (red : ℕ) (s : Shadow) (place : ℕ) →
    option_map key_of (slice_get (parts id 0 s) place) ≡ option_map key_of (slice_get (parts id red s) place)
key_of_any_red id red (Bid b) ℕ.zero = refl
key_of_any_red id red (Bid b) (ℕ.suc place) = refl
key_of_any_red id red s place = refl

abbrev pub keys_of : Option RowKey → Option RowKey → Option RowKey → List RowKey
keys_of a b c = option_to_list a ++ (option_to_list b ++ option_to_list c)

by_place : (es : List Effect) → length es ≤ 3
    → keys_of (option_map key_of (slice_get es 0)) (option_map key_of (slice_get es 1)) (option_map key_of (slice_get es 2)) ≡ map key_of es
by_place [] few = refl
by_place (a ∷ []) few = refl
by_place (a ∷ b ∷ []) few = refl
by_place (a ∷ b ∷ c ∷ []) few = refl
by_place (a ∷ b ∷ c ∷ d ∷ es) few = absurd (omega (arith, few))

pub all_keys : (id : Id) (x : Shadow) (a b c : Option RowKey) → a ≡ option_map key_of (slice_get (parts id 0 x) 0) → b
    ≡ option_map key_of (slice_get (parts id 0 x) 1)
    → c ≡ option_map key_of (slice_get (parts id 0 x) 2) → keys_of a b c ≡ footprint_of id x
all_keys id x a b c p q r = (λ i. keys_of (p i) (q i) (r i)) ∙ by_place (parts id 0 x) (few_parts id 0 x)
