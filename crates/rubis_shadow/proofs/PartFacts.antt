-- A part of a shadow is its key and its change: it gives its key up in one way at most.
use Rattle.std.proofs.Common.{◌≡◌, ap, subst, sym}
use Rattle.std.specs.Prelude.{Option, Some, None, option_map, unwrap_or}
use Rattle.rubis_schema.specs.declared.row_keys.RowKey.{RowKey}
use Rattle.rubis_shadow.specs.Changes.{both_of}
use Rattle.rubis_shadow.specs.Freed.{FreesOnlyNicks, FreesOnlyNicks-prop}
use Rattle.rubis_shadow.specs.Shadows.{key_of, part}
use Rattle.rubis_shadow.specs.declared.changes.Change.{Change}
use Rattle.rubis_shadow.specs.declared.keyed_change.Effect.{Effect}

abbrev pub Frees : RowKey × Change → Type 0
Frees b = FreesOnlyNicks b.0 b.1

-- parts with the same key and change are the same
pub same_part : (a b : RowKey × Change) → a ≡ b → (f : Frees a) (g : Frees b) → part a.0 a.1 f ≡ part b.0 b.1 g
same_part a b e = subst (λ c. (f : Frees a) (g : Frees c) → part a.0 a.1 f ≡ part c.0 c.1 g) e (λ f g. ap (part a.0 a.1) (FreesOnlyNicks-prop a.0 a.1 f g))

found_is : (b c : RowKey × Change) → ◌≡◌ {A = Option (RowKey × Change)} (Some b) (Some c) → b ≡ c
found_is b c e = ap (λ (o : Option (RowKey × Change)). unwrap_or o b) e

-- what is the key and the change of a part frees no more than the part does
pub frees_of : (b : RowKey × Change) (found : Option Effect) → Some b ≡ option_map both_of found → Frees b
frees_of b None e = absurd (let none : ◌≡◌ {A = Option (RowKey × Change)} (Some b) None = e in cc)
frees_of b (Some p) e = subst Frees (sym (found_is b (both_of p) e)) p.frees

-- and is that part
pub part_found : (b : RowKey × Change) (found : Option Effect) → Some b ≡ option_map both_of found → (f : Frees b) → Some (part b.0 b.1 f) ≡ found
part_found b None e f = absurd (let none : ◌≡◌ {A = Option (RowKey × Change)} (Some b) None = e in cc)
part_found b (Some p) e f = ap Some (same_part b (both_of p) (found_is b (both_of p) e) f p.frees)

-- and has that key
pub key_found : (b : RowKey × Change) (found : Option Effect) → Some b ≡ option_map both_of found → Some b.0 ≡ option_map key_of found
key_found b None e = absurd (let none : ◌≡◌ {A = Option (RowKey × Change)} (Some b) None = e in cc)
key_found b (Some p) e = ap (λ (o : Option (RowKey × Change)). Some (unwrap_or o b).0) e
