-- An ask that isn't refused: none of its refusals holds.
use Rattle.rubis_laws.proofs.Common.{◌≡◌, List, [], ◌∷◌, Bool, true, false, cond, refl, Some, ◌||◌, find, ⊤, Ok, true≢false, Refusal, Shadow, refused_or}

-- each of these refusals doesn't hold
abbrev pub NoneHolds : (Refusal → Bool) → List Refusal → Type 0
NoneHolds test [] = ⊤
NoneHolds test (r ∷ rs) = (test r ≡ false) × NoneHolds test rs

pub not_refused : (test : Refusal → Bool) (rs : List Refusal) (x : Shadow) {y : Shadow} → refused_or (find test rs) x ≡ Ok y → NoneHolds test rs × (x ≡ y)
not_refused test [] x {y} e = (tt, let p : x ≡ y = cc in p)
not_refused test (r ∷ rs) x {y} e = at (test r) refl e (not_refused test rs x)
  where
    at : (b : Bool) → test r ≡ b → refused_or (cond b (Some r) (find test rs)) x ≡ Ok y
        → (refused_or (find test rs) x ≡ Ok y → NoneHolds test rs × (x ≡ y)) → ((test r ≡ false) × NoneHolds test rs) × (x ≡ y)
    at true q e ih = absurd cc
    at false q e ih = let w = ih e in ((q, w.0), w.1)

pub only : (a : Bool) → (a || false) ≡ false → a ≡ false
only true e = e
only false e = refl

pub neither : (a b : Bool) → (a || (b || false)) ≡ false → (a ≡ false) × (b ≡ false)
neither true b e = absurd (true≢false e)
neither false true e = absurd (true≢false e)
neither false false e = (refl, refl)
