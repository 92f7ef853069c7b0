-- Tests over a list, and over the sites that a message counts.
use Rattle.rubis_laws.proofs.Common.{ℕ, ◌≡◌, ◌+◌, ◌≤◌, ◌<◌, zero, suc, List, [], ◌∷◌, Bool, true, false, refl, sym, ap, ◌∙◌, inl, inr, ⊎_elim, arith, list_any}
use Rattle.rubis_laws.proofs.Common.{range_with_len, cases_eq, or_cases, or_from, or_left, or_parts, or_right, Has}

-- ---- of the members of a list
pub any_has : {A : Type 0} (p : A → Bool) (xs : List A) → list_any p xs ≡ true → (u : A) × (Has u xs) × (p u ≡ true)
any_has p [] e = absurd cc
any_has p (x ∷ xs) e = ⊎_elim (λ l. (x, inl refl, l)) (λ r. let w = any_has p xs r in (w.0, inr w.1, w.2)) (or_cases (p x) _ e)

pub has_any : {A : Type 0} (p : A → Bool) (xs : List A) (u : A) → Has u xs → p u ≡ true → list_any p xs ≡ true
has_any p [] u h e = absurd h
has_any p (x ∷ xs) u (inl q) e = or_left (p x) (list_any p xs) (ap p (sym q) ∙ e)
has_any p (x ∷ xs) u (inr h) e = or_right (p x) (list_any p xs) (has_any p xs u h e)

pub has_none : {A : Type 0} (p : A → Bool) (xs : List A) → list_any p xs ≡ false → (u : A) → Has u xs → p u ≡ false
has_none p [] e u h = absurd h
has_none p (x ∷ xs) e u (inl q) = ap p q ∙ (or_parts (p x) (list_any p xs) e).0
has_none p (x ∷ xs) e u (inr h) = has_none p xs (or_parts (p x) (list_any p xs) e).1 u h

pub none_has : {A : Type 0} {p : A → Bool} (xs : List A) → ((u : A) → Has u xs → p u ≡ false) → list_any p xs ≡ false
none_has [] h = refl
none_has {p} (x ∷ xs) h = or_from (p x) (list_any p xs) (h x (inl refl)) (none_has {p = p} xs (λ u k. h u (inr k)))

-- ---- of the numbers below n
in_range : (a n j : ℕ) → a ≤ j → j < a + n → Has j (range_with_len a n)
in_range a zero j l m = absurd (omega (arith, l, m))
in_range a (suc n) j l m = ⊎_elim (λ e. inl e) (λ e. inr (in_range (a + 1) n j (omega (arith, l, e)) (omega (arith, m)))) (cases_eq j a)

pub below_none : (p : ℕ → Bool) {n : ℕ} → list_any p (range_with_len 0 n) ≡ false → {j : ℕ} → j < n → p j ≡ false
below_none p {n} e {j} l = has_none p (range_with_len 0 n) e j (in_range 0 n j (omega arith) (omega (arith, l)))

pub none_below : (p : ℕ → Bool) (n : ℕ) → ((j : ℕ) → p j ≡ false) → list_any p (range_with_len 0 n) ≡ false
none_below p n h = none_has (range_with_len 0 n) (λ j k. h j)
