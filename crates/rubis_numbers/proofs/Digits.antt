-- Digits that are read from the left.
use Rattle.std.proofs.Common.{◌≡◌, ◌≤◌, ◌<◌, ◌+◌, ◌*◌, ◌-◌, ◌^◌, ℕ, zero, suc, true, false, ◌&&◌, ◌⊎◌, inl, inr, List, [], ◌∷◌, length, get_or, drop, decimal}
use Rattle.std.proofs.Common.{ap, sym, ◌∙◌, arith, rules, tests}
use Rattle.std.specs.Str.{all_ascii_digits}
use Rattle.std.specs.Char.{is_ascii_digit}
use Rattle.std.proofs.Math.Nat.{pow-le-pow_right}
use Rattle.std.proofs.Math.Seq.{drop-cons}
use Rattle.std.proofs.Math.ListN.{drop_of_length-le}
use Rattle.std.proofs.lemmas.Bool.{false≢true}
use Rattle.std.proofs.lemmas.Grind.{pow_more}
use Rattle.std.proofs.lemmas.Fmt.{decimal_nonempty, first_decimal, decimal_digit, digits_decimal, digits_value-decimal, decimal-digits_value}
use Rattle.std.proofs.lemmas.Str.Parse.{IsNumeralModel, numerals_by_fold}

-- the number that the digits write when they follow those of n
abbrev pub read_on : ℕ → List ℕ → ℕ
read_on n [] = n
read_on n (c ∷ cs) = read_on (n * 10 + (c - 48)) cs

own : IsNumeralModel (λ ds. all_ascii_digits ds ≡ true) (read_on 0)
own = numerals_by_fold _ (search rules) read_on (search rules)

-- it is never less than n
pub grows : (n : ℕ) (cs : List ℕ) → n ≤ read_on n cs
grows n [] = omega arith
grows n (c ∷ cs) = omega (arith, grows (n * 10 + (c - 48)) cs)

-- what was read so far, and what is left
pub record IsReading (bytes : List ℕ) (at number : ℕ) : Type 0 where
  pub value : read_on number (drop at bytes) ≡ read_on 0 bytes
  pub digits : all_ascii_digits (drop at bytes) ≡ all_ascii_digits bytes

pub no_digit : (bytes : List ℕ) (n : ℕ) → n < 2 ^ 64 → all_ascii_digits bytes ≡ false → bytes ≡ decimal n → ⊥
no_digit bytes n h none e = false≢true (sym none ∙ ap all_ascii_digits e ∙ digits_decimal own n h)

pub too_great : (bytes : List ℕ) (n m : ℕ) → n < 2 ^ 64 → m ≤ read_on 0 bytes → n < m → bytes ≡ decimal n → ⊥
too_great bytes n m h up lt e = absurd (omega (arith, up, lt, ap (read_on 0) e, digits_value-decimal own n h))

-- a 0 in front of more digits
pub no_zero_in_front : (bytes : List ℕ) (n : ℕ) → n < 2 ^ 64 → get_or bytes 0 0 ≡ 48 → 1 < length bytes → bytes ≡ decimal n → ⊥
no_zero_in_front bytes zero h front long e = absurd (omega (arith, long, ap length e, ap length (decimal_digit 0 (omega arith))))
no_zero_in_front bytes (suc n) h front long e = absurd (omega (arith, front, first_decimal (suc n) (omega arith) h, ap (λ (xs : List ℕ). get_or xs 0 0) e))

pub not_empty : (bytes : List ℕ) (n : ℕ) → n < 2 ^ 64 → length bytes ≡ 0 → bytes ≡ decimal n → ⊥
not_empty bytes n h none e = absurd (omega (arith, none, decimal_nonempty n h, ap length e))

digit_passes : (c : ℕ) → 48 ≤ c → c ≤ 57 → is_ascii_digit c ≡ true
digit_passes c low high = search (rules, tests)

other_fails : (c : ℕ) → (c < 48) ⊎ (57 < c) → is_ascii_digit c ≡ false
other_fails c (inl low) = search (rules, tests)
other_fails c (inr high) = search (rules, tests)

at_front : (bytes : List ℕ) (at number : ℕ) → at < length bytes → IsReading bytes at number
    → (read_on number (get_or bytes at 0 ∷ drop (suc at) bytes) ≡ read_on 0 bytes)
    × (all_ascii_digits (get_or bytes at 0 ∷ drop (suc at) bytes) ≡ all_ascii_digits bytes)
at_front bytes at number lt h =
    let cut = drop-cons bytes at 0 lt in
    (ap (read_on number) (sym cut) ∙ h.value, ap all_ascii_digits (sym cut) ∙ h.digits)

pub stops_at : (bytes : List ℕ) (at number n : ℕ) → n < 2 ^ 64 → at < length bytes → IsReading bytes at number → (get_or bytes at 0 < 48)
    ⊎ (57 < get_or bytes at 0) → bytes ≡ decimal n → ⊥
stops_at bytes at number n fits lt h other e =
    let front = at_front bytes at number lt h in
    let fails = other_fails (get_or bytes at 0) other in
    no_digit bytes n fits (sym front.1 ∙ ap (λ t. t && all_ascii_digits (drop (suc at) bytes)) fails) e

pub overflows : (bytes : List ℕ) (at number n : ℕ) → n < 2 ^ 64 → at < length bytes → IsReading bytes at number →
    2 ^ 64 ≤ number * 10 + (get_or bytes at 0 - 48) → bytes ≡ decimal n → ⊥
overflows bytes at number n fits lt h up e =
    let front = at_front bytes at number lt h in
    let grown = grows (number * 10 + (get_or bytes at 0 - 48)) (drop (suc at) bytes) in
    too_great bytes n (2 ^ 64) fits (omega (arith, up, grown, front.0)) fits e

pub ends_with : (bytes : List ℕ) (at number : ℕ) → length bytes ≤ at → IsReading bytes at number → (number ≡ read_on 0 bytes) × (all_ascii_digits bytes ≡ true)
ends_with bytes at number past h =
    let none : drop at bytes ≡ [] = drop_of_length-le bytes past in
    (ap (read_on number) (sym none) ∙ h.value, sym h.digits ∙ ap all_ascii_digits none)

pub read_all : (bytes : List ℕ) (at number : ℕ) → 0 < length bytes → (get_or bytes 0 0 ≡ 48 → length bytes ≡ 1) → number < 2 ^ 64 → length bytes ≤ at →
    IsReading bytes at number → bytes ≡ decimal number
read_all bytes at number some lone fits past h =
    let all = ends_with bytes at number past h in
    let whole = decimal-digits_value own bytes all.1 some lone (omega (arith, all.0, fits)) in
    sym whole ∙ ap decimal (sym all.0)

-- nineteen digits fit
pub one_more_fits : (number at digit : ℕ) → number < 10 ^ at → at < 19 → digit ≤ 9 → (number * 10 + digit < 10 ^ (at + 1)) × (number * 10 + digit < 2 ^ 64)
one_more_fits number at digit small short one =
    let up = pow_more 10 at in
    let top : 10 ^ at ≤ 10 ^ 18 = pow-le-pow_right {n = 10} (omega arith) {i = at} {j = 18} (omega arith) in
    (omega (arith, up, small, one), omega (arith, small, top, one))
