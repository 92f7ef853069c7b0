-- The digits of a number, two at a time.
use Rattle.std.proofs.Common.{◌≡◌, ◌∙◌, ◌≤◌, ◌<◌, ◌+◌, ◌/◌, ◌%◌, ◌^◌, ◌++◌, ◌∷◌, [], ℕ, List, length, decimal, ap, sym, arith, append_assoc, length-append}
use Rattle.std.proofs.lemmas.Fmt.{decimal_digit, decimal_step, length-decimal-le}

pub one_digit : (n : ℕ) → n < 10 → length (decimal n) ≡ 1
one_digit n small = ap length (decimal_digit n small)

pub two_digits : (n : ℕ) → 10 ≤ n → n < 100 → decimal n ≡ (48 + n / 10) ∷ (48 + n % 10) ∷ []
two_digits n low high = rw (decimal_step n low (omega arith), decimal_digit (n / 10) (omega arith))

pub more_digits : (n : ℕ) → 100 ≤ n → n < 2 ^ 64 → decimal n ≡ decimal (n / 100) ++ (48 + n % 100 / 10) ∷ (48 + n % 100 % 10) ∷ []
more_digits n low fits =
    let front : n / 10 / 10 ≡ n / 100 = omega arith in
    let tens : n / 10 % 10 ≡ n % 100 / 10 = omega arith in
    let ones : n % 10 ≡ n % 100 % 10 = omega arith in
    rw (decimal_step n (omega arith) fits, decimal_step (n / 10) (omega arith) (omega arith), append_assoc, front, tens, ← ones)

pub two_longer : (n : ℕ) → 100 ≤ n → n < 2 ^ 64 → length (decimal n) ≡ length (decimal (n / 100)) + 2
two_longer n low fits = ap length (more_digits n low fits) ∙ length-append _ _

-- four digits, behind a text and those before them
pub four_more : (old : List ℕ) (n : ℕ) → 10000 ≤ n → n < 2 ^ 64
    → ((old ++ decimal (n / 100 / 100)) ++ (48 + n / 100 % 100 / 10) ∷ (48 + n / 100 % 100 % 10) ∷ []) ++ (48 + n % 100 / 10) ∷ (48 + n % 100 % 10) ∷ [] ≡ old
    ++ decimal n
four_more old n low fits =
    let two : List ℕ = (48 + n / 100 % 100 / 10) ∷ (48 + n / 100 % 100 % 10) ∷ [] in
    let last : List ℕ = (48 + n % 100 / 10) ∷ (48 + n % 100 % 10) ∷ [] in
    let front : (old ++ decimal (n / 100 / 100)) ++ two ≡ old ++ decimal (n / 100) =
    append_assoc old (decimal (n / 100 / 100)) two ∙ ap (λ xs. old ++ xs) (sym (more_digits (n / 100) (omega (arith, low)) (omega (arith, fits)))) in
    ap (λ xs. xs ++ last) front ∙ append_assoc old (decimal (n / 100)) last ∙ ap (λ xs. old ++ xs) (sym (more_digits n (omega (arith, low)) fits))

pub four_longer : (n : ℕ) → 10000 ≤ n → n < 2 ^ 64 → length (decimal n) ≡ length (decimal (n / 100 / 100)) + 4
four_longer n low fits = omega (arith, two_longer n (omega (arith, low)) fits, two_longer (n / 100) (omega (arith, low)) (omega (arith, fits)))

-- the longest is that of 2^64 - 1
pub at_most_twenty : (n : ℕ) → n < 2 ^ 64 → length (decimal n) ≤ 20
at_most_twenty n fits = length-decimal-le 20 n (omega arith) (omega (arith, fits)) fits
