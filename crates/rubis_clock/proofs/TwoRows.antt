-- Counts in two rows.
use Rattle.std.proofs.Common.{ℕ, zero, suc, ◌≡◌, ◌+◌, ◌*◌, ◌<◌, ◌≤◌, List, [], ◌∷◌, ◌++◌, length, take, get_or, refl, sym, ap, ◌∙◌, arith, ◌/◌, ◌%◌, cond, true}
use Rattle.std.proofs.Common.{false, Bool}
use Rattle.std.specs.Prelude.{slice_set, slice_index}
use Rattle.std.proofs.lemmas.List.{length-take, take_more, take_more_set, get_or-take}
use Rattle.rubis_clock.specs.Counts.{counts_of, halves, joined_counts}

pub joined_at : (low high : List ℕ) (i : ℕ) → i < length low → i < length high → slice_index (joined_counts low high) i
    ≡ slice_index low i + 65536 * slice_index high i
joined_at [] high i p q = absurd (omega arith)
joined_at (l ∷ low) [] i p q = absurd (omega arith)
joined_at (l ∷ low) (h ∷ high) zero p q = refl
joined_at (l ∷ low) (h ∷ high) (suc i) p q = joined_at low high i (omega arith) (omega arith)

pub length_joined : (low high : List ℕ) → length low ≡ length high → length (joined_counts low high) ≡ length low
length_joined [] high e = refl
length_joined (l ∷ low) [] e = absurd (omega arith)
length_joined (l ∷ low) (h ∷ high) e = ap suc (length_joined low high (omega arith))

pub joined_set : (low high : List ℕ) (i a b : ℕ) → joined_counts (slice_set low i a) (slice_set high i b) ≡ slice_set (joined_counts low high) i (a + 65536 * b)
joined_set [] high i a b = refl
joined_set (l ∷ low) [] zero a b = refl
joined_set (l ∷ low) [] (suc i) a b = refl
joined_set (l ∷ low) (h ∷ high) zero a b = refl
joined_set (l ∷ low) (h ∷ high) (suc i) a b = ap (λ xs. (l + 65536 * h) ∷ xs) (joined_set low high i a b)

pub unpacked_more : (xs : List ℕ) (i : ℕ) → i < length xs → take (i + 1) xs ≡ take i xs ++ slice_index xs i ∷ []
unpacked_more xs i l = take_more xs i 0 l

-- twice a number, by cases
abbrev twice : ℕ → ℕ
twice zero = zero
twice (suc k) = suc (suc (twice k))

twice_is : (k : ℕ) → twice k ≡ k + k
twice_is zero = refl
twice_is (suc k) = let h = twice_is k in omega (arith, h)

length_halves : (pairs : List ℕ) → length (halves pairs) ≡ length pairs + length pairs
length_halves [] = refl
length_halves (p ∷ pairs) = let h = length_halves pairs in omega (arith, h)

first_at : (pairs : List ℕ) (k : ℕ) → k < length pairs → slice_index (halves pairs) (twice k) ≡ slice_index pairs k % 16
first_at [] k l = absurd (omega arith)
first_at (p ∷ pairs) zero l = refl
first_at (p ∷ pairs) (suc k) l = first_at pairs k (omega arith)

second_at : (pairs : List ℕ) (k : ℕ) → k < length pairs → slice_index (halves pairs) (suc (twice k)) ≡ slice_index pairs k / 16
second_at [] k l = absurd (omega arith)
second_at (p ∷ pairs) zero l = refl
second_at (p ∷ pairs) (suc k) l = second_at pairs k (omega arith)

first_set : (pairs : List ℕ) (k b : ℕ) → b < 16 → halves (slice_set pairs k (slice_index pairs k / 16 * 16 + b)) ≡ slice_set (halves pairs) (twice k) b
first_set [] k b l = refl
first_set (p ∷ pairs) zero b l =
    let low : (p / 16 * 16 + b) % 16 ≡ b = omega (arith, l) in
    let high : (p / 16 * 16 + b) / 16 ≡ p / 16 = omega (arith, l) in
    ap (λ x. x ∷ ((p / 16 * 16 + b) / 16) ∷ halves pairs) low ∙ ap (λ x. b ∷ x ∷ halves pairs) high
first_set (p ∷ pairs) (suc k) b l = ap (λ xs. (p % 16) ∷ (p / 16) ∷ xs) (first_set pairs k b l)

second_set : (pairs : List ℕ) (k b : ℕ) → b < 16 → halves (slice_set pairs k (slice_index pairs k % 16 + 16 * b)) ≡ slice_set (halves pairs) (suc (twice k)) b
second_set [] k b l = refl
second_set (p ∷ pairs) zero b l =
    let low : (p % 16 + 16 * b) % 16 ≡ p % 16 = omega (arith, l) in
    let high : (p % 16 + 16 * b) / 16 ≡ b = omega (arith, l) in
    ap (λ x. x ∷ ((p % 16 + 16 * b) / 16) ∷ halves pairs) low ∙ ap (λ x. (p % 16) ∷ x ∷ halves pairs) high
second_set (p ∷ pairs) (suc k) b l = ap (λ xs. (p % 16) ∷ (p / 16) ∷ xs) (second_set pairs k b l)

pub half_at : (pairs : List ℕ) (i : ℕ) (first : Bool) → (first ≡ true → i % 2 ≡ 0) → (first ≡ false → i % 2 ≡ 1) → i < length pairs + length pairs →
    cond first (slice_index pairs (i / 2) % 16) (slice_index pairs (i / 2) / 16) ≡ slice_index (halves pairs) i
half_at pairs i true e o l =
    let t = twice_is (i / 2) in
    let r = e refl in
    let place : twice (i / 2) ≡ i = omega (arith, t, r) in
    sym (first_at pairs (i / 2) (omega (arith, l))) ∙ ap (λ j. slice_index (halves pairs) j) place
half_at pairs i false e o l =
    let t = twice_is (i / 2) in
    let r = o refl in
    let place : suc (twice (i / 2)) ≡ i = omega (arith, t, r) in
    sym (second_at pairs (i / 2) (omega (arith, l))) ∙ ap (λ j. slice_index (halves pairs) j) place

pub half_set : (pairs : List ℕ) (i b : ℕ) (first : Bool) → (first ≡ true → i % 2 ≡ 0) → (first ≡ false → i % 2 ≡ 1) → b < 16 →
    halves (slice_set pairs (i / 2) (cond first (slice_index pairs (i / 2) / 16 * 16 + b) (slice_index pairs (i / 2) % 16 + 16 * b)))
    ≡ slice_set (halves pairs) i b
half_set pairs i b true e o l =
    let t = twice_is (i / 2) in
    let r = e refl in
    let place : twice (i / 2) ≡ i = omega (arith, t, r) in
    first_set pairs (i / 2) b l ∙ ap (λ j. slice_set (halves pairs) j b) place
half_set pairs i b false e o l =
    let t = twice_is (i / 2) in
    let r = o refl in
    let place : suc (twice (i / 2)) ≡ i = omega (arith, t, r) in
    second_set pairs (i / 2) b l ∙ ap (λ j. slice_set (halves pairs) j b) place

-- with a count put last in the rows, they have it behind the others
pub counts_more : (low pairs : List ℕ) (i a b : ℕ) (first : Bool) → (first ≡ true → i % 2 ≡ 0) → (first ≡ false → i % 2 ≡ 1) →
    length low ≡ 16 → length pairs ≡ 8 → i < 16 → b < 16 →
    take (i + 1) (counts_of (slice_set low i a)
    (slice_set pairs (i / 2) (cond first (slice_index pairs (i / 2) / 16 * 16 + b) (slice_index pairs (i / 2) % 16 + 16 * b))))
    ≡ take i (counts_of low pairs) ++ (a + 65536 * b) ∷ []
counts_more low pairs i a b first e o one two few l =
    let n = length_halves pairs in
    let m = length_joined low (halves pairs) (omega (arith, one, two, n)) in
    ap (λ hs. take (i + 1) (joined_counts (slice_set low i a) hs)) (half_set pairs i b first e o l)
    ∙ ap (take (i + 1)) (joined_set low (halves pairs) i a b)
    ∙ take_more_set (joined_counts low (halves pairs)) i (a + 65536 * b) (omega (arith, one, few, m))

-- a count that is used, from its two parts
pub count_at : (low pairs : List ℕ) (used i : ℕ) (first : Bool) → (first ≡ true → i % 2 ≡ 0) → (first ≡ false → i % 2 ≡ 1) →
    length low ≡ 16 → length pairs ≡ 8 → i < length (take used (counts_of low pairs)) →
    slice_index low i + 65536 * cond first (slice_index pairs (i / 2) % 16) (slice_index pairs (i / 2) / 16) ≡ slice_index (take used (counts_of low pairs)) i
count_at low pairs used i first e o a b l =
    let k = length_halves pairs in
    let n = length-take used (counts_of low pairs) in
    let m = length_joined low (halves pairs) (omega (arith, a, b, k)) in
    ap (λ x. slice_index low i + 65536 * x) (half_at pairs i first e o (omega (arith, n, m, a, b, l)))
    ∙ sym (get_or-take used (counts_of low pairs) i 0 (omega (arith, n, l))
    ∙ joined_at low (halves pairs) i (omega (arith, n, m, a, l)) (omega (arith, n, m, a, b, k, l)))

pub length_used : (low pairs : List ℕ) (used : ℕ) → length low ≡ 16 → length pairs ≡ 8 → used ≤ 16 → length (take used (counts_of low pairs)) ≡ used
length_used low pairs used a b l =
    let k = length_halves pairs in
    let n = length-take used (counts_of low pairs) in
    let m = length_joined low (halves pairs) (omega (arith, a, b, k)) in
    omega (arith, n, m, a, l)
