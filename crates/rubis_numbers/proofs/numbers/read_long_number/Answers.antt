use Rattle.std.proofs.Common.{◌≡◌, ◌<◌, ◌≤◌, ◌^◌, ℕ, List, length, get_or, refl, inl, inr, ◌∙◌, arith, rules}
use Rattle.std.proofs.lemmas.Bool.{cases_lt, false≢true}
use Rattle.rubis_numbers.proofs.Digits.{no_zero_in_front, overflows, read_all, stops_at, ends_with, too_great}
use Rattle.rubis_numbers.proofs.NumberLaws.{found, refused, number_is}
use Rattle.rubis_numbers.proofs.numbers.read_long_number.Goals as goal
use Rattle.rubis_numbers.proofs.numbers.read_long_number.Goals.{then-byte-lt48-via-then-byte-lt48, then-byte-lt48-via-else-byte-lt48+then-byte-gt57}

fits : (n m : ℕ) → m < 2 ^ 64 → n ≤ m → n < 2 ^ 64
fits n m h l = omega arith

lone_zero : (bytes : List ℕ) → 0 < length bytes → ((get_or bytes 0 0 ≡ 48) × (1 < length bytes) → ⊥) → get_or bytes 0 0 ≡ 48 → length bytes ≡ 1
lone_zero bytes some more front = elim (cases_lt 1 (length bytes)) [ inl long ↦ absurd (more (front, long)) | inr short ↦ omega (arith, some, short) ]

pub returns-then-has_leading_zero-clause-value : goal.returns-then-has_leading_zero-clause-value
returns-then-has_leading_zero-clause-value c = refused (number_is c.args.max (search rules)) c.args.bytes.now (λ n h e.
    let front = c.if-has_leading_zero.ensures.0 refl in
    no_zero_in_front c.args.bytes.now n (fits n c.args.max (search rules) h) front.0 front.1 e)

pub returns-then-byte-lt48-clause-value : goal.returns-then-byte-lt48-clause-value
returns-then-byte-lt48-clause-value c = refused (number_is c.args.max (search rules)) c.args.bytes.now (λ n h e.
    let small = fits n c.args.max (search rules) h in
    elim c.then-byte-lt48.branch [
      | then-byte-lt48-via-then-byte-lt48 w ↦ stops_at c.args.bytes.now c.loop-byte.byte-index c.loop-byte.number n small (omega arith) c.loop-byte.invariant
          (inl (omega arith)) e
      | then-byte-lt48-via-else-byte-lt48+then-byte-gt57 w ↦ stops_at c.args.bytes.now c.loop-byte.byte-index c.loop-byte.number n small
          (omega arith) c.loop-byte.invariant (inr (omega arith)) e
    ])

pub returns-in_err-checked_mul-clause-value : goal.returns-in_err-checked_mul-clause-value
returns-in_err-checked_mul-clause-value c = c.from_residual.ensures ∙ refused (number_is c.args.max (search rules)) c.args.bytes.now (λ n h e.
    let small = fits n c.args.max (search rules) h in
    overflows c.args.bytes.now c.loop-byte.byte-index c.loop-byte.number n small (omega arith) c.loop-byte.invariant
    (omega (arith, c.in_err-checked_mul.ensures)) e)

pub returns-in_err-number-clause-value : goal.returns-in_err-number-clause-value
returns-in_err-number-clause-value c = c.from_residual-in_err-number.ensures ∙ refused (number_is c.args.max (search rules)) c.args.bytes.now (λ n h e.
    let small = fits n c.args.max (search rules) h in
    overflows c.args.bytes.now c.loop-byte.byte-index c.loop-byte.number n small (omega arith) c.loop-byte.invariant
    (omega (arith, c.in_err-number.ensures, c.in_ok-checked_mul.ensures)) e)

pub returns-then-number-max-clause-value : goal.returns-then-number-max-clause-value
returns-then-number-max-clause-value c =
    let some : 0 < length c.args.bytes.now = omega (arith, c.requires) in
    let lone = lone_zero c.args.bytes.now some (λ front. false≢true (c.if-has_leading_zero.ensures.1 front)) in
    found (number_is c.args.max (search rules)) c.args.bytes.now c.loop-byte.number c.if-number-max.true
    (read_all c.args.bytes.now c.loop-byte.byte-index c.loop-byte.number some lone (fits c.loop-byte.number c.args.max (search rules) c.if-number-max.true)
    (omega arith) c.loop-byte.invariant)

pub returns-else-number-max-clause-value : goal.returns-else-number-max-clause-value
returns-else-number-max-clause-value c = refused (number_is c.args.max (search rules)) c.args.bytes.now (λ n h e.
    let all = ends_with c.args.bytes.now c.loop-byte.byte-index c.loop-byte.number (omega arith) c.loop-byte.invariant in
    too_great c.args.bytes.now n c.loop-byte.number (fits n c.args.max (search rules) h) (omega (arith, all.0)) (omega arith) e)
