use Rattle.std.proofs.Common.{◌≡◌, ◌<◌, ◌≤◌, ◌^◌, ◌==◌, ℕ, zero, suc, List, false, length, get_or, refl, inl, inr, sym, ◌∙◌, arith, rules}
use Rattle.std.proofs.lemmas.Bool.{cases_lt, false≢true}
use Rattle.std.proofs.lemmas.Bool.Decides.{Decides-eqb}
use Rattle.rubis_numbers.proofs.Digits.{no_zero_in_front, not_empty, one_more_fits, read_all, stops_at, ends_with, too_great}
use Rattle.rubis_numbers.proofs.NumberLaws.{found, refused, number_is}
use Rattle.rubis_numbers.proofs.numbers.read_number.Goals as goal
use Rattle.rubis_numbers.proofs.numbers.read_number.Goals.{then-is_empty-via-then-is_empty, then-is_empty-via-else-is_empty+then-has_leading_zero}
use Rattle.rubis_numbers.proofs.numbers.read_number.Goals.{then-byte-lt48-via-then-byte-lt48, then-byte-lt48-via-else-byte-lt48+then-byte-gt57}

fits : (n m : ℕ) → m < 2 ^ 64 → n ≤ m → n < 2 ^ 64
fits n m h l = omega arith

some_bytes : (size : ℕ) → (size == 0) ≡ false → 0 < size
some_bytes zero e = absurd (false≢true (sym e))
some_bytes (suc n) e = omega arith

lone_zero : (bytes : List ℕ) → 0 < length bytes → ((get_or bytes 0 0 ≡ 48) × (1 < length bytes) → ⊥) → get_or bytes 0 0 ≡ 48 → length bytes ≡ 1
lone_zero bytes some more front = elim (cases_lt 1 (length bytes)) [ inl long ↦ absurd (more (front, long)) | inr short ↦ omega (arith, some, short) ]

pub returns-then-is_empty-clause-value : goal.returns-then-is_empty-clause-value
returns-then-is_empty-clause-value c = refused (number_is c.args.max (search rules)) c.args.bytes.now (λ n h e.
    let small = fits n c.args.max (search rules) h in
    elim c.then-is_empty.branch [
      | then-is_empty-via-then-is_empty w ↦ not_empty c.args.bytes.now n small
          ((Decides-eqb (length c.args.bytes.now) 0).0 (sym c.is_empty.ensures ∙ w.if-is_empty.true)) e
      | then-is_empty-via-else-is_empty+then-has_leading_zero w ↦
          let front = w.if-has_leading_zero.ensures.0 refl in
          no_zero_in_front c.args.bytes.now n small front.0 front.1 e
    ])

pub returns-then-byte-lt48-clause-value : goal.returns-then-byte-lt48-clause-value
returns-then-byte-lt48-clause-value c = refused (number_is c.args.max (search rules)) c.args.bytes.now (λ n h e.
    let small = fits n c.args.max (search rules) h in
    elim c.then-byte-lt48.branch [
      | then-byte-lt48-via-then-byte-lt48 w ↦ stops_at c.args.bytes.now c.loop-byte.byte-index c.loop-byte.number n small (omega arith) c.loop-byte.invariant.0
          (inl (omega arith)) e
      | then-byte-lt48-via-else-byte-lt48+then-byte-gt57 w ↦ stops_at c.args.bytes.now c.loop-byte.byte-index c.loop-byte.number n small
          (omega arith) c.loop-byte.invariant.0 (inr (omega arith)) e
    ])

pub returns-then-number-max-clause-value : goal.returns-then-number-max-clause-value
returns-then-number-max-clause-value c =
    let some = some_bytes (length c.args.bytes.now) (sym c.is_empty.ensures ∙ c.if-is_empty.false) in
    let lone = lone_zero c.args.bytes.now some (λ front. false≢true (c.if-has_leading_zero.ensures.1 front)) in
    found (number_is c.args.max (search rules)) c.args.bytes.now c.loop-byte.number c.if-number-max.true
    (read_all c.args.bytes.now c.loop-byte.byte-index c.loop-byte.number some lone (fits c.loop-byte.number c.args.max (search rules) c.if-number-max.true)
    (omega arith) c.loop-byte.invariant.0)

pub returns-else-number-max-clause-value : goal.returns-else-number-max-clause-value
returns-else-number-max-clause-value c = refused (number_is c.args.max (search rules)) c.args.bytes.now (λ n h e.
    let all = ends_with c.args.bytes.now c.loop-byte.byte-index c.loop-byte.number (omega arith) c.loop-byte.invariant.0 in
    too_great c.args.bytes.now n c.loop-byte.number (fits n c.args.max (search rules) h) (omega (arith, all.0)) (omega arith) e)

pub overflow_mul-number : goal.overflow_mul-number
overflow_mul-number c =
    let next = one_more_fits c.loop-byte.number c.loop-byte.byte-index 0 c.loop-byte.invariant.1 (omega (arith, c.if-bytes-gt19.false, c.loop-byte-test.true))
    (omega arith) in
    omega (arith, next.1)

pub overflow_add-number : goal.overflow_add-number
overflow_add-number c =
    let next = one_more_fits c.loop-byte.number c.loop-byte.byte-index c.from.result c.loop-byte.invariant.1
    (omega (arith, c.if-bytes-gt19.false, c.loop-byte-test.true)) (omega (arith, c.from.ensures)) in
    omega (arith, next.1)
