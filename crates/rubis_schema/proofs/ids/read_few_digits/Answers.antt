use Rattle.std.proofs.Common.{◌≤◌, ◌<◌, ◌^◌, ◌+◌, ◌*◌, ℕ, length, inl, inr, arith}
use Rattle.std.proofs.Math.Nat.{pow-le-pow_right}
use Rattle.rubis_numbers.proofs.Digits.{ends_with, one_more_fits, read_all, stops_at, too_great}
use Rattle.rubis_numbers.proofs.NumberLaws.{found, refused, number_is}
use Rattle.rubis_schema.specs.declared.limits.TheConstants.{SEQ_MAX}
use Rattle.rubis_schema.proofs.ids.read_few_digits.Goals as goal
use Rattle.rubis_schema.proofs.ids.read_few_digits.Goals.{then-byte-lt48-via-then-byte-lt48, then-byte-lt48-via-else-byte-lt48+then-byte-gt57}

-- seven digits are few
few_fit : (number at digit : ℕ) → number < 10 ^ at → at < 7 → digit ≤ 9 → number * 10 + digit < 10 ^ 7
few_fit number at digit small short one =
    let next = one_more_fits number at digit small (omega (arith, short)) one in
    let top : 10 ^ (at + 1) ≤ 10 ^ 7 = pow-le-pow_right {n = 10} (omega arith) {i = at + 1} {j = 7} (omega (arith, short)) in
    omega (arith, next.0, top)

pub returns-then-byte-lt48 : goal.returns-then-byte-lt48
returns-then-byte-lt48 c = refused (number_is SEQ_MAX (omega arith)) c.args.digits.now (λ n h e.
    let digits = c.args.digits.now in
    let at = c.loop-byte.byte-index in
    let small : n < 2 ^ 64 = omega (arith, h) in
    let within : at < length digits = c.loop-byte-test.true in
    elim c.then-byte-lt48.branch [
      | then-byte-lt48-via-then-byte-lt48 w ↦ stops_at digits at c.loop-byte.number n small within c.loop-byte.invariant.0 (inl w.if-byte-lt48.true) e
      | then-byte-lt48-via-else-byte-lt48+then-byte-gt57 w ↦
          stops_at digits at c.loop-byte.number n small within c.loop-byte.invariant.0 (inr w.if-byte-gt57.true) e
    ])

pub overflow_mul-number : goal.overflow_mul-number
overflow_mul-number c =
    let few = few_fit c.loop-byte.number c.loop-byte.byte-index 0 c.loop-byte.invariant.1 (omega (arith, c.loop-byte-test.true, c.requires.few.1)) (omega arith) in
    omega (arith, few)

pub overflow_add-number : goal.overflow_add-number
overflow_add-number c =
    let few = few_fit c.loop-byte.number c.loop-byte.byte-index c.from.result c.loop-byte.invariant.1
    (omega (arith, c.loop-byte-test.true, c.requires.few.1)) (omega (arith, c.from.ensures)) in
    omega (arith, few)

pub returns-then-number-le-SEQ_MAX : goal.returns-then-number-le-SEQ_MAX
returns-then-number-le-SEQ_MAX c =
    found (number_is SEQ_MAX (omega arith)) c.args.digits.now c.loop-byte.number c.if-number-le-SEQ_MAX.true
    (read_all c.args.digits.now c.loop-byte.byte-index c.loop-byte.number c.requires.few.0 (λ zero. absurd (c.requires.first zero))
    (omega (arith, c.if-number-le-SEQ_MAX.true)) c.loop-byte-test.false c.loop-byte.invariant.0)

pub returns-else-number-le-SEQ_MAX : goal.returns-else-number-le-SEQ_MAX
returns-else-number-le-SEQ_MAX c = refused (number_is SEQ_MAX (omega arith)) c.args.digits.now (λ n h e.
    let all = ends_with c.args.digits.now c.loop-byte.byte-index c.loop-byte.number c.loop-byte-test.false c.loop-byte.invariant.0 in
    too_great c.args.digits.now n c.loop-byte.number (omega (arith, h)) (omega (arith, all.0)) (omega (arith, h, c.if-number-le-SEQ_MAX.false)) e)
