use Rattle.std.proofs.Common.{◌≡◌, ◌<◌, ◌+◌, ◌*◌, ◌^◌, ℕ, List, get_or, drop, Some, inl, inr, sym, ap, ◌∙◌, arith}
use Rattle.std.proofs.lemmas.Bool.{false≢true}
use Rattle.std.proofs.lemmas.Bool.Decides.{Decides-eqb, Decides-ltb}
use Rattle.std.proofs.lemmas.List.{take_rest}
use Rattle.rubis_numbers.proofs.Digits.{one_more_fits}
use Rattle.rubis_schema.proofs.Before.{front_starts, front_more, no_digit, not_before, is_before, no_mark, stops, ends_empty, ends_zero, ends_great, found_at}
use Rattle.rubis_schema.proofs.splits.read_digits_before.Goals as goal
use Rattle.rubis_schema.proofs.splits.read_digits_before.Goals.{then-at-eq0-via-then-at-eq0, then-at-eq0-via-else-at-eq0+then-number-max}
use Rattle.rubis_schema.proofs.splits.read_digits_before.Goals.{then-at-eq0-via-else-at-eq0+else-number-max+then-bytes-eq48, then-at-gt1, else-at-gt1}
use Rattle.rubis_schema.proofs.splits.read_digits_before.Goals.{then-byte-lt48-via-then-byte-lt48, then-byte-lt48-via-else-byte-lt48+then-byte-gt57}
use Rattle.rubis_schema.proofs.splits.read_digits_before.Goals.{then-byte-lt48-via-else-byte-lt48+else-byte-gt57+then-at-ge19}

pub loop-at-init : goal.loop-at-init
loop-at-init c = front_starts c.args.mark c.args.bytes.now

pub returns-then-at-eq0-clause-value : goal.returns-then-at-eq0-clause-value
returns-then-at-eq0-clause-value c =
    let mark = c.args.mark in
    let bytes = c.args.bytes.now in
    let at = c.loop-at.at in
    let number = c.loop-at.number in
    let other = no_digit mark c.requires.mark in
    not_before mark c.args.max c.requires.short bytes (λ n back le e.
    let fits : n < 2 ^ 64 = omega (arith, le, c.requires.short) in
    elim c.then-at-eq0.branch [
      | then-at-eq0-via-then-at-eq0 w ↦
          ends_empty mark n bytes back at number other fits c.loop-at.invariant c.if-byte-mark.true w.if-at-eq0.true e
      | then-at-eq0-via-else-at-eq0+then-number-max w ↦
          ends_great mark n c.args.max bytes back at number other fits le c.loop-at.invariant c.if-byte-mark.true w.if-number-max.true e
      | then-at-eq0-via-else-at-eq0+else-number-max+then-bytes-eq48 w ↦
          elim w.if-at-gt1.branch [
            | then-at-gt1 v ↦
                ends_zero mark n bytes back at number other fits c.loop-at.invariant c.if-byte-mark.true v.if-at-gt1.true
                ((Decides-eqb (get_or bytes 0 0) 48).0 (sym v.value-is ∙ w.if-bytes-eq48.true)) e
            | else-at-gt1 v ↦
                let many = (Decides-ltb 1 at).0 (sym v.value-is ∙ w.if-bytes-eq48.true) in
                let few = v.if-at-gt1.false in
                absurd (omega arith)
          ]
    ])

pub returns-then-byte-mark-clause-value : goal.returns-then-byte-mark-clause-value
returns-then-byte-mark-clause-value c =
    let bytes = c.args.bytes.now in
    let at = c.loop-at.at in
    let number = c.loop-at.number in
    let lone : get_or bytes 0 0 ≡ 48 → at ≡ 1 = λ zero. elim c.if-at-gt1.branch [
      | then-at-gt1 w ↦ absurd (false≢true (sym c.if-bytes-eq48.false ∙ w.value-is ∙ (Decides-eqb (get_or bytes 0 0) 48).1 zero))
      | else-at-gt1 w ↦ (let some = c.if-at-eq0.false in let few = w.if-at-gt1.false in omega arith)
    ] in
    ap (λ (l : List ℕ). Some (number, l)) (take_rest bytes (at + 1))
    ∙ is_before c.args.mark c.args.max c.requires.short (no_digit c.args.mark c.requires.mark) bytes number (drop (at + 1) bytes)
    c.if-number-max.false
    (found_at c.args.mark bytes at number c.loop-at-test.true (omega (arith, c.if-number-max.false, c.requires.short))
    c.loop-at.invariant c.if-byte-mark.true (let some = c.if-at-eq0.false in omega arith) lone)

pub returns-then-byte-lt48-clause-value : goal.returns-then-byte-lt48-clause-value
returns-then-byte-lt48-clause-value c =
    let mark = c.args.mark in
    let bytes = c.args.bytes.now in
    let at = c.loop-at.at in
    let number = c.loop-at.number in
    not_before mark c.args.max c.requires.short bytes (λ n back le e.
    let small : n < 10 ^ 19 = omega (arith, le, c.requires.short) in
    stops mark n bytes back at number small c.loop-at.invariant c.if-byte-mark.false (elim c.then-byte-lt48.branch [
      | then-byte-lt48-via-then-byte-lt48 w ↦ inl w.if-byte-lt48.true
      | then-byte-lt48-via-else-byte-lt48+then-byte-gt57 w ↦ inr (inl w.if-byte-gt57.true)
      | then-byte-lt48-via-else-byte-lt48+else-byte-gt57+then-at-ge19 w ↦ inr (inr w.if-at-ge19.true)
    ]) e)

pub overflow_mul-number : goal.overflow_mul-number
overflow_mul-number c =
    let next = one_more_fits c.loop-at.number c.loop-at.at 0 c.loop-at.invariant.short (omega (arith, c.if-at-ge19.false)) (omega arith) in
    omega (arith, next.1)

pub overflow_add-number : goal.overflow_add-number
overflow_add-number c =
    let next = one_more_fits c.loop-at.number c.loop-at.at c.from.result c.loop-at.invariant.short (omega (arith, c.if-at-ge19.false))
    (omega (arith, c.from.ensures, c.if-byte-gt57.false)) in
    omega (arith, next.1)

pub loop-at-preserved : goal.loop-at-preserved
loop-at-preserved c =
    front_more c.args.mark c.args.bytes.now c.loop-at.at c.loop-at.number (c.loop-at.number * 10 + c.from.result) c.loop-at-test.true
    (omega (arith, c.if-at-ge19.false)) c.loop-at.invariant c.if-byte-mark.false c.if-byte-lt48.false c.if-byte-gt57.false
    (omega (arith, c.from.ensures))

pub returns-clause-value : goal.returns-clause-value
returns-clause-value c =
    not_before c.args.mark c.args.max c.requires.short c.args.bytes.now (λ n back le e.
    no_mark c.args.mark n c.args.bytes.now back c.loop-at.at c.loop-at.number c.loop-at.invariant c.loop-at-test.false e)
