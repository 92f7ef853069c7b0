use Rattle.std.proofs.Common.{ℕ, List, drop, Some, inl, inr, ap, ◌∙◌, arith}
use Rattle.std.proofs.lemmas.List.{take_rest}
use Rattle.rubis_schema.proofs.Before.{is_before, no_digit, no_first_digit, not_before, one_digit}
use Rattle.rubis_schema.proofs.splits.read_digit_before.Goals as goal
use Rattle.rubis_schema.proofs.splits.read_digit_before.Goals.{then-byte-lt48-via-then-byte-lt48, then-byte-lt48-via-else-byte-lt48+then-byte-gt57}

pub returns-then-byte-lt48-clause-value : goal.returns-then-byte-lt48-clause-value
returns-then-byte-lt48-clause-value c =
    not_before c.args.mark c.args.max c.requires.max.1 c.args.bytes.now (λ n back le e.
    no_first_digit c.args.mark n c.args.bytes.now back (omega (arith, le, c.requires.max.1)) (elim c.then-byte-lt48.branch [
      | then-byte-lt48-via-then-byte-lt48 w ↦ inl w.if-byte-lt48.true
      | then-byte-lt48-via-else-byte-lt48+then-byte-gt57 w ↦ inr w.if-byte-gt57.true
    ]) e)

pub returns-clause-value : goal.returns-clause-value
returns-clause-value c =
    let bytes = c.args.bytes.now in
    let number = c.from.result in
    ap (λ (l : List ℕ). Some (number, l)) (take_rest bytes 2)
    ∙ is_before c.args.mark c.args.max c.requires.max.1 (no_digit c.args.mark c.requires.mark) bytes number (drop 2 bytes)
    (omega (arith, c.from.ensures, c.if-byte-gt57.false, c.requires.max.0))
    (one_digit c.args.mark number bytes c.requires.second.0 c.requires.second.1 c.requires.mark c.if-byte-lt48.false c.if-byte-gt57.false
    (omega (arith, c.from.ensures)))
