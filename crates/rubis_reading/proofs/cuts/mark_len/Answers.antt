use Rattle.std.proofs.Common.{arith}
use Rattle.rubis_reading.proofs.CutFacts.{marked, unmarked}
use Rattle.rubis_reading.proofs.cuts.mark_len.Goals.{else-text-ge3-via-then-text-ge3+then-text+then-text-2+else-text-3}
use Rattle.rubis_reading.proofs.cuts.mark_len.Goals.{else-text-ge3-via-then-text-ge3+then-text+else-text-2, else-text-ge3-via-then-text-ge3+else-text}
use Rattle.rubis_reading.proofs.cuts.mark_len.Goals.{else-text-ge3-via-else-text-ge3}
use Rattle.rubis_reading.proofs.cuts.mark_len.Goals as goal

pub returns-then-text-3-clause-rest : goal.returns-then-text-3-clause-rest
returns-then-text-3-clause-rest c = marked c.args.text.now c.if-text-ge3.true c.if-text.true c.if-text-2.true c.if-text-3.true

pub returns-else-text-ge3-clause-rest : goal.returns-else-text-ge3-clause-rest
returns-else-text-ge3-clause-rest c =
    elim c.else-text-ge3.branch [
      | else-text-ge3-via-then-text-ge3+then-text+then-text-2+else-text-3 w ↦ unmarked c.args.text.now (λ l x y z. w.if-text-3.false z)
      | else-text-ge3-via-then-text-ge3+then-text+else-text-2 w ↦ unmarked c.args.text.now (λ l x y z. w.if-text-2.false y)
      | else-text-ge3-via-then-text-ge3+else-text w ↦ unmarked c.args.text.now (λ l x y z. w.if-text.false x)
      | else-text-ge3-via-else-text-ge3 w ↦ unmarked c.args.text.now (λ l x y z. omega (arith, l, w.if-text-ge3.false))
    ]
