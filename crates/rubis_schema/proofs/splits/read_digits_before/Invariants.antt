use Rattle.rubis_schema.proofs.Before.{IsFront}
use Rattle.rubis_schema.proofs.splits.read_digits_before.Given as goal

abbrev pub invariant-loop-at : goal.invariant-loop-at
invariant-loop-at l = IsFront l.mark l.bytes l.at l.number
