use Rattle.std.proofs.Common.{◌≡◌, ◌+◌, drop}
use Rattle.rubis_keep.specs.Faults.{same_in}
use Rattle.rubis_keep.proofs.comparing.common.Given as goal

abbrev pub invariant-loop-at : goal.invariant-loop-at
invariant-loop-at l = l.at + same_in (drop l.at l.found) (drop l.at l.text) ≡ same_in l.found l.text
