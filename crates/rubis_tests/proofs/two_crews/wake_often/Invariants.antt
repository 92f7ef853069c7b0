use Rattle.std.proofs.Common.{◌≡◌}
use Rattle.rubis_tests.proofs.two_crews.wake_often.Given as goal

abbrev pub invariant-loop-number : goal.invariant-loop-number
invariant-loop-number g l = l.lead.crew ≡ l.crew.id
