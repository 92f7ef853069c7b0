use Rattle.std.proofs.Common.{◌≡◌}
use Rattle.rubis_tests.proofs.two_crews.wake_in_turn.Given as goal

abbrev pub invariant-loop-number : goal.invariant-loop-number
invariant-loop-number g l = (l.leads.first.crew ≡ l.first.id) × (l.leads.second.crew ≡ l.second.id)
