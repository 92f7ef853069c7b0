use Rattle.std.proofs.Common.{◌≡◌}
use Rattle.rubis_tests.proofs.two_crews.wait_for_one.Given as goal

abbrev pub invariant-loop : goal.invariant-loop
invariant-loop g l = l.lead.crew ≡ l.crew.id
