use Rattle.std.proofs.Common.{◌≡◌}
use Rattle.rubis_tests.proofs.one_crew.give_one.Given as goal

abbrev pub invariant-loop : goal.invariant-loop
invariant-loop g l = record {
  next : (goal.iterator-loop g).can_next l.iterator';
  ends : (goal.iterator-loop g).is_finite l.iterator';
  crew : l.lead.crew ≡ l.crew.id;
}
