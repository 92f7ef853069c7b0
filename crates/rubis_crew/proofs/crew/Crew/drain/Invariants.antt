use Rattle.std.proofs.Common.{◌≡◌}
use Rattle.rubis_crew.specs.States.{drained}
use Rattle.rubis_crew.proofs.crew.Crew.drain.Given as goal

abbrev pub invariant-loop : goal.invariant-loop
invariant-loop g l = record {
  next : (goal.iterator-loop g).can_next l.iterator';
  ends : (goal.iterator-loop g).is_finite l.iterator';
  crew : l.lead.crew ≡ l.fn.lead.crew;
  same : drained l.lead ≡ drained l.fn.lead;
}
