use Rattle.rubis_crew.specs.Both.{IsAt, StayToldOnce}
use Rattle.rubis_crew.proofs.both.Both.stay.Given as goal

abbrev pub invariant-loop : goal.invariant-loop
invariant-loop g l = record {
  next : (goal.iterator-loop g).can_next l.iterator';
  ends : (goal.iterator-loop g).is_finite l.iterator';
  at : IsAt l.first.id l.second.id l.self;
  once : StayToldOnce l.fn.self l.self;
}
