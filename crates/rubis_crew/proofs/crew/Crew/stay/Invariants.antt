use Rattle.std.proofs.Common.{◌≡◌}
use Rattle.rubis_crew.proofs.crew.Crew.stay.Given as goal

abbrev pub invariant-loop : goal.invariant-loop
invariant-loop g l = record {
  next : (goal.iterator-loop g).can_next l.iterator';
  ends : (goal.iterator-loop g).is_finite l.iterator';
  crew : l.me.crew ≡ l.fn.me.crew;
  owes : l.me.paid ≡ l.me.taken;
  heard : l.me.heard ≡ l.fn.me.heard;
}
