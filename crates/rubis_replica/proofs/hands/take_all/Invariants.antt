use Rattle.rubis_replica.proofs.Common.{◌≡◌, ◌+◌, length, arc_value}
use Rattle.rubis_replica.specs.Folding.{AreOut, HasWorked}
use Rattle.rubis_replica.proofs.hands.take_all.Given as goal

abbrev pub invariant-loop : goal.invariant-loop
invariant-loop g l = record {
  next : (goal.iterator-loop g).can_next l.iterator';
  ends : (goal.iterator-loop g).is_finite l.iterator';
  out : AreOut l.crew.id l.job.board.now (arc_value l.job.batch.now) l.team.pass l.lead;
  worked : HasWorked (arc_value l.job.batch.now) l.team;
  posted : l.team.pass.posted ≡ l.fn.team.pass.posted;
  sum : l.team.pass.parts + length l.lead.given ≡ l.fn.team.pass.parts + length l.fn.lead.given;
}
