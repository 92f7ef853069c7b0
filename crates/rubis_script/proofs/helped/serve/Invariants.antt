use Rattle.std.proofs.Common.{◌≤◌}
use Rattle.rubis_engine.specs.Seam.{OfEach}
use Rattle.rubis_serving.specs.Serving.{MovesOn, at}
use Rattle.rubis_script.specs.Runs.{by_desk, AreHeld, StayWith}
use Rattle.rubis_script.proofs.helped.serve.Given as goal

abbrev pub invariant-loop : goal.invariant-loop
invariant-loop g l = record {
  next : (goal.iterator-loop g).can_next l.iterator';
  ends : (goal.iterator-loop g).is_finite l.iterator';
  crews : StayWith l.fn.helpers l.helpers;
  held : AreHeld l.chunks l.desk l.helpers.pieces;
  within : l.run.answered ≤ l.limit;
  moves : OfEach g.R.Read.remaining l.fn.chunks.reader l.chunks.reader (λ left. MovesOn (by_desk g.W.Write.contents) left l.fn.chunks
      (at l.fn.desk l.fn.run l.fn.writer) l.chunks (at l.desk l.run l.writer));
}
