use Rattle.std.proofs.Common.{◌≤◌}
use Rattle.rubis_engine.specs.Seam.{OfEach}
use Rattle.rubis_serving.specs.Outlets.{writes, writes_front}
use Rattle.rubis_serving.specs.Serving.{MovesOn, at, serving}
use Rattle.rubis_serving.proofs.ServedFacts.{from}
use Rattle.rubis_serving.proofs.run.run_service.Given as goal

abbrev pub invariant-pieces : goal.invariant-pieces
invariant-pieces g l = record {
  within : l.run.answered ≤ l.limit;
  moves : OfEach g.R.Read.remaining l.fn.chunks.reader l.chunks.reader (λ left. MovesOn (serving g.S.Service.account g.S.Service.leads
      (writes g.W.Write.contents) (writes_front g.W.Write.contents)) left l.fn.chunks
      (from g.S.Service.account g.S.Service.leads g.W.Write.contents l.fn.service l.fn.writer) l.chunks (at l.service l.run l.writer));
}
