use Rattle.std.proofs.Common.{arith, subst}
use Rattle.std.specs.Prelude.{Err, Ok}
use Rattle.rubis_engine.specs.Seam.{left}
use Rattle.rubis_engine.specs.declared.fault.RunFault.TheVariants.{Memory}
use Rattle.rubis_engine.proofs.SeamFacts.{each-one, each-same, each-so, each-then}
use Rattle.rubis_reading.proofs.PieceFacts.{match-none, match-some}
use Rattle.rubis_serving.specs.Outlets.{writes, writes_front}
use Rattle.rubis_serving.specs.Serving.{MovesOn, at, serving}
use Rattle.rubis_serving.specs.Writers.{are_outlets}
use Rattle.rubis_serving.proofs.ServedFacts.{begins, ends_from, moves-more, moves-none, over-on, stops-on, torn-none}
use Rattle.rubis_serving.proofs.run.run_service.Goals as goal

pub pieces-init : goal.pieces-init
pieces-init g c =
    let k = serving g.S.Service.account g.S.Service.leads (writes g.W.Write.contents) (writes_front g.W.Write.contents) in
    let none = c.new-run.ensures.none in
    record {
      within = omega (arith, none);
      moves = each-same (λ text h.
          subst (λ x. MovesOn k (left text) c.args.chunks.now x c.args.chunks.now (at c.args.service.now c.new-run.result c.args.writer.now))
          (begins g.S.Service.account g.S.Service.leads g.W.Write.contents c.args.service.now c.new-run.result c.args.writer.now
          c.new-run.ensures.empty none)
          (moves-none (are_outlets g.W.Write.contents) (left text) c.args.chunks.now (at c.args.service.now c.new-run.result c.args.writer.now)));
    }

pub returns-in_err-count : goal.returns-in_err-count
returns-in_err-count g c =
    each-then c.pieces.invariant.moves c.in_err-count.ensures.turns (λ l moves turns input all.
    ends_from g.S.Service.account g.S.Service.leads g.W.Write.contents l c.args.chunks.now c.turn.new.chunks c.args.service.now c.args.writer.now
    (at c.turn.new.service c.turn.new.run c.turn.new.outlet) c.args.limit input c.from_residual.result all
    (stops-on (are_outlets g.W.Write.contents) c.args.limit _ _ _ _ c.from_residual.result c.in_err-count.field-0.0 c.from_residual.ensures moves turns))

pub returns-in-Some : goal.returns-in-Some
returns-in-Some g c =
    let y = at c.turn.new.service c.turn.new.run c.turn.new.outlet in
    each-then c.pieces.invariant.moves c.in_ok-count.ensures.turns (λ l moves turns input all.
    ends_from g.S.Service.account g.S.Service.leads g.W.Write.contents l c.args.chunks.now c.turn.new.chunks c.args.service.now c.args.writer.now
    y c.args.limit input (Ok c.in-Some.count) all
    (over-on (are_outlets g.W.Write.contents) y c.in-Some.count moves (match-some c.in_ok-count.field-0 _ _ c.in-Some.count turns c.in-Some.is)))

pub pieces-preserved : goal.pieces-preserved
pieces-preserved g c =
    let (text, one) = each-one c.in_ok-count.ensures.turns in
    let (moves, within, nearer) = match-none c.in_ok-count.field-0 _ _ one c.in_default.is in
    record {
      within = within;
      moves = each-then c.pieces.invariant.moves c.in_ok-count.ensures.turns (λ l moves turns.
          moves-more (are_outlets g.W.Write.contents) moves (match-none c.in_ok-count.field-0 _ _ turns c.in_default.is).0);
    }

pub returns : goal.returns
returns g c =
    each-so (λ l moves input all.
    ends_from g.S.Service.account g.S.Service.leads g.W.Write.contents l c.args.chunks.now c.pieces.chunks c.args.service.now c.args.writer.now
    (at c.pieces.service c.pieces.run c.pieces.writer) c.args.limit input (Err Memory) all (torn-none (are_outlets g.W.Write.contents) moves)) c.pieces.invariant.moves
