use Rattle.rubis_script.proofs.Common.{◌∙◌, refl, at, are_outlets}
use Rattle.rubis_engine.proofs.RunFacts.{if_none}
use Rattle.rubis_engine.proofs.SeamFacts.{each-one, each-same, each-then}
use Rattle.rubis_reading.proofs.PieceFacts.{match-none, match-some}
use Rattle.rubis_serving.proofs.ServedFacts.{moves-more, moves-none, over-on, stops-on}
use Rattle.rubis_script.proofs.helped.serve.Goals as goal

pub loop-init : goal.loop-init
loop-init g c = record {
  next = tt;
  ends = tt;
  crews = (refl, refl);
  held = c.requires.held;
  within = c.requires.within;
  moves = each-same (λ text h. moves-none (are_outlets g.W.Write.contents) _ c.args.chunks.now _);
}

pub returns-in_err-count-clause-run : goal.returns-in_err-count-clause-run
returns-in_err-count-clause-run g c =
    each-then c.loop.invariant.moves c.in_err-count.ensures.turns (λ l moves turns.
    stops-on (are_outlets g.W.Write.contents) c.args.limit _ _ _ _ c.from_residual.result c.in_err-count.field-0.0 c.from_residual.ensures moves turns)

pub returns-in_err-count-clause-crews : goal.returns-in_err-count-clause-crews
returns-in_err-count-clause-crews g c =
    (c.in_err-count.ensures.held.0.0 ∙ c.loop.invariant.crews.0, c.in_err-count.ensures.held.0.1 ∙ c.loop.invariant.crews.1)

pub returns-in-Some-2-clause-run : goal.returns-in-Some-2-clause-run
returns-in-Some-2-clause-run g c =
    each-then c.loop.invariant.moves c.in_ok-count.ensures.turns (λ l moves turns.
    over-on (are_outlets g.W.Write.contents) (at c.helped_turn.new.desk c.helped_turn.new.run c.helped_turn.new.writer) c.in-Some-2.count
    moves (match-some c.in_ok-count.field-0 _ _ c.in-Some-2.count turns c.in-Some-2.is))

pub returns-in-Some-2-clause-crews : goal.returns-in-Some-2-clause-crews
returns-in-Some-2-clause-crews g c =
    (c.in_ok-count.ensures.held.0.0 ∙ c.loop.invariant.crews.0, c.in_ok-count.ensures.held.0.1 ∙ c.loop.invariant.crews.1)

pub loop-preserved : goal.loop-preserved
loop-preserved g c =
    let (text, one) = each-one c.in_ok-count.ensures.turns in
    let (moves, within, nearer) = match-none c.in_ok-count.field-0 _ _ one c.in_default.is in
    record {
      next = tt;
      ends = tt;
      crews = (c.in_ok-count.ensures.held.0.0 ∙ c.loop.invariant.crews.0, c.in_ok-count.ensures.held.0.1 ∙ c.loop.invariant.crews.1);
      held = if_none c.in_ok-count.field-0 c.in_ok-count.ensures.held.1 c.in_default.is;
      within = within;
      moves = each-then c.loop.invariant.moves c.in_ok-count.ensures.turns (λ l moves turns.
          moves-more (are_outlets g.W.Write.contents) moves (match-none c.in_ok-count.field-0 _ _ turns c.in_default.is).0);
    }
