use Rattle.rubis_keep.specs.Turns.{standing}
use Rattle.rubis_keep.proofs.TurnFacts.{HasTurned}
use Rattle.rubis_keep.proofs.pieces.answer_pieces.Given as goal

abbrev pub invariant-loop-turn : goal.invariant-loop-turn
invariant-loop-turn g l = record {
  next : (goal.iterator-loop-turn g).can_next l._turn-iterator;
  ends : (goal.iterator-loop-turn g).is_finite l._turn-iterator;
  turned : HasTurned l.keeps (standing g.R.Read.remaining g.O.Read.remaining g.F.SiteFiles.history l.fn.live l.fn.lines l.fn.clerk l.fn.answers)
      (standing g.R.Read.remaining g.O.Read.remaining g.F.SiteFiles.history l.live l.lines l.clerk l.answers);
}
