use Rattle.rubis_keep.proofs.Common.{rules, MatchBool-at_false}
use Rattle.rubis_keep.proofs.HistoryFacts.{err-is}
use Rattle.rubis_keep.proofs.TurnFacts.{turned-breaks, turned-ends, turned-more, turned-none}
use Rattle.rubis_keep.proofs.pieces.answer_pieces.Goals as goal

pub loop-turn-init : goal.loop-turn-init
loop-turn-init g c = record { next = search rules; ends = search rules; turned = turned-none c.args.keeps _ c.requires }

pub loop-turn-preserved : goal.loop-turn-preserved
loop-turn-preserved g c =
    record { next = search rules; ends = search rules; turned = turned-more _ c.loop-turn.invariant.turned c.in_ok-next_piece.ensures.turn }

-- a piece could not be kept or answered
pub returns-in_err-next_piece : goal.returns-in_err-next_piece
returns-in_err-next_piece g c = err-is _ _ c.from_residual.result _ c.from_residual.ensures.1
    (turned-breaks _ _ _ c.loop-turn.invariant.turned c.in_err-next_piece.ensures.turn)

-- the input has ended
pub returns-then-not-branch : goal.returns-then-not-branch
returns-then-not-branch g c = turned-ends _ c.loop-turn.invariant.turned c.in_ok-next_piece.ensures.turn
    (MatchBool-at_false _ _ c.if-not-branch.true c.in_ok-next_piece.ensures.end)
