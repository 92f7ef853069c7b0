use Rattle.std.proofs.Common.{inr, refl}
use Rattle.rubis_keep.proofs.HistoryFacts.{err-is}
use Rattle.rubis_keep.proofs.TurnFacts.{turn-ends, turn-unreplied, unmoved-at}
use Rattle.rubis_keep.proofs.pieces.next_piece.Goals as goal

-- what comes next could not be kept or answered
pub returns-in_err-came-clause-turn : goal.returns-in_err-came-clause-turn
returns-in_err-came-clause-turn g c = err-is _ _ c.from_residual.result _ c.from_residual.ensures.1 c.in_err-came.ensures.answered

-- the question could not be answered
pub returns-in_err-reply_if-clause-turn : goal.returns-in_err-reply_if-clause-turn
returns-in_err-reply_if-clause-turn g c =
    let replied = rw c.deref.ensures.value at c.in_err-reply_if.ensures.replied in
    err-is _ _ c.from_residual-in_err-reply_if.result _ c.from_residual-in_err-reply_if.ensures.1
    (inr (inr (turn-unreplied _ _ _ c.in_ok-came.ensures.answered replied.0 refl replied.1 c.in_err-reply_if.ensures.fault)))

pub returns-clause-turn : goal.returns-clause-turn
returns-clause-turn g c =
    turn-ends _ c.in_ok-came.ensures.answered (rw c.deref.ensures.value at c.in_ok-reply_if.ensures.replied) (unmoved-at g.O.Read.remaining c.next_lines.new.answers c.reply_if.new.answers c.reply_if.ensures.same c.reply_if.ensures.before) refl refl refl
    c.reply_if.ensures.listed
