use Rattle.rubis_board.proofs.Takes.{knows}
use Rattle.rubis_board.proofs.board.Board.close.Goals as goal

pub learn_as-requires-clause-rule : goal.learn_as-requires-clause-rule
learn_as-requires-clause-rule c = knows _ _ c.pass.invariant.1
