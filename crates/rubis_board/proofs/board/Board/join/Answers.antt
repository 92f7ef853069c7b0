use Rattle.std.proofs.Common.{rules}
use Rattle.rubis_board.proofs.Takes.{merges, knows}
use Rattle.rubis_board.proofs.board.Board.join.Goals as goal

pub absorb-requires-clause-rule : goal.absorb-requires-clause-rule
absorb-requires-clause-rule c = merges _ _ _ _ c.pass.invariant.1 c.other.invariant.1

pub learn_as-requires-clause-rule : goal.learn_as-requires-clause-rule
learn_as-requires-clause-rule c = knows _ _ (search rules)
