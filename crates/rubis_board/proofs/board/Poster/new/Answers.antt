use Rattle.rubis_board.proofs.Views.{begins}
use Rattle.rubis_board.proofs.board.Poster.new.Goals as goal

pub ruled-requires-clause-rule : goal.ruled-requires-clause-rule
ruled-requires-clause-rule c = begins
