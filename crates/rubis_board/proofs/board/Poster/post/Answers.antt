use Rattle.rubis_board.proofs.Views.{posts, full}
use Rattle.rubis_board.proofs.board.Poster.post.Goals as goal

pub push_as-requires-clause-rule : goal.push_as-requires-clause-rule
push_as-requires-clause-rule g c = (posts _ _ c.self.invariant.1 _ _, full _ _ c.self.invariant.1)
