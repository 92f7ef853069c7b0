use Rattle.std.proofs.Common.{◌<◌, ap, arith}
use Rattle.rubis_board.proofs.Takes.{forks}
use Rattle.rubis_board.specs.Rule.{PassState, known}
use Rattle.rubis_board.proofs.board.Board.split.Goals as goal

pub another-other-requires-clause-rule : goal.another-other-requires-clause-rule
another-other-requires-clause-rule c =
    let two_parts : 1 < (known c.pass.inside.seat).parts = (
    let is = ap (λ (p : PassState). p.parts) c.pass.view_is in
    let two = c.requires.parts in
    omega arith) in
    forks _ _ two_parts
