use Rattle.std.proofs.Common.{◌<◌, ap, arith}
use Rattle.rubis_board.proofs.Takes.{takes, marks}
use Rattle.rubis_board.specs.declared.rule.PassView.{PassView}
use Rattle.rubis_board.specs.Rule.{known}
use Rattle.rubis_board.proofs.board.Board.take.Goals as goal

pub pop_as-requires-clause-rule : goal.pop_as-requires-clause-rule
pop_as-requires-clause-rule g c = (takes _ _ c.loop.invariant.some_part, λ items views ruled at. tt)

pub push_as-requires-clause-rule : goal.push_as-requires-clause-rule
push_as-requires-clause-rule g c =
    let some_part : 0 < (known c.pop_as.new.pass).parts =
    (let kept = ap (λ (v : PassView). v.parts) c.in-None-pop_as.ensures.rule.0 in
    let some = c.loop.invariant.some_part in omega arith) in
    (marks _ _ some_part _, λ items views ruled at. tt)
