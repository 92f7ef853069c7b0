use Rattle.std.proofs.Common.{arith}
use Rattle.rubis_keep.proofs.DifferenceFacts.{same-none}
use Rattle.rubis_keep.proofs.comparing.common.Goals as goal

pub returns-clause-same : goal.returns-clause-same
returns-clause-same c =
    let none = same-none c.loop-at.at c.args.found.now c.args.text.now (omega (arith, c.min-most.ensures, c.loop-at.auto, c.loop-at-test.false)) in
    omega (arith, c.loop-at.invariant, none, c.min-most.ensures, c.loop-at.auto, c.loop-at-test.false)
