use Rattle.std.proofs.Common.{◌≤◌, arith, length}
use Rattle.rubis_reading.proofs.PieceFacts.{counted-end, counted-flat}
use Rattle.rubis_reading.proofs.ahead.count_stretches.Goals as goal

pub returns : goal.returns
returns c =
    let over : length c.args.list.now ≤ c.loop-run.run-index = omega (arith, c.loop-run-test.false) in
    let none = counted-end c.args.list.now c.loop-run.run-index over in
    omega (arith, c.loop-run.invariant, none, counted-flat c.args.list.now)
