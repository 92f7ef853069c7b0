use Rattle.std.proofs.Common.{◌<◌, length, arith}
use Rattle.rubis_release.proofs.Slots.{first_is, none_is_ready, one_more, test_is, test_is_not}
use Rattle.rubis_release.proofs.waiting.first_among.Goals as goal

pub loop-at-init : goal.loop-at-init
loop-at-init c = λ i before. absurd (omega (arith, before))

pub loop-at-preserved : goal.loop-at-preserved
loop-at-preserved c = one_more c.args.clock.now c.args.slots.now.entries c.loop-at.at c.loop-at.invariant
    (test_is_not _ _ c.is_ready_at.result c.if-is_ready_at.false c.is_ready_at.ensures)

pub returns-then-is_ready_at : goal.returns-then-is_ready_at
returns-then-is_ready_at c = first_is c.args.clock.now c.args.slots.now.entries c.loop-at.at (λ j. j < length c.args.clock.now.counts) c.loop-at.invariant
    (test_is _ _ c.is_ready_at.result c.if-is_ready_at.true c.is_ready_at.ensures)

pub returns : goal.returns
returns c = none_is_ready c.args.clock.now c.args.slots.now.entries c.loop-at.at (λ j. j < length c.args.clock.now.counts) c.loop-at.invariant
    (omega (arith, c.len-at-end.ensures.len, c.loop-at-test.false))
