use Rattle.rubis_clock.proofs.clocks.Clock.advance.Goals as goal

pub returns : goal.returns
returns c = c.advance_by.ensures c.args.stamp.now.deps
