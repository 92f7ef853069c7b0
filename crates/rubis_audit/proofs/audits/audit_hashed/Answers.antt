use Rattle.std.proofs.Common.{arith}
use Rattle.rubis_audit.proofs.Walking.{over_faultless, over_found, over_more, over_sound}
use Rattle.rubis_audit.proofs.audits.audit_hashed.Goals as goal

pub returns-in-Some-clause-verdict : goal.returns-in-Some-clause-verdict
returns-in-Some-clause-verdict c =
    over_found c.loop-at.seen c.walk.new.seen c.loop-at.at c.args.logs.now (c.in-Some.kind, c.in-Some.entry) c.loop-at-test.true c.loop-at.invariant
    (rw c.in-Some.is at c.in_ok-kind.ensures)

pub loop-at-preserved : goal.loop-at-preserved
loop-at-preserved c =
    over_more c.loop-at.seen c.walk.new.seen c.loop-at.at c.args.logs.now c.loop-at-test.true c.loop-at.invariant
    (rw c.in_default.is at c.in_ok-kind.ensures)

pub returns-clause-sound : goal.returns-clause-sound
returns-clause-sound c = λ e. over_sound c.args.sites c.loop-at.seen c.loop-at.at c.args.logs.now
    (omega (arith, c.loop-at-test.false)) c.requires.among c.loop-at.invariant

pub returns-clause-faultless : goal.returns-clause-faultless
returns-clause-faultless c = λ e. over_faultless c.args.sites c.loop-at.seen c.loop-at.at c.args.logs.now
    (omega (arith, c.loop-at-test.false)) c.requires.among c.loop-at.invariant
