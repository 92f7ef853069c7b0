use Rattle.std.proofs.Common.{sym}
use Rattle.rubis_audit.proofs.Judging.{none_at_nought}
use Rattle.rubis_audit.proofs.stamps.last_exceeds.Goals as goal

pub returns-then-last-eq0 : goal.returns-then-last-eq0
returns-then-last-eq0 c all h = sym (none_at_nought c.args.seen.now all c.args.v.now c.args.last h c.if-last-eq0.true)
