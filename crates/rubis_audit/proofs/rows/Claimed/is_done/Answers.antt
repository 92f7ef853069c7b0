use Rattle.rubis_audit.proofs.Common.{ap, option_map}
use Rattle.rubis_audit.specs.Claimed.{rest_for_next}
use Rattle.rubis_audit.proofs.Comparing.{never_done, none_more}
use Rattle.rubis_audit.proofs.rows.Claimed.is_done.Goals as goal

pub returns-in-Some : goal.returns-in-Some
returns-in-Some c = none_more c.in-Some.rest.now (rest_for_next c.args.self.now) c.is_empty.result (ap (option_map (λ r. r.now)) c.in-Some.is) c.is_empty.ensures

pub returns-in-None : goal.returns-in-None
returns-in-None c = never_done (rest_for_next c.args.self.now) (ap (option_map (λ r. r.now)) c.in-None.is)
