use Rattle.rubis_laws.proofs.Lacking.LackReadings.{lack_follows_the_audit}
use Rattle.rubis_laws.proofs.laws.lack_follows_the_audit.Goals as goal

pub returns : goal.returns
returns c = lack_follows_the_audit
