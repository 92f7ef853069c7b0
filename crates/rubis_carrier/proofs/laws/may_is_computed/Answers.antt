use Rattle.rubis_carrier.proofs.Computed.{may_computed}
use Rattle.rubis_carrier.proofs.laws.may_is_computed.Goals as goal

pub returns : goal.returns
returns c = may_computed
