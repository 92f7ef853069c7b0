use Rattle.rubis_model.proofs.Shares.{parts_commute}
use Rattle.rubis_model.proofs.laws.parts_commute.Goals as goal

pub returns : goal.returns
returns c = parts_commute
