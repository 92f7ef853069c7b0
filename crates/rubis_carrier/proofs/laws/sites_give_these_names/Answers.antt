use Rattle.rubis_carrier.proofs.Sites.{these_names}
use Rattle.rubis_carrier.proofs.laws.sites_give_these_names.Goals as goal

pub returns : goal.returns
returns c = these_names
