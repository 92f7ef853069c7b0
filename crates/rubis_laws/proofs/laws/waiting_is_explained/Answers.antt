use Rattle.rubis_laws.proofs.Lacking.LackingRuns.{waiting_is_explained}
use Rattle.rubis_laws.proofs.laws.waiting_is_explained.Goals as goal

pub returns : goal.returns
returns c = waiting_is_explained
