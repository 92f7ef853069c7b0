use Rattle.rubis_laws.proofs.Runs.Written.{refusals_change_nothing}
use Rattle.rubis_laws.proofs.laws.refusals_change_nothing.Goals as goal

pub returns : goal.returns
returns c = refusals_change_nothing
