use Rattle.rubis_script.proofs.LeadFacts.{replays_go_on}
use Rattle.rubis_script.proofs.laws.replays_go_on.Goals as goal

pub returns : goal.returns
returns c = replays_go_on
