use Rattle.rubis_lives.proofs.HistoriesFacts.{histories-are-runs}
use Rattle.rubis_lives.proofs.laws.histories_are_runs.Goals as goal

pub returns : goal.returns
returns c = histories-are-runs
