use Rattle.rubis_lives.proofs.FolderFacts.{folders-are-a-run}
use Rattle.rubis_lives.proofs.laws.folders_are_a_run.Goals as goal

pub returns : goal.returns
returns c = folders-are-a-run
