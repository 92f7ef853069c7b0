use Rattle.rubis_lives.proofs.FolderFacts.{calls-are-lives, raised-calls-raise, shortened-may-replace}
use Rattle.rubis_lives.proofs.laws.calls_make_lives.Goals as goal

pub returns : goal.returns
returns c = record { lives = calls-are-lives; shortened = shortened-may-replace; raised = raised-calls-raise }
