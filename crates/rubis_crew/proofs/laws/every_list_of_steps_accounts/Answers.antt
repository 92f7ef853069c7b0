use Rattle.rubis_crew.proofs.ManySteps.{every_list}
use Rattle.rubis_crew.proofs.laws.every_list_of_steps_accounts.Goals as goal

pub returns : goal.returns
returns g c = every_list g.J.Job.Fits
