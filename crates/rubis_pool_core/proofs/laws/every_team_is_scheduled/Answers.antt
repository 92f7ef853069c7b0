use Rattle.rubis_pool_core.proofs.Threads.{follows_the_share, team_folds, team_goes_along, team_scheduled}
use Rattle.rubis_pool_core.proofs.laws.every_team_is_scheduled.Goals as goal

pub returns-clause-steps : goal.returns-clause-steps
returns-clause-steps c = team_scheduled

pub returns-clause-runs : goal.returns-clause-runs
returns-clause-runs c = team_goes_along

pub returns-clause-shares : goal.returns-clause-shares
returns-clause-shares c = follows_the_share

pub returns-clause-batch : goal.returns-clause-batch
returns-clause-batch c = team_folds
