use Rattle.rubis_pool_core.proofs.Threads.{scheduled, schedules, posts_first}
use Rattle.rubis_pool_core.proofs.laws.every_list_of_steps_is_scheduled.Goals as goal

pub returns-clause-steps : goal.returns-clause-steps
returns-clause-steps c = scheduled

pub returns-clause-runs : goal.returns-clause-runs
returns-clause-runs c = schedules

pub returns-clause-posts_first : goal.returns-clause-posts_first
returns-clause-posts_first c = posts_first
