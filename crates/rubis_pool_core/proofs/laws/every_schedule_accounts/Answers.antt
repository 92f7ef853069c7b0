use Rattle.rubis_pool_core.proofs.Accounts.{opens, posts, events, every}
use Rattle.rubis_pool_core.proofs.laws.every_schedule_accounts.Goals as goal

pub returns-clause-schedule : goal.returns-clause-schedule
returns-clause-schedule c = every

pub returns-clause-steps : goal.returns-clause-steps
returns-clause-steps c = record { opening = opens; post = posts; event = events }
