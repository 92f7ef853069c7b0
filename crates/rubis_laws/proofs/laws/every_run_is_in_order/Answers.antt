use Rattle.rubis_laws.proofs.Runs.EveryRun.{every_order}
use Rattle.rubis_laws.proofs.laws.every_run_is_in_order.Goals as goal

pub returns : goal.returns
returns c = every_order
