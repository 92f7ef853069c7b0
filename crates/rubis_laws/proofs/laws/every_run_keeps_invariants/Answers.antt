use Rattle.rubis_laws.proofs.Runs.EveryRun.{every_run}
use Rattle.rubis_laws.proofs.laws.every_run_keeps_invariants.Goals as goal

pub returns : goal.returns
returns c = every_run
