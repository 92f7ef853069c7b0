use Rattle.rubis_laws.proofs.Runs.EveryRun.{equal_tables}
use Rattle.rubis_laws.proofs.laws.every_run_agrees_on_tables.Goals as goal

pub returns : goal.returns
returns c = equal_tables
