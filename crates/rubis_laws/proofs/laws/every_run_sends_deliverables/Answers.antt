use Rattle.rubis_laws.proofs.Runs.EveryRun.{every_packet}
use Rattle.rubis_laws.proofs.laws.every_run_sends_deliverables.Goals as goal

pub returns : goal.returns
returns c = every_packet
