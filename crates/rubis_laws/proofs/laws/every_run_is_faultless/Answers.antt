use Rattle.rubis_laws.proofs.Common.{run, start}
use Rattle.rubis_laws.proofs.Runs.EveryRun.{sound_run}
use Rattle.rubis_laws.proofs.Audits.Verdicts.{run_faultless}
use Rattle.rubis_laws.proofs.laws.every_run_is_faultless.Goals as goal

pub returns : goal.returns
returns c = λ n keep events some few a. run_faultless (run keep events (start n)) (sound_run events some few a)
