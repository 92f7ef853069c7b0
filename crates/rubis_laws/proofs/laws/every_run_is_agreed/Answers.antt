use Rattle.rubis_laws.proofs.Common.{run, start}
use Rattle.rubis_laws.proofs.Runs.EveryRun.{sound_run}
use Rattle.rubis_laws.proofs.Audits.Verdicts.{run_faultless, run_formed, faultless_agree}
use Rattle.rubis_laws.proofs.laws.every_run_is_agreed.Goals as goal

pub returns : goal.returns
returns c = λ n keep events some few a logs of.
    let w = run keep events (start n) in
    let s = sound_run events some few a in
    faultless_agree logs (run_faultless w s logs of) (run_formed w s logs of)
