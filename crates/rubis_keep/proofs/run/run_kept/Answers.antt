use Rattle.rubis_keep.specs.Telling.{grows-none}
use Rattle.rubis_keep.specs.declared.fault.KeepFault.TheVariants as fault
use Rattle.rubis_keep.proofs.HistoryFacts.{err-is}
use Rattle.rubis_keep.proofs.RunFacts.{runs-unstarted}
use Rattle.rubis_keep.proofs.run.run_kept.Goals as goal

pub returns-in_err-unread : goal.returns-in_err-unread
returns-in_err-unread g c =
    err-is _ _ c.from_residual.result fault.Memory c.from_residual.ensures.1 (runs-unstarted _ _ _ _ _ _ fault.Memory (grows-none _) tt)
