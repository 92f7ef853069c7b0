use Rattle.rubis_laws.proofs.Common.{row_by_key, fold_of}
use Rattle.rubis_laws.proofs.Rows.FoldIsMeaning.{fold_is_meaning}
use Rattle.rubis_laws.proofs.Runs.Invariants.{checked_holds}
use Rattle.rubis_laws.proofs.Order.Decisions.{decided_fits}
use Rattle.rubis_laws.proofs.laws.decided_shadows_fit.Goals as goal

pub returns : goal.returns
returns c = λ log standing ask x checked short e. decided_fits (row_by_key (fold_of log).tables) log (fold_is_meaning log checked short).0.rows standing ask x
    (checked_holds log checked) e
