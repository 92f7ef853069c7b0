use Rattle.rubis_listing.proofs.Common.{drop, misfit_rows}
use Rattle.rubis_listing.proofs.logs.put_misfits.Given as goal

-- what the misfits to come add, all misfits add to what there was
abbrev pub invariant-loop-misfit : goal.invariant-loop-misfit
invariant-loop-misfit g l = (s : g.row.S.Denot) → g.S.RowSink.adds (misfit_rows (drop l.misfit-index l.fn.misfits)) l.sink s
    → g.S.RowSink.adds (misfit_rows l.fn.misfits) l.fn.sink s
