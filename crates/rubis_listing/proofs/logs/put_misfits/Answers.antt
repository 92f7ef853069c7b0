use Rattle.rubis_listing.proofs.Common.{◌∷◌, [], ◌++◌, ◌∙◌, ap, sym, subst, drop, ◌+◌, ◌<◌, length, rules, misfit_rows}
use Rattle.rubis_listing.proofs.Making.{misfit_more}
use Rattle.rubis_listing.proofs.logs.put_misfits.Goals as goal

pub loop-misfit-preserved : goal.loop-misfit-preserved
loop-misfit-preserved g c s h =
    let misfits = c.args.misfits.now in
    let at = c.loop-misfit.misfit-index in
    let row = c.put_misfit.new.fields in
    let inside : at < length misfits = search rules in
    let rows = misfit_more at misfits _ inside ∙ ap (λ r. (r ∷ []) ++ misfit_rows (drop (at + 1) misfits)) (sym c.in_ok-put_misfit.ensures) in
    let more = g.met.S.RowSink.adds_more (row ∷ []) (misfit_rows (drop (at + 1) misfits)) c.loop-misfit.sink c.put.new.self s c.in_ok-put.ensures h in
    c.loop-misfit.invariant s (subst (λ rs. g.S.RowSink.adds rs c.loop-misfit.sink s) (sym rows) more)
