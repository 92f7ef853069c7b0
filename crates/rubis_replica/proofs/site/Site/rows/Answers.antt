use Rattle.rubis_replica.proofs.Common.{◌∙◌, ap, sym, subst, table_rows, cores, fold_of, listing_rows, AreOfTheLog}
use Rattle.rubis_model.specs.Listings.{misfit_rows}
use Rattle.rubis_replica.specs.State.{IsReadyFor}
use Rattle.rubis_replica.proofs.Deciding.{log_misfits, log_tables}
use Rattle.rubis_replica.proofs.Listing.{applied_already, if_rows, ready_tables, tables_shown}
use Rattle.rubis_replica.proofs.site.Site.rows.Goals as goal

pub returns-in_ok-misfits-in-Misfits : goal.returns-in_ok-misfits-in-Misfits
returns-in_ok-misfits-in-Misfits g c =
    let site = c.self.inside in
    let now = c.args.self.now in
    let found = c.in_ok-misfits-in-Misfits.misfits.items in
    let ready = subst (λ l. IsReadyFor l now) c.in-Misfits.is c.requires in
    let all = log_misfits now site.intake.place site.intake.state site.batch site.follower (applied_already _ now c.self.view_is ready) c.self.invariant found
    (subst (λ ts. AreOfTheLog ts found) c.tables.ensures c.in_ok-misfits-in-Misfits.ensures.log) in
    c.misfit_rows.ensures ∙ ap misfit_rows all ∙ sym (ap (listing_rows now.state.log (fold_of (cores now.state.log))) c.in-Misfits.is)

pub returns-in_default : goal.returns-in_default
returns-in_default g c =
    let site = c.self.inside in
    let now = c.args.self.now in
    let listing = c.args.listing.now in
    let ready = ready_tables now listing c.in_default.not-Log c.requires in
    let tables = log_tables now site.intake.place site.intake.state site.batch site.follower (applied_already _ now c.self.view_is ready) c.self.invariant in
    if_rows c.rows.result _ _ c.rows.ensures (λ rows is.
    is ∙ ap (table_rows listing) tables ∙ tables_shown now.state.log (fold_of (cores now.state.log)) listing c.in_default.not-Log c.in_default.not-Misfits)
