use Rattle.std.proofs.Common.{rules, ◌≡◌, ◌-◌, ◌≤◌, ◌∙◌, ap, length, subst, sym}
use Rattle.rubis_listing.specs.Parts.{rows_from, size_of}
use Rattle.rubis_listing.specs.declared.sources.Source.{Source}
use Rattle.rubis_listing.proofs.Making.{log_count, misfit_count}
use Rattle.rubis_listing.proofs.sources.Source.count.Goals as goal

pub returns-in-Log : goal.returns-in-Log
returns-in-Log c =
    let log = c.in-Log.log.now in
    let within = subst (λ (s : Source). c.args.from ≤ size_of s) c.in-Log.is c.requires in
    subst (λ (s : Source). length log - c.args.from ≡ length (rows_from s c.args.from)) (sym c.in-Log.is) (log_count log c.args.from within)

pub returns-in-Misfits : goal.returns-in-Misfits
returns-in-Misfits c =
    let misfits = c.in-Misfits.misfits.items in
    let many : c.len-in-Misfits.result ≡ length misfits = search rules in
    let within = subst (λ (s : Source). c.args.from ≤ size_of s) c.in-Misfits.is c.requires in
    subst (λ (s : Source). c.len-in-Misfits.result - c.args.from ≡ length (rows_from s c.args.from)) (sym c.in-Misfits.is)
    (ap (λ n. n - c.args.from) many ∙ misfit_count misfits c.args.from within)
