use Rattle.rubis_release.proofs.Intakes.{opening_holds}
use Rattle.rubis_release.proofs.intake.Intake.take.Goals as goal

pub invariant_of-fresh : goal.invariant_of-fresh
invariant_of-fresh c =
    let known = c.self.invariant.conditions in
    opening_holds (record { site = c.self.inside.site; sites = c.self.inside.sites; keep = c.self.inside.keep }) c.fresh.result c.if-self-eq0.fresh
    known.site known.sites known.some known.keep c.fresh.ensures
