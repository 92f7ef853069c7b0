use Rattle.rubis_release.proofs.Intakes.{opening_holds}
use Rattle.rubis_release.proofs.intake.Intake.hashed.Goals as goal

pub invariant_of-result : goal.invariant_of-result
invariant_of-result c =
    opening_holds (record { site = c.args.site; sites = c.args.sites; keep = c.args.keep }) c.new.result c.if-site-eq0.result
    c.requires.site c.requires.sites c.requires.some c.requires.keep c.new.ensures
