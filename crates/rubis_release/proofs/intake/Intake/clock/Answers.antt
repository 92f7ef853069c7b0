use Rattle.std.proofs.Common.{ap, ◌∙◌}
use Rattle.rubis_release.specs.Release.{Intake, clock_of}
use Rattle.rubis_release.proofs.Intakes.{clock_is}
use Rattle.rubis_release.proofs.intake.Intake.clock.Goals as goal

pub returns-clause-counts : goal.returns-clause-counts
returns-clause-counts c = clock_is _ _ _ c.self.invariant c.clock.ensures ∙ ap (λ (i : Intake). clock_of i.place.sites i.state.log) c.self.view_is
