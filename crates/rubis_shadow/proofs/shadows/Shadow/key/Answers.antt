use Rattle.std.proofs.Common.{◌∙◌}
use Rattle.std.specs.Prelude.{slice_get}
use Rattle.rubis_shadow.specs.Changes.{both_as}
use Rattle.rubis_shadow.specs.Shadows.{parts}
use Rattle.rubis_shadow.proofs.Footprint.{key_of_any_red}
use Rattle.rubis_shadow.proofs.PartFacts.{key_found}
use Rattle.rubis_shadow.proofs.shadows.Shadow.key.Goals as goal

pub returns : goal.returns
returns c = λ red.
    key_found (both_as c.in_ok-key_and_change.field-0) (slice_get (parts c.args.id 0 c.args.self.now) c.args.place) c.in_ok-key_and_change.ensures
    ∙ key_of_any_red c.args.id red c.args.self.now c.args.place
