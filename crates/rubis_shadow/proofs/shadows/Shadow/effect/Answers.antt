use Rattle.std.specs.Prelude.{slice_get}
use Rattle.rubis_shadow.specs.Changes.{change_of}
use Rattle.rubis_shadow.specs.Shadows.{parts}
use Rattle.rubis_shadow.proofs.PartFacts.{part_found}
use Rattle.rubis_shadow.proofs.shadows.Shadow.effect.Goals as goal

pub returns : goal.returns
returns c = part_found (c.in_ok-key.key, change_of c.in_ok-key.change) (slice_get (parts c.args.id c.args.red c.args.self.now) c.args.place) c.in_ok-key.ensures _
