use Rattle.std.proofs.Common.{refl}
use Rattle.rubis_script.proofs.helped.fold.Goals as goal

pub returns-clause-folded : goal.returns-clause-folded
returns-clause-folded g c = record { setup = (c.cut_by_crew.ensures.place, refl); state = c.cut_by_crew.ensures.state; held = (refl, refl) }
