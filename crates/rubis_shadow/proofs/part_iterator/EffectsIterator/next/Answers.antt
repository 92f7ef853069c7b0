use Rattle.std.proofs.Common.{sym, ◌∙◌}
use Rattle.rubis_shadow.proofs.Footprint.{drop_from, one_more}
use Rattle.rubis_shadow.proofs.part_iterator.EffectsIterator.next.Goals as goal

pub returns-clause-steps : goal.returns-clause-steps
returns-clause-steps c = sym c.self.view_is ∙ drop_from _ c.self.inside.given c.in_ok-part.part (sym c.in_ok-part.ensures)

pub invariant_of-self : goal.invariant_of-self
invariant_of-self c = one_more c.self.inside.id c.self.inside.red c.self.inside.shadow.now c.self.inside.given c.in_ok-part.part (sym c.in_ok-part.ensures)
