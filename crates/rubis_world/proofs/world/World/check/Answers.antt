use Rattle.std.proofs.Common.{◌∙◌}
use Rattle.rubis_engine.proofs.RunFacts.{if_ok_so}
use Rattle.rubis_world.proofs.Moves.{agree, among, stayed, told}
use Rattle.rubis_world.proofs.world.World.check.Goals as goal

pub check-requires-clause-among : goal.check-requires-clause-among
check-requires-clause-among g c κs within = among c.self.inside.sites c.self.invariant

pub returns-clause-agrees : goal.returns-clause-agrees
returns-clause-agrees g c = if_ok_so _ _ c.check.result (λ found is. is ∙ agree c.self.inside.sites c.self.invariant) c.check.ensures.verdict

pub returns-clause-run : goal.returns-clause-run
returns-clause-run g c = told c.check.new.sites (stayed c.self.inside.sites c.check.new.sites c.check.ensures.same c.self.invariant)

pub invariant_of-self : goal.invariant_of-self
invariant_of-self g c = stayed c.self.inside.sites c.check.new.sites c.check.ensures.same c.self.invariant
