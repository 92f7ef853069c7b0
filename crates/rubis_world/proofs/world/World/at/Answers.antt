use Rattle.rubis_world.proofs.Common.{length, subst, sym, IsEvent, At}
use Rattle.rubis_world.specs.Worlds.{WorldState}
use Rattle.rubis_world.proofs.Moves.{answered, told}
use Rattle.rubis_world.proofs.world.World.at.Goals as goal

pub invariant_of-self : goal.invariant_of-self
invariant_of-self g c =
    answered c.self.inside.sites c.at.new.self (At c.args.site c.args.request) c.at.result
    (subst (λ (w : WorldState). IsEvent (length w.world.sites) (At c.args.site c.args.request)) (sym c.self.view_is) c.requires) c.at.ensures.step
    c.self.invariant

pub returns-clause-run : goal.returns-clause-run
returns-clause-run g c =
    told c.at.new.self (answered c.self.inside.sites c.at.new.self (At c.args.site c.args.request) c.at.result
    (subst (λ (w : WorldState). IsEvent (length w.world.sites) (At c.args.site c.args.request)) (sym c.self.view_is) c.requires) c.at.ensures.step
    c.self.invariant)
