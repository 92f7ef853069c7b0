use Rattle.rubis_model.specs.System.Event.{Deliver}
use Rattle.rubis_world.proofs.Moves.{answered, told}
use Rattle.rubis_world.proofs.world.World.deliver.Goals as goal

pub invariant_of-self : goal.invariant_of-self
invariant_of-self g c =
    answered c.self.inside.sites c.deliver.new.self (Deliver c.args.site c.args.number) c.deliver.result tt c.deliver.ensures.step c.self.invariant

pub returns-clause-run : goal.returns-clause-run
returns-clause-run g c =
    told c.deliver.new.self
    (answered c.self.inside.sites c.deliver.new.self (Deliver c.args.site c.args.number) c.deliver.result tt c.deliver.ensures.step c.self.invariant)
