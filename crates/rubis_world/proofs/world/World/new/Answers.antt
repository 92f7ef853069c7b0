use Rattle.rubis_world.proofs.Moves.{begun, told}
use Rattle.rubis_world.proofs.world.World.new.Goals as goal

pub invariant_of-result : goal.invariant_of-result
invariant_of-result c = begun c.in_ok-new.field-0 c.args.config.now.sites c.args.config.now.keep c.in_ok-new.ensures.limits c.in_ok-new.ensures.start

pub returns-clause-run : goal.returns-clause-run
returns-clause-run c =
    told c.in_ok-new.field-0 (begun c.in_ok-new.field-0 c.args.config.now.sites c.args.config.now.keep c.in_ok-new.ensures.limits c.in_ok-new.ensures.start)
