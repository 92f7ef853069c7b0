use Rattle.rubis_world.proofs.Common.{subst, InRun}
use Rattle.rubis_world.specs.Worlds.{WorldState}
use Rattle.rubis_world.proofs.Moves.{told}
use Rattle.rubis_world.proofs.world.World.packets.Goals as goal

pub returns-clause-run : goal.returns-clause-run
returns-clause-run c = subst (λ (w : WorldState). InRun w.world) c.self.view_is (told c.self.inside.sites c.self.invariant)
