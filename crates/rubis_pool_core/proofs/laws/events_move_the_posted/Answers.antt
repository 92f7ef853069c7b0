use Rattle.std.proofs.Common.{refl}
use Rattle.rubis_pool_core.proofs.Posted.{events, fixed}
use Rattle.rubis_pool_core.proofs.laws.events_move_the_posted.Goals as goal

pub returns : goal.returns
returns c = record { post = λ s p. refl; event = events; fixed = fixed }
