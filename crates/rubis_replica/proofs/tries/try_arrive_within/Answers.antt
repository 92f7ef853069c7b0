use Rattle.rubis_replica.proofs.Trying.{come_together}
use Rattle.rubis_replica.proofs.tries.try_arrive_within.Goals as goal

pub returns-clause-tried : goal.returns-clause-tried
returns-clause-tried g c = come_together _ _ _ _ _ _ c.arrive_within.ensures.first
