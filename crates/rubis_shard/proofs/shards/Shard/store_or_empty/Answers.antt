use Rattle.rubis_shard.proofs.Openings.{none_held}
use Rattle.rubis_shard.proofs.shards.Shard.store_or_empty.Goals as goal

pub invariant_of-self : goal.invariant_of-self
invariant_of-self c = none_held c.self.inside.shards c.self.inside.number c.take.new.self c.take.ensures.after
