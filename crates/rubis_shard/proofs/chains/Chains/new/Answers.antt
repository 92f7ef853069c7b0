use Rattle.rubis_shard.proofs.Linking.{links_none}
use Rattle.rubis_shard.proofs.chains.Chains.new.Goals as goal

pub returns : goal.returns
returns c = links_none _ c.new.ensures.items c.with_hasher.ensures.empty
