use Rattle.rubis_shard.proofs.Common.{◌≡◌, take, map as each, keys_of}
use Rattle.rubis_shard.specs.Chains.{lent_row}
use Rattle.rubis_shard.proofs.shards.Shard.keys.Given as goal

abbrev pub invariant-loop-row : goal.invariant-loop-row
invariant-loop-row l = l.keys.items ≡ keys_of (each lent_row (take l.row-index l.row-items))
