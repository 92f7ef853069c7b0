use Rattle.rubis_shard.proofs.Common.{take, IsPermutation}
use Rattle.rubis_shard.proofs.Picked.{categories_by_shard}
use Rattle.rubis_shard.proofs.tables.Tables.categories.Given as goal

abbrev pub invariant-loop-shard : goal.invariant-loop-shard
invariant-loop-shard l = IsPermutation (categories_by_shard (take l.shard-index l.shard-items)) l.picked.items
