use Rattle.rubis_shard.proofs.Common.{take, IsPermutation}
use Rattle.rubis_shard.specs.Listed.{table_with}
use Rattle.rubis_shard.proofs.Picked.{listed_by_shard}
use Rattle.rubis_shard.proofs.tables.Tables.listed.Given as goal

abbrev pub invariant-loop-shard : goal.invariant-loop-shard
invariant-loop-shard l = IsPermutation (listed_by_shard l.listing (table_with l.table) (take l.shard-index l.shard-items)) l.picked.items
