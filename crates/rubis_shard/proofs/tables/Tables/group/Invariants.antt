use Rattle.rubis_shard.proofs.Common.{◌≡◌, take, keys_of}
use Rattle.rubis_shard.proofs.tables.Tables.group.Given as goal

abbrev pub invariant-loop-row : goal.invariant-loop-row
invariant-loop-row l = l.keys.items ≡ keys_of (take l.row-index l.row-items)
