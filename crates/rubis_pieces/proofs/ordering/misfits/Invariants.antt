use Rattle.rubis_pieces.proofs.Common.{◌≡◌, ◌++◌, take, all_misfits}
use Rattle.rubis_pieces.proofs.ordering.misfits.Given as goal

abbrev pub invariant-loop-shard : goal.invariant-loop-shard
invariant-loop-shard l = l.list.items ≡ all_misfits (take l.shard-index l.shard-items)

abbrev pub invariant-loop-misfit : goal.invariant-loop-misfit
invariant-loop-misfit l = l.list.items ≡ all_misfits (take l.shard-index l.shard-items) ++ take l.misfit-index l.misfit-items
