use Rattle.rubis_pieces.proofs.Common.{◌≡◌, ◌+◌, ◌++◌, List, length, into_iter_items, Core, cores, numbered_from}
use Rattle.rubis_pieces.specs.Batches.{AreDealt, AreOfParts}
use Rattle.rubis_pieces.proofs.splits.join_parts.Given as goal

-- the messages before some have their parts in the list, and the parts to come are of the others
abbrev pub invariant-loop-part : goal.invariant-loop-part
invariant-loop-part l = (before : List Core) × (left : List Core) × (cores l.batch ≡ before ++ left)
    × AreDealt l.shards (numbered_from l.first before) l.list.items
    × AreOfParts l.shards (l.first + length before) left (into_iter_items l.part-iterator)
