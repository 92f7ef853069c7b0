use Rattle.rubis_pieces.proofs.Common.{◌≡◌, ◌+◌, take, cores, numbered_from}
use Rattle.rubis_pieces.specs.Batches.{AreDealt}
use Rattle.rubis_pieces.proofs.splits.split_alone.Given as goal

abbrev pub invariant-loop-message : goal.invariant-loop-message
invariant-loop-message l = record {
  entry : l.entry ≡ l.first + l.message-index;
  dealt : AreDealt l.shards (numbered_from l.first (cores (take l.message-index l.batch))) l.list.items;
}
