use Rattle.std.proofs.Common.{[]}
use Rattle.rubis_pieces.specs.Batches.{AreDealt}
use Rattle.rubis_pieces.proofs.splits.no_shares.Given as goal

abbrev pub invariant-loop-number : goal.invariant-loop-number
invariant-loop-number l = AreDealt l.number [] l.list.items
