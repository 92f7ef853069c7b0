use Rattle.rubis_pieces.proofs.Common.{◌≡◌, ◌≤◌, drop, length, into_iter_items}
use Rattle.rubis_pieces.proofs.Dealt.{AreAddedTo}
use Rattle.rubis_pieces.proofs.splits.add_shares.Given as goal

abbrev pub invariant-loop-share : goal.invariant-loop-share
invariant-loop-share l = record {
  within : l.number ≤ length l.fn.shares.items;
  rest : into_iter_items l.share-iterator ≡ drop l.number l.fn.shares.items;
  added : AreAddedTo l.number l.fn.list.items l.fn.shares.items l.list.items;
}
