use Rattle.rubis_pieces.proofs.Common.{◌≡◌, length, take, number_parts, parts_of, core_of}
use Rattle.rubis_pieces.proofs.Dealt.{IsDealtTo}
use Rattle.rubis_pieces.proofs.splits.deal_message.Given as goal

abbrev pub invariant-loop-place : goal.invariant-loop-place
invariant-loop-place l = record {
  many : length l.list.items ≡ length l.fn.list.items;
  dealt : IsDealtTo (length l.fn.list.items) (number_parts l.entry.number 1 l.entry.id (take l.place (parts_of (core_of l.entry))))
      l.fn.list.items l.list.items;
}
