use Rattle.rubis_pieces.proofs.Common.{◌≡◌, ◌≤◌, length, vec_capacity}
use Rattle.rubis_pieces.specs.Batches.{AllUnseen}
use Rattle.rubis_pieces.proofs.gathers.Places.new.Given as goal

abbrev pub invariant-loop : goal.invariant-loop
invariant-loop l = record {
  many : length l.seen.items ≡ l.counter;
  unseen : AllUnseen l.seen.items;
  room : l.shards ≤ vec_capacity l.seen;
}
