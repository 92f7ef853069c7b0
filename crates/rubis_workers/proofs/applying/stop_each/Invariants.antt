use Rattle.rubis_workers.proofs.Common.{◌≡◌, ℕ, ◌+◌, ◌<◌, length, take, true, map as each, slice_index, vec_capacity}
use Rattle.rubis_workers.proofs.applying.stop_each.Given as goal

abbrev pub invariant-loop-at : goal.invariant-loop-at
invariant-loop-at l = record {
  stops : l.stops.items ≡ each (λ d. l.from + d) (take l.at l.dones);
  many : length l.stops.items ≡ l.at;
  whole : l.whole ≡ true → (k : ℕ) → k < l.at → slice_index l.dones k ≡ l.messages;
  room : vec_capacity l.stops ≡ vec_capacity l.fn.stops;
}
