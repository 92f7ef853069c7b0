use Rattle.rubis_workers.proofs.Common.{◌≡◌, ℕ, ◌<◌, length, slice_index, vec_capacity}
use Rattle.rubis_workers.proofs.applying.stop_all.Given as goal

abbrev pub invariant-loop : goal.invariant-loop
invariant-loop l = record {
  many : length l.stops.items ≡ l.counter;
  at : (k : ℕ) → k < l.counter → slice_index l.stops.items k ≡ l.at;
  room : vec_capacity l.stops ≡ vec_capacity l.fn.stops;
}
