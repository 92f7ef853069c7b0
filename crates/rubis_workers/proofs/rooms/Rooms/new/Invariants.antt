use Rattle.rubis_workers.proofs.Common.{◌≡◌, ◌+◌, vec_len, All}
use Rattle.rubis_workers.specs.Work.{IsRoom}
use Rattle.rubis_workers.proofs.rooms.Rooms.new.Given as goal

abbrev pub invariant-loop : goal.invariant-loop
invariant-loop l = (vec_len l.others + 1 ≡ l.counter) × All (IsRoom l.pieces) l.others.items
