use Rattle.std.proofs.Common.{ℕ, List}
use Rattle.rubis_reading.specs.Readings.{AreOf, KeepFor}
use Rattle.rubis_reading.proofs.pieces.Pieces.next.Given as goal

abbrev pub invariant-loop : goal.invariant-loop
invariant-loop g l = record {
  next : (goal.iterator-loop g).can_next l.iterator';
  ends : (goal.iterator-loop g).is_finite l.iterator';
  kept : KeepFor l.fn.self l.self;
  pieces : (text : List ℕ) → AreOf text l.fn.self → AreOf text l.self;
}
