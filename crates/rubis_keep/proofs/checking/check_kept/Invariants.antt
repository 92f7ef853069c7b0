use Rattle.rubis_keep.proofs.Common.{◌≡◌, [], ℕ, List, true, Consumes}
use Rattle.rubis_keep.specs.Faults.{CountsLines}
use Rattle.rubis_keep.specs.Lines.{are_sound, begun_after, begun_bytes}
use Rattle.rubis_keep.proofs.checking.check_kept.Given as goal

abbrev pub invariant-loop-turn : goal.invariant-loop-turn
invariant-loop-turn g l = record {
  next : (goal.iterator-loop-turn g).can_next l._turn-iterator;
  ends : (goal.iterator-loop-turn g).is_finite l._turn-iterator;
  come : (bytes : List ℕ) × Consumes (g.C.Read.remaining l.fn.kept) (g.C.Read.remaining l.kept) bytes × (are_sound [] bytes ≡ true)
      × (l.begun.items ≡ begun_bytes (begun_after [] bytes)) × CountsLines 0 l.lines bytes;
}
