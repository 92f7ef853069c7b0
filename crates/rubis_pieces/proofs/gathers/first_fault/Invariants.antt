use Rattle.rubis_pieces.proofs.Common.{◌≡◌, ◌<◌, ℕ, length, slice_get, Some, true}
use Rattle.rubis_pieces.specs.Batches.{IsSoundTo, IsSeenTo, StandsBelow, numbers_of}
use Rattle.rubis_pieces.proofs.Folded.{trues}
use Rattle.rubis_pieces.proofs.gathers.first_fault.Given as goal

abbrev pub invariant-loop-done : goal.invariant-loop-done
invariant-loop-done l = (length l.seen ≡ length l.fn.seen) × IsSoundTo (length l.fn.seen) l.done-index (numbers_of l.list)
    × IsSeenTo l.done-index (numbers_of l.list) l.seen
    × (trues l.seen ≡ l.done-index)

abbrev pub invariant-loop-number : goal.invariant-loop-number
invariant-loop-number l = ((k : ℕ) → k < l.number → StandsBelow (length l.list) (numbers_of l.list) k) × ((k : ℕ)
    → k < l.number → slice_get l.seen k ≡ Some true)
