use Rattle.std.proofs.Common.{◌≡◌, ℕ, List, take, true}
use Rattle.rubis_keep.specs.Faults.{CountsLines}
use Rattle.rubis_keep.specs.Lines.{are_sound, begun_after, begun_bytes}
use Rattle.rubis_keep.proofs.checking.check_bytes.Given as goal

abbrev pub invariant-loop-byte : goal.invariant-loop-byte
invariant-loop-byte l = ((line : List ℕ) → l.fn.begun.items ≡ begun_bytes line
    → (are_sound line (take l.byte-index l.piece) ≡ true) × (l.begun.items ≡ begun_bytes (begun_after line (take l.byte-index l.piece))))
    × CountsLines l.fn.lines l.lines (take l.byte-index l.piece)
