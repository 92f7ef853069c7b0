use Rattle.rubis_audit.proofs.Common.{◌≡◌, ℕ, ◌<◌, false, ◌==◌, not, slice_index, dep}
use Rattle.rubis_audit.proofs.stamps.differs.Given as goal

abbrev pub invariant-loop-j : goal.invariant-loop-j
invariant-loop-j l = (j : ℕ) → j < l.j → not (dep l.v j == slice_index l.counts j) ≡ false
