use Rattle.rubis_audit.proofs.Common.{◌≡◌, ℕ, ◌<◌, false, ◌==◌, ◌&&◌, nat_lt, not, slice_index, dep}
use Rattle.rubis_audit.proofs.stamps.is_early.Given as goal

abbrev pub invariant-loop-j : goal.invariant-loop-j
invariant-loop-j l = (j : ℕ) → j < l.j → (not (j == l.v.stamp.id.site) && nat_lt (slice_index l.counts j) (dep l.v j)) ≡ false
