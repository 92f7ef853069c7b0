use Rattle.rubis_audit.proofs.Common.{◌≡◌, ℕ, ◌<◌, false, nat_lt, dep}
use Rattle.rubis_audit.proofs.stamps.exceeds.Given as goal

abbrev pub invariant-loop-j : goal.invariant-loop-j
invariant-loop-j l = (j : ℕ) → j < l.j → nat_lt (dep l.v j) (dep l.u j) ≡ false
