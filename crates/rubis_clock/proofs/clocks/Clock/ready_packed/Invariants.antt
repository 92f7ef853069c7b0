use Rattle.std.proofs.Common.{◌≢◌, ◌<◌, ◌≤◌, ℕ, get_or}
use Rattle.rubis_clock.proofs.clocks.Clock.ready_packed.Given as goal

abbrev pub invariant-loop-site : goal.invariant-loop-site
invariant-loop-site l = (j : ℕ) → j < l.site → j ≢ l.id.site → get_or l.deps j 0 ≤ get_or l.counts j 0
