use Rattle.std.proofs.Common.{ℕ, ◌<◌}
use Rattle.rubis_release.specs.Waiting.{HasNoReady}
use Rattle.rubis_release.proofs.waiting.first_among.Given as goal

-- none before has a message that is ready
abbrev pub invariant-loop-at : goal.invariant-loop-at
invariant-loop-at l = (i : ℕ) → i < l.at → HasNoReady l.clock l.slots.entries i
