use Rattle.std.proofs.Common.{◌≡◌}
use Rattle.std.specs.Prelude.{replicate}
use Rattle.rubis_clock.proofs.clocks.Clock.new.Given as goal

abbrev pub invariant-loop : goal.invariant-loop
invariant-loop l = l.counts ≡ replicate l.counter 0
