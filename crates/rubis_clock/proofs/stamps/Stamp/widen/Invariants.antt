use Rattle.std.proofs.Common.{◌≡◌, ◌-◌, ◌++◌}
use Rattle.std.specs.Prelude.{replicate}
use Rattle.rubis_clock.proofs.stamps.Stamp.widen.Given as goal

abbrev pub invariant-loop : goal.invariant-loop
invariant-loop l = l.deps ≡ l.self.deps ++ replicate (l.counter - l.counted) 0
