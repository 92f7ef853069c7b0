use Rattle.std.proofs.Common.{◌≡◌, take}
use Rattle.rubis_clock.proofs.packed.PackedDeps.unpack.Given as goal

abbrev pub invariant-loop-site : goal.invariant-loop-site
invariant-loop-site l = l.deps ≡ take l.site l.self
