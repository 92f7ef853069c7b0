use Rattle.std.proofs.Common.{◌≡◌, take}
use Rattle.rubis_clock.proofs.packed.PackedDeps.pack.Given as goal

abbrev pub invariant-loop-count : goal.invariant-loop-count
invariant-loop-count l = l.packed ≡ take l.count-index l.counts
