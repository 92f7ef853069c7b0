use Rattle.std.proofs.Common.{◌≡◌, drop, nat_eq}
use Rattle.std.specs.Cmp.Lexicographic.{pointwise}
use Rattle.rubis_clock.proofs.packed.PackedDepsPartialEq.eq.Given as goal

abbrev pub invariant-loop-site : goal.invariant-loop-site
invariant-loop-site l = pointwise nat_eq (drop l.site l.self) (drop l.site l.other) ≡ pointwise nat_eq l.self l.other
