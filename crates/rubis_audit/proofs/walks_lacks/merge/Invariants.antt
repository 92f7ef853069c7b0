use Rattle.std.specs.Prelude.{map}
use Rattle.rubis_audit.specs.Walks.{IsMerged}
use Rattle.rubis_audit.proofs.walks_lacks.merge.Given as goal

abbrev pub invariant-loop-at : goal.invariant-loop-at
invariant-loop-at l = IsMerged l.sites l.logs l.at (map (λ m. m.now) l.merged.items) l.clock
