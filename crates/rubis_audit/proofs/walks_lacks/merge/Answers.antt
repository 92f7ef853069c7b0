use Rattle.rubis_audit.proofs.Common.{subst, sym, map}
use Rattle.rubis_audit.specs.Walks.{IsMerged}
use Rattle.rubis_audit.proofs.Merging.{merged_start}
use Rattle.rubis_audit.proofs.walks_lacks.merge.Goals as goal

pub loop-at-init : goal.loop-at-init
loop-at-init c =
    subst (λ q. IsMerged c.args.sites c.args.logs.now 0 (map (λ m. m.now) q) c.new-clock.result) (sym c.new-merged.ensures.items)
    (merged_start c.args.sites c.args.logs.now c.new-clock.result c.new-clock.ensures)
