use Rattle.rubis_audit.proofs.Common.{◌≡◌, get_or, map, Log}
use Rattle.rubis_audit.proofs.Merging.{Merges}
use Rattle.rubis_audit.proofs.walks_lacks.merge_log.Given as goal

abbrev pub invariant-loop-shared : goal.invariant-loop-shared
invariant-loop-shared l = (log : Log) → log ≡ get_or l.logs l.at log
    → (l.shared-items ≡ log.messages) × Merges l.sites l.logs l.at log l.shared-index (map (λ m. m.now) l.merged.items) l.clock
