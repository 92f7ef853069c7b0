use Rattle.rubis_audit.proofs.Common.{◌≡◌, take, filter, map}
use Rattle.rubis_audit.proofs.Merging.{uncounted}
use Rattle.rubis_audit.proofs.walks_lacks.lacked.Given as goal

abbrev pub invariant-loop-message : goal.invariant-loop-message
invariant-loop-message l = map (λ m. m.now) l.messages.items ≡ filter (uncounted l.clock.counts) (take l.message-index (map (λ m. m.now) l.all))
