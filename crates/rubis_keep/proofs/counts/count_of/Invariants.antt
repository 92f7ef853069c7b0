use Rattle.rubis_keep.proofs.Common.{◌≡◌, ◌≤◌, ◌+◌, drop, counted}
use Rattle.rubis_keep.proofs.counts.count_of.Given as goal

abbrev pub invariant-loop-message : goal.invariant-loop-message
invariant-loop-message l = (l.count + counted l.site (drop l.message-index l.messages) ≡ counted l.site l.messages) × (l.count ≤ l.message-index)
