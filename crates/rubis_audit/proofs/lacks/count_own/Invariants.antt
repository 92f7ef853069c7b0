use Rattle.rubis_audit.proofs.Common.{◌≡◌, ◌≤◌, ◌+◌, length, drop, map, made_at}
use Rattle.rubis_audit.proofs.lacks.count_own.Given as goal

-- those so far, no more than all so far, and those of the messages to come
abbrev pub invariant-loop-message : goal.invariant-loop-message
invariant-loop-message l =
    (l.many ≤ l.message-index)
    × (l.many + length (made_at l.site (map (λ m. m.now) (drop l.message-index l.messages))) ≡ length (made_at l.site (map (λ m. m.now) l.messages)))
