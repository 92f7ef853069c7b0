use Rattle.rubis_release.proofs.Common.{◌≡◌, ◌++◌, map}
use Rattle.rubis_release.proofs.Slots.{messages_of}
use Rattle.rubis_release.proofs.waiting.Waiting.messages.Given as goal

-- those that were listed, and those of the slots to come
abbrev pub invariant-loop-slot : goal.invariant-loop-slot
invariant-loop-slot l = map (λ m. m.now) l.messages.items ++ messages_of l.slot-iterator ≡ messages_of l.initial.slot-iterator
