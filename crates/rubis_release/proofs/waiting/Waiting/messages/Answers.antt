use Rattle.rubis_release.proofs.Common.{◌∙◌, ◌++◌, ap, sym, map, append-nil}
use Rattle.rubis_release.proofs.Slots.{messages_of, of_slots}
use Rattle.rubis_release.proofs.waiting.Waiting.messages.Goals as goal

pub returns : goal.returns
returns c =
    sym (append-nil (map (λ m. m.now) c.loop-slot.messages.items))
    ∙ ap (λ rest. map (λ m. m.now) c.loop-slot.messages.items ++ messages_of rest) (sym c.in-None.ensures.steps.0)
    ∙ c.loop-slot.invariant
    ∙ ap messages_of (c.into_iter-slot-iterator.ensures.into_iter_gives ∙ c.values-slot-items.ensures.rest)
    ∙ of_slots c.self.inside.slots.entries
    ∙ c.self.view_is
