use Rattle.rubis_release.proofs.Common.{List, [], ◌∷◌, ◌++◌, ap, ◌∙◌, sym, subst, Some, list_any, insert_entry, same_id, Id, Message}
use Rattle.rubis_release.specs.Waiting.{AreApart, AreSlots, somes}
use Rattle.rubis_release.proofs.Slots.{new_last, slots_more, somes_append}
use Rattle.rubis_release.proofs.waiting.Waiting.push.Goals as goal

pub make_place-self-inside-requires-clause-none : goal.make_place-self-inside-requires-clause-none
make_place-self-inside-requires-clause-none c =
    ap (λ (i : Id). list_any (λ (m : Message). same_id i m.stamp.id) (somes c.self.inside.slots.entries)) c.id-id.ensures.value
    ∙ ap (list_any (λ (m : Message). same_id c.args.message.stamp.id m.stamp.id)) c.self.view_is ∙ c.requires

pub invariant_of-self-2 : goal.invariant_of-self-2
invariant_of-self-2 c =
    let k = c.id-id.result in
    let es = c.make_place-self-inside.new.slots.entries in
    subst (λ fs. AreSlots fs c.make_place-self-inside.result)
    (sym (c.in-Ok.ensures.entries ∙ ap (λ fs. insert_entry same_id fs k (Some c.args.message)) c.reserve.ensures.entries
    ∙ new_last k (Some c.args.message) es c.make_place-self-inside.ensures.absent))
    (slots_more es c.make_place-self-inside.result k c.args.message c.make_place-self-inside.ensures.slots (sym c.id-id.ensures.value)
    (subst AreApart (c.in-Ok.ensures.entries ∙ ap (λ fs. insert_entry same_id fs k (Some c.args.message)) c.reserve.ensures.entries
    ∙ new_last k (Some c.args.message) es c.make_place-self-inside.ensures.absent) c.insert.ensures.unique))

pub returns-clause-ok : goal.returns-clause-ok
returns-clause-ok c =
    let k = c.id-id.result in
    let es = c.make_place-self-inside.new.slots.entries in
    ap somes (c.in-Ok.ensures.entries ∙ ap (λ fs. insert_entry same_id fs k (Some c.args.message)) c.reserve.ensures.entries
    ∙ new_last k (Some c.args.message) es c.make_place-self-inside.ensures.absent)
    ∙ somes_append es ((k, Some c.args.message) ∷ [])
    ∙ ap (λ (ms : List Message). ms ++ c.args.message ∷ []) (c.make_place-self-inside.ensures.same ∙ c.self.view_is)
