use Rattle.rubis_release.proofs.Common.{◌≡◌, subst, sym, ap, ◌∙◌, None, Option, Some, Id, IsReady, Message}
use Rattle.rubis_release.proofs.Slots.{un_some, by_test, same_value, slot_has}
use Rattle.rubis_release.proofs.waiting.is_ready_at.Goals as goal

pub returns-in_default : goal.returns-in_default
returns-in_default c = λ k m there ready.
    let none : ◌≡◌ {A = Option (Id × Option Message)} None (Some (k, Some m)) = c.in_default.ensures.entry ∙ there in absurd cc

pub returns-in_default-slot : goal.returns-in_default-slot
returns-in_default-slot c = λ k m there ready.
    c.in_default-slot.not-Some m (same_value c.in-Some._key.now k c.in-Some.slot.now m (c.in-Some.ensures.entry ∙ there))

pub is_ready-requires : goal.is_ready-requires
is_ready-requires c =
    (c.requires c.in-Some-slot.message
    (slot_has c.args.slots.now.entries c.args.at c.in-Some._key.now c.in-Some-slot.message
    (sym c.in-Some.ensures.entry ∙ ap (λ x. Some (c.in-Some._key.now, x)) c.in-Some-slot.is))).counts

pub returns : goal.returns
returns c = by_test _ _ c.is_ready.result c.is_ready.ensures
    (λ ready. record {
      key = c.in-Some._key.now;
      message = c.in-Some-slot.message;
      there = sym c.in-Some.ensures.entry
          ∙ ap (λ x. Some (c.in-Some._key.now, x)) c.in-Some-slot.is;
      ready = ready;
    })
    (λ not k m there ready.
    let is : c.in-Some.slot.now ≡ Some m = same_value c.in-Some._key.now k c.in-Some.slot.now m (c.in-Some.ensures.entry ∙ there) in
    let same = un_some c.in-Some-slot.message m (sym c.in-Some-slot.is ∙ is) in
    not (subst (λ (x : Message). IsReady c.args.clock.now x.stamp) (sym same) ready))
