use Rattle.rubis_release.proofs.Common.{subst, sym, ap, ◌∙◌, arith, Some, same_id, Id, IsReady, Message}
use mathlib.Core.Bool.{true≢false}
use Rattle.rubis_release.proofs.Slots.{un_some, missing_none, found_none, found_first, key_passes, slot_has}
use Rattle.rubis_release.proofs.waiting.ready_of.Goals as goal

pub returns-in_default : goal.returns-in_default
returns-in_default c =
    missing_none c.args.clock.now c.args.slots.now.entries (record { site = c.args.site; seq = c.saturating_add.result }) c.requires.own
    (λ m h. (c.requires.among m h).id.small) (λ l. omega (arith, l, c.saturating_add.ensures, c.count.ensures))
    (sym c.in_default.ensures.value)

pub returns-in_default-slot : goal.returns-in_default-slot
returns-in_default-slot c =
    let id : Id = record { site = c.args.site; seq = c.saturating_add.result } in
    found_none c.args.clock.now c.args.slots.now.entries id c.requires.own
    (λ m h. (c.requires.among m h).id.small) (λ l. omega (arith, l, c.saturating_add.ensures, c.count.ensures))
    c.in-Some.at c.in-Some._key.now c.in-Some.slot.now c.requires.apart c.in-Some.ensures.entry
    (key_passes (same_id id) c.args.slots.now.entries c.in-Some._key.now c.in-Some.ensures.key)
    (λ m is ready. c.in_default-slot.not-Some m is)

pub is_ready-requires : goal.is_ready-requires
is_ready-requires c =
    (c.requires.among c.in-Some-slot.message
    (slot_has c.args.slots.now.entries c.in-Some.at c.in-Some._key.now c.in-Some-slot.message
    (c.in-Some.ensures.entry ∙ ap (λ x. Some (c.in-Some._key.now, x)) c.in-Some-slot.is))).counts

pub returns-then-not-is_ready : goal.returns-then-not-is_ready
returns-then-not-is_ready c =
    let id : Id = record { site = c.args.site; seq = c.saturating_add.result } in
    found_none c.args.clock.now c.args.slots.now.entries id c.requires.own
    (λ m h. (c.requires.among m h).id.small) (λ l. omega (arith, l, c.saturating_add.ensures, c.count.ensures))
    c.in-Some.at c.in-Some._key.now c.in-Some.slot.now c.requires.apart c.in-Some.ensures.entry
    (key_passes (same_id id) c.args.slots.now.entries c.in-Some._key.now c.in-Some.ensures.key)
    (λ m is ready.
    let same = un_some c.in-Some-slot.message m (sym c.in-Some-slot.is ∙ is) in
    let here : IsReady c.args.clock.now c.in-Some-slot.message.stamp = subst (λ (x : Message). IsReady c.args.clock.now x.stamp) (sym same) ready in
    true≢false (sym (c.is_ready.ensures.1 here) ∙ c.if-not-is_ready.true))

pub returns : goal.returns
returns c =
    let id : Id = record { site = c.args.site; seq = c.saturating_add.result } in
    found_first c.args.clock.now c.args.slots.now.entries id c.requires.own
    (λ m h. (c.requires.among m h).id.small) (λ l. omega (arith, l, c.saturating_add.ensures, c.count.ensures))
    c.in-Some.at c.in-Some._key.now c.in-Some.slot.now c.requires.apart c.in-Some.ensures.entry
    (key_passes (same_id id) c.args.slots.now.entries c.in-Some._key.now c.in-Some.ensures.key)
    c.in-Some-slot.message c.in-Some-slot.is
    (c.is_ready.ensures.0 c.if-not-is_ready.false)
