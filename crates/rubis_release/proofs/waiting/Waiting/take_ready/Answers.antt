use Rattle.rubis_release.proofs.Common.{◌≡◌, ◌+◌, length, refl, sym, ap, ◌∙◌, subst, arith, Option, Some, None, slice_get, set_value_at, Message}
use Rattle.std.specs.Prelude.{MatchOption}
use Rattle.rubis_release.specs.Release.{AllAmong, NoneReady}
use Rattle.rubis_release.specs.Waiting.{AreSlots, NoneTaken, TakesFirstReady, somes}
use Rattle.rubis_release.proofs.Slots.{nothing_waits, nothing_ready, none_of_slots, taken_first, slots_stay, values_at, un_some, no_some}
use Rattle.rubis_release.proofs.waiting.Waiting.take_ready.Goals as goal

pub first_ready-requires-clause-among : goal.first_ready-requires-clause-among
first_ready-requires-clause-among c = subst (AllAmong (length c.args.clock.now.counts)) (sym c.self.view_is) c.requires

pub returns-then-slots-eq0 : goal.returns-then-slots-eq0
returns-then-slots-eq0 c = (
  nothing_ready c.args.clock.now c.args.self.now
      (nothing_waits c.self.inside.slots.entries c.args.self.now (sym c.len-slots.ensures.len ∙ c.if-slots-eq0.true) c.self.view_is),
  refl,
)

pub returns-in_err-at : goal.returns-in_err-at
returns-in_err-at c =
    let k = c.args.clock.now in
    let es = c.self.inside.slots.entries in
    subst (λ (o : Option Message). MatchOption o (NoneTaken k c.args.self.now c.args.self.now) (λ m. TakesFirstReady k c.args.self.now m c.args.self.now))
    (sym c.from_residual.ensures) (
      subst (NoneReady k) c.self.view_is
          (none_of_slots k es (length k.counts) (subst (AllAmong (length k.counts)) (sym c.self.view_is) c.requires) c.in_err-at.ensures),
      refl,
    )

pub unreachable-requires : goal.unreachable-requires
unreachable-requires c =
    let r = c.in_ok-at.ensures.0 in
    no_some (Some r.message) (c.in_default.ensures.value ∙ values_at c.self.inside.slots.entries c.in_ok-at.at r.key (Some r.message) r.there)

pub unreachable-requires-in_default-take : goal.unreachable-requires-in_default-take
unreachable-requires-in_default-take c =
    let r = c.in_ok-at.ensures.0 in
    no_some r.message (sym c.in_default-take.is ∙ c.take.ensures.value
    ∙ un_some c.in-Some.slot.now (Some r.message)
    (c.in-Some.ensures.value ∙ values_at c.self.inside.slots.entries c.in_ok-at.at r.key (Some r.message) r.there))

pub overflow_add-self : goal.overflow_add-self
overflow_add-self c = omega (arith, c.self.invariant.gone, c.len-slots.ensures.len, c.len-slots.ensures.small)

pub invariant_of-self : goal.invariant_of-self
invariant_of-self c =
    let r = c.in_ok-at.ensures.0 in
    let is : Some r.message ≡ Some c.in-Some-take.message =
    sym (un_some c.in-Some.slot.now (Some r.message)
    (c.in-Some.ensures.value ∙ values_at c.self.inside.slots.entries c.in_ok-at.at r.key (Some r.message) r.there))
    ∙ sym c.take.ensures.value ∙ c.in-Some-take.is in
    let there : slice_get c.self.inside.slots.entries c.in_ok-at.at ≡ Some (r.key, Some c.in-Some-take.message) = r.there
    ∙ ap (λ (v : Option Message). Some (r.key, v)) is in
    let es = c.self.inside.slots.entries in
    subst (λ (v : Option Message). AreSlots (set_value_at es c.in_ok-at.at v) (c.self.inside.gone + 1)) (sym c.take.ensures.after)
    (slots_stay es c.in_ok-at.at c.self.inside.gone r.key c.in-Some-take.message there c.self.invariant)

pub returns : goal.returns
returns c =
    let r = c.in_ok-at.ensures.0 in
    let is : Some r.message ≡ Some c.in-Some-take.message =
    sym (un_some c.in-Some.slot.now (Some r.message)
    (c.in-Some.ensures.value ∙ values_at c.self.inside.slots.entries c.in_ok-at.at r.key (Some r.message) r.there))
    ∙ sym c.take.ensures.value ∙ c.in-Some-take.is in
    let there : slice_get c.self.inside.slots.entries c.in_ok-at.at ≡ Some (r.key, Some c.in-Some-take.message) = r.there
    ∙ ap (λ (v : Option Message). Some (r.key, v)) is in
    let k = c.args.clock.now in
    let es = c.self.inside.slots.entries in
    let m = c.in-Some-take.message in
    subst (TakesFirstReady k c.args.self.now m) (sym c.close_many_gaps.ensures)
    (subst (λ (v : Option Message). TakesFirstReady k c.args.self.now m (somes (set_value_at es c.in_ok-at.at v))) (sym c.take.ensures.after)
    (subst (λ old. TakesFirstReady k old m (somes (set_value_at es c.in_ok-at.at None))) c.self.view_is
    (taken_first k es (length k.counts) c.in_ok-at.at r.key m (subst (AllAmong (length k.counts)) (sym c.self.view_is) c.requires) there c.in_ok-at.ensures)))
