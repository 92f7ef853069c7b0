use Rattle.rubis_release.proofs.Common.{◌≡◌, ◌+◌, ◌-◌, ◌≤◌, length, refl, sym, ap, ◌∙◌, arith, Option, Some, None, slice_get, Message}
use Rattle.rubis_release.specs.Waiting.{AreSlots, somes}
use Rattle.rubis_release.proofs.Slots.{without_last}
use Rattle.rubis_release.proofs.waiting.drop_last.Goals as goal

left : (c : goal.After-truncate) → (somes c.truncate.new.self.entries ≡ somes c.args.slots.now.entries) × (1 ≤ c.args.gone)
    × AreSlots c.truncate.new.self.entries (c.args.gone - 1)
left c =
    let es = c.args.slots.now.entries in
    let last = c.in-Some-default-None in
    let some = last.ensures.found.0 refl in
    let long : length es ≡ (c.len.result - 1) + 1 = omega (arith, some, c.len.ensures.len) in
    let there : slice_get es (c.len.result - 1) ≡ Some (last._id.now, None) =
    ap (λ l. slice_get es (l - 1)) c.len.ensures.len ∙ sym last.ensures.entry ∙ ap (λ (v : Option Message). Some (last._id.now, v)) last.field-0-1-is in
    without_last es c.truncate.new.self.entries (c.len.result - 1) c.args.gone last._id.now long there c.truncate.ensures.entries c.truncate.ensures.unique
    c.requires

pub overflow_sub-result : goal.overflow_sub-result
overflow_sub-result c = (left c).1

pub returns-clause-same : goal.returns-clause-same
returns-clause-same c = (left c).0

pub returns-clause-slots : goal.returns-clause-slots
returns-clause-slots c = (left c).2
