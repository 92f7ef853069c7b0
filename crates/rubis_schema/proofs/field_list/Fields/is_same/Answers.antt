use Rattle.std.proofs.Common.{◌≡◌, ◌∙◌, sym}
use Rattle.std.specs.Cmp.Lexicographic.{bytes_decides}
use mathlib.Core.Bool.{true≢false}
use Rattle.rubis_schema.specs.FieldList.{pieces}
use Rattle.rubis_schema.proofs.PlainRows.{laid-fixed}
use Rattle.rubis_schema.proofs.field_list.Fields.is_same.Goals as goal

pub returns-then-eq : goal.returns-then-eq
returns-then-eq c =
    let text = c.as_slice.ensures.value in
    let others = c.as_slice-2.ensures.value in
    let ends = c.as_slice-then-eq.ensures.value in
    let other_ends = c.as_slice-then-eq-2.ensures.value in
    let same : c.self.inside.text.items ≡ c.other.inside.text.items = sym text
    ∙ (bytes_decides c.as_slice.result.now c.as_slice-2.result.now).0 (sym c.eq.ensures ∙ c.if-eq.true) ∙ others in (
      λ e.
          let same_ends : c.self.inside.ends.items ≡ c.other.inside.ends.items =
          sym ends ∙ (bytes_decides c.as_slice-then-eq.result.now c.as_slice-then-eq-2.result.now).0 (sym c.eq-then-eq.ensures ∙ e) ∙ other_ends in
          sym c.self.view_is ∙ (λ i. pieces 0 (same_ends i) (same i)) ∙ c.other.view_is,
      λ e.
          let fixed = laid-fixed c.self.inside.ends.items c.self.inside.text.items c.other.inside.ends.items c.other.inside.text.items c.self.invariant.0
          c.other.invariant.0 (c.self.view_is ∙ e ∙ sym c.other.view_is) in
          c.eq-then-eq.ensures ∙ (bytes_decides c.as_slice-then-eq.result.now c.as_slice-then-eq-2.result.now).1 (ends ∙ fixed.0 ∙ sym other_ends),
    )

pub returns-else-eq : goal.returns-else-eq
returns-else-eq c =
    let text = c.as_slice.ensures.value in
    let others = c.as_slice-2.ensures.value in (
      λ e. absurd (true≢false (sym e ∙ c.if-eq.false)),
      λ e.
          let fixed = laid-fixed c.self.inside.ends.items c.self.inside.text.items c.other.inside.ends.items c.other.inside.text.items c.self.invariant.0
          c.other.invariant.0 (c.self.view_is ∙ e ∙ sym c.other.view_is) in
          absurd (true≢false (sym ((bytes_decides c.as_slice.result.now c.as_slice-2.result.now).1 (text ∙ fixed.1 ∙ sym others)) ∙ sym c.eq.ensures
          ∙ c.if-eq.false)),
    )
