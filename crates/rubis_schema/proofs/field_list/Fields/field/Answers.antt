use Rattle.std.proofs.Common.{◌<◌, ◌∙◌, length, sym, ap, arith}
use Rattle.std.proofs.lemmas.Option.{slice_get_past}
use Rattle.rubis_schema.proofs.PlainRows.{piece-at, piece-within, pieces-length}
use Rattle.rubis_schema.proofs.field_list.Fields.field.Goals as goal

pub returns-then-place-len : goal.returns-then-place-len
returns-then-place-len c =
    let count = pieces-length 0 c.self.inside.ends.items c.self.inside.text.items in
    let size = c.len.ensures ∙ c.self.inside.ends.ok.0 in
    rw (← c.self.view_is) (sym (slice_get_past _ c.args.place (omega (arith, count, size, c.if-place-len.true))))

pub returns : goal.returns
returns c =
    let size = c.len.ensures ∙ c.self.inside.ends.ok.0 in
    let lt : c.args.place < length c.self.inside.ends.items = omega (arith, size, c.if-place-len.false) in
    let s = rw c.as_slice.ensures.value at c.span-start.ensures in
    rw (← c.self.view_is, c.as_slice-2.ensures.value, s.start, s.end) (sym (piece-at 0 c.self.inside.ends.items c.self.inside.text.items c.args.place lt))

pub slice_bounds-result-count : goal.slice_bounds-result-count
slice_bounds-result-count c =
    let size = c.len.ensures ∙ c.self.inside.ends.ok.0 in
    let lt : c.args.place < length c.self.inside.ends.items = omega (arith, size, c.if-place-len.false) in
    let s = rw c.as_slice.ensures.value at c.span-start.ensures in
    let w = piece-within 0 c.self.inside.ends.items (length c.self.inside.text.items) c.args.place c.self.invariant.0.fills lt in
    omega (arith, s.start, s.end, w.0)

pub slice_bounds-result-start : goal.slice_bounds-result-start
slice_bounds-result-start c =
    let size = c.len.ensures ∙ c.self.inside.ends.ok.0 in
    let lt : c.args.place < length c.self.inside.ends.items = omega (arith, size, c.if-place-len.false) in
    let s = rw c.as_slice.ensures.value at c.span-start.ensures in
    let w = piece-within 0 c.self.inside.ends.items (length c.self.inside.text.items) c.args.place c.self.invariant.0.fills lt in
    omega (arith, s.start, s.end, w.0, w.1, ap length c.as_slice-2.ensures.value)

pub slice_bounds-result-end : goal.slice_bounds-result-end
slice_bounds-result-end c =
    let size = c.len.ensures ∙ c.self.inside.ends.ok.0 in
    let lt : c.args.place < length c.self.inside.ends.items = omega (arith, size, c.if-place-len.false) in
    let s = rw c.as_slice.ensures.value at c.span-start.ensures in
    let w = piece-within 0 c.self.inside.ends.items (length c.self.inside.text.items) c.args.place c.self.invariant.0.fills lt in
    omega (arith, s.start, s.end, w.0, w.1, ap length c.as_slice-2.ensures.value)

pub span-start-requires-clause-order : goal.span-start-requires-clause-order
span-start-requires-clause-order c =
    let size = c.len.ensures ∙ c.self.inside.ends.ok.0 in
    let lt : c.args.place < length c.self.inside.ends.items = omega (arith, size, c.if-place-len.false) in
    rw c.as_slice.ensures.value (piece-within 0 c.self.inside.ends.items (length c.self.inside.text.items) c.args.place c.self.invariant.0.fills lt).0
