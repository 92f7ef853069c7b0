use Rattle.std.proofs.Common.{◌≡◌, ◌++◌, ◌∙◌, ◌∷◌, ◌-◌, [], ap, append_assoc, arith, drop, length, refl, sym}
use Rattle.std.proofs.lemmas.List.{length-drop, take_all}
use Rattle.csv.specs.Writing.{row_text}
use Rattle.rubis_engine.specs.Text.{plain_writer}
use Rattle.rubis_engine.proofs.RowFacts.{text-makes}
use Rattle.rubis_engine.proofs.sink.Sink.write_plain.Goals as goal

pub slice_bounds-fields-count : goal.slice_bounds-fields-count
slice_bounds-fields-count c =
    let makes = text-makes [] c.args.row.now.fields _ c.text.ensures.text refl c.text.ensures.plain c.requires in omega (arith, makes.1)

pub slice_bounds-fields-start : goal.slice_bounds-fields-start
slice_bounds-fields-start c =
    let makes = text-makes [] c.args.row.now.fields _ c.text.ensures.text refl c.text.ensures.plain c.requires in omega (arith, makes.1)

pub returns-clause-ok : goal.returns-clause-ok
returns-clause-ok c =
    let row = row_text plain_writer c.args.row.now.fields in
    let makes = text-makes [] c.args.row.now.fields _ c.text.ensures.text refl c.text.ensures.plain c.requires in
    let before = c.self.inside.before.items in
    let text = c.self.inside.text.items in
    let more = drop 1 c.text.result.now in
    let size = length-drop 1 c.text.result.now in
    let some : c.extend_from_slice.new.self.items ≡ text ++ more =
    (rw c.if-is_err.ensures.negation at c.extend_from_slice.ensures.items)
    ∙ ap (λ t. text ++ t) (take_all (length c.text.result.now - 1) more (omega (arith, size))) in
    let all : c.push.new.self.items ≡ c.extend_from_slice.new.self.items ++ 10 ∷ [] = rw c.if-is_err-2.ensures.negation at c.push.ensures.items in
    ap (λ t. before ++ t) (all ∙ ap (λ t. t ++ 10 ∷ []) some ∙ append_assoc text more (10 ∷ []) ∙ ap (λ t. text ++ t) (sym makes.0))
    ∙ sym (append_assoc before text row) ∙ ap (λ t. t ++ row) c.self.view_is
