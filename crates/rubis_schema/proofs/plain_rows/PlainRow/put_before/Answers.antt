use Rattle.std.proofs.Common.{◌∙◌, ◌≡◌, ◌≤◌, ◌∷◌, ◌++◌, [], ℕ, List, ap, append_assoc, arith, decimal, drop, length, length-append, refl, sym}
use Rattle.rubis_schema.proofs.FieldLaws.{decimal_short}
use Rattle.rubis_schema.specs.FieldList.{comma}
use Rattle.rubis_schema.specs.declared.limits.TheConstants.{PLAIN_ROW_MAX}
use Rattle.rubis_schema.proofs.PlainRows.{mark_behind_plain, row_with_more_in_first, some_more_in_first}
use Rattle.rubis_schema.proofs.plain_rows.PlainRow.put_before.Goals as goal

pub invariant_of-self : goal.invariant_of-self
invariant_of-self c =
    let more : List ℕ = decimal c.args.number ++ c.args.mark ∷ [] in
    let text : c.put_byte-2.new.self ≡ comma ∷ more ++ drop 1 c.self.inside.text =
    c.put_byte-2.ensures ∙ ap (λ t. comma ∷ t)
    (c.put_number.ensures.text ∙ ap (λ t. decimal c.args.number ++ t) (c.put_byte.ensures ∙ ap (λ t. c.args.mark ∷ t) c.drop_first.ensures)
    ∙ sym (append_assoc (decimal c.args.number) (c.args.mark ∷ []) (drop 1 c.self.inside.text))) in
    let room : length more ≤ c.args.self.now.left =
    omega (arith, length-append (decimal c.args.number) (c.args.mark ∷ []), decimal_short c.args.number c.ranges.number.fits, c.requires.room) in
    let plain = mark_behind_plain (decimal c.args.number) c.args.mark c.put_number.ensures.plain c.requires.mark in
    some_more_in_first PLAIN_ROW_MAX c.args.self.now c.self.inside.text _ more c.self.view_is c.self.invariant plain room text c.args.self.now.fields refl
    c.requires.some

pub returns-clause-fields : goal.returns-clause-fields
returns-clause-fields c f fs first =
    let more : List ℕ = decimal c.args.number ++ c.args.mark ∷ [] in
    let text : c.put_byte-2.new.self ≡ comma ∷ more ++ drop 1 c.self.inside.text =
    c.put_byte-2.ensures ∙ ap (λ t. comma ∷ t)
    (c.put_number.ensures.text ∙ ap (λ t. decimal c.args.number ++ t) (c.put_byte.ensures ∙ ap (λ t. c.args.mark ∷ t) c.drop_first.ensures)
    ∙ sym (append_assoc (decimal c.args.number) (c.args.mark ∷ []) (drop 1 c.self.inside.text))) in
    let room : length more ≤ c.args.self.now.left =
    omega (arith, length-append (decimal c.args.number) (c.args.mark ∷ []), decimal_short c.args.number c.ranges.number.fits, c.requires.room) in
    let plain = mark_behind_plain (decimal c.args.number) c.args.mark c.put_number.ensures.plain c.requires.mark in
    (row_with_more_in_first PLAIN_ROW_MAX c.args.self.now c.self.inside.text _ more c.self.view_is c.self.invariant plain room text f fs first).1
    ∙ ap (λ t. t ∷ fs) (append_assoc (decimal c.args.number) (c.args.mark ∷ []) f)
