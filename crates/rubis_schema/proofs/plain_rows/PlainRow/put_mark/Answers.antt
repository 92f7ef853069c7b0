use Rattle.std.proofs.Common.{◌∙◌, ◌≡◌, ◌∷◌, [], ap, drop, refl}
use Rattle.rubis_schema.specs.FieldList.{comma}
use Rattle.rubis_schema.specs.declared.limits.TheConstants.{PLAIN_ROW_MAX}
use Rattle.rubis_schema.proofs.PlainRows.{mark_plain, row_with_more_in_first, some_more_in_first}
use Rattle.rubis_schema.proofs.plain_rows.PlainRow.put_mark.Goals as goal

pub invariant_of-self : goal.invariant_of-self
invariant_of-self c =
    let text : c.put_byte-2.new.self ≡ comma ∷ c.args.mark ∷ drop 1 c.self.inside.text =
    c.put_byte-2.ensures ∙ ap (λ t. comma ∷ t) (c.put_byte.ensures ∙ ap (λ t. c.args.mark ∷ t) c.drop_first.ensures) in
    some_more_in_first PLAIN_ROW_MAX c.args.self.now c.self.inside.text _ (c.args.mark ∷ []) c.self.view_is c.self.invariant
    (mark_plain c.args.mark c.requires.mark) c.requires.room text c.args.self.now.fields refl c.requires.some

pub returns-clause-fields : goal.returns-clause-fields
returns-clause-fields c f fs first =
    let text : c.put_byte-2.new.self ≡ comma ∷ c.args.mark ∷ drop 1 c.self.inside.text =
    c.put_byte-2.ensures ∙ ap (λ t. comma ∷ t) (c.put_byte.ensures ∙ ap (λ t. c.args.mark ∷ t) c.drop_first.ensures) in
    (row_with_more_in_first PLAIN_ROW_MAX c.args.self.now c.self.inside.text _ (c.args.mark ∷ []) c.self.view_is c.self.invariant
    (mark_plain c.args.mark c.requires.mark) c.requires.room text f fs first).1
