use Rattle.std.proofs.Common.{◌∙◌, ◌∷◌, ap}
use Rattle.rubis_schema.specs.declared.limits.TheConstants.{PLAIN_ROW_MAX}
use Rattle.rubis_schema.proofs.PlainRows.{row_with_one_more}
use Rattle.rubis_schema.specs.FieldList.{comma}
use Rattle.rubis_schema.proofs.plain_rows.PlainRow.put_plain.Goals as goal

pub invariant_of-self : goal.invariant_of-self
invariant_of-self c =
    let text = c.put_byte.ensures ∙ ap (λ t. comma ∷ t) c.put_bytes.ensures in
    (row_with_one_more PLAIN_ROW_MAX c.args.self.now c.self.inside.text _ c.args.field.now c.self.view_is c.self.invariant c.requires.plain c.requires.room
    text).0

pub returns-clause-fields : goal.returns-clause-fields
returns-clause-fields c =
    let text = c.put_byte.ensures ∙ ap (λ t. comma ∷ t) c.put_bytes.ensures in
    (row_with_one_more PLAIN_ROW_MAX c.args.self.now c.self.inside.text _ c.args.field.now c.self.view_is c.self.invariant c.requires.plain c.requires.room
    text).1
