use Rattle.std.proofs.Common.{◌∙◌, ◌≤◌, ◌+◌, ◌∷◌, ap, arith, decimal, length}
use Rattle.rubis_schema.proofs.NumberTexts.{at_most_twenty}
use Rattle.rubis_schema.specs.FieldList.{comma}
use Rattle.rubis_schema.specs.declared.limits.TheConstants.{PLAIN_ROW_MAX}
use Rattle.rubis_schema.proofs.PlainRows.{row_with_one_more}
use Rattle.rubis_schema.proofs.plain_rows.PlainRow.put_number.Goals as goal

pub invariant_of-self : goal.invariant_of-self
invariant_of-self c =
    let room : length (decimal c.args.number) + 1 ≤ c.args.self.now.left = omega (arith, at_most_twenty c.args.number c.ranges.number.fits, c.requires) in
    (row_with_one_more PLAIN_ROW_MAX c.args.self.now c.self.inside.text _ (decimal c.args.number) c.self.view_is c.self.invariant c.put_long.ensures.plain room
    (c.put_byte.ensures ∙ ap (λ t. comma ∷ t) c.put_long.ensures.text)).0

pub returns-clause-fields : goal.returns-clause-fields
returns-clause-fields c =
    let room : length (decimal c.args.number) + 1 ≤ c.args.self.now.left = omega (arith, at_most_twenty c.args.number c.ranges.number.fits, c.requires) in
    (row_with_one_more PLAIN_ROW_MAX c.args.self.now c.self.inside.text _ (decimal c.args.number) c.self.view_is c.self.invariant c.put_long.ensures.plain room
    (c.put_byte.ensures ∙ ap (λ t. comma ∷ t) c.put_long.ensures.text)).1
