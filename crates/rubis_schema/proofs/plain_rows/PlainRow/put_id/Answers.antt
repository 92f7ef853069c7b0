use Rattle.std.proofs.Common.{◌∙◌, ◌≡◌, ◌≤◌, ◌+◌, ◌∷◌, ◌++◌, ap, append_assoc, arith, decimal, length, length-append, sym}
use Rattle.rubis_schema.proofs.PlainRows.{id_plain, row_with_one_more}
use Rattle.rubis_schema.specs.FieldList.{comma}
use Rattle.rubis_schema.specs.Ids.{id_text}
use Rattle.rubis_schema.specs.declared.limits.TheConstants.{PLAIN_ROW_MAX}
use Rattle.rubis_schema.proofs.plain_rows.PlainRow.put_id.Goals as goal

pub invariant_of-self : goal.invariant_of-self
invariant_of-self c =
    let id = c.args.id in
    let seq = c.put_number.ensures in
    let site = rw c.from.ensures at c.put_number-2.ensures in
    let text : c.put_byte-2.new.self ≡ comma ∷ id_text id ++ c.self.inside.text =
    c.put_byte-2.ensures ∙ ap (λ t. comma ∷ t) (site.text ∙ ap (λ t. decimal id.site ++ t) (c.put_byte.ensures ∙ ap (λ t. 46 ∷ t) seq.text)
    ∙ sym (append_assoc (decimal id.site) (46 ∷ decimal id.seq) c.self.inside.text)) in
    let room : length (id_text id) + 1 ≤ c.args.self.now.left =
    omega (
      arith,
      length-append (decimal id.site) (46 ∷ decimal id.seq),
      seq.short,
      ap length seq.text,
      length-append (decimal id.seq) c.self.inside.text,
      site.short,
      ap length site.text,
      length-append (decimal id.site) c.put_byte.new.self,
      c.requires,
    ) in
    (row_with_one_more PLAIN_ROW_MAX c.args.self.now c.self.inside.text _ (id_text id) c.self.view_is c.self.invariant
    (id_plain id site.plain seq.plain) room text).0

pub returns-clause-fields : goal.returns-clause-fields
returns-clause-fields c =
    let id = c.args.id in
    let seq = c.put_number.ensures in
    let site = rw c.from.ensures at c.put_number-2.ensures in
    let text : c.put_byte-2.new.self ≡ comma ∷ id_text id ++ c.self.inside.text =
    c.put_byte-2.ensures ∙ ap (λ t. comma ∷ t) (site.text ∙ ap (λ t. decimal id.site ++ t) (c.put_byte.ensures ∙ ap (λ t. 46 ∷ t) seq.text)
    ∙ sym (append_assoc (decimal id.site) (46 ∷ decimal id.seq) c.self.inside.text)) in
    let room : length (id_text id) + 1 ≤ c.args.self.now.left =
    omega (
      arith,
      length-append (decimal id.site) (46 ∷ decimal id.seq),
      seq.short,
      ap length seq.text,
      length-append (decimal id.seq) c.self.inside.text,
      site.short,
      ap length site.text,
      length-append (decimal id.site) c.put_byte.new.self,
      c.requires,
    ) in
    (row_with_one_more PLAIN_ROW_MAX c.args.self.now c.self.inside.text _ (id_text id) c.self.view_is c.self.invariant
    (id_plain id site.plain seq.plain) room text).1
