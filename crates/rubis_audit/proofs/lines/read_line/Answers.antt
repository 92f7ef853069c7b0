use Rattle.rubis_audit.proofs.Common.{◌≡◌, ◌∙◌, rules, sym, false, true, None, Some, packet_of}
use Rattle.rubis_audit.specs.Running.{begin_of}
use Rattle.rubis_audit.proofs.Collecting.{line_begins, line_by}
use Rattle.rubis_audit.proofs.lines.read_line.Goals as goal

pub returns-in-Some-clause-line : goal.returns-in-Some-clause-line
returns-in-Some-clause-line c =
    let begins : begin_of c.args.sites c.args.fields.now ≡ Some c.in-Some.site = sym c.read_begin.ensures ∙ c.in-Some.is in
    sym (line_begins c.args.sites c.args.fields.now c.in-Some.site begins)

pub returns-then-is_row-clause-line : goal.returns-then-is_row-clause-line
returns-then-is_row-clause-line c =
    sym (line_by c.args.sites c.args.fields.now true (packet_of c.args.sites c.args.fields.now) (sym c.read_begin.ensures ∙ c.in_default.is)
    (sym c.is_row.ensures ∙ c.if-is_row.true) (λ i. packet_of c.args.sites c.args.fields.now))

pub returns-in-Ok-Msg-clause-line : goal.returns-in-Ok-Msg-clause-line
returns-in-Ok-Msg-clause-line c =
    sym (line_by c.args.sites c.args.fields.now false _ (sym c.read_begin.ensures ∙ c.in_default.is) (sym c.is_row.ensures ∙ c.if-is_row.false)
    (rw c.in-Ok-Msg.field-0-is at c.in-Ok-Msg.ensures.some))

pub returns-in-Ok-Token-clause-line : goal.returns-in-Ok-Token-clause-line
returns-in-Ok-Token-clause-line c =
    sym (line_by c.args.sites c.args.fields.now false _ (sym c.read_begin.ensures ∙ c.in_default.is) (sym c.is_row.ensures ∙ c.if-is_row.false)
    (rw c.in-Ok-Token.field-0-is at c.in-Ok-Token.ensures.some))

pub returns-in-Err-BadRecord-clause-line : goal.returns-in-Err-BadRecord-clause-line
returns-in-Err-BadRecord-clause-line c =
    sym (line_by c.args.sites c.args.fields.now false None (sym c.read_begin.ensures ∙ c.in_default.is) (sym c.is_row.ensures ∙ c.if-is_row.false)
    (search rules))
