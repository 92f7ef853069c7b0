use Rattle.std.proofs.Common.{◌∙◌, Some, None, rules, sym}
use Rattle.rubis_message.proofs.Fields.{asked_behind}
use Rattle.rubis_message.proofs.world_inputs.read_request_at.Goals as goal

pub returns-in-Ok-clause-input : goal.returns-in-Ok-clause-input
returns-in-Ok-clause-input g c =
    asked_behind c.args.sites c.in_ok-site.site (g.F.Record.fields c.args.fields.now) c.at.new.self (Some c.in-Ok.request)
    (rw c.new-reader.ensures at c.in_ok-site.ensures) (sym c.is_empty.ensures ∙ c.if-is_empty.false) c.in-Ok.ensures.some

pub returns-in-Err-BadRecord-clause-input : goal.returns-in-Err-BadRecord-clause-input
returns-in-Err-BadRecord-clause-input g c =
    asked_behind c.args.sites c.in_ok-site.site (g.F.Record.fields c.args.fields.now) c.at.new.self None (rw c.new-reader.ensures at c.in_ok-site.ensures)
    (sym c.is_empty.ensures ∙ c.if-is_empty.false) (search rules)
