use Rattle.std.proofs.Common.{◌≡◌, ◌∙◌, [], Some, None, ap, arith, rules, sym}
use Rattle.std.specs.Prelude.{Err}
use Rattle.rubis_message.specs.declared.tokens.Packet.TheVariants as packet
use Rattle.rubis_message.proofs.FirstWords.{msg_is, none_is_neither, other_is_neither, token_is, unread_is}
use Rattle.rubis_message.proofs.inputs.read_input.Goals as goal

pub returns-in_default : goal.returns-in_default
returns-in_default g c =
    let none : g.F.Record.fields c.args.fields.now ≡ [] = search rules in
    none_is_neither c.args.sites (g.F.Record.fields c.args.fields.now) none

pub returns-in-Ok-message_left : goal.returns-in-Ok-message_left
returns-in-Ok-message_left g c =
    msg_is c.args.sites c.in-Ok.word.now c.field.new.self (g.F.Record.fields c.args.fields.now) (Some (packet.Msg c.in-Ok-message_left.message))
    (omega arith) (sym c.new-reader.ensures ∙ c.in-Ok.ensures) c.if-says.ensures c.in-Ok-message_left.ensures.some

pub returns-in-Err : goal.returns-in-Err
returns-in-Err g c =
    unread_is c.args.sites (g.F.Record.fields c.args.fields.now) c.in-Err.fault c.unread.result c.unread.ensures (λ bad.
    msg_is c.args.sites c.in-Ok.word.now c.field.new.self (g.F.Record.fields c.args.fields.now) None
    (omega arith) (sym c.new-reader.ensures ∙ c.in-Ok.ensures) c.if-says.ensures (c.in-Err.ensures.none (ap Err bad)))

pub returns-in-Ok-token_left : goal.returns-in-Ok-token_left
returns-in-Ok-token_left g c =
    token_is c.args.sites c.in-Ok.word.now c.field.new.self (g.F.Record.fields c.args.fields.now) (Some (packet.Token c.in-Ok-token_left.token))
    (omega arith) (sym c.new-reader.ensures ∙ c.in-Ok.ensures) c.if-says-2.ensures c.in-Ok-token_left.ensures.some

pub returns-in-Err-token_left : goal.returns-in-Err-token_left
returns-in-Err-token_left g c =
    unread_is c.args.sites (g.F.Record.fields c.args.fields.now) c.in-Err-token_left.fault c.unread-in-Err-token_left.result
    c.unread-in-Err-token_left.ensures (λ bad.
    token_is c.args.sites c.in-Ok.word.now c.field.new.self (g.F.Record.fields c.args.fields.now) None
    (omega arith) (sym c.new-reader.ensures ∙ c.in-Ok.ensures) c.if-says-2.ensures (c.in-Err-token_left.ensures.none (ap Err bad)))

pub returns-in-Err-read_request : goal.returns-in-Err-read_request
returns-in-Err-read_request g c =
    unread_is c.args.sites (g.F.Record.fields c.args.fields.now) c.in-Err-read_request.fault c.unread-in-Err-read_request.result
    c.unread-in-Err-read_request.ensures (λ bad.
    other_is_neither c.args.sites c.in-Ok.word.now c.field.new.self (g.F.Record.fields c.args.fields.now)
    (sym c.new-reader.ensures ∙ c.in-Ok.ensures) c.if-says.ensures c.if-says-2.ensures (c.in-Err-read_request.ensures.none (ap Err bad)))
