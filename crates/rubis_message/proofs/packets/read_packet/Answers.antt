use Rattle.std.proofs.Common.{◌≡◌, ◌∷◌, ◌∙◌, [], Some, None, arith, rules, sym}
use Rattle.std.specs.Prelude.{codes}
use Rattle.std.proofs.lemmas.Grind.{common_steps}
use Rattle.rubis_message.specs.Readings.{packet_of}
use Rattle.rubis_message.specs.declared.tokens.Packet.TheVariants as packet
use Rattle.rubis_message.proofs.FirstWords.{after_word, none_no_packet, other_no_packet}
use Rattle.rubis_message.proofs.Records.{no_packet, packet_is}
use Rattle.rubis_message.proofs.packets.read_packet.Goals as goal

pub returns-in_err-word-clause-none : goal.returns-in_err-word-clause-none
returns-in_err-word-clause-none g c = λ bad.
    let none : g.F.Record.fields c.args.fields.now ≡ [] = search rules in
    none_no_packet c.args.sites (g.F.Record.fields c.args.fields.now) none

pub returns-in_err-message_left-clause-bad : goal.returns-in_err-message_left-clause-bad
returns-in_err-message_left-clause-bad g c = λ bad.
    let fields = g.F.Record.fields c.args.fields.now in
    let none : packet_of c.args.sites (codes "msg" ∷ c.field.new.self) ≡ None = grind (arith, common_steps) in
    no_packet c.args.sites (omega arith) (omega arith) fields
    (after_word c.args.sites (codes "msg") c.in_ok-word.word.now c.field.new.self fields None (sym c.new-reader.ensures ∙ c.in_ok-word.ensures)
    c.if-says.ensures none)

pub returns-in_err-token_left-clause-bad : goal.returns-in_err-token_left-clause-bad
returns-in_err-token_left-clause-bad g c = λ bad.
    let fields = g.F.Record.fields c.args.fields.now in
    let none : packet_of c.args.sites (codes "token" ∷ c.field.new.self) ≡ None = grind (arith, common_steps) in
    no_packet c.args.sites (omega arith) (omega arith) fields
    (after_word c.args.sites (codes "token") c.in_ok-word.word.now c.field.new.self fields None (sym c.new-reader.ensures ∙ c.in_ok-word.ensures)
    c.if-says-2.ensures none)

pub returns-in_ok-message_left-clause-ok : goal.returns-in_ok-message_left-clause-ok
returns-in_ok-message_left-clause-ok g c =
    let fields = g.F.Record.fields c.args.fields.now in
    let p = packet.Msg c.in_ok-message_left.field-0 in
    (packet_is c.args.sites (omega arith) (omega arith) fields p).0
    (after_word c.args.sites (codes "msg") c.in_ok-word.word.now c.field.new.self fields (Some p) (sym c.new-reader.ensures ∙ c.in_ok-word.ensures)
    c.if-says.ensures c.in_ok-message_left.ensures.some)

pub returns-in_ok-token_left-clause-ok : goal.returns-in_ok-token_left-clause-ok
returns-in_ok-token_left-clause-ok g c =
    let fields = g.F.Record.fields c.args.fields.now in
    let p = packet.Token c.in_ok-token_left.field-0 in
    (packet_is c.args.sites (omega arith) (omega arith) fields p).0
    (after_word c.args.sites (codes "token") c.in_ok-word.word.now c.field.new.self fields (Some p) (sym c.new-reader.ensures ∙ c.in_ok-word.ensures)
    c.if-says-2.ensures c.in_ok-token_left.ensures.some)

pub returns-else-says-2-clause-none : goal.returns-else-says-2-clause-none
returns-else-says-2-clause-none g c = λ bad.
    other_no_packet c.args.sites c.in_ok-word.word.now c.field.new.self (g.F.Record.fields c.args.fields.now)
    (sym c.new-reader.ensures ∙ c.in_ok-word.ensures) c.if-says.ensures c.if-says-2.ensures
