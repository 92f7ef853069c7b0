use Rattle.rubis_script.proofs.Common.{◌≡◌, ◌∷◌, [], rules, subst, codes, reply, send_row, on_ok}
use Rattle.rubis_schema.specs.Ids.{id_text}
use Rattle.rubis_message.specs.Grammar.{message_record}
use Rattle.rubis_script.proofs.replies.write_sent.Goals as goal

pub returns-then-not-put_message : goal.returns-then-not-put_message
returns-then-not-put_message g c =
    let accepted = reply c.args.number (codes "ok" ∷ id_text c.args.message.now.stamp.id ∷ []) in
    let told : c.put_reply.new.row.fields ≡ accepted = search rules in
    let one = subst (λ r. g.S.RowSink.adds (r ∷ []) c.args.sink.now c.put_plain.new.self) told c.in_ok-put_plain.ensures in
    on_ok c.write_message.result (λ two. g.met.S.RowSink.adds_more (accepted ∷ []) (send_row (message_record c.args.message.now) ∷ [])
    c.args.sink.now c.put_plain.new.self c.write_message.new.sink one two) c.write_message.ensures

pub returns : goal.returns
returns g c =
    let accepted = reply c.args.number (codes "ok" ∷ id_text c.args.message.now.stamp.id ∷ []) in
    let told : c.put_reply.new.row.fields ≡ accepted = search rules in
    let sent : c.put_plain-2.new.self.fields ≡ send_row (message_record c.args.message.now) = search rules in
    let one = subst (λ r. g.S.RowSink.adds (r ∷ []) c.args.sink.now c.put_plain.new.self) told c.in_ok-put_plain.ensures in
    on_ok c.put_plain-3.result (λ two. g.met.S.RowSink.adds_more (accepted ∷ []) (send_row (message_record c.args.message.now) ∷ [])
    c.args.sink.now c.put_plain.new.self c.put_plain-3.new.self one
    (subst (λ r. g.S.RowSink.adds (r ∷ []) c.put_plain.new.self c.put_plain-3.new.self) sent two)) c.put_plain-3.ensures
