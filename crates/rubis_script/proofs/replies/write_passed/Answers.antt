use Rattle.rubis_script.proofs.Common.{◌≡◌, ◌∷◌, [], rules, subst, codes, reply, send_row, on_ok}
use Rattle.rubis_message.specs.Grammar.{token_record}
use Rattle.rubis_script.proofs.replies.write_passed.Goals as goal

pub returns : goal.returns
returns g c =
    let sent : c.put_plain.new.self.fields ≡ send_row (token_record c.args.token.now) = search rules in
    on_ok c.put_plain-2.result (λ two. g.met.S.RowSink.adds_more (reply c.args.number (codes "passed" ∷ []) ∷ []) (send_row (token_record c.args.token.now) ∷ [])
    c.args.sink.now c.write_word.new.sink c.put_plain-2.new.self c.in_ok-write_word.ensures
    (subst (λ r. g.S.RowSink.adds (r ∷ []) c.write_word.new.sink c.put_plain-2.new.self) sent two)) c.put_plain-2.ensures
