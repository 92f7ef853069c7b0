use Rattle.rubis_script.proofs.Common.{◌≡◌, ◌∷◌, [], rules, subst, on_ok}
use Rattle.rubis_model.specs.Site.{refused_row}
use Rattle.rubis_script.proofs.replies.write_refusal.Goals as goal

pub returns : goal.returns
returns g c =
    let row : c.put_reply.new.row.fields ≡ refused_row c.args.number c.args.refusal = search rules in
    on_ok c.put_plain-2.result (λ one. subst (λ r. g.S.RowSink.adds (r ∷ []) c.args.sink.now c.put_plain-2.new.self) row one) c.put_plain-2.ensures
