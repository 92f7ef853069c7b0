use Rattle.rubis_script.proofs.Common.{◌≡◌, ◌∙◌, ◌∷◌, [], ap, decimal, subst, sym, codes, reply, on_ok}
use Rattle.rubis_model.specs.Site.{arrival_row}
use Rattle.rubis_script.proofs.replies.write_arrival.Goals as goal

pub returns-in-Released : goal.returns-in-Released
returns-in-Released g c =
    let n = c.args.number in
    let row : reply n (codes "released" ∷ decimal c.from.result ∷ []) ≡ arrival_row n c.args.arrival =
    ap (λ k. reply n (codes "released" ∷ decimal k ∷ [])) c.from.ensures ∙ sym (ap (arrival_row n) c.in-Released.is) in
    on_ok c.write_number.result (λ one. subst (λ r. g.S.RowSink.adds (r ∷ []) c.args.sink.now c.write_number.new.sink) row one) c.write_number.ensures
