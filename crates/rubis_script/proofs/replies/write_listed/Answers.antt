use Rattle.rubis_script.proofs.Common.{◌≡◌, ◌∷◌, [], length, decimal, rules, subst, codes, reply, on_ok}
use Rattle.rubis_script.proofs.replies.write_listed.Goals as goal

pub returns : goal.returns
returns g c =
    let rows = c.args.rows.now in
    let count : c.len.result ≡ length rows = search rules in
    let one = subst (λ n. g.S.RowSink.adds (reply c.args.number (codes "rows" ∷ decimal n ∷ []) ∷ []) c.args.sink.now c.write_number.new.sink) count c.in_ok-write_number.ensures in
    on_ok c.write_rows.result (λ two. g.met.S.RowSink.adds_more (reply c.args.number (codes "rows" ∷ decimal (length rows) ∷ []) ∷ []) rows
    c.args.sink.now c.write_number.new.sink c.write_rows.new.sink one
    (subst (λ rs. g.S.RowSink.adds rs c.write_number.new.sink c.write_rows.new.sink) c.as_slice.ensures two)) c.write_rows.ensures
