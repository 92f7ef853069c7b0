use Rattle.std.proofs.Common.{◌≡◌, ◌∙◌, ◌++◌, ◌∷◌, [], ap, cond, false, sym}
use Rattle.std.specs.Prelude.{codes}
use Rattle.rubis_model.specs.Site.{reply}
use Rattle.rubis_engine.specs.Text.{rows_text}
use Rattle.rubis_script.proofs.Common.{on_ok_weaker}
use Rattle.rubis_keys.specs.Keys.{again_row, answers_ask, key_taken_row}
use Rattle.rubis_keys.proofs.desk.write_known.Goals as goal

pub returns : goal.returns
returns c =
    let n = c.args.reply.now.number in
    let known = c.args.known.now in
    let other : answers_ask known.shadow c.args.ask.now ≡ false = sym c.answers.ensures ∙ c.if-answers.false in
    let row : c.put_reply-2.new.row.fields ≡ key_taken_row n =
    c.put_reply-2.ensures.fields
    ∙ ap (λ t. reply n (codes "refused" ∷ t)) (c.put_plain-3.ensures.fields
    ∙ ap (λ t. codes "40" ∷ t) (c.put_plain-2.ensures.fields ∙ ap (λ r. codes "KeyTaken" ∷ r.fields) c.clear.ensures)) in
    on_ok_weaker c.put_plain-4.result
    (λ told. told
    ∙ ap (λ r. c.args.reply.now.sink ++ rows_text (r ∷ []))
    (row ∙ ap (λ b. cond b (again_row n known.id) (key_taken_row n)) (sym other))) c.put_plain-4.ensures
