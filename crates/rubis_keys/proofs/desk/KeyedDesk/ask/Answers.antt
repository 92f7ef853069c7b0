use Rattle.std.proofs.Common.{◌∙◌, ◌++◌, Ok, ap, rules}
use Rattle.rubis_engine.specs.Text.{rows_text}
use Rattle.rubis_keys.specs.Keys.{asked_under_rows, noted}
use Rattle.rubis_keys.specs.Maps.{known_in}
use Rattle.rubis_keys.proofs.StepFacts.{ask_made}
use Rattle.rubis_keys.proofs.desk.KeyedDesk.ask.Goals as goal

pub returns-in_ok-note-in-Ok-clause-asked : goal.returns-in_ok-note-in-Ok-clause-asked
returns-in_ok-note-in-Ok-clause-asked g c =
    let n = c.args.reply.now.number in
    ask_made c.args.self.now _ n c.args.key c.args.ask c.in-Ok.message c.args.reply.now.sink c.write_made.new.reply.sink (search rules)
    c.in-Ok.ensures.step (c.in_ok-note-in-Ok.ensures
    ∙ (λ i. noted (known_in c.args.self.now.keys) (c.key.view_is i) (c.in_ok-of-in-Ok.ensures i)))
    (c.in_ok-write_made-in-Ok.ensures
    ∙ ap (λ k. c.args.reply.now.sink ++ rows_text (asked_under_rows n k (Ok c.in-Ok.message))) c.as_slice-in-Ok.ensures)
