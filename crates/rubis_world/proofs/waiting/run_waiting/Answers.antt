use Rattle.rubis_world.proofs.Common.{None, ◌++◌, ◌∙◌, opening_at, rows_text, RECORDS_MAX, setup_place}
use Rattle.rubis_model.specs.Lack.{waiting_rows}
use Rattle.rubis_world.proofs.Leading.{ends_early, ends_waiting}
use Rattle.rubis_world.proofs.waiting.run_waiting.Goals as goal

pub returns-in_err-count : goal.returns-in_err-count
returns-in_err-count g c none input may =
    let place = setup_place c.args.config.now in
    ends_early c.in_ok-desk.desk.site place (opening_at place.site) RECORDS_MAX input None None (g.W.Write.contents c.args.writer.now)
    c.from_residual-in_err-count.result c.in_err-count.field-0.0 c.from_residual-in_err-count.ensures (c.in_err-count.ensures.run none input may)

pub returns : goal.returns
returns g c none input may =
    let run = c.in_ok-count.ensures.run none input may in
    ends_waiting c.in_ok-desk.desk.site c.run_chunks.new.desk.site (setup_place c.args.config.now) RECORDS_MAX c.in_ok-count.count.records input None None
    (g.W.Write.contents c.args.writer.now) (g.W.Write.contents c.close.new.writer) c.write_waits.new.sink c.in_ok-desk.ensures.site.0
    c.in_ok-desk.ensures.site.1 (c.in_ok-count.ensures.leads none input may) (run.1, run.2)
    (c.in_ok-write_waits.ensures ∙ (λ i. c.new-waits.ensures i ++ rows_text (waiting_rows (c.intake.ensures i).state))) c.in_ok-close.ensures.ok
