use Rattle.rubis_audit.proofs.Common.{◌∙◌, ◌++◌, ap, arith, length, red_rows, rows_text, on_ok}
use Rattle.rubis_audit.specs.Running.{for_rows}
use Rattle.rubis_audit.proofs.Merging.{for_told, waits_told}
use Rattle.rubis_audit.proofs.waiting.write_message.Goals as goal

pub loop-site-preserved : goal.loop-site-preserved
loop-site-preserved c = λ log e.
    let m = c.args.message.now in
    let sink = c.loop-site.sink in
    let many = c.sites-site-end.ensures.value ∙ ap length c.deps.ensures.value in
    for_told log m c.loop-site.site _ sink c.write_for.new.sink (omega (arith, many, c.loop-site-test.true)) (c.loop-site.invariant log e)
    (c.in_ok-write_for.ensures ∙ ap (λ o. sink ++ rows_text (for_rows m o)) (c.awaited.ensures log e))

pub returns : goal.returns
returns c =
    let m = c.args.message.now in
    let sink = c.loop-site.sink in
    let many = c.sites-site-end.ensures.value ∙ ap length c.deps.ensures.value in
    on_ok c.write_red.result (λ wrote log e.
    waits_told log m c.loop-site.site c.args.sink.now sink c.write_red.new.sink (omega (arith, many, c.loop-site-test.false)) (c.loop-site.invariant log e)
    (wrote ∙ ap (λ o. sink ++ rows_text (red_rows m o)) (c.awaited_red.ensures log e))) c.write_red.ensures
