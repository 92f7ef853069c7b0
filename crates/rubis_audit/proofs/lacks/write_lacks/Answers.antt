use Rattle.rubis_audit.proofs.Common.{◌++◌, ◌+◌, ◌∙◌, ◌==◌, ap, length, subst, sym, map, lack_rows, made_at, rows_text, log_released, AllAmong}
use Rattle.rubis_audit.proofs.Merging.{log_among, log_at, log_told, lost_told}
use Rattle.rubis_audit.proofs.lacks.write_lacks.Goals as goal

pub lacked-requires-clause-among : goal.lacked-requires-clause-among
lacked-requires-clause-among c =
    let logs = c.args.logs.now in
    let log = c.index-logs-at.result in
    log_among c.args.sites logs log c.requires.faultless (subst (AllAmong c.args.sites) c.in_ok-all.ensures.merged c.in_ok-all.ensures.among)
    (log_at logs c.loop-at.at log c.loop-at-test.true c.index-logs-at.is)

pub lacked-requires-clause-released : goal.lacked-requires-clause-released
lacked-requires-clause-released c =
    let log = c.index-logs-at.result in
    log_released c.args.logs.now c.requires.faultless log (log_at c.args.logs.now c.loop-at.at log c.loop-at-test.true c.index-logs-at.is)

pub lacked-requires-clause-sites : goal.lacked-requires-clause-sites
lacked-requires-clause-sites c = subst (λ all. AllAmong c.args.sites (map (λ m. m.now) all)) (sym c.deref.ensures.value) c.in_ok-all.ensures.among

pub loop-at-preserved : goal.loop-at-preserved
loop-at-preserved c =
    let logs = c.args.logs.now in
    let at = c.loop-at.at in
    let log = c.index-logs-at.result in
    let sink = c.loop-at.sink in
    let has = log_at logs at log c.loop-at-test.true c.index-logs-at.is in
    let all = ap (map (λ m. m.now)) c.deref.ensures.value ∙ c.in_ok-all.ensures.merged in
    let lacks = ap (map (λ m. m.now)) c.deref-in-loop-at.ensures.value ∙ c.in_ok-messages.ensures logs c.requires.faultless has all in
    let wrote = c.in_ok-well.ensures.rows ∙ (λ i. sink ++ rows_text (lack_rows (at + 1) (c.site.ensures i) (lacks i))) in
    let kept = c.in_ok-well.ensures.well ∙ (λ i. length (made_at (c.site.ensures i) (lacks i)) == 0) in (
      log_told logs at log _ sink c.write_lack.new.sink c.loop-at-test.true c.index-logs-at.is c.loop-at.invariant.0 wrote,
      lost_told logs at log c.loop-at.well c.in_ok-well.field-0 c.loop-at-test.true c.index-logs-at.is c.loop-at.invariant.1 kept,
    )
