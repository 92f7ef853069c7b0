use Rattle.rubis_audit.proofs.Common.{RECORDS_MAX, if_ok_so, led_whole, run_done, whole_run}
use Rattle.rubis_engine.specs.Seam.{left}
use Rattle.rubis_engine.proofs.SeamFacts.{each-so}
use Rattle.rubis_reading.proofs.ChunkFacts.{over-input}
use Rattle.rubis_audit.specs.Running.{AuditorState, LeadsAuditor, account_from}
use Rattle.rubis_audit.proofs.Collecting.{agrees_fresh}
use Rattle.rubis_audit.proofs.run.run_auditor_chunks.Goals as goal

pub returns-clause-whole : goal.returns-clause-whole
returns-clause-whole g c =
    each-so (λ l ends input all. led_whole (λ (s : AuditorState) n. account_from s.asked s.sites n s.logs) (λ old n records new. LeadsAuditor old records new)
    l c.run_service.new.chunks RECORDS_MAX c.args.auditor.now c.run_service.new.service (g.W.Write.contents c.args.writer.now)
    (g.W.Write.contents c.run_service.new.writer) input c.run_service.result (ends input all)) c.run_service.ensures

pub returns-clause-run : goal.returns-clause-run
returns-clause-run g c none input may =
    let auditor = c.args.auditor.now in
    let auditor2 = c.run_service.new.service in
    whole_run (left input) c.run_service.new.chunks (account_from auditor.asked auditor.sites 1 auditor.logs)
    (λ n. account_from auditor2.asked auditor2.sites n auditor2.logs) RECORDS_MAX input (g.W.Write.contents c.args.writer.now)
    (g.W.Write.contents c.run_service.new.writer) c.run_service.result
    (over-input c.args.chunks.now c.run_service.new.chunks (returns-clause-whole g c) none input may)

pub returns-clause-sound : goal.returns-clause-sound
returns-clause-sound g c asked empty few none input may =
    let auditor = c.args.auditor.now in
    let old = g.W.Write.contents c.args.writer.now in
    let new = g.W.Write.contents c.run_service.new.writer in
    if_ok_so _ _ c.run_service.result (λ count. agrees_fresh auditor.sites RECORDS_MAX count.records auditor auditor.well input old new few
    (λ i. record { sites = auditor.sites; asked = asked i; logs = empty i; well = auditor.well }))
    (run_done (account_from auditor.asked auditor.sites 1 auditor.logs) RECORDS_MAX input old new c.run_service.result (returns-clause-run g c none input may))
