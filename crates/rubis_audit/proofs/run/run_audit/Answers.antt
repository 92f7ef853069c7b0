use Rattle.rubis_audit.proofs.Common.{false, subst, IsRun, RECORDS_MAX, if_ok_so, run_done}
use Rattle.rubis_reading.proofs.ChunkFacts.{of-known}
use Rattle.rubis_audit.specs.Running.{AuditorState, account_from}
use Rattle.rubis_audit.proofs.Collecting.{agrees_fresh}
use Rattle.rubis_audit.proofs.run.run_audit.Goals as goal

pub returns-clause-run : goal.returns-clause-run
returns-clause-run g c =
    of-known g.R.Read.remaining c.args.reader c.new-chunks.result c.run_auditor_chunks.new.chunks _ c.new-chunks.ensures.reader c.new-chunks.ensures.none
    (λ none input may. subst (λ (a : AuditorState). IsRun (account_from a.asked a.sites 1 a.logs) RECORDS_MAX input
    (g.W.Write.contents c.args.writer.now) (g.W.Write.contents c.run_auditor_chunks.new.writer) c.run_auditor_chunks.result)
    c.new-auditor.ensures (c.run_auditor_chunks.ensures.run none input may))

pub returns-clause-sound : goal.returns-clause-sound
returns-clause-sound g c =
    let auditor = c.new-auditor.result in
    let old = g.W.Write.contents c.args.writer.now in
    let new = g.W.Write.contents c.run_auditor_chunks.new.writer in
    of-known g.R.Read.remaining c.args.reader c.new-chunks.result c.run_auditor_chunks.new.chunks _ c.new-chunks.ensures.reader c.new-chunks.ensures.none
    (λ none input may. if_ok_so _ _ c.run_auditor_chunks.result
    (λ count. agrees_fresh c.args.sites RECORDS_MAX count.records auditor false input old new c.requires c.new-auditor.ensures)
    (run_done (account_from auditor.asked auditor.sites 1 auditor.logs) RECORDS_MAX input old new c.run_auditor_chunks.result
    (c.run_auditor_chunks.ensures.run none input may)))
