use Rattle.rubis_audit.proofs.Common.{subst, IsRun, RECORDS_MAX}
use Rattle.rubis_reading.proofs.ChunkFacts.{of-known}
use Rattle.rubis_audit.specs.Running.{AuditorState, account_from}
use Rattle.rubis_audit.proofs.run.run_lack.Goals as goal

pub returns : goal.returns
returns g c =
    of-known g.R.Read.remaining c.args.reader c.new-chunks.result c.run_auditor_chunks.new.chunks _ c.new-chunks.ensures.reader c.new-chunks.ensures.none
    (λ none input may. subst (λ (a : AuditorState). IsRun (account_from a.asked a.sites 1 a.logs) RECORDS_MAX input
    (g.W.Write.contents c.args.writer.now) (g.W.Write.contents c.run_auditor_chunks.new.writer) c.run_auditor_chunks.result)
    c.new-auditor.ensures (c.run_auditor_chunks.ensures.run none input may))
