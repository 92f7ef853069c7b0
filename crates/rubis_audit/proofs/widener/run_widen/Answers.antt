use Rattle.rubis_audit.proofs.Common.{subst, IsRun, RECORDS_MAX}
use Rattle.rubis_reading.proofs.ChunkFacts.{of-known}
use Rattle.rubis_audit.specs.Forms.{logs_at}
use Rattle.rubis_audit.specs.Running.{WidenerState, widening_from}
use Rattle.rubis_audit.proofs.widener.run_widen.Goals as goal

pub returns : goal.returns
returns g c =
    of-known g.R.Read.remaining c.args.reader c.new-chunks.result c.run_widen_chunks.new.chunks _ c.new-chunks.ensures.reader c.new-chunks.ensures.none
    (λ none input may. subst (λ (w : WidenerState). IsRun (widening_from w.from w.to 1 (logs_at w.place)) RECORDS_MAX input
    (g.W.Write.contents c.args.writer.now) (g.W.Write.contents c.run_widen_chunks.new.writer) c.run_widen_chunks.result)
    c.new-widener.ensures (c.run_widen_chunks.ensures.run none input may))
