use Rattle.rubis_audit.proofs.Common.{⊤, RECORDS_MAX, led_whole, whole_run}
use Rattle.rubis_engine.specs.Seam.{left}
use Rattle.rubis_engine.proofs.SeamFacts.{each-so}
use Rattle.rubis_reading.proofs.ChunkFacts.{over-input}
use Rattle.rubis_audit.specs.Forms.{logs_at}
use Rattle.rubis_audit.specs.Running.{WidenerState, widening_from}
use Rattle.rubis_audit.proofs.widener.run_widen_chunks.Goals as goal

pub returns-clause-whole : goal.returns-clause-whole
returns-clause-whole g c =
    each-so (λ l ends input all. led_whole (λ (s : WidenerState) n. widening_from s.from s.to n (logs_at s.place)) (λ old n records new. ⊤)
    l c.run_service.new.chunks RECORDS_MAX c.args.widener.now c.run_service.new.service (g.W.Write.contents c.args.writer.now)
    (g.W.Write.contents c.run_service.new.writer) input c.run_service.result (ends input all)) c.run_service.ensures

pub returns-clause-run : goal.returns-clause-run
returns-clause-run g c none input may =
    let widener = c.args.widener.now in
    let widener2 = c.run_service.new.service in
    whole_run (left input) c.run_service.new.chunks (widening_from widener.from widener.to 1 (logs_at widener.place))
    (λ n. widening_from widener2.from widener2.to n (logs_at widener2.place)) RECORDS_MAX input (g.W.Write.contents c.args.writer.now)
    (g.W.Write.contents c.run_service.new.writer) c.run_service.result
    (over-input c.args.chunks.now c.run_service.new.chunks (returns-clause-whole g c) none input may)
