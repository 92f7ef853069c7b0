use Rattle.rubis_reading.proofs.ChunkFacts.{of-known}
use Rattle.rubis_replica.specs.State.{setup_place}
use Rattle.rubis_script.proofs.EndFacts.{opened_process, opened_run}
use Rattle.rubis_script.proofs.site_run.run_site_upto.Goals as goal

pub returns-clause-run : goal.returns-clause-run
returns-clause-run g c =
    let (place, opened) = c.in_ok-desk.ensures.site in
    of-known g.R.Read.remaining c.args.reader c.chunks_for-chunks.result c.run_chunks.new.chunks _ c.chunks_for-chunks.ensures.reader
    c.chunks_for-chunks.ensures.none (λ none input may.
    opened_run c.args.limit input (setup_place c.args.config.now) c.in_ok-desk.desk.site _ _ c.run_chunks.result place opened
    (c.run_chunks.ensures.run none input may))

pub returns-clause-process : goal.returns-clause-process
returns-clause-process g c =
    let (place, opened) = c.in_ok-desk.ensures.site in
    of-known g.R.Read.remaining c.args.reader c.chunks_for-chunks.result c.run_chunks.new.chunks _ c.chunks_for-chunks.ensures.reader
    c.chunks_for-chunks.ensures.none (λ none input may.
    opened_process c.args.limit input (setup_place c.args.config.now) c.in_ok-desk.desk.site _ _ c.run_chunks.result place
    c.run_chunks.new.desk.site.state opened (λ fresh. c.run_chunks.ensures.process fresh none input may))
