use Rattle.rubis_world.proofs.Common.{subst, IsRun, RECORDS_MAX}
use Rattle.rubis_reading.proofs.ChunkFacts.{of-known}
use Rattle.rubis_world.specs.Running.{told_by_world}
use Rattle.rubis_world.specs.Worlds.{WorldState}
use Rattle.rubis_world.proofs.run.run_world.Goals as goal

pub returns-clause-run : goal.returns-clause-run
returns-clause-run g c =
    of-known g.R.Read.remaining c.args.reader c.new-chunks.result c.run_world_chunks.new.chunks _ c.new-chunks.ensures.reader c.new-chunks.ensures.none
    (λ none input may. subst (λ (s : WorldState). IsRun (told_by_world s 1) RECORDS_MAX input (g.W.Write.contents c.args.writer.now)
    (g.W.Write.contents c.run_world_chunks.new.writer) c.run_world_chunks.result)
    c.in_ok-desk.ensures.start (c.run_world_chunks.ensures.run none input may))

pub returns-clause-text : goal.returns-clause-text
returns-clause-text g c =
    let limits = c.in_ok-desk.ensures.limits in
    of-known g.R.Read.remaining c.args.reader c.new-chunks.result c.run_world_chunks.new.chunks _ c.new-chunks.ensures.reader c.new-chunks.ensures.none
    (c.run_world_chunks.ensures.text c.args.config.now.sites c.args.config.now.keep c.in_ok-desk.ensures.start limits.0.positive limits.0.small limits.1.small)
