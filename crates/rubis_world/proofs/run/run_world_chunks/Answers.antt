use Rattle.rubis_world.proofs.Common.{subst, IsRun}
use Rattle.rubis_engine.specs.Seam.{left}
use Rattle.rubis_engine.proofs.SeamFacts.{each-so}
use Rattle.rubis_reading.proofs.ChunkFacts.{over-input}
use Rattle.rubis_serving.proofs.ServedFacts.{led_whole, whole_run}
use Rattle.rubis_world.specs.Running.{LeadsWorld, told_by_world}
use Rattle.rubis_world.specs.Worlds.{WorldState}
use Rattle.rubis_world.proofs.Leading.{tells_a_run, world_leads}
use Rattle.rubis_world.proofs.run.run_world_chunks.Goals as goal

pub returns-clause-whole : goal.returns-clause-whole
returns-clause-whole g c = each-so (λ l ends input all. ends input all) c.run_service.ensures

pub returns-clause-run : goal.returns-clause-run
returns-clause-run g c none input may =
    let s = c.args.desk.now.world in
    let s2 = c.run_service.new.service.world in
    let old = g.W.Write.contents c.args.writer.now in
    let now = g.W.Write.contents c.run_service.new.writer in
    let chunks2 = c.run_service.new.chunks in
    whole_run (left input) chunks2 (told_by_world s 1) (told_by_world s2) c.args.limit input old now c.run_service.result
    (led_whole told_by_world LeadsWorld (left input) chunks2 c.args.limit s s2 old now input c.run_service.result
    (over-input c.args.chunks.now chunks2 (returns-clause-whole g c) none input may))

pub returns-clause-leads : goal.returns-clause-leads
returns-clause-leads g c none input may =
    world_leads (left input) c.run_service.new.chunks c.args.limit c.args.desk.now.world c.run_service.new.service.world
    (g.W.Write.contents c.args.writer.now) (g.W.Write.contents c.run_service.new.writer) input c.run_service.result
    (over-input c.args.chunks.now c.run_service.new.chunks (returns-clause-whole g c) none input may)

pub returns-clause-text : goal.returns-clause-text
returns-clause-text g c sites keep opened some few small none input may =
    let old = g.W.Write.contents c.args.writer.now in
    let now = g.W.Write.contents c.run_service.new.writer in
    tells_a_run sites keep some few small c.args.limit input old now c.run_service.result
    (subst (λ (s : WorldState). IsRun (told_by_world s 1) c.args.limit input old now c.run_service.result) opened (returns-clause-run g c none input may))
