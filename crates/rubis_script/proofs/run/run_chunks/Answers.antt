use Rattle.rubis_script.proofs.Common.{subst, SiteState}
use Rattle.rubis_engine.proofs.SeamFacts.{each-so}
use Rattle.rubis_serving.proofs.ServedFacts.{ends_led}
use Rattle.rubis_script.specs.Desks.{LeadsSite, left_at}
use Rattle.rubis_script.specs.Runs.{EndsAsSite}
use Rattle.rubis_script.proofs.EndFacts.{ended_leads, ended_process, ended_run, led_site}
use Rattle.rubis_script.proofs.run.run_chunks.Goals as goal

pub returns-then-desk-eq0-clause-whole : goal.returns-then-desk-eq0-clause-whole
returns-then-desk-eq0-clause-whole g c =
    each-so (λ l ends input all.
    let old = g.W.Write.contents c.args.writer.now in
    let now = g.W.Write.contents c.run_service.new.writer in
    subst (λ (s : SiteState). EndsAsSite l c.run_service.new.chunks c.args.limit s c.run_service.new.service.site old now input c.run_service.result)
    c.start.ensures.site
    (led_site l c.run_service.new.chunks c.args.limit c.start.new.self c.run_service.new.service old now input c.run_service.result
    c.start.ensures.fresh (ends input all))) c.run_service.ensures

pub returns-then-desk-eq0-clause-run : goal.returns-then-desk-eq0-clause-run
returns-then-desk-eq0-clause-run g c =
    ended_run c.args.chunks.now c.run_service.new.chunks c.args.limit c.args.desk.now.site c.run_service.new.service.site _ _ c.run_service.result
    (returns-then-desk-eq0-clause-whole g c)

pub returns-then-desk-eq0-clause-leads : goal.returns-then-desk-eq0-clause-leads
returns-then-desk-eq0-clause-leads g c =
    ended_leads c.args.chunks.now c.run_service.new.chunks c.args.limit c.args.desk.now.site c.run_service.new.service.site _ _ c.run_service.result
    (returns-then-desk-eq0-clause-whole g c)

pub returns-then-desk-eq0-clause-process : goal.returns-then-desk-eq0-clause-process
returns-then-desk-eq0-clause-process g c =
    ended_process c.args.chunks.now c.run_service.new.chunks c.args.limit c.args.desk.now.site c.run_service.new.service.site _ _ c.run_service.result
    (returns-then-desk-eq0-clause-whole g c)

pub returns-clause-whole : goal.returns-clause-whole
returns-clause-whole g c =
    each-so (λ l ends input all.
    let old = g.W.Write.contents c.args.writer.now in
    let now = g.W.Write.contents c.run_helped.new.writer in
    subst (λ (s : SiteState). EndsAsSite l c.run_helped.new.chunks c.args.limit s c.run_helped.new.desk.site old now input c.run_helped.result)
    c.start.ensures.site
    (led_site l c.run_helped.new.chunks c.args.limit c.start.new.self c.run_helped.new.desk old now input c.run_helped.result
    c.start.ensures.fresh
    (ends_led left_at LeadsSite g.W.Write.contents l c.args.chunks.now c.run_helped.new.chunks c.start.new.self c.run_helped.new.desk
    c.new-run.result c.run_helped.new.run c.args.writer.now c.run_helped.new.writer c.args.limit input c.run_helped.result all c.new-run.ensures.empty
    c.new-run.ensures.none ends))) c.run_helped.ensures

pub returns-clause-run : goal.returns-clause-run
returns-clause-run g c =
    ended_run c.args.chunks.now c.run_helped.new.chunks c.args.limit c.args.desk.now.site c.run_helped.new.desk.site _ _ c.run_helped.result
    (returns-clause-whole g c)

pub returns-clause-leads : goal.returns-clause-leads
returns-clause-leads g c =
    ended_leads c.args.chunks.now c.run_helped.new.chunks c.args.limit c.args.desk.now.site c.run_helped.new.desk.site _ _ c.run_helped.result
    (returns-clause-whole g c)

pub returns-clause-process : goal.returns-clause-process
returns-clause-process g c =
    ended_process c.args.chunks.now c.run_helped.new.chunks c.args.limit c.args.desk.now.site c.run_helped.new.desk.site _ _ c.run_helped.result
    (returns-clause-whole g c)
