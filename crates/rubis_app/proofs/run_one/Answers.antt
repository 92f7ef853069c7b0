use Rattle.std.proofs.Common.{subst}
use Rattle.rubis_schema.specs.declared.limits.TheConstants.{RECORDS_MAX}
use Rattle.rubis_engine.specs.Progress.{IsRun}
use Rattle.rubis_script.specs.Replica.{Setup, setup_place}
use Rattle.rubis_script.specs.SiteRuns.{site_answers}
use Rattle.rubis_app.proofs.run_one.Goals as goal

pub returns-clause-answers : goal.returns-clause-answers
returns-clause-answers g c setup none input may = (
  c.run_last_site-ended.result,
  subst (λ (s : Setup). IsRun (site_answers (setup_place s)) RECORDS_MAX input (g.O.Write.contents c.args.writer.now)
      (g.O.Write.contents c.run_last_site-ended.new.writer) c.run_last_site-ended.result)
      c.in-Ok.ensures.config.0 (c.run_last_site-ended.ensures.run none input may),
  c.end.ensures.value,
)
