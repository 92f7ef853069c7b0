use Rattle.rubis_replica.specs.State.{setup_place}
use Rattle.rubis_schema.specs.declared.limits.TheConstants.{RECORDS_MAX}
use Rattle.rubis_script.proofs.EndFacts.{opened_process, opened_run}
use Rattle.rubis_script.proofs.site_run.run_last_site.Goals as goal

pub returns-clause-run : goal.returns-clause-run
returns-clause-run g c none input may =
    let (place, opened) = c.in_ok-desk.ensures.site in
    opened_run RECORDS_MAX input (setup_place c.args.config.now) c.in_ok-desk.desk.site _ _ c.run_chunks-ended.result place opened
    (c.run_chunks-ended.ensures.run none input may)

pub returns-clause-process : goal.returns-clause-process
returns-clause-process g c none input may =
    let (place, opened) = c.in_ok-desk.ensures.site in
    opened_process RECORDS_MAX input (setup_place c.args.config.now) c.in_ok-desk.desk.site _ _ c.run_chunks-ended.result place
    c.run_chunks-ended.new.desk.site.state opened (λ fresh. c.run_chunks-ended.ensures.process fresh none input may)
