use Rattle.rubis_laws.proofs.Runs.Recorded.{answers_are_a_run, audits_agree, records_keep, records_run}
use Rattle.rubis_laws.proofs.laws.records_are_a_run.Goals as goal

pub returns-clause-run : goal.returns-clause-run
returns-clause-run c = records_run

pub returns-clause-invariants : goal.returns-clause-invariants
returns-clause-invariants c = records_keep

pub returns-clause-audits : goal.returns-clause-audits
returns-clause-audits c = audits_agree

pub returns-clause-text : goal.returns-clause-text
returns-clause-text c = answers_are_a_run
