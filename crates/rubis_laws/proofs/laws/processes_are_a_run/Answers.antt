use Rattle.rubis_laws.proofs.Processes.ProcessLaws.{processes_own, processes_agree, processes_in_run, processes_keep, processes_same_tables}
use Rattle.rubis_laws.proofs.Processes.AreARun.{processes_run}
use Rattle.rubis_laws.proofs.Processes.ProcessesConverging.{processes_converge}
use Rattle.rubis_laws.proofs.laws.processes_are_a_run.Goals as goal

pub returns-clause-run : goal.returns-clause-run
returns-clause-run c = processes_run

pub returns-clause-claims : goal.returns-clause-claims
returns-clause-claims c = processes_in_run

pub returns-clause-invariants : goal.returns-clause-invariants
returns-clause-invariants c = processes_keep

pub returns-clause-tables : goal.returns-clause-tables
returns-clause-tables c = processes_same_tables

pub returns-clause-audits : goal.returns-clause-audits
returns-clause-audits c = processes_agree

pub returns-clause-own : goal.returns-clause-own
returns-clause-own c = processes_own

pub returns-clause-converge : goal.returns-clause-converge
returns-clause-converge c = processes_converge
