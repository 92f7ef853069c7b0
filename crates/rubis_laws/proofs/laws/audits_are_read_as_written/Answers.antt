use Rattle.rubis_laws.proofs.Audits.AuditReadings.{line_is, logs_are}
use Rattle.rubis_laws.proofs.laws.audits_are_read_as_written.Goals as goal

pub returns-clause-lines : goal.returns-clause-lines
returns-clause-lines c = line_is

pub returns-clause-logs : goal.returns-clause-logs
returns-clause-logs c = logs_are
