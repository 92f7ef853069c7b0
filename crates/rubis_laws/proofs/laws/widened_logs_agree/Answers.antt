use Rattle.rubis_laws.proofs.Widening.WidenedLogs.{meaning_stays, verdict_stays, widened_are_among}
use Rattle.rubis_laws.proofs.Widening.WidenedRecords.{audit_stays}
use Rattle.rubis_laws.proofs.laws.widened_logs_agree.Goals as goal

pub returns-clause-among : goal.returns-clause-among
returns-clause-among c = widened_are_among

pub returns-clause-meaning : goal.returns-clause-meaning
returns-clause-meaning c = meaning_stays

pub returns-clause-verdict : goal.returns-clause-verdict
returns-clause-verdict c = verdict_stays

pub returns-clause-records : goal.returns-clause-records
returns-clause-records c = audit_stays
