use Rattle.rubis_audit.proofs.Placing.{audit_text_stays, text_back}
use Rattle.rubis_audit.proofs.laws.widened_audits_agree.Goals as goal

pub returns-clause-reads_back : goal.returns-clause-reads_back
returns-clause-reads_back c = text_back

pub returns-clause-audit : goal.returns-clause-audit
returns-clause-audit c = audit_text_stays
