use Rattle.rubis_audit.proofs.Walking.{Over}
use Rattle.rubis_audit.proofs.audits.audit_hashed.Given as goal

abbrev pub invariant-loop-at : goal.invariant-loop-at
invariant-loop-at l = Over l.seen l.at l.logs
