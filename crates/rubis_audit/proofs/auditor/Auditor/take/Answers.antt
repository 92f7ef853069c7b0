use Rattle.rubis_audit.proofs.auditor.Auditor.take.Goals as goal

pub invariant_of-self-in-Claim : goal.invariant_of-self-in-Claim
invariant_of-self-in-Claim c = record {
  few = c.self-in-Claim.invariant.few;
  ended_among = c.self-in-Claim.invariant.ended_among;
  current_among = c.claim_row.ensures.among c.self-in-Claim.inside.sites c.self-in-Claim.invariant.current_among;
}
