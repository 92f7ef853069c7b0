use Rattle.rubis_audit.proofs.Common.{◌≡◌, take, clock_of}
use Rattle.rubis_audit.proofs.walks_lacks.clock_of.Given as goal

abbrev pub invariant-loop-message : goal.invariant-loop-message
invariant-loop-message l = record {
  items : l.message-items ≡ l.log.messages;
  clock : l.clock ≡ clock_of l.sites (take l.message-index l.log.messages);
}
