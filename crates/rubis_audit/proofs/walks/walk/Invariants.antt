use Rattle.rubis_audit.proofs.Common.{◌≡◌, take, option_copied}
use Rattle.rubis_audit.specs.Walks.{messages_of_logs}
use Rattle.rubis_audit.proofs.Walking.{Walks}
use Rattle.rubis_audit.proofs.walks.walk.Given as goal

abbrev pub invariant-loop-n : goal.invariant-loop-n
invariant-loop-n l = record {
  items : l.shared-items ≡ l.log.messages;
  walk : Walks l.sites l.seen l.past.clock (option_copied l.past.last_red) l.past.tables (messages_of_logs (take l.at l.logs)) l.log l.n;
}
