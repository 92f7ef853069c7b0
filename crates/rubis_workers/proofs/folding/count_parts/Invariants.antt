use Rattle.rubis_workers.proofs.Common.{◌≡◌, ℕ, ◌*◌, ◌<◌, ◌≤◌, get_or, length, take, flat_map, IsMessage, Message, cores, parts_of}
use Rattle.rubis_workers.proofs.folding.count_parts.Given as goal

abbrev pub invariant-loop-message : goal.invariant-loop-message
invariant-loop-message l = record {
  counted : l.parts ≡ length (flat_map parts_of (cores (take l.message-index l.messages)));
  few : l.parts ≤ 3 * l.message-index;
  conditions : (i : ℕ) (m : Message) → i < l.message-index → IsMessage (get_or l.messages i m);
}
