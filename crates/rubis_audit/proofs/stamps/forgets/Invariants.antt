use Rattle.rubis_audit.proofs.Common.{◌≡◌, ℕ, ◌<◌, false, List, option_map_or, Message}
use Rattle.rubis_audit.specs.Walks.{by_message_id, exceeds, last_of, Sees}
use Rattle.rubis_audit.proofs.stamps.forgets.Given as goal

abbrev pub invariant-loop-j : goal.invariant-loop-j
invariant-loop-j l = (all : List Message) → Sees l.seen all → (j : ℕ) → j < l.j → option_map_or (exceeds l.v) (by_message_id (last_of l.v j) all) false ≡ false
