use Rattle.rubis_audit.proofs.Common.{◌≡◌, ◌++◌, List, drop, length, flat_map, map, Message, waits_rows, rows_text, clock_of}
use Rattle.rubis_audit.proofs.waiting.write_messages.Given as goal

-- what was written, and the rows of the messages to come
abbrev pub invariant-loop-message : goal.invariant-loop-message
invariant-loop-message l = (log : List Message) → l.clock ≡ clock_of (length l.clock.counts) log
    → l.sink ++ rows_text (flat_map (waits_rows log) (map (λ m. m.now) (drop l.message-index l.messages)))
    ≡ l.fn.sink ++ rows_text (flat_map (waits_rows log) (map (λ m. m.now) l.messages))
