use Rattle.rubis_audit.proofs.Common.{◌≡◌, ◌++◌, List, Message, sites_of, rows_text, clock_of}
use Rattle.rubis_audit.specs.Running.{for_rows_from}
use Rattle.rubis_audit.proofs.waiting.write_message.Given as goal

-- what was written, and the rows of the sites to come
abbrev pub invariant-loop-site : goal.invariant-loop-site
invariant-loop-site l = (log : List Message) → l.clock ≡ clock_of (sites_of l.message) log
    → l.sink ++ rows_text (for_rows_from log l.message l.site) ≡ l.fn.sink ++ rows_text (for_rows_from log l.message 0)
