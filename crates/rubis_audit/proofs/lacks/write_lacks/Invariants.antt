use Rattle.rubis_audit.proofs.Common.{◌≡◌, ◌+◌, ◌++◌, ◌&&◌, drop, lack_rows_from, rows_text}
use Rattle.rubis_audit.specs.Running.{none_lost}
use Rattle.rubis_audit.proofs.lacks.write_lacks.Given as goal

-- what was written, and the rows of the logs to come; whether a message is lost is up to these and those
abbrev pub invariant-loop-at : goal.invariant-loop-at
invariant-loop-at l = (l.sink ++ rows_text (lack_rows_from (1 + l.at) l.logs (drop l.at l.logs)) ≡ l.fn.sink ++ rows_text (lack_rows_from 1 l.logs l.logs))
    × ((l.well && none_lost l.logs (drop l.at l.logs)) ≡ none_lost l.logs l.logs)
