use Rattle.rubis_script.proofs.Common.{◌≡◌, ◌+◌, ◌++◌, drop, rows_text}
use Rattle.rubis_script.specs.Windows.{arrivals_rows}
use Rattle.rubis_script.proofs.windows.write_arrivals.Given as goal

-- what was told, and the rows of the answers to come
abbrev pub invariant-loop-at : goal.invariant-loop-at
invariant-loop-at l = l.sink ++ rows_text (arrivals_rows (l.fn.first + l.at) (drop l.at l.fn.answers)) ≡ l.fn.sink
    ++ rows_text (arrivals_rows l.fn.first l.fn.answers)
