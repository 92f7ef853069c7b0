use Rattle.rubis_audit.proofs.Common.{◌≡◌, ◌++◌, drop, map, rows_text}
use Rattle.rubis_model.specs.Lack.{lack_row}
use Rattle.rubis_audit.proofs.lacks.write_all_named.Given as goal

-- what was written, and the rows of the messages to come
abbrev pub invariant-loop-message : goal.invariant-loop-message
invariant-loop-message l =
    l.sink ++ rows_text (map (lack_row l.number) (map (λ m. m.now) (drop l.message-index l.messages))) ≡ l.fn.sink
    ++ rows_text (map (lack_row l.number) (map (λ m. m.now) l.messages))
