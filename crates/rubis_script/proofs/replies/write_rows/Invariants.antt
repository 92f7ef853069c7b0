use Rattle.std.proofs.Common.{drop}
use Rattle.rubis_script.proofs.replies.write_rows.Given as goal

-- what the rows to come add, all rows add to what there was
abbrev pub invariant-loop-row : goal.invariant-loop-row
invariant-loop-row g l = (s : g.row.S.Denot) → g.S.RowSink.adds (drop l.row-index l.fn.rows) l.sink s → g.S.RowSink.adds l.fn.rows l.fn.sink s
