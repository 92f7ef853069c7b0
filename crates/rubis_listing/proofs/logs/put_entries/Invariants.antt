use Rattle.rubis_listing.proofs.Common.{◌+◌, slice_range, log_from}
use Rattle.rubis_listing.proofs.logs.put_entries.Given as goal

-- what the entries to come add, all entries add to what there was
abbrev pub invariant-loop-place : goal.invariant-loop-place
invariant-loop-place g l = (s : g.row.S.Denot) → g.S.RowSink.adds (log_from (l.place + 1) (slice_range l.fn.log l.place l.fn.upto)) l.sink s
    → g.S.RowSink.adds (log_from (l.fn.from + 1) (slice_range l.fn.log l.fn.from l.fn.upto)) l.fn.sink s
