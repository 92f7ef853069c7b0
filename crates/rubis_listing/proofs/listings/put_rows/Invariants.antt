use Rattle.rubis_listing.proofs.Common.{drop, records_of}
use Rattle.rubis_listing.proofs.listings.put_rows.Given as goal

-- what the rows to come add, all rows add to what there was
abbrev pub invariant-loop-row : goal.invariant-loop-row
invariant-loop-row g l = (s : g.row.S.Denot) → g.S.RowSink.adds (records_of l.fn.listing (drop l.row-index l.fn.rows)) l.sink s
    → g.S.RowSink.adds (records_of l.fn.listing l.fn.rows) l.fn.sink s
