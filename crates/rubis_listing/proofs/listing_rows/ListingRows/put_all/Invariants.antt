use Rattle.rubis_listing.proofs.listing_rows.ListingRows.put_all.Given as goal

-- what the rows that are left add, all rows add to what there was
abbrev pub invariant-parts : goal.invariant-parts
invariant-parts g l = (s : g.row.S.Denot) → g.S.RowSink.adds l.self l.sink s → g.S.RowSink.adds l.fn.self l.fn.sink s
