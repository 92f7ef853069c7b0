use Rattle.rubis_listing.proofs.Common.{ℕ, ◌≤◌, into_iter_items}
use Rattle.rubis_listing.specs.Parts.{between, AreParts}
use Rattle.rubis_listing.proofs.shared.put_shared.Given as goal

-- what the rows of the parts to come add, all rows add to what there was
abbrev pub invariant-loop-part : goal.invariant-loop-part
invariant-loop-part g l = (at : ℕ) × (at ≤ l.fn.upto) × AreParts g.S.SharedSink.holds l.fn.source at l.fn.upto (into_iter_items l.part-iterator)
    × ((s : g.row.S.Denot) → g.S.RowSink.adds (between l.fn.source at l.fn.upto) l.sink s
    → g.S.RowSink.adds (between l.fn.source l.fn.from l.fn.upto) l.fn.sink s)
