use Rattle.rubis_listing.proofs.Common.{◌≡◌, ◌+◌, ◌≤◌, drop, length, records_of}
use Rattle.rubis_listing.proofs.listings.count_rows.Given as goal

-- those that were counted, and those of the rows to come, are all
abbrev pub invariant-loop-row : goal.invariant-loop-row
invariant-loop-row l = record {
  all : l.count + length (records_of l.listing (drop l.row-index l.rows)) ≡ length (records_of l.listing l.rows);
  few : l.count ≤ l.row-index;
}
