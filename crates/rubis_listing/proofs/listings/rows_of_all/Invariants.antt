use Rattle.rubis_listing.proofs.Common.{drop, union}
use Rattle.rubis_listing.specs.Parts.{tables_of}
use Rattle.rubis_listing.proofs.Making.{AreCollected}
use Rattle.rubis_listing.proofs.listings.rows_of_all.Given as goal

-- those collected, and those of the tables to come, are the rows of all tables
abbrev pub invariant-loop-table : goal.invariant-loop-table
invariant-loop-table l = AreCollected l.listing (union l.tables) (tables_of l.listing) l.all.items (drop l.table-index (tables_of l.listing))
