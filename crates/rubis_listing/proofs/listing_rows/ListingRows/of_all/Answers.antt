use Rattle.rubis_listing.proofs.Common.{rules, ◌≡◌, ◌≤◌, ◌++◌, [], ap, length, ◌∙◌, arith, log_from, recorded_from, union}
use Rattle.std.specs.FinMap as map
use Rattle.rubis_listing.specs.Parts.{rows_from_table}
use Rattle.rubis_listing.proofs.ByTable.{all_left, left_length}
use Rattle.rubis_listing.proofs.Making.{none}
use Rattle.rubis_listing.proofs.listing_rows.ListingRows.of_all.Goals as goal

pub invariant_of-result : goal.invariant_of-result
invariant_of-result c =
    let m = union c.args.tables.now in
    let nought : length (log_from 1 []) ≡ 0 = ap length (none 1) in
    let many : length (rows_from_table 0 m) ≡ length (recorded_from 0 (map.entries m)) = left_length 0 m in
    let few : length (recorded_from 0 (map.entries m)) ≤ c.in-Some._most = search rules in
    (omega arith, omega (arith, nought, many, few))

pub returns : goal.returns
returns c =
    ap (λ rows. rows ++ rows_from_table 0 (union c.args.tables.now)) (none 1) ∙ all_left (union c.args.tables.now)
