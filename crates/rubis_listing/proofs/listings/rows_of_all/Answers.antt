use Rattle.rubis_listing.proofs.Common.{rules, ◌≡◌, ◌++◌, ◌<◌, ◌≤◌, List, length, ap, ◌∙◌, slice_index_or, RowKey, Row, rows_of, records_of, union}
use Rattle.rubis_schema.specs.declared.row_keys.Table.TheVariants as table
use Rattle.rubis_listing.specs.Parts.{tables_of}
use Rattle.rubis_listing.proofs.ByTable.{all_by_table, rows_by_table}
use Rattle.rubis_listing.proofs.Making.{collected_all, collected_more}
use Rattle.rubis_listing.proofs.listings.rows_of_all.Goals as goal

pub loop-table-init : goal.loop-table-init
loop-table-init c =
    let l = c.args.listing.now in
    ap (λ (rows : List (RowKey × Row)). records_of l rows ++ rows_by_table l (union c.args.tables.now) (tables_of l)) c.new-all.ensures.items

pub loop-table-preserved : goal.loop-table-preserved
loop-table-preserved c =
    let l = c.args.listing.now in
    let m = union c.args.tables.now in
    let ts = tables_of l in
    let at = c.loop-table.table-index in
    let inside : at < length ts = search rules in
    let same : records_of l c.in_ok-rows.rows.items ≡ records_of l (rows_of (slice_index_or ts at table.Users) m) = search rules in
    collected_more l m ts at table.Users c.loop-table.all.items c.in_ok-rows.rows.items _ inside c.in_ok-all.ensures same c.loop-table.invariant

pub returns : goal.returns
returns c =
    let l = c.args.listing.now in
    let m = union c.args.tables.now in
    let ts = tables_of l in
    let outside : length ts ≤ c.loop-table.table-index = search rules in
    collected_all l m ts c.loop-table.table-index c.loop-table.all.items outside c.loop-table.invariant ∙ all_by_table l m
