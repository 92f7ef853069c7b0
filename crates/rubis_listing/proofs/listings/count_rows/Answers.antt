use Rattle.rubis_listing.proofs.Common.{rules, arith, ◌≡◌, ◌∷◌, [], ◌∙◌, ◌+◌, ◌<◌, ap, drop, length, length-append, sym, slice_index_or, RowKey, Row}
use Rattle.rubis_listing.proofs.Common.{records_of}
use Rattle.rubis_listing.proofs.Making.{rows_more}
use Rattle.rubis_listing.proofs.listings.count_rows.Goals as goal

pub loop-row-preserved : goal.loop-row-preserved
loop-row-preserved c =
    let listing = c.args.listing.now in
    let rows = c.args.rows.now in
    let at = c.loop-row.row-index in
    let item : RowKey × Row = c.row-item.result in
    let inside : at < length rows = search rules in
    let read : item ≡ slice_index_or rows at item = search rules in
    let given : (c.key.result, c.row.result.now) ≡ slice_index_or rows at item = (λ i. (c.key.ensures i, c.row.ensures i)) ∙ read in
    let first = records_of listing (slice_index_or rows at item ∷ []) in
    let more = ap length (rows_more listing rows at item inside) ∙ length-append first (records_of listing (drop (at + 1) rows)) in
    let one : length first ≡ c.count_row-count.result =
    ap (λ (e : RowKey × Row). length (records_of listing (e ∷ []))) (sym given) ∙ sym c.count_row-count.ensures.count in
    record {
      all = omega (arith, more, one, c.loop-row.invariant.all);
      few = omega (arith, c.count_row-count.ensures.one, c.loop-row.invariant.few);
    }
