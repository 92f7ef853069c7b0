use Rattle.rubis_listing.proofs.Common.{rules, ◌≡◌, ◌+◌, ◌++◌, ◌<◌, ◌∷◌, [], drop, length, subst, sym, ◌∙◌, slice_index_or, RowKey, Row, records_of}
use Rattle.rubis_listing.proofs.Making.{rows_more}
use Rattle.rubis_listing.proofs.listings.put_rows.Goals as goal

pub loop-row-preserved : goal.loop-row-preserved
loop-row-preserved g c s h =
    let listing = c.args.listing.now in
    let rows = c.args.rows.now in
    let at = c.loop-row.row-index in
    let item : RowKey × Row = c.row-item.result in
    let inside : at < length rows = search rules in
    let read : item ≡ slice_index_or rows at item = search rules in
    let given : (c.key.result, c.row.result.now) ≡ slice_index_or rows at item = (λ i. (c.key.ensures i, c.row.ensures i)) ∙ read in
    let rest = records_of listing (drop (at + 1) rows) in
    let more = g.met.S.RowSink.adds_more _ rest _ _ s c.in_ok-put_row.ensures h in
    c.loop-row.invariant s (subst (λ rs. g.S.RowSink.adds rs c.loop-row.sink s) (sym (rows_more listing rows at item inside))
    (subst (λ (e : RowKey × Row). g.S.RowSink.adds (records_of listing (e ∷ []) ++ rest) c.loop-row.sink s) given more))
