use Rattle.rubis_listing.proofs.Common.{◌≡◌, ◌∷◌, [], ◌++◌, ◌∙◌, ap, sym, subst, ◌+◌, ◌<◌, ◌≤◌, length, rules, slice_index_or, slice_range, log_from}
use Rattle.rubis_listing.proofs.Common.{log_record}
use Rattle.rubis_listing.proofs.Making.{entry_more, entries_end}
use Rattle.rubis_listing.proofs.logs.put_entries.Goals as goal

pub loop-place-preserved : goal.loop-place-preserved
loop-place-preserved g c s h =
    let log = c.args.log.now in
    let at = c.loop-place.place in
    let upto = c.args.upto in
    let row = c.put_entry.new.fields in
    let first = c.index-log-place.result in
    let before : at < upto = search rules in
    let inside : at < length log = search rules in
    let is_first : slice_index_or log at first ≡ first = search rules in
    let is_row : row ≡ log_record (at + 1) first = c.in_ok-put_entry.ensures in
    let rest = log_from (at + 1 + 1) (slice_range log (at + 1) upto) in
    let rows = entry_more at upto log first before inside
    ∙ ap (λ m. (log_record (at + 1) m ∷ []) ++ rest) is_first
    ∙ ap (λ r. (r ∷ []) ++ rest) (sym is_row) in
    let more = g.met.S.RowSink.adds_more (row ∷ []) rest c.loop-place.sink c.put.new.self s c.in_ok-put.ensures h in
    c.loop-place.invariant s (subst (λ rs. g.S.RowSink.adds rs c.loop-place.sink s) (sym rows) more)

pub returns : goal.returns
returns g c =
    let log = c.args.log.now in
    let at = c.loop-place.place in
    let outside : c.args.upto ≤ at = search rules in
    c.loop-place.invariant c.loop-place.sink
    (subst (λ rs. g.S.RowSink.adds rs c.loop-place.sink c.loop-place.sink) (sym (entries_end at c.args.upto log outside))
    (g.met.S.RowSink.adds_none c.loop-place.sink))
