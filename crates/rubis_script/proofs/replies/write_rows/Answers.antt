use Rattle.std.proofs.Common.{◌≡◌, ◌<◌, ◌≤◌, ◌+◌, ◌∷◌, [], length, drop, subst, sym, rules}
use Rattle.std.specs.Prelude.{slice_index_or}
use Rattle.std.proofs.Math.ListN.{drop_of_length-le}
use Rattle.rubis_engine.proofs.RowFacts.{row_first}
use Rattle.rubis_script.proofs.replies.write_rows.Goals as goal

pub loop-row-preserved : goal.loop-row-preserved
loop-row-preserved g c s h =
    let rows = c.args.rows.now in
    let at = c.loop-row.row-index in
    let row = c.row-item.result in
    let inside : at < length rows = search rules in
    let is : slice_index_or rows at row ≡ row = search rules in
    let more = g.met.S.RowSink.adds_more (row ∷ []) (drop (at + 1) rows) c.loop-row.sink c.put.new.self s c.in_ok-put.ensures h in
    c.loop-row.invariant s (subst (λ rs. g.S.RowSink.adds rs c.loop-row.sink s) (sym (row_first at rows row inside is)) more)

pub returns : goal.returns
returns g c =
    let rows = c.args.rows.now in
    let outside : length rows ≤ c.loop-row.row-index = search rules in
    c.loop-row.invariant c.loop-row.sink
    (subst (λ rs. g.S.RowSink.adds rs c.loop-row.sink c.loop-row.sink) (sym (drop_of_length-le rows outside)) (g.met.S.RowSink.adds_none c.loop-row.sink))
