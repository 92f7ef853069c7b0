use Rattle.rubis_shard.proofs.Common.{◌≡◌, ◌++◌, List, sym, ap, ◌∙◌, arith, Some, option_map, slice_get, deref_pair, append-nil, drop_all, row_key}
use Rattle.rubis_shard.proofs.Common.{RowKey, Row}
use Rattle.rubis_shard.specs.Listed.{listed_among, table_with}
use Rattle.rubis_shard.specs.Rows.{kept_of}
use Rattle.rubis_shard.proofs.OneTable.{pick_step, written_at, written_length}
use Rattle.rubis_shard.proofs.picks.pick_from.Goals as goal

pub loop-at-preserved : goal.loop-at-preserved
loop-at-preserved c =
    let es = kept_of c.args.rows.now in
    let at = c.loop-at.at in
    let e : RowKey × Row = (row_key c.in-Some.key.now, c.in-Some.row.now) in
    let here : slice_get es at ≡ Some e =
    written_at row_key c.args.rows.now.rows.entries at c.in-Some.key.now c.in-Some.row.now
    (sym c.get_index.ensures.entry ∙ ap (option_map deref_pair) c.in-Some.is) in
    pick_step c.args.listing.now (table_with c.args.table) c.loop-at.picked.items c.pick.new.picked.items es at e here c.in_ok-pick.ensures
    ∙ c.loop-at.invariant

pub returns : goal.returns
returns c =
    let es = kept_of c.args.rows.now in
    let items : List (RowKey × Row) = c.loop-at.picked.items in
    let none = drop_all c.loop-at.at es (omega (arith, written_length c.args.rows.now.rows.entries, c.len-at-end.ensures.len)) in
    sym (append-nil items) ∙ ap (λ (xs : List (RowKey × Row)). items ++ listed_among c.args.listing.now (table_with c.args.table) xs) (sym none)
    ∙ c.loop-at.invariant
