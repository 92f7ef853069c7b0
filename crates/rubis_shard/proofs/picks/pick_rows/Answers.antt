use Rattle.rubis_shard.proofs.Common.{◌≡◌, ◌++◌, List, drop, take, sym, ap, subst, ◌∙◌, append_assoc, IsPermutation, IsPermutation-append_left}
use Rattle.rubis_shard.proofs.Common.{IsPermutation-refl, RowKey, Row}
use Rattle.rubis_shard.specs.Listed.{listed_among, listed_of, table_with}
use Rattle.rubis_shard.specs.Rows.{kept_of, tables_in}
use Rattle.rubis_shard.specs.declared.row_map.LinkedRows.{LinkedRows}
use Rattle.rubis_shard.proofs.OneTable.{pick_split}
use Rattle.rubis_shard.proofs.Picked.{listed_behind}
use Rattle.rubis_shard.proofs.Linking.{if_done}
use Rattle.rubis_shard.proofs.picks.pick_rows.Goals as goal

pub returns-in-None : goal.returns-in-None
returns-in-None c =
    let l = c.args.listing.now in
    let t = table_with c.args.table in
    let before : List (RowKey × Row) = c.args.picked.now.items in
    let after : List (RowKey × Row) = c.pick_from-in-None.new.picked.items in
    let found = before ++ listed_among l t (kept_of c.with_table-kept.result.now) in
    if_done (after ≡ found) (IsPermutation (before ++ listed_of l t (tables_in c.args.rows.now)) after)
    (λ is. listed_behind l c.args.table c.args.rows.now before after c.lens-lens.ensures
    (subst (λ (m : LinkedRows). IsPermutation (before ++ listed_among l t (kept_of m)) after) c.with_table-kept.ensures
    (subst (IsPermutation found) (sym is) (IsPermutation-refl found))))
    c.pick_from-in-None.result c.pick_from-in-None.ensures

pub returns-in_ok-pick_of_chain-in-Some : goal.returns-in_ok-pick_of_chain-in-Some
returns-in_ok-pick_of_chain-in-Some c =
    let l = c.args.listing.now in
    let t = table_with c.args.table in
    let n = c.len.result in
    let es = kept_of c.with_table-kept.result.now in
    let before : List (RowKey × Row) = c.args.picked.now.items in
    let middle : List (RowKey × Row) = c.pick_of_chain.new.picked.items in
    let after : List (RowKey × Row) = c.pick_from.new.picked.items in
    let linked = listed_among l t (take n es) in
    let rest = listed_among l t (drop n es) in
    let chained : IsPermutation (before ++ linked) middle =
    subst (λ m. IsPermutation (before ++ listed_among l t (take m es)) middle) (sym c.len.ensures) c.in_ok-pick_of_chain-in-Some.ensures in
    let all : (before ++ linked) ++ rest ≡ before ++ listed_among l t es =
    append_assoc before linked rest ∙ ap (λ (xs : List (RowKey × Row)). before ++ xs) (sym (pick_split l t n es)) in
    if_done (after ≡ middle ++ rest) (IsPermutation (before ++ listed_of l t (tables_in c.args.rows.now)) after) (λ is.
    listed_behind l c.args.table c.args.rows.now before after c.lens-lens.ensures
    (subst (λ (m : LinkedRows). IsPermutation (before ++ listed_among l t (kept_of m)) after) c.with_table-kept.ensures
    (subst (λ xs. IsPermutation xs after) all
    (subst (IsPermutation ((before ++ linked) ++ rest)) (sym is)
    (IsPermutation-append_left rest (before ++ linked) middle chained))))) c.pick_from.result c.pick_from.ensures
