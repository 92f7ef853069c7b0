use Rattle.rubis_shard.proofs.Common.{◌≡◌, true, false, ◌∷◌, [], ◌++◌, List, sym, ap, ◌∙◌, map as each, Bor, append-nil, RowKey, Row}
use Rattle.std.proofs.lemmas.List.{map-append}
use Rattle.rubis_schema.specs.declared.listings.Listing.TheVariants as listing
use Rattle.rubis_shard.specs.Listed.{listed_among}
use Rattle.rubis_shard.specs.Chains.{lent_row, chain_written}
use Rattle.rubis_shard.proofs.InMaps.{Entries}
use Rattle.rubis_shard.proofs.OneTable.{walk_step}
use Rattle.rubis_shard.proofs.table_rows.rows_among.Goals as goal

pub loop-key-preserved-then-holds : goal.loop-key-preserved-then-holds
loop-key-preserved-then-holds g c =
    let f = g.K.MapKey.row_key in
    let l = listing.Tables in
    let t = c.args.table in
    let old : Entries = each lent_row c.loop-key.rows.items in
    let one : RowKey × Bor Row = (c.row_key-key.result, c.in-Some.row) in
    let pushed : c.push_reserved.new.self.items ≡ c.loop-key.rows.items ++ one ∷ [] =
    c.push_reserved.ensures.items ∙ ap (λ (xs : List (RowKey × Bor Row)). xs ++ one ∷ []) c.in_ok-reserve.ensures.items in
    ap (λ (xs : List (RowKey × Bor Row)). each lent_row xs ++ listed_among l t (chain_written f c.next.new.self)) pushed
    ∙ ap (λ (xs : Entries). xs ++ listed_among l t (chain_written f c.next.new.self)) (map-append lent_row c.loop-key.rows.items (one ∷ []))
    ∙ walk_step f l t old c.row_key-key.result c.in-Some.key.now c.in-Some.row.now c.next.new.self c.loop-key.key-iterator true
    c.row_key-key.ensures c.in-Some.ensures.steps (sym c.if-holds.true ∙ c.holds.ensures)
    ∙ c.loop-key.invariant

pub loop-key-preserved : goal.loop-key-preserved
loop-key-preserved g c =
    let f = g.K.MapKey.row_key in
    let l = listing.Tables in
    let t = c.args.table in
    let old : Entries = each lent_row c.loop-key.rows.items in
    ap (λ xs. xs ++ listed_among l t (chain_written f c.next.new.self)) (sym (append-nil old))
    ∙ walk_step f l t old c.row_key-key.result c.in-Some.key.now c.in-Some.row.now c.next.new.self c.loop-key.key-iterator false
    c.row_key-key.ensures c.in-Some.ensures.steps (sym c.if-holds.false ∙ c.holds.ensures)
    ∙ c.loop-key.invariant

pub returns : goal.returns
returns g c =
    let f = g.K.MapKey.row_key in
    let l = listing.Tables in
    let t = c.args.table in
    sym (append-nil (each lent_row c.loop-key.rows.items))
    ∙ ap (λ rest. each lent_row c.loop-key.rows.items ++ listed_among l t (chain_written f rest)) (sym c.in-None.ensures.steps.0)
    ∙ c.loop-key.invariant
    ∙ ap (λ es. listed_among l t (chain_written f es)) (c.into_iter-key-iterator.ensures.into_iter_gives ∙ c.iter-key-items.ensures.rest)
