use Rattle.rubis_shard.proofs.Common.{slice_get, subst, HasBoxedRow, parts}
use Rattle.rubis_shard.proofs.shard_store.Store.fold_item.Goals as goal

pub unreachable-requires : goal.unreachable-requires
unreachable-requires c =
    let entry = c.args.entry.now in
    c.in_default.not-Some _
    (subst (λ s. HasBoxedRow (slice_get (parts entry.id entry.red s) 0) c.in_ok-row.field-0) c.requires.item (c.in_ok-row.ensures entry.id entry.red))
