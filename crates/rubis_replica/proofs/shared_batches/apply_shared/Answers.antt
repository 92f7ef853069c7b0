use Rattle.std.specs.Arc.{arc_value}
use Rattle.rubis_replica.proofs.GivenOut.{fits_set, is_applied, is_pending, were_folded}
use Rattle.rubis_replica.proofs.shared_batches.apply_shared.Goals as goal

pub fold-folded-requires-clause-set : goal.fold-folded-requires-clause-set
fold-folded-requires-clause-set g c κs within =
    fits_set (arc_value c.args.batch.now) c.args.tables.now c.take.result.items c.args.stops.now c.requires.batch.0 c.requires.can c.take.ensures.order
    c.take.ensures.list

pub put_back-requires-clause-batch : goal.put_back-requires-clause-batch
put_back-requires-clause-batch g c =
    is_pending (arc_value c.args.batch.now) c.deref-shared.result.now c.log.result.now c.args.tables.now c.args.stops.now c.log.ensures.value
    c.deref-shared.ensures c.requires.can c.requires.batch.1

pub put_back-requires-clause-folded : goal.put_back-requires-clause-folded
put_back-requires-clause-folded g c = (
  c.args.tables.now,
  were_folded (arc_value c.args.batch.now) c.deref-shared.result.now c.log.result.now c.take.result.items c.args.tables.now c.fold-folded.result
      c.log.ensures.value c.deref-shared.ensures c.take.ensures.list c.fold-folded.ensures.folded,
  c.requires.can.room,
)

pub returns-clause-applied : goal.returns-clause-applied
returns-clause-applied g c =
    let b = arc_value c.args.batch.now in
    let were =
    were_folded b c.deref-shared.result.now c.log.result.now c.take.result.items c.args.tables.now c.fold-folded.result c.log.ensures.value
    c.deref-shared.ensures c.take.ensures.list c.fold-folded.ensures.folded in
    is_applied b c.deref-shared.result.now c.log.result.now c.args.tables.now c.put_back.new.tables c.args.stops.now c.put_back.new.stops
    c.put_back.result c.log.ensures.value c.deref-shared.ensures (c.put_back.ensures.ok c.args.tables.now were)
    (c.put_back.ensures.err c.args.tables.now were) c.put_back.ensures.room
