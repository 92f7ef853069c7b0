use Rattle.std.proofs.Common.{rules, length, arith}
use Rattle.rubis_pieces.proofs.Counting.{behind_turn}
use Rattle.rubis_pieces.proofs.waiting.count_behind.Goals as goal

pub loop-place-preserved : goal.loop-place-preserved
loop-place-preserved c =
    let few = c.count_homes-parts.ensures.few in
    let low = c.loop-place.invariant.1 in (
      behind_turn (length c.args.stops.now) c.args.from c.loop-place.place c.args.stops.now c.args.batch.now
          c.index-batch-place.result c.new-entry.result (search rules) (search rules) c.new-entry.ensures.core
          c.loop-place.parts c.count_homes-parts.result c.loop-place.invariant.0 (c.count_homes-parts.ensures.parts _ c.of-homes.ensures),
      omega arith,
    )
