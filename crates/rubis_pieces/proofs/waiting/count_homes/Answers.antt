use Rattle.rubis_pieces.proofs.Common.{length, arith, slice_get, parts_of}
use Rattle.rubis_pieces.proofs.Counting.{message_parts}
use Rattle.rubis_pieces.proofs.waiting.count_homes.Goals as goal

pub returns-clause-parts : goal.returns-clause-parts
returns-clause-parts c = λ m homes.
    let first = c.count_part.ensures.part (slice_get (parts_of m) 0) homes.first in
    let second = c.count_part-2.ensures.part (slice_get (parts_of m) 1) homes.second in
    let third = c.count_part-3.ensures.part (slice_get (parts_of m) 2) homes.third in
    let all = message_parts (length c.args.stops.now) c.args.stops.now c.args.place m in
    omega arith
