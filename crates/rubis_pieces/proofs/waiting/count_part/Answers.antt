use Rattle.std.proofs.Common.{length, arith}
use Rattle.rubis_pieces.proofs.Counting.{none_past}
use Rattle.rubis_pieces.proofs.waiting.count_part.Goals as goal

pub returns-then-home-stops-clause-part : goal.returns-then-home-stops-clause-part
returns-then-home-stops-clause-part c = λ o is.
    let past = c.if-home-stops.true in
    let same = c.from-home.ensures in
    none_past (length c.args.stops.now) c.args.stops.now c.args.place c.args.home o c.requires.some (omega arith) is
