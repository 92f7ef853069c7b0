use Rattle.std.proofs.Common.{ap, arith, length}
use Rattle.rubis_reading.specs.Readings.{of_stretch}
use Rattle.rubis_reading.proofs.PieceFacts.{came-length}
use Rattle.rubis_reading.proofs.ahead.count_stretch.Goals as goal

pub returns-in-Messages : goal.returns-in-Messages
returns-in-Messages c =
    let is = ap (λ r. length (of_stretch r)) c.in-Messages.is in
    omega (arith, is, came-length c.in-Messages.list.items, c.len.ensures, c.in-Messages.list.ok)
