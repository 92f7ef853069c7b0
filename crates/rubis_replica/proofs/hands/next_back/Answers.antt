use Rattle.std.proofs.Common.{subst}
use Rattle.rubis_replica.specs.Folding.{ReturnsPart}
use Rattle.rubis_replica.proofs.GivenOut.{comes_back, untaken}
use Rattle.rubis_replica.proofs.hands.next_back.Goals as goal

pub returns-in_default-clause-back : goal.returns-in_default-clause-back
returns-in_default-clause-back g c =
    subst (λ l. ReturnsPart {G = g.row.G.Denot} l c.in_ok-back.back.result c.take_back.new.lead) c.in_default.ensures.none
    (comes_back {G = g.row.G.Denot} c.take_unworked.new.lead c.take_back.new.lead c.in_ok-back.back c.in_ok-back.ensures.back)

pub returns-clause-back : goal.returns-clause-back
returns-clause-back g c = (
  c.in-Some.given,
  c.in-Some.ensures.job,
  untaken {G = g.row.G.Denot} c.in-Some.given.job c.untaken.result c.in-Some.ensures.fits c.untaken.ensures.pass c.untaken.ensures.list,
)
