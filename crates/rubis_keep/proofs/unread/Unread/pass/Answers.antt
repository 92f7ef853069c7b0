use Rattle.std.proofs.Common.{sym}
use Rattle.rubis_keep.proofs.LeftFacts.{left-passed}
use Rattle.rubis_keep.proofs.unread.Unread.pass.Goals as goal

pub returns : goal.returns
returns c =
    let u = c.self.inside in
    rw (sym c.self.view_is) (left-passed u.piece.items u.at u.end c.args.count c.self.invariant.0 (rw (sym c.self.view_is) at c.requires))
