use Rattle.rubis_audit.proofs.Common.{subst}
use Rattle.rubis_engine.specs.Progress.{AppendsFront}
use Rattle.rubis_audit.proofs.CheckFacts.{handed_on, last_broke}
use Rattle.rubis_audit.proofs.checker.Check.end.Goals as goal

pub returns-in_err-close-clause-broke : goal.returns-in_err-close-clause-broke
returns-in_err-close-clause-broke g c =
    let was = c.args.self.now in
    let contents = g.W.Write.contents in
    let front = subst (AppendsFront (contents c.args.writer.now) (contents c.close.new.writer)) c.in_ok-write_checked.ensures c.in_err-close.ensures.err in
    handed_on _ c.from_residual-in_err-close.result _ c.from_residual-in_err-close.ensures (λ grammar sites old all h.
    last_broke grammar sites was.checker.tally was.sink old _ _ all _ h c.in_err-close.ensures.faults front)
