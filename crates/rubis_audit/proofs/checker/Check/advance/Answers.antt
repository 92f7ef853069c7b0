use Rattle.rubis_audit.proofs.Common.{inr}
use Rattle.rubis_audit.proofs.CheckFacts.{breaks, handed_on, stops}
use Rattle.rubis_audit.proofs.checker.Check.advance.Goals as goal

pub returns-in_err-close-in-Err-clause-broke : goal.returns-in_err-close-in-Err-clause-broke
returns-in_err-close-in-Err-clause-broke g c =
    let was = c.args.self.now in
    handed_on _ c.from_residual.result _ c.from_residual.ensures (λ grammar sites old all h.
    breaks g.R.Read.remaining grammar sites was was old _ all h _ _ (inr c.in_err-close-in-Err.ensures.faults) c.in_err-close-in-Err.ensures.err)

pub returns-in_ok-close-in-Err-clause-broke : goal.returns-in_ok-close-in-Err-clause-broke
returns-in_ok-close-in-Err-clause-broke g c =
    let was = c.args.self.now in
    λ grammar sites old all h.
    stops g.R.Read.remaining grammar sites was was old _ all h _ c.in-Err.fault c.in-Err.ensures.faults c.in_ok-close-in-Err.ensures.ok
