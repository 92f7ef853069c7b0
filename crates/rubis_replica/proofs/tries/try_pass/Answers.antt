use Rattle.rubis_replica.proofs.Common.{refl, passed}
use Rattle.rubis_replica.specs.Tries.Call.{Pass}
use Rattle.rubis_replica.specs.Tries.Value.{Handed}
use Rattle.rubis_replica.proofs.Trying.{pass_stays, step_leads}
use Rattle.rubis_replica.proofs.tries.try_pass.Goals as goal

pub returns-clause-tried : goal.returns-clause-tried
returns-clause-tried g c =
    let old = c.args.site.now in
    step_leads Handed (Pass c.args.to) old c.pass.new.self (passed old.place old.state c.args.to) refl (pass_stays old.place old.state c.args.to) c.pass.result c.pass.ensures.step
