use Rattle.rubis_replica.proofs.Common.{refl, asked}
use Rattle.rubis_replica.specs.Tries.Call.{Decide}
use Rattle.rubis_replica.specs.Tries.Value.{Made}
use Rattle.rubis_replica.proofs.Trying.{ask_stays, step_leads}
use Rattle.rubis_replica.proofs.tries.try_request.Goals as goal

pub returns-clause-tried : goal.returns-clause-tried
returns-clause-tried g c =
    let old = c.args.site.now in
    step_leads Made (Decide c.args.ask) old c.request.new.self (asked old.place old.state c.args.ask) refl (ask_stays old.place old.state c.args.ask) c.request.result c.request.ensures.step
