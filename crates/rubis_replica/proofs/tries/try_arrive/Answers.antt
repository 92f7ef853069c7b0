use Rattle.rubis_replica.proofs.Common.{refl, arrived}
use Rattle.rubis_replica.specs.Tries.Call.{Arrive}
use Rattle.rubis_replica.specs.Tries.Value.{Came}
use Rattle.rubis_replica.proofs.Trying.{arrival_stays, step_leads}
use Rattle.rubis_replica.proofs.tries.try_arrive.Goals as goal

pub returns-clause-tried : goal.returns-clause-tried
returns-clause-tried g c =
    let old = c.args.site.now in
    step_leads Came (Arrive c.args.message) old c.arrive.new.self (arrived old.place old.state c.args.message) refl (arrival_stays old.place old.state c.args.message) c.arrive.result c.arrive.ensures.step
