use Rattle.rubis_replica.proofs.Common.{refl, took}
use Rattle.rubis_replica.specs.Tries.Call.{Take}
use Rattle.rubis_replica.specs.Tries.Value.{Took}
use Rattle.rubis_replica.proofs.Trying.{token_stays, step_leads}
use Rattle.rubis_replica.proofs.tries.try_token.Goals as goal

pub returns-clause-tried : goal.returns-clause-tried
returns-clause-tried g c =
    let old = c.args.site.now in
    step_leads Took (Take c.args.token) old c.token.new.self (took old.place old.state c.args.token) refl (token_stays old.place old.state c.args.token) c.token.result c.token.ensures.step
