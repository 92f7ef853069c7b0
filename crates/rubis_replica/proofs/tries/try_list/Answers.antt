use Rattle.rubis_replica.proofs.Common.{refl, listed}
use Rattle.rubis_replica.specs.Tries.Call.{Show}
use Rattle.rubis_replica.specs.Tries.Value.{Rows}
use Rattle.rubis_replica.proofs.Trying.{listing_stays, step_leads}
use Rattle.rubis_replica.proofs.tries.try_list.Goals as goal

pub returns-clause-tried : goal.returns-clause-tried
returns-clause-tried g c =
    let old = c.args.site.now in
    step_leads Rows (Show c.args.listing.now) old c.list.new.self (listed old.state c.args.listing.now) refl (listing_stays old.state c.args.listing.now) c.list.result c.list.ensures.step
