use Rattle.std.proofs.Common.{ap}
use Rattle.rubis_replica.proofs.Standing.{follows_opening}
use Rattle.rubis_replica.proofs.site.Site.new.Goals as goal

pub invariant_of-result : goal.invariant_of-result
invariant_of-result g c =
    let follower = c.in_ok-new in
    follows_opening c.in_ok-hashed.field-0.state.log follower.field-0 (ap (λ i. i.state.log) c.in_ok-hashed.ensures)
    follower.ensures.progress follower.ensures.some follower.ensures.tables
