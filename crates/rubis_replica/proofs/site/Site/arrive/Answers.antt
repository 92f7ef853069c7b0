use Rattle.std.proofs.Common.{ap}
use Rattle.rubis_replica.proofs.Standing.{follows_arrived}
use Rattle.rubis_replica.proofs.site.Site.arrive.Goals as goal

pub invariant_of-self-in-Released : goal.invariant_of-self-in-Released
invariant_of-self-in-Released g c =
    let site = c.self.inside in
    follows_arrived site.intake.place site.intake.state c.arrive.new.self.state c.args.message site.follower
    (ap (λ r. r.0) c.in_ok-arrival.ensures.step) c.self.invariant

pub invariant_of-self-in_default : goal.invariant_of-self-in_default
invariant_of-self-in_default g c =
    let site = c.self.inside in
    follows_arrived site.intake.place site.intake.state c.arrive.new.self.state c.args.message site.follower
    (ap (λ r. r.0) c.in_ok-arrival.ensures.step) c.self.invariant
