use Rattle.rubis_replica.proofs.Comings.{follows_taken}
use Rattle.rubis_replica.proofs.site.Site.arrive_within.Goals as goal

pub invariant_of-self : goal.invariant_of-self
invariant_of-self g c =
    let site = c.self.inside in
    follows_taken site.intake.place site.intake.state c.take_all.new.intake.state c.args.messages.items c.take_all.result.answers c.take_all.result.rest
    site.follower c.take_all.ensures.first c.self.invariant
