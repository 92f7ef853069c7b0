use Rattle.std.specs.Prelude.{Err}
use Rattle.rubis_replica.proofs.Standing.{follows_passed}
use Rattle.rubis_replica.proofs.site.Site.pass.Goals as goal

pub invariant_of-self : goal.invariant_of-self
invariant_of-self g c =
    let intake = c.self.inside.intake in
    follows_passed intake.place intake.state c.pass_token.new.self.state c.args.to (Err c.in_err-pass_token.field-0.0)
    c.self.inside.follower c.in_err-pass_token.ensures.step c.self.invariant
