use Rattle.rubis_replica.proofs.Common.{◌≡◌, List, length, ap, sym, subst, arith, rules, Message}
use Rattle.rubis_replica.specs.Follow.{Follower, FollowsLog, resting_at}
use Rattle.rubis_replica.specs.declared.progress.Progress.{Progress}
use Rattle.rubis_replica.specs.declared.progress.Stage.TheVariants.{Keeping}
use Rattle.rubis_replica.proofs.Comings.{follows_taken}
use Rattle.rubis_replica.proofs.Standing.{keeps}
use Rattle.rubis_replica.proofs.follower.Follower.take_in.Given as given
use Rattle.rubis_replica.proofs.follower.Follower.take_in.Goals as goal
use Rattle.rubis_replica.proofs.follower.Follower.take_in.Goals.{After-take_all-arrived}

-- the tables, with what was pending tried, follow the log with what came
taken : (g : given.Over) (c : After-take_all-arrived g) → FollowsLog c.take_all-arrived.new.intake.state.log c.follow.new.self
taken g c =
    let old = c.args.intake.now in
    follows_taken old.place old.state c.take_all-arrived.new.intake.state c.args.messages.items c.take_all-arrived.result.answers c.take_all-arrived.result.rest
    c.follow.new.self c.take_all-arrived.ensures.first
    (subst (λ (l : List Message). FollowsLog l c.follow.new.self) c.log.ensures.value c.follow.ensures.follows)

pub returns-then-eq-clause-follows : goal.returns-then-eq-clause-follows
returns-then-eq-clause-follows g c =
    let t = taken g (goal.at.returns-then-eq-clause-follows g c).After-take_all-arrived in
    let log = c.take_all-arrived.new.intake.state.log in
    let site = c.self.inside in
    let f : Follower = record { progress = site.progress; stops = site.stops.items; tables = site.tables } in
    let many = ap length c.log-upto.ensures.value in
    let at : site.progress ≡ resting_at (length c.log-before.result.now) = search rules in
    subst (λ n. FollowsLog log (record f { progress = record { applied = site.progress.applied; stage = Keeping n; ran_short = site.progress.ran_short } })) (sym many)
    (subst (λ (p : Progress). FollowsLog log (record f { progress = record p { stage = Keeping (length log) } })) (sym at)
    (keeps log (length c.log-before.result.now) f (subst (FollowsLog log) (sym c.self.view_is) t) at
    (let less = c.if-before-upto.true in omega (arith, less, many))))

pub returns-else-before-upto-clause-follows : goal.returns-else-before-upto-clause-follows
returns-else-before-upto-clause-follows g c = taken g (goal.at.returns-else-before-upto-clause-follows g c).After-take_all-arrived
