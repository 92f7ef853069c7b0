use Rattle.rubis_release.proofs.Common.{◌≡◌, ◌-◌, length, ap, ◌∙◌, sym, subst, arith, after_came}
use Rattle.rubis_message.specs.declared.answers.Arrival.TheVariants.{Held, Released}
use Rattle.rubis_release.specs.Release.{Intake, IsAmong, AreKept, IsAdmitted}
use Rattle.rubis_release.proofs.Keeping.{settling_longer}
use Rattle.rubis_release.proofs.Intakes.{answer_is, came_is, came_kept, next_holds, none_released, some_released}
use Rattle.rubis_release.proofs.intake.Intake.arrive.Goals as goal
use Rattle.rubis_release.proofs.intake.Intake.arrive.Goals.{After-log}

pub take_in-requires-clause-site : goal.take_in-requires-clause-site
take_in-requires-clause-site c = subst (λ n. IsAmong n c.args.message) (ap (λ (i : Intake). i.place.sites) (sym c.self.view_is) ∙ sym c.self.invariant.sites)
    c.is_repeat.ensures.site

admitted : (c : After-log) → IsAdmitted c.args.self.now.place c.args.self.now.state c.args.message
admitted c = record {
  not_ours = sym c.is_not_ours.ensures ∙ c.if-is_not_ours.false;
  new = sym c.is_repeat.ensures.value
      ∙ c.if-is_repeat.false;
  room = sym c.is_full.ensures ∙ c.if-is_full.false;
}

kept : (c : After-log) →
    AreKept (record { site = c.self.inside.site; sites = c.self.inside.sites; keep = c.self.inside.keep }) c.take_in.new.self.log c.take_in.new.self.waiting
kept c =
    came_kept _ _ c.args.message c.take_in.new.self.log c.take_in.new.self.waiting c.self.invariant
    (subst (λ (i : Intake). IsAmong i.place.sites c.args.message) (sym c.self.view_is) c.is_repeat.ensures.site)
    (subst (λ (i : Intake). IsAdmitted i.place i.state c.args.message) (sym c.self.view_is) (admitted c))
    c.in_ok-take_in.ensures.settles

pub overflow_sub-released : goal.overflow_sub-released
overflow_sub-released c =
    let l = settling_longer _ _ _ _ c.in_ok-take_in.ensures.settles in
    let old = ap length c.log-before.ensures in
    let new = ap length c.log.ensures in
    omega (arith, l, old, new)

pub overflow_cast-released : goal.overflow_cast-released
overflow_cast-released c = let k = (kept c).few in let l = c.self.invariant.conditions.keep in let e = ap length c.log.ensures in omega (arith, k, l, e)

pub invariant_of-self-then-released-eq0 : goal.invariant_of-self-then-released-eq0
invariant_of-self-then-released-eq0 c =
    let p = (goal.at.invariant_of-self-then-released-eq0 c).After-log in
    next_holds _ _ c.take_in.new.self c.self.inside.held c.self.invariant (kept p) c.take_in.ensures.sites c.take_in.ensures.settled

pub invariant_of-self-2 : goal.invariant_of-self-2
invariant_of-self-2 c =
    let p = (goal.at.invariant_of-self-2 c).After-log in
    next_holds _ _ c.take_in.new.self c.self.inside.held c.self.invariant (kept p) c.take_in.ensures.sites c.take_in.ensures.settled

state : (c : After-log) → record { log = c.take_in.new.self.log; waiting = c.take_in.new.self.waiting; held = c.self.inside.held; last = c.self.inside.last }
    ≡ after_came c.args.self.now.state c.args.message
state c =
    came_is (record { log = c.self.inside.messages.log; waiting = c.self.inside.messages.waiting; held = c.self.inside.held; last = c.self.inside.last })
    c.args.message c.take_in.new.self.log c.take_in.new.self.waiting c.in_ok-take_in.ensures.settles
    ∙ ap (λ (i : Intake). after_came i.state c.args.message) c.self.view_is

-- how many were released
many : (c : After-log) → length c.log.result.now - length c.log-before.result.now ≡ length c.take_in.new.self.log - length c.args.self.now.state.log
many c = λ j. length (c.log.ensures j) - length ((c.log-before.ensures ∙ ap (λ (i : Intake). i.state.log) c.self.view_is) j)

pub returns-then-released-eq0-clause-step : goal.returns-then-released-eq0-clause-step
returns-then-released-eq0-clause-step c =
    let p = (goal.at.returns-then-released-eq0-clause-step c).After-log in
    answer_is c.args.self.now.place c.args.self.now.state c.args.message
    (record { log = c.take_in.new.self.log; waiting = c.take_in.new.self.waiting; held = c.self.inside.held; last = c.self.inside.last })
    _ Held (admitted p) (state p) (many p) (none_released _ c.if-released-eq0.true)

pub returns-clause-step : goal.returns-clause-step
returns-clause-step c =
    let p = (goal.at.returns-clause-step c).After-log in
    answer_is c.args.self.now.place c.args.self.now.state c.args.message
    (record { log = c.take_in.new.self.log; waiting = c.take_in.new.self.waiting; held = c.self.inside.held; last = c.self.inside.last })
    _ (Released (length c.log.result.now - length c.log-before.result.now)) (admitted p) (state p) (many p) (some_released _ c.if-released-eq0.false)

pub take_in-requires-clause-settled : goal.take_in-requires-clause-settled
take_in-requires-clause-settled c = c.self.invariant.settled
