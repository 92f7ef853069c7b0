use Rattle.rubis_replica.proofs.Common.{◌≡◌, sym, ap, ◌∙◌, subst, rules, Ok, Err, decision, row_by_key, Place, rows_at, standing_of, InLimits, union}
use Rattle.rubis_generate.proofs.Granted.{red_allowed}
use Rattle.rubis_model.specs.Site.{is_current}
use Rattle.rubis_replica.specs.State.{SiteState}
use Rattle.rubis_replica.proofs.Deciding.{decided_limits, decision_at, same_decision, undecided}
use Rattle.rubis_replica.proofs.Standing.{follows_made}
use Rattle.rubis_replica.proofs.site.Site.request.Goals as goal

pub returns-in_err-shadow-clause-step : goal.returns-in_err-shadow-clause-step
returns-in_err-shadow-clause-step g c =
    let site = c.self.inside in
    let refusal = c.in_err-shadow.field-0.0 in
    let refused : decision (row_by_key (union site.follower.tables)) c.standing-standing.result c.args.ask ≡ Err refusal = search rules in
    undecided c.args.self.now c.refresh.new.self c.args.ask c.from_residual-in_err-shadow.result refusal c.from_residual-in_err-shadow.ensures
    c.refresh.ensures.state
    (same_decision c.args.self.now site.intake.place site.intake.state site.batch site.follower (c.self.view_is ∙ c.in_ok-refresh.ensures.ok)
    c.self.invariant c.standing-standing.result c.args.ask c.standing-standing.ensures.value ∙ refused)

pub generated-requires-clause-right : goal.generated-requires-clause-right
generated-requires-clause-right g c red =
    let site = c.self.inside in
    let old = c.args.self.now in
    let decided : decision (row_by_key (union site.follower.tables)) c.standing-standing.result c.args.ask ≡ Ok c.in_ok-shadow.shadow = search rules in
    let whole : decision_at old c.args.ask ≡ Ok c.in_ok-shadow.shadow =
    same_decision old site.intake.place site.intake.state site.batch site.follower (c.self.view_is ∙ c.in_ok-refresh.ensures.ok) c.self.invariant
    c.standing-standing.result c.args.ask c.standing-standing.ensures.value ∙ decided in
    ap (λ (s : SiteState). is_current s.state) c.self.view_is ∙ ap is_current c.refresh.ensures.state
    ∙ (red_allowed (rows_at old.state.log) (standing_of old.place.keep old.state) c.args.ask c.in_ok-shadow.shadow whole red).1

pub generated-requires-clause-limits : goal.generated-requires-clause-limits
generated-requires-clause-limits g c =
    let site = c.self.inside in
    let decided : decision (row_by_key (union site.follower.tables)) c.standing-standing.result c.args.ask ≡ Ok c.in_ok-shadow.shadow = search rules in
    subst (λ (p : Place). InLimits p.sites c.in_ok-shadow.shadow) (sym (ap (λ (s : SiteState). s.place) c.self.view_is ∙ c.refresh.ensures.place))
    (decided_limits c.args.self.now site.intake.place site.intake.state site.batch site.follower (c.self.view_is ∙ c.in_ok-refresh.ensures.ok)
    c.self.invariant c.standing-standing.result c.args.ask c.in_ok-shadow.shadow c.standing-standing.ensures.conditions c.requires decided)

pub invariant_of-self-2 : goal.invariant_of-self-2
invariant_of-self-2 g c =
    let intake = c.self.inside.intake in
    follows_made intake.place intake.state c.generated.new.self.state c.in_ok-shadow.shadow c.self.inside.follower
    c.in-Ok.ensures.state c.self.invariant

pub returns-clause-step : goal.returns-clause-step
returns-clause-step g c =
    let site = c.self.inside in
    let decided : decision (row_by_key (union site.follower.tables)) c.standing-standing.result c.args.ask ≡ Ok c.in_ok-shadow.shadow = search rules in
    let whole : decision_at c.args.self.now c.args.ask ≡ Ok c.in_ok-shadow.shadow =
    same_decision c.args.self.now site.intake.place site.intake.state site.batch site.follower (c.self.view_is ∙ c.in_ok-refresh.ensures.ok)
    c.self.invariant c.standing-standing.result c.args.ask c.standing-standing.ensures.value ∙ decided in
    search rules
