use Rattle.rubis_release.proofs.Common.{◌||◌, ap, ◌∙◌, sym, subst, arith, list_any, le-leb, same_id, Id, Message, is_repeat}
use Rattle.std.proofs.lemmas.Bool.{lt-leb}
use Rattle.rubis_release.specs.Release.{Intake, IsAmong}
use Rattle.rubis_release.proofs.Intakes.{among_is, sites_of_clock, is_repeat_by_count}
use Rattle.rubis_release.proofs.intake.Intake.is_repeat.Goals as goal

pub count-requires : goal.count-requires
count-requires c =
    let e = sites_of_clock _ _ _ c.self.invariant c.clock.ensures in
    let p = ap (λ (i : Intake). i.place.sites) c.self.view_is in
    let s = ap (λ (i : Id). i.site) c.id-id.ensures.value in
    let l = (among_is _ c.args.message.now c.id-id.ensures.conditions c.requires).id.site in
    omega (arith, e, p, s, l)

pub returns-then-id-count-clause-value : goal.returns-then-id-count-clause-value
returns-then-id-count-clause-value c =
    let e = le-leb c.id-id.result.seq c.count.result c.if-id-count.true in
    e ∙ ap (λ b. b || list_any (λ (u : Message). same_id c.id-id.result u.stamp.id) c.self.inside.messages.waiting) (sym e)
    ∙ is_repeat_by_count _ _ _ c.args.message.now c.self.invariant c.clock.ensures
    (subst (λ (i : Intake). IsAmong i.place.sites c.args.message.now) (sym c.self.view_is)
    (among_is _ c.args.message.now c.id-id.ensures.conditions c.requires))
    c.id-id.result c.id-id.ensures.value c.count.result c.count.ensures
    ∙ ap (λ (i : Intake). is_repeat i.state c.args.message.now) c.self.view_is

pub returns-else-id-count-clause-value : goal.returns-else-id-count-clause-value
returns-else-id-count-clause-value c =
    let e = lt-leb c.id-id.result.seq c.count.result c.if-id-count.false in
    c.has.ensures ∙ ap (list_any (λ (u : Message). same_id c.id-id.result u.stamp.id)) c.waiting.ensures
    ∙ ap (λ b. b || list_any (λ (u : Message). same_id c.id-id.result u.stamp.id) c.self.inside.messages.waiting) (sym e)
    ∙ is_repeat_by_count _ _ _ c.args.message.now c.self.invariant c.clock.ensures
    (subst (λ (i : Intake). IsAmong i.place.sites c.args.message.now) (sym c.self.view_is)
    (among_is _ c.args.message.now c.id-id.ensures.conditions c.requires))
    c.id-id.result c.id-id.ensures.value c.count.result c.count.ensures
    ∙ ap (λ (i : Intake). is_repeat i.state c.args.message.now) c.self.view_is
