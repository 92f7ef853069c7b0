use Rattle.rubis_release.proofs.Common.{◌≡◌, ap, ◌∙◌, refl, sym, subst, subst₂, Stamp, Message, IsMessage, InLimits, made, after_made, is_full}
use Rattle.rubis_release.proofs.Common.{is_current, issued_after}
use Rattle.rubis_release.specs.Release.{Intake, IsIntake, IsAmong}
use Rattle.rubis_release.proofs.Intakes.{next_holds}
use Rattle.rubis_release.proofs.Makes.{made_among, made_is_message, made_of, made_kept, made_is, held_for_blue, held_for_red}
use Rattle.rubis_release.proofs.intake.Intake.generated.Goals as goal
use Rattle.rubis_release.proofs.intake.Intake.generated.Goals.{then-red-eq0, else-red-eq0}

pub new-message-requires : goal.new-message-requires
new-message-requires c =
    subst IsMessage (λ j. record { stamp = sym c.next_stamp.ensures j; shadow = c.args.shadow })
    (made_is_message c.args.self.now c.args.shadow (subst IsIntake c.self.view_is c.self.invariant.conditions) c.requires.room c.requires.right
    c.requires.limits)

pub invariant_of-self-2 : goal.invariant_of-self-2
invariant_of-self-2 c =
    next_holds _ _ c.release.new.self c.if-red-eq0.self c.self.invariant
    (made_kept _ _ c.args.shadow c.new-message.result c.release.new.self.log c.release.new.self.waiting c.self.invariant
    (ap (λ (i : Intake). is_full i.place.keep i.state) c.self.view_is ∙ c.requires.room)
    (λ e. ap (λ (i : Intake). is_current i.state) c.self.view_is ∙ c.requires.right e)
    (subst (λ (i : Intake). InLimits i.place.sites c.args.shadow) (sym c.self.view_is) c.requires.limits)
    (made_of _ c.args.self.now c.args.shadow c.next_stamp.result c.new-message.result c.self.view_is c.next_stamp.ensures c.new-message.ensures)
    c.in_ok-release.ensures.settles)
    c.release.ensures.sites c.release.ensures.settled

red : (c : goal.After-self-2-1) → c.red-red.result ≡ (made c.args.self.now.place c.args.self.now.state c.args.shadow).stamp.red
red c = c.red-red.ensures.value ∙ ap (λ (m : Message). m.stamp.red) (c.in_ok-copy.ensures ∙ c.new-message.ensures)
    ∙ ap (λ (s : Stamp). s.red) c.next_stamp.ensures

held : (c : goal.After-self-2-1) → c.if-red-eq0.self ≡ issued_after c.args.shadow c.args.self.now.state.held
held c = elim c.if-red-eq0.branch [
  | then-red-eq0 w ↦ w.self-is ∙ ap (λ (i : Intake). i.state.held) c.self.view_is
      ∙ held_for_blue c.args.self.now.state c.args.shadow c.red-red.result c.requires.right (red c) w.if-red-eq0.true
  | else-red-eq0 w ↦ w.self-is ∙ held_for_red c.args.self.now.state c.args.shadow c.red-red.result c.requires.right (red c) w.if-red-eq0.false
]

pub returns-clause-state : goal.returns-clause-state
returns-clause-state c =
    made_is (record { site = c.self.inside.site; sites = c.self.inside.sites; keep = c.self.inside.keep })
    (record { log = c.self.inside.messages.log; waiting = c.self.inside.messages.waiting; held = c.self.inside.held; last = c.self.inside.last })
    c.args.shadow
    c.new-message.result c.release.new.self.log c.release.new.self.waiting c.if-red-eq0.self
    (made_of _ c.args.self.now c.args.shadow c.next_stamp.result c.new-message.result c.self.view_is c.next_stamp.ensures c.new-message.ensures)
    (held c ∙ ap (λ (i : Intake). issued_after c.args.shadow i.state.held) (sym c.self.view_is))
    c.in_ok-release.ensures.settles
    ∙ ap (λ (i : Intake). after_made i.place i.state c.args.shadow) c.self.view_is

pub release-requires-clause-site : goal.release-requires-clause-site
release-requires-clause-site c =
    subst₂ IsAmong (ap (λ (i : Intake). i.place.sites) (sym c.self.view_is) ∙ sym c.self.invariant.sites)
    (sym (made_of c.args.self.now c.args.self.now c.args.shadow c.next_stamp.result c.new-message.result refl c.next_stamp.ensures c.new-message.ensures))
    (made_among c.args.self.now c.args.shadow (subst IsIntake c.self.view_is c.self.invariant.conditions) c.requires.room c.requires.right c.requires.limits)

pub release-requires-clause-settled : goal.release-requires-clause-settled
release-requires-clause-settled c = c.self.invariant.settled
