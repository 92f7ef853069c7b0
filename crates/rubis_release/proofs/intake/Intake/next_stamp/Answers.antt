use Rattle.rubis_release.proofs.Common.{◌≡◌, ◌+◌, true, ap, ◌∙◌, sym, arith, MessageCounts, is_red, made, is_current, red_for}
use Rattle.rubis_release.specs.Release.{Intake}
use Rattle.rubis_release.proofs.Intakes.{sites_of_clock, clock_is, count_is}
use Rattle.rubis_release.proofs.Makes.{counted_few, reds_few, red_number, blue_number, built}
use Rattle.rubis_release.proofs.intake.Intake.next_stamp.Goals as goal
use Rattle.rubis_release.proofs.intake.Intake.next_stamp.Goals.{in-Red, in-Blue}

pub overflow_add-red : goal.overflow_add-red
overflow_add-red c =
    let e = ap (λ (k : MessageCounts). k.red) c.clock-clock.ensures in
    let l = reds_few c.self.inside.messages.log in
    let few = c.self.invariant.conditions.kept.few in
    let keep = c.self.invariant.conditions.keep in
    omega (arith, c.red.ensures, e, l, few, keep)

pub count-requires : goal.count-requires
count-requires c = let e = sites_of_clock _ _ _ c.self.invariant c.clock-clock.ensures in let l = c.self.invariant.conditions.site in omega (arith, e, l)

pub overflow_add-result : goal.overflow_add-result
overflow_add-result c =
    let e = count_is _ _ _ c.self.invariant c.clock-clock.ensures c.self.inside.site c.self.invariant.conditions.site in
    let l = counted_few c.self.inside.site c.self.inside.messages.log in
    let few = c.self.invariant.conditions.kept.few in
    let keep = c.self.invariant.conditions.keep in
    omega (arith, c.count.ensures, e, l, few, keep)

right : (c : goal.After-deps) → is_red c.args.shadow.now ≡ true →
    is_current (record { log = c.self.inside.messages.log; waiting = c.self.inside.messages.waiting; held = c.self.inside.held; last = c.self.inside.last })
    ≡ true
right c e = ap (λ (i : Intake). is_current i.state) c.self.view_is ∙ c.requires.right e

red_is : (c : goal.After-deps) → c.match-colour.red ≡ red_for c.args.shadow.now c.self.inside.held
red_is c = elim c.match-colour.branch [
  | in-Red w ↦ w.red-is ∙ ap (λ n. n + 1) (w.red.ensures ∙ ap (λ (k : MessageCounts). k.red) c.clock-clock.ensures)
      ∙ red_number (record { log = c.self.inside.messages.log; waiting = c.self.inside.messages.waiting; held = c.self.inside.held; last = c.self.inside.last })
      c.args.shadow.now (right c) (sym c.colour.ensures ∙ w.in-Red.is)
  | in-Blue w ↦ w.red-is
      ∙ blue_number (record
      { log = c.self.inside.messages.log; waiting = c.self.inside.messages.waiting; held = c.self.inside.held; last = c.self.inside.last })
      c.args.shadow.now (sym c.colour.ensures ∙ w.in-Blue.is)
]

pub returns : goal.returns
returns c =
    built (record { site = c.self.inside.site; sites = c.self.inside.sites; keep = c.self.inside.keep })
    (record { log = c.self.inside.messages.log; waiting = c.self.inside.messages.waiting; held = c.self.inside.held; last = c.self.inside.last })
    c.args.shadow.now
    c.count.result c.match-colour.red c.deps.result
    (c.count.ensures ∙ count_is _ _ _ c.self.invariant c.clock-clock.ensures c.self.inside.site c.self.invariant.conditions.site)
    (c.deps.ensures ∙ ap (λ (k : MessageCounts). k.counts) (clock_is _ _ _ c.self.invariant c.clock-clock.ensures)) (red_is c)
    ∙ ap (λ (i : Intake). (made i.place i.state c.args.shadow.now).stamp) c.self.view_is
