use Rattle.std.proofs.Common.{◌≡◌, ◌∙◌, ◌∷◌, ◌++◌, ◌+◌, [], true, false, sym, ap, subst, arith, take, get_or}
use Rattle.std.proofs.lemmas.List.{take_all, take_more}
use Rattle.rubis_carrier.specs.declared.values.ShopEvent.{ShopEvent}
use Rattle.rubis_carrier.specs.declared.values.ShopEvent.TheVariants.{Starts}
use Rattle.rubis_carrier.specs.Events.{AreSteps, May, after_step, after_steps, may}
use Rattle.rubis_carrier.specs.Shops.{shop_start}
use Rattle.rubis_carrier.proofs.Computed.{may_decides, may_not}
use Rattle.rubis_carrier.proofs.Carrying.{run_append, steps_append, steps_right}
use Rattle.rubis_steps.proofs.deciding.decide.Goals as goal

pub loop-at-init : goal.loop-at-init
loop-at-init c = record { steps = tt; stands = c.new-shop.ensures }

-- with this one they are no steps
pub returns-then-not-may : goal.returns-then-not-may
returns-then-not-may c =
    let xs = c.args.events.now in
    let n = c.loop-at.at in
    let e : ShopEvent = get_or xs n (Starts 0) in
    let before = take n xs in
    let more : take (n + 1) xs ≡ before ++ e ∷ [] = take_more xs n (Starts 0) c.loop-at-test.true in
    let no : may c.args.over (after_steps shop_start before) e ≡ false =
    ap (λ s. may c.args.over s e) (sym c.loop-at.invariant.stands) ∙ sym c.may.ensures ∙ c.if-not-may.true in (
      c.loop-at-test.true,
      c.loop-at.invariant.steps,
      λ m. may_not c.args.over (after_steps shop_start before) e no (steps_right c.args.over shop_start before (e ∷ []) (subst (AreSteps c.args.over shop_start) more m)).0,
    )

pub loop-at-preserved : goal.loop-at-preserved
loop-at-preserved c =
    let xs = c.args.events.now in
    let n = c.loop-at.at in
    let e : ShopEvent = get_or xs n (Starts 0) in
    let before = take n xs in
    let more : take (n + 1) xs ≡ before ++ e ∷ [] = take_more xs n (Starts 0) c.loop-at-test.true in
    let yes : may c.args.over (after_steps shop_start before) e ≡ true =
    ap (λ s. may c.args.over s e) (sym c.loop-at.invariant.stands) ∙ sym c.may.ensures ∙ c.if-not-may.false in
    let allowed : May c.args.over (after_steps shop_start before) e = (may_decides c.args.over (after_steps shop_start before) e).0 yes in
    record {
      steps = subst (AreSteps c.args.over shop_start) (sym more) (steps_append c.args.over shop_start before (e ∷ []) c.loop-at.invariant.steps (allowed, tt));
      stands = c.in_ok-happens.ensures ∙ ap (λ s. after_step s e) c.loop-at.invariant.stands ∙ sym (ap (after_steps shop_start) more ∙ run_append shop_start before (e ∷ []));
    }

pub returns : goal.returns
returns c = subst (AreSteps c.args.over shop_start) (take_all c.loop-at.at c.args.events.now (omega (arith, c.loop-at-test.false))) c.loop-at.invariant.steps
