use Rattle.rubis_release.proofs.Common.{ap, ◌∙◌, sym, arith, nat_lt, Id, not_ours}
use Rattle.rubis_release.specs.Release.{Intake}
use Rattle.rubis_release.proofs.Intakes.{sites_of_clock, not_ours_is}
use Rattle.rubis_release.proofs.intake.Intake.is_not_ours.Goals as goal

pub count-requires : goal.count-requires
count-requires c = let e = sites_of_clock _ _ _ c.self.invariant c.clock.ensures in let l = c.self.invariant.conditions.site in omega (arith, e, l)

pub returns-then-id-self : goal.returns-then-id-self
returns-then-id-self c =
    (λ j. nat_lt (c.count.ensures j) (c.id-id.ensures.value j).seq)
    ∙ not_ours_is _ _ _ c.args.message.now c.self.invariant c.clock.ensures (ap (λ (i : Id). i.site) (sym c.id-id.ensures.value) ∙ c.if-id-self.true)
    ∙ ap (λ (i : Intake). not_ours i.place i.state c.args.message.now) c.self.view_is
