use Rattle.std.proofs.Common.{◌+◌, ◌<◌, length, subst, sym, ap, ◌∙◌, arith}
use Rattle.rubis_release.specs.Waiting.{IsFirstOf}
use Rattle.rubis_release.proofs.Slots.{first_joined, first_wider}
use Rattle.rubis_release.proofs.waiting.first_ready.Goals as goal

pub loop-site-init : goal.loop-site-init
loop-site-init c = λ i k m there ready pass. absurd (omega (arith, pass))

pub loop-site-preserved : goal.loop-site-preserved
loop-site-preserved c = subst (IsFirstOf c.args.clock.now c.args.slots.now.entries (λ j. j < c.loop-site.site + 1)) (sym c.earlier-first.ensures)
    (first_joined c.args.clock.now c.args.slots.now.entries c.loop-site.site c.loop-site.first c.ready_of.result c.loop-site.invariant c.ready_of.ensures)

pub returns : goal.returns
returns c =
    let many = c.len-site-end.ensures.value ∙ ap length c.deps.ensures in
    first_wider c.args.clock.now c.args.slots.now.entries (length c.args.clock.now.counts) c.loop-site.site
    (omega (arith, many, c.loop-site-test.false)) c.loop-site.first c.loop-site.invariant
