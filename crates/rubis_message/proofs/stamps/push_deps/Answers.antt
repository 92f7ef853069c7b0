use Rattle.std.proofs.Common.{◌-◌, ◌++◌, length, arith, ap, ◌∙◌, decimal}
use Rattle.rubis_message.proofs.Fields.{plain_both, text_more}
use Rattle.rubis_message.proofs.stamps.push_deps.Goals as goal
use Rattle.rubis_message.proofs.stamps.push_deps.Goals.{then-site-sites, else-site-sites}

pub loop-site-preserved : goal.loop-site-preserved
loop-site-preserved c = (
  text_more c.args.deps.now c.loop-site.text c.if-site-sites.text c.put_number.new.self (c.loop-site.site - 1) c.loop-site.site
      (omega arith) (omega (arith, c.sites-sites.ensures.value)) c.loop-site.invariant.0
      (λ more. elim c.if-site-sites.branch
      [ then-site-sites w ↦ w.text-is ∙ w.put_byte.ensures | else-site-sites w ↦ absurd (omega (arith, c.sites-sites.ensures.value)) ])
      (λ last. elim c.if-site-sites.branch [ then-site-sites w ↦ absurd (omega (arith, c.sites-sites.ensures.value)) | else-site-sites w ↦ w.text-is ])
      (c.put_number.ensures.text ∙ ap (λ n. decimal n ++ c.if-site-sites.text) c.count.ensures),
  elim c.if-site-sites.branch [
    | then-site-sites w ↦ omega (arith, ap length (w.text-is ∙ w.put_byte.ensures), c.put_number.ensures.short)
    | else-site-sites w ↦ omega (arith, ap length w.text-is, c.put_number.ensures.short)
  ],
  rw c.put_number.ensures.text (plain_both (decimal c.count.result) c.if-site-sites.text c.put_number.ensures.plain
      (elim c.if-site-sites.branch [
        | then-site-sites w ↦ rw (w.text-is, w.put_byte.ensures) c.loop-site.invariant.2
        | else-site-sites w ↦ rw w.text-is c.loop-site.invariant.2
      ])),
)
