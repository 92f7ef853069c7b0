use Rattle.std.proofs.Common.{◌-◌, length, arith, ap, ◌∙◌, decimal, get_or}
use Rattle.rubis_message.proofs.Fields.{plain_both, text_more}
use Rattle.rubis_keep.proofs.counts.push_counts.Goals as goal
use Rattle.rubis_keep.proofs.counts.push_counts.Goals.{then-site-counts, else-site-counts}

pub loop-site-preserved : goal.loop-site-preserved
loop-site-preserved c = (
  text_more c.args.counts.now c.loop-site.text c.if-site-counts.text c.put_number.new.self (c.loop-site.site - 1) c.loop-site.site
      (omega arith) (omega arith) c.loop-site.invariant.0
      (λ more. elim c.if-site-counts.branch
      [ then-site-counts w ↦ w.text-is ∙ w.put_byte.ensures | else-site-counts w ↦ absurd (omega arith) ])
      (λ last. elim c.if-site-counts.branch [ then-site-counts w ↦ absurd (omega arith) | else-site-counts w ↦ w.text-is ])
      c.put_number.ensures.text,
  elim c.if-site-counts.branch [
    | then-site-counts w ↦ omega (arith, ap length (w.text-is ∙ w.put_byte.ensures), c.put_number.ensures.short)
    | else-site-counts w ↦ omega (arith, ap length w.text-is, c.put_number.ensures.short)
  ],
  rw c.put_number.ensures.text (plain_both (decimal (get_or c.args.counts.now (c.loop-site.site - 1) 0)) c.if-site-counts.text c.put_number.ensures.plain
      (elim c.if-site-counts.branch [
        | then-site-counts w ↦ rw (w.text-is, w.put_byte.ensures) c.loop-site.invariant.2
        | else-site-counts w ↦ rw w.text-is c.loop-site.invariant.2
      ])),
)
