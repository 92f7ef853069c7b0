use Rattle.std.proofs.Common.{arith, sym, ap, ◌∙◌, ◌++◌, ◌∷◌, [], take}
use Rattle.rubis_clock.proofs.TwoRows.{unpacked_more}
use Rattle.rubis_clock.proofs.packed.PackedDeps.unpack.Goals as goal

pub loop-site-preserved : goal.loop-site-preserved
loop-site-preserved c =
    let t = c.loop-site-test.true in
    c.push.ensures ∙ ap (λ xs. xs ++ c.count.result ∷ []) c.loop-site.invariant ∙ ap (λ x. take c.loop-site.site c.args.self.now ++ x ∷ []) c.count.ensures
    ∙ sym (unpacked_more c.args.self.now c.loop-site.site (omega (arith, c.sites-site-end.ensures.value, t)))
