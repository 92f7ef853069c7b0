use Rattle.std.proofs.Common.{◌∙◌, ◌++◌, ◌∷◌, [], ap₂, sym}
use Rattle.rubis_keep.proofs.CountFacts.{counts_more}
use Rattle.rubis_keep.proofs.counts.counts_of.Goals as goal

pub loop-site-preserved : goal.loop-site-preserved
loop-site-preserved c =
    c.in_ok-push.ensures.items ∙ ap₂ (λ counts n. counts ++ n ∷ []) c.loop-site.invariant c.count_of.ensures
    ∙ sym (counts_more c.args.messages.now c.loop-site.site)
