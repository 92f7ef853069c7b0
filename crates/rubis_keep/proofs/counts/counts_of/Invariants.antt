use Rattle.rubis_keep.proofs.Common.{◌≡◌, map, range_with_len, counted}
use Rattle.rubis_keep.proofs.counts.counts_of.Given as goal

abbrev pub invariant-loop-site : goal.invariant-loop-site
invariant-loop-site l = l.counts.items ≡ map (λ i. counted i l.messages) (range_with_len 0 l.site)
