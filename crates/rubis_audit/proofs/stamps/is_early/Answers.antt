use Rattle.rubis_audit.proofs.Common.{◌≡◌, ◌∙◌, ◌<◌, arith, ap, length, get_or, subst, sym, ◌==◌, ◌&&◌, nat_lt, not, slice_index, Id, dep}
use Rattle.rubis_audit.proofs.Judging.{early_at, no_site, some_site}
use Rattle.rubis_audit.proofs.stamps.is_early.Goals as goal

pub returns-then-counts-from : goal.returns-then-counts-from
returns-then-counts-from c =
    let v = c.args.v.now in
    let j = c.loop-j.j in
    let many = ap length c.deps-mine.ensures.value in
    let mine = c.count.ensures ∙ ap (λ xs. slice_index xs j) c.deps-mine.ensures.value in
    let site = ap (λ (i : Id). i.site) c.id-origin.ensures.value in
    sym (some_site v (λ k. not (k == v.stamp.id.site) && nat_lt (slice_index c.args.counts.now k) (dep v k)) j
    (omega (arith, many, c.sites-j-end.ensures.value, c.loop-j-test.true))
    (early_at _ _ _ _ (subst (λ s. ¬ (j ≡ s)) site c.if-j-origin.true)
    (subst (λ k. get_or c.args.counts.now k 0 < dep v j) c.from.ensures
    (subst (λ n. get_or c.args.counts.now c.from.result 0 < n) mine c.if-counts-from.true))))

pub returns : goal.returns
returns c =
    let v = c.args.v.now in
    let many = ap length c.deps-mine.ensures.value in
    sym (no_site v (λ j. not (j == v.stamp.id.site) && nat_lt (slice_index c.args.counts.now j) (dep v j))
    (λ j l. c.loop-j.invariant j (omega (arith, many, c.sites-j-end.ensures.value, l))))
