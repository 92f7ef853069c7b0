use Rattle.rubis_audit.proofs.Common.{◌≡◌, ◌∙◌, arith, ap, get_or, length, sym, ◌==◌, not, slice_index, dep}
use Rattle.rubis_audit.proofs.Judging.{no_site, other_at, some_site}
use Rattle.rubis_audit.proofs.stamps.differs.Goals as goal

pub returns-then-count-counts : goal.returns-then-count-counts
returns-then-count-counts c =
    let v = c.args.v.now in
    let j = c.loop-j.j in
    let many = ap length c.deps-mine.ensures.value in
    let mine = c.count.ensures ∙ ap (λ xs. slice_index xs j) c.deps-mine.ensures.value in
    sym (some_site v (λ k. not (dep v k == slice_index c.args.counts.now k)) j (omega (arith, many, c.sites-j-end.ensures.value, c.loop-j-test.true))
    (other_at (dep v j) (get_or c.args.counts.now j 0)
    (λ (e : dep v j ≡ get_or c.args.counts.now j 0). c.if-count-counts.true (mine ∙ e ∙ ap (λ k. get_or c.args.counts.now k 0) (sym c.from.ensures)))))

pub returns : goal.returns
returns c =
    let v = c.args.v.now in
    let many = ap length c.deps-mine.ensures.value in
    sym (no_site v (λ j. not (dep v j == slice_index c.args.counts.now j)) (λ j l. c.loop-j.invariant j (omega (arith, many, c.sites-j-end.ensures.value, l))))
