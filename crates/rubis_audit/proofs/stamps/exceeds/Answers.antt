use Rattle.rubis_audit.proofs.Common.{arith, ap, length, sym, nat_lt, slice_index, dep}
use Rattle.rubis_audit.proofs.Judging.{less_at, no_site, some_site}
use Rattle.rubis_audit.proofs.stamps.exceeds.Goals as goal

pub returns-then-count : goal.returns-then-count
returns-then-count c =
    let v = c.args.v.now in
    let u = c.args.u.now in
    let j = c.loop-j.j in
    let many = ap length c.deps-mine.ensures.value in
    let mine = ap (λ xs. slice_index xs j) c.deps-mine.ensures.value in
    let theirs = ap (λ xs. slice_index xs j) c.deps-theirs.ensures.value in
    sym (some_site v (λ k. nat_lt (dep v k) (dep u k)) j (omega (arith, many, c.sites-j-end.ensures.value, c.loop-j-test.true))
    (less_at _ _ (omega (arith, mine, theirs, c.count.ensures, c.count-then-j-sites.ensures, c.if-count.true))))

pub returns : goal.returns
returns c =
    let v = c.args.v.now in
    let many = ap length c.deps-mine.ensures.value in
    sym (no_site v (λ j. nat_lt (dep v j) (dep c.args.u.now j)) (λ j l. c.loop-j.invariant j (omega (arith, many, c.sites-j-end.ensures.value, l))))
