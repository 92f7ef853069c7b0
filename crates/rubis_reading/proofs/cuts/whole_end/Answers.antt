use Rattle.csv.specs.declared.parser.State.TheVariants as st
use Rattle.std.proofs.Common.{◌+◌, arith, subst}
use Rattle.rubis_reading.specs.Streams.{EndsFrom, NoEndAfter}
use Rattle.rubis_reading.proofs.EndFacts.{no-whole}
use Rattle.rubis_reading.proofs.CutFacts.{marked-whole}
use Rattle.rubis_reading.proofs.cuts.whole_end.Goals as goal

pub returns-then-end-gt0-clause-whole : goal.returns-then-end-gt0-clause-whole
returns-then-end-gt0-clause-whole c some =
    marked-whole c.args.text.now c.mark_len-mark.result c.look_on-end.result.end c.mark_len-mark.ensures.within c.if-end-gt0.true c.mark_len-mark.ensures.rest
    (subst (λ rest. EndsFrom st.StartRecord rest c.look_on-end.result.end) c.split_at.ensures.back (c.look_on-end.ensures.looked.found c.if-end-gt0.true))

pub returns-then-end-gt0-clause-last : goal.returns-then-end-gt0-clause-last
returns-then-end-gt0-clause-last c =
    let mark = c.mark_len-mark.result in
    let end = c.look_on-end.result.end in
    no-whole c.args.text.now mark end (mark + end) c.mark_len-mark.ensures.within c.mark_len-mark.ensures.rest
    (subst (λ rest. NoEndAfter st.StartRecord rest end) c.split_at.ensures.back c.look_on-end.ensures.all) (λ k after past. omega (arith, after, past))

pub returns-else-end-gt0-clause-last : goal.returns-else-end-gt0-clause-last
returns-else-end-gt0-clause-last c =
    let mark = c.mark_len-mark.result in
    let end = c.look_on-end.result.end in
    no-whole c.args.text.now mark end 0 c.mark_len-mark.ensures.within c.mark_len-mark.ensures.rest
    (subst (λ rest. NoEndAfter st.StartRecord rest end) c.split_at.ensures.back c.look_on-end.ensures.all)
    (λ k after past. omega (arith, c.if-end-gt0.false, past))
