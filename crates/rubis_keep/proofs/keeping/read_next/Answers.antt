use Rattle.std.proofs.Common.{◌∙◌, ap, drop, subst, take}
use Rattle.rubis_keep.specs.Lines.{CutsLines}
use Rattle.rubis_keep.proofs.LeftFacts.{came-or-ended, drop-none, left-end, left-taken, taken-some}
use Rattle.rubis_keep.proofs.keeping.read_next.Goals as goal

pub returns-clause-reads : goal.returns-clause-reads
returns-clause-reads g c =
    let piece = c.fill.new.self in
    let n = c.in_ok-cut.cut.taken in
    record {
      bytes = take n piece;
      taken = rw c.pass.ensures (left-taken piece n _ _ c.in_ok-more.ensures.same);
      cuts = λ line h. subst (λ k. CutsLines c.args.asks line (take n piece) c.take.new.self k c.take.new.kept.items c.in_ok-cut.cut.is_asked c.take.new.question.items)
          c.clear.ensures.items (rw c.bytes.ensures at (c.in_ok-cut.ensures.cut line h));
      asks_it = c.in_ok-cut.ensures.asks;
    }

pub returns-clause-end : goal.returns-clause-end
returns-clause-end g c =
    let piece = c.fill.new.self in
    let n = c.in_ok-cut.cut.taken in
    let bound = rw c.bytes.ensures at c.in_ok-cut.ensures.bound in
    came-or-ended c.in_ok-more.more _ _ (take n piece) (rw c.pass.ensures (left-taken piece n _ _ c.in_ok-more.ensures.same))
    (λ e. let some = c.in_ok-more.ensures.more e in taken-some piece n some (bound.2 some))
    (λ e. let none = c.in_ok-more.ensures.end e in rw c.pass.ensures (left-end _ (ap (drop n) none.0 ∙ drop-none n) none.1))
