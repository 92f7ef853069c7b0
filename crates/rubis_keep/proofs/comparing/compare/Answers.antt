use Rattle.rubis_keep.proofs.Common.{◌∙◌, drop, take, arith, subst, sym, length-take, take-append-le, Consumes}
use Rattle.rubis_keep.proofs.DifferenceFacts.{has-difference, may-differ-more}
use Rattle.rubis_keep.proofs.HistoryFacts.{consumes-front, differs-later, front-consumed}
use Rattle.rubis_keep.proofs.comparing.compare.Goals as goal

pub returns-then-not-is_same-clause-differs : goal.returns-then-not-is_same-clause-differs
returns-then-not-is_same-clause-differs g c =
    let buffer = c.read_through_signals.new.buf in
    let rest = drop c.min-most.result c.loop-turn.buffer in
    let came = sym (take-append-le c.in-Ok.given buffer rest c.in-Ok.ensures.bound.0) in
    let front = front-consumed _ _ _ _ _ c.loop-turn.invariant.1
    (subst (Consumes (g.O.Read.remaining c.loop-turn.before) (g.O.Read.remaining c.read_through_signals.new.reader)) came c.in-Ok.ensures.bytes.0) in
    may-differ-more c.differ.result _ _
    (λ d told. has-difference _ front
    (differs-later c.loop-turn.at c.in-Ok.given c.args.text.now _ c.loop-turn.invariant.0 (c.is_same.ensures.differ c.if-not-is_same.true)) told)
    c.differ.ensures

pub loop-turn-preserved : goal.loop-turn-preserved
loop-turn-preserved g c =
    let before = c.loop-turn.invariant in (
      omega (arith, length-take c.min-most.result c.loop-turn.buffer, c.read_through_signals.auto.buf, c.min-most.ensures, c.in-Ok.ensures.bound),
      consumes-front _ _ _ c.loop-turn.at c.in-Ok.given c.args.text.now _ before.1 c.in-Ok.ensures.bytes.0
          (sym (take-append-le _ _ _ c.in-Ok.ensures.bound.0) ∙ c.is_same.ensures.same c.if-not-is_same.false),
      omega (arith, before.2),
    )
