use Rattle.std.proofs.Common.{◌∙◌, ◌+◌, ◌-◌, ◌^◌, ap, drop, min, rules}
use Rattle.rubis_keep.specs.Turns.{CountsOn}
use Rattle.rubis_keep.proofs.DifferenceFacts.{only-fails}
use Rattle.rubis_keep.proofs.HistoryFacts.{err-is}
use Rattle.rubis_keep.proofs.PutFacts.{found-counted, none-found, puts-none, puts-told}
use Rattle.rubis_keep.proofs.answers.put.Given as given
use Rattle.rubis_keep.proofs.answers.put.Goals as goal
use Rattle.rubis_keep.proofs.answers.put.Goals.{After-tell_all, then-found-gt0, else-found-gt0}

pub returns-in_err-found-clause-put : goal.returns-in_err-found-clause-put
returns-in_err-found-clause-put g c = puts-none _ _ _ _ _ _ c.args.text.now c.from_residual.result c.from_residual.ensures.0

counted : (g : given.Over) (c : After-tell_all g) → CountsOn c.args.lines.now c.if-found-gt0.lines (drop c.in_ok-found.found c.args.text.now) c.args.text.now
counted g c = elim c.if-found-gt0.branch [
  | then-found-gt0 w ↦ found-counted c.args.lines.now c.if-found-gt0.lines c.in_ok-found.found c.args.text.now
      (w.lines-is ∙ w.saturating_add.ensures ∙ ap (λ n. min (c.args.lines.now + n) (2 ^ 64 - 1)) w.ends_in.ensures)
  | else-found-gt0 w ↦ none-found c.args.lines.now c.if-found-gt0.lines c.in_ok-found.found c.args.text.now w.lines-is (search rules)
]

pub returns-clause-put : goal.returns-clause-put
returns-clause-put g c = puts-told _ _ _ _ _ _ _ c.tell_all.result c.args.text.now c.in_ok-found.ensures.found (counted g c) c.tell_all.ensures.told

pub returns-in_err-found-clause-differs : goal.returns-in_err-found-clause-differs
returns-in_err-found-clause-differs g c = err-is _ _ c.from_residual.result _ c.from_residual.ensures.1 c.in_err-found.ensures.differs

pub returns-clause-differs : goal.returns-clause-differs
returns-clause-differs g c = only-fails c.tell_all.result _ c.tell_all.ensures.fault
