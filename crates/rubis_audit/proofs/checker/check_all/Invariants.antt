use Rattle.rubis_audit.proofs.Common.{◌≡◌, ◌≤◌, ℕ, List, Option, COUNTED_MAX}
use Rattle.rubis_audit.specs.Checking.{HasChecked}
use Rattle.rubis_audit.specs.declared.checker.Grammar.{Grammar}
use Rattle.rubis_audit.proofs.checker.check_all.Given as goal

-- as many records were checked as turns were made, and every check that stood at the beginning stands here
abbrev pub invariant-steps : goal.invariant-steps
invariant-steps g l = (l.check.checker.sites ≤ COUNTED_MAX) × (l.check.checker.tally.records ≡ l._checked)
    × (l.check.checker.tally.bad ≤ l.check.checker.tally.records)
    × ((grammar : Grammar) (sites : ℕ) (old : Option (List ℕ)) (all : List (List (List ℕ))) →
    HasChecked g.R.Read.remaining grammar sites l.fn.check old (g.W.Write.contents l.fn.writer) all
    → HasChecked g.R.Read.remaining grammar sites l.check old (g.W.Write.contents l.writer) all)
