use Rattle.rubis_audit.proofs.Common.{◌≡◌, ◌≤◌, ◌∙◌, [], ap, arith, false, inl, inr, true, refl, rules, subst, sym, Option, Some, None, ReadsNext}
use Rattle.rubis_audit.specs.Checking.{CountsNext, HasChecked, HasCheckedAll, checker_after, fault_for, recent, tally_for}
use Rattle.rubis_audit.specs.declared.checker.Tally.{Tally}
use Rattle.rubis_audit.specs.declared.record_faults.RecordFault.{RecordFault}
use Rattle.csv.proofs.WriteFacts.{appends-none}
use Rattle.rubis_audit.proofs.CheckFacts.{breaks, drained, handed_on, none_more, one_more}
use Rattle.rubis_engine.specs.Progress.{AppendsFront}
use Rattle.rubis_audit.proofs.checker.Check.check_next.Goals as goal

-- one record more, with a fault or without
one_counted : (t : Tally) (fault : Option RecordFault) → t.bad ≤ t.records → CountsNext true t (tally_for t fault)
one_counted t None fewer = record { counted = λ found. refl; fewer = omega arith }
one_counted t (Some fault) fewer = record { counted = λ found. refl; fewer = omega arith }

pub returns-else-is_full-clause-counted : goal.returns-else-is_full-clause-counted
returns-else-is_full-clause-counted g c =
    let was = c.args.self.now.checker in
    let row = c.advance.new.self.records.row in
    let state = c.in_ok-check_row.ensures.checks.checker ∙ ap (λ k. checker_after k row) c.in_ok-advance.ensures.checker in
    subst (λ k. CountsNext true was.tally k.tally) (sym state) (one_counted was.tally (fault_for was.grammar was.sites was.place row) c.requires.fewer)

pub returns-in_ok-drain-clause-counted : goal.returns-in_ok-drain-clause-counted
returns-in_ok-drain-clause-counted g c =
    let was = c.args.self.now.checker in
    let row = c.advance.new.self.records.row in
    let state = c.in_ok-check_row.ensures.checks.checker ∙ ap (λ k. checker_after k row) c.in_ok-advance.ensures.checker in
    subst (λ k. CountsNext true was.tally k.tally) (sym state) (one_counted was.tally (fault_for was.grammar was.sites was.place row) c.requires.fewer)

pub returns-then-not-branch-clause-goes : goal.returns-then-not-branch-clause-goes
returns-then-not-branch-clause-goes g c =
    let rem = g.R.Read.remaining in
    let was = c.args.self.now in
    let new = c.advance.new.self in
    let kept = c.in_ok-advance.ensures.kept in
    let none : c.in_ok-advance.field-0 ≡ false = search rules in
    let takes : ReadsNext (recent rem) was.records.reader new.records.reader false new.records.row =
    subst (λ b. ReadsNext (recent rem) was.records.reader new.records.reader b new.records.row) none c.in_ok-advance.ensures.takes in
    λ grammar sites old all h.
    subst (λ w. HasCheckedAll grammar sites new.checker.tally new.sink old (g.W.Write.contents w) all) (sym kept.1)
    (none_more rem grammar sites was new old (g.W.Write.contents c.args.writer.now) all h takes c.in_ok-advance.ensures.checker kept.0)

pub returns-else-is_full-clause-goes : goal.returns-else-is_full-clause-goes
returns-else-is_full-clause-goes g c =
    let rem = g.R.Read.remaining in
    let was = c.args.self.now in
    let new = c.advance.new.self in
    let last = c.check_row.new.self in
    let kept = c.in_ok-advance.ensures.kept in
    let row = c.in_ok-check_row.ensures in
    let some : c.in_ok-advance.field-0 ≡ true = search rules in
    let takes : ReadsNext (recent rem) was.records.reader new.records.reader true new.records.row =
    subst (λ b. ReadsNext (recent rem) was.records.reader new.records.reader b new.records.row) some c.in_ok-advance.ensures.takes in
    λ grammar sites old all h.
    subst (λ w. HasChecked rem grammar sites last old (g.W.Write.contents w) all) (sym kept.1)
    (one_more rem grammar sites was new last old (g.W.Write.contents c.args.writer.now) all h takes c.in_ok-advance.ensures.checker kept.0 row.records
    row.checks.checker row.checks.rows)

pub returns-in_ok-drain-clause-goes : goal.returns-in_ok-drain-clause-goes
returns-in_ok-drain-clause-goes g c =
    let rem = g.R.Read.remaining in
    let was = c.args.self.now in
    let new = c.advance.new.self in
    let last = c.check_row.new.self in
    let kept = c.in_ok-advance.ensures.kept in
    let row = c.in_ok-check_row.ensures in
    let some : c.in_ok-advance.field-0 ≡ true = search rules in
    let takes : ReadsNext (recent rem) was.records.reader new.records.reader true new.records.row =
    subst (λ b. ReadsNext (recent rem) was.records.reader new.records.reader b new.records.row) some c.in_ok-advance.ensures.takes in
    λ grammar sites old all h.
    drained rem grammar sites last _ old (g.W.Write.contents c.advance.new.writer) all
    (subst (λ w. HasChecked rem grammar sites last old (g.W.Write.contents w) all) (sym kept.1)
    (one_more rem grammar sites was new last old (g.W.Write.contents c.args.writer.now) all h takes c.in_ok-advance.ensures.checker kept.0 row.records
    row.checks.checker row.checks.rows))
    (g.W.Write.contents c.drain.new.writer) c.in_ok-drain.ensures.ok refl refl c.in_ok-drain.ensures.empty

pub returns-in_err-check_row-clause-broke : goal.returns-in_err-check_row-clause-broke
returns-in_err-check_row-clause-broke g c =
    let was = c.args.self.now in
    let contents = g.W.Write.contents in
    let none : AppendsFront (contents c.args.writer.now) (contents c.advance.new.writer) was.sink =
    subst (λ w. AppendsFront (contents c.args.writer.now) (contents w) was.sink) (sym c.in_ok-advance.ensures.kept.1) ([], was.sink, appends-none _, refl) in
    handed_on _ c.from_residual-in_err-check_row.result _ c.from_residual-in_err-check_row.ensures (λ grammar sites old all h.
    breaks g.R.Read.remaining grammar sites was was old _ all h _ _ (inl refl) none)

pub returns-in_err-drain-clause-broke : goal.returns-in_err-drain-clause-broke
returns-in_err-drain-clause-broke g c =
    let rem = g.R.Read.remaining in
    let was = c.args.self.now in
    let new = c.advance.new.self in
    let last = c.check_row.new.self in
    let kept = c.in_ok-advance.ensures.kept in
    let row = c.in_ok-check_row.ensures in
    let some : c.in_ok-advance.field-0 ≡ true = search rules in
    let takes : ReadsNext (recent rem) was.records.reader new.records.reader true new.records.row =
    subst (λ b. ReadsNext (recent rem) was.records.reader new.records.reader b new.records.row) some c.in_ok-advance.ensures.takes in
    handed_on _ c.from_residual-in_err-drain.result _ c.from_residual-in_err-drain.ensures (λ grammar sites old all h.
    breaks rem grammar sites last last old (g.W.Write.contents c.advance.new.writer) all
    (subst (λ w. HasChecked rem grammar sites last old (g.W.Write.contents w) all) (sym kept.1)
    (one_more rem grammar sites was new last old (g.W.Write.contents c.args.writer.now) all h takes c.in_ok-advance.ensures.checker kept.0 row.records
    row.checks.checker row.checks.rows)) _ _ (inr c.in_err-drain.ensures.faults) c.in_err-drain.ensures.err)
