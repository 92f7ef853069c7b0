use Rattle.rubis_audit.proofs.Common.{◌≡◌, false, inr, rules, subst, sym, true, Appends, ReadsNext, if_ok_so}
use Rattle.rubis_engine.specs.Progress.{AppendsFront}
use Rattle.rubis_audit.specs.Checking.{HasCheckedAll, recent}
use Rattle.rubis_audit.proofs.CheckFacts.{breaks, handed_on, if_err_so, is_too_long, none_more}
use Rattle.rubis_audit.proofs.checker.Check.stop.Goals as goal

pub returns-clause-done : goal.returns-clause-done
returns-clause-done g c =
    let rem = g.R.Read.remaining in
    let was = c.args.self.now in
    let new = c.advance.new.self in
    let contents = g.W.Write.contents in
    let kept = c.in_ok-advance.ensures.kept in
    let takes : ReadsNext (recent rem) was.records.reader new.records.reader false new.records.row =
    subst (λ b. ReadsNext (recent rem) was.records.reader new.records.reader b new.records.row) c.if-branch.false c.in_ok-advance.ensures.takes in
    if_ok_so _ _ c.end.result (λ tally whole grammar sites old all h.
    whole grammar sites old all
    (subst (λ w. HasCheckedAll grammar sites new.checker.tally new.sink old (contents w) all) (sym kept.1)
    (none_more rem grammar sites was new old (contents c.args.writer.now) all h takes c.in_ok-advance.ensures.checker kept.0))) c.end.ensures.done

pub returns-clause-broke : goal.returns-clause-broke
returns-clause-broke g c =
    let rem = g.R.Read.remaining in
    let was = c.args.self.now in
    let new = c.advance.new.self in
    let contents = g.W.Write.contents in
    let kept = c.in_ok-advance.ensures.kept in
    let takes : ReadsNext (recent rem) was.records.reader new.records.reader false new.records.row =
    subst (λ b. ReadsNext (recent rem) was.records.reader new.records.reader b new.records.row) c.if-branch.false c.in_ok-advance.ensures.takes in
    if_err_so _ _ c.end.result (λ fault part grammar sites old all h.
    part grammar sites old all
    (subst (λ w. HasCheckedAll grammar sites new.checker.tally new.sink old (contents w) all) (sym kept.1)
    (none_more rem grammar sites was new old (contents c.args.writer.now) all h takes c.in_ok-advance.ensures.checker kept.0))) c.end.ensures.broke

pub returns-in_err-close-clause-broke : goal.returns-in_err-close-clause-broke
returns-in_err-close-clause-broke g c =
    let was = c.args.self.now in
    let contents = g.W.Write.contents in
    let kept = c.in_ok-advance.ensures.kept in
    let front = subst (λ w. AppendsFront (contents w) (contents c.close.new.writer) was.sink) kept.1
    (subst (AppendsFront (contents c.advance.new.writer) (contents c.close.new.writer)) kept.0 c.in_err-close.ensures.err) in
    handed_on _ c.from_residual-in_err-close.result _ c.from_residual-in_err-close.ensures (λ grammar sites old all h.
    breaks g.R.Read.remaining grammar sites was was old _ all h _ _ (inr c.in_err-close.ensures.faults) front)

pub returns-then-branch-clause-broke : goal.returns-then-branch-clause-broke
returns-then-branch-clause-broke g c =
    let rem = g.R.Read.remaining in
    let was = c.args.self.now in
    let new = c.advance.new.self in
    let contents = g.W.Write.contents in
    let kept = c.in_ok-advance.ensures.kept in
    let some : c.in_ok-advance.field-0 ≡ true = search rules in
    let takes : ReadsNext (recent rem) was.records.reader new.records.reader true new.records.row =
    subst (λ b. ReadsNext (recent rem) was.records.reader new.records.reader b new.records.row) some c.in_ok-advance.ensures.takes in
    let wrote = subst (λ w. Appends (contents w) (contents c.close.new.writer) was.sink) kept.1
    (subst (Appends (contents c.advance.new.writer) (contents c.close.new.writer)) kept.0 c.in_ok-close.ensures.ok) in
    λ grammar sites old all h. is_too_long rem grammar sites was was old _ all h _ new.records.reader new.records.row takes c.requires wrote
