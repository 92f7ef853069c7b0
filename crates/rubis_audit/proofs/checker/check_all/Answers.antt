use Rattle.rubis_audit.proofs.Common.{◌≡◌, false, rules, subst, if_ok_so}
use Rattle.rubis_audit.proofs.CheckFacts.{handed_on, if_err_so}
use Rattle.std.specs.Bool.{MatchBool}
use Rattle.rubis_audit.specs.Checking.{HasChecked, HasCheckedAll, OfEachCheck}
use Rattle.rubis_audit.proofs.checker.check_all.Goals as goal

pub check_next-requires : goal.check_next-requires
check_next-requires g c = record { few = c.steps.invariant.0; room = search rules; fewer = c.steps.invariant.2 }

pub returns-then-not-branch-clause-done : goal.returns-then-not-branch-clause-done
returns-then-not-branch-clause-done g c =
    let rem = g.R.Read.remaining in
    let contents = g.W.Write.contents in
    let new = c.check_next.new.self in
    let none : c.in_ok-check_next.field-0 ≡ false = search rules in
    let goes = subst (λ found. OfEachCheck rem c.steps.check (contents c.steps.writer) (λ grammar sites old all. MatchBool found
    (HasChecked rem grammar sites new old (contents c.check_next.new.writer) all)
    (HasCheckedAll grammar sites new.checker.tally new.sink old (contents c.check_next.new.writer) all))) none c.in_ok-check_next.ensures.goes in
    if_ok_so _ _ c.end.result
    (λ ended whole grammar sites old all h. whole grammar sites old all (goes grammar sites old all (c.steps.invariant.3 grammar sites old all h)))
    c.end.ensures.done

pub returns-then-not-branch-clause-broke : goal.returns-then-not-branch-clause-broke
returns-then-not-branch-clause-broke g c =
    let rem = g.R.Read.remaining in
    let contents = g.W.Write.contents in
    let new = c.check_next.new.self in
    let none : c.in_ok-check_next.field-0 ≡ false = search rules in
    let goes = subst (λ found. OfEachCheck rem c.steps.check (contents c.steps.writer) (λ grammar sites old all. MatchBool found
    (HasChecked rem grammar sites new old (contents c.check_next.new.writer) all)
    (HasCheckedAll grammar sites new.checker.tally new.sink old (contents c.check_next.new.writer) all))) none c.in_ok-check_next.ensures.goes in
    if_err_so _ _ c.end.result
    (λ ended whole grammar sites old all h. whole grammar sites old all (goes grammar sites old all (c.steps.invariant.3 grammar sites old all h)))
    c.end.ensures.broke

pub returns-clause-done : goal.returns-clause-done
returns-clause-done g c =
    if_ok_so _ _ c.stop.result (λ ended whole grammar sites old all h. whole grammar sites old all (c.steps.invariant.3 grammar sites old all h)) c.stop.ensures.done

pub returns-clause-broke : goal.returns-clause-broke
returns-clause-broke g c =
    if_err_so _ _ c.stop.result (λ ended whole grammar sites old all h. whole grammar sites old all (c.steps.invariant.3 grammar sites old all h)) c.stop.ensures.broke

pub returns-in_err-check_next-clause-broke : goal.returns-in_err-check_next-clause-broke
returns-in_err-check_next-clause-broke g c =
    handed_on _ c.from_residual.result _ c.from_residual.ensures (λ grammar sites old all h.
    c.in_err-check_next.ensures.broke grammar sites old all (c.steps.invariant.3 grammar sites old all h))
