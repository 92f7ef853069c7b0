use Rattle.std.proofs.Common.{◌≡◌, ◌∙◌, ◌+◌, ◌++◌, ◌∷◌, [], ap, append-nil, append_assoc, arith, false, refl, rules, subst, sym, true}
use Rattle.std.specs.Prelude.{Some}
use Rattle.rubis_engine.specs.Reading.{Advances, fields_now}
use Rattle.rubis_engine.specs.Text.{input_records}
use Rattle.rubis_engine.specs.declared.service.Course.TheVariants as course
use Rattle.rubis_engine.proofs.RunFacts.{ends_on, ends_write}
use Rattle.rubis_serving.proofs.GoFacts.{closes-as, closes-one, closes-within, goes-as, goes-closes, goes-more, goes-none, goes-one, goes-put}
use Rattle.rubis_serving.proofs.GoFacts.{goes-tears, tears-as, tears-none, tears-sooner, tears-waiting}
use Rattle.rubis_serving.proofs.ServedFacts.{given-one}
use Rattle.rubis_serving.proofs.run.answer_piece.Goals as goal

pub records-init : goal.records-init
records-init g c = record {
  within = c.requires.within;
  same = refl;
  goes = ([], input_records c.args.text.now, refl, c.new-piece.ensures, goes-none g.met.O.Outlet.laws _);
}

pub returns-in_default-clause-answered : goal.returns-in_default-clause-answered
returns-in_default-clause-answered g c =
    let (done, left, parts, more, goes) = c.records.invariant.goes in
    tears-as (sym parts) (goes-tears g.met.O.Outlet.laws _ goes (tears-none g.met.O.Outlet.laws left _))

pub returns-then-not-found-clause-answered : goal.returns-then-not-found-clause-answered
returns-then-not-found-clause-answered g c =
    let none : c.in-Ok.found ≡ false = search rules in
    let takes = subst (λ found. Advances (λ s. Some s.now) c.records.piece c.advance.new.self found) none c.in-Ok.ensures.takes in
    let (done, left, parts, more, goes) = c.records.invariant.goes in
    (c.records.invariant.within, goes-as (sym (parts ∙ ap (λ l. done ++ l) (takes left more) ∙ append-nil done)) goes)

pub returns-in_err-settle-clause-answered : goal.returns-in_err-settle-clause-answered
returns-in_err-settle-clause-answered g c =
    let (done, left, parts, more, goes) = c.records.invariant.goes in
    ends_on _ _ c.from_residual.result c.in_err-settle.field-0.0 c.from_residual.ensures absurd absurd
    (λ torn. tears-as (sym parts) (goes-tears g.met.O.Outlet.laws _ goes (tears-sooner [] torn left))) c.in_err-settle.ensures.settled

pub returns-then-run-limit-clause-answered : goal.returns-then-run-limit-clause-answered
returns-then-run-limit-clause-answered g c =
    let some : c.in-Ok.found ≡ true = search rules in
    let takes = subst (λ found. Advances (λ s. Some s.now) c.records.piece c.advance.new.self found) some c.in-Ok.ensures.takes in
    let (done, left, parts, more, goes) = c.records.invariant.goes in
    let (rest, split, others) = given-one (λ s. Some s.now) c.records.piece c.advance.new.self done takes refl parts more in
    let (held, settled) = c.in_ok-settle.ensures.settled in
    let count = held.count in
    record {
      front = done;
      next = fields_now c.advance.new.self;
      rest = rest;
      parts = split;
      goes = goes-as (append-nil done) (goes-more g.met.O.Outlet.laws goes held);
      settled = settled;
      full = omega (arith, c.records.invariant.within, c.if-run-limit.true, count);
      some = λ later. g.met.S.Service.reads_next c.settle.new.service (c.settle.new.run.answered + 1) (fields_now c.advance.new.self) later;
    }

pub returns-in_err-course-clause-answered : goal.returns-in_err-course-clause-answered
returns-in_err-course-clause-answered g c =
    let laws = g.met.O.Outlet.laws in
    let some : c.in-Ok.found ≡ true = search rules in
    let takes = subst (λ found. Advances (λ s. Some s.now) c.records.piece c.advance.new.self found) some c.in-Ok.ensures.takes in
    let (done, left, parts, more, goes) = c.records.invariant.goes in
    let (rest, split, others) = given-one (λ s. Some s.now) c.records.piece c.advance.new.self done takes c.fields.ensures parts more in
    ends_on _ _ c.from_residual-in_err-course.result c.in_err-course.field-0.0 c.from_residual-in_err-course.ensures absurd absurd
    (λ torn. tears-as (sym split) (goes-tears laws c.answer.new.self goes (tears-sooner (c.fields.result.now ∷ []) (record { torn = torn }) rest)))
    c.in_err-course.ensures.answer

pub returns-in_err-put_all-in-Ends-clause-answered : goal.returns-in_err-put_all-in-Ends-clause-answered
returns-in_err-put_all-in-Ends-clause-answered g c =
    let laws = g.met.O.Outlet.laws in
    let some : c.in-Ok.found ≡ true = search rules in
    let takes = subst (λ found. Advances (λ s. Some s.now) c.records.piece c.advance.new.self found) some c.in-Ok.ensures.takes in
    let (done, left, parts, more, goes) = c.records.invariant.goes in
    let (rest, split, others) = given-one (λ s. Some s.now) c.records.piece c.advance.new.self done takes c.fields.ensures parts more in
    let ends : c.in_ok-course.course ≡ course.Ends = c.in-Ends.is in
    let (wrote, leads) = rw ends at c.in_ok-course.ensures.answer in
    ends_write _ _ _ c.from_residual-in_err-put_all-in-Ends.result c.in_err-put_all-in-Ends.field-0.0 c.from_residual-in_err-put_all-in-Ends.ensures
    c.in_err-put_all-in-Ends.ensures.faults
    (tears-as (sym split) (goes-tears laws c.put_all.new.self goes (tears-sooner (c.fields.result.now ∷ []) (record {
      torn = λ more. subst (λ t. g.O.Outlet.tears t c.records.outlet c.put_all.new.self) (sym (wrote.answers more).0)
          (laws.torn_later wrote.out c.answer.new.reply.sink _ _ _ wrote.put c.in_err-put_all-in-Ends.ensures.err);
    }) rest)))

pub returns-in-Ends-clause-answered : goal.returns-in-Ends-clause-answered
returns-in-Ends-clause-answered g c later =
    let laws = g.met.O.Outlet.laws in
    let some : c.in-Ok.found ≡ true = search rules in
    let takes = subst (λ found. Advances (λ s. Some s.now) c.records.piece c.advance.new.self found) some c.in-Ok.ensures.takes in
    let (done, left, parts, more, goes) = c.records.invariant.goes in
    let (rest, split, others) = given-one (λ s. Some s.now) c.records.piece c.advance.new.self done takes c.fields.ensures parts more in
    let ends : c.in_ok-course.course ≡ course.Ends = c.in-Ends.is in
    let (wrote, leads) = rw ends at c.in_ok-course.ensures.answer in
    closes-as (sym (ap (λ r. r ++ later) split ∙ append_assoc done (c.fields.result.now ∷ rest) later))
    (goes-closes laws goes (closes-within (omega (arith, c.if-run-limit.false))
    (closes-one laws c.answer.new.service c.answer.new.reply.sink c.answer.new.self c.put_all.new.self c.fields.result.now wrote leads
    c.in_ok-put_all-in-Ends.ensures.ok (rest ++ later))))

pub returns-in_err-put_full-in-GoesOn-clause-answered : goal.returns-in_err-put_full-in-GoesOn-clause-answered
returns-in_err-put_full-in-GoesOn-clause-answered g c =
    let laws = g.met.O.Outlet.laws in
    let some : c.in-Ok.found ≡ true = search rules in
    let takes = subst (λ found. Advances (λ s. Some s.now) c.records.piece c.advance.new.self found) some c.in-Ok.ensures.takes in
    let (done, left, parts, more, goes) = c.records.invariant.goes in
    let (rest, split, others) = given-one (λ s. Some s.now) c.records.piece c.advance.new.self done takes c.fields.ensures parts more in
    let on : c.in_ok-course.course ≡ course.GoesOn = c.in-GoesOn.is in
    let (wrote, leads) = rw on at c.in_ok-course.ensures.answer in
    ends_write _ _ _ c.from_residual-in_err-put_full-in-GoesOn.result c.in_err-put_full-in-GoesOn.field-0.0
    c.from_residual-in_err-put_full-in-GoesOn.ensures c.in_err-put_full-in-GoesOn.ensures.faults
    (tears-as (sym split) (goes-tears laws c.put_full.new.self goes (tears-sooner (c.fields.result.now ∷ []) (goes-tears laws c.put_full.new.self
    (goes-one laws c.answer.new.service c.answer.new.reply.sink c.answer.new.self c.fields.result.now wrote leads)
    (tears-waiting laws _ c.put_full.new.self c.in_err-put_full-in-GoesOn.ensures.err)) rest)))

pub records-preserved : goal.records-preserved
records-preserved g c =
    let laws = g.met.O.Outlet.laws in
    let some : c.in-Ok.found ≡ true = search rules in
    let takes = subst (λ found. Advances (λ s. Some s.now) c.records.piece c.advance.new.self found) some c.in-Ok.ensures.takes in
    let (done, left, parts, more, goes) = c.records.invariant.goes in
    let (rest, split, others) = given-one (λ s. Some s.now) c.records.piece c.advance.new.self done takes c.fields.ensures parts more in
    let on : c.in_ok-course.course ≡ course.GoesOn = c.in-GoesOn.is in
    let (wrote, leads) = rw on at c.in_ok-course.ensures.answer in
    record {
      within = omega (arith, c.if-run-limit.false);
      same = c.in_ok-course.ensures.same ∙ c.records.invariant.same;
      goes = (
        done ++ c.fields.result.now ∷ [],
        rest,
        split ∙ sym (append_assoc done (c.fields.result.now ∷ []) rest),
        others,
        goes-more laws goes (goes-more laws (goes-one laws c.answer.new.service c.answer.new.reply.sink c.answer.new.self c.fields.result.now wrote leads)
            (goes-put laws c.put_full.new.sink c.put_full.new.self c.in_ok-put_full-in-GoesOn.ensures.ok)),
      );
    }

pub records-smaller : goal.records-smaller
records-smaller g c =
    let some : c.in-Ok.found ≡ true = search rules in
    let (done, left, parts, more, goes) = c.records.invariant.goes in
    c.in-Ok.ensures.nearer some left more
