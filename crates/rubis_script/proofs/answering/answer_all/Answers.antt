use Rattle.rubis_script.proofs.Common.{◌≡◌, ◌∙◌, ◌++◌, [], ap, append-nil, append_assoc, arith, length, length-append, refl, subst, sym, ends_on}
use Rattle.rubis_script.proofs.Common.{ends_write, flat, of_stretch, at, are_outlets}
use Rattle.rubis_serving.proofs.GoFacts.{goes-put, tears-waiting}
use Rattle.rubis_script.specs.Runs.{BreaksAhead, GoesAhead}
use Rattle.rubis_script.proofs.StretchFacts.{ahead-more, ahead-none, ahead-put, breaks-later, breaks-put, breaks-sooner, setup-on, sound-front, sound-kept}
use Rattle.rubis_script.proofs.answering.answer_all.Goals as goal

pub stretches-init : goal.stretches-init
stretches-init g c = record {
  sound = c.requires.sound;
  setup = (refl, refl);
  count = refl;
  goes = ([], refl, ahead-none g.W.Write.contents (at c.args.desk.now c.args.run.now c.args.writer.now));
}

pub answer_stretch-requires-clause-fits : goal.answer_stretch-requires-clause-fits
answer_stretch-requires-clause-fits g c κs within =
    (sound-front c.stretches.desk c.stretches.ahead c.next_stretch.new.self c.in-Some.stretch c.in-Some.ensures.parts c.stretches.invariant.sound).0

pub answer_stretch-requires-clause-window : goal.answer_stretch-requires-clause-window
answer_stretch-requires-clause-window g c κs within =
    (sound-front c.stretches.desk c.stretches.ahead c.next_stretch.new.self c.in-Some.stretch c.in-Some.ensures.parts c.stretches.invariant.sound).1

pub answer_stretch-requires-clause-room : goal.answer_stretch-requires-clause-room
answer_stretch-requires-clause-room g c κs within =
    let long = ap (λ l. length (flat l)) c.in-Some.ensures.parts ∙ length-append (of_stretch c.in-Some.stretch) (flat c.next_stretch.new.self) in
    let count = c.stretches.invariant.count in
    omega (arith, long, count, c.requires.room)

pub returns-in_err-answer_stretch-clause-same : goal.returns-in_err-answer_stretch-clause-same
returns-in_err-answer_stretch-clause-same g c =
    setup-on c.args.desk.now c.stretches.desk c.answer_stretch.new.desk c.stretches.invariant.setup c.in_err-answer_stretch.ensures.same

pub returns-in_err-answer_stretch-clause-answered : goal.returns-in_err-answer_stretch-clause-answered
returns-in_err-answer_stretch-clause-answered g c =
    let x = at c.args.desk.now c.args.run.now c.args.writer.now in
    let after = c.answer_stretch.new.writer in
    let contents = g.W.Write.contents in
    let stretch = of_stretch c.in-Some.stretch in
    let (done, parts, goes) = c.stretches.invariant.goes in
    ends_on _ _ c.from_residual.result c.in_err-answer_stretch.field-0.0 c.from_residual.ensures absurd absurd
    (λ breaks. subst (λ ps. BreaksAhead contents ps x after) (sym (parts ∙ ap (λ l. done ++ flat l) c.in-Some.ensures.parts))
    (breaks-later contents done (stretch ++ flat c.next_stretch.new.self) after c.stretches.invariant.setup goes
    (breaks-sooner contents stretch (flat c.next_stretch.new.self) breaks))) c.in_err-answer_stretch.ensures.answered

pub returns-in_err-put_full-clause-same : goal.returns-in_err-put_full-clause-same
returns-in_err-put_full-clause-same g c =
    setup-on c.args.desk.now c.stretches.desk c.answer_stretch.new.desk c.stretches.invariant.setup c.in_ok-answer_stretch.ensures.same

pub returns-in_err-put_full-clause-answered : goal.returns-in_err-put_full-clause-answered
returns-in_err-put_full-clause-answered g c =
    let x = at c.args.desk.now c.args.run.now c.args.writer.now in
    let y = at c.answer_stretch.new.desk c.answer_stretch.new.run c.answer_stretch.new.writer in
    let after = c.put_full.new.self in
    let contents = g.W.Write.contents in
    let stretch = of_stretch c.in-Some.stretch in
    let (done, parts, goes) = c.stretches.invariant.goes in
    ends_write _ _ _ c.from_residual-in_err-put_full.result c.in_err-put_full.field-0.0 c.from_residual-in_err-put_full.ensures
    c.in_err-put_full.ensures.faults
    (subst (λ ps. BreaksAhead contents ps x after) (sym (parts ∙ ap (λ l. done ++ flat l) c.in-Some.ensures.parts))
    (breaks-later contents done (stretch ++ flat c.next_stretch.new.self) after c.stretches.invariant.setup goes
    (breaks-sooner contents stretch (flat c.next_stretch.new.self)
    (breaks-put contents stretch c.in_ok-answer_stretch.ensures.answered.0 (tears-waiting (are_outlets contents) y after c.in_err-put_full.ensures.err)))))

pub stretches-preserved : goal.stretches-preserved
stretches-preserved g c =
    let i = c.stretches.invariant in
    let d = c.stretches.desk in
    let d2 = c.answer_stretch.new.desk in
    let rest = c.next_stretch.new.self in
    let stretch = c.in-Some.stretch in
    let contents = g.W.Write.contents in
    let front = sound-front d c.stretches.ahead rest stretch c.in-Some.ensures.parts i.sound in
    let (next, count) = c.in_ok-answer_stretch.ensures.answered in
    let long = ap (λ l. length (flat l)) c.in-Some.ensures.parts ∙ length-append (of_stretch stretch) (flat rest) in
    let before = i.count in
    let (done, parts, goes) = i.goes in
    record {
      sound = sound-kept d d2 rest c.in_ok-answer_stretch.ensures.same front.2;
      setup = setup-on c.args.desk.now d d2 i.setup c.in_ok-answer_stretch.ensures.same;
      count = omega (arith, long, count, before);
      goes = (
        done ++ of_stretch stretch,
        parts ∙ ap (λ l. done ++ flat l) c.in-Some.ensures.parts ∙ sym (append_assoc done (of_stretch stretch) (flat rest)),
        ahead-put contents (done ++ of_stretch stretch) (ahead-more contents done (of_stretch stretch) i.setup goes next)
            (goes-put (are_outlets contents) c.put_full.new.sink c.put_full.new.self c.in_ok-put_full.ensures.ok),
      );
    }

pub returns-clause-answered : goal.returns-clause-answered
returns-clause-answered g c =
    let i = c.stretches.invariant in
    let none : flat c.stretches.ahead ≡ [] = ap flat c.in_default.ensures.none in
    let size = ap length none in
    let count = i.count in
    let (done, parts, goes) = i.goes in (
      subst (λ ps. GoesAhead g.W.Write.contents ps (at c.args.desk.now c.args.run.now c.args.writer.now) (at c.stretches.desk c.stretches.run c.stretches.writer))
          (sym (parts ∙ ap (λ l. done ++ l) none ∙ append-nil done)) goes,
      omega (arith, count, size),
    )

pub returns-clause-same : goal.returns-clause-same
returns-clause-same g c = c.stretches.invariant.setup
