use Rattle.std.proofs.Common.{◌≡◌, ◌∙◌, ◌++◌, ◌==◌, [], ap, arith, length, refl, sym}
use Rattle.std.specs.Vec.{vec_len}
use Rattle.rubis_engine.proofs.RunFacts.{ends_on, ends_write}
use Rattle.rubis_keep.proofs.PutFacts.{answer-torn, empty-is, put-from, torn-from}
use Rattle.rubis_keep.specs.Outlets.{put-none, torn-none}
use Rattle.rubis_keep.proofs.answers.AnswersOutlet.answer.Goals as goal

pub returns-in_err-course-clause-answer : goal.returns-in_err-course-clause-answer
returns-in_err-course-clause-answer g c =
    ends_on _ _ c.from_residual.result c.in_err-course.field-0.0 c.from_residual.ensures absurd absurd
    (λ broke more. torn-from _ _ c.args.self.now _ _ refl refl (torn-none _ _)) c.in_err-course.ensures.answer

pub returns-then-is_empty-clause-answer : goal.returns-then-is_empty-clause-answer
returns-then-is_empty-clause-answer g c =
    let (wrote, leads) = c.in_ok-course.ensures.answer in
    let size : vec_len c.answer.new.writer ≡ length c.answer.new.writer.items = omega (arith, c.answer.new.writer.ok) in
    let none = empty-is _ (ap (λ n. n == 0) (sym size) ∙ sym c.is_empty.ensures ∙ c.if-is_empty.true) in (
      record {
        out = wrote.out;
        put = put-from [] wrote.out c.args.self.now _ _ refl (sym none ∙ wrote.appended ∙ ap (λ t. t ++ wrote.out) c.clear.ensures.items) (put-none _);
        answers = wrote.answers;
      },
      leads,
    )

pub returns-in_err-put_text-clause-answer : goal.returns-in_err-put_text-clause-answer
returns-in_err-put_text-clause-answer g c =
    let (wrote, leads) = c.in_ok-course.ensures.answer in
    ends_write _ _ _ c.from_residual-in_err-put_text.result c.in_err-put_text.field-0.0 c.from_residual-in_err-put_text.ensures
    c.in_err-put_text.ensures.faults
    (answer-torn c.in_ok-course.course _ _ _ wrote.out _ c.args.fields.now c.args.self.now c.put_text.new.self wrote.answers
    (torn-from _ wrote.out c.args.self.now _ c.put_text.new.self refl (wrote.appended ∙ ap (λ t. t ++ wrote.out) c.clear.ensures.items) c.in_err-put_text.ensures.err))

pub returns-clause-answer : goal.returns-clause-answer
returns-clause-answer g c =
    let (wrote, leads) = c.in_ok-course.ensures.answer in (
      record {
        out = wrote.out;
        put = put-from _ wrote.out c.args.self.now _ c.put_text.new.self refl (wrote.appended ∙ ap (λ t. t ++ wrote.out) c.clear.ensures.items) c.in_ok-put_text.ensures.ok;
        answers = wrote.answers;
      },
      leads,
    )
