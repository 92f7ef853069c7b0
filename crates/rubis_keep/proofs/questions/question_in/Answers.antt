use Rattle.rubis_keep.proofs.Common.{◌∙◌, Some, false, true, takes-at, input_records}
use Rattle.rubis_keep.proofs.AskFacts.{question-many, question-none, question-one}
use Rattle.rubis_keep.proofs.questions.question_in.Goals as goal

pub returns-then-not-branch : goal.returns-then-not-branch
returns-then-not-branch c =
    question-none (λ s. Some s.now) c.new-records.result c.advance.new.self c.args.sites (input_records c.args.text.now) c.new-records.ensures
    (takes-at _ c.new-records.result c.advance.new.self _ false c.if-not-branch.true c.in_ok-advance.ensures.takes)

pub returns-then-branch : goal.returns-then-branch
returns-then-branch c =
    question-many (λ s. Some s.now) c.new-records.result c.advance.new.self c.advance-2.new.self c.args.sites
    (input_records c.args.text.now) c.new-records.ensures
    (takes-at _ c.new-records.result c.advance.new.self _ true c.if-not-branch.false c.in_ok-advance.ensures.takes)
    (takes-at _ c.advance.new.self c.advance-2.new.self _ true c.if-branch.true c.in_ok-advance-2.ensures.takes)

pub returns : goal.returns
returns c =
    question-one (λ s. Some s.now) c.new-records.result c.advance.new.self c.advance-2.new.self c.args.sites
    (input_records c.args.text.now) c.new-records.ensures
    (takes-at _ c.new-records.result c.advance.new.self _ true c.if-not-branch.false c.in_ok-advance.ensures.takes)
    (takes-at _ c.advance.new.self c.advance-2.new.self _ false c.if-branch.false c.in_ok-advance-2.ensures.takes)
    (rw (c.in_ok-fields.ensures ∙ c.fields.ensures) at c.in_ok-read_question.ensures)
