use Rattle.std.proofs.Common.{◌∙◌, ap, sym}
use Rattle.rubis_keep.specs.Questions.{question_in}
use Rattle.rubis_keep.proofs.questions.read_line.Goals as goal

pub returns-in-Some : goal.returns-in-Some
returns-in-Some c = c.in_ok-read_question.ensures ∙ ap (question_in c.args.sites) (sym (rw c.in-Some.is at c.in_ok-fields.ensures))
