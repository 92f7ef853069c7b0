use Rattle.rubis_replica.proofs.Trying.{answers_as_without_refusals, answers_the_same_again}
use Rattle.rubis_replica.proofs.tries.refused_memory_changes_no_answer.Goals as goal

pub returns-clause-answers : goal.returns-clause-answers
returns-clause-answers c = answers_as_without_refusals

pub returns-clause-again : goal.returns-clause-again
returns-clause-again c = answers_the_same_again
