use Rattle.rubis_world.proofs.Common.{refl, world_answers}
use Rattle.rubis_world.proofs.desk.WorldDeskService.answer_held.Goals as goal

pub returns-clause-keeps : goal.returns-clause-keeps
returns-clause-keeps g c = λ n more. (λ ending. refl, refl)

pub returns-clause-none : goal.returns-clause-none
unfolding world_answers
returns-clause-none g c = λ n. refl
