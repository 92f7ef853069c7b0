use Rattle.rubis_world.proofs.Common.{append-nil, world_answers}
use Rattle.rubis_world.proofs.desk.WorldDeskService.answer_end.Goals as goal

pub returns-clause-text : goal.returns-clause-text
unfolding world_answers
returns-clause-text g c = λ n. append-nil c.args._reply.now.sink
