use Rattle.std.proofs.Common.{refl}
use Rattle.rubis_keys.proofs.StepFacts.{came_refused}
use Rattle.rubis_keys.proofs.desk.KeyedDesk.receive.Goals as goal

pub returns-in_ok-answer_fault-in-Err-clause-came : goal.returns-in_ok-answer_fault-in-Err-clause-came
returns-in_ok-answer_fault-in-Err-clause-came g c =
    came_refused c.args.self.now _ c.args.reply.now.number c.args.key c.args.message c.in-Err.fault c.args.reply.now.sink
    c.answer_fault.new.reply.sink c.in-Err.ensures.step refl c.in_ok-answer_fault-in-Err.ensures
