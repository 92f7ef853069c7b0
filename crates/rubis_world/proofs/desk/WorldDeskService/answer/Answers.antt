use Rattle.rubis_world.proofs.Common.{◌+◌, GoesOn}
use Rattle.rubis_engine.proofs.RunFacts.{answers-waiting, breaks-unwritten, ends_memory}
use Rattle.rubis_world.specs.Running.{told_by_desk}
use Rattle.rubis_world.proofs.Answering.{world_goes}
use Rattle.rubis_world.proofs.desk.WorldDeskService.answer.Goals as goal

pub returns-in_err-respond-clause-answer : goal.returns-in_err-respond-clause-answer
returns-in_err-respond-clause-answer g c =
    ends_memory _ _ _ c.from_residual.result c.from_residual.ensures
    (breaks-unwritten (told_by_desk c.args.self.now c.args.reply.now.number) c.args.reply.now.sink c.args.fields.now (g.W.Write.contents c.args._writer.now))

pub returns-clause-answer : goal.returns-clause-answer
returns-clause-answer g c =
    let n = c.args.reply.now.number in
    let (answers, leads) = world_goes c.args.self.now.world c.respond.new.self.world n c.args.fields.now c.args.reply.now.sink
    c.respond.new.reply.sink c.in_ok-respond.ensures in (
      answers-waiting GoesOn (told_by_desk c.args.self.now n) (told_by_desk c.respond.new.self (n + 1)) c.args.reply.now.sink c.respond.new.reply.sink
          (g.W.Write.contents c.args._writer.now) c.args.fields.now answers,
      λ more last led. leads more last.world led,
    )
