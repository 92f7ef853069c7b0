use Rattle.std.proofs.lemmas.Result.{on_ok_weaker}
use Rattle.rubis_world.proofs.Answering.{event_refused, event_told}
use Rattle.rubis_world.proofs.desk.tell.Goals as goal

pub returns-in_ok-write_event-in-Ok : goal.returns-in_ok-write_event-in-Ok
returns-in_ok-write_event-in-Ok c = λ old e step.
    event_told old c.args.world.now c.args.reply.now.number c.args.site e c.in-Ok.happened c.packets.result.now c.args.reply.now.sink c.write_event.new.sink
    (rw c.in-Ok.is at step) c.packets.ensures.value c.in_ok-write_event-in-Ok.ensures

pub returns-in-Err : goal.returns-in-Err
returns-in-Err c =
    on_ok_weaker c.refuse.result
    (λ told old e step. event_refused old c.args.world.now c.args.reply.now.number c.args.site e c.in-Err.fault c.args.reply.now.sink
    c.refuse.new.reply.sink
    (rw c.in-Err.is at step) told) c.refuse.ensures
