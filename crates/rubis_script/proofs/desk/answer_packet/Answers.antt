use Rattle.rubis_script.proofs.Common.{subst, sym, on_ok_weaker, Came}
use Rattle.rubis_script.specs.Inputs.{IsAnswered}
use Rattle.rubis_script.proofs.WindowFacts.{arrived_refused}
use Rattle.rubis_script.proofs.desk.answer_packet.Goals as goal

pub returns-in-Err-clause-answered : goal.returns-in-Err-clause-answered
returns-in-Err-clause-answered g c =
    let n = c.args.reply.now.number in
    let old = c.args.site.now in
    let new = c.arrive.new.self in
    let before = c.args.reply.now.sink in
    let after = c.answer_fault.new.reply.sink in
    on_ok_weaker c.answer_fault.result (λ refused. subst (λ p. IsAnswered n (Came p) old new before after) (sym c.in-Msg.is)
    (arrived_refused old new n c.in-Msg.message c.in-Err.fault before after c.in-Err.ensures.step refused)) c.answer_fault.ensures
