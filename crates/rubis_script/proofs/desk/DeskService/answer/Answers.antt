use Rattle.rubis_message.specs.Inputs.{IsInput}
use Rattle.rubis_engine.proofs.RunFacts.{breaks-unwritten, ends_on}
use Rattle.rubis_script.proofs.Common.{subst}
use Rattle.rubis_script.specs.Desks.{left_at}
use Rattle.rubis_script.proofs.DeskFacts.{leads-on}
use Rattle.rubis_script.proofs.desk.DeskService.answer.Goals as goal

pub returns-in_default-clause-answer : goal.returns-in_default-clause-answer
returns-in_default-clause-answer g c =
    breaks-unwritten (left_at c.args.self.now c.args.reply.now.number) c.args.reply.now.sink c.args.fields.now (g.W.Write.contents c.args.writer.now)

pub returns-in_err-take-clause-answer : goal.returns-in_err-take-clause-answer
returns-in_err-take-clause-answer g c =
    let is = subst (λ n. IsInput n c.args.fields.now c.in-Ok.read) c.args.self.now.same c.in-Ok.ensures in
    ends_on _ _ c.from_residual.result c.in_err-take.field-0.0 c.from_residual.ensures absurd absurd
    (λ breaks. breaks c.args.fields.now is.means) c.in_err-take.ensures.takes

pub returns-clause-answer : goal.returns-clause-answer
returns-clause-answer g c =
    let took = c.in_ok-take.ensures.takes in
    let is = subst (λ n. IsInput n c.args.fields.now c.in-Ok.read) c.args.self.now.same c.in-Ok.ensures in
    (took.text c.args.fields.now is.means, leads-on c.args.self.now c.take.new.self c.args.reply.now.number c.args.fields.now c.in-Ok.read is.means took.leads)

pub returns-clause-same : goal.returns-clause-same
returns-clause-same g c = λ i. (c.in_ok-take.ensures.same.0 i, c.in_ok-take.ensures.same.1 i)

pub returns-in_err-take-clause-same : goal.returns-in_err-take-clause-same
returns-in_err-take-clause-same g c = λ i. (c.in_err-take.ensures.same.0 i, c.in_err-take.ensures.same.1 i)
