use Rattle.rubis_script.proofs.Common.{◌≡◌, ◌∙◌, ap, rules, subst, sym, ends_memory, ends_so}
use Rattle.rubis_message.specs.declared.inputs.Input.TheVariants as input
use Rattle.rubis_message.specs.declared.requests.Request.TheVariants as request
use Rattle.rubis_message.specs.declared.tokens.Packet.TheVariants as Packet
use Rattle.rubis_script.specs.Desks.{TakesNext, WritesNext, WritesPrefixFrom}
use Rattle.rubis_script.specs.Inputs.{IsAnswered}
use Rattle.rubis_script.proofs.DeskFacts.{next-flushed, next-waiting, prefix-unwritten}
use Rattle.rubis_script.proofs.desk.Desk.take.Goals as goal

pub returns-in-Asked-List-clause-takes : goal.returns-in-Asked-List-clause-takes
returns-in-Asked-List-clause-takes g c =
    let n = c.args.reply.now.number in
    let sink = c.args.reply.now.sink in
    let before = g.W.Write.contents c.args.writer.now in
    let after = g.W.Write.contents c.list_out.new.writer in
    let whole : c.args.read ≡ input.Asked (request.List c.in-Asked-List.listing) = search rules in
    ends_so c.list_out.result
    (λ v next. subst (λ i. WritesNext i n c.args.self.now c.list_out.new.self sink c.list_out.new.reply.sink before after) (sym whole) next) absurd absurd
    (λ front. subst (λ i. WritesPrefixFrom i n c.args.self.now sink before after) (sym whole) front) c.list_out.ensures.listed

pub returns-in_err-hold_next-in-Came-Msg-clause-takes : goal.returns-in_err-hold_next-in-Came-Msg-clause-takes
returns-in_err-hold_next-in-Came-Msg-clause-takes g c =
    ends_memory _ _ _ c.from_residual-in_err-hold_next-in-Came-Msg.result c.from_residual-in_err-hold_next-in-Came-Msg.ensures
    (prefix-unwritten c.args.read c.args.reply.now.number c.args.self.now c.args.reply.now.sink (g.W.Write.contents c.args.writer.now))

pub returns-in_ok-hold_next-in-Came-Msg-clause-takes : goal.returns-in_ok-hold_next-in-Came-Msg-clause-takes
returns-in_ok-hold_next-in-Came-Msg-clause-takes g c =
    let n = c.args.reply.now.number in
    let whole : c.args.read ≡ input.Came (Packet.Msg c.in-Came-Msg.message) = c.in-Came-Msg.is ∙ ap input.Came c.in-Came-Msg.field-0-is in
    next-waiting c.args.read n c.args.self.now c.hold_next.new.self c.args.reply.now.sink c.hold_next.new.reply.sink
    (g.W.Write.contents c.args.writer.now)
    (subst (λ i. TakesNext i n c.args.self.now c.hold_next.new.self c.args.reply.now.sink c.hold_next.new.reply.sink) (sym whole)
    c.in_ok-hold_next-in-Came-Msg.ensures.takes)

pub returns-in_err-flush-in-Asked-Ask-clause-takes : goal.returns-in_err-flush-in-Asked-Ask-clause-takes
returns-in_err-flush-in-Asked-Ask-clause-takes g c =
    ends_memory _ _ _ c.from_residual.result c.from_residual.ensures
    (prefix-unwritten c.args.read c.args.reply.now.number c.args.self.now c.args.reply.now.sink (g.W.Write.contents c.args.writer.now))

pub returns-in_err-answer_ask-in-Asked-Ask-clause-takes : goal.returns-in_err-answer_ask-in-Asked-Ask-clause-takes
returns-in_err-answer_ask-in-Asked-Ask-clause-takes g c =
    ends_memory _ _ _ c.from_residual-in_err-answer_ask-in-Asked-Ask.result c.from_residual-in_err-answer_ask-in-Asked-Ask.ensures
    (prefix-unwritten c.args.read c.args.reply.now.number c.args.self.now c.args.reply.now.sink (g.W.Write.contents c.args.writer.now))

pub returns-in_ok-answer_ask-in-Asked-Ask-clause-takes : goal.returns-in_ok-answer_ask-in-Asked-Ask-clause-takes
returns-in_ok-answer_ask-in-Asked-Ask-clause-takes g c =
    let flushed = c.in_ok-flush-in-Asked-Ask.ensures in
    let d = c.args.self.now in
    let mid = c.flush.new.self in
    let n = c.args.reply.now.number in
    let whole : c.args.read ≡ input.Asked (request.Ask c.in-Asked-Ask.ask) = search rules in
    next-waiting c.args.read n d _ c.args.reply.now.sink c.answer_ask.new.reply.sink (g.W.Write.contents c.args.writer.now)
    (next-flushed d mid _ c.args.read n c.args.reply.now.sink c.flush.new.reply.sink c.answer_ask.new.reply.sink flushed.same flushed.flushed
    flushed.empty c.answer_ask.ensures.place
    (subst (λ k. IsAnswered k c.args.read mid.site c.answer_ask.new.site c.flush.new.reply.sink c.answer_ask.new.reply.sink) flushed.number
    (subst (λ r. IsAnswered c.flush.new.reply.number r mid.site c.answer_ask.new.site c.flush.new.reply.sink c.answer_ask.new.reply.sink) (sym whole)
    c.in_ok-answer_ask-in-Asked-Ask.ensures.answered))
    flushed.empty)

pub returns-in_err-flush-in_default-clause-takes : goal.returns-in_err-flush-in_default-clause-takes
returns-in_err-flush-in_default-clause-takes g c =
    ends_memory _ _ _ c.from_residual-in_err-flush-in_default.result c.from_residual-in_err-flush-in_default.ensures
    (prefix-unwritten c.args.read c.args.reply.now.number c.args.self.now c.args.reply.now.sink (g.W.Write.contents c.args.writer.now))

pub returns-in_err-answer-in_default-clause-takes : goal.returns-in_err-answer-in_default-clause-takes
returns-in_err-answer-in_default-clause-takes g c =
    ends_memory _ _ _ c.from_residual-in_err-answer-in_default.result c.from_residual-in_err-answer-in_default.ensures
    (prefix-unwritten c.args.read c.args.reply.now.number c.args.self.now c.args.reply.now.sink (g.W.Write.contents c.args.writer.now))

pub returns-in_ok-answer-in_default-clause-takes : goal.returns-in_ok-answer-in_default-clause-takes
returns-in_ok-answer-in_default-clause-takes g c =
    let flushed = c.in_ok-flush-in_default.ensures in
    let d = c.args.self.now in
    let mid = c.flush-in_default.new.self in
    let n = c.args.reply.now.number in
    let same : c.in_default-1.read ≡ c.args.read = search rules in
    next-waiting c.args.read n d _ c.args.reply.now.sink c.answer.new.reply.sink (g.W.Write.contents c.args.writer.now)
    (next-flushed d mid _ c.args.read n c.args.reply.now.sink c.flush-in_default.new.reply.sink c.answer.new.reply.sink flushed.same flushed.flushed
    flushed.empty c.answer.ensures.place
    (subst (λ k. IsAnswered k c.args.read mid.site c.answer.new.site c.flush-in_default.new.reply.sink c.answer.new.reply.sink) flushed.number
    (subst (λ r. IsAnswered c.flush-in_default.new.reply.number r mid.site c.answer.new.site c.flush-in_default.new.reply.sink c.answer.new.reply.sink) same
    c.in_ok-answer-in_default.ensures.answered))
    flushed.empty)
