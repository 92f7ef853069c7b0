use Rattle.rubis_script.proofs.Common.{Asked, ends_memory, ends_so}
use Rattle.rubis_message.specs.declared.requests.Request.TheVariants as request
use Rattle.rubis_script.proofs.DeskFacts.{front-flushed, listed-flushed, prefix-unwritten}
use Rattle.rubis_script.proofs.desk.Desk.list_out.Goals as goal

pub returns-in_err-flush-clause-listed : goal.returns-in_err-flush-clause-listed
returns-in_err-flush-clause-listed g c =
    ends_memory _ _ _ c.from_residual.result c.from_residual.ensures
    (prefix-unwritten (Asked (request.List c.args.listing.now)) c.args.reply.now.number c.args.self.now c.args.reply.now.sink
    (g.W.Write.contents c.args.writer.now))

pub returns-clause-listed : goal.returns-clause-listed
returns-clause-listed g c =
    let d = c.args.self.now in
    let mid = c.flush.new.self in
    let sink = c.args.reply.now.sink in
    let flushed = c.in_ok-flush.ensures in
    ends_so c.list_rows.result
    (λ v off. listed-flushed d mid _ c.args.listing.now c.args.reply.now.number sink c.flush.new.reply.sink c.list_rows.new.reply.sink _ _ flushed.same
    flushed.flushed flushed.empty c.list_rows.ensures.place c.list_rows.ensures.state flushed.empty (rw flushed.number at off)) absurd absurd
    (λ front. front-flushed d mid c.args.listing.now c.args.reply.now.number sink c.flush.new.reply.sink _ _ flushed.same flushed.flushed flushed.empty
    (rw flushed.number at front)) c.list_rows.ensures.listed
