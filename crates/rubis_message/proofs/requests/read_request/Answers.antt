use Rattle.std.proofs.Common.{arith}
use Rattle.rubis_message.proofs.Records.{none_read, request_read}
use Rattle.rubis_message.proofs.requests.read_request.Goals as goal

pub returns-clause-ok : goal.returns-clause-ok
returns-clause-ok g c = request_read c.args.sites (omega arith) (g.F.Record.fields c.args.fields.now) c.new.result c.request_left.result c.new.ensures
    c.request_left.ensures.some

pub returns-clause-bad : goal.returns-clause-bad
returns-clause-bad g c = none_read c.args.sites (omega arith) (g.F.Record.fields c.args.fields.now) c.new.result c.request_left.result c.new.ensures
    c.request_left.ensures.none
