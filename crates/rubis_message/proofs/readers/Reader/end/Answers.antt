use Rattle.std.proofs.Common.{◌<◌, length, arith}
use Rattle.rubis_message.proofs.Fields.{more_left}
use Rattle.rubis_message.proofs.readers.Reader.end.Goals as goal

pub returns-then-self-len : goal.returns-then-self-len
returns-then-self-len g c =
    let lt : c.self.inside.next < length (g.F.Record.fields c.self.inside.fields.now) = omega arith in
    more_left (g.F.Record.fields c.self.inside.fields.now) c.args.self.now c.self.inside.next lt c.self.view_is
