use Rattle.std.proofs.Common.{◌<◌, length, arith}
use Rattle.rubis_message.proofs.Fields.{next_field}
use Rattle.rubis_message.proofs.readers.Reader.field.Goals as goal

pub returns : goal.returns
returns g c =
    let lt : c.self.inside.next < length (g.F.Record.fields c.self.inside.fields.now) = omega arith in
    rw (c.ok_or.ensures.value, ← c.self.view_is)
    (next_field (g.F.Record.fields c.self.inside.fields.now) c.self.inside.next c.field-field.result lt c.field-field.ensures)
