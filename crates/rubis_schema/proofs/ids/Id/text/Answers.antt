use Rattle.std.proofs.Common.{◌≡◌, rules}
use Rattle.rubis_schema.specs.Ids.{id_text}
use Rattle.rubis_schema.proofs.PlainRows.{id_plain}
use Rattle.rubis_schema.proofs.ids.Id.text.Goals as goal

pub returns-clause-plain : goal.returns-clause-plain
returns-clause-plain c =
    let text : c.put_number-2.new.self ≡ id_text c.args.self.now = search rules in
    rw text (id_plain c.args.self.now (rw c.from.ensures at c.put_number-2.ensures.plain) c.put_number.ensures.plain)
