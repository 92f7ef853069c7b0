use Rattle.std.proofs.Common.{◌∙◌, ◌==◌, ap, sym}
use Rattle.rubis_schema.proofs.PlainRows.{pieces-length}
use Rattle.rubis_schema.proofs.field_list.Fields.is_empty.Goals as goal

pub returns : goal.returns
returns c = rw (← c.self.view_is)
    (c.is_empty.ensures ∙ ap (λ n. n == 0) (c.self.inside.ends.ok.0 ∙ sym (pieces-length 0 c.self.inside.ends.items c.self.inside.text.items)))
