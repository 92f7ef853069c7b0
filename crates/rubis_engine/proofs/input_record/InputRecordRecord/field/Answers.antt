use Rattle.std.proofs.Common.{◌∙◌, ap, slice_get}
use Rattle.csv.specs.Records.{fields_of}
use Rattle.rubis_engine.proofs.RunFacts.{field_at-slice_get}
use Rattle.rubis_engine.proofs.input_record.InputRecordRecord.field.Goals as goal

pub returns : goal.returns
returns c =
    c.get.ensures.value ∙ field_at-slice_get (fields_of c.self.inside.fields) c.args.place
    ∙ ap (λ fields. slice_get fields c.args.place) c.self.view_is
