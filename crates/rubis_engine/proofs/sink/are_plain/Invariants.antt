use Rattle.std.proofs.Common.{◌≡◌, drop, map}
use Rattle.rubis_schema.specs.FieldList.{all_plain}
use Rattle.rubis_engine.proofs.sink.are_plain.Given as goal

abbrev pub invariant-loop-field : goal.invariant-loop-field
invariant-loop-field l = all_plain (map (λ f. f.now) (drop l.field-index l.fields)) ≡ all_plain (map (λ f. f.now) l.fields)
