use Rattle.std.proofs.Common.{◌≡◌, drop}
use Rattle.rubis_schema.specs.FieldList as model
use Rattle.rubis_schema.proofs.field_list.is_plain.Given as goal

abbrev pub invariant-loop-byte : goal.invariant-loop-byte
invariant-loop-byte l = model.is_plain (drop l.byte-index l.field) ≡ model.is_plain l.field
