use Rattle.std.proofs.Common.{◌<◌, ◌^◌}
use Rattle.rubis_numbers.proofs.Digits.{IsReading}
use Rattle.rubis_schema.proofs.ids.read_few_digits.Given as goal

abbrev pub invariant-loop-byte : goal.invariant-loop-byte
invariant-loop-byte l = IsReading l.digits l.byte-index l.number × (l.number < 10 ^ l.byte-index)
