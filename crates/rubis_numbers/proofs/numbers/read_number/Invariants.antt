use Rattle.std.proofs.Common.{◌<◌, ◌^◌}
use Rattle.rubis_numbers.proofs.Digits.{IsReading}
use Rattle.rubis_numbers.proofs.numbers.read_number.Given as goal

abbrev pub invariant-loop-byte : goal.invariant-loop-byte
invariant-loop-byte l = IsReading l.bytes l.byte-index l.number × (l.number < 10 ^ l.byte-index)
