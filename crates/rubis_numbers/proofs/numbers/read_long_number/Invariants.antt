use Rattle.rubis_numbers.proofs.Digits.{IsReading}
use Rattle.rubis_numbers.proofs.numbers.read_long_number.Given as goal

abbrev pub invariant-loop-byte : goal.invariant-loop-byte
invariant-loop-byte l = IsReading l.bytes l.byte-index l.number
