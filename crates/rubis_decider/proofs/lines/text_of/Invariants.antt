use Rattle.std.proofs.Common.{◌≡◌, ◌++◌, drop, string_bytes}
use Rattle.rubis_decider.specs.Written.{commas}
use Rattle.rubis_decider.proofs.lines.text_of.Given as goal

abbrev pub invariant-loop-number : goal.invariant-loop-number
invariant-loop-number l = string_bytes l.text ++ commas (drop l.number-index l.numbers) ≡ l.kind ++ commas l.numbers
