use Rattle.std.proofs.Common.{◌≡◌, ◌++◌, drop, map}
use Rattle.rubis_audit.specs.Reasons.{named_text, shown_byte}
use Rattle.rubis_audit.proofs.reasons.named.Given as goal

abbrev pub invariant-loop-byte : goal.invariant-loop-byte
invariant-loop-byte l = l.text.items ++ map shown_byte (drop l.byte-index l.shown) ≡ named_text l.words l.word
