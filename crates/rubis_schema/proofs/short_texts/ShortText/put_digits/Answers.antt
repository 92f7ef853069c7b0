use Rattle.std.proofs.Common.{arith}
use Rattle.std.proofs.lemmas.Fmt.{decimal_digit}
use Rattle.rubis_schema.proofs.NumberTexts.{one_digit}
use Rattle.rubis_schema.proofs.short_texts.ShortText.put_digits.Goals as goal

pub put_byte-requires : goal.put_byte-requires
put_byte-requires g c = omega (arith, one_digit c.args.number c.if-number-lt10.true, c.requires)

pub returns-then-number-lt10 : goal.returns-then-number-lt10
returns-then-number-lt10 g c = rw (decimal_digit c.args.number c.if-number-lt10.true) c.put_byte.ensures
