use Rattle.std.proofs.Common.{ap, length, arith}
use Rattle.std.proofs.lemmas.Fmt.{decimal_digit}
use Rattle.rubis_schema.proofs.NumberTexts.{one_digit, two_digits}
use Rattle.rubis_schema.proofs.number_texts.push_short.Goals as goal

pub push_digit-requires-clause-room : goal.push_digit-requires-clause-room
push_digit-requires-clause-room c = omega (arith, c.requires.room, one_digit c.args.number c.if-number-lt10.true)

pub push_pair-requires-clause-room : goal.push_pair-requires-clause-room
push_pair-requires-clause-room c = omega (arith, c.requires.room, ap length (two_digits c.args.number c.if-number-lt10.false c.requires.short))

pub returns-then-number-lt10 : goal.returns-then-number-lt10
returns-then-number-lt10 c = rw (decimal_digit c.args.number c.if-number-lt10.true) c.push_digit.ensures

pub returns-else-number-lt10 : goal.returns-else-number-lt10
returns-else-number-lt10 c = rw (two_digits c.args.number c.if-number-lt10.false c.requires.short) c.push_pair.ensures
