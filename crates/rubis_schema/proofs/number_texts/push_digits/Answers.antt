use Rattle.std.proofs.Common.{arith}
use Rattle.std.proofs.lemmas.Fmt.{decimal_digit}
use Rattle.rubis_schema.proofs.NumberTexts.{one_digit}
use Rattle.rubis_schema.proofs.number_texts.push_digits.Goals as goal

pub push_digit-requires-clause-room : goal.push_digit-requires-clause-room
push_digit-requires-clause-room c = omega (arith, c.requires.room, one_digit c.args.number c.if-number-lt10.true)

pub returns-then-number-lt10-clause-text : goal.returns-then-number-lt10-clause-text
returns-then-number-lt10-clause-text c = rw (decimal_digit c.args.number c.if-number-lt10.true) c.push_digit.ensures.text

pub returns-then-number-lt10-clause-len : goal.returns-then-number-lt10-clause-len
returns-then-number-lt10-clause-len c = rw (decimal_digit c.args.number c.if-number-lt10.true) c.push_digit.ensures.len
