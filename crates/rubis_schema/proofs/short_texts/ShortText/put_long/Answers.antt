use Rattle.std.proofs.Common.{arith, ap, length, length-append, decimal}
use Rattle.rubis_schema.proofs.NumberTexts.{at_most_twenty}
use Rattle.rubis_schema.proofs.short_texts.ShortText.put_long.Goals as goal

pub put_digits-requires : goal.put_digits-requires
put_digits-requires g c = omega (arith, at_most_twenty c.args.number c.ranges.number.fits, c.requires)

pub returns-clause-short : goal.returns-clause-short
returns-clause-short g c =
    omega (arith, at_most_twenty c.args.number c.ranges.number.fits, ap length c.put_digits.ensures, length-append (decimal c.args.number) c.args.self.now)
