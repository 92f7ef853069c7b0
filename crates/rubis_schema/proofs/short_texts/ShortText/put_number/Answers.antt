use Rattle.std.proofs.Common.{arith, ap, length, length-append, decimal}
use Rattle.rubis_schema.proofs.FieldLaws.{decimal_short}
use Rattle.rubis_schema.proofs.short_texts.ShortText.put_number.Goals as goal

pub put_digits-requires : goal.put_digits-requires
put_digits-requires g c = omega (arith, decimal_short c.from.result (omega arith), c.from.ensures, c.requires)

pub returns-clause-short : goal.returns-clause-short
returns-clause-short g c =
    omega (arith, decimal_short c.from.result (omega arith), ap length c.put_digits.ensures, length-append (decimal c.from.result) c.args.self.now)
