use Rattle.std.proofs.Common.{◌∙◌, ◌+◌, ◌/◌, ◌%◌, ◌++◌, ◌∷◌, [], ℕ, List, decimal, ap, sym, append_assoc, arith}
use Rattle.rubis_schema.proofs.NumberTexts.{more_digits, two_longer}
use Rattle.rubis_schema.proofs.number_texts.push_middle.Goals as goal

pub push_short-requires-else-number-lt100-clause-room : goal.push_short-requires-else-number-lt100-clause-room
push_short-requires-else-number-lt100-clause-room c = omega (arith, c.requires.room, two_longer c.args.number c.if-number-lt100.false c.ranges.number.fits)

pub push_pair-requires-clause-room : goal.push_pair-requires-clause-room
push_pair-requires-clause-room c =
    let longer = two_longer c.args.number c.if-number-lt100.false c.ranges.number.fits in
    let short = c.push_short-else-number-lt100.ensures in
    omega (arith, c.requires.room, short.len, short.room, longer)

pub returns-else-number-lt100 : goal.returns-else-number-lt100
returns-else-number-lt100 c =
    let old = c.args.text.now.items in
    let n = c.args.number in
    let short = c.push_short-else-number-lt100.ensures in
    let pair = c.push_pair.ensures in
    let two : List ℕ = (48 + n % 100 / 10) ∷ (48 + n % 100 % 10) ∷ [] in
    record {
      text = pair.text ∙ ap (λ xs. xs ++ two) short.text ∙ append_assoc old (decimal (n / 100)) two
          ∙ ap (λ xs. old ++ xs) (sym (more_digits n c.if-number-lt100.false c.ranges.number.fits));
      len = omega (arith, pair.len, short.len, two_longer n c.if-number-lt100.false c.ranges.number.fits);
      room = pair.room ∙ short.room;
    }
