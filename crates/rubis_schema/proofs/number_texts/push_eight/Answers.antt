use Rattle.std.proofs.Common.{◌∙◌, ◌+◌, ◌/◌, ◌%◌, ◌++◌, ◌∷◌, [], ℕ, List, ap, arith}
use Rattle.rubis_schema.proofs.NumberTexts.{four_longer, four_more}
use Rattle.rubis_schema.proofs.number_texts.push_eight.Goals as goal

pub push_middle-requires-clause-room : goal.push_middle-requires-clause-room
push_middle-requires-clause-room c = omega (arith, c.requires.room, four_longer c.args.number c.requires.long c.ranges.number.fits)

pub push_pair-requires-clause-room : goal.push_pair-requires-clause-room
push_pair-requires-clause-room c =
    omega (arith, c.requires.room, c.push_middle.ensures.len, c.push_middle.ensures.room, four_longer c.args.number c.requires.long c.ranges.number.fits)

pub push_pair-requires-2-clause-room : goal.push_pair-requires-2-clause-room
push_pair-requires-2-clause-room c =
    omega (
      arith,
      c.requires.room,
      c.push_middle.ensures.len,
      c.push_middle.ensures.room,
      c.push_pair.ensures.len,
      c.push_pair.ensures.room,
      four_longer c.args.number c.requires.long c.ranges.number.fits,
    )

pub returns : goal.returns
returns c =
    let n = c.args.number in
    let middle = c.push_middle.ensures in
    let pair = c.push_pair.ensures in
    let end = c.push_pair-2.ensures in
    let two : List ℕ = (48 + n / 100 % 100 / 10) ∷ (48 + n / 100 % 100 % 10) ∷ [] in
    let last : List ℕ = (48 + n % 100 / 10) ∷ (48 + n % 100 % 10) ∷ [] in
    record {
      text = end.text ∙ ap (λ xs. xs ++ last) (pair.text ∙ ap (λ xs. xs ++ two) middle.text)
          ∙ four_more c.args.text.now.items n c.requires.long c.ranges.number.fits;
      len = omega (arith, middle.len, pair.len, end.len, four_longer n c.requires.long c.ranges.number.fits);
      room = end.room ∙ pair.room ∙ middle.room;
    }
