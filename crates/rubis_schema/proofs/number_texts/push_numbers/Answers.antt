use Rattle.std.proofs.Common.{◌∙◌, ◌++◌, ◌∷◌, [], decimal, ap, append_assoc, arith}
use Rattle.rubis_schema.proofs.NumberTexts.{at_most_twenty}
use Rattle.rubis_schema.proofs.number_texts.push_numbers.Goals as goal

pub push_digits-requires : goal.push_digits-requires
push_digits-requires c = record { room = omega (arith, c.requires.room, at_most_twenty c.args.first c.ranges.first.fits) }

pub push_reserved-requires : goal.push_reserved-requires
push_reserved-requires c =
    omega (arith, c.requires.room, at_most_twenty c.args.first c.ranges.first.fits, c.push_digits.ensures.len, c.push_digits.ensures.room)

pub push_digits-requires-2 : goal.push_digits-requires-2
push_digits-requires-2 c =
    let first = at_most_twenty c.args.first c.ranges.first.fits in
    let second = at_most_twenty c.args.second c.ranges.second.fits in
    record {
      room = omega (
        arith,
        c.requires.room,
        first,
        second,
        c.push_digits.ensures.len,
        c.push_digits.ensures.room,
        c.push_reserved.ensures.len,
        c.push_reserved.ensures.capacity,
      );
    }

pub returns : goal.returns
returns c =
    let old = c.args.text.now.items in
    record {
      text = c.push_digits-2.ensures.text
          ∙ ap (λ t. t ++ decimal c.args.second) (c.push_reserved.ensures.items ∙ ap (λ t. t ++ 46 ∷ []) c.push_digits.ensures.text)
          ∙ append_assoc (old ++ decimal c.args.first) (46 ∷ []) (decimal c.args.second) ∙ append_assoc old (decimal c.args.first) (46 ∷ decimal c.args.second);
    }
