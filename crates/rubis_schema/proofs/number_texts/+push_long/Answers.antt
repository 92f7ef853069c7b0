use Rattle.std.proofs.Common.{◌∙◌, ◌+◌, ◌/◌, ◌%◌, ◌++◌, ◌∷◌, [], ℕ, List, decimal, ap, arith}
use Rattle.std.specs.Vec.{vec_capacity, vec_len}
use Rattle.rubis_schema.specs.FieldList.{Appends}
use Rattle.rubis_schema.proofs.NumberTexts.{four_longer, four_more}
use Rattle.rubis_schema.proofs.number_texts.+push_long.Goals as goal
use Rattle.rubis_schema.proofs.number_texts.+push_long.Goals.{then-front-lt10000, else-front-lt10000}

pub push_middle-requires-clause-room : goal.push_middle-requires-clause-room
push_middle-requires-clause-room t c = omega (arith, c.requires.room, four_longer c.args.number c.requires.long c.ranges.number.fits)

pub push_long-requires : goal.push_long-requires
push_long-requires t c = (
  omega (arith, c.decreases, c.requires.long),
  (c.if-front-lt10000.false, omega (arith, c.requires.room, four_longer c.args.number c.requires.long c.ranges.number.fits)),
)

pub push_pair-requires-clause-room : goal.push_pair-requires-clause-room
push_pair-requires-clause-room t c =
    let longer = four_longer c.args.number c.requires.long c.ranges.number.fits in
    elim c.if-front-lt10000.branch [
      | then-front-lt10000 w ↦ rw w.text-is (omega (arith, c.requires.room, w.push_middle.ensures.len, w.push_middle.ensures.room, longer))
      | else-front-lt10000 w ↦ rw w.text-is (omega (arith, c.requires.room, w.push_long.ensures.len, w.push_long.ensures.room, longer))
    ]

pub push_pair-requires-2-clause-room : goal.push_pair-requires-2-clause-room
push_pair-requires-2-clause-room t c =
    let longer = four_longer c.args.number c.requires.long c.ranges.number.fits in
    let len = c.push_pair.ensures.len in
    let room = c.push_pair.ensures.room in
    elim c.if-front-lt10000.branch [
      | then-front-lt10000 w ↦ omega (
        arith,
        c.requires.room,
        len,
        room,
        ap (λ v. vec_len v) w.text-is,
        ap (λ v. vec_capacity v) w.text-is,
        w.push_middle.ensures.len,
        w.push_middle.ensures.room,
        longer,
      )
      | else-front-lt10000 w ↦ omega (
        arith,
        c.requires.room,
        len,
        room,
        ap (λ v. vec_len v) w.text-is,
        ap (λ v. vec_capacity v) w.text-is,
        w.push_long.ensures.len,
        w.push_long.ensures.room,
        longer,
      )
    ]

pub returns : goal.returns
returns t c =
    let old = c.args.text.now in
    let n = c.args.number in
    let front : Appends old (decimal (n / 100 / 100)) c.if-front-lt10000.text = elim c.if-front-lt10000.branch [
      | then-front-lt10000 w ↦ rw w.text-is w.push_middle.ensures
      | else-front-lt10000 w ↦ rw w.text-is w.push_long.ensures
    ] in
    let pair = c.push_pair.ensures in
    let end = c.push_pair-2.ensures in
    let two : List ℕ = (48 + n / 100 % 100 / 10) ∷ (48 + n / 100 % 100 % 10) ∷ [] in
    let last : List ℕ = (48 + n % 100 / 10) ∷ (48 + n % 100 % 10) ∷ [] in
    record {
      text = end.text ∙ ap (λ xs. xs ++ last) (pair.text ∙ ap (λ xs. xs ++ two) front.text) ∙ four_more old.items n c.requires.long c.ranges.number.fits;
      len = omega (arith, front.len, pair.len, end.len, four_longer n c.requires.long c.ranges.number.fits);
      room = end.room ∙ pair.room ∙ front.room;
    }
