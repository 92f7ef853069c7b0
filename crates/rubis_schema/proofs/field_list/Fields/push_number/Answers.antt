use Rattle.std.proofs.Common.{◌≡◌, ◌∙◌, ◌++◌, ◌∷◌, [], ℕ, List, decimal, ap, rules, arith, length}
use Rattle.rubis_schema.specs.FieldList.{comma, pieces}
use Rattle.rubis_schema.proofs.PlainRows.{laid-more, decimal_plain, plain_more}
use Rattle.rubis_schema.proofs.NumberTexts.{at_most_twenty}
use Rattle.rubis_schema.proofs.field_list.Fields.push_number.Goals as goal

pub push_digits-requires : goal.push_digits-requires
push_digits-requires c =
    record {
      room = omega (
        arith,
        c.in_ok-make_room-2.ensures.room,
        c.push_reserved.ensures.len,
        c.push_reserved.ensures.capacity,
        at_most_twenty c.args.number c.ranges.number.fits,
      );
    }

pub invariant_of-self-2 : goal.invariant_of-self-2
invariant_of-self-2 c =
    let old = c.self.inside in
    let field : List ℕ = decimal c.args.number in
    let text = c.push_digits.ensures.text ∙ ap (λ t. t ++ field) (c.push_reserved.ensures.items ∙ ap (λ t. t ++ comma ∷ []) c.make_room-2.ensures.items) in
    let size : c.len.result ≡ length c.push_digits.new.text.items = search rules in
    let ends : c.push_reserved-2.new.self.items ≡ old.ends.items ++ c.len.result ∷ [] = search rules in
    let more = laid-more old.ends.items old.text.items field _ c.push_digits.new.text.items c.len.result c.self.invariant.0 text size ends in (
      more.0,
      λ plain. rw more.1
          (plain_more (pieces 0 old.ends.items old.text.items) field (c.self.invariant.1 plain) (decimal_plain c.args.number c.ranges.number.fits)),
    )

pub returns-clause-ok : goal.returns-clause-ok
returns-clause-ok c =
    let old = c.self.inside in
    let field : List ℕ = decimal c.args.number in
    let text = c.push_digits.ensures.text ∙ ap (λ t. t ++ field) (c.push_reserved.ensures.items ∙ ap (λ t. t ++ comma ∷ []) c.make_room-2.ensures.items) in
    let size : c.len.result ≡ length c.push_digits.new.text.items = search rules in
    let ends : c.push_reserved-2.new.self.items ≡ old.ends.items ++ c.len.result ∷ [] = search rules in
    let more = laid-more old.ends.items old.text.items field _ c.push_digits.new.text.items c.len.result c.self.invariant.0 text size ends in
    more.1 ∙ ap (λ t. t ++ field ∷ []) c.self.view_is
