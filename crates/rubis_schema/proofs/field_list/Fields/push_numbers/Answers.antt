use Rattle.std.proofs.Common.{◌≡◌, ◌∙◌, ◌++◌, ◌∷◌, [], ℕ, List, decimal, ap, rules, length}
use Rattle.rubis_schema.specs.FieldList.{comma, pieces}
use Rattle.rubis_schema.proofs.PlainRows.{laid-more, pair_plain, plain_more}
use Rattle.rubis_schema.proofs.field_list.Fields.push_numbers.Goals as goal

pub invariant_of-self-2 : goal.invariant_of-self-2
invariant_of-self-2 c =
    let old = c.self.inside in
    let field : List ℕ = decimal c.args.first ++ 46 ∷ decimal c.args.second in
    let text = c.push_numbers.ensures.text ∙ ap (λ t. t ++ field) (c.push_reserved.ensures.items ∙ ap (λ t. t ++ comma ∷ []) c.make_room-2.ensures.items) in
    let size : c.len.result ≡ length c.push_numbers.new.text.items = search rules in
    let ends : c.push_reserved-2.new.self.items ≡ old.ends.items ++ c.len.result ∷ [] = search rules in
    let more = laid-more old.ends.items old.text.items field _ c.push_numbers.new.text.items c.len.result c.self.invariant.0 text size ends in (
      more.0,
      λ plain. rw more.1
          (plain_more (pieces 0 old.ends.items old.text.items) field (c.self.invariant.1 plain)
          (pair_plain c.args.first c.args.second c.ranges.first.fits c.ranges.second.fits)),
    )

pub returns-clause-ok : goal.returns-clause-ok
returns-clause-ok c =
    let old = c.self.inside in
    let field : List ℕ = decimal c.args.first ++ 46 ∷ decimal c.args.second in
    let text = c.push_numbers.ensures.text ∙ ap (λ t. t ++ field) (c.push_reserved.ensures.items ∙ ap (λ t. t ++ comma ∷ []) c.make_room-2.ensures.items) in
    let size : c.len.result ≡ length c.push_numbers.new.text.items = search rules in
    let ends : c.push_reserved-2.new.self.items ≡ old.ends.items ++ c.len.result ∷ [] = search rules in
    let more = laid-more old.ends.items old.text.items field _ c.push_numbers.new.text.items c.len.result c.self.invariant.0 text size ends in
    more.1 ∙ ap (λ t. t ++ field ∷ []) c.self.view_is
