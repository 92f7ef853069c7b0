use Rattle.std.proofs.Common.{◌≡◌, ◌∙◌, ◌++◌, ◌∷◌, [], ap, rules, length}
use Rattle.rubis_schema.specs.FieldList.{comma}
use Rattle.rubis_schema.proofs.PlainRows.{laid-more}
use Rattle.rubis_schema.proofs.field_list.add.Goals as goal

pub returns-clause-laid : goal.returns-clause-laid
returns-clause-laid c =
    let field = c.args.field.now in
    let text = c.in-Ok.ensures.items ∙ ap (λ t. t ++ field) (c.push_reserved.ensures.items ∙ ap (λ t. t ++ comma ∷ []) c.make_room-2.ensures.items) in
    let size : c.len.result ≡ length c.extend_from_slice.new.self.items = search rules in
    let ends : c.push_reserved-2.new.self.items ≡ c.args.ends.now.items ++ c.len.result ∷ [] = search rules in
    (laid-more c.args.ends.now.items c.args.text.now.items field _ _ c.len.result c.requires text size ends).0

pub returns-clause-ok : goal.returns-clause-ok
returns-clause-ok c =
    let field = c.args.field.now in
    let text = c.in-Ok.ensures.items ∙ ap (λ t. t ++ field) (c.push_reserved.ensures.items ∙ ap (λ t. t ++ comma ∷ []) c.make_room-2.ensures.items) in
    let size : c.len.result ≡ length c.extend_from_slice.new.self.items = search rules in
    let ends : c.push_reserved-2.new.self.items ≡ c.args.ends.now.items ++ c.len.result ∷ [] = search rules in
    (laid-more c.args.ends.now.items c.args.text.now.items field _ _ c.len.result c.requires text size ends).1
