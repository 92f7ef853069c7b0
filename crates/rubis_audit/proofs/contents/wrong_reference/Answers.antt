use Rattle.rubis_audit.proofs.Common.{◌≡◌, ◌∙◌, List, ap, rules, sym, true, false, ◌||◌, not, list_any, RowKey, refers_of, row_by_key}
use Rattle.std.proofs.Common.{tests}
use Rattle.std.proofs.lemmas.Iterator.Consumers.{YieldsList-from_first}
use Rattle.std.proofs.lemmas.Iterator.Search.{any_from_yields_List}
use Rattle.rubis_audit.specs.Walks.{known_in, wrong_category_in}
use Rattle.rubis_audit.proofs.contents.wrong_reference.Goals as goal

pub returns-then-any : goal.returns-then-any
returns-then-any g c =
    let t = row_by_key (g.V.View.tables c.args.view.now) in
    let v = c.args.v.now in
    let keys : c.refers.result ≡ refers_of v.shadow = c.refers.ensures ∙ ap refers_of c.shadow.ensures.value in
    let found : c.any.result ≡ list_any (λ k. not (known_in t v k)) (refers_of v.shadow) =
    any_from_yields_List (λ (k : RowKey). not (known_in t v k)) _ _ c.any.result c.any.ensures.ran
    (YieldsList-from_first (λ (k : RowKey). k) (λ (left : List RowKey). left) _ keys) (λ x b q k. search (rules, tests)) in
    let yes : c.any.result ≡ true = search rules in
    yes ∙ ap (λ b. b || wrong_category_in t v.shadow) (sym yes ∙ found)

pub returns-else-any : goal.returns-else-any
returns-else-any g c =
    let t = row_by_key (g.V.View.tables c.args.view.now) in
    let v = c.args.v.now in
    let keys : c.refers.result ≡ refers_of v.shadow = c.refers.ensures ∙ ap refers_of c.shadow.ensures.value in
    let found : c.any.result ≡ list_any (λ k. not (known_in t v k)) (refers_of v.shadow) =
    any_from_yields_List (λ (k : RowKey). not (known_in t v k)) _ _ c.any.result c.any.ensures.ran
    (YieldsList-from_first (λ (k : RowKey). k) (λ (left : List RowKey). left) _ keys) (λ x b q k. search (rules, tests)) in
    let no : c.any.result ≡ false = search rules in
    c.wrong_category.ensures ∙ ap (wrong_category_in t) c.shadow-else-any.ensures.value ∙ ap (λ b. b || wrong_category_in t v.shadow) (sym no ∙ found)
