use Rattle.std.proofs.Common.{rules, ◌∙◌, sym, ap, ap₂}
use Rattle.std.specs.Prelude.{◌||◌}
use Rattle.rubis_carrier.specs.Events.{has_packet}
use Rattle.rubis_steps.specs.Views.{is_found}
use Rattle.rubis_steps.proofs.Leading.{found_is, none_first, some_first}
use Rattle.rubis_steps.proofs.shops.Shop.is_somewhere.Goals as goal

pub returns-then-is_found : goal.returns-then-is_found
returns-then-is_found c =
    let s = c.args.self.now in
    let x = c.args.packet in
    let found = c.is_found.ensures ∙ ap₂ (λ fs xs. is_found x fs xs) c.deref.ensures.value c.deref-2.ensures.value in
    some_first (has_packet x s.under_way.items) (sym found ∙ c.if-is_found.true) found ∙ ap (λ b. b || has_packet x s.under_way.items) (found_is s x)

pub returns-else-is_found : goal.returns-else-is_found
returns-else-is_found c =
    let s = c.args.self.now in
    let x = c.args.packet in
    let found = c.is_found.ensures ∙ ap₂ (λ fs xs. is_found x fs xs) c.deref.ensures.value c.deref-2.ensures.value in
    none_first (sym found ∙ c.if-is_found.false) (search rules) ∙ ap (λ b. b || has_packet x s.under_way.items) (found_is s x)
