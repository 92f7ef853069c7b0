use Rattle.std.proofs.Common.{◌≡◌, ◌∙◌, sym, ap, ap₂}
use Rattle.rubis_carrier.specs.Shops.{highest, last_turn}
use Rattle.rubis_carrier.specs.Events.{reaches_all}
use Rattle.rubis_steps.specs.Views.{folders_reached, streams_reached, shop_of}
use Rattle.rubis_steps.proofs.Leading.{compared_is, first_false, second}
use Rattle.rubis_steps.proofs.shops.Shop.is_compared.Goals as goal

pub returns-then-folders_reached : goal.returns-then-folders_reached
returns-then-folders_reached c =
    let s = c.args.self.now in
    let i = c.args.it.now.site in
    let n = c.highest-number.result in
    let t = c.last_turn-turn.result in
    second (sym (c.folders_reached.ensures ∙ ap (folders_reached i n t) c.deref-3.ensures.value) ∙ c.if-folders_reached.true)
    (c.streams_reached.ensures ∙ ap (streams_reached i n t) c.deref-then-folders_reached.ensures.value) ∙ compared_is s i n t
    ∙ ap₂ (λ n t. reaches_all i n t (shop_of s)) (c.highest-number.ensures ∙ ap (highest i) c.deref.ensures.value)
    (c.last_turn-turn.ensures ∙ ap (last_turn i) c.deref-2.ensures.value)

pub returns-else-folders_reached : goal.returns-else-folders_reached
returns-else-folders_reached c =
    let s = c.args.self.now in
    let i = c.args.it.now.site in
    let n = c.highest-number.result in
    let t = c.last_turn-turn.result in
    let reached : c.folders_reached.result ≡ folders_reached i n t s.folders.items =
    c.folders_reached.ensures ∙ ap (folders_reached i n t) c.deref-3.ensures.value in
    first_false (streams_reached i n t s.streams.items) (sym reached ∙ c.if-folders_reached.false) reached ∙ compared_is s i n t
    ∙ ap₂ (λ n t. reaches_all i n t (shop_of s)) (c.highest-number.ensures ∙ ap (highest i) c.deref.ensures.value)
    (c.last_turn-turn.ensures ∙ ap (last_turn i) c.deref-2.ensures.value)
