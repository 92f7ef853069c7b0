use Rattle.std.proofs.Common.{rules, ◌∙◌, ap, ap₂, map}
use Rattle.std.specs.Prelude.{◌==◌, not}
use Rattle.std.proofs.lemmas.Fn.{filter_same}
use Rattle.rubis_carrier.specs.Shops.{sender}
use Rattle.rubis_carrier.specs.Events.{forgotten, of_others}
use Rattle.rubis_steps.specs.Views.{folders_of, shop_of}
use Rattle.rubis_steps.proofs.Leading.{opens_is}
use Rattle.rubis_steps.proofs.shops.Shop.opens.Goals as goal

pub returns : goal.returns
returns c =
    let old = c.args.self.now in
    opens_is old c.open.new.self (ap₂ (λ fs xs. record (shop_of old) { folders = fs; under_way = xs })
    (c.forget_all.ensures ∙ ap (λ i. map (forgotten i) (folders_of old.folders)) c.site-site.ensures)
    (filter_same _ (λ x. not (sender x == c.site-site.result)) _ (λ x b q r. search rules) old.under_way.items _ c.retain.ensures.filtered ∙ ap (λ i. of_others i old.under_way.items) c.site-site.ensures))
    c.in_ok-list.ensures c.index_mut.ensures.value c.open.ensures
