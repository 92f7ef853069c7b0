use Rattle.std.proofs.Common.{◌∙◌, sym, ap}
use Rattle.rubis_carrier.specs.Events.{is_offered}
use Rattle.rubis_steps.specs.Views.{in_own_folder, shop_of}
use Rattle.rubis_steps.proofs.Leading.{offered_is}
use Rattle.rubis_steps.proofs.shops.Shop.is_offered.Goals as goal

pub returns-in-Files : goal.returns-in-Files
returns-in-Files c =
    let s = c.args.self.now in
    c.in_own_folder.ensures ∙ ap (in_own_folder c.args.packet) c.deref.ensures.value ∙ offered_is s c.args.packet
    ∙ ap (λ v. is_offered v (shop_of s) c.args.packet) (sym c.in-Files.is)
