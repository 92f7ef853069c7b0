use Rattle.rubis_carrier.specs.Events.{replaced}
use Rattle.rubis_carrier.specs.Shops.{empty}
use Rattle.rubis_steps.specs.Views.{folder_at}
use Rattle.rubis_steps.proofs.Leading.{replaced_is}
use Rattle.rubis_steps.proofs.shops.Shop.replaces.Goals as goal

pub returns : goal.returns
returns c = replaced_is c.in_ok-copy.copy
    (λ f. replaced (empty c.args.site) (folder_at c.args.self.now c.args.folder).kept) c.in_ok-list.ensures c.index_mut.ensures.value c.in_ok-copy.ensures
