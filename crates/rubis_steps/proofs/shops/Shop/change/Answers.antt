use Rattle.rubis_steps.specs.Views.{changed}
use Rattle.rubis_steps.proofs.Facts.{on_ok}
use Rattle.rubis_steps.proofs.Leading.{replaced_is}
use Rattle.rubis_steps.proofs.shops.Shop.change.Goals as goal

pub returns : goal.returns
returns c = on_ok c.change.result (replaced_is c.change.new.self
    (λ f. changed c.args.event c.args.records f) c.in_ok-list.ensures c.index_mut.ensures.value) c.change.ensures
