use Rattle.std.proofs.Common.{◌∙◌, ap}
use Rattle.rubis_carrier.specs.Shops.{Shop, with_folder}
use Rattle.rubis_carrier.specs.Events.{started}
use Rattle.rubis_steps.specs.Views.{folder_at, shop_of}
use Rattle.rubis_steps.proofs.Leading.{replaced_is}
use Rattle.rubis_steps.proofs.shops.Shop.starts.Goals as goal

pub returns : goal.returns
returns c =
    let old = c.args.self.now in
    let k = c.args.folder in
    let life = c.in_ok-life.life in
    ap (λ (s : Shop). record s { begun = life }) (replaced_is c.start.new.self (λ f. started f life)
    c.in_ok-list.ensures c.index_mut.ensures.value c.start.ensures)
    ∙ ap (λ b. record (with_folder k (started (folder_at old k) b) (shop_of old)) { begun = b }) c.in_ok-life.ensures
