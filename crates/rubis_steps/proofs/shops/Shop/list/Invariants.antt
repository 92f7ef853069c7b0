use Rattle.std.proofs.Common.{◌≡◌, ◌+◌, ◌-◌, length}
use Rattle.rubis_carrier.specs.Shops.{Folder, with_folder}
use Rattle.rubis_steps.specs.Views.{folder_at, shop_of}
use Rattle.rubis_steps.proofs.shops.Shop.list.Given as goal

abbrev pub invariant-loop-self : goal.invariant-loop-self
invariant-loop-self l = record {
  same : (f : Folder) → with_folder l.folder f (shop_of l.self) ≡ with_folder l.folder f (shop_of l.initial.self);
  here : folder_at l.self l.folder ≡ folder_at l.initial.self l.folder;
}

abbrev pub decreases-loop-self : goal.decreases-loop-self
decreases-loop-self l = l.folder + 1 - length l.self.folders.items
