use Rattle.std.proofs.Common.{◌≡◌, drop, length, map, take}
use Rattle.rubis_carrier.specs.Events.{forgotten}
use Rattle.rubis_steps.specs.Views.{folder_of}
use Rattle.rubis_steps.proofs.shops.forget_all.Given as goal

abbrev pub invariant-loop-at : goal.invariant-loop-at
invariant-loop-at l = record {
  many : length l.folders.items ≡ length l.initial.folders.items;
  before : map folder_of (take l.at l.folders.items) ≡ map (forgotten l.site) (map folder_of (take l.at l.initial.folders.items));
  rest : drop l.at l.folders.items ≡ drop l.at l.initial.folders.items;
}
