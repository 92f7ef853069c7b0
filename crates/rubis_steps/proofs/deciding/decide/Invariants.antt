use Rattle.std.proofs.Common.{◌≡◌, take}
use Rattle.rubis_carrier.specs.Events.{AreSteps, after_steps}
use Rattle.rubis_carrier.specs.Shops.{shop_start}
use Rattle.rubis_steps.specs.Views.{shop_of}
use Rattle.rubis_steps.proofs.deciding.decide.Given as goal

abbrev pub invariant-loop-at : goal.invariant-loop-at
invariant-loop-at l = record {
  steps : AreSteps l.over shop_start (take l.at l.events);
  stands : shop_of l.shop ≡ after_steps shop_start (take l.at l.events);
}
