use Rattle.std.proofs.Common.{◌≡◌, drop, map}
use Rattle.rubis_carrier.specs.Events.{is_alone}
use Rattle.rubis_steps.specs.Views.{folder_of}
use Rattle.rubis_steps.proofs.shops.is_alone.Given as goal

abbrev pub invariant-loop-number : goal.invariant-loop-number
invariant-loop-number l = is_alone l.folder l.site l.number (map folder_of (drop l.number l.folders)) ≡ is_alone l.folder l.site 0 (map folder_of l.folders)
