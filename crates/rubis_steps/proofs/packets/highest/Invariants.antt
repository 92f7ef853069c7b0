use Rattle.std.proofs.Common.{◌≡◌, drop, max}
use Rattle.rubis_carrier.specs.Shops.{highest}
use Rattle.rubis_steps.proofs.packets.highest.Given as goal

abbrev pub invariant-loop-packet : goal.invariant-loop-packet
invariant-loop-packet l = max l.most (highest l.site (drop l.packet-index l.kept)) ≡ highest l.site l.kept
