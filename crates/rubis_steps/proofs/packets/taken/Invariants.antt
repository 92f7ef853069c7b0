use Rattle.std.proofs.Common.{◌≡◌, drop, max}
use Rattle.rubis_carrier.specs.Shops.{taken_turn}
use Rattle.rubis_steps.proofs.packets.taken.Given as goal

abbrev pub invariant-loop-packet : goal.invariant-loop-packet
invariant-loop-packet l = max l.most (taken_turn l.site (drop l.packet-index l.kept)) ≡ taken_turn l.site l.kept
