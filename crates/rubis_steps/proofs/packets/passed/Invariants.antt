use Rattle.std.proofs.Common.{◌≡◌, drop, max}
use Rattle.rubis_carrier.specs.Shops.{passed_turn}
use Rattle.rubis_steps.proofs.packets.passed.Given as goal

abbrev pub invariant-loop-packet : goal.invariant-loop-packet
invariant-loop-packet l = max l.most (passed_turn l.site (drop l.packet-index l.kept)) ≡ passed_turn l.site l.kept
