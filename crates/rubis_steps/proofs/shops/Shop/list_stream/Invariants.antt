use Rattle.std.proofs.Common.{◌≡◌, ◌+◌, ◌-◌, List, length}
use Rattle.rubis_carrier.specs.declared.values.ShopPacket.{ShopPacket}
use Rattle.rubis_carrier.specs.Shops.{with_stream}
use Rattle.rubis_steps.specs.Views.{shop_of, stream_at}
use Rattle.rubis_steps.proofs.shops.Shop.list_stream.Given as goal

abbrev pub invariant-loop-self : goal.invariant-loop-self
invariant-loop-self l = record {
  same : (xs : List ShopPacket) → with_stream l.site xs (shop_of l.self) ≡ with_stream l.site xs (shop_of l.initial.self);
  here : stream_at l.self l.site ≡ stream_at l.initial.self l.site;
}

abbrev pub decreases-loop-self : goal.decreases-loop-self
decreases-loop-self l = l.site + 1 - length l.self.streams.items
