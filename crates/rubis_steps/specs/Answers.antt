-- What the answers to an event, and to a list of events, say.
use Rattle.std.specs.Prelude.{◌≡◌, ◌<◌, ◌+◌, ℕ, List, length, take, Option, Some, None}
use Rattle.rubis_carrier.specs.declared.values.Carrier.{Carrier}
use Rattle.rubis_carrier.specs.declared.values.ShopEvent.{ShopEvent}
use Rattle.rubis_carrier.specs.declared.values.ShopPacket.{ShopPacket}
use Rattle.rubis_carrier.specs.Events.{AreSteps}
use Rattle.rubis_carrier.specs.Shops.{Folder, shop_start, with_folder, with_stream}
use Rattle.rubis_steps.specs.declared.shops.Shop.{Shop as CodeShop}
use Rattle.rubis_steps.specs.Views.{folder_at, shop_of, stream_at}

-- all of them may happen, one after the other; or the first n may, and with the next one these are no steps any more
abbrev pub IsDecided : Carrier → List ShopEvent → Option ℕ → Type 0
IsDecided c events None = AreSteps c shop_start events
IsDecided c events (Some n) = (n < length events) × AreSteps c shop_start (take n events) × ¬ (AreSteps c shop_start (take (n + 1) events))

-- the folder is listed, and all is as it was, but for folders that have nothing
pub record HasListed (k : ℕ) (old new : CodeShop) : Type 0 where
  pub listed : k < length new.folders.items
  pub here : folder_at new k ≡ folder_at old k
  pub same : (f : Folder) → with_folder k f (shop_of new) ≡ with_folder k f (shop_of old)

-- the same of a stream
pub record IsStreamListed (i : ℕ) (old new : CodeShop) : Type 0 where
  pub listed : i < length new.streams.items
  pub here : stream_at new i ≡ stream_at old i
  pub same : (xs : List ShopPacket) → with_stream i xs (shop_of new) ≡ with_stream i xs (shop_of old)
