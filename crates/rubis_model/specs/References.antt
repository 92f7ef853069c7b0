-- What a message refers to: messages that made what it names, and precede it.
use Rattle.std.specs.Prelude.{◌≡◌, true, IfSome, IsSome, ⊤}
use Rattle.std.specs.List.{All}
use Rattle.rubis_schema.specs.declared.row_keys.RowKey.{RowKey}
use Rattle.rubis_schema.specs.declared.row_keys.RowKey.TheVariants as key
use Rattle.rubis_shadow.specs.Shadows.{refers_of}
use Rattle.rubis_shadow.specs.declared.shadows.Shadow.{Shadow}
use Rattle.rubis_shadow.specs.declared.shadows.Shadow.TheVariants.{Close}
use Rattle.rubis_message.specs.Message.{Message}
use Rattle.rubis_model.specs.Meaning.{as_user, as_item, as_bid, bids_on}
use Rattle.rubis_model.specs.System.{Precedes}

-- one of these messages is of this kind, and precedes v
abbrev pub Preceded : (Message → Type 0) → Message → (Message → Type 0) → Type 0
Preceded all v kind = (m : Message) × (all m) × (kind m) × (Precedes m v)

-- the row at that key is made by the message
abbrev pub IsMadeBy : RowKey → Message → Type 0
IsMadeBy (key.User i) m = (i ≡ m.stamp.id) × IsSome (as_user m.shadow)
IsMadeBy (key.Item i) m = (i ≡ m.stamp.id) × IsSome (as_item m.shadow)
IsMadeBy (key.Bid i) m = (i ≡ m.stamp.id) × IsSome (as_bid m.stamp.red m.shadow)
IsMadeBy k m = ⊥

-- the winner of a close is a bid on its item, and precedes v
abbrev pub HasBidOnItem : (Message → Type 0) → Message → Shadow → Type 0
HasBidOnItem all v (Close c) = IfSome c.winner (λ i. Preceded all v (λ m. (i ≡ m.stamp.id) × (bids_on c.item m.shadow ≡ true)))
HasBidOnItem all v x = ⊤

-- each row that the shadow of v names is made by a message that precedes v
abbrev pub RefersToPast : (Message → Type 0) → Message → Shadow → Type 0
RefersToPast all v x = All (λ k. Preceded all v (IsMadeBy k)) (refers_of x) × HasBidOnItem all v x
