-- The answer to an ask: the first of its refusals that holds, in their order, or its shadow.
use Rattle.std.specs.Prelude.{Bool, true, false, Option, Some, None, option_and_then, ◌≡◌, ◌⊎◌, ◌||◌, not, ℕ, bytes_eq, nat_eq, nat_lt, List, [], ◌∷◌, Result}
use Rattle.std.specs.Prelude.{Ok, Err, is_some, is_none, option_map, find}
use Rattle.std.specs.FinMap as map
use Rattle.rubis_schema.specs.Tables.{Tables}
use Rattle.rubis_schema.specs.declared.ids.Id.{Id}
use Rattle.rubis_schema.specs.declared.row_keys.RowKey.{RowKey}
use Rattle.rubis_schema.specs.declared.row_keys.RowKey.TheVariants as key
use Rattle.rubis_schema.specs.declared.rows.Row.{Row}
use Rattle.rubis_schema.specs.declared.rows.Row.TheVariants as row
use Rattle.rubis_schema.specs.declared.rows.UserRow.{UserRow}
use Rattle.rubis_schema.specs.declared.rows.ItemRow.{ItemRow}
use Rattle.rubis_schema.specs.declared.rows.Sale.{Sale}
use Rattle.rubis_schema.specs.declared.rows.Sale.TheVariants.{Open, Ended}
use Rattle.rubis_schema.specs.Keys.{same_id}
use Rattle.rubis_schema.specs.declared.refusals.Refusal.{Refusal}
use Rattle.rubis_schema.specs.declared.refusals.Refusal.TheVariants.{Full, NoToken, RedBehind, NoUser, Closed, NotSeller, OwnItem, BadRecord, NickTaken, NoItem}
use Rattle.rubis_schema.specs.declared.refusals.Refusal.TheVariants.{LowBid, StockShort, NoBuyNow, SelfComment, BadTarget, LastTurn, NotOurs, NotForMe}
use Rattle.rubis_schema.specs.declared.refusals.Refusal.TheVariants.{BadEvent, NoSuchPacket}
use Rattle.rubis_generate.specs.declared.standing.Standing.{Standing}
use Rattle.std.specs.Option.{option_map_or}
use Rattle.std.specs.List.{list_any}
use Rattle.rubis_schema.specs.declared.rows.Best.{Best}
use Rattle.rubis_shadow.specs.declared.shadows.Ask.{Ask}
use Rattle.rubis_shadow.specs.declared.shadows.AskedRename.{AskedRename}
use Rattle.rubis_shadow.specs.declared.shadows.Ask.TheVariants.{User, Item, Bid, Buy, Close, Comment, Restock, Rename}
use Rattle.rubis_shadow.specs.declared.shadows.Shadow.{Shadow}
use Rattle.rubis_shadow.specs.declared.shadows.Shadow.TheVariants as shadow

-- the row at each key
abbrev pub Rows : Type 0
Rows = RowKey → Option Row

-- the rows of these tables, by key
abbrev pub row_by_key : Tables → Rows
row_by_key t k = map.get t k

-- the row, if it is a user's
abbrev pub as_user_row : Row → Option UserRow
as_user_row (row.User u) = Some u
as_user_row r = None

-- the row, if it is an item's
abbrev pub as_item_row : Row → Option ItemRow
as_item_row (row.Item i) = Some i
as_item_row r = None

-- the row of a user, if there is one
abbrev pub user_in : Rows → Id → Option UserRow
user_in t id = option_and_then as_user_row (t (key.User id))

-- the row of an item, if there is one
abbrev pub item_in : Rows → Id → Option ItemRow
item_in t id = option_and_then as_item_row (t (key.Item id))

-- the item was closed
abbrev pub is_ended : Sale → Bool
is_ended Open = false
is_ended (Ended winner) = true

-- ---- the tests that asks share: the first refusal of each that holds

-- the site may make a red message
abbrev pub MayMakeRed : Standing → Type 0
MayMakeRed s = (s.full ≡ false) × (s.holds ≡ true) × (s.current ≡ true)

-- why not
abbrev pub IsRedRefusal : Standing → Refusal → Type 0
IsRedRefusal s refusal = ((refusal ≡ Full) × (s.full ≡ true))
    ⊎ ((refusal ≡ NoToken) × (s.full ≡ false) × (s.holds ≡ false))
    ⊎ ((refusal ≡ RedBehind) × (s.full ≡ false) × (s.holds ≡ true) × (s.current ≡ false))

-- the user, if there is one, may bid on the item or buy it
abbrev pub MayBuy : Bool → Id → ItemRow → Type 0
MayBuy is_user user item = (is_user ≡ true) × (is_ended item.sale ≡ false) × (same_id user item.seller ≡ false)

-- why not
abbrev pub IsBuyerRefusal : Bool → Id → ItemRow → Refusal → Type 0
IsBuyerRefusal is_user user item refusal = ((refusal ≡ NoUser) × (is_user ≡ false))
    ⊎ ((refusal ≡ Closed) × (is_user ≡ true) × (is_ended item.sale ≡ true))
    ⊎ ((refusal ≡ OwnItem) × (is_user ≡ true) × (is_ended item.sale ≡ false) × (same_id user item.seller ≡ true))

-- the user sells the item, and its sale is open
abbrev pub MaySell : Id → ItemRow → Type 0
MaySell user item = (same_id user item.seller ≡ true) × (is_ended item.sale ≡ false)

-- why not
abbrev pub IsSellerRefusal : Id → ItemRow → Refusal → Type 0
IsSellerRefusal user item refusal = ((refusal ≡ NotSeller) × (same_id user item.seller ≡ false))
    ⊎ ((refusal ≡ Closed) × (same_id user item.seller ≡ true) × (is_ended item.sale ≡ true))

-- ---- the answer to an ask: the first of its refusals that holds, in their order, or its shadow

-- the order in which an ask's refusals are tested
abbrev pub order_of : Ask → List Refusal
order_of (User n) = Full ∷ NoToken ∷ RedBehind ∷ NickTaken ∷ []
order_of (Item n) = Full ∷ NoUser ∷ []
order_of (Bid b) = Full ∷ NoToken ∷ RedBehind ∷ NoItem ∷ NoUser ∷ Closed ∷ OwnItem ∷ LowBid ∷ []
order_of (Buy p) = Full ∷ NoToken ∷ RedBehind ∷ NoItem ∷ NoUser ∷ Closed ∷ OwnItem ∷ NoBuyNow ∷ StockShort ∷ []
order_of (Close c) = Full ∷ NoToken ∷ RedBehind ∷ NoItem ∷ NotSeller ∷ Closed ∷ []
order_of (Comment c) = Full ∷ NoItem ∷ NoUser ∷ SelfComment ∷ []
order_of (Restock r) = Full ∷ NoItem ∷ NotSeller ∷ Closed ∷ []
order_of (Rename r) = Full ∷ NoToken ∷ RedBehind ∷ NoUser ∷ NickTaken ∷ []

-- the users that must be there
abbrev pub users_of : Ask → List Id
users_of (User n) = []
users_of (Item n) = n.seller ∷ []
users_of (Bid b) = b.bidder ∷ []
users_of (Buy p) = p.buyer ∷ []
users_of (Close c) = []
users_of (Comment c) = c.from ∷ c.to ∷ []
users_of (Restock r) = []
users_of (Rename r) = r.user ∷ []

-- a test of the item's row, which doesn't hold where there is none
abbrev pub of_item : Rows → Id → (ItemRow → Bool) → Bool
of_item t id p = option_map_or p (item_in t id) false

-- the item that must be there
abbrev pub item_of : Ask → Option Id
item_of (User n) = None
item_of (Item n) = None
item_of (Bid b) = Some b.item
item_of (Buy p) = Some p.item
item_of (Close c) = Some c.item
item_of (Comment c) = Some c.item
item_of (Restock r) = Some r.item
item_of (Rename r) = None

-- a test of the row of the item that the ask names
abbrev pub at_item : Rows → Ask → (ItemRow → Bool) → Bool
at_item t ask p = option_map_or (λ id. of_item t id p) (item_of ask) false

-- the user's row has the nickname
abbrev pub has_nick : Rows → Id → List ℕ → Bool
has_nick t user n = option_map_or (λ (u : UserRow). bytes_eq u.nick n) (user_in t user) false

-- the nickname has a row, or is the user's own
abbrev pub asks_taken_nick : Rows → Ask → Bool
asks_taken_nick t (User n) = is_some (t (key.Nick n))
asks_taken_nick t (Rename r) = is_some (t (key.Nick r.nick)) || has_nick t r.user r.nick
asks_taken_nick t ask = false

-- the amount is below the start price
abbrev pub low_bid : Ask → ItemRow → Bool
low_bid (Bid b) i = nat_lt b.amount i.start
low_bid ask i = false

-- the quantity is above the stock
abbrev pub asks_above_stock : Ask → ItemRow → Bool
asks_above_stock (Buy p) i = nat_lt i.stock p.quantity
asks_above_stock ask i = false

-- the named user isn't the item's seller
abbrev pub not_seller : Ask → ItemRow → Bool
not_seller (Close c) i = not (same_id c.seller i.seller)
not_seller (Restock r) i = not (same_id r.seller i.seller)
not_seller ask i = false

-- the bidder or buyer is the seller
abbrev pub own_item : Ask → ItemRow → Bool
own_item (Bid b) i = same_id b.bidder i.seller
own_item (Buy p) i = same_id p.buyer i.seller
own_item ask i = false

-- the item can't be bought at once
abbrev pub no_buy_now : Ask → ItemRow → Bool
no_buy_now (Buy p) i = nat_eq i.price 0
no_buy_now ask i = false

-- a comment from its own addressee
abbrev pub self_comment : Ask → Bool
self_comment (Comment c) = same_id c.from c.to
self_comment ask = false

-- whether a refusal holds, of each by itself
abbrev pub is_due : Rows → Standing → Ask → Refusal → Bool
is_due t s ask Full = s.full
is_due t s ask NoToken = not s.holds
is_due t s ask RedBehind = not s.current
is_due t s ask NickTaken = asks_taken_nick t ask
is_due t s ask NoUser = list_any (λ id. is_none (user_in t id)) (users_of ask)
is_due t s ask NoItem = option_map_or (λ id. is_none (item_in t id)) (item_of ask) false
is_due t s ask Closed = at_item t ask (λ i. is_ended i.sale)
is_due t s ask LowBid = at_item t ask (low_bid ask)
is_due t s ask StockShort = at_item t ask (asks_above_stock ask)
is_due t s ask NotSeller = at_item t ask (not_seller ask)
is_due t s ask OwnItem = at_item t ask (own_item ask)
is_due t s ask NoBuyNow = at_item t ask (no_buy_now ask)
is_due t s ask SelfComment = self_comment ask
is_due t s ask BadRecord = false
is_due t s ask BadTarget = false
is_due t s ask LastTurn = false
is_due t s ask NotOurs = false
is_due t s ask NotForMe = false
is_due t s ask BadEvent = false
is_due t s ask NoSuchPacket = false

-- the end of an item's sale, with its category and its best bid
abbrev pub closing : Rows → Id → Shadow
closing t id = shadow.Close (record {
  item = id;
  cat = option_map_or (λ (i : ItemRow). i.cat) (item_in t id) 0;
  winner = option_and_then (λ (i : ItemRow). option_map (λ (b : Best). b.bid) i.best) (item_in t id);
})

-- another nickname in place of the one in the user's row
abbrev pub renaming : Rows → AskedRename → Shadow
renaming t r = shadow.Rename (record { user = r.user; from = option_map_or (λ (u : UserRow). u.nick) (user_in t r.user) []; to = r.nick })

-- the shadow of an ask that isn't refused
abbrev pub shadow_of : Rows → Ask → Shadow
shadow_of t (User n) = shadow.User n
shadow_of t (Item n) = shadow.Item n
shadow_of t (Bid b) = shadow.Bid b
shadow_of t (Buy p) = shadow.Buy p
shadow_of t (Close c) = closing t c.item
shadow_of t (Comment c) = shadow.Comment c
shadow_of t (Restock r) = shadow.Restock (record { item = r.item; quantity = r.quantity })
shadow_of t (Rename r) = renaming t r

-- the refusal, if there is one, or the shadow
abbrev pub refused_or : Option Refusal → Shadow → Result Shadow Refusal
refused_or None x = Ok x
refused_or (Some r) x = Err r

-- the first refusal that holds, or the shadow
abbrev pub decision : Rows → Standing → Ask → Result Shadow Refusal
decision t s ask = refused_or (find (is_due t s ask) (order_of ask)) (shadow_of t ask)
