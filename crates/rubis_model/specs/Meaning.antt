-- What a set of messages means, row by row, and the accepted bids of an item.
use Rattle.std.specs.Prelude.{ℕ, ◌≡◌, ◌+◌, ◌-◌, ℤ, pos, ◌+ℤ◌, ◌-ℤ◌, List, [], ◌∷◌, Bool, false, cond, ◌&&◌, ◌||◌, nat_eq, nat_lt, bytes_eq, fold, sum_by}
use Rattle.std.specs.Prelude.{count_by, Option, Some, None, option_map, true}
use Rattle.std.specs.Option.{option_or}
use Rattle.std.specs.FinMap as map
use Rattle.rubis_schema.specs.Keys.{same_id}
use Rattle.rubis_schema.specs.Tables.{Tables}
use Rattle.rubis_schema.specs.declared.ids.Id.{Id}
use Rattle.rubis_schema.specs.declared.row_keys.RowKey.{RowKey}
use Rattle.rubis_schema.specs.declared.row_keys.RowKey.TheVariants as key
use Rattle.rubis_schema.specs.declared.rows.Row.{Row}
use Rattle.rubis_schema.specs.declared.rows.Row.TheVariants as row
use Rattle.rubis_schema.specs.declared.rows.Sale.{Sale}
use Rattle.rubis_schema.specs.declared.rows.Sale.TheVariants.{Open, Ended}
use Rattle.rubis_schema.specs.declared.rows.BidRow.{BidRow}
use Rattle.rubis_schema.specs.declared.rows.PurchaseRow.{PurchaseRow}
use Rattle.rubis_schema.specs.declared.rows.CommentRow.{CommentRow}
use Rattle.rubis_schema.specs.declared.rows.Best.{Best}
use Rattle.rubis_schema.specs.declared.offers.NewItem.{NewItem}
use Rattle.rubis_shadow.specs.declared.shadows.Shadow.{Shadow}
use Rattle.rubis_shadow.specs.declared.shadows.Shadow.TheVariants.{User, Item, Bid, Buy, Close, Comment, Restock, Rename}
use Rattle.rubis_model.specs.Log.{Core, core}
use Rattle.rubis_message.specs.Message.{Message}

-- ---- what one shadow says of a row

-- it lists an item of the user
abbrev pub lists_item_of : Id → Shadow → Bool
lists_item_of u (Item n) = same_id u n.seller
lists_item_of u s = false

-- how many pieces the user bought
abbrev pub bought_by : Id → Shadow → ℕ
bought_by u (Buy p) = cond (same_id u p.buyer) p.quantity 0
bought_by u s = 0

-- it is a comment to the user, with this rating
abbrev pub rates : Id → Shadow → Bool
rates u (Comment c) = same_id u c.to
rates u s = false

-- the rating that a comment gives the user
abbrev pub rating_for : Id → Shadow → ℤ
rating_for u (Comment c) = cond (same_id u c.to) c.rating (pos 0)
rating_for u s = pos 0

-- how many pieces of the item were bought
abbrev pub sold_of : Id → Shadow → ℕ
sold_of i (Buy p) = cond (same_id i p.item) p.quantity 0
sold_of i s = 0

-- how many pieces of the item were added
abbrev pub restocked_of : Id → Shadow → ℕ
restocked_of i (Restock r) = cond (same_id i r.item) r.quantity 0
restocked_of i s = 0

-- it is a bid on the item
abbrev pub bids_on : Id → Shadow → Bool
bids_on i (Bid b) = same_id i b.item
bids_on i s = false

-- the amount of a bid
abbrev pub amount_of : Shadow → ℕ
amount_of (Bid b) = b.amount
amount_of s = 0

-- it is a close of the item
abbrev pub closes : Id → Shadow → Bool
closes i (Close c) = same_id i c.item
closes i s = false

-- the winner that a close names
abbrev pub winner_of : Shadow → Option Id
winner_of (Close c) = c.winner
winner_of s = None

-- it renames the user
abbrev pub renames : Id → Shadow → Bool
renames u (Rename r) = same_id u r.user
renames u s = false

-- the nickname that a rename gives
abbrev pub new_nick : Shadow → List ℕ
new_nick (Rename r) = r.to
new_nick s = []

-- it lists an item in the category, or closes one there
abbrev pub lists_in : ℕ → Shadow → Bool
lists_in k (Item n) = nat_eq k n.cat
lists_in k s = false

-- it closes an item of the category
abbrev pub closes_in : ℕ → Shadow → Bool
closes_in k (Close c) = nat_eq k c.cat
closes_in k s = false

-- ---- sums, counts and choices over a set

-- a sum of whole numbers over the messages
abbrev pub int_sum_by : (Core → ℤ) → List Core → ℤ
int_sum_by f a = fold (λ s m. s +ℤ f m) (pos 0) a

-- how many messages have a shadow that passes the test
abbrev pub count : (Shadow → Bool) → List Core → ℕ
count p a = count_by (λ m. p m.shadow) a

-- a sum over the shadows
abbrev pub total : (Shadow → ℕ) → List Core → ℕ
total f a = sum_by (λ m. f m.shadow) a

-- of the messages that pass, the one that no other beats
abbrev pub choice : (Core → Core → Bool) → (Core → Bool) → Option Core → Core → Option Core
choice beats p None m = cond (p m) (Some m) None
choice beats p (Some old) m = cond (p m && beats m old) (Some m) (Some old)

-- of the messages that pass the test, the one that beats the others; None if none passes
abbrev pub choose : (Core → Core → Bool) → (Core → Bool) → List Core → Option Core
choose beats p a = fold (choice beats p) None a

-- with the smaller red number
abbrev pub earlier : Core → Core → Bool
earlier m old = nat_lt m.red old.red

-- with the greater red number
abbrev pub later : Core → Core → Bool
later m old = nat_lt old.red m.red

-- of the greater amount, or of an equal one with the smaller red number
abbrev pub higher : Core → Core → Bool
higher m old = nat_lt (amount_of old.shadow) (amount_of m.shadow) || (nat_eq (amount_of m.shadow) (amount_of old.shadow) && earlier m old)

-- the highest bid of the item
abbrev pub best_bid : Id → List Core → Option Core
best_bid i a = choose higher (λ m. bids_on i m.shadow) a

-- the item's close; of several, the one with the smallest red number
abbrev pub close_of : Id → List Core → Option Core
close_of i a = choose earlier (λ m. closes i m.shadow) a

-- the last rename of the user
abbrev pub last_rename : Id → List Core → Option Core
last_rename u a = choose later (λ m. renames u m.shadow) a

-- ---- the shadow of an id, by kind

-- the nickname, if it makes a user
abbrev pub as_user : Shadow → Option (List ℕ)
as_user (User n) = Some n
as_user s = None

-- the new item, if it makes one
abbrev pub as_item : Shadow → Option NewItem
as_item (Item n) = Some n
as_item s = None

-- the row of the bid, if it is one
abbrev pub as_bid : ℕ → Shadow → Option BidRow
as_bid red (Bid b) = Some (record { item = b.item; bidder = b.bidder; amount = b.amount; red = red })
as_bid red s = None

-- the purchase, if it is one
abbrev pub as_purchase : Shadow → Option PurchaseRow
as_purchase (Buy p) = Some p
as_purchase s = None

-- the comment, if it is one
abbrev pub as_comment : Shadow → Option CommentRow
as_comment (Comment c) = Some c
as_comment s = None

-- the first value that there is
abbrev pub first : {X : Type 0} → (Core → Option X) → List Core → Option X
first f [] = None
first f (m ∷ ms) = option_or (f m) (first f ms)

-- the value, if the test holds
abbrev pub when : {X : Type 0} → Bool → Option X → Option X
when b o = cond b o None

-- what a message of this id is read as
abbrev pub at_id : {X : Type 0} → (Core → Option X) → Id → List Core → Option X
at_id f i a = first (λ m. when (same_id i m.id) (f m)) a

-- the user's first nickname
abbrev pub user_at : Id → List Core → Option (List ℕ)
user_at = at_id (λ m. as_user m.shadow)

-- the new item of this id
abbrev pub item_at : Id → List Core → Option NewItem
item_at = at_id (λ m. as_item m.shadow)

-- the nickname after the last rename, if there is one
abbrev pub nick_after : Option Core → List ℕ → List ℕ
nick_after None first = first
nick_after (Some m) first = new_nick m.shadow

-- the nickname of a user: that of its last rename, or else its first
abbrev pub nick_at : Id → List Core → Option (List ℕ)
nick_at u a = option_map (nick_after (last_rename u a)) (user_at u a)

-- the nickname is this one
abbrev pub is_same_nick : List ℕ → Option (List ℕ) → Bool
is_same_nick n None = false
is_same_nick n (Some k) = bytes_eq n k

-- the user that has the nickname; of several, the one with the smallest red number
abbrev pub named : List ℕ → List Core → Option Core
named n a = choose earlier (λ m. is_same_nick n (nick_at m.id a)) a

-- ---- the rows

-- a user: how many items it listed, how many pieces it bought, the sum of the ratings and the count of the comments to it
abbrev pub user_row : List Core → Id → List ℕ → Row
user_row a u nick = row.User (record {
  nick = nick;
  items = count (lists_item_of u) a;
  bought = total (bought_by u) a;
  rating = int_sum_by (λ m. rating_for u m.shadow) a;
  comments = count (rates u) a;
})

-- a bid, with its amount
abbrev pub best_of : Core → Best
best_of m = record { bid = m.id; amount = amount_of m.shadow }

-- open until there is a close; then ended, with the winner that the close names
abbrev pub sale_after : Option Core → Sale
sale_after None = Open
sale_after (Some m) = Ended (winner_of m.shadow)

-- what there was to sell of the item: the stock at its opening, and what was added
abbrev pub supply : List Core → Id → NewItem → ℕ
supply a i n = n.stock + total (restocked_of i) a

-- an item: what was sold, what is left, how many bids, the highest of them, and whether it was closed
abbrev pub item_row : List Core → Id → NewItem → Row
item_row a i n = row.Item (record {
  seller = n.seller;
  name = n.name;
  cat = n.cat;
  stock = supply a i n - total (sold_of i) a;
  sold = total (sold_of i) a;
  start = n.start;
  price = n.price;
  bids = count (bids_on i) a;
  best = option_map best_of (best_bid i a);
  sale = sale_after (close_of i a);
})

-- a category: how many items were listed in it, and how many of them weren't closed
abbrev pub category_row : List Core → ℕ → Row
category_row a k = row.Cat (record {
  items = count (lists_in k) a;
  live = pos (count (lists_in k) a) -ℤ pos (count (closes_in k) a);
})

-- the row of each key that the set means
unfoldable pub meaning_row : List Core → RowKey → Option Row
meaning_row a (key.User u) = option_map (user_row a u) (nick_at u a)
meaning_row a (key.Item i) = option_map (item_row a i) (item_at i a)
meaning_row a (key.Bid i) = option_map row.Bid (at_id (λ m. as_bid m.red m.shadow) i a)
meaning_row a (key.Purchase i) = option_map row.Purchase (at_id (λ m. as_purchase m.shadow) i a)
meaning_row a (key.Comment i) = option_map row.Comment (at_id (λ m. as_comment m.shadow) i a)
meaning_row a (key.Nick n) = option_map (λ m. row.Nick m.id) (named n a)
meaning_row a (key.Cat k) = when (nat_lt k 1000) (Some (category_row a k))

-- the tables are the meaning of the set: they have exactly these rows
pub record IsMeaning (a : List Core) (t : Tables) : Type 0 where
  pub rows : (q : RowKey) → map.get t q ≡ meaning_row a q

-- ---- the accepted bids of an item, over all sites, and the highest of them

-- an accepted bid on the item: one of all these messages
abbrev pub IsAcceptedBid : (Message → Type 0) → Id → Message → Type 0
IsAcceptedBid all item b = (all b) × (bids_on item b.shadow ≡ true)

-- the id of an accepted bid such that no accepted bid is higher; `None` if and only if there is no accepted bid
abbrev pub IsHighestBid : (Message → Type 0) → Id → Option Id → Type 0
IsHighestBid all item None = (b : Message) → IsAcceptedBid all item b → ⊥
IsHighestBid all item (Some id) =
    (b : Message) × (IsAcceptedBid all item b) × (b.stamp.id ≡ id) × ((c : Message) → IsAcceptedBid all item c → higher (core c) (core b) ≡ false)
