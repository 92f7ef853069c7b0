-- What a shadow is, kind by kind: its colour, the version of its records, its parts, the rows that it takes to be there, and its limits.
use Rattle.std.specs.Prelude.{Bool, true, false, cond, ℕ, pos, ◌≡◌, ◌<◌, ◌≤◌, ⊤, List, [], ◌∷◌, map, Option, Some, None, IfSome, unsigned_abs, codes}
use Rattle.rubis_schema.specs.Ids.{IsId}
use Rattle.rubis_schema.specs.NumberForms.{RATING_MAX}
use Rattle.rubis_schema.specs.declared.ids.Id.{Id}
use Rattle.rubis_schema.specs.declared.limits.TheConstants.{AMOUNT_MAX, CATEGORIES, QUANTITY_MAX}
use Rattle.rubis_schema.specs.declared.row_keys.RowKey.{RowKey}
use Rattle.rubis_schema.specs.declared.row_keys.RowKey.TheVariants as key
use Rattle.rubis_schema.specs.declared.rows.Row.TheVariants as row
use Rattle.rubis_schema.specs.declared.rows.CommentRow.{CommentRow}
use Rattle.rubis_schema.specs.declared.rows.ItemRow.{ItemRow}
use Rattle.rubis_schema.specs.declared.rows.PurchaseRow.{PurchaseRow}
use Rattle.rubis_schema.specs.declared.rows.Sale.TheVariants.{Open}
use Rattle.rubis_schema.specs.declared.rows.UserRow.{UserRow}
use Rattle.rubis_shadow.specs.Freed.{FreesOnlyNicks}
use Rattle.rubis_shadow.specs.declared.changes.Change.{Change}
use Rattle.rubis_shadow.specs.declared.changes.Change.TheVariants.{Insert, ItemListed, Bought, Rated, CatListed, CatEnded, BidTaken, Sold}
use Rattle.rubis_shadow.specs.declared.changes.Change.TheVariants.{End, Restocked, Renamed, NickFreed}
use Rattle.rubis_shadow.specs.declared.keyed_change.Effect.{Effect}
use Rattle.rubis_shadow.specs.declared.shadows.Ask.{Ask}
use Rattle.rubis_shadow.specs.declared.shadows.Ask.TheVariants as ask
use Rattle.rubis_shadow.specs.declared.shadows.Colour.{Colour}
use Rattle.rubis_shadow.specs.declared.shadows.Colour.TheVariants.{Red, Blue}
use Rattle.rubis_shadow.specs.declared.shadows.NewBid.{NewBid}
use Rattle.rubis_schema.specs.declared.offers.NewItem.{NewItem}
use Rattle.rubis_shadow.specs.declared.shadows.Shadow.{Shadow}
use Rattle.rubis_shadow.specs.declared.shadows.Shadow.TheVariants.{User, Item, Bid, Buy, Close, Comment, Restock, Rename}

-- users, bids, buys, closes and renames are red: they are totally ordered; items, comments and restocks are blue
abbrev pub is_red : Shadow → Bool
is_red (User n) = true
is_red (Item n) = false
is_red (Bid b) = true
is_red (Buy p) = true
is_red (Close c) = true
is_red (Comment c) = false
is_red (Restock r) = false
is_red (Rename r) = true

-- red or blue
abbrev pub colour_of : Shadow → Colour
colour_of shadow = cond (is_red shadow) Red Blue

-- the version of a message's record: restocks and renames came with the second version of the format, the six other kinds with the first
abbrev pub version_of : Shadow → List ℕ
version_of (User n) = codes "1"
version_of (Item n) = codes "1"
version_of (Bid b) = codes "1"
version_of (Buy p) = codes "1"
version_of (Close c) = codes "1"
version_of (Comment c) = codes "1"
version_of (Restock r) = codes "2"
version_of (Rename r) = codes "2"

-- ---- parts

-- a change of the row at a key, with the proof that only a nickname is given up
abbrev pub part : (k : RowKey) (c : Change) → FreesOnlyNicks k c → Effect
part k c h = record { key = k; change = c; frees = h }

-- a new user has listed and bought nothing, and is not rated
abbrev pub new_user : List ℕ → UserRow
new_user n = record { nick = n; items = 0; bought = 0; rating = pos 0; comments = 0 }

-- a new item has sold nothing, has no bids and can be bid for
abbrev pub new_item : NewItem → ItemRow
new_item n =
    record { seller = n.seller; name = n.name; cat = n.cat; stock = n.stock; sold = 0; start = n.start; price = n.price; bids = 0; best = None; sale = Open }

-- the one to three parts of the shadow with that id and red number, in order, each a change of the row at one key
abbrev pub parts : Id → ℕ → Shadow → List Effect
parts id red (User n) =
    part (key.User id) (Insert (row.User (new_user n))) tt
    ∷ part (key.Nick n) (Insert (row.Nick id)) tt ∷ []
parts id red (Item n) =
    part (key.Item id) (Insert (row.Item (new_item n))) tt
    ∷ part (key.User n.seller) ItemListed tt ∷ part (key.Cat n.cat) CatListed tt ∷ []
parts id red (Bid b) =
    part (key.Bid id) (Insert (row.Bid (record { item = b.item; bidder = b.bidder; amount = b.amount; red = red }))) tt
    ∷ part (key.Item b.item) (BidTaken (record { bid = id; amount = b.amount })) tt ∷ []
parts id red (Buy p) =
    part (key.Purchase id) (Insert (row.Purchase p)) tt
    ∷ part (key.Item p.item) (Sold p.quantity) tt ∷ part (key.User p.buyer) (Bought p.quantity) tt ∷ []
parts id red (Close c) = part (key.Item c.item) (End c.winner) tt ∷ part (key.Cat c.cat) CatEnded tt ∷ []
parts id red (Comment c) = part (key.Comment id) (Insert (row.Comment c)) tt ∷ part (key.User c.to) (Rated c.rating) tt ∷ []
parts id red (Restock r) = part (key.Item r.item) (Restocked r.quantity) tt ∷ []
parts id red (Rename r) =
    part (key.User r.user) (Renamed r.to) tt ∷ part (key.Nick r.from) (NickFreed r.user) tt
    ∷ part (key.Nick r.to) (Insert (row.Nick r.user)) tt ∷ []

-- the key of the one row that the part changes
abbrev pub key_of : Effect → RowKey
key_of e = e.key

-- the keys of the parts, which no red number changes
abbrev pub footprint_of : Id → Shadow → List RowKey
footprint_of id shadow = map key_of (parts id 0 shadow)

-- the key of the winning bid, if there is one
abbrev pub winner_key : Option Id → List RowKey
winner_key None = []
winner_key (Some bid) = key.Bid bid ∷ []

-- the keys of the rows that the shadow takes to be there
abbrev pub refers_of : Shadow → List RowKey
refers_of (User n) = []
refers_of (Item n) = key.User n.seller ∷ []
refers_of (Bid b) = key.Item b.item ∷ key.User b.bidder ∷ []
refers_of (Buy p) = key.Item p.item ∷ key.User p.buyer ∷ []
refers_of (Close c) = key.Item c.item ∷ winner_key c.winner
refers_of (Comment c) = key.Item c.item ∷ key.User c.from ∷ key.User c.to ∷ []
refers_of (Restock r) = key.Item r.item ∷ []
refers_of (Rename r) = key.User r.user ∷ []

-- ---- limits

-- a quantity, or a stock at the opening: at least 1
pub record IsQuantity (n : ℕ) : Type 0 where
  pub positive : 1 ≤ n
  pub small : n ≤ QUANTITY_MAX

-- a start price or an amount: at least 1
pub record IsAmount (n : ℕ) : Type 0 where
  pub positive : 1 ≤ n
  pub small : n ≤ AMOUNT_MAX

-- a new item with its ids and numbers within the limits, among `sites` sites
pub record IsNewItem (sites : ℕ) (n : NewItem) : Type 0 where
  pub seller : IsId sites n.seller
  pub cat : n.cat < CATEGORIES
  pub stock : IsQuantity n.stock
  pub start : IsAmount n.start
  pub price : n.price ≤ AMOUNT_MAX

-- a bid with its ids and its amount within the limits, among `sites` sites
pub record IsNewBid (sites : ℕ) (b : NewBid) : Type 0 where
  pub item : IsId sites b.item
  pub bidder : IsId sites b.bidder
  pub amount : IsAmount b.amount

-- a purchase with its ids and its quantity within the limits, among `sites` sites
pub record IsPurchase (sites : ℕ) (p : PurchaseRow) : Type 0 where
  pub item : IsId sites p.item
  pub buyer : IsId sites p.buyer
  pub quantity : IsQuantity p.quantity

-- a comment with its ids and its rating within the limits, among `sites` sites
pub record IsComment (sites : ℕ) (c : CommentRow) : Type 0 where
  pub item : IsId sites c.item
  pub from : IsId sites c.from
  pub to : IsId sites c.to
  pub rating : unsigned_abs c.rating ≤ RATING_MAX

-- an ask within the limits
abbrev pub IsAsk : ℕ → Ask → Type 0
IsAsk sites (ask.User n) = ⊤
IsAsk sites (ask.Item n) = IsNewItem sites n
IsAsk sites (ask.Bid b) = IsNewBid sites b
IsAsk sites (ask.Buy p) = IsPurchase sites p
IsAsk sites (ask.Close c) = IsId sites c.item × IsId sites c.seller
IsAsk sites (ask.Comment c) = IsComment sites c
IsAsk sites (ask.Restock r) = IsId sites r.item × IsId sites r.seller × IsQuantity r.quantity
IsAsk sites (ask.Rename r) = IsId sites r.user

-- a shadow within the limits
abbrev pub InLimits : ℕ → Shadow → Type 0
InLimits sites (User n) = ⊤
InLimits sites (Item n) = IsNewItem sites n
InLimits sites (Bid b) = IsNewBid sites b
InLimits sites (Buy p) = IsPurchase sites p
InLimits sites (Close c) = IsId sites c.item × (c.cat < CATEGORIES) × IfSome c.winner (IsId sites)
InLimits sites (Comment c) = IsComment sites c
InLimits sites (Restock r) = IsId sites r.item × IsQuantity r.quantity
InLimits sites (Rename r) = IsId sites r.user × ¬ (r.from ≡ r.to)
