-- The fields of the records that say what is asked and what is sent.
use Rattle.std.specs.Prelude.{◌≡◌, ℕ, ◌+◌, ◌^◌, ◌<◌, ◌≤◌, ⊤, List, [], ◌∷◌, ◌++◌, All, length, map, slice_index, Option, Some, None, codes, decimal}
use Rattle.std.specs.List.{join_with_byte}
use Rattle.rubis_schema.specs.Ids.{IsId, id_text, int_text}
use Rattle.rubis_schema.specs.FieldForms.{IsNick, IsName, IsText}
use Rattle.rubis_schema.specs.declared.ids.Id.{Id}
use Rattle.rubis_schema.specs.declared.limits.TheConstants.{CATEGORIES, COUNT_MAX, PASS_MAX, TURN_MAX}
use Rattle.rubis_schema.specs.declared.listings.Listing.{Listing}
use Rattle.rubis_schema.specs.declared.listings.Listing.TheVariants.{Users, Items, Bids, Purchases, Comments, Categories, Log, Misfits, Tables}
use Rattle.rubis_schema.specs.declared.rows.PurchaseRow.{PurchaseRow}
use Rattle.rubis_schema.specs.declared.rows.CommentRow.{CommentRow}
use Rattle.rubis_shadow.specs.Shadows.{IsAsk, version_of}
use Rattle.rubis_shadow.specs.declared.shadows.Ask.{Ask}
use Rattle.rubis_shadow.specs.declared.shadows.Ask.TheVariants as ask
use Rattle.rubis_shadow.specs.declared.shadows.AskedClose.{AskedClose}
use Rattle.rubis_shadow.specs.declared.shadows.AskedRename.{AskedRename}
use Rattle.rubis_shadow.specs.declared.shadows.AskedRestock.{AskedRestock}
use Rattle.rubis_schema.specs.declared.offers.NewItem.{NewItem}
use Rattle.rubis_shadow.specs.declared.shadows.NewBid.{NewBid}
use Rattle.rubis_shadow.specs.declared.shadows.NewClose.{NewClose}
use Rattle.rubis_shadow.specs.Renames.{NewRename}
use Rattle.rubis_shadow.specs.declared.shadows.NewRestock.{NewRestock}
use Rattle.rubis_shadow.specs.declared.shadows.Shadow.{Shadow}
use Rattle.rubis_shadow.specs.declared.shadows.Shadow.TheVariants as shadow
use Rattle.rubis_clock.specs.declared.stamps.Stamp.{Stamp}
use Rattle.rubis_message.specs.Message.{Message, IsMessage, sites_of}
use Rattle.rubis_message.specs.declared.requests.Request.{Request}
use Rattle.rubis_message.specs.declared.requests.Request.TheVariants as request
use Rattle.rubis_message.specs.declared.tokens.Token.{Token}
use Rattle.rubis_message.specs.declared.tokens.Packet.{Packet}
use Rattle.rubis_message.specs.declared.tokens.Packet.TheVariants as packet

-- ---- what follows the word for a kind

-- of a new item: seller, name, category, stock, start price, price to buy at once
abbrev pub item_fields : NewItem → List (List ℕ)
item_fields n = id_text n.seller ∷ n.name ∷ decimal n.cat ∷ decimal n.stock ∷ decimal n.start ∷ decimal n.price ∷ []

-- of a bid: item, bidder, amount
abbrev pub bid_fields : NewBid → List (List ℕ)
bid_fields b = id_text b.item ∷ id_text b.bidder ∷ decimal b.amount ∷ []

-- of a purchase: item, buyer, quantity
abbrev pub purchase_fields : PurchaseRow → List (List ℕ)
purchase_fields p = id_text p.item ∷ id_text p.buyer ∷ decimal p.quantity ∷ []

-- of a comment: item, who writes it, to whom, rating, text
abbrev pub comment_fields : CommentRow → List (List ℕ)
comment_fields c = id_text c.item ∷ id_text c.from ∷ id_text c.to ∷ int_text c.rating ∷ c.text ∷ []

-- of a close that is asked for: item, seller
abbrev pub asked_close_fields : AskedClose → List (List ℕ)
asked_close_fields c = id_text c.item ∷ id_text c.seller ∷ []

-- a winner is an id, or `none`
abbrev pub winner_text : Option Id → List ℕ
winner_text None = codes "none"
winner_text (Some id) = id_text id

-- of a close that was decided: item, category, winner, which is an id or `none`
abbrev pub close_fields : NewClose → List (List ℕ)
close_fields c = id_text c.item ∷ decimal c.cat ∷ winner_text c.winner ∷ []

-- of a restock that is asked for: item, seller, quantity
abbrev pub asked_restock_fields : AskedRestock → List (List ℕ)
asked_restock_fields r = id_text r.item ∷ id_text r.seller ∷ decimal r.quantity ∷ []

-- of a restock that was decided: item, quantity
abbrev pub restock_fields : NewRestock → List (List ℕ)
restock_fields r = id_text r.item ∷ decimal r.quantity ∷ []

-- of a rename that is asked for: user, new nickname
abbrev pub asked_rename_fields : AskedRename → List (List ℕ)
asked_rename_fields r = id_text r.user ∷ r.nick ∷ []

-- of a rename that was decided: user, old nickname, new nickname
abbrev pub rename_fields : NewRename → List (List ℕ)
rename_fields r = id_text r.user ∷ r.from ∷ r.to ∷ []

-- ---- requests

-- the record of an ask: the word for its kind, then its fields
abbrev pub ask_record : Ask → List (List ℕ)
ask_record (ask.User n) = codes "user" ∷ n ∷ []
ask_record (ask.Item n) = codes "item" ∷ item_fields n
ask_record (ask.Bid b) = codes "bid" ∷ bid_fields b
ask_record (ask.Buy p) = codes "buy" ∷ purchase_fields p
ask_record (ask.Close c) = codes "close" ∷ asked_close_fields c
ask_record (ask.Comment c) = codes "comment" ∷ comment_fields c
ask_record (ask.Restock r) = codes "restock" ∷ asked_restock_fields r
ask_record (ask.Rename r) = codes "rename" ∷ asked_rename_fields r

-- what a listing shows, and of which row
abbrev pub listing_fields : Listing → List (List ℕ)
listing_fields Users = codes "users" ∷ []
listing_fields (Items cat) = codes "items" ∷ decimal cat ∷ []
listing_fields (Bids item) = codes "bids" ∷ id_text item ∷ []
listing_fields (Purchases item) = codes "purchases" ∷ id_text item ∷ []
listing_fields (Comments user) = codes "comments" ∷ id_text user ∷ []
listing_fields Categories = codes "categories" ∷ []
listing_fields Log = codes "log" ∷ []
listing_fields Misfits = codes "misfits" ∷ []
listing_fields Tables = codes "tables" ∷ []

-- the record of a request: an ask, `pass` and a site, or `list` and what is shown
abbrev pub request_record : Request → List (List ℕ)
request_record (request.Ask a) = ask_record a
request_record (request.Pass to) = codes "pass" ∷ decimal to ∷ []
request_record (request.List l) = codes "list" ∷ listing_fields l

-- the texts of an ask are in their grammars
abbrev pub HasTexts : Ask → Type 0
HasTexts (ask.User n) = IsNick n
HasTexts (ask.Item n) = IsName n.name
HasTexts (ask.Bid b) = ⊤
HasTexts (ask.Buy p) = ⊤
HasTexts (ask.Close c) = ⊤
HasTexts (ask.Comment c) = IsText c.text
HasTexts (ask.Restock r) = ⊤
HasTexts (ask.Rename r) = IsNick r.nick

-- the category or the id of a listing is within its limits
abbrev pub IsListing : ℕ → Listing → Type 0
IsListing sites Users = ⊤
IsListing sites (Items cat) = cat < CATEGORIES
IsListing sites (Bids item) = IsId sites item
IsListing sites (Purchases item) = IsId sites item
IsListing sites (Comments user) = IsId sites user
IsListing sites Categories = ⊤
IsListing sites Log = ⊤
IsListing sites Misfits = ⊤
IsListing sites Tables = ⊤

-- a request within the limits when there are `sites` sites
abbrev pub IsRequest : ℕ → Request → Type 0
IsRequest sites (request.Ask a) = IsAsk sites a × HasTexts a
IsRequest sites (request.Pass to) = to ≤ PASS_MAX
IsRequest sites (request.List l) = IsListing sites l

-- ---- packets
-- counts are joined by `:`
abbrev pub deps_text : List ℕ → List ℕ
deps_text counts = join_with_byte 58 (map decimal counts)

-- the word for the shadow's kind, then its fields
abbrev pub shadow_fields : Shadow → List (List ℕ)
shadow_fields (shadow.User n) = codes "user" ∷ n ∷ []
shadow_fields (shadow.Item n) = codes "item" ∷ item_fields n
shadow_fields (shadow.Bid b) = codes "bid" ∷ bid_fields b
shadow_fields (shadow.Buy p) = codes "buy" ∷ purchase_fields p
shadow_fields (shadow.Close c) = codes "close" ∷ close_fields c
shadow_fields (shadow.Comment c) = codes "comment" ∷ comment_fields c
shadow_fields (shadow.Restock r) = codes "restock" ∷ restock_fields r
shadow_fields (shadow.Rename r) = codes "rename" ∷ rename_fields r

-- site, number, red number, and the counts
abbrev pub stamp_fields : Stamp → List (List ℕ)
stamp_fields s = decimal s.id.site ∷ decimal s.id.seq ∷ decimal s.red ∷ deps_text s.deps ∷ []

-- a message: its stamp, then its shadow
abbrev pub message_fields : Message → List (List ℕ)
message_fields m = stamp_fields m.stamp ++ shadow_fields m.shadow

-- the token: turn, site that it is for, red numbers that were issued
abbrev pub token_fields : Token → List (List ℕ)
token_fields t = decimal t.turn ∷ decimal t.to ∷ decimal t.issued ∷ []

-- the second field is the version
abbrev pub message_record : Message → List (List ℕ)
message_record m = codes "msg" ∷ version_of m.shadow ∷ message_fields m

-- the version of a token's record
abbrev pub token_version : List ℕ
token_version = codes "1"

-- the record of a token; its second field is the version
abbrev pub token_record : Token → List (List ℕ)
token_record t = codes "token" ∷ token_version ∷ token_fields t

-- the record of what is sent: of a message or of the token
abbrev pub packet_record : Packet → List (List ℕ)
packet_record (packet.Msg m) = message_record m
packet_record (packet.Token t) = token_record t

-- the texts of a shadow are in their grammars
abbrev pub HasShadowTexts : Shadow → Type 0
HasShadowTexts (shadow.User n) = IsNick n
HasShadowTexts (shadow.Item n) = IsName n.name
HasShadowTexts (shadow.Bid b) = ⊤
HasShadowTexts (shadow.Buy p) = ⊤
HasShadowTexts (shadow.Close c) = ⊤
HasShadowTexts (shadow.Comment c) = IsText c.text
HasShadowTexts (shadow.Restock r) = ⊤
HasShadowTexts (shadow.Rename r) = IsNick r.from × IsNick r.to

-- a stamp among `sites` sites
pub record IsStamp (sites : ℕ) (s : Stamp) : Type 0 where
  pub counted : length s.deps ≡ sites
  pub id : IsId sites s.id
  pub own : s.id.seq ≡ slice_index s.deps s.id.site + 1
  pub counts : All (λ n. n ≤ COUNT_MAX) s.deps
  pub red : s.red ≤ COUNT_MAX

-- a message among `sites` sites, with its texts in their grammars
abbrev pub IsMessageAmong : ℕ → Message → Type 0
IsMessageAmong sites m = IsMessage m × (sites_of m ≡ sites) × HasShadowTexts m.shadow

-- a token among `sites` sites
pub record IsToken (sites : ℕ) (t : Token) : Type 0 where
  pub turn : t.turn ≤ TURN_MAX
  pub to : t.to < sites
  pub issued : t.issued ≤ COUNT_MAX

-- a packet among `sites` sites
abbrev pub IsPacket : ℕ → Packet → Type 0
IsPacket sites (packet.Msg m) = IsMessageAmong sites m
IsPacket sites (packet.Token t) = IsToken sites t

-- ---- one reading
-- no record is that of two requests
abbrev pub RequestsHaveOneReading : Type 0
RequestsHaveOneReading =
    (sites : ℕ) → sites < 2 ^ 8 → (q r : Request) → IsRequest sites q → IsRequest sites r → request_record q ≡ request_record r → q ≡ r

-- no record is that of two packets
abbrev pub PacketsHaveOneReading : Type 0
PacketsHaveOneReading =
    (sites : ℕ) → sites < 2 ^ 8 → (p q : Packet) → IsPacket sites p → IsPacket sites q → packet_record p ≡ packet_record q → p ≡ q

-- no record is that of a request and of a packet
abbrev pub NoRequestIsAPacket : Type 0
NoRequestIsAPacket = (r : Request) (p : Packet) → ¬ (request_record r ≡ packet_record p)
