-- The request, and the packet, that the fields of a record are, by the forms of the first ones.
use Rattle.std.specs.Prelude.{◌≡◌, ℕ, ℤ, Bool, true, false, cond, nat_lt, bytes_eq, codes, List, [], ◌∷◌, Option, Some, None, option_map, Result, Ok, Err, ⊤}
use Rattle.std.specs.Prelude.{◌↔◌, ◌<◌, ◌≤◌, ◌^◌, ◌+◌, ◌==◌, not, find, slice_index}
use Rattle.rubis_schema.specs.NumberForms.{number_of, rating_of}
use Rattle.rubis_schema.specs.FieldForms.{id_of, name_of, nick_of, text_of}
use Rattle.rubis_schema.specs.declared.ids.Id.{Id}
use Rattle.rubis_message.specs.Counts.{deps_of}
use Rattle.rubis_message.specs.declared.faults.ReadFault.{ReadFault}
use Rattle.rubis_message.specs.declared.faults.ReadFault.TheVariants.{BadRecord, Memory}
use Rattle.rubis_schema.specs.declared.listings.Listing.{Listing}
use Rattle.rubis_schema.specs.declared.listings.Listing.TheVariants as listing
use Rattle.rubis_schema.specs.declared.limits.TheConstants.{AMOUNT_MAX, CAT_MAX, COUNTED_MAX, COUNT_MAX, PASS_MAX, QUANTITY_MAX, SEQ_MAX, TURN_MAX}
use Rattle.rubis_schema.specs.declared.rows.PurchaseRow.{PurchaseRow}
use Rattle.rubis_schema.specs.declared.rows.CommentRow.{CommentRow}
use Rattle.rubis_shadow.specs.Shadows.{is_red, version_of}
use Rattle.rubis_shadow.specs.declared.shadows.Ask.TheVariants as ask
use Rattle.rubis_shadow.specs.declared.shadows.AskedClose.{AskedClose}
use Rattle.rubis_shadow.specs.declared.shadows.AskedRename.{AskedRename}
use Rattle.rubis_shadow.specs.declared.shadows.AskedRestock.{AskedRestock}
use Rattle.rubis_schema.specs.declared.offers.NewItem.{NewItem}
use Rattle.rubis_shadow.specs.declared.shadows.NewBid.{NewBid}
use Rattle.rubis_shadow.specs.declared.shadows.NewClose.{NewClose}
use Rattle.rubis_shadow.specs.Renames.{NewRename}
use Rattle.rubis_shadow.specs.declared.shadows.NewRestock.{NewRestock}
use Rattle.rubis_shadow.specs.declared.shadows.Shadow.{Shadow}
use Rattle.rubis_shadow.specs.declared.shadows.Shadow.TheVariants as shadow
use Rattle.rubis_clock.specs.declared.stamps.Stamp.{Stamp}
use Rattle.rubis_message.specs.Grammar.{IsPacket, IsRequest, packet_record, request_record, token_version}
use Rattle.rubis_message.specs.Message.{Message}
use Rattle.rubis_message.specs.declared.kinds.RecordKind.{RecordKind}
use Rattle.rubis_message.specs.declared.kinds.RecordKind.TheVariants as kind
use Rattle.rubis_message.specs.declared.words.Shown.{Shown}
use Rattle.rubis_message.specs.declared.words.Shown.TheVariants as shown
use Rattle.rubis_message.specs.declared.requests.Request.{Request}
use Rattle.rubis_message.specs.declared.requests.Request.TheVariants as request
use Rattle.rubis_message.specs.declared.tokens.Token.{Token}
use Rattle.rubis_message.specs.declared.tokens.Packet.{Packet}
use Rattle.rubis_message.specs.declared.tokens.Packet.TheVariants as packet

-- a form reads the first fields of a record: a value and the fields after it, or there is none
abbrev pub Form : Type 0 → Type 0
Form A = List (List ℕ) → Option (A × List (List ℕ))

-- what a reader of that form promises: an Ok is what the form reads, and BadRecord says that it reads nothing
abbrev pub Takes : {A : Type 0} → Form A → List (List ℕ) → List (List ℕ) → Result A ReadFault → Type 0
Takes form fields rest (Ok x) = form fields ≡ Some (x, rest)
Takes form fields rest (Err BadRecord) = form fields ≡ None
Takes form fields rest (Err Memory) = ⊤

abbrev pub followed_by : {A B : Type 0} → Option (A × List (List ℕ)) → (A → Form B) → Option (B × List (List ℕ))
followed_by None next = None
followed_by (Some p) next = next p.0 p.1

-- one form, and then the next
infixl 10 ◌>>=◌
abbrev pub ◌>>=◌ : {A B : Type 0} → Form A → (A → Form B) → Form B
(form >>= next) fields = followed_by (form fields) next

infixl 10 ◌>>◌
abbrev pub ◌>>◌ : {A B : Type 0} → Form A → Form B → Form B
(form >> next) fields = followed_by (form fields) (λ _. next)

-- reads nothing and gives this value
abbrev pub give : {A : Type 0} → A → Form A
give x fields = Some (x, fields)

-- gives none
abbrev pub none : {A : Type 0} → Form A
none fields = None

-- the value, made of what the form reads
abbrev pub mapped : {A B : Type 0} → (A → B) → Form A → Form B
mapped make form fields = followed_by (form fields) (λ x. give (make x))

-- nothing is read; none if the test fails
abbrev pub check : Bool → Form (Unit {0})
check true fields = Some (tt, fields)
check false fields = None

-- what the form reads; none if the test fails of it
abbrev pub kept : {A : Type 0} → (A → Bool) → Form A → Form A
kept test form = form >>= (λ x. check (test x) >> give x)

-- no field is left
abbrev pub at_end : Form (Unit {0})
at_end [] = Some (tt, [])
at_end (field ∷ rest) = None

abbrev pub no_more : {A : Type 0} → Option (A × List (List ℕ)) → Option A
no_more None = None
no_more (Some p) = option_map (λ _. p.0) (at_end p.1)

-- all fields of a record
abbrev pub whole : {A : Type 0} → Form A → List (List ℕ) → Option A
whole form fields = no_more (form fields)

-- ---- single fields

abbrev pub beside : {A : Type 0} → List (List ℕ) → Option A → Option (A × List (List ℕ))
beside rest o = option_map (λ x. (x, rest)) o

-- one field, by what it is read as
abbrev pub one : {A : Type 0} → (List ℕ → Option A) → Form A
one read [] = None
one read (field ∷ rest) = beside rest (read field)

-- a number, up to the greatest
abbrev pub take_number : ℕ → Form ℕ
take_number high = one (number_of high)

-- a number from 1 on
unfoldable pub take_positive : ℕ → Form ℕ
take_positive high = kept (nat_lt 0) (take_number high)

-- the number of a site, below `sites`
unfoldable pub take_site : ℕ → Form ℕ
take_site sites = kept (λ n. nat_lt n sites) (take_number 255)

-- an id whose site is below `sites`
abbrev pub take_id : ℕ → Form Id
take_id sites = one (id_of sites)

-- an id whose site is below `sites`, or `none`
unfoldable pub id_or_none : ℕ → List ℕ → Option (Option Id)
id_or_none sites field = cond (bytes_eq field (codes "none")) (Some None) (option_map Some (id_of sites field))

-- a winner: an id, or `none`
abbrev pub take_winner : ℕ → Form (Option Id)
take_winner sites = one (id_or_none sites)

-- a rating
abbrev pub take_rating : Form ℤ
take_rating = one rating_of

-- a nickname
abbrev pub take_nick : Form (List ℕ)
take_nick = one nick_of

-- a name
abbrev pub take_name : Form (List ℕ)
take_name = one name_of

-- a text
abbrev pub take_text : Form (List ℕ)
take_text = one text_of

-- the counts of `sites` sites
abbrev pub take_deps : ℕ → Form (List ℕ)
take_deps sites = one (deps_of sites)

-- ---- the request, and the packet, that the fields of a record are: the word for its kind, and what follows it

-- ---- words

-- the first of `all` whose word, its `text`, is the field
abbrev pub said : {A : Type 0} → (A → List ℕ) → List A → List ℕ → Option A
said text all field = find (λ x. bytes_eq field (text x)) all

-- the word for a kind
abbrev pub kind_text : RecordKind → List ℕ
kind_text kind.User = codes "user"
kind_text kind.Item = codes "item"
kind_text kind.Bid = codes "bid"
kind_text kind.Buy = codes "buy"
kind_text kind.Close = codes "close"
kind_text kind.Comment = codes "comment"
kind_text kind.Pass = codes "pass"
kind_text kind.List = codes "list"
kind_text kind.Restock = codes "restock"
kind_text kind.Rename = codes "rename"

-- all kinds
abbrev pub kinds : List RecordKind
kinds = kind.User ∷ kind.Item ∷ kind.Bid ∷ kind.Buy ∷ kind.Close ∷ kind.Comment ∷ kind.Pass ∷ kind.List ∷ kind.Restock ∷ kind.Rename ∷ []

-- the kind that a word says
unfoldable pub kind_of : List ℕ → Option RecordKind
kind_of = said kind_text kinds

-- the word for what a listing shows
abbrev pub shown_text : Shown → List ℕ
shown_text shown.Users = codes "users"
shown_text shown.Items = codes "items"
shown_text shown.Bids = codes "bids"
shown_text shown.Purchases = codes "purchases"
shown_text shown.Comments = codes "comments"
shown_text shown.Categories = codes "categories"
shown_text shown.Log = codes "log"
shown_text shown.Misfits = codes "misfits"
shown_text shown.Tables = codes "tables"

-- all that a listing can show
abbrev pub all_shown : List Shown
all_shown =
    shown.Users ∷ shown.Items ∷ shown.Bids ∷ shown.Purchases ∷ shown.Comments
    ∷ shown.Categories ∷ shown.Log ∷ shown.Misfits ∷ shown.Tables ∷ []

-- what a word says to show
unfoldable pub shown_of : List ℕ → Option Shown
shown_of = said shown_text all_shown

-- ---- what follows the word for a kind

-- a new item, from its fields in the order of `item_fields`
unfoldable pub take_item : ℕ → Form NewItem
take_item sites = do
  seller ← take_id sites
  name ← take_name
  cat ← take_number CAT_MAX
  stock ← take_positive QUANTITY_MAX
  start ← take_positive AMOUNT_MAX
  price ← take_number AMOUNT_MAX
  give (record { seller = seller; name = name; cat = cat; stock = stock; start = start; price = price })

-- a bid, from the fields of `bid_fields`
unfoldable pub take_bid : ℕ → Form NewBid
take_bid sites = do
  item ← take_id sites
  bidder ← take_id sites
  amount ← take_positive AMOUNT_MAX
  give (record { item = item; bidder = bidder; amount = amount })

-- a purchase, from the fields of `purchase_fields`
unfoldable pub take_purchase : ℕ → Form PurchaseRow
take_purchase sites = do
  item ← take_id sites
  buyer ← take_id sites
  quantity ← take_positive QUANTITY_MAX
  give (record { item = item; buyer = buyer; quantity = quantity })

-- a close that is asked for, from the fields of `asked_close_fields`
unfoldable pub take_asked_close : ℕ → Form AskedClose
take_asked_close sites = do
  item ← take_id sites
  seller ← take_id sites
  give (record { item = item; seller = seller })

-- a close that was decided, from the fields of `close_fields`
unfoldable pub take_close : ℕ → Form NewClose
take_close sites = do
  item ← take_id sites
  cat ← take_number CAT_MAX
  winner ← take_winner sites
  give (record { item = item; cat = cat; winner = winner })

-- a comment, from the fields of `comment_fields`
unfoldable pub take_comment : ℕ → Form CommentRow
take_comment sites = do
  item ← take_id sites
  from ← take_id sites
  to ← take_id sites
  rating ← take_rating
  text ← take_text
  give (record { item = item; from = from; to = to; rating = rating; text = text })

-- a restock that is asked for, from the fields of `asked_restock_fields`
unfoldable pub take_asked_restock : ℕ → Form AskedRestock
take_asked_restock sites = do
  item ← take_id sites
  seller ← take_id sites
  quantity ← take_positive QUANTITY_MAX
  give (record { item = item; seller = seller; quantity = quantity })

-- a restock that was decided, from the fields of `restock_fields`
unfoldable pub take_restock : ℕ → Form NewRestock
take_restock sites = do
  item ← take_id sites
  quantity ← take_positive QUANTITY_MAX
  give (record { item = item; quantity = quantity })

-- a rename that is asked for, from the fields of `asked_rename_fields`
unfoldable pub take_asked_rename : ℕ → Form AskedRename
take_asked_rename sites = do
  user ← take_id sites
  nick ← take_nick
  give (record { user = user; nick = nick })

-- the two nicknames differ
unfoldable pub take_rename : ℕ → Form NewRename
take_rename sites = do
  user ← take_id sites
  from ← take_nick
  to ← take_nick
  check (not (bytes_eq from to))
  give (record { user = user; from = from; to = to })

-- ---- requests

-- the word for a kind
unfoldable pub take_kind : Form RecordKind
take_kind = one kind_of

-- the word for what a listing shows
unfoldable pub take_shown : Form Shown
take_shown = one shown_of

-- what follows the word for what a listing shows, and the listing
abbrev pub listing_by : ℕ → Shown → Form Listing
listing_by sites shown.Users = give listing.Users
listing_by sites shown.Items = mapped listing.Items (take_number CAT_MAX)
listing_by sites shown.Bids = mapped listing.Bids (take_id sites)
listing_by sites shown.Purchases = mapped listing.Purchases (take_id sites)
listing_by sites shown.Comments = mapped listing.Comments (take_id sites)
listing_by sites shown.Categories = give listing.Categories
listing_by sites shown.Log = give listing.Log
listing_by sites shown.Misfits = give listing.Misfits
listing_by sites shown.Tables = give listing.Tables

-- a listing: the word for what it shows, and what follows that
unfoldable pub take_listing : ℕ → Form Listing
take_listing sites = take_shown >>= listing_by sites

-- what follows the word for a kind, and the request
abbrev pub request_by : ℕ → RecordKind → Form Request
request_by sites kind.User = mapped (λ n. request.Ask (ask.User n)) take_nick
request_by sites kind.Item = mapped (λ n. request.Ask (ask.Item n)) (take_item sites)
request_by sites kind.Bid = mapped (λ b. request.Ask (ask.Bid b)) (take_bid sites)
request_by sites kind.Buy = mapped (λ p. request.Ask (ask.Buy p)) (take_purchase sites)
request_by sites kind.Close = mapped (λ c. request.Ask (ask.Close c)) (take_asked_close sites)
request_by sites kind.Comment = mapped (λ c. request.Ask (ask.Comment c)) (take_comment sites)
request_by sites kind.Pass = mapped request.Pass (take_number PASS_MAX)
request_by sites kind.List = mapped request.List (take_listing sites)
request_by sites kind.Restock = mapped (λ r. request.Ask (ask.Restock r)) (take_asked_restock sites)
request_by sites kind.Rename = mapped (λ r. request.Ask (ask.Rename r)) (take_asked_rename sites)

-- a request: the word for its kind, and what follows that
unfoldable pub take_request : ℕ → Form Request
take_request sites = take_kind >>= request_by sites

-- the request that the fields are
unfoldable pub request_of : ℕ → List (List ℕ) → Option Request
request_of sites = whole (take_request sites)

-- ---- packets

-- a stamp: its number is one more than its own count
unfoldable pub take_stamp : ℕ → Form Stamp
take_stamp sites = do
  site ← take_site sites
  seq ← take_positive SEQ_MAX
  red ← take_number COUNT_MAX
  deps ← take_deps sites
  check (seq == slice_index deps site + 1)
  give (record { id = record { site = site; seq = seq }; red = red; deps = deps })

-- what follows the word for a kind, and the shadow
abbrev pub shadow_by : ℕ → RecordKind → Form Shadow
shadow_by sites kind.User = mapped shadow.User take_nick
shadow_by sites kind.Item = mapped shadow.Item (take_item sites)
shadow_by sites kind.Bid = mapped shadow.Bid (take_bid sites)
shadow_by sites kind.Buy = mapped shadow.Buy (take_purchase sites)
shadow_by sites kind.Close = mapped shadow.Close (take_close sites)
shadow_by sites kind.Comment = mapped shadow.Comment (take_comment sites)
shadow_by sites kind.Pass = none
shadow_by sites kind.List = none
shadow_by sites kind.Restock = mapped shadow.Restock (take_restock sites)
shadow_by sites kind.Rename = mapped shadow.Rename (take_rename sites)

-- a shadow: the word for its kind, and what follows that
unfoldable pub take_shadow : ℕ → Form Shadow
take_shadow sites = take_kind >>= shadow_by sites

-- the red number is 0 if and only if the shadow is blue
abbrev pub agrees : Shadow → ℕ → Bool
agrees shadow red = cond (is_red shadow) (nat_lt 0 red) (red == 0)

-- the version of a message is that of its kind of shadow
unfoldable pub take_message : ℕ → List ℕ → Form Message
take_message sites version = do
  stamp ← take_stamp sites
  shadow ← take_shadow sites
  check (bytes_eq version (version_of shadow))
  check (agrees shadow stamp.red)
  give (record { stamp = stamp; shadow = shadow })

-- a token, after its version
unfoldable pub take_token : ℕ → List ℕ → Form Token
take_token sites version = do
  check (bytes_eq version token_version)
  turn ← take_number TURN_MAX
  to ← take_site sites
  issued ← take_number COUNT_MAX
  give (record { turn = turn; to = to; issued = issued })

-- what follows `msg` or `token` and the version, and the packet
abbrev pub packet_by : ℕ → List ℕ → List ℕ → Form Packet
packet_by sites word version =
    cond (bytes_eq word (codes "msg")) (mapped packet.Msg (take_message sites version))
    (cond (bytes_eq word (codes "token")) (mapped packet.Token (take_token sites version)) none)

-- a packet: `msg` or `token`, the version, and what follows these
unfoldable pub take_packet : ℕ → Form Packet
take_packet sites = do
  word ← one Some
  version ← one Some
  packet_by sites word version

-- the packet that the fields are
unfoldable pub packet_of : ℕ → List (List ℕ) → Option Packet
packet_of sites = whole (take_packet sites)

-- ---- what is written is read, and nothing else

-- a record is exactly the request that is within its limits and is written so
abbrev pub RequestsAreReadAsWritten : Type 0
RequestsAreReadAsWritten =
    (sites : ℕ) → sites < 2 ^ 8 → (fields : List (List ℕ)) (r : Request)
    → (request_of sites fields ≡ Some r) ↔ (IsRequest sites r × (fields ≡ request_record r))

-- and so with packets
abbrev pub PacketsAreReadAsWritten : Type 0
PacketsAreReadAsWritten =
    (sites : ℕ) → sites ≤ COUNTED_MAX → (fields : List (List ℕ)) (p : Packet)
    → (packet_of sites fields ≡ Some p) ↔ (IsPacket sites p × (fields ≡ packet_record p))
