-- The rows of listings: one record for each row that shows something.
use Rattle.std.specs.Prelude.{ℕ, ◌+◌, List, [], ◌∷◌, ◌++◌, Option, Some, None, Bool, true, false, cond, filter, codes, decimal, nat_eq}
use Rattle.std.specs.List.{flat_map}
use Rattle.std.specs.FinMap as map
use Rattle.rubis_schema.specs.Tables.{shows_nothing, Tables}
use Rattle.rubis_schema.specs.Ids.{id_text, int_text}
use Rattle.rubis_schema.specs.Keys.{same_id}
use Rattle.rubis_schema.specs.declared.ids.Id.{Id}
use Rattle.rubis_schema.specs.declared.listings.Listing.{Listing}
use Rattle.rubis_schema.specs.declared.listings.Listing.TheVariants as listing
use Rattle.rubis_schema.specs.declared.row_keys.RowKey.{RowKey}
use Rattle.rubis_schema.specs.declared.row_keys.RowKey.TheVariants as key
use Rattle.rubis_schema.specs.declared.rows.Best.{Best}
use Rattle.rubis_schema.specs.declared.rows.BidRow.{BidRow}
use Rattle.rubis_schema.specs.declared.rows.CatRow.{CatRow}
use Rattle.rubis_schema.specs.declared.rows.ItemRow.{ItemRow}
use Rattle.rubis_schema.specs.declared.rows.Row.{Row}
use Rattle.rubis_schema.specs.declared.rows.Row.TheVariants as row
use Rattle.rubis_schema.specs.declared.rows.Sale.{Sale}
use Rattle.rubis_schema.specs.declared.rows.Sale.TheVariants.{Open, Ended}
use Rattle.rubis_schema.specs.declared.rows.UserRow.{UserRow}
use Rattle.rubis_shadow.specs.declared.changes.MisfitKind.{MisfitKind}
use Rattle.rubis_shadow.specs.declared.changes.MisfitKind.TheVariants.{RowThere, NoRow, ClosedItem, StockShort, OtherUser}
use Rattle.rubis_shadow.specs.declared.numbered.Misfit.{Misfit}
use Rattle.rubis_message.specs.Grammar.{comment_fields, message_record, purchase_fields, winner_text}
use Rattle.rubis_message.specs.Message.{Message}

-- ---- the record of a row

-- a user's row: nickname, items listed, pieces bought, sum of ratings, comments
abbrev pub user_fields : UserRow → List (List ℕ)
user_fields u = u.nick ∷ decimal u.items ∷ decimal u.bought ∷ int_text u.rating ∷ decimal u.comments ∷ []

-- the best bid and its amount
abbrev pub best_fields : Option Best → List (List ℕ)
best_fields None = codes "none" ∷ codes "0" ∷ []
best_fields (Some b) = id_text b.bid ∷ decimal b.amount ∷ []

-- whether the sale ended, and who won it
abbrev pub sale_fields : Sale → List (List ℕ)
sale_fields Open = codes "open" ∷ codes "none" ∷ []
sale_fields (Ended winner) = codes "closed" ∷ winner_text winner ∷ []

-- an item's row: seller, name, category, stock, sold, start price, price to buy at once, bids, the best bid, the sale
abbrev pub item_row_fields : ItemRow → List (List ℕ)
item_row_fields i =
    id_text i.seller ∷ i.name ∷ decimal i.cat ∷ decimal i.stock ∷ decimal i.sold ∷ decimal i.start ∷ decimal i.price ∷ decimal i.bids ∷ []
    ++ (best_fields i.best ++ sale_fields i.sale)

-- a bid's row: item, bidder, amount, red number
abbrev pub bid_row_fields : BidRow → List (List ℕ)
bid_row_fields b = id_text b.item ∷ id_text b.bidder ∷ decimal b.amount ∷ decimal b.red ∷ []

-- a row by its id
abbrev pub by_id : List ℕ → Id → List (List ℕ) → List (List ℕ)
by_id kind id fields = codes "row" ∷ kind ∷ id_text id ∷ fields

-- the record of a category: its number, its items, and those that aren't closed
abbrev pub category_record : ℕ → CatRow → List (List ℕ)
category_record k c = codes "row" ∷ codes "category" ∷ decimal k ∷ decimal c.items ∷ int_text c.live ∷ []

-- the record of the row at a key; there is none for a nickname, nor for a category that shows nothing
abbrev pub row_record : RowKey → Row → List (List (List ℕ))
row_record (key.User id) (row.User u) = by_id (codes "user") id (user_fields u) ∷ []
row_record (key.Item id) (row.Item i) = by_id (codes "item") id (item_row_fields i) ∷ []
row_record (key.Bid id) (row.Bid b) = by_id (codes "bid") id (bid_row_fields b) ∷ []
row_record (key.Purchase id) (row.Purchase p) = by_id (codes "purchase") id (purchase_fields p) ∷ []
row_record (key.Comment id) (row.Comment c) = by_id (codes "comment") id (comment_fields c) ∷ []
row_record (key.Cat k) (row.Cat c) = cond (shows_nothing c) [] (category_record k c ∷ [])
row_record k r = []

-- ---- listings of the tables

-- whether the listing matches the row at a key
abbrev pub is_of : Listing → RowKey → Row → Bool
is_of listing.Users (key.User id) r = true
is_of (listing.Items cat) (key.Item id) (row.Item i) = nat_eq i.cat cat
is_of (listing.Bids item) (key.Bid id) (row.Bid b) = same_id b.item item
is_of (listing.Purchases item) (key.Purchase id) (row.Purchase p) = same_id p.item item
is_of (listing.Comments user) (key.Comment id) (row.Comment c) = same_id c.to user
is_of listing.Categories (key.Cat k) r = true
is_of listing.Tables k r = true
is_of l k r = false

-- the records of the entries that match the listing
abbrev pub records_of : Listing → List (RowKey × Row) → List (List (List ℕ))
records_of l es = flat_map (λ e. row_record e.0 e.1) (filter (λ e. is_of l e.0 e.1) es)

-- the rows of a listing, in key order
abbrev pub table_rows : Listing → Tables → List (List (List ℕ))
table_rows l t = records_of l (map.entries t)

-- ---- the log, and what didn't fit

-- the record of a message, with its entry in the log
abbrev pub log_record : ℕ → Message → List (List ℕ)
log_record entry m = codes "row" ∷ codes "log" ∷ decimal entry ∷ message_record m

-- the messages in order, the first of which is that entry
unfoldable pub log_from : ℕ → List Message → List (List (List ℕ))
log_from entry [] = []
log_from entry (m ∷ ms) = log_record entry m ∷ log_from (entry + 1) ms

-- the log, with entries from 1
abbrev pub log_rows : List Message → List (List (List ℕ))
log_rows log = log_from 1 log

abbrev pub kind_name : MisfitKind → List ℕ
kind_name RowThere = codes "RowThere"
kind_name NoRow = codes "NoRow"
kind_name ClosedItem = codes "ClosedItem"
kind_name StockShort = codes "StockShort"
kind_name OtherUser = codes "OtherUser"

-- the record of a misfit: its entry, its part, the message's id, and why it didn't fit
abbrev pub misfit_record : Misfit → List (List ℕ)
misfit_record m = codes "row" ∷ codes "misfit" ∷ decimal m.entry ∷ decimal m.part ∷ id_text m.id ∷ kind_name m.kind ∷ []

-- the records of misfits, in order
abbrev pub misfit_rows : List Misfit → List (List (List ℕ))
misfit_rows ms = flat_map (λ m. misfit_record m ∷ []) ms
