-- What holds of every log, be its messages forged or not.
use Rattle.std.specs.Prelude.{◌≡◌, ◌+◌, ◌^◌, ◌<◌, ◌≤◌, ℕ, Bool, false, ◌&&◌, cond, bytes_eq, List, [], ◌∷◌, ◌++◌, length, fold, Option, Some, None, option_map}
use Rattle.std.specs.Prelude.{IfSome}
use Rattle.std.specs.Option.{option_or}
use Rattle.std.specs.FinMap as map
use Rattle.rubis_schema.specs.declared.limits.TheConstants.{KEEP_MAX}
use Rattle.rubis_schema.specs.Keys.{same_id}
use Rattle.rubis_schema.specs.declared.ids.Id.{Id}
use Rattle.rubis_schema.specs.declared.row_keys.RowKey.TheVariants as key
use Rattle.rubis_schema.specs.declared.rows.ItemRow.{ItemRow}
use Rattle.rubis_schema.specs.declared.rows.Row.{Row}
use Rattle.rubis_schema.specs.declared.rows.Row.TheVariants as row
use Rattle.rubis_schema.specs.declared.offers.NewItem.{NewItem}
use Rattle.rubis_shadow.specs.declared.shadows.Shadow.{Shadow}
use Rattle.rubis_shadow.specs.declared.shadows.Shadow.TheVariants.{User, Rename}
use Rattle.rubis_message.specs.Message.{IsMessage, Message}
use Rattle.rubis_model.specs.Log.{Core, cores, fold_of}
use Rattle.rubis_model.specs.Meaning.{as_item, restocked_of, when}
use Rattle.rubis_model.specs.Site.{Has}

-- a rename of that user from that nickname
abbrev pub frees : List ℕ → Id → Shadow → Bool
frees n user (Rename r) = bytes_eq n r.from && same_id r.user user
frees n user x = false

-- the row of a nickname stays until the user that it names is renamed from it
abbrev pub NamesStay : Type 0
NamesStay = (log : List Core) (m : Core) (n : List ℕ) (user : Id) → frees n user m.shadow ≡ false
    → map.get (fold_of log).tables (key.Nick n) ≡ Some (row.Nick user) → map.get (fold_of (log ++ m ∷ [])).tables (key.Nick n) ≡ Some (row.Nick user)

-- who has a nickname after one more message, by the rows: who had it, unless the message frees it, and where nobody has it, to whom the
-- message gives it
abbrev pub still_named : List ℕ → Option Id → Shadow → Option Id
still_named n None x = None
still_named n (Some user) x = cond (frees n user x) None (Some user)

-- who gets the nickname by this shadow: its new user, or the user that is renamed to it
abbrev pub named_by : List ℕ → Id → Shadow → Option Id
named_by n id (User k) = when (bytes_eq n k) (Some id)
named_by n id (Rename r) = when (bytes_eq n r.to) (Some r.user)
named_by n id x = None

-- who holds the nickname after the log, message by message
abbrev pub holder : List ℕ → List Core → Option Id
holder n log = fold (λ o m. option_or (still_named n o m.shadow) (named_by n m.id m.shadow)) None log

-- a nickname has a row if and only if it has such a holder, and the row names it
abbrev pub NamesAreHeld : Type 0
NamesAreHeld = (log : List Core) (n : List ℕ) → map.get (fold_of log).tables (key.Nick n) ≡ option_map row.Nick (holder n log)

-- what there was to sell of an item, once it was listed: the stock at its opening, and what was added from then on; after one more
-- message, which is the item's own or not
abbrev pub supplied : Id → Bool → Option ℕ → Shadow → Option ℕ
supplied i own None x = when own (option_map (λ (n : NewItem). n.stock) (as_item x))
supplied i own (Some s) x = Some (s + restocked_of i x)

-- what there was to sell of an item, with the restocks since its listing
abbrev pub supply_at : Id → List Core → Option ℕ
supply_at i log = fold (λ s m. supplied i (same_id i m.id) s m.shadow) None log

-- the row of an item: what was sold and what is left are what there was to sell; one that wasn't listed has none
abbrev pub IsKept : Option ℕ → Option Row → Type 0
IsKept None r = r ≡ None
IsKept (Some s) r = (x : ItemRow) × (r ≡ Some (row.Item x)) × (x.sold + x.stock ≡ s)

-- no stock is below zero: each item's row is one of these, if what there was to sell is below 2^64
abbrev pub StockIsKept : Type 0
StockIsKept = (log : List Core) (i : Id) → IfSome (supply_at i log) (λ s. s < 2 ^ 64) → IsKept (supply_at i log) (map.get (fold_of log).tables (key.Item i))

-- so in every log that a site can have, be its messages forged or not: the sums stay far below that
abbrev pub SitesKeepStock : Type 0
SitesKeepStock = (log : List Message) (i : Id) → ((m : Message) → Has m log → IsMessage m) → length log ≤ KEEP_MAX
    → IsKept (supply_at i (cores log)) (map.get (fold_of (cores log)).tables (key.Item i))
