-- What a change does to the row of its key, and so a part to the tables.
use Rattle.std.specs.Prelude.{Bool, true, false, ℕ, ◌+◌, ◌-◌, ◌^◌, min, ℤ, pos, negsuc, ◌+ℤ◌, cond, nat_lt, nat_le, Option, Some, None}
use Rattle.std.specs.FinMap as map
use Rattle.rubis_schema.specs.Keys.{same_id}
use Rattle.rubis_schema.specs.Tables.{Tables}
use Rattle.rubis_schema.specs.declared.row_keys.RowKey.{RowKey}
use Rattle.rubis_schema.specs.declared.rows.Row.{Row}
use Rattle.rubis_schema.specs.declared.rows.Row.TheVariants.{User, Item, Nick, Cat, Comment}
use Rattle.rubis_schema.specs.declared.rows.ItemRow.{ItemRow}
use Rattle.rubis_schema.specs.declared.rows.Best.{Best}
use Rattle.rubis_schema.specs.declared.rows.Sale.{Sale}
use Rattle.rubis_schema.specs.declared.rows.Sale.TheVariants.{Open, Ended}
use Rattle.rubis_shadow.specs.declared.changes.Change.{Change}
use Rattle.rubis_shadow.specs.declared.changes.Change.TheVariants.{Insert, ItemListed, Bought, Rated, CatListed, CatEnded, BidTaken, Sold}
use Rattle.rubis_shadow.specs.declared.changes.Change.TheVariants.{End, Restocked, Renamed, NickFreed}
use Rattle.rubis_shadow.specs.declared.keyed_change.Effect.{Effect}
use Rattle.rubis_shadow.specs.declared.changes.MisfitKind.{MisfitKind}
use Rattle.rubis_shadow.specs.declared.changes.MisfitKind.TheVariants.{RowThere, NoRow, ClosedItem, StockShort, OtherUser}
use Rattle.rubis_shadow.specs.declared.parts.ChangeRef.{ChangeRef}
use Rattle.rubis_shadow.specs.declared.parts.ChangeRef.TheVariants as lent
use Rattle.rubis_shadow.specs.Shadows.{new_item, new_user}

-- sums stop at the ends of their types
abbrev pub count_up : ℕ → ℕ → ℕ
count_up a b = min (a + b) (2 ^ 64 - 1)

-- a number that is beyond the range of 64 bits with sign becomes the end of that range
abbrev pub saturated : ℤ → ℤ
saturated (pos n) = pos (min n (2 ^ 63 - 1))
saturated (negsuc n) = negsuc (min n (2 ^ 63 - 1))

-- a sum that saturates
abbrev pub int_up : ℤ → ℤ → ℤ
int_up a b = saturated (a +ℤ b)

-- the row of the key afterwards, and why the part doesn't fit, if it doesn't
pub record Done : Type 0 where
  pub row : Option Row
  pub misfit : Option MisfitKind

abbrev pub fits_as : Row → Done
fits_as row = record { row = Some row; misfit = None }

-- the change doesn't fit, for this reason, and leaves this row
abbrev pub misfits_as : MisfitKind → Option Row → Done
misfits_as kind row = record { row = row; misfit = Some kind }

-- the row goes
abbrev pub removed : Done
removed = record { row = None; misfit = None }

-- the best bid after one more: only a greater amount takes its place
abbrev pub better : Option Best → Best → Option Best
better None new = Some new
better (Some old) new = cond (nat_lt old.amount new.amount) (Some new) (Some old)

-- the item wasn't closed
abbrev pub is_open : Sale → Bool
is_open Open = true
is_open (Ended winner) = false

-- what fits an item that isn't closed: a bid, a buy or a close; a restock fits any
abbrev pub if_open : ItemRow → Sale → Done → Done
if_open item Open done = done
if_open item (Ended winner) done = misfits_as ClosedItem (Some (Item item))

-- what a change makes of the row at its key. An insert wants a free key, and each other change a row of its table; else it doesn't fit, and
-- the row stays as it is. To give a nickname up removes its row if that names the user, and is the misfit OtherUser if it names another
unfoldable pub change_row : Change → Option Row → Done
change_row (Insert row) None = fits_as row
change_row (Insert row) (Some old) = misfits_as RowThere (Some old)
change_row ItemListed (Some (User u)) = fits_as (User (record u { items = count_up u.items 1 }))
change_row (Bought q) (Some (User u)) = fits_as (User (record u { bought = count_up u.bought q }))
change_row (Rated r) (Some (User u)) = fits_as (User (record u { rating = int_up u.rating r; comments = count_up u.comments 1 }))
change_row CatListed (Some (Cat c)) = fits_as (Cat (record { items = count_up c.items 1; live = int_up c.live (pos 1) }))
change_row CatEnded (Some (Cat c)) = fits_as (Cat (record c { live = int_up c.live (negsuc 0) }))
change_row (BidTaken b) (Some (Item i)) = if_open i i.sale (fits_as (Item (record i { bids = count_up i.bids 1; best = better i.best b })))
change_row (Sold q) (Some (Item i)) =
    if_open i i.sale (cond (nat_le q i.stock) (fits_as (Item (record i { stock = i.stock - q; sold = count_up i.sold q })))
    (misfits_as StockShort (Some (Item i))))
change_row (End w) (Some (Item i)) = if_open i i.sale (fits_as (Item (record i { sale = Ended w })))
change_row (Restocked q) (Some (Item i)) = fits_as (Item (record i { stock = count_up i.stock q }))
change_row (Renamed n) (Some (User u)) = fits_as (User (record u { nick = n }))
change_row (NickFreed u) (Some (Nick i)) = cond (same_id u i) removed (misfits_as OtherUser (Some (Nick i)))
change_row change row = misfits_as NoRow row

-- the tables with that row at the key, or with none
abbrev pub with_row : Tables → RowKey → Option Row → Tables
with_row t k None = map.remove t k
with_row t k (Some row) = map.insert t k row

-- what a part does to the row at its key, and to no other
abbrev pub doing : Tables → Effect → Done
doing t e = change_row e.change (map.get t e.key)

-- the tables after a part
abbrev pub after_part : Tables → Effect → Tables
after_part t e = with_row t e.key (doing t e).row

-- why the part doesn't fit the tables, if it doesn't
abbrev pub misfit_of : Tables → Effect → Option MisfitKind
misfit_of t e = (doing t e).misfit

-- a change that borrows, as the change that it stands for
abbrev pub change_of : ChangeRef → Change
change_of (lent.NewUser n) = Insert (User (new_user n))
change_of (lent.NewItem n) = Insert (Item (new_item n.now))
change_of (lent.NewComment c) = Insert (Comment c.now)
change_of (lent.Whole change) = change

-- the key of a part, and its change
abbrev pub both_of : Effect → RowKey × Change
both_of e = (e.key, e.change)

-- the same of a key, and a change that borrows
abbrev pub both_as : RowKey × ChangeRef → RowKey × Change
both_as b = (b.0, change_of b.1)
