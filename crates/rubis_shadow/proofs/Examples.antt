-- Worked examples, computed on the definitions.
use Rattle.std.proofs.Common.{ℕ, ◌≡◌, ◌^◌, ◌-◌, [], ◌∷◌, refl, Some, None}
use Rattle.std.specs.Prelude.{pos, negsuc, map, codes}
use Rattle.rubis_schema.specs.declared.ids.Id.{Id}
use Rattle.rubis_schema.specs.declared.row_keys.RowKey.TheVariants as key
use Rattle.rubis_schema.specs.declared.rows.Best.{Best}
use Rattle.rubis_schema.specs.declared.rows.ItemRow.{ItemRow}
use Rattle.rubis_schema.specs.declared.rows.Row.TheVariants as row
use Rattle.rubis_schema.specs.declared.rows.Sale.TheVariants.{Open, Ended}
use Rattle.rubis_schema.specs.declared.rows.UserRow.{UserRow}
use Rattle.rubis_shadow.specs.Changes.{change_row, fits_as, int_up, misfits_as, removed}
use Rattle.rubis_shadow.specs.Shadows.{key_of, parts, refers_of}
use Rattle.rubis_shadow.specs.declared.changes.Change.TheVariants.{Insert, ItemListed, Rated, BidTaken, Sold, End, Restocked, NickFreed}
use Rattle.rubis_shadow.specs.declared.changes.MisfitKind.TheVariants.{RowThere, NoRow, ClosedItem, StockShort, OtherUser}
use Rattle.rubis_shadow.specs.declared.shadows.Shadow.TheVariants.{Buy, Close}

abbrev id : ℕ → Id
id seq = record { site = 0; seq = seq }

abbrev best : ℕ → ℕ → Best
best seq amount = record { bid = id seq; amount = amount }

-- three cups, bids from 50, 80 at once
abbrev cups : ItemRow
cups = record { seller = id 1; name = codes "cup"; cat = 9; stock = 3; sold = 0; start = 50; price = 80; bids = 0; best = None; sale = Open }

abbrev ann : UserRow
ann = record { nick = codes "ann"; items = 0; bought = 0; rating = pos 0; comments = 0 }

-- ---- changes

two_are_sold : change_row (Sold 2) (Some (row.Item cups)) ≡ fits_as (row.Item (record cups { stock = 1; sold = 2 }))
unfolding change_row
two_are_sold = refl

five_are_too_many : change_row (Sold 5) (Some (row.Item cups)) ≡ misfits_as StockShort (Some (row.Item cups))
unfolding change_row
five_are_too_many = refl

later_of_equal_bids : change_row (BidTaken (best 5 60)) (Some (row.Item (record cups { bids = 1; best = Some (best 4 60) })))
    ≡ fits_as (row.Item (record cups { bids = 2; best = Some (best 4 60) }))
unfolding change_row
later_of_equal_bids = refl

higher_bid : change_row (BidTaken (best 5 61)) (Some (row.Item (record cups { bids = 1; best = Some (best 4 60) })))
    ≡ fits_as (row.Item (record cups { bids = 2; best = Some (best 5 61) }))
unfolding change_row
higher_bid = refl

bid_after_the_end : change_row (BidTaken (best 5 61)) (Some (row.Item (record cups { sale = Ended None })))
    ≡ misfits_as ClosedItem (Some (row.Item (record cups { sale = Ended None })))
unfolding change_row
bid_after_the_end = refl

-- a sale that is over is told before a stock that is short
sold_after_the_end : change_row (Sold 5) (Some (row.Item (record cups { sale = Ended None })))
    ≡ misfits_as ClosedItem (Some (row.Item (record cups { sale = Ended None })))
unfolding change_row
sold_after_the_end = refl

ended_with_a_winner : change_row (End (Some (id 4))) (Some (row.Item cups)) ≡ fits_as (row.Item (record cups { sale = Ended (Some (id 4)) }))
unfolding change_row
ended_with_a_winner = refl

user_there : change_row (Insert (row.User ann)) (Some (row.User ann)) ≡ misfits_as RowThere (Some (row.User ann))
unfolding change_row
user_there = refl

no_user : change_row ItemListed None ≡ misfits_as NoRow None
unfolding change_row
no_user = refl

rated : change_row (Rated (negsuc 4)) (Some (row.User (record ann { rating = pos 3; comments = 1 })))
    ≡ fits_as (row.User (record ann { rating = negsuc 1; comments = 2 }))
unfolding change_row
rated = refl

-- an ended item is restocked too
restocked_after_the_end : change_row (Restocked 4) (Some (row.Item (record cups { sale = Ended None })))
    ≡ fits_as (row.Item (record cups { stock = 7; sale = Ended None }))
unfolding change_row
restocked_after_the_end = refl

nick_given_up : change_row (NickFreed (id 1)) (Some (row.Nick (id 1))) ≡ removed
unfolding change_row
nick_given_up = refl

nick_of_another : change_row (NickFreed (id 2)) (Some (row.Nick (id 1))) ≡ misfits_as OtherUser (Some (row.Nick (id 1)))
unfolding change_row
nick_of_another = refl

nick_of_nobody : change_row (NickFreed (id 2)) None ≡ misfits_as NoRow None
unfolding change_row
nick_of_nobody = refl

-- ---- sums stop at the ends of their types

highest_rating : int_up (pos (2 ^ 63 - 1)) (pos 5) ≡ pos (2 ^ 63 - 1)
highest_rating = refl

lowest_rating : int_up (negsuc (2 ^ 63 - 1)) (negsuc 4) ≡ negsuc (2 ^ 63 - 1)
lowest_rating = refl

-- ---- parts

keys_of_a_purchase : map key_of (parts (id 4) 3 (Buy (record { item = id 3; buyer = id 2; quantity = 2 })))
    ≡ key.Purchase (id 4) ∷ key.Item (id 3) ∷ key.User (id 2) ∷ []
keys_of_a_purchase = refl

keys_of_a_close : map key_of (parts (id 6) 5 (Close (record { item = id 3; cat = 9; winner = Some (id 4) }))) ≡ key.Item (id 3) ∷ key.Cat 9 ∷ []
keys_of_a_close = refl

named_by_a_close : refers_of (Close (record { item = id 3; cat = 9; winner = Some (id 4) })) ≡ key.Item (id 3) ∷ key.Bid (id 4) ∷ []
named_by_a_close = refl
