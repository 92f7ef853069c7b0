-- Worked examples, computed on the definitions.
use Rattle.std.proofs.Common.{ℕ, ◌≡◌, [], true, false, refl, Some, None}
use Rattle.std.specs.Prelude.{pos, codes, Ok, Err, cond}
use Rattle.rubis_schema.specs.Keys.{same_id}
use Rattle.rubis_schema.specs.declared.ids.Id.{Id}
use Rattle.rubis_schema.specs.declared.refusals.Refusal.TheVariants.{Full, NoToken, RedBehind, NickTaken, NoUser, NoItem, Closed, LowBid, NotSeller, OwnItem}
use Rattle.rubis_schema.specs.declared.refusals.Refusal.TheVariants.{NoBuyNow, SelfComment}
use Rattle.rubis_schema.specs.declared.row_keys.RowKey.TheVariants as key
use Rattle.rubis_schema.specs.declared.rows.ItemRow.{ItemRow}
use Rattle.rubis_schema.specs.declared.rows.Row.TheVariants as row
use Rattle.rubis_schema.specs.declared.rows.Sale.{Sale}
use Rattle.rubis_schema.specs.declared.rows.Sale.TheVariants.{Open, Ended}
use Rattle.rubis_shadow.specs.declared.shadows.Ask.{Ask}
use Rattle.rubis_shadow.specs.declared.shadows.Ask.TheVariants as ask
use Rattle.rubis_shadow.specs.declared.shadows.Shadow.TheVariants as shadow
use Rattle.rubis_generate.specs.declared.standing.Standing.{Standing}
use Rattle.rubis_generate.specs.Decision.{decision, Rows}

abbrev id : ℕ → Id
id seq = record { site = 0; seq = seq }

-- a lamp of user 1, bids from 100, not sold at once, with a best bid of 500 by bid 4
abbrev lamp : Sale → ItemRow
lamp sale = record { seller = id 1; name = codes "lamp"; cat = 7; stock = 1; sold = 0; start = 100; price = 0; bids = 1; best = Some (record { bid = id 4; amount = 500 }); sale = sale }

-- users 1 and 2, and the lamp as item 3
abbrev rows : Sale → Rows
rows sale (key.User u) = cond (same_id u (id 1)) (Some (row.User (record { nick = codes "ann"; items = 1; bought = 0; rating = pos 0; comments = 0 })))
    (cond (same_id u (id 2)) (Some (row.User (record { nick = codes "bob"; items = 0; bought = 0; rating = pos 0; comments = 0 }))) None)
rows sale (key.Item i) = cond (same_id i (id 3)) (Some (row.Item (lamp sale))) None
rows sale (key.Nick n) = Some (row.Nick (id 1))
rows sale k = None

-- a site that holds the token, and has all red messages
abbrev ready : Standing
ready = record { full = false; holds = true; current = true }

abbrev behind : Standing
behind = record { full = false; holds = true; current = false }

abbrev bid : ℕ → ℕ → ℕ → Ask
bid item bidder amount = ask.Bid (record { item = id item; bidder = id bidder; amount = amount })

bid_is_taken : decision (rows Open) ready (bid 3 2 100) ≡ Ok (shadow.Bid (record { item = id 3; bidder = id 2; amount = 100 }))
bid_is_taken = refl

bid_on_nothing : decision (rows Open) ready (bid 9 2 500) ≡ Err NoItem
bid_on_nothing = refl

bid_by_nobody : decision (rows Open) ready (bid 3 9 500) ≡ Err NoUser
bid_by_nobody = refl

bid_by_the_seller : decision (rows Open) ready (bid 3 1 500) ≡ Err OwnItem
bid_by_the_seller = refl

bid_too_low : decision (rows Open) ready (bid 3 2 99) ≡ Err LowBid
bid_too_low = refl

bid_after_the_end : decision (rows (Ended None)) ready (bid 3 2 500) ≡ Err Closed
bid_after_the_end = refl

-- what the site has yet to hear is told before what it knows of the item
bid_by_a_site_behind : decision (rows (Ended None)) behind (bid 3 2 500) ≡ Err RedBehind
bid_by_a_site_behind = refl

bid_without_the_token : decision (rows Open) (record behind { holds = false }) (bid 3 2 500) ≡ Err NoToken
bid_without_the_token = refl

bid_at_a_full_site : decision (rows Open) (record { full = true; holds = false; current = false }) (bid 3 2 500) ≡ Err Full
bid_at_a_full_site = refl

not_for_sale_at_once : decision (rows Open) ready (ask.Buy (record { item = id 3; buyer = id 2; quantity = 1 })) ≡ Err NoBuyNow
not_for_sale_at_once = refl

nickname_taken : decision (rows Open) ready (ask.User (codes "ann")) ≡ Err NickTaken
nickname_taken = refl

close_by_another : decision (rows Open) ready (ask.Close (record { item = id 3; seller = id 2 })) ≡ Err NotSeller
close_by_another = refl

close_names_the_best_bid : decision (rows Open) ready (ask.Close (record { item = id 3; seller = id 1 }))
    ≡ Ok (shadow.Close (record { item = id 3; cat = 7; winner = Some (id 4) }))
close_names_the_best_bid = refl

comment_on_oneself : decision (rows Open) ready (ask.Comment (record { item = id 3; from = id 2; to = id 2; rating = pos 5; text = [] })) ≡ Err SelfComment
comment_on_oneself = refl
