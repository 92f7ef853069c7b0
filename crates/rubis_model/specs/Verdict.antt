-- The logs that an auditor is given, its checks, each as a test, and the first fault that they find.
use Rattle.std.specs.Prelude.{ℕ, List, Option, ◌+◌, ◌==◌, [], ◌∷◌, ◌++◌, length, reverse, find, Bool, false, ◌&&◌, ◌||◌, not, cond, nat_lt, nat_le, bytes_eq}
use Rattle.std.specs.Prelude.{Some, None, is_some, option_map}
use Rattle.rubis_schema.specs.declared.listings.Listing.TheVariants as listing
use Rattle.rubis_message.specs.Message.{Message, dep, sites_of}
use Rattle.rubis_model.specs.Listings.{table_rows}
use Rattle.rubis_model.specs.Log.{cores, fold_of}
use Rattle.std.specs.Cmp.Lexicographic.{pointwise}
use Rattle.std.specs.List.{list_any, range_with_len}
use Rattle.std.specs.Option.{option_map_or, option_or}
use Rattle.rubis_schema.specs.Keys.{same_id}
use Rattle.rubis_schema.specs.declared.row_keys.RowKey.{RowKey}
use Rattle.rubis_schema.specs.declared.row_keys.RowKey.TheVariants as key
use Rattle.rubis_shadow.specs.Shadows.{refers_of, is_red}
use Rattle.rubis_message.specs.Equal.{same_message}
use Rattle.rubis_message.specs.declared.answers.Kind.{Kind}
use Rattle.rubis_message.specs.declared.answers.Kind.TheVariants as kind
use Rattle.rubis_message.specs.declared.answers.Verdict.{Verdict}
use Rattle.rubis_message.specs.declared.answers.Verdict.TheVariants.{Agree, Found}
use Rattle.rubis_model.specs.Checks.{nick_taken, stock_short, wrong_category, wrong_winner}
use Rattle.rubis_model.specs.Meaning.{as_bid, as_item, as_user}
use Rattle.rubis_model.specs.Site.{counted, reds}

-- the log of a site: its messages in release order, and, optionally, the rows of its tables as it claims them
pub record Log : Type 0 where
  pub site : ℕ
  pub messages : List Message
  pub rows : Option (List (List (List ℕ)))

-- the rows that `list,tables` shows of these messages
abbrev pub shown_rows : List Message → List (List (List ℕ))
shown_rows messages = table_rows listing.Tables (fold_of (cores messages)).tables

-- ---- the checks of an auditor, each as a test, and the first fault that they find

-- ---- the checks of an entry v. `others` has the messages of the earlier logs, `own` those of this log before v

-- v's origin had released u when it made v
abbrev pub comes_before : Message → Message → Bool
comes_before u v = nat_le u.stamp.id.seq (dep v u.stamp.id.site)

-- it is so at one of the sites that v counts
abbrev pub at_some_site : Message → (ℕ → Bool) → Bool
at_some_site v test = list_any test (range_with_len 0 (sites_of v))

-- u has v's id and isn't v
abbrev pub clashes : Message → Message → Bool
clashes v u = same_id u.stamp.id v.stamp.id && not (same_message u v)

-- Clash: another message has v's id
abbrev pub clash : List Message → List Message → Message → Bool
clash others own v = list_any (clashes v) (others ++ own)

-- v isn't the next one of its origin
abbrev pub is_not_next : List Message → Message → Bool
is_not_next own v = not (v.stamp.id.seq == counted v.stamp.id.site own + 1)

-- v counts a message of another origin that isn't there
abbrev pub is_early : List Message → Message → Bool
is_early own v = at_some_site v (λ j. not (j == v.stamp.id.site) && nat_lt (counted j own) (dep v j))

-- v is of this site, and doesn't count exactly what stands before it
abbrev pub miscounts : ℕ → List Message → Message → Bool
miscounts site own v = (v.stamp.id.site == site) && at_some_site v (λ j. not (dep v j == counted j own))

-- u is what v counts last of u's origin, and counts more of some site than v does
abbrev pub forgets : Message → Message → Bool
forgets v u = (u.stamp.id.seq == dep v u.stamp.id.site) && at_some_site v (λ j. nat_lt (dep v j) (dep u j))

-- Order
abbrev pub out_of_order : ℕ → List Message → Message → Bool
out_of_order site own v = is_not_next own v || (is_early own v || (miscounts site own v || list_any (forgets v) own))

-- the last red message
abbrev pub last_red : List Message → Option Message
last_red own = find (λ u. is_red u.shadow) (reverse own)

-- u has v's red number, and isn't v
abbrev pub takes_number : Message → Message → Bool
takes_number v u = (u.stamp.red == v.stamp.red) && not (same_id u.stamp.id v.stamp.id)

-- RedGap: v is red and hasn't the next red number, or a message of an earlier log has its number, or the red one before it
-- doesn't precede it
abbrev pub red_gap : List Message → List Message → Message → Bool
red_gap others own v =
    is_red v.shadow
    && (not (v.stamp.red == reds own + 1)
    || (list_any (takes_number v) others || option_map_or (λ u. not (comes_before u v)) (last_red own) false))

-- u makes the row at that key: of a user, an item or a bid
abbrev pub makes_row : RowKey → Message → Bool
makes_row (key.User i) u = same_id i u.stamp.id && is_some (as_user u.shadow)
makes_row (key.Item i) u = same_id i u.stamp.id && is_some (as_item u.shadow)
makes_row (key.Bid i) u = same_id i u.stamp.id && is_some (as_bid u.stamp.red u.shadow)
makes_row k u = false

-- what makes the row at that key precedes v
abbrev pub is_known : List Message → Message → RowKey → Bool
is_known own v k = list_any (λ u. makes_row k u && comes_before u v) own

-- Refers: what v names isn't there or doesn't precede it, or its category is wrong. Whether a winner is the right bid is
-- left to Winner
abbrev pub wrong_reference : List Message → Message → Bool
wrong_reference own v = list_any (λ k. not (is_known own v k)) (refers_of v.shadow) || wrong_category (cores own) v.shadow

-- the checks, in order
abbrev pub checks : List Message → ℕ → List Message → Message → List (Kind × Bool)
checks others site own v =
    (kind.Clash, clash others own v)
    ∷ (kind.Order, out_of_order site own v)
    ∷ (kind.RedGap, red_gap others own v)
    ∷ (kind.Refers, wrong_reference own v)
    ∷ (kind.Nick, nick_taken (cores own) v.shadow)
    ∷ (kind.Stock, stock_short (cores own) v.shadow)
    ∷ (kind.Winner, wrong_winner (cores own) v.shadow)
    ∷ []

-- the first that finds a fault
abbrev pub first_of : List (Kind × Bool) → Option Kind
first_of [] = None
first_of (c ∷ cs) = cond c.1 (Some c.0) (first_of cs)

-- ---- the check of a whole log

-- the rows are equal, byte for byte and in order
abbrev pub same_rows : List (List (List ℕ)) → List (List (List ℕ)) → Bool
same_rows = pointwise (pointwise bytes_eq)

-- Rows: rows are claimed, and aren't those of the messages
abbrev pub wrong_rows : Log → Bool
wrong_rows log = option_map_or (λ rows. not (same_rows rows (shown_rows log.messages))) log.rows false

-- ---- the first fault

-- among the entries after `own`: its kind and the number of its entry, from 1
abbrev pub first_fault : List Message → ℕ → List Message → List Message → Option (Kind × ℕ)
first_fault others site own [] = None
first_fault others site own (v ∷ rest) =
    option_or (option_map (λ k. (k, length own + 1)) (first_of (checks others site own v))) (first_fault others site (own ++ v ∷ []) rest)

-- in a log: among its entries, or else of its rows, as entry 0
abbrev pub log_fault : List Message → Log → Option (Kind × ℕ)
log_fault others log = option_or (first_fault others log.site [] log.messages) (cond (wrong_rows log) (Some (kind.Rows, 0)) None)

-- what was found in the log of that number, or else
abbrev pub found_or : ℕ → Option (Kind × ℕ) → Verdict → Verdict
found_or number None rest = rest
found_or number (Some fault) rest = Found fault.0 number fault.1

-- of the logs from that number on, where the earlier ones have these messages
abbrev pub verdict_from : ℕ → List Message → List Log → Verdict
verdict_from number others [] = Agree
verdict_from number others (log ∷ logs) =
    found_or number (log_fault others log) (verdict_from (number + 1) (others ++ log.messages) logs)

-- the first fault of the logs, in order; Agree where there is none
abbrev pub verdict : List Log → Verdict
verdict logs = verdict_from 1 [] logs
