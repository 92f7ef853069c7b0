-- What each message of a log must meet, given those before it, and what holds of every log.
use Rattle.std.specs.Prelude.{ℕ, ◌≡◌, ◌+◌, ◌==◌, List, [], ◌∷◌, ◌++◌, Bool, false, ◌||◌, not, cond, nat_lt, Option, Some, None, is_some, option_map, IsSome, ⊤}
use Rattle.std.specs.Prelude.{Contains, ◌↔◌, ◌≤◌, IfSome}
use Rattle.std.specs.List.{All}
use Rattle.std.specs.Option.{option_eq, option_map_or}
use Rattle.rubis_schema.specs.Keys.{same_id}
use Rattle.rubis_schema.specs.declared.ids.Id.{Id}
use Rattle.rubis_schema.specs.declared.row_keys.RowKey.{RowKey}
use Rattle.rubis_schema.specs.declared.row_keys.RowKey.TheVariants as key
use Rattle.rubis_shadow.specs.Shadows.{refers_of, is_red, InLimits}
use Rattle.rubis_schema.specs.declared.offers.NewItem.{NewItem}
use Rattle.rubis_shadow.specs.declared.shadows.Shadow.{Shadow}
use Rattle.rubis_shadow.specs.declared.shadows.Shadow.TheVariants.{User, Bid, Buy, Close, Rename}
use Rattle.rubis_model.specs.Log.{Core}
use Rattle.rubis_model.specs.Meaning.{as_bid, user_at, item_at, nick_at, is_same_nick, named, close_of, best_bid, total, sold_of, supply, count, at_id}
use Rattle.rubis_model.specs.Meaning.{winner_of}

-- the message with that id
abbrev pub has_id : Id → List Core → Option Core
has_id = at_id Some

-- within the limits, among some number of sites
abbrev pub IsLimited : Shadow → Type 0
IsLimited x = (sites : ℕ) × InLimits sites x

-- the row at that key is made before
abbrev pub StandsIn : List Core → RowKey → Type 0
StandsIn before (key.User i) = IsSome (user_at i before)
StandsIn before (key.Item i) = IsSome (item_at i before)
StandsIn before (key.Bid i) = IsSome (at_id (λ m. as_bid m.red m.shadow) i before)
StandsIn before k = ⊥

-- it is a close in another category than its item's
abbrev pub wrong_category : List Core → Shadow → Bool
wrong_category before (Close c) = option_map_or (λ (n : NewItem). not (n.cat == c.cat)) (item_at c.item before) false
wrong_category before x = false

-- the new nickname has a user, or the old one isn't that of its user
abbrev pub nick_taken : List Core → Shadow → Bool
nick_taken before (User n) = is_some (named n before)
nick_taken before (Rename r) = is_some (named r.to before) || not (is_same_nick r.from (nick_at r.user before))
nick_taken before x = false

-- more is bought than there is
abbrev pub stock_short : List Core → Shadow → Bool
stock_short before (Buy p) = option_map_or (λ n. nat_lt (supply before p.item n) (total (sold_of p.item) before + p.quantity)) (item_at p.item before) false
stock_short before x = false

-- the item of a bid, a buy or a close is closed, or a close names another than the item's highest bid
abbrev pub wrong_winner : List Core → Shadow → Bool
wrong_winner before (Bid b) = is_some (close_of b.item before)
wrong_winner before (Buy p) = is_some (close_of p.item before)
wrong_winner before (Close c) =
    is_some (close_of c.item before) || not (option_eq same_id c.winner (option_map (λ (m : Core). m.id) (best_bid c.item before)))
wrong_winner before x = false

-- who and what the shadow names stands before it, and none of these tests holds
pub record Fits (before : List Core) (x : Shadow) : Type 0 where
  pub known : All (StandsIn before) (refers_of x)
  pub category : wrong_category before x ≡ false
  pub nick : nick_taken before x ≡ false
  pub stock : stock_short before x ≡ false
  pub winner : wrong_winner before x ≡ false

-- the message's id is new, a red one has the next red number and a blue one 0, and the shadow fits and is within limits
pub record Follows (before : List Core) (m : Core) : Type 0 where
  pub new_id : has_id m.id before ≡ None
  pub next_red : m.red ≡ cond (is_red m.shadow) (count is_red before + 1) 0
  pub fits : Fits before m.shadow
  pub limits : IsLimited m.shadow

-- each message follows those before it
abbrev pub CheckedFrom : List Core → List Core → Type 0
CheckedFrom before [] = ⊤
CheckedFrom before (m ∷ ms) = Follows before m × CheckedFrom (before ++ m ∷ []) ms

-- the log passes the checks: each message follows those before it
abbrev pub Checked : List Core → Type 0
Checked log = CheckedFrom [] log

-- the two lists have the same members
abbrev pub SameSet : {A : Type 0} → List A → List A → Type 0
SameSet {A} a b = (m : A) → Contains a m ↔ Contains b m

-- ---- the invariants of one log

-- no nickname is that of two users
abbrev pub Unique : (Id → Option (List ℕ)) → Type 0
Unique nick = (n : List ℕ) (u v : Id) → nick u ≡ Some n → nick v ≡ Some n → u ≡ v

-- no more of an item is sold than there was, each nickname has one user, and the winner of a closed item is its highest
-- bid, `none` where it has no bid
pub record Holds (a : List Core) : Type 0 where
  pub stock : (i : Id) → IfSome (item_at i a) (λ n. total (sold_of i) a ≤ supply a i n)
  pub nicks : Unique (λ u. nick_at u a)
  pub winner : (i : Id) → IfSome (close_of i a) (λ m. winner_of m.shadow ≡ option_map (λ (b : Core). b.id) (best_bid i a))
