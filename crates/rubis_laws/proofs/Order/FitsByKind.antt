-- Kind by kind: what it means that a shadow fits, where it is decided and where it is released, and what it then says of rows.
use Rattle.rubis_laws.proofs.Common.{ℕ, ◌≡◌, ◌+◌, ◌≤◌, List, [], ◌∷◌, true, false, cond, refl, sym, ap, ◌∙◌, subst, arith, Option, Some, None, inl, inr, pos}
use Rattle.rubis_laws.proofs.Common.{unsigned_abs, ◌==◌, not, nat_lt, option_map, option_and_then, is_none, is_some, IfSome, IsSome, Ok, All, option_map_or}
use Rattle.rubis_laws.proofs.Common.{option_or, true≢false, eq-eqb, eqb-true, le-ltb, ltb-false, not-false, not_from_true, or_from, or_parts, All-cons, All-nil}
use Rattle.rubis_laws.proofs.Common.{Decides-same_id, same_id, Id, RowKey, Best, ItemRow, UserRow, is_red, refers_of, winner_key, Ask, NewItem, Shadow, User}
use Rattle.rubis_laws.proofs.Common.{Item, Bid, Buy, Close, Rename, decision, is_due, of_item, order_of, shadow_of, Rows, is_ended, item_in, user_in, Standing}
use Rattle.rubis_laws.proofs.Common.{Fits, IsLimited, StandsIn, nick_taken, stock_short, wrong_category, wrong_winner, Core, as_bid, at_id, best_bid, bids_on}
use Rattle.rubis_laws.proofs.Common.{bought_by, close_of, closes, higher, is_same_nick, item_at, lists_item_of, named, nick_at, rates, rating_for, renames}
use Rattle.rubis_laws.proofs.Common.{restocked_of, sold_of, supply, total, user_at, when}
use Rattle.std.specs.Option.{option_eq}
use Rattle.rubis_shadow.specs.declared.shadows.Shadow.TheVariants.{Comment, Restock}
use Rattle.rubis_message.specs.Equal.{Decides-winner}
use Rattle.rubis_laws.proofs.Order.NotRefused.{NoneHolds, neither, not_refused, only}
use Rattle.rubis_laws.proofs.Rows.Nicks.{is_nick_at, is_nick_of, some_nick}
use Rattle.rubis_laws.proofs.Rows.Choices.{IsChoice, choose_is, higher_ranks}
use Rattle.rubis_laws.proofs.Rows.Sets.{Member, itself}

abbrev pub FitsByKind : List Core → Shadow → Type 0
FitsByKind before (User n) = named n before ≡ None
FitsByKind before (Item n) = IsSome (user_at n.seller before)
FitsByKind before (Bid b) = IsSome (item_at b.item before) × IsSome (user_at b.bidder before) × (close_of b.item before ≡ None)
FitsByKind before (Buy p) = IsSome (item_at p.item before) × IsSome (user_at p.buyer before) × (close_of p.item before ≡ None)
    × IfSome (item_at p.item before) (λ n. total (sold_of p.item) before + p.quantity ≤ supply before p.item n)
FitsByKind before (Close c) = option_map (λ (n : NewItem). n.cat) (item_at c.item before) ≡ Some c.cat × (close_of c.item before ≡ None)
    × (c.winner ≡ option_map (λ (m : Core). m.id) (best_bid c.item before))
FitsByKind before (Comment c) = IsSome (item_at c.item before) × IsSome (user_at c.from before) × IsSome (user_at c.to before)
FitsByKind before (Restock r) = IsSome (item_at r.item before)
FitsByKind before (Rename r) = (nick_at r.user before ≡ Some r.from) × (named r.to before ≡ None)

none_is : {X : Type 0} (o : Option X) → is_some o ≡ false → o ≡ None
none_is None e = refl
none_is (Some x) e = absurd (true≢false e)

none_told : {X : Type 0} {o : Option X} → o ≡ None → is_some o ≡ false
none_told e = ap is_some e

-- ---- a row stands where a message makes it
first_stands : {X : Type 0} (o p : Option X) → IsSome o → IsSome (option_or o p)
first_stands None p h = absurd (true≢false (sym h))
first_stands (Some x) p h = refl

rest_stands : {X : Type 0} (o p : Option X) → IsSome p → IsSome (option_or o p)
rest_stands None p h = h
rest_stands (Some x) p h = refl

pub stands_at : {X : Type 0} (f : Core → Option X) (a : List Core) (m : Core) → Member a m → IsSome (f m) → IsSome (at_id f m.id a)
stands_at f [] m h s = absurd h
stands_at f (x ∷ a) m (inl p) s = (λ i. is_some (option_or (when (same_id m.id (p i).id) (f (p i))) (at_id f m.id a)))
    ∙ (λ i. is_some (option_or (when (itself m.id i) (f m)) (at_id f m.id a))) ∙ first_stands (f m) _ s
stands_at f (x ∷ a) m (inr h) s = rest_stands (when (same_id m.id x.id) (f x)) (at_id f m.id a) (stands_at f a m h s)

-- a bid on an item makes a bid's row, whatever its red number
pub a_bid : (red : ℕ) (item : Id) (x : Shadow) → bids_on item x ≡ true → IsSome (as_bid red x)
a_bid red item (Bid b) e = refl
a_bid red item x e = absurd (true≢false (sym e))

module _ (a : List Core) where
  enough : (i : Id) (q : ℕ) (o : Option NewItem) → option_map_or (λ n. nat_lt (supply a i n) (total (sold_of i) a + q)) o false ≡ false
      → IfSome o (λ n. total (sold_of i) a + q ≤ supply a i n)
  enough i q None e = tt
  enough i q (Some n) e = ltb-false (supply a i n) (total (sold_of i) a + q) e

  not_short : (i : Id) (q : ℕ) (o : Option NewItem) → IfSome o (λ n. total (sold_of i) a + q ≤ supply a i n)
      → option_map_or (λ n. nat_lt (supply a i n) (total (sold_of i) a + q)) o false ≡ false
  not_short i q None h = refl
  not_short i q (Some n) h = le-ltb (supply a i n) (total (sold_of i) a + q) h

  same_cat : (cat : ℕ) (o : Option NewItem) → IsSome o → option_map_or (λ (n : NewItem). not (n.cat == cat)) o false ≡ false
      → option_map (λ (n : NewItem). n.cat) o ≡ Some cat
  same_cat cat None s e = absurd (true≢false (sym s))
  same_cat cat (Some n) s e = ap Some (eqb-true n.cat cat (not-false (n.cat == cat) e))

  right_cat : (cat : ℕ) (o : Option NewItem) → option_map (λ (n : NewItem). n.cat) o ≡ Some cat → option_map_or (λ (n : NewItem). not (n.cat == cat)) o false
      ≡ false
  right_cat cat None e = refl
  right_cat cat (Some n) e = let s : n.cat ≡ cat = cc in not_from_true (n.cat == cat) (eq-eqb n.cat cat s)

  has_cat : (o : Option NewItem) {c : ℕ} → option_map (λ (n : NewItem). n.cat) o ≡ Some c → IsSome o
  has_cat None e = absurd cc
  has_cat (Some n) e = refl

  -- ---- from the tests
  pub by_kind : (x : Shadow) → Fits a x → FitsByKind a x
  by_kind (User n) f = none_is (named n a) f.nick
  by_kind (Item n) f = f.known 0 (RowKey.User n.seller) (omega arith)
  by_kind (Bid b) f = (f.known 0 (RowKey.Item b.item) (omega arith), f.known 1 (RowKey.User b.bidder) (omega arith), none_is (close_of b.item a) f.winner)
  by_kind (Buy p) f = (
    f.known 0 (RowKey.Item p.item) (omega arith),
    f.known 1 (RowKey.User p.buyer) (omega arith),
    none_is (close_of p.item a) f.winner,
    enough p.item p.quantity (item_at p.item a) f.stock,
  )
  by_kind (Close c) f =
      let best = option_map (λ (m : Core). m.id) (best_bid c.item a) in
      let w = or_parts (is_some (close_of c.item a)) (not (option_eq same_id c.winner best)) f.winner in (
        same_cat c.cat (item_at c.item a) (f.known 0 (RowKey.Item c.item) (omega arith)) f.category,
        none_is (close_of c.item a) w.0,
        (Decides-winner c.winner best).0 (not-false (option_eq same_id c.winner best) w.1),
      )
  by_kind (Comment c) f =
      (f.known 0 (RowKey.Item c.item) (omega arith), f.known 1 (RowKey.User c.from) (omega arith), f.known 2 (RowKey.User c.to) (omega arith))
  by_kind (Restock r) f = f.known 0 (RowKey.Item r.item) (omega arith)
  by_kind (Rename r) f =
      let w = or_parts (is_some (named r.to a)) (not (is_same_nick r.from (nick_at r.user a))) f.nick in
      (is_nick_of {n = r.from} (nick_at r.user a) (not-false (is_same_nick r.from (nick_at r.user a)) w.1), none_is (named r.to a) w.0)

  -- ---- to the tests
  and_stands : (k : RowKey) (ks : List RowKey) → StandsIn a k → All (StandsIn a) ks → All (StandsIn a) (k ∷ ks)
  and_stands k ks = All-cons (StandsIn a) k ks

  one_stands : (k : RowKey) → StandsIn a k → All (StandsIn a) (k ∷ [])
  one_stands k h = and_stands k [] h (All-nil (StandsIn a))

  winner_stands : (j : Id) {o : Option Id} → o ≡ option_map (λ (m : Core). m.id) (best_bid j a) → All (StandsIn a) (winner_key o)
  winner_stands j e = subst (λ q. All (StandsIn a) (winner_key q)) (sym e) (at (best_bid j a) (choose_is higher_ranks (λ m. bids_on j m.shadow) a))
    where
      at : (p : Option Core) → IsChoice higher (λ m. bids_on j m.shadow) a p → All (StandsIn a) (winner_key (option_map (λ (m : Core). m.id) p))
      at None h = All-nil (StandsIn a)
      at (Some m) h = one_stands (RowKey.Bid m.id) (stands_at (λ k. as_bid k.red k.shadow) a m h.there (a_bid m.red j m.shadow h.passes))

  known_by : (x : Shadow) → FitsByKind a x → All (StandsIn a) (refers_of x)
  known_by (User n) f = All-nil (StandsIn a)
  known_by (Item n) f = one_stands (RowKey.User n.seller) f
  known_by (Bid b) f = and_stands (RowKey.Item b.item) (RowKey.User b.bidder ∷ []) f.0 (one_stands (RowKey.User b.bidder) f.1)
  known_by (Buy p) f = and_stands (RowKey.Item p.item) (RowKey.User p.buyer ∷ []) f.0 (one_stands (RowKey.User p.buyer) f.1)
  known_by (Close c) f = and_stands (RowKey.Item c.item) (winner_key c.winner) (has_cat (item_at c.item a) f.0) (winner_stands c.item f.2)
  known_by (Comment c) f = and_stands _ (RowKey.User c.from ∷ RowKey.User c.to ∷ []) f.0
      (and_stands (RowKey.User c.from) (RowKey.User c.to ∷ []) f.1 (one_stands (RowKey.User c.to) f.2))
  known_by (Restock r) f = one_stands (RowKey.Item r.item) f
  known_by (Rename r) f = one_stands (RowKey.User r.user) (some_nick r.user a f.0)

  right_category : (x : Shadow) → FitsByKind a x → wrong_category a x ≡ false
  right_category (Close c) f = right_cat c.cat (item_at c.item a) f.0
  right_category x f = refl

  nick_free : (x : Shadow) → FitsByKind a x → nick_taken a x ≡ false
  nick_free (User n) f = none_told f
  nick_free (Rename r) f = or_from _ _ (none_told f.1) (not_from_true _ (is_nick_at f.0))
  nick_free x f = refl

  stock_enough : (x : Shadow) → FitsByKind a x → stock_short a x ≡ false
  stock_enough (Buy p) f = not_short p.item p.quantity (item_at p.item a) f.3
  stock_enough x f = refl

  right_winner : (x : Shadow) → FitsByKind a x → wrong_winner a x ≡ false
  right_winner (Bid b) f = none_told f.2
  right_winner (Buy p) f = none_told f.2
  right_winner (Close c) f =
      let best = option_map (λ (m : Core). m.id) (best_bid c.item a) in
      or_from (is_some (close_of c.item a)) (not (option_eq same_id c.winner best)) (none_told f.1)
      (not_from_true (option_eq same_id c.winner best) ((Decides-winner c.winner best).1 f.2))
  right_winner x f = refl

  pub from_kind : {x : Shadow} → FitsByKind a x → Fits a x
  from_kind {x} f = record {
    known = known_by x f;
    category = right_category x f;
    nick = nick_free x f;
    stock = stock_enough x f;
    winner = right_winner x f;
  }

-- ---- where it is decided

-- the rows tell what the log has
pub record Tells (t : Rows) (a : List Core) : Type 0 where
  pub user : (i : Id) → is_none (user_in t i) ≡ false → IsSome (user_at i a)
  pub nick : (i : Id) → is_none (user_in t i) ≡ false → nick_at i a ≡ Some (option_map_or (λ (u : UserRow). u.nick) (user_in t i) [])
  pub free : (n : List ℕ) → is_some (t (RowKey.Nick n)) ≡ false → named n a ≡ None
  pub item : (i : Id) → is_none (item_in t i) ≡ false → (n : NewItem) × (item_at i a ≡ Some n)
  pub unended : (i : Id) (n : NewItem) → item_at i a ≡ Some n → of_item t i (λ r. is_ended r.sale) ≡ false → close_of i a ≡ None
  pub enough : (i : Id) (n : NewItem) (q : ℕ) → item_at i a ≡ Some n → of_item t i (λ r. nat_lt r.stock q) ≡ false
      → IfSome (item_at i a) (λ n. total (sold_of i) a + q ≤ supply a i n)
  pub cat : (i : Id) (n : NewItem) → item_at i a ≡ Some n
      → option_map (λ (n : NewItem). n.cat) (item_at i a) ≡ Some (option_map_or (λ (r : ItemRow). r.cat) (item_in t i) 0)
  pub winner : (i : Id) (n : NewItem) → item_at i a ≡ Some n
      → option_and_then (λ (r : ItemRow). option_map (λ (b : Best). b.bid) r.best) (item_in t i) ≡ option_map (λ (m : Core). m.id) (best_bid i a)

-- no refusal holds of what is decided
none_due : (t : Rows) (s : Standing) (ask : Ask) {x : Shadow} → decision t s ask ≡ Ok x → NoneHolds (is_due t s ask) (order_of ask) × (shadow_of t ask ≡ x)
none_due t s ask e = not_refused (is_due t s ask) (order_of ask) (shadow_of t ask) e

pub decided_by_kind : {t : Rows} {a : List Core} → Tells t a → (s : Standing) (ask : Ask) {x : Shadow} → decision t s ask ≡ Ok x → FitsByKind a x
decided_by_kind {t} {a} h s (Ask.User n) e =
    let w = none_due t s (Ask.User n) e in subst (FitsByKind a) w.1 (h.free n w.0.1.1.1.0)
decided_by_kind {t} {a} h s (Ask.Item n) e =
    let w = none_due t s (Ask.Item n) e in subst (FitsByKind a) w.1 (h.user n.seller (only _ w.0.1.0))
decided_by_kind {t} {a} h s (Ask.Bid b) e =
    let w = none_due t s (Ask.Bid b) e in let n = h.item b.item w.0.1.1.1.0 in
    subst (FitsByKind a) w.1 (ap is_some n.1, h.user b.bidder (only _ w.0.1.1.1.1.0), h.unended b.item n.0 n.1 w.0.1.1.1.1.1.0)
decided_by_kind {t} {a} h s (Ask.Buy p) e =
    let w = none_due t s (Ask.Buy p) e in let n = h.item p.item w.0.1.1.1.0 in
    subst (FitsByKind a) w.1 (
      ap is_some n.1,
      h.user p.buyer (only _ w.0.1.1.1.1.0),
      h.unended p.item n.0 n.1 w.0.1.1.1.1.1.0,
      h.enough p.item n.0 p.quantity n.1 w.0.1.1.1.1.1.1.1.1.0,
    )
decided_by_kind {t} {a} h s (Ask.Close c) e =
    let w = none_due t s (Ask.Close c) e in let n = h.item c.item w.0.1.1.1.0 in
    subst (FitsByKind a) w.1 (
      h.cat c.item n.0 n.1,
      h.unended c.item n.0 n.1 w.0.1.1.1.1.1.0,
      h.winner c.item n.0 n.1,
    )
decided_by_kind {t} {a} h s (Ask.Comment c) e =
    let w = none_due t s (Ask.Comment c) e in let n = h.item c.item w.0.1.0 in
    let u = neither _ _ w.0.1.1.0 in
    subst (FitsByKind a) w.1 (ap is_some n.1, h.user c.from u.0, h.user c.to u.1)
decided_by_kind {t} {a} h s (Ask.Restock r) e =
    let w = none_due t s (Ask.Restock r) e in let n = h.item r.item w.0.1.0 in
    subst (FitsByKind a) w.1 (ap is_some n.1)
decided_by_kind {t} {a} h s (Ask.Rename r) e =
    let w = none_due t s (Ask.Rename r) e in subst (FitsByKind a) w.1
    (h.nick r.user (only _ w.0.1.1.1.0), h.free r.nick (or_parts (is_some (t (RowKey.Nick r.nick))) _ w.0.1.1.1.1.0).0)

-- ---- where it is released

-- what a later log has of an earlier one
pub record Keeps (a b : List Core) : Type 0 where
  pub user : (i : Id) → IsSome (user_at i a) → IsSome (user_at i b)
  pub item : (i : Id) → IsSome (item_at i a) → IsSome (item_at i b)
  pub cat : (i : Id) (c : ℕ) → option_map (λ (n : NewItem). n.cat) (item_at i a) ≡ Some c → option_map (λ (n : NewItem). n.cat) (item_at i b) ≡ Some c

-- and what it has if none of its red messages is another
pub record KeepsReds (a b : List Core) : Type 0 where
  pub close : (i : Id) → close_of i a ≡ close_of i b
  pub best : (i : Id) → best_bid i a ≡ best_bid i b
  pub nick : (u : Id) → nick_at u a ≡ nick_at u b
  pub named : (n : List ℕ) → named n a ≡ named n b
  pub stock : (i : Id) (q : ℕ) → IsSome (item_at i a) → IfSome (item_at i a) (λ n. total (sold_of i) a + q ≤ supply a i n)
      → IfSome (item_at i b) (λ n. total (sold_of i) b + q ≤ supply b i n)

pub kept_by_kind : {a b : List Core} → Keeps a b → (x : Shadow) → (is_red x ≡ true → KeepsReds a b) → FitsByKind a x → FitsByKind b x
kept_by_kind k (User n) r f = sym ((r refl).named n) ∙ f
kept_by_kind k (Item n) r f = k.user n.seller f
kept_by_kind k (Bid x) r f = (k.item x.item f.0, k.user x.bidder f.1, sym ((r refl).close x.item) ∙ f.2)
kept_by_kind k (Buy p) r f = (k.item p.item f.0, k.user p.buyer f.1, sym ((r refl).close p.item) ∙ f.2, (r refl).stock p.item p.quantity f.0 f.3)
kept_by_kind k (Close c) r f = (k.cat c.item c.cat f.0, sym ((r refl).close c.item) ∙ f.1, f.2 ∙ ap (option_map (λ (m : Core). m.id)) ((r refl).best c.item))
kept_by_kind k (Comment c) r f = (k.item c.item f.0, k.user c.from f.1, k.user c.to f.2)
kept_by_kind k (Restock x) r f = k.item x.item f
kept_by_kind k (Rename x) r f = (sym ((r refl).nick x.user) ∙ f.0, sym ((r refl).named x.to) ∙ f.1)

-- ---- what it says of rows

not_there : {X : Type 0} (o : Option X) → IsSome o → o ≡ None → ⊥
not_there None s e = absurd (true≢false (sym s))
not_there (Some x) s e = absurd cc

-- a test of two ids fails where one names a row and the other has none
other_user : (u v : Id) (a : List Core) → user_at u a ≡ None → IsSome (user_at v a) → same_id u v ≡ false
other_user u v a e s = elim (same_id u v) as (λ b. same_id u v ≡ b → b ≡ false)
    [ true ↦ λ h. absurd (not_there _ s (subst (λ w. user_at w a ≡ None) ((Decides-same_id u v).0 h) e)) | false ↦ λ h. refl ] refl

other_item : (u v : Id) (a : List Core) → item_at u a ≡ None → IsSome (item_at v a) → same_id u v ≡ false
other_item u v a e s = elim (same_id u v) as (λ b. same_id u v ≡ b → b ≡ false)
    [ true ↦ λ h. absurd (not_there _ s (subst (λ w. item_at w a ≡ None) ((Decides-same_id u v).0 h) e)) | false ↦ λ h. refl ] refl

pub mapped_some : {X Y : Type 0} (f : X → Y) (o : Option X) {y : Y} → option_map f o ≡ Some y → IsSome o
mapped_some f None e = absurd cc
mapped_some f (Some x) e = refl

pub record SaysNothingOfUser (u : Id) (x : Shadow) : Type 0 where
  pub items : lists_item_of u x ≡ false
  pub bought : bought_by u x ≡ 0
  pub rating : rating_for u x ≡ pos 0
  pub comments : rates u x ≡ false
  pub rename : renames u x ≡ false

pub record SaysNothingOfItem (i : Id) (x : Shadow) : Type 0 where
  pub sold : sold_of i x ≡ 0
  pub restocked : restocked_of i x ≡ 0
  pub bids : bids_on i x ≡ false
  pub close : closes i x ≡ false

pub nothing_of_user : (u : Id) (a : List Core) (x : Shadow) → FitsByKind a x → user_at u a ≡ None → SaysNothingOfUser u x
nothing_of_user u a (Item n) f e = record { items = other_user u n.seller a e f; bought = refl; rating = refl; comments = refl; rename = refl }
nothing_of_user u a (Buy p) f e =
    record { items = refl; bought = ap (λ b. cond b p.quantity 0) (other_user u p.buyer a e f.1); rating = refl; comments = refl; rename = refl }
nothing_of_user u a (Comment c) f e =
    record {
      items = refl;
      bought = refl;
      rating = ap (λ b. cond b c.rating (pos 0)) (other_user u c.to a e f.2);
      comments = other_user u c.to a e f.2;
      rename = refl;
    }
nothing_of_user u a (Rename r) f e = record { items = refl; bought = refl; rating = refl; comments = refl; rename = other_user u _ a e (some_nick _ a f.0) }
nothing_of_user u a x f e = record { items = refl; bought = refl; rating = refl; comments = refl; rename = refl }

pub nothing_of_item : (i : Id) (a : List Core) (x : Shadow) → FitsByKind a x → item_at i a ≡ None → SaysNothingOfItem i x
nothing_of_item i a (Bid b) f e = record { sold = refl; restocked = refl; bids = other_item i b.item a e f.0; close = refl }
nothing_of_item i a (Buy p) f e = record { sold = ap (λ b. cond b p.quantity 0) (other_item i p.item a e f.0); restocked = refl; bids = refl; close = refl }
nothing_of_item i a (Close c) f e = record { sold = refl; restocked = refl; bids = refl; close = other_item i c.item a e (mapped_some _ _ f.0) }
nothing_of_item i a (Restock r) f e = record { sold = refl; restocked = ap (λ b. cond b r.quantity 0) (other_item i _ a e f); bids = refl; close = refl }
nothing_of_item i a x f e = record { sold = refl; restocked = refl; bids = refl; close = refl }

pub bought_in : (u : Id) (x : Shadow) → IsLimited x → bought_by u x ≤ 1000000
bought_in u (Buy p) h = elim (same_id u p.buyer) as (λ b. cond b p.quantity 0 ≤ 1000000) [ true ↦ h.1.quantity.small | false ↦ omega arith ]
bought_in u x h = omega arith

pub sold_in : (i : Id) (x : Shadow) → IsLimited x → sold_of i x ≤ 1000000
sold_in i (Buy p) h = elim (same_id i p.item) as (λ b. cond b p.quantity 0 ≤ 1000000) [ true ↦ h.1.quantity.small | false ↦ omega arith ]
sold_in i x h = omega arith

pub restocked_in : (i : Id) (x : Shadow) → IsLimited x → restocked_of i x ≤ 1000000
restocked_in i (Restock r) h = elim (same_id i r.item) as (λ b. cond b r.quantity 0 ≤ 1000000) [ true ↦ h.1.1.small | false ↦ omega arith ]
restocked_in i x h = omega arith

pub rated_in : (u : Id) (x : Shadow) → IsLimited x → unsigned_abs (rating_for u x) ≤ 5
rated_in u (Comment c) h = elim (same_id u c.to) as (λ b. unsigned_abs (cond b c.rating (pos 0)) ≤ 5) [ true ↦ h.1.rating | false ↦ omega arith ]
rated_in u x h = omega arith
