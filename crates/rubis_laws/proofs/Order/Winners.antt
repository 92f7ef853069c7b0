-- The token, and the winners of closed auctions.
use Rattle.rubis_laws.proofs.Common.{◌≡◌, ℕ, ◌+◌, ◌<◌, ◌≤◌, Option, Some, None, List, [], ◌∷◌, ◌++◌, sym, ap, ◌∙◌, subst, inl, inr, ⊎_elim, arith, cases_eq}
use Rattle.rubis_laws.proofs.Common.{same_Some, Message, Has, Token, Packet, red_count, turns, Stands, Travels, OneToken, has_last, true, option_map}
use Rattle.rubis_laws.proofs.Common.{option_and_then, ◌⊎◌, ◌-◌, IfSome, cases_order, true≢false, Id, Shadow, Bid, Close, Holds, ItemRow, NewItem, Row, Ended}
use Rattle.rubis_laws.proofs.Common.{total, sold_of, supply, meaning_row, item_row, sale_after, item_at, bids_on, closes, close_of, best_bid, winner_of, higher}
use Rattle.rubis_laws.proofs.Common.{earlier, is_red, Fits, Decides-same_id, IsHighestBid, Core, core, cores, RowKey}
use Rattle.rubis_laws.proofs.Order.Deciding.{not_right, right_cases, red_count_right, turns_right, turns_shadow, red_count_red}
use Rattle.rubis_laws.proofs.Order.FitsByKind.{by_kind}
use Rattle.rubis_laws.proofs.Rows.Sets.{Member, OneEach}
use Rattle.rubis_laws.proofs.Rows.Choices.{IsChoice, choose_is, earlier_ranks, higher_ranks}
use Rattle.rubis_laws.proofs.Rows.EqualSets.{bid_red, close_red}
use Rattle.rubis_laws.proofs.Rows.Cores.{has_core, core_of}

-- only where the token stands is it held, and it says how many red ones were sent
pub held_is : (n : ℕ) (held : ℕ → Option ℕ) (last : ℕ → ℕ) (sent : List Packet) (i : ℕ) {issued : ℕ} → OneToken n held last sent → held i ≡ Some issued
    → Stands n held last sent i × (issued ≡ red_count sent)
held_is n held last sent i (inr t) e = let k = t.1.nowhere i in absurd (cc)
held_is n held last sent i {issued} (inl t) e = ⊎_elim (here) (λ k. let a = t.1.alone i k in absurd (cc)) (cases_eq i t.0)
  where
    here : i ≡ t.0 → Stands n held last sent i × (issued ≡ red_count sent)
    here k = let s = subst (Stands n held last sent) (sym k) t.1 in (s, same_Some issued (red_count sent) (sym e ∙ s.here))

-- the same token, told of other functions and packets
pub token_same : {n : ℕ} (held held' : ℕ → Option ℕ) (last last' : ℕ → ℕ) {sent sent' : List Packet} → ((i : ℕ) → held' i ≡ held i) → ((i : ℕ) → last' i ≡ last
    i) → red_count sent' ≡ red_count sent → turns sent' ≡ turns sent → ((t : Token) → Has (Packet.Token t) sent' → Has (Packet.Token t) sent)
    → ((t : Token) → Has (Packet.Token t) sent → Has (Packet.Token t) sent') → OneToken n held last sent → OneToken n held' last' sent'
token_same held held' last last' eh el ec et back on (inl t) = inl (
  t.0,
  record {
    within = t.1.within;
    here = eh t.0 ∙ t.1.here ∙ ap (λ k. Some k) (sym ec);
    alone = λ i k. eh i ∙ t.1.alone i k;
    now = el t.0 ∙ t.1.now ∙ sym et;
    earlier = λ i. omega (arith, t.1.earlier i, el i);
    taken = λ u h. omega (arith, t.1.taken u (back u h), el u.to);
  },
)
token_same held held' last last' eh el ec et back on (inr t) = inr (
  t.0,
  record {
    within = t.1.within;
    there = on t.0 t.1.there;
    issued = t.1.issued ∙ sym ec;
    turn = t.1.turn ∙ sym et;
    untaken = omega (arith, t.1.untaken, el t.0.to);
    nowhere = λ i. eh i ∙ t.1.nowhere i;
    earlier = λ i. omega (arith, t.1.earlier i, el i);
    others = λ u h. ⊎_elim (λ e. inl e) (λ k. inr (omega (arith, k, el u.to))) (t.1.others u (back u h));
  },
)

-- a red message more
pub token_red : {n : ℕ} {held : ℕ → Option ℕ} (held' : ℕ → Option ℕ) {last : ℕ → ℕ} (last' : ℕ → ℕ) {sent : List Packet} (m : Message) {i : ℕ}
    → held' i ≡ Some (red_count sent + 1) → ((j : ℕ) → (j ≡ i → ⊥) → held' j ≡ held j) → ((j : ℕ) → last' j ≡ last j) → 0 < m.stamp.red
    → Stands n held last sent i → Stands n held' last' (sent ++ Packet.Msg m ∷ []) i
token_red held' last' {sent} m {i} e eh el l s = record {
  within = s.within;
  here = e ∙ ap (λ k. Some k) (sym (red_count_red sent m l));
  alone = λ j k. eh j k ∙ s.alone j k;
  now = el i ∙ s.now ∙ sym (turns_shadow sent m);
  earlier = λ j. omega (arith, s.earlier j, el j, turns_shadow sent m);
  taken = λ u h. omega (arith, s.taken u (not_right u m sent h), el u.to);
}

-- it is passed on
pub token_passed : {n : ℕ} {held : ℕ → Option ℕ} (held' : ℕ → Option ℕ) {last : ℕ → ℕ} (last' : ℕ → ℕ) {sent : List Packet} (t : Token) {i : ℕ} → held' i ≡ None
    → ((j : ℕ) → (j ≡ i → ⊥) → held' j ≡ held j) → ((j : ℕ) → last' j ≡ last j) → t.turn ≡ last i + 1 → t.to < n → t.issued ≡ red_count sent
    → Stands n held last sent i → Travels n held' last' (sent ++ Packet.Token t ∷ []) t
token_passed held' last' {sent} t {i} e eh el turn to issued s = record {
  within = to;
  there = has_last (Packet.Token t) sent;
  issued = issued ∙ sym (red_count_right sent t);
  turn = omega (arith, turn, s.now, turns_right sent t);
  untaken = omega (arith, turn, s.now, s.earlier t.to, el t.to);
  nowhere = λ j. ⊎_elim (λ k. ap held' k ∙ e) (λ k. eh j k ∙ s.alone j k) (cases_eq j i);
  earlier = λ j. omega (arith, s.earlier j, el j, turns_right sent t);
  others = λ u h. ⊎_elim (λ k. inr (omega (arith, s.taken u k, el u.to))) (λ k. inl k) (right_cases u t sent h);
}

-- only the one untaken packet is taken
pub token_taken : (n : ℕ) (held held' : ℕ → Option ℕ) (last last' : ℕ → ℕ) (sent : List Packet) (u : Token) → Has (Packet.Token u) sent → last u.to < u.turn
    → held' u.to ≡ Some u.issued → last' u.to ≡ u.turn → ((j : ℕ) → (j ≡ u.to → ⊥) → held' j ≡ held j) → ((j : ℕ) → (j ≡ u.to → ⊥) → last' j ≡ last j)
    → OneToken n held last sent → Stands n held' last' sent u.to
token_taken n held held' last last' sent u h l e f eh el (inl t) = absurd (omega (arith, t.1.taken u h))
token_taken n held held' last last' sent u h l e f eh el (inr t) = ⊎_elim here (λ k. absurd (omega arith)) (t.1.others u h)
  where
    here : u ≡ t.0 → Stands n held' last' sent u.to
    here k = let s : Travels n held last sent u = subst (Travels n held last sent) (sym k) t.1 in record {
      within = s.within;
      here = e ∙ ap (λ x. Some x) s.issued;
      alone = λ j q. eh j q ∙ s.nowhere j;
      now = f ∙ s.turn;
      earlier =
          λ j. ⊎_elim (λ q. subst (λ x. last' x ≤ turns sent) (sym q) (omega (arith, f, s.turn))) (λ q. omega (arith, el j q, s.earlier j)) (cases_eq j u.to);
      taken = λ v b. ⊎_elim
          (λ q. let a : last' v.to ≡ u.turn = ap (λ (x : Token). last' x.to) q ∙ f in let c : v.turn ≡ u.turn = ap (λ (x : Token). x.turn) q in omega arith)
          (λ q. ⊎_elim (λ p. let a : last' v.to ≡ u.turn = ap last' p ∙ f in let c = ap last p in omega (arith, s.untaken)) (λ p. omega (arith, el v.to p))
          (cases_eq v.to u.to))
          (s.others v b);
    }

-- ---- over all sites: one close an item, and its winner is the highest of all its bids

abbrev item_in : Row → Option ItemRow
item_in (Row.Item r) = Some r
item_in r = None

-- the same item row
pub same_row : (a : List Core) (j : Id) (n : NewItem) {r : ItemRow} → Some (item_row a j n) ≡ Some (Row.Item r) → {X : Type 0} (f : ItemRow → X)
    → option_map f (item_in (item_row a j n)) ≡ Some (f r)
same_row a j n e f = ap (λ o. option_map f (option_and_then item_in o)) e

-- ---- what the checks say of one shadow
open_for : {a : List Core} (j : Id) (x : Shadow) → Fits a x → bids_on j x ≡ true → close_of j a ≡ None
open_for {a} j (Bid b) f e = subst (λ k. close_of k a ≡ None) (sym ((Decides-same_id j b.item).0 e)) (by_kind a (Bid b) f).2
open_for j x f e = absurd (true≢false (sym e))

open_before : {a : List Core} (j : Id) (x : Shadow) → Fits a x → closes j x ≡ true → close_of j a ≡ None
open_before {a} j (Close b) f e = subst (λ k. close_of k a ≡ None) (sym ((Decides-same_id j b.item).0 e)) (by_kind a (Close b) f).1
open_before j x f e = absurd (true≢false (sym e))

won_by : {a : List Core} (j : Id) (x : Shadow) → Fits a x → closes j x ≡ true → winner_of x ≡ option_map (λ (m : Core). m.id) (best_bid j a)
won_by {a} j (Close b) f e = subst (λ k. b.winner ≡ option_map (λ (m : Core). m.id) (best_bid k a)) (sym ((Decides-same_id j b.item).0 e)) (by_kind a _ f).2
won_by j x f e = absurd (true≢false (sym e))

not_both : (j : Id) (x : Shadow) → bids_on j x ≡ true → closes j x ≡ true → ⊥
not_both j (Bid b) e f = true≢false (sym f)
not_both j x e f = true≢false (sym e)

none_closes : (a : List Core) (j : Id) (m : Core) → close_of j a ≡ None → Member a m → closes j m.shadow ≡ true → ⊥
none_closes a j m e h t = true≢false (sym t ∙ subst (IsChoice earlier (λ x. closes j x.shadow) a) e (choose_is earlier_ranks (λ x. closes j x.shadow) a) m h)

-- ---- what v was decided against: oldest first, with every red message of a smaller number
pub record Ground (all : Message → Type 0) (v : Message) : Type 0 where
  pub past : List Message
  pub members : (u : Message) → Has u past → all u
  pub ids : OneEach (cores past)
  pub fits : Fits (cores past) v.shadow
  pub reds : (u : Message) → all u → is_red u.shadow ≡ true → is_red v.shadow ≡ true → u.stamp.red < v.stamp.red → Has u past

module _ (all : Message → Type 0) (ground : (v : Message) → all v → Ground all v)
    (single : (u v : Message) → all u → all v → is_red u.shadow ≡ true → is_red v.shadow ≡ true → u.stamp.red ≡ v.stamp.red → u ≡ v) where
  red_cases : {u v : Message} (a : all u) (b : all v) → is_red u.shadow ≡ true → is_red v.shadow ≡ true
      → (u ≡ v) ⊎ (Has u (ground v b).past ⊎ Has v (ground u a).past)
  red_cases {u} {v} a b e f = ⊎_elim (λ q. inl (single u v a b e f q))
      (λ o. inr (⊎_elim (λ q. inl ((ground v b).reds u a e f q)) (λ q. inr ((ground u a).reds v b f e q)) o)) (cases_order u.stamp.red v.stamp.red)

  pub one_close : (j : Id) (u v : Message) → all u → all v → closes j u.shadow ≡ true → closes j v.shadow ≡ true → u ≡ v
  one_close j u v a b e f = ⊎_elim (λ q. q) (λ o. absurd (⊎_elim (λ h. none_closes _ j _ (open_before j _ (ground v b).fits f) (has_core u _ h) e)
      (λ h. none_closes _ j _ (open_before j _ (ground u a).fits e) (has_core v _ h) f) o)) (red_cases a b (close_red j _ e) (close_red j _ f))

  -- a bid for an item that was closed is in what the close was decided against
  bid_before : (j : Id) (b c : Message) (sb : all b) (sc : all c) → bids_on j b.shadow ≡ true → closes j c.shadow ≡ true
      → Member (cores (ground c sc).past) (core b)
  bid_before j b c sb sc e f = has_core b _ (⊎_elim (λ q. absurd (not_both j _ (subst (λ (x : Message). bids_on j x.shadow ≡ true) q e) f)) (λ o. ⊎_elim
      (λ h. h) (λ h. absurd (none_closes _ j _ (open_for j _ (ground b sb).fits e) (has_core c _ h) f)) o) (red_cases sb sc (bid_red j _ e) (close_red j _ f)))

  pub winner_is : (j : Id) (c : Message) → all c → closes j c.shadow ≡ true → IsHighestBid all j (winner_of c.shadow)
  winner_is j c sc f = subst (IsHighestBid all j) (sym (won_by j c.shadow (ground c sc).fits f))
      (at (best_bid j (cores (ground c sc).past)) (choose_is higher_ranks (λ m. bids_on j m.shadow) (cores (ground c sc).past)))
    where
      at : (o : Option Core) → IsChoice higher (λ m. bids_on j m.shadow) (cores (ground c sc).past) o
          → IsHighestBid all j (option_map (λ (m : Core). m.id) o)
      at None h = λ b k. true≢false (sym k.1 ∙ h (core b) (bid_before j b c k.0 sc k.1 f))
      at (Some m) h =
          let w = core_of m (ground c sc).past h.there in (
            w.0,
            ((ground c sc).members w.0 w.1, ap (λ (x : Core). bids_on j x.shadow) w.2 ∙ h.passes),
            ap (λ (x : Core). x.id) w.2,
            (λ b k. ap (higher (core b)) w.2 ∙ h.unbeaten (core b) (bid_before j b c k.0 sc k.1 f) k.1),
          )

  ended_winner : (a : List Message) (j : Id) → ((m : Message) → Has m a → all m)
      → IfSome (close_of j (cores a)) (λ c. IsHighestBid all j (winner_of c.shadow))
  ended_winner a j inside = at (close_of j (cores a)) (choose_is earlier_ranks (λ m. closes j m.shadow) (cores a))
    where
      at : (o : Option Core) → IsChoice earlier (λ m. closes j m.shadow) (cores a) o → IfSome o (λ c. IsHighestBid all j (winner_of c.shadow))
      at None h = tt
      at (Some c) h =
          let w = core_of c a h.there in
          subst (λ (x : Core). IsHighestBid all j (winner_of x.shadow)) w.2
          (winner_is j w.0 (inside w.0 w.1) (ap (λ (x : Core). closes j x.shadow) w.2 ∙ h.passes))

  -- as the item's row shows it
  pub row_winner : (a : List Message) (j : Id) (r : ItemRow) (o : Option Id) → ((m : Message) → Has m a → all m)
      → meaning_row (cores a) (RowKey.Item j) ≡ Some (Row.Item r) → r.sale ≡ Ended o → IsHighestBid all j o
  unfolding meaning_row
  row_winner a j r o inside e f = at (item_at j (cores a)) e
    where
      ended : (c : Option Core) → IfSome c (λ m. IsHighestBid all j (winner_of m.shadow)) → sale_after c ≡ Ended o → IsHighestBid all j o
      ended None h g = absurd cc
      ended (Some m) h g = subst (IsHighestBid all j) (let p : winner_of m.shadow ≡ o = cc in p) h

      at : (i : Option NewItem) → option_map (item_row (cores a) j) i ≡ Some (Row.Item r) → IsHighestBid all j o
      at None g = absurd cc
      at (Some n) g = ended (close_of j (cores a)) (ended_winner a j inside) (sale_of n g ∙ f)
        where
          sale_of : (n : NewItem) → Some (item_row (cores a) j n) ≡ Some (Row.Item r) → sale_after (close_of j (cores a)) ≡ r.sale
          sale_of n g = same_Some _ _ (same_row (cores a) j n {r = r} g (λ (q : ItemRow). q.sale))

-- what wasn't sold is what the item's row shows
pub stock_left : {a : List Core} (j : Id) {n : NewItem} (r : ItemRow) → Holds a → item_at j a ≡ Some n → meaning_row a (RowKey.Item j) ≡ Some (Row.Item r)
    → r.stock + r.sold ≡ supply a j n
unfolding meaning_row
stock_left {a} j {n} r h e g =
    let same : Some (item_row a j n) ≡ Some (Row.Item r) = ap (option_map (item_row a j)) (sym e) ∙ g in
    let stock : supply a j n - total (sold_of j) a ≡ r.stock = same_Some _ _ (same_row a j n same (λ (q : ItemRow). q.stock)) in
    let sold : total (sold_of j) a ≡ r.sold = same_Some _ _ (same_row a j n same (λ (q : ItemRow). q.sold)) in
    let few : total (sold_of j) a ≤ supply a j n = subst (λ o. IfSome o (λ n. total (sold_of j) a ≤ supply a j n)) e (h.stock j) in
    omega (arith, stock, sold, few)
