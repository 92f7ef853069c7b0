-- What a message's parts do to an item's row is what it adds to the row's meaning.
use Rattle.rubis_schema.specs.declared.rows.Sale.{Sale}
use Rattle.std.proofs.lemmas.Bool.{le-leb}
use Rattle.rubis_laws.proofs.Common.{Best, ℕ, ◌≡◌, ◌+◌, ◌-◌, ◌*◌, ◌^◌, ◌≤◌, ◌<◌, List, [], ◌∷◌, ◌++◌, length, Bool, true, false, cond, refl, sym, ap, ◌∙◌}
use Rattle.rubis_laws.proofs.Common.{subst, arith, Option, Some, None, fold, option_map, min, ◌&&◌, ◌||◌, nat_lt, IfSome, option_or, nat_tests, Id, NewItem}
use Rattle.rubis_laws.proofs.Common.{NewRestock, Shadow, Core, Row, Open, Insert, BidTaken, Sold, End, Restocked, same_id, change_row, better, fits_as}
use Rattle.rubis_laws.proofs.Common.{misfits_as, parts, new_item, is_red, StockShort, count, total, choice, when, at_id, item_at, as_item, sold_of}
use Rattle.rubis_laws.proofs.Common.{restocked_of, bids_on, closes, best_bid, close_of, best_of, sale_after, supply, item_row, meaning_row, higher, earlier}
use Rattle.rubis_laws.proofs.Common.{amount_of, Follows, Decides-same_id, RowKey}
use Rattle.rubis_laws.proofs.Order.FitsByKind.{by_kind}
use Rattle.rubis_laws.proofs.Rows.Sets.{Head, msg, plus_none, count_push, total_push, choose_push, choice_not, or_none, at_id_push_not, at_id_push, none_at}
use Rattle.rubis_shadow.specs.declared.shadows.NewClose.{NewClose}
use Rattle.rubis_laws.proofs.Rows.CheckedLogs.{Good, if_some_map}
use Rattle.rubis_laws.proofs.Rows.RowsOfUser.{at_key, small_sum, count_small}

abbrev pub row_with : NewItem → ℕ → ℕ → ℕ → Option Best → Sale → Row
row_with n stock sold bids best sale = Row.Item (record {
  seller = n.seller;
  name = n.name;
  cat = n.cat;
  stock = stock;
  sold = sold;
  start = n.start;
  price = n.price;
  bids = bids;
  best = best;
  sale = sale;
})

abbrev pub item_of : (NewItem → ℕ) → ℕ → ℕ → Option Core → Option Core → NewItem → Row
item_of w s b best close n = row_with n (w n - s) s b (option_map best_of best) (sale_after close)

same_item : (w : NewItem → ℕ) {s t b c : ℕ} {best beat close end : Option Core} (n : NewItem) → s ≡ t → b ≡ c → best ≡ beat → close ≡ end
    → item_of w s b best close n ≡ item_of w t c beat end n
same_item w n p q r v = λ i. item_of w (p i) (q i) (r i) (v i) n

abbrev bids : Id → Core → Bool
bids i m = bids_on i m.shadow

abbrev ends : Id → Core → Bool
ends i m = closes i m.shadow

abbrev grown_to : (NewItem → ℕ) → List Core → Core → Id → NewItem → Row
grown_to w a m i =
    item_of w (total (sold_of i) a + sold_of i m.shadow) (count (bids_on i) a + cond (bids i m) 1 0) (choice higher (bids i) (best_bid i a) m)
    (choice earlier (ends i) (close_of i a) m)

abbrev grown : List Core → Core → Id → NewItem → Row
grown a m i = grown_to (supply a i) a m i

item_row_to : (w : NewItem → ℕ) (a : List Core) (m : Core) (i : Id) (n : NewItem) → ((k : NewItem) → supply (a ++ m ∷ []) i k ≡ w k)
    → item_row (a ++ m ∷ []) i n ≡ grown_to w a m i n
item_row_to w a m i n e = (λ j. item_of (λ k. e k j) (total (sold_of i) (a ++ m ∷ [])) (count (bids_on i) (a ++ m ∷ [])) (best_bid i (a ++ m ∷ []))
    (close_of i (a ++ m ∷ [])) n) ∙ same_item w n (total_push _ a m) (count_push _ a m) (choose_push _ _ a m) (choose_push _ _ a m)

-- a message that adds nothing
item_row_push : (a : List Core) (m : Core) (i : Id) (n : NewItem) → restocked_of i m.shadow ≡ 0 → item_row (a ++ m ∷ []) i n ≡ grown a m i n
item_row_push a m i n e = item_row_to (supply a i) a m i n (λ k. let t = total_push (restocked_of i) a m in omega (arith, t, e))

item_meaning_push : (a : List Core) (m : Core) (i : Id) → as_item m.shadow ≡ None → restocked_of i m.shadow ≡ 0
    → meaning_row (a ++ m ∷ []) (RowKey.Item i) ≡ option_map (grown a m i) (item_at i a)
unfolding meaning_row
item_meaning_push a m i e r = λ j. option_map (λ n. item_row_push a m i n r j) (at_id_push_not (λ m. as_item m.shadow) i a m e j)

still : (w : NewItem → ℕ) (s b : ℕ) (best close : Option Core) (i : Id) (m : Core) (o : Option NewItem) → bids i m ≡ false → ends i m ≡ false
    → option_map (item_of w s b best close) o ≡ option_map (item_of w (s + 0) (b + 0) (choice higher (bids i) best m) (choice earlier (ends i) close m)) o
still w s b best close i m o p q =
    λ j. option_map (λ n. same_item w {s = s} {t = s + 0} {b = b} {c = b + 0} n (omega arith) (omega arith) (sym (choice_not higher (bids i) best m p))
    (sym (choice_not earlier (ends i) close m q)) j) o

-- a later message of an equal amount isn't higher
not_before : {m old n : ℕ} → n < m → old ≤ n → nat_lt m old ≡ false
not_before p q = grind (arith, nat_tests)

drop_tie : (a b : Bool) {c : Bool} → c ≡ false → (a || (b && c)) ≡ a
drop_tie true b e = refl
drop_tie false true e = e
drop_tie false false e = refl

higher_later : (n : ℕ) (m old : Core) → n < m.red → old.red ≤ n → higher m old ≡ nat_lt (amount_of old.shadow) (amount_of m.shadow)
higher_later n m old p q = drop_tie _ _ (not_before p q)

best_more : {n : ℕ} (p : Core → Bool) (best : Option Core) (m : Core) → n < m.red → IfSome best (λ x. x.red ≤ n) → p m ≡ true
    → better (option_map best_of best) (best_of m) ≡ option_map best_of (choice higher p best m)
best_more p None m later h e = ap (λ b. option_map best_of (cond b (Some m) None)) (sym e)
best_more {n} p (Some old) m later h e = split (nat_lt (amount_of old.shadow) (amount_of m.shadow))
    ∙ (λ i. option_map best_of (cond (sym e i && sym (higher_later n m old later h) i) (Some m) (Some old)))
  where
    split : (b : Bool) → cond b (Some (best_of m)) (Some (best_of old)) ≡ option_map best_of (cond b (Some m) (Some old))
    split true = refl
    split false = refl

-- a bid
bid_taken : (t : Bool) (n : ℕ) (w : NewItem → ℕ) (s c : ℕ) (best close : Option Core) (i : Id) (m : Core) (o : Option NewItem) → bids i m ≡ t → ends i m ≡ false
    → (t ≡ true → close ≡ None) → n < m.red → IfSome best (λ x. x.red ≤ n) → c < 2 ^ 62
    → cond t (change_row (BidTaken (best_of m)) (option_map (item_of w s c best close) o)).row (option_map (item_of w s c best close) o) ≡ option_map
    (item_of w (s + 0) (c + cond t 1 0) (choice higher (bids i) best m) (choice earlier (ends i) close m)) o
unfolding change_row
bid_taken true n w s c best close i m None p q shut later h small = refl
bid_taken true n w s c best close i m (Some k) p q shut later h small =
    (λ j. (change_row (BidTaken (best_of m)) (Some (item_of w s c best (shut refl j) k))).row)
    ∙ (λ j. Some (row_with k (w k - plus_none s j) (plus_none s j) (small_sum c 1 (more small) j) (best_more (bids i) best m later h p j) Open)) ∙ ap
    (λ z. Some (item_of w (s + 0) (c + 1) (choice higher (bids i) best m) z k)) (sym (choice_not earlier (ends i) close m q ∙ shut refl))
  where
    more : c < 2 ^ 62 → c + 1 < 2 ^ 63
    more h = omega arith
bid_taken false n w s c best close i m o p q shut later h small = still w s c best close i m o p q

-- a sale
sold_more : (t : Bool) (q : ℕ) (w : NewItem → ℕ) (s c : ℕ) (best close : Option Core) (i : Id) (m : Core) (o : Option NewItem) → bids i m ≡ false
    → ends i m ≡ false → (t ≡ true → close ≡ None) → (t ≡ true → IfSome o (λ n. s + q ≤ w n)) → s + q < 2 ^ 62
    → cond t (change_row (Sold q) (option_map (item_of w s c best close) o)).row (option_map (item_of w s c best close) o) ≡ option_map
    (item_of w (s + cond t q 0) (c + 0) (choice higher (bids i) best m) (choice earlier (ends i) close m)) o
unfolding change_row
sold_more true q w s c best close i m None p e shut stock small = refl
sold_more true q w s c best close i m (Some k) p e shut stock small = (λ j. (change_row (Sold q) (Some (item_of w s c best (shut refl j) k))).row)
    ∙ (λ j. (cond (le-leb q _ (enough (stock refl)) j) (fits_as sold_row) (misfits_as StockShort (Some (item_of w s c best None k)))).row)
    ∙ (λ j. Some (row_with k (left j) (small_sum s q (more small) j) (plus_none c j) (option_map best_of (sym (choice_not higher (bids i) best m p) j)) Open))
    ∙ ap (λ z. Some (item_of w (s + q) (c + 0) (choice higher (bids i) best m) z k)) (sym (choice_not earlier (ends i) close m e ∙ shut refl))
  where
    more : s + q < 2 ^ 62 → s + q < 2 ^ 63
    more h = omega arith

    sold_row : Row
    sold_row = row_with k (w k - s - q) (min (s + q) (2 ^ 64 - 1)) c (option_map best_of best) Open

    enough : s + q ≤ w k → q ≤ w k - s
    enough h = omega arith

    left : w k - s - q ≡ w k - (s + q)
    left = omega arith
sold_more false q w s c best close i m o p e shut stock small = still w s c best close i m o p e

-- a close
closed : (t : Bool) (w : NewItem → ℕ) (s c : ℕ) (best close : Option Core) (i : Id) (st : Head) (e : NewClose) (o : Option NewItem) → same_id i e.item ≡ t
    → (t ≡ true → close ≡ None) → cond t (change_row (End e.winner) (option_map (item_of w s c best close) o)).row
    (option_map (item_of w s c best close) o) ≡ option_map
    (item_of w (s + 0) (c + 0) (choice higher (bids i) best (msg st (Shadow.Close e))) (choice earlier (ends i) close (msg st (Shadow.Close e)))) o
unfolding change_row
closed true w s c best close i st e None h shut = refl
closed true w s c best close i st e (Some k) h shut = (λ j. (change_row (End e.winner) (Some (item_of w s c best (shut refl j) k))).row) ∙ (λ j. Some (row_with
    k (w k - plus_none s j) (plus_none s j) (plus_none c j) (option_map best_of (sym (choice_not higher (bids i) best (msg st (Shadow.Close e)) refl) j))
    (sale_after (cond (sym h j) (Some (msg st (Shadow.Close e))) None)))) ∙ ap (λ z. Some (item_of w (s + 0) (c + 0)
    (choice higher (bids i) best (msg st (Shadow.Close e))) (choice earlier (ends i) z (msg st (Shadow.Close e))) k)) (sym (shut refl))
closed false w s c best close i st e o h shut = still w s c best close i (msg st (Shadow.Close e)) o refl h

-- more pieces
restocked_more : (t : Bool) (q : ℕ) (w : NewItem → ℕ) (s c : ℕ) (best close : Option Core) (i : Id) (m : Core) (o : Option NewItem) → bids i m ≡ false
    → ends i m ≡ false → (t ≡ true → IfSome o (λ n. (s ≤ w n) × (w n + q < 2 ^ 63)))
    → cond t (change_row (Restocked q) (option_map (item_of w s c best close) o)).row (option_map (item_of w s c best close) o) ≡ option_map
    (item_of (λ n. w n + cond t q 0) (s + 0) (c + 0) (choice higher (bids i) best m) (choice earlier (ends i) close m)) o
unfolding change_row
restocked_more true q w s c best close i m None p e h = refl
restocked_more true q w s c best close i m (Some k) p e h = λ j. Some (row_with k (more (h refl).0 (h refl).1 j) (plus_none s j) (plus_none c j)
    (option_map best_of (sym (choice_not higher (bids i) best m p) j)) (sale_after (sym (choice_not earlier (ends i) close m e) j)))
  where
    more : s ≤ w k → w k + q < 2 ^ 63 → min (w k - s + q) (2 ^ 64 - 1) ≡ w k + q - (s + 0)
    more a b = omega arith
restocked_more false q w s c best close i m o p e h =
    still w s c best close i m o p e
    ∙ (λ j. option_map (item_of (λ n. plus_none (w n) j) (s + 0) (c + 0) (choice higher (bids i) best m) (choice earlier (ends i) close m)) o)

restocked_meaning : (a : List Core) (s : Head) (r : NewRestock) (i : Id) → meaning_row (a ++ msg s (Shadow.Restock r) ∷ []) (RowKey.Item i) ≡ option_map
    (grown_to (λ n. supply a i n + cond (same_id i r.item) r.quantity 0) a (msg s (Shadow.Restock r)) i) (item_at i a)
unfolding meaning_row
restocked_meaning a s r i = λ j. option_map (λ n. item_row_to (λ n. supply a i n + cond (same_id i r.item) r.quantity 0) a (msg s (Shadow.Restock r)) i n
    (λ k. let t = total_push (restocked_of i) a (msg s (Shadow.Restock r)) in omega (arith, t)) j)
    (at_id_push_not (λ m. as_item m.shadow) i a (msg s (Shadow.Restock r)) refl j)

restock_small : (l n t q : ℕ) → n ≤ 1000000 → t ≤ l * 1000000 → q ≤ 1000000 → l < 2 ^ 32 → n + t + q < 2 ^ 63
restock_small l n t q a b c d = omega arith

new_item_is : (n : NewItem) → Row.Item (new_item n) ≡ item_of (λ n. n.stock) 0 0 None None n
new_item_is n = λ j. row_with n (all_of j) 0 0 None Open
  where
    all_of : n.stock ≡ n.stock - 0
    all_of = omega arith

opening_supply : (a : List Core) (i : Id) (k : NewItem) → total (restocked_of i) a ≡ 0 → k.stock ≡ supply a i k
opening_supply a i k e = omega (arith, e)

-- a new item's row
inserted : {a : List Core} (s : Head) (n : NewItem) (i : Id) (b : Bool) → same_id i s.id ≡ b → Good a → Follows a (msg s (Shadow.Item n))
    → cond b (change_row (Insert (Row.Item (new_item n))) (meaning_row a (RowKey.Item i))).row (meaning_row a (RowKey.Item i)) ≡ meaning_row
    (a ++ msg s (Shadow.Item n) ∷ []) (RowKey.Item i)
unfolding change_row meaning_row
inserted {a} s n i true e g f =
    let none : item_at i a ≡ None = none_at (λ m. as_item m.shadow) i a (subst (λ w. at_id Some w a ≡ None) (sym ((Decides-same_id i s.id).0 e)) f.new_id) in
    let z = g.no_item i none in
    let there : item_at i (a ++ msg s (Shadow.Item n) ∷ []) ≡ Some n = at_id_push (λ m. as_item m.shadow) i a (msg s (Shadow.Item n))
    ∙ (λ j. option_or (none j) (when (e j) (Some n))) in
    ap (λ o. (change_row (Insert (Row.Item (new_item n))) (option_map (item_row a i) o)).row) none
    ∙ ap Some (new_item_is n ∙ (λ j. item_of (λ k. opening_supply a i k z.restocked j) 0 0 None None n)
    ∙ same_item (supply a i) {s = 0} {b = 0} {best = None} {close = None} n (sym (ap (λ k. k + 0) z.sold)) (sym (ap (λ k. k + 0) z.bids))
    (sym (choice_not higher (bids i) _ (msg s (Shadow.Item n)) refl ∙ z.best)) (sym (choice_not earlier (ends i) _ (msg s (Shadow.Item n)) refl ∙ z.close))
    ∙ sym (item_row_push a (msg s (Shadow.Item n)) i n refl)) ∙ ap (option_map (item_row (a ++ msg s (Shadow.Item n) ∷ []) i)) (sym there)
inserted {a} s n i false e g f = still _ _ _ _ _ i (msg s (Shadow.Item n)) _ refl refl ∙ (λ j. option_map
    (λ k. sym (item_row_push a (msg s (Shadow.Item n)) i k refl) j) (item_at i a)) ∙ ap (option_map (item_row (a ++ msg s (Shadow.Item n) ∷ []) i))
    (sym (at_id_push (λ m. as_item m.shadow) i a _ ∙ ap (λ b. option_or (item_at i a) (when b (Some n))) e ∙ or_none _))

-- a fact of the named item, at an id that is that one's
at_named : (P : Id → Type 0) (i j : Id) → P j → same_id i j ≡ true → P i
at_named P i j h e = subst P (sym ((Decides-same_id i j).0 e)) h

sold_small : (t : Bool) (l s q : ℕ) → s ≤ l * 1000000 → q ≤ 1000000 → l < 2 ^ 32 → s + q < 2 ^ 62
sold_small t l s q g h small = omega arith

pub row_of_item : {a : List Core} (s : Head) (x : Shadow) → Good a → Follows a (msg s x) → length a < 2 ^ 32 → (i : Id)
    → fold (at_key (RowKey.Item i)) (meaning_row a (RowKey.Item i)) (parts s.id s.red x) ≡ meaning_row (a ++ msg s x ∷ []) (RowKey.Item i)
unfolding meaning_row
row_of_item s (Shadow.Item n) g f h i = inserted s n i _ refl g f
row_of_item {a} s (Shadow.Bid b) g f h i =
    bid_taken (same_id i b.item) (count is_red a) _ _ _ _ _ i (msg s (Shadow.Bid b)) (item_at i a) refl refl
    (at_named (λ k. close_of k a ≡ None) i b.item (by_kind a (Shadow.Bid b) f.fits).2)
    (let r = f.next_red in omega (arith, r)) (g.reds higher (bids i)) (count_small (bids_on i) a h)
    ∙ sym (item_meaning_push a (msg s (Shadow.Bid b)) i refl refl)
row_of_item {a} s (Shadow.Buy p) g f h i = sold_more _ _ _ _ _ _ _ i _ _ refl refl (at_named (λ k. close_of k a ≡ None) i _ (by_kind a _ f.fits).2)
    (at_named (λ k. IfSome (item_at k a) (λ n. total (sold_of k) a + p.quantity ≤ supply a k n)) i _ (by_kind a _ f.fits).3)
    (sold_small true _ _ _ (g.sold i) f.limits.1.quantity.small h) ∙ sym (item_meaning_push a _ i refl refl)
row_of_item {a} s (Shadow.Close c) g f h i = closed _ _ _ _ _ _ i s c _ refl (at_named (λ k. close_of k a ≡ None) i _ (by_kind a _ f.fits).1) ∙ sym
    (item_meaning_push a _ i refl refl)
row_of_item {a} s (Shadow.Restock r) g f h i =
    restocked_more (same_id i r.item) r.quantity (supply a i) _ _ _ _ i (msg s (Shadow.Restock r)) (item_at i a) refl refl (λ e. if_some_map (item_at i a)
    (λ n k. (k.enough, restock_small (length a) n.stock (total (restocked_of i) a) r.quantity k.opening (g.restocked i) f.limits.1.1.small h)) (g.stock i))
    ∙ sym (restocked_meaning a s r i)
row_of_item {a} s x g f h i = still _ _ _ _ _ i (msg s x) (item_at i a) refl refl ∙ sym (item_meaning_push a (msg s x) i refl refl)
