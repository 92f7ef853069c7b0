-- What every checked log keeps: sums within the types, nothing said of a row that isn't there, red numbers that rise.
use Rattle.rubis_laws.proofs.Common.{ℕ, ◌≡◌, ◌+◌, ◌*◌, ◌≤◌, ◌<◌, List, [], ◌∷◌, ◌++◌, length, Bool, true, false, cond, refl, sym, ap, ◌∙◌, subst, arith, Option}
use Rattle.rubis_laws.proofs.Common.{Some, None, length-append, ℤ, pos, ◌+ℤ◌, ◌&&◌, IfSome, unsigned_abs, option_or, ints, Id, NewItem, NewRename, Shadow, User}
use Rattle.rubis_laws.proofs.Common.{Item, Buy, Rename, Core, same_id, count, total, int_sum_by, choose, choice, user_at, item_at, as_user, as_item}
use Rattle.rubis_laws.proofs.Common.{lists_item_of, bought_by, rates, rating_for, sold_of, restocked_of, bids_on, closes, when, supply, best_bid, close_of}
use Rattle.rubis_laws.proofs.Common.{higher, earlier, later, last_rename, nick_at, renames, is_red, Follows, IsLimited, Decides-same_id, Unique}
use Rattle.rubis_laws.proofs.Order.FitsByKind.{FitsByKind, bought_in, by_kind, nothing_of_item, nothing_of_user, rated_in, restocked_in, sold_in}
use Rattle.rubis_laws.proofs.Rows.Sets.{Head, head_of, msg, count_push, total_push, int_sum_push, choose_push, choice_not, at_id_push, at_id_push_not, none_at}
use Rattle.rubis_laws.proofs.Rows.Nicks.{keeps_nicks, last_push_not, nick_push_rename, nick_push_user, some_nick, unique_given, not_named}

pub record NoneOfUser (u : Id) (a : List Core) : Type 0 where
  pub items : count (lists_item_of u) a ≡ 0
  pub bought : total (bought_by u) a ≡ 0
  pub rating : int_sum_by (λ m. rating_for u m.shadow) a ≡ pos 0
  pub comments : count (rates u) a ≡ 0
  pub rename : last_rename u a ≡ None

pub record NoneOfItem (i : Id) (a : List Core) : Type 0 where
  pub sold : total (sold_of i) a ≡ 0
  pub restocked : total (restocked_of i) a ≡ 0
  pub bids : count (bids_on i) a ≡ 0
  pub best : best_bid i a ≡ None
  pub close : close_of i a ≡ None

-- no more is sold than there was to sell
pub record Stocked (a : List Core) (i : Id) (n : NewItem) : Type 0 where
  pub enough : total (sold_of i) a ≤ supply a i n
  pub opening : n.stock ≤ 1000000

pub record Good (a : List Core) : Type 0 where
  pub no_user : (u : Id) → user_at u a ≡ None → NoneOfUser u a
  pub no_item : (i : Id) → item_at i a ≡ None → NoneOfItem i a
  pub bought : (u : Id) → total (bought_by u) a ≤ length a * 1000000
  pub sold : (i : Id) → total (sold_of i) a ≤ length a * 1000000
  pub restocked : (i : Id) → total (restocked_of i) a ≤ length a * 1000000
  pub stock : (i : Id) → IfSome (item_at i a) (Stocked a i)
  pub nicks : Unique (λ u. nick_at u a)
  pub rating : (u : Id) → unsigned_abs (int_sum_by (λ m. rating_for u m.shadow) a) ≤ length a * 5
  pub reds : (beats : Core → Core → Bool) (p : Core → Bool) → IfSome (choose beats p a) (λ m. m.red ≤ count is_red a)

-- ---- the shadow of one message against what it names

or_gives_none : {X : Type 0} (o p : Option X) → option_or o p ≡ None → o ≡ None
or_gives_none None p e = refl
or_gives_none (Some x) p e = absurd cc

user_before : (u : Id) (a : List Core) (m : Core) → user_at u (a ++ m ∷ []) ≡ None → user_at u a ≡ None
user_before u a m e = or_gives_none _ _ (sym (at_id_push (λ n. as_user n.shadow) u a m) ∙ e)

item_before : (i : Id) (a : List Core) (m : Core) → item_at i (a ++ m ∷ []) ≡ None → item_at i a ≡ None
item_before i a m e = or_gives_none _ _ (sym (at_id_push (λ n. as_item n.shadow) i a m) ∙ e)

-- ---- stock

pub if_some_map : {X : Type 0} {P Q : X → Type 0} (o : Option X) → ((x : X) → P x → Q x) → IfSome o P → IfSome o Q
if_some_map None f h = tt
if_some_map (Some x) f h = f x h

if_some_both : {X : Type 0} {P Q R : X → Type 0} (o : Option X) → ((x : X) → P x → Q x → R x) → IfSome o P → IfSome o Q → IfSome o R
if_some_both None f h k = tt
if_some_both (Some x) f h k = f x h k

-- no other item, and q pieces of this one bought
stocked : {i : Id} {a : List Core} (m : Core) {q : ℕ} → sold_of i m.shadow ≡ q → (n : NewItem) → total (sold_of i) a + q ≤ supply a i n → Stocked a i n
    → Stocked (a ++ m ∷ []) i n
stocked {i} {a} m e n l h =
    record { enough = (let t = total_push (sold_of i) a m in let k = total_push (restocked_of i) a m in omega (arith, t, k, e, l)); opening = h.opening }

none_sold : {i : Id} {a : List Core} {n : NewItem} → Stocked a i n → total (sold_of i) a + 0 ≤ supply a i n
none_sold h = let e = h.enough in omega (arith, e)

same_items : (i : Id) (a : List Core) (m : Core) → as_item m.shadow ≡ None → IfSome (item_at i a) (Stocked (a ++ m ∷ []) i)
    → IfSome (item_at i (a ++ m ∷ [])) (Stocked (a ++ m ∷ []) i)
same_items i a m e h = subst (λ o. IfSome o (Stocked (a ++ m ∷ []) i)) (sym (at_id_push_not (λ m. as_item m.shadow) i a m e)) h

listed_stocked : (i : Id) (a : List Core) (s : Head) (n : NewItem) (o : Option NewItem) → n.stock ≤ 1000000 → (o ≡ None → total (sold_of i) a ≡ 0)
    → IfSome o (Stocked a i) → (b : Bool) → IfSome (option_or o (when b (Some n))) (Stocked (a ++ msg s (Item n) ∷ []) i)
listed_stocked i a s n (Some k) l z h b = stocked (msg s (Item n)) refl k (none_sold h) h
listed_stocked i a s n None l z h true =
    record { enough = (let e = z refl in let t = total_push (sold_of i) a (msg s (Item n)) in omega (arith, e, t)); opening = l }
listed_stocked i a s n None l z h false = tt

stock_push : {a : List Core} (s : Head) (x : Shadow) → Good a → FitsByKind a x → IsLimited x → (i : Id)
    → IfSome (item_at i (a ++ msg s x ∷ [])) (Stocked (a ++ msg s x ∷ []) i)
stock_push {a} s (Buy p) g f l i = same_items i a (msg s (Buy p)) refl (at (same_id i p.item) refl)
  where
    at : (b : Bool) → same_id i p.item ≡ b → IfSome (item_at i a) (Stocked (a ++ msg s (Buy p) ∷ []) i)
    at true e = if_some_both (item_at i a) (λ n. stocked (msg s (Buy p)) (ap (λ b. cond b p.quantity 0) e) n)
        (subst (λ j. IfSome (item_at j a) (λ n. total (sold_of j) a + p.quantity ≤ supply a j n)) (sym ((Decides-same_id i p.item).0 e)) f.3) (g.stock i)
    at false e =
        if_some_map (item_at i a) (λ n h. stocked (msg s (Buy p)) (ap (λ b. cond b p.quantity 0) e) n (none_sold h) h) (g.stock i)
stock_push {a} s (Item n) g f l i =
    subst (λ o. IfSome o (Stocked (a ++ msg s (Item n) ∷ []) i)) (sym (at_id_push (λ m. as_item m.shadow) i a (msg s (Item n))))
    (listed_stocked i a s n (item_at i a) l.1.stock.small (λ e. (g.no_item i e).sold) (g.stock i) (same_id i s.id))
stock_push {a} s x g f l i = same_items i a (msg s x) refl (if_some_map (item_at i a) (λ n h. stocked (msg s x) refl n (none_sold h) h) (g.stock i))

pub abs_sum : (a b : ℤ) → unsigned_abs (a +ℤ b) ≤ unsigned_abs a + unsigned_abs b
abs_sum a b = grind (arith, ints)

pub more_reds : (a : List Core) (m : Core) → m.red ≡ cond (is_red m.shadow) (count is_red a + 1) 0 → m.red ≤ count is_red a + cond (is_red m.shadow) 1 0
more_reds a m e =
    elim (is_red m.shadow) as (λ b. m.red ≡ cond b (count is_red a + 1) 0 → m.red ≤ count is_red a + cond b 1 0)
    [ true ↦ λ h. omega arith | false ↦ λ h. omega arith ] e

choice_red : (n k : ℕ) (beats : Core → Core → Bool) (p : Core → Bool) (o : Option Core) (m : Core) → n ≤ k → m.red ≤ k → IfSome o (λ x. x.red ≤ n)
    → IfSome (choice beats p o m) (λ x. x.red ≤ k)
choice_red n k beats p None m le r h = elim (p m) as (λ b. IfSome (cond b (Some m) None) (λ x. x.red ≤ k)) [ true ↦ r | false ↦ tt ]
choice_red n k beats p (Some x) m le r h =
    let old : x.red ≤ k = omega (arith, le, h) in
    elim (p m && beats m x) as (λ b. IfSome (cond b (Some m) (Some x)) (λ x. x.red ≤ k)) [ true ↦ r | false ↦ old ]

-- ---- nicknames

pub user_gives : {a : List Core} (s : Head) (k : List ℕ) → Good a → Follows a (msg s (User k)) → (v : Id)
    → nick_at v (a ++ msg s (User k) ∷ []) ≡ cond (same_id v s.id) (Some k) (nick_at v a)
user_gives {a} s k g f v =
    let none : user_at s.id a ≡ None = none_at (λ m. as_user m.shadow) s.id a f.new_id in
    nick_push_user v a s k none (g.no_user s.id none).rename

red_above : {a : List Core} {s : Head} {x : Shadow} → Follows a (msg s x) → is_red x ≡ true → count is_red a < s.red
red_above {a} f e = let r = f.next_red ∙ ap (λ b. cond b (count is_red a + 1) 0) e in omega (arith, r)

pub rename_gives : {a : List Core} {s : Head} {r : NewRename} → Good a → Follows a (msg s (Rename r)) → (v : Id)
    → nick_at v (a ++ msg s (Rename r) ∷ []) ≡ cond (same_id v r.user) (Some r.to) (nick_at v a)
rename_gives {a} {s} {r} g f v = nick_push_rename v a s r (some_nick _ a (by_kind a _ f.fits).0) (red_above f refl) (g.reds later (λ m. renames v m.shadow))

nicks_push : {a : List Core} {s : Head} (x : Shadow) → Good a → Follows a (msg s x) → Unique (λ u. nick_at u (a ++ msg s x ∷ []))
nicks_push {a} {s} (User k) g f =
    unique_given (λ u. nick_at u a) (λ u. nick_at u (a ++ msg s (User k) ∷ [])) s.id (user_gives s k g f) g.nicks (not_named a (by_kind a (User k) f.fits))
nicks_push {a} {s} (Rename r) g f = unique_given (λ u. nick_at u a) (λ u. nick_at u (a ++ msg s (Rename r) ∷ [])) r.user (rename_gives g f) g.nicks
    (not_named a (by_kind a (Rename r) f.fits).1)
nicks_push {a} {s} x g f = λ n u v p q. g.nicks n u v (sym (keeps_nicks u a (msg s x) refl) ∙ p) (sym (keeps_nicks v a (msg s x) refl) ∙ q)

-- ---- one more message

none_more : {b : Bool} {n : ℕ} → n ≡ 0 → b ≡ false → n + cond b 1 0 ≡ 0
none_more {b} {n} e h = subst (λ c. n + cond c 1 0 ≡ 0) (sym h) (omega (arith, e))

pub good_push : {a : List Core} {m : Core} → Good a → Follows a m → Good (a ++ m ∷ [])
good_push {a} {m} g f = record {
  no_user = λ u e.
      let w = user_before u a m e in
      let z = g.no_user u w in
      let x = nothing_of_user u a m.shadow (by_kind a m.shadow f.fits) w in
      record {
        items = count_push (lists_item_of u) a m ∙ none_more z.items x.items;
        bought = total_push (bought_by u) a m ∙ (λ i. z.bought i + x.bought i);
        rating = int_sum_push (λ n. rating_for u n.shadow) a m ∙ (λ i. z.rating i +ℤ x.rating i);
        comments = count_push (rates u) a m ∙ none_more z.comments x.comments;
        rename = last_push_not u a m x.rename ∙ z.rename;
      };
  no_item = λ i e.
      let w = item_before i a m e in
      let z = g.no_item i w in
      let x = nothing_of_item i a m.shadow (by_kind a m.shadow f.fits) w in
      record {
        sold = total_push (sold_of i) a m ∙ (λ j. z.sold j + x.sold j);
        restocked = total_push (restocked_of i) a m ∙ (λ j. z.restocked j + x.restocked j);
        bids = count_push (bids_on i) a m ∙ none_more z.bids x.bids;
        best = choose_push higher (λ n. bids_on i n.shadow) a m ∙ choice_not higher (λ n. bids_on i n.shadow) _ m x.bids ∙ z.best;
        close = choose_push earlier (λ n. closes i n.shadow) a m ∙ choice_not earlier (λ n. closes i n.shadow) _ m x.close ∙ z.close;
      };
  bought = λ u.
      let p = total_push (bought_by u) a m in
      let q = bought_in u m.shadow f.limits in
      let r = g.bought u in
      let l = length-append a (m ∷ []) in
      omega (arith, p, q, r, l);
  sold = λ u.
      let p = total_push (sold_of u) a m in
      let q = sold_in u m.shadow f.limits in
      let r = g.sold u in
      let l = length-append a (m ∷ []) in
      omega (arith, p, q, r, l);
  restocked = λ i.
      let p = total_push (restocked_of i) a m in
      let q = restocked_in i m.shadow f.limits in
      let r = g.restocked i in
      let l = length-append a (m ∷ []) in
      omega (arith, p, q, r, l);
  stock = stock_push (head_of m) m.shadow g (by_kind a m.shadow f.fits) f.limits;
  nicks = nicks_push m.shadow g f;
  rating = λ u.
      let p = int_sum_push (λ n. rating_for u n.shadow) a m in
      let q = rated_in u m.shadow f.limits in
      let r = g.rating u in
      let l = length-append a (m ∷ []) in
      let s = abs_sum (int_sum_by (λ n. rating_for u n.shadow) a) (rating_for u m.shadow) in
      subst (λ z. unsigned_abs z ≤ length (a ++ m ∷ []) * 5) (sym p) (omega (arith, q, r, l, s));
  reds = λ beats p.
      let c = count_push is_red a m in
      let r = more_reds a m f.next_red in
      subst (λ o. IfSome o (λ x. x.red ≤ count is_red (a ++ m ∷ []))) (sym (choose_push beats p a m))
      (choice_red (count is_red a) (count is_red (a ++ m ∷ [])) beats p (choose beats p a) m (omega (arith, c)) (omega (arith, c, r)) (g.reds beats p));
}

pub good_none : Good []
good_none = record {
  no_user = λ u e. record { items = refl; bought = refl; rating = refl; comments = refl; rename = refl };
  no_item = λ i e. record { sold = refl; restocked = refl; bids = refl; best = refl; close = refl };
  bought = λ u. omega arith;
  sold = λ u. omega arith;
  restocked = λ i. omega arith;
  stock = λ i. tt;
  nicks = λ n u v p q. absurd cc;
  rating = λ u. omega arith;
  reds = λ beats p. tt;
}
