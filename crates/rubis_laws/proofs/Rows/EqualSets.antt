-- Checked logs with the same set fold to the same tables.
use Rattle.rubis_laws.proofs.Common.{ℕ, ◌≡◌, ◌+◌, ◌^◌, ◌≤◌, List, [], ◌∷◌, ◌++◌, length, true, cond, refl, sym, ap, ◌∙◌, subst, arith, Option, Some, None, inl}
use Rattle.rubis_laws.proofs.Common.{⊎_elim, append_assoc, option_map, nat_lt, IsSome, pos, ◌-ℤ◌, ◌-◌, IsPermutation, option_or, true≢false, Id, NewItem}
use Rattle.rubis_laws.proofs.Common.{Shadow, User, Bid, Close, Rename, Core, fold_of, RowKey, same_id, when, as_user, as_item, as_bid, as_purchase, as_comment}
use Rattle.rubis_laws.proofs.Common.{lists_item_of, bought_by, rating_for, rates, sold_of, restocked_of, bids_on, closes, last_rename, nick_after, nick_at}
use Rattle.rubis_laws.proofs.Common.{renames, is_same_nick, lists_in, closes_in, higher, earlier, choose, count, user_row, item_row, best_of, sale_after}
use Rattle.rubis_laws.proofs.Common.{meaning_row, named, is_red, Follows, has_id, CheckedFrom, Checked, SameSet, same_tables, Row}
use Rattle.rubis_laws.proofs.Rows.Sets.{count_push, at_id_push, Member, Same, OneEach, member_of, contains_of, member_append, not_member, turned, at_member}
use Rattle.rubis_laws.proofs.Rows.Sets.{same_at, same_permutation, same_count, same_total, same_int_sum}
use Rattle.rubis_laws.proofs.Rows.Choices.{earlier_ranks, later_ranks, higher_ranks, earlier_apart, later_apart, higher_apart, same_choice}
use Rattle.rubis_laws.proofs.Rows.CheckedLogs.{more_reds}
use Rattle.rubis_laws.proofs.Rows.Nicks.{nick_user}
use Rattle.rubis_laws.proofs.Rows.FoldIsMeaning.{fold_is_meaning}

-- ---- what checked logs keep of ids and red numbers

abbrev pub OneRed : List Core → Type 0
OneRed a = (m n : Core) → Member a m → Member a n → is_red m.shadow ≡ true → is_red n.shadow ≡ true → m.red ≡ n.red → m ≡ n

pub record Apart (a : List Core) : Type 0 where
  pub ids : OneEach a
  pub low : (m : Core) → Member a m → m.red ≤ count is_red a
  pub reds : OneRed a

pub one_each_push : (a : List Core) (m : Core) → OneEach a → has_id m.id a ≡ None → OneEach (a ++ m ∷ [])
one_each_push [] m u e = (refl, tt)
one_each_push (x ∷ a) m u e = (
  at_id_push Some x.id a m ∙ (λ i. option_or (u.0 i) (when (turned m.id x.id (not_member (x ∷ a) m.id x e (inl refl)) i) (Some m))),
  one_each_push a m u.1 (or_second (when (same_id m.id x.id) (Some x)) _ e),
)
  where
    or_second : {X : Type 0} (o p : Option X) → option_or o p ≡ None → p ≡ None
    or_second None p e = e
    or_second (Some x) p e = absurd cc

pub red_of_new : {a : List Core} {m : Core} → Follows a m → is_red m.shadow ≡ true → m.red ≡ count is_red a + 1
red_of_new {a} f e = f.next_red ∙ ap (λ b. cond b (count is_red a + 1) 0) e

pub apart_push : {a : List Core} {m : Core} → Apart a → Follows a m → Apart (a ++ m ∷ [])
apart_push {a} {m} u f = record {
  ids = one_each_push a m u.ids f.new_id;
  low = λ n h.
      let c = count_push is_red a m in
      let r = more_reds a m f.next_red in
      ⊎_elim (λ l. let w = u.low n l in omega (arith, c, w))
      (λ q. ⊎_elim (λ e. subst (λ (k : Core). k.red ≤ count is_red (a ++ m ∷ [])) e (omega (arith, c, r))) (λ z. absurd z) q) (member_append a (m ∷ []) n h);
  reds = λ k n h l p q e.
      ⊎_elim (λ hk. ⊎_elim (λ ln. u.reds k n hk ln p q e) (λ r. ⊎_elim (λ en. absurd
      (let w = u.low k hk in let v = red_of_new f (subst (λ (z : Core). is_red z.shadow ≡ true) (sym en) q) in
      let y : m.red ≡ n.red = ap (λ (z : Core). z.red) en in omega (arith, w, v, y, e))) (λ z. absurd z) r) (member_append a (m ∷ []) n l)) (λ r. ⊎_elim
      (λ ek. ⊎_elim (λ ln. absurd (let w = u.low n ln in let v = red_of_new f (subst (λ (z : Core). is_red z.shadow ≡ true) (sym ek) p) in
      let y : m.red ≡ k.red = ap (λ (z : Core). z.red) ek in omega (arith, w, v, y, e)))
      (λ s. ⊎_elim (λ en. sym ek ∙ en) (λ z. absurd z) s) (member_append a (m ∷ []) n l)) (λ z. absurd z) r) (member_append a (m ∷ []) k h);
}

apart_from : {a : List Core} (rest : List Core) → Apart a → CheckedFrom a rest → Apart (a ++ rest)
apart_from [] u c = subst Apart (search Rattle.std.proofs.Common.rules) u
apart_from {a} (m ∷ rest) u c = subst Apart (append_assoc a (m ∷ []) rest) (apart_from rest (apart_push u c.0) c.1)

pub no_apart : Apart []
no_apart = record { ids = tt; low = λ m h. absurd h; reds = λ m n h. absurd h }

pub checked_apart : {log : List Core} → Checked log → Apart log
checked_apart {log} c = apart_from log no_apart c

-- ---- the meaning depends on the set alone

pub bid_red : (i : Id) (x : Shadow) → bids_on i x ≡ true → is_red x ≡ true
bid_red i (Bid b) e = refl
bid_red i x e = absurd (true≢false (sym e))

pub close_red : (i : Id) (x : Shadow) → closes i x ≡ true → is_red x ≡ true
close_red i (Close b) e = refl
close_red i x e = absurd (true≢false (sym e))

pub rename_red : (u : Id) (x : Shadow) → renames u x ≡ true → is_red x ≡ true
rename_red u (Rename r) e = refl
rename_red u x e = absurd (true≢false (sym e))

pub user_red : (x : Shadow) → IsSome (as_user x) → is_red x ≡ true
user_red (User b) e = refl
user_red x e = absurd (true≢false (sym e))

pub some_is : (n : List ℕ) (o : Option (List ℕ)) → is_same_nick n o ≡ true → IsSome o
some_is n None e = absurd (true≢false (sym e))
some_is n (Some k) e = refl

module _ (a b : List Core) (u : Apart a) (v : Apart b) (s : Same a b) where
  together : IsPermutation a b
  together = same_permutation a b u.ids v.ids s

  same_user_row : (i : Id) (n : List ℕ) → user_row a i n ≡ user_row b i n
  same_user_row i n = λ j. Row.User (record {
    nick = n;
    items = same_count (lists_item_of i) together j;
    bought = same_total (bought_by i) together j;
    rating = same_int_sum (λ m. rating_for i m.shadow) a b together j;
    comments = same_count (rates i) together j;
  })

  pub same_best : (i : Id) → choose higher (λ m. bids_on i m.shadow) a ≡ choose higher (λ m. bids_on i m.shadow) b
  same_best i = same_choice higher_ranks (λ m. bids_on i m.shadow) a b s
      (λ m n h l p q f g. u.reds m n h l (bid_red i _ p) (bid_red i _ q) (higher_apart m n f g))

  pub same_close : (i : Id) → choose earlier (λ m. closes i m.shadow) a ≡ choose earlier (λ m. closes i m.shadow) b
  same_close i = same_choice earlier_ranks (λ m. closes i m.shadow) a b s
      (λ m n h l p q f g. u.reds m n h l (close_red i _ p) (close_red i _ q) (earlier_apart m n f g))

  same_rename : (i : Id) → last_rename i a ≡ last_rename i b
  same_rename i = same_choice later_ranks (λ m. renames i m.shadow) a b s
      (λ m n h l p q f g. u.reds m n h l (rename_red i _ p) (rename_red i _ q) (later_apart m n f g))

  pub same_nick : (i : Id) → nick_at i a ≡ nick_at i b
  same_nick i = λ j. option_map (nick_after (same_rename i j)) (same_at (λ m. as_user m.shadow) i a b u.ids v.ids s j)

  pub same_named : (k : List ℕ) → named k a ≡ named k b
  same_named k =
      same_choice earlier_ranks (λ m. is_same_nick k (nick_at m.id a)) a b s
      (λ m n h l p q f g. u.reds m n h l (holder_red m h p) (holder_red n l q) (earlier_apart m n f g))
      ∙ (λ j. choose earlier (λ m. is_same_nick k (same_nick m.id j)) b)
    where
      holder_red : (m : Core) → Member a m → is_same_nick k (nick_at m.id a) ≡ true → is_red m.shadow ≡ true
      holder_red m h p = user_red m.shadow (subst IsSome (at_member (λ n. as_user n.shadow) a m u.ids h) (nick_user m.id a (some_is k (nick_at m.id a) p)))

  same_item_row : (i : Id) (n : NewItem) → item_row a i n ≡ item_row b i n
  same_item_row i n = λ j. Row.Item (record {
    seller = n.seller;
    name = n.name;
    cat = n.cat;
    stock = n.stock + same_total (restocked_of i) together j - same_total (sold_of i) together j;
    sold = same_total (sold_of i) together j;
    start = n.start;
    price = n.price;
    bids = same_count (bids_on i) together j;
    best = option_map best_of (same_best i j);
    sale = sale_after (same_close i j);
  })

  pub same_meaning : (q : RowKey) → meaning_row a q ≡ meaning_row b q
  unfolding meaning_row
  same_meaning (RowKey.User i) = λ j. option_map (λ n. same_user_row i n j) (same_nick i j)
  same_meaning (RowKey.Item i) = λ j. option_map (λ n. same_item_row i n j) (same_at (λ m. as_item m.shadow) i a b u.ids v.ids s j)
  same_meaning (RowKey.Bid i) = ap (option_map Row.Bid) (same_at (λ m. as_bid m.red m.shadow) i a b u.ids v.ids s)
  same_meaning (RowKey.Purchase i) = ap (option_map Row.Purchase) (same_at (λ m. as_purchase m.shadow) i a b u.ids v.ids s)
  same_meaning (RowKey.Comment i) = ap (option_map Row.Comment) (same_at (λ m. as_comment m.shadow) i a b u.ids v.ids s)
  same_meaning (RowKey.Nick n) = ap (option_map (λ (m : Core). Row.Nick m.id)) (same_named n)
  same_meaning (RowKey.Cat k) = λ j. when (nat_lt k 1000) (Some (Row.Cat (record {
    items = same_count (lists_in k) together j;
    live = pos (same_count (lists_in k) together j) -ℤ pos (same_count (closes_in k) together j);
  })))

-- two checked logs with the same set have the same tables
pub equal_sets_equal_tables : (a b : List Core) → Checked a → Checked b → length a ≤ 2 ^ 32 → length b ≤ 2 ^ 32 → SameSet a b
    → (fold_of a).tables ≡ (fold_of b).tables
equal_sets_equal_tables a b c d h k s =
    let same : Same a b = λ m. (λ l. member_of b ((s m).0 (contains_of a l)), λ l. member_of a ((s m).1 (contains_of b l))) in
    same_tables _ _ (λ q. (fold_is_meaning a c h).0.rows q ∙ same_meaning a b (checked_apart c) (checked_apart d) same q
    ∙ sym ((fold_is_meaning b d k).0.rows q))
