-- What a message's parts do to the rows of bids, purchases, comments, nicknames and categories.
use Rattle.rubis_laws.proofs.Common.{ℕ, ◌≡◌, ◌+◌, ◌^◌, ◌<◌, List, [], ◌∷◌, ◌++◌, length, Bool, true, false, cond, refl, sym, ap, ◌∙◌, subst, arith, Option}
use Rattle.rubis_laws.proofs.Common.{Some, None, pos, negsuc, ◌+ℤ◌, ◌-ℤ◌, fold, option_map, unsigned_abs, nat_lt, bytes_eq, option_or, ints, bytes_decides}
use Rattle.rubis_laws.proofs.Common.{true≢false, Id, Shadow, Core, Row, Insert, CatListed, CatEnded, NickFreed, OtherUser, NewRename, same_id, change_row}
use Rattle.rubis_laws.proofs.Common.{misfits_as, removed, parts, count, when, at_id, as_bid, as_purchase, as_comment, as_user, nick_at, is_same_nick, named}
use Rattle.rubis_laws.proofs.Common.{lists_in, closes_in, category_row, meaning_row, Follows, has_id, Decides-same_id, count_by-le-length, RowKey}
use Rattle.rubis_laws.proofs.Order.FitsByKind.{FitsByKind, by_kind}
use Rattle.rubis_laws.proofs.Rows.Sets.{Head, msg, plus_none, count_push, or_none, at_id_push_not, at_id_push, none_at}
use Rattle.rubis_laws.proofs.Rows.CheckedLogs.{Good, rename_gives, user_gives}
use Rattle.rubis_laws.proofs.Rows.Nicks.{Free, gives_nick, keeps_nicks, nick_none, not_named, named_none, named_is, named_same, named_row}
use Rattle.rubis_laws.proofs.Rows.RowsOfUser.{at_key, small_sum, small_int}

-- ---- rows that are only inserted

module _ {X : Type 0} (f : Core → Option X) (wrap : X → Row) where
  same_rows : (i : Id) (a : List Core) (m : Core) → f m ≡ None → option_map wrap (at_id f i a) ≡ option_map wrap (at_id f i (a ++ m ∷ []))
  same_rows i a m e = ap (option_map wrap) (sym (at_id_push_not f i a m e))

  one_more : (i : Id) (a : List Core) (m : Core) (x : X) (b : Bool) → f m ≡ Some x → has_id m.id a ≡ None → same_id i m.id ≡ b →
      cond b (change_row (Insert (wrap x)) (option_map wrap (at_id f i a))).row (option_map wrap (at_id f i a)) ≡ option_map wrap (at_id f i (a ++ m ∷ []))
  unfolding change_row
  one_more i a m x true e none h =
      let gone : at_id f i a ≡ None = none_at f i a (subst (λ w. at_id Some w a ≡ None) (sym ((Decides-same_id i m.id).0 h)) none) in
      ap (λ o. (change_row (Insert (wrap x)) (option_map wrap o)).row) gone
      ∙ ap (option_map wrap) (sym (at_id_push f i a m ∙ (λ j. option_or (gone j) (when (h j) (e j)))))
  one_more i a m x false e none h = ap (option_map wrap) (sym (at_id_push f i a m ∙ ap (λ b. option_or (at_id f i a) (when b (f m))) h ∙ or_none _))

pub row_of_bid : {a : List Core} (s : Head) (x : Shadow) → Follows a (msg s x) → (i : Id)
    → fold (at_key (RowKey.Bid i)) (meaning_row a (RowKey.Bid i)) (parts s.id s.red x) ≡ meaning_row (a ++ msg s x ∷ []) (RowKey.Bid i)
unfolding meaning_row
row_of_bid {a} s (Shadow.Bid b) f i = one_more (λ m. as_bid m.red m.shadow) Row.Bid i a (msg s (Shadow.Bid b)) _ _ refl f.new_id refl
row_of_bid {a} s x f i = same_rows (λ m. as_bid m.red m.shadow) Row.Bid i a (msg s x) refl

pub row_of_purchase : {a : List Core} (s : Head) (x : Shadow) → Follows a (msg s x) → (i : Id)
    → fold (at_key (RowKey.Purchase i)) (meaning_row a (RowKey.Purchase i)) (parts s.id s.red x) ≡ meaning_row (a ++ msg s x ∷ []) (RowKey.Purchase i)
unfolding meaning_row
row_of_purchase {a} s (Shadow.Buy b) f i = one_more (λ m. as_purchase m.shadow) Row.Purchase i a (msg s (Shadow.Buy b)) _ _ refl f.new_id refl
row_of_purchase {a} s x f i = same_rows (λ m. as_purchase m.shadow) Row.Purchase i a (msg s x) refl

pub row_of_comment : {a : List Core} (s : Head) (x : Shadow) → Follows a (msg s x) → (i : Id)
    → fold (at_key (RowKey.Comment i)) (meaning_row a (RowKey.Comment i)) (parts s.id s.red x) ≡ meaning_row (a ++ msg s x ∷ []) (RowKey.Comment i)
unfolding meaning_row
row_of_comment {a} s (Shadow.Comment b) f i = one_more (λ m. as_comment m.shadow) Row.Comment i a (msg s (Shadow.Comment b)) _ _ refl f.new_id refl
row_of_comment {a} s x f i = same_rows (λ m. as_comment m.shadow) Row.Comment i a (msg s x) refl

-- ---- nicknames

-- a message that gives no nickname
other_nick : (n : List ℕ) (a : List Core) (m : Core) → has_id m.id a ≡ None → gives_nick m.shadow ≡ false
    → named_row (named n a) ≡ named_row (named n (a ++ m ∷ []))
other_nick n a m none e =
    ap named_row (sym (named_same n a m (λ v. ap (is_same_nick n) (keeps_nicks v a m e)) (nick_none m.id a (none_at (λ k. as_user k.shadow) m.id a none))))

-- one that gives another
not_given : (n k : List ℕ) (b : Bool) (o : Option (List ℕ)) → bytes_eq n k ≡ false → (b ≡ true → is_same_nick n o ≡ false)
    → is_same_nick n (cond b (Some k) o) ≡ is_same_nick n o
not_given n k true o e h = e ∙ sym (h refl)
not_given n k false o e h = refl

new_nick : {a : List Core} (s : Head) (k n : List ℕ) → Good a → Good (a ++ msg s (Shadow.User k) ∷ []) → Follows a (msg s (Shadow.User k)) → (b : Bool)
    → bytes_eq n k ≡ b → cond b (change_row (Insert (Row.Nick s.id)) (named_row (named n a))).row (named_row (named n a)) ≡ named_row
    (named n (a ++ msg s (Shadow.User k) ∷ []))
unfolding change_row
new_nick {a} s k n g h f true e =
    let same : n ≡ k = (bytes_decides n k).0 e in
    ap (λ o. (change_row (Insert (Row.Nick s.id)) (named_row o)).row) (subst (λ w. named w a ≡ None) (sym same) (by_kind a (Shadow.User k) f.fits))
    ∙ sym (named_is (a ++ msg s (Shadow.User k) ∷ []) h.nicks
    (user_gives s k g f s.id ∙ ap (λ b. cond b (Some k) (nick_at s.id a)) ((Decides-same_id s.id s.id).1 refl) ∙ ap Some (sym same)))
new_nick {a} s k n g h f false e =
    let none : nick_at s.id a ≡ None = nick_none s.id a (none_at (λ m. as_user m.shadow) s.id a f.new_id) in
    ap named_row (sym (named_same n a (msg s (Shadow.User k)) (λ v. ap (is_same_nick n) (user_gives s k g f v)
    ∙ not_given n k (same_id v s.id) (nick_at v a) e (λ t. ap (is_same_nick n) (subst (λ w. nick_at w a ≡ None) (sym ((Decides-same_id v s.id).0 t)) none)))
    none))

module _ (a : List Core) (s : Head) (r : NewRename) (g : Good a) (f : Follows a (msg s (Shadow.Rename r))) where
  abbrev x : Core
  x = msg s (Shadow.Rename r)

  fit : FitsByKind a (Shadow.Rename r)
  fit = by_kind a (Shadow.Rename r) f.fits

  -- who has the old nickname before
  had : named_row (named r.from a) ≡ Some (Row.Nick r.user)
  had = named_is a g.nicks fit.0

  two_nicks : ¬ (r.from ≡ r.to)
  two_nicks e = not_named a fit.1 r.user (fit.0 ∙ ap Some e)

  gone : Free r.from (λ v. nick_at v (a ++ x ∷ []))
  gone v e = at (same_id v r.user) refl (sym (rename_gives g f v) ∙ e)
    where
      at : (b : Bool) → same_id v r.user ≡ b → cond (same_id v r.user) (Some r.to) (nick_at v a) ≡ Some r.from → ⊥
      at true t p =
          let z : Some r.to ≡ Some r.from = ap (λ b. cond b (Some r.to) (nick_at v a)) (sym t) ∙ p in
          two_nicks (let w : r.from ≡ r.to = cc in w)
      at false t p =
          let z : nick_at v a ≡ Some r.from = ap (λ b. cond b (Some r.to) (nick_at v a)) (sym t) ∙ p in
          true≢false (sym ((Decides-same_id v r.user).1 (g.nicks r.from v r.user z fit.0)) ∙ t)

  freed : (change_row (NickFreed r.user) (Some (Row.Nick r.user))).row ≡ None
  unfolding change_row
  freed = ap (λ b. (cond b removed (misfits_as OtherUser (Some (Row.Nick r.user)))).row) ((Decides-same_id r.user r.user).1 refl)

  pub freed_fits : (change_row (NickFreed r.user) (named_row (named r.from a))).misfit ≡ None
  unfolding change_row
  freed_fits = ap (λ o. (change_row (NickFreed r.user) o).misfit) had
      ∙ ap (λ b. (cond b removed (misfits_as OtherUser (Some (Row.Nick r.user)))).misfit) ((Decides-same_id r.user r.user).1 refl)

  put : (change_row (Insert (Row.Nick r.user)) None).row ≡ Some (Row.Nick r.user)
  unfolding change_row
  put = refl

  abbrev second : Bool → Option Row → Option Row
  second b o = cond b (change_row (NickFreed r.user) o).row o

  abbrev third : Bool → Option Row → Option Row
  third b o = cond b (change_row (Insert (Row.Nick r.user)) o).row o

  pub renamed_nick : Good (a ++ x ∷ []) → (n : List ℕ) (b : Bool) → bytes_eq n r.from ≡ b → (c : Bool) → bytes_eq n r.to ≡ c →
      third c (second b (named_row (named n a))) ≡ named_row (named n (a ++ x ∷ []))
  renamed_nick h n true p true q = absurd (two_nicks (sym ((bytes_decides n r.from).0 p) ∙ (bytes_decides n r.to).0 q))
  renamed_nick h n true p false q =
      let same : n ≡ r.from = (bytes_decides n r.from).0 p in
      ap (λ o. (change_row (NickFreed r.user) o).row) (subst (λ w. named_row (named w a) ≡ Some (Row.Nick r.user)) (sym same) had) ∙ freed
      ∙ ap named_row (sym (subst (λ w. named w (a ++ x ∷ []) ≡ None) (sym same) (named_none (a ++ x ∷ []) gone)))
  renamed_nick h n false p true q =
      let same : n ≡ r.to = (bytes_decides n r.to).0 q in
      ap (λ o. (change_row (Insert (Row.Nick r.user)) (named_row o)).row) (subst (λ w. named w a ≡ None) (sym same) fit.1) ∙ put
      ∙ sym (named_is (a ++ x ∷ []) h.nicks
      (rename_gives g f r.user ∙ ap (λ b. cond b (Some r.to) (nick_at r.user a)) ((Decides-same_id r.user r.user).1 refl) ∙ ap Some (sym same)))
  renamed_nick h n false p false q = ap named_row (sym (named_same n a x (λ v. ap (is_same_nick n) (rename_gives {s = s} {r = r} g f v) ∙ not_given n r.to
      (same_id v r.user) (nick_at v a) q (λ t. ap (is_same_nick n) (subst (λ w. nick_at w a ≡ Some r.from) (sym ((Decides-same_id v r.user).0 t)) fit.0) ∙ p))
      (nick_none s.id a (none_at (λ m. as_user m.shadow) s.id a f.new_id))))

pub row_of_nick : {a : List Core} (s : Head) (x : Shadow) → Good a → Good (a ++ msg s x ∷ []) → Follows a (msg s x) → (n : List ℕ)
    → fold (at_key (RowKey.Nick n)) (meaning_row a (RowKey.Nick n)) (parts s.id s.red x) ≡ meaning_row (a ++ msg s x ∷ []) (RowKey.Nick n)
unfolding meaning_row
row_of_nick s (Shadow.User k) g h f n = new_nick s k n g h f _ refl
row_of_nick {a} s (Shadow.Rename r) g h f n = renamed_nick a s r g f h n _ refl _ refl
row_of_nick {a} s x g h f n = other_nick n a (msg s x) f.new_id refl

-- ---- categories

abbrev cat_of : ℕ → ℕ → Row
cat_of c e = Row.Cat (record { items = c; live = pos c -ℤ pos e })

abbrev grown : List Core → Shadow → ℕ → Row
grown a x k = cat_of (count (lists_in k) a + cond (lists_in k x) 1 0) (count (closes_in k) a + cond (closes_in k x) 1 0)

category_push : (a : List Core) (m : Core) (k : ℕ) → category_row (a ++ m ∷ []) k ≡ grown a m.shadow k
category_push a m k = λ j. cat_of (count_push (lists_in k) a m j) (count_push (closes_in k) a m j)

meaning_push : (a : List Core) (m : Core) (k : ℕ) → when (nat_lt k 1000) (Some (grown a m.shadow k)) ≡ meaning_row (a ++ m ∷ []) (RowKey.Cat k)
unfolding meaning_row
meaning_push a m k = ap (λ r. when (nat_lt k 1000) (Some r)) (sym (category_push a m k))

still : (t : Bool) (c e : ℕ) → when t (Some (cat_of c e)) ≡ when t (Some (cat_of (c + 0) (e + 0)))
still t c e = λ j. when t (Some (cat_of (plus_none c j) (plus_none e j)))

one_live : (c e : ℕ) → c < 2 ^ 61 → e < 2 ^ 61 → unsigned_abs (pos c -ℤ pos e +ℤ pos 1) < 2 ^ 63
one_live c e p q = grind (arith, ints)

one_ended : {c e : ℕ} → c < 2 ^ 61 → e < 2 ^ 61 → unsigned_abs (pos c -ℤ pos e +ℤ negsuc 0) < 2 ^ 63
one_ended p q = grind (arith, ints)

listed : (t b : Bool) (c e : ℕ) → c < 2 ^ 61 → e < 2 ^ 61 → cond b (change_row CatListed (when t (Some (cat_of c e)))).row (when t (Some (cat_of c e))) ≡ when t
    (Some (cat_of (c + cond b 1 0) (e + 0)))
unfolding change_row
listed true true c e p q = λ j. Some (Row.Cat (record { items = small_sum c 1 (omega arith) j; live = (small_int _ (one_live c e p q) ∙ sums) j }))
  where
    sums : pos c -ℤ pos e +ℤ pos 1 ≡ pos (c + 1) -ℤ pos (e + 0)
    sums = omega (arith, ints)
listed false true c e p q = refl
listed t false c e p q = still t c e

ended : (t b : Bool) (c e : ℕ) → c < 2 ^ 61 → e < 2 ^ 61 → cond b (change_row CatEnded (when t (Some (cat_of c e)))).row (when t (Some (cat_of c e))) ≡ when t
    (Some (cat_of (c + 0) (e + cond b 1 0)))
unfolding change_row
ended true true c e p q = λ j. Some (Row.Cat (record { items = plus_none c j; live = (small_int _ (one_ended p q) ∙ sums) j }))
  where
    sums : pos c -ℤ pos e +ℤ negsuc 0 ≡ pos (c + 0) -ℤ pos (e + 1)
    sums = omega (arith, ints)
ended false true c e p q = refl
ended t false c e p q = still t c e

small : (p : Shadow → Bool) (a : List Core) → length a < 2 ^ 32 → count p a < 2 ^ 61
small p a h = let l = count_by-le-length (λ (m : Core). p m.shadow) a in omega (arith, l, h)

pub row_of_cat : (a : List Core) (s : Head) (x : Shadow) → length a < 2 ^ 32 → (k : ℕ)
    → fold (at_key (RowKey.Cat k)) (meaning_row a (RowKey.Cat k)) (parts s.id s.red x) ≡ meaning_row (a ++ msg s x ∷ []) (RowKey.Cat k)
unfolding meaning_row
row_of_cat a s (Shadow.Item n) h k = listed _ _ _ _ (small _ a h) (small _ a h) ∙ meaning_push a _ k
row_of_cat a s (Shadow.Close n) h k = ended _ _ _ _ (small _ a h) (small _ a h) ∙ meaning_push a _ k
row_of_cat a s x h k = still (nat_lt k 1000) _ _ ∙ meaning_push a (msg s x) k
