-- What a message's parts do to a user's row is what it adds to the row's meaning.
use Rattle.rubis_laws.proofs.Common.{ℕ, ◌≡◌, ◌+◌, ◌-◌, ◌^◌, ◌<◌, List, [], ◌∷◌, ◌++◌, length, Bool, true, false, cond, refl, sym, ap, ◌∙◌, subst, arith, Option}
use Rattle.rubis_laws.proofs.Common.{Some, None, ℤ, pos, negsuc, ◌+ℤ◌, fold, option_map, IsSome, is_some, unsigned_abs, min, ints, Id, true≢false, Shadow, Core}
use Rattle.rubis_laws.proofs.Common.{Effect, Row, RowKey, Insert, ItemListed, Bought, Rated, Renamed, same_id, key_eq, change_row, parts, count, total}
use Rattle.rubis_laws.proofs.Common.{int_sum_by, at_id, user_at, as_user, nick_at, lists_item_of, bought_by, rates, rating_for, user_row, meaning_row, Follows}
use Rattle.rubis_laws.proofs.Common.{Decides-same_id, count_by-le-length}
use Rattle.rubis_laws.proofs.Order.FitsByKind.{by_kind}
use Rattle.rubis_laws.proofs.Rows.Sets.{Head, msg, count_push, total_push, int_sum_push, none_at}
use Rattle.rubis_shadow.specs.Changes.{saturated}
use Rattle.rubis_laws.proofs.Rows.CheckedLogs.{Good, abs_sum, rename_gives, user_gives}
use Rattle.rubis_laws.proofs.Rows.Nicks.{gives_nick, keeps_nicks, nick_none}

abbrev pub at_key : RowKey → Option Row → Effect → Option Row
at_key q o e = cond (key_eq q e.key) (change_row e.change o).row o

abbrev user_of : ℕ → ℕ → ℤ → ℕ → List ℕ → Row
user_of c s r k n = Row.User (record { nick = n; items = c; bought = s; rating = r; comments = k })

same_user : {c d s t k l : ℕ} {r z : ℤ} (n : List ℕ) → c ≡ d → s ≡ t → r ≡ z → k ≡ l → user_of c s r k n ≡ user_of d t z l n
same_user n a b e f = λ i. user_of (a i) (b i) (e i) (f i) n

nothing_added : (r : ℤ) → r ≡ r +ℤ pos 0
nothing_added r = omega (arith, ints)

pub small_sum : (a b : ℕ) → a + b < 2 ^ 63 → min (a + b) (2 ^ 64 - 1) ≡ a + b
small_sum a b h = omega arith

pub small_int : (z : ℤ) → unsigned_abs z < 2 ^ 63 → saturated z ≡ z
small_int (pos n) h = ap pos (omega arith)
small_int (negsuc n) h = ap negsuc (omega arith)

abbrev grown : List Core → Shadow → Id → List ℕ → Row
grown a x u =
    user_of (count (lists_item_of u) a + cond (lists_item_of u x) 1 0) (total (bought_by u) a + bought_by u x)
    (int_sum_by (λ m. rating_for u m.shadow) a +ℤ rating_for u x) (count (rates u) a + cond (rates u x) 1 0)

user_row_push : (a : List Core) (m : Core) (u : Id) (n : List ℕ) → user_row (a ++ m ∷ []) u n ≡ grown a m.shadow u n
user_row_push a m u n = same_user n (count_push _ a m) (total_push _ a m) (int_sum_push (λ m. rating_for u m.shadow) a m) (count_push _ a m)

user_meaning_push : (a : List Core) (m : Core) (u : Id) → gives_nick m.shadow ≡ false
    → meaning_row (a ++ m ∷ []) (RowKey.User u) ≡ option_map (grown a m.shadow u) (nick_at u a)
unfolding meaning_row
user_meaning_push a m u e = λ i. option_map (λ n. user_row_push a m u n i) (keeps_nicks u a m e i)

-- a message that says nothing of users
still : (c s k : ℕ) (r : ℤ) (o : Option (List ℕ)) → option_map (user_of c s r k) o ≡ option_map (user_of (c + 0) (s + 0) (r +ℤ pos 0) (k + 0)) o
still c s k r o =
    λ i. option_map (λ n. same_user {c = c} {d = c + 0} {s = s} {t = s + 0} {k = k} {l = k + 0} n (omega arith) (omega arith) (nothing_added r) (omega arith) i)
    o

listed : (b : Bool) (c s k : ℕ) (r : ℤ) (o : Option (List ℕ)) → c < 2 ^ 62 → cond b (change_row ItemListed (option_map (user_of c s r k) o)).row
    (option_map (user_of c s r k) o) ≡ option_map (user_of (c + cond b 1 0) (s + 0) (r +ℤ pos 0) (k + 0)) o
unfolding change_row
listed true c s k r None h = refl
listed true c s k r (Some n) h = ap Some (same_user n (small_sum c 1 (omega arith)) (omega arith) (nothing_added r) (omega arith))
listed false c s k r o h = still c s k r o

bought_more : (b : Bool) (q c s k : ℕ) (r : ℤ) (o : Option (List ℕ)) → s + q < 2 ^ 62
    → cond b (change_row (Bought q) (option_map (user_of c s r k) o)).row (option_map (user_of c s r k) o) ≡ option_map
    (user_of (c + 0) (s + cond b q 0) (r +ℤ pos 0) (k + 0)) o
unfolding change_row
bought_more true q c s k r None h = refl
bought_more true q c s k r (Some n) h = ap Some (same_user n (omega arith) (small_sum s q (omega arith)) (nothing_added r) (omega arith))
bought_more false q c s k r o h = still c s k r o

rated : (b : Bool) (z : ℤ) (c s k : ℕ) (r : ℤ) (o : Option (List ℕ)) → k < 2 ^ 62 → unsigned_abs (r +ℤ z) < 2 ^ 63
    → cond b (change_row (Rated z) (option_map (user_of c s r k) o)).row (option_map (user_of c s r k) o) ≡ option_map
    (user_of (c + 0) (s + 0) (r +ℤ cond b z (pos 0)) (k + cond b 1 0)) o
unfolding change_row
rated true z c s k r None h g = refl
rated true z c s k r (Some n) h g = ap Some (same_user n (omega arith) (omega arith) (small_int _ g) (small_sum k 1 (omega arith)))
rated false z c s k r o h g = still c s k r o

-- a rename
renamed : (b : Bool) (n : List ℕ) (c s k : ℕ) (r : ℤ) (o : Option (List ℕ)) → (b ≡ true → IsSome o)
    → cond b (change_row (Renamed n) (option_map (user_of c s r k) o)).row (option_map (user_of c s r k) o) ≡ option_map
    (user_of (c + 0) (s + 0) (r +ℤ pos 0) (k + 0)) (cond b (Some n) o)
unfolding change_row
renamed true n c s k r None h = absurd (true≢false (sym (h refl)))
renamed true n c s k r (Some m) h = still c s k r (Some n)
renamed false n c s k r o h = still c s k r o

-- a new user's row
inserted : {a : List Core} (s : Head) (n : List ℕ) (u : Id) (b : Bool) → same_id u s.id ≡ b → Good a → Follows a (msg s (Shadow.User n))
    → cond b (change_row (Insert (user_of 0 0 (pos 0) 0 n)) (meaning_row a (RowKey.User u))).row (meaning_row a (RowKey.User u)) ≡ meaning_row
    (a ++ msg s (Shadow.User n) ∷ []) (RowKey.User u)
unfolding change_row meaning_row
inserted {a} s n u true e g f =
    let none : user_at u a ≡ None = none_at (λ m. as_user m.shadow) u a (subst (λ w. at_id Some w a ≡ None) (sym ((Decides-same_id u s.id).0 e)) f.new_id) in
    let z = g.no_user u none in
    let there : nick_at u (a ++ msg s (Shadow.User n) ∷ []) ≡ Some n = user_gives s n g f u ∙ ap (λ b. cond b (Some n) (nick_at u a)) e in
    ap (λ o. (change_row (Insert (user_of 0 0 (pos 0) 0 n)) (option_map (user_row a u) o)).row) (nick_none u a none)
    ∙ ap Some (same_user n (sym (ap (λ k. k + 0) z.items)) (sym (ap (λ k. k + 0) z.bought)) (sym (ap (λ k. k +ℤ pos 0) z.rating))
    (sym (ap (λ k. k + 0) z.comments)) ∙ sym (user_row_push a (msg s (Shadow.User n)) u n))
    ∙ ap (option_map (user_row (a ++ msg s (Shadow.User n) ∷ []) u)) (sym there)
inserted {a} s n u false e g f = still _ _ _ _ _ ∙ (λ i. option_map (λ k. sym (user_row_push a (msg s (Shadow.User n)) u k) i) (nick_at u a)) ∙ ap
    (option_map (user_row (a ++ msg s (Shadow.User n) ∷ []) u)) (sym (user_gives s n g f u ∙ ap (λ b. cond b (Some n) (nick_at u a)) e))

pub count_small : (p : Shadow → Bool) (a : List Core) → length a < 2 ^ 32 → count p a < 2 ^ 62
count_small p a h = let l = count_by-le-length (λ (m : Core). p m.shadow) a in omega (arith, l, h)

pub row_of_user : {a : List Core} (s : Head) (x : Shadow) → Good a → Follows a (msg s x) → length a < 2 ^ 32 → (u : Id)
    → fold (at_key (RowKey.User u)) (meaning_row a (RowKey.User u)) (parts s.id s.red x) ≡ meaning_row (a ++ msg s x ∷ []) (RowKey.User u)
unfolding meaning_row
row_of_user s (Shadow.User n) g f h u = inserted s n u _ refl g f
row_of_user {a} s (Shadow.Item n) g f h u = listed _ _ _ _ _ _ (count_small _ a h) ∙ sym (user_meaning_push a _ u refl)
row_of_user {a} s (Shadow.Buy p) g f h u = bought_more _ _ _ _ _ _ _ (let l = g.bought u in let q = f.limits.1.quantity.small in omega (arith, l, q, h)) ∙ sym
    (user_meaning_push a _ u refl)
row_of_user {a} s (Shadow.Comment c) g f h u =
    rated (same_id u c.to) c.rating _ _ _ _ (nick_at u a) (count_small (rates u) a h)
    (let l = g.rating u in let q = f.limits.1.rating in let t = abs_sum (int_sum_by (λ m. rating_for u m.shadow) a) c.rating in omega (arith, l, q, t, h))
    ∙ sym (user_meaning_push a (msg s (Shadow.Comment c)) u refl)
row_of_user {a} s (Shadow.Rename r) g f h u = renamed _ r.to _ _ _ _ _ (λ e. subst (λ w. IsSome (nick_at w a)) (sym ((Decides-same_id u r.user).0 e))
    (ap is_some (by_kind a _ f.fits).0)) ∙ (λ i. option_map (λ k. sym (user_row_push a (msg s (Shadow.Rename r)) u k) i) (sym (rename_gives g f u) i))
row_of_user {a} s x g f h u = still _ _ _ _ (nick_at u a) ∙ sym (user_meaning_push a (msg s x) u refl)
