-- The fold of a checked log has no misfit, and its tables are the meaning of the log's set.
use Rattle.std.proofs.lemmas.Bool.{le-leb, lt-ltb}
use Rattle.rubis_laws.proofs.Common.{ℕ, ◌≡◌, ◌+◌, ◌-◌, ◌^◌, ◌≤◌, ◌<◌, List, [], ◌∷◌, ◌++◌, length, Bool, true, false, cond, refl, sym, ap, ◌∙◌, subst, arith}
use Rattle.rubis_laws.proofs.Common.{Option, Some, None, append_assoc, length-append, ℤ, zero, suc, fold, option_map, nat_lt, nat_eq, nat_le, ◌&&◌, ◌||◌}
use Rattle.rubis_laws.proofs.Common.{IsSome, IfSome, ⊤, nat_tests, true≢false, Id, Shadow, Core, Folded, parts_of, number_parts, fold_of, fold_on, step}
use Rattle.rubis_laws.proofs.Common.{NewItem, Effect, Change, Insert, ItemListed, Bought, Rated, CatListed, CatEnded, BidTaken, Sold, End, Restocked, Renamed}
use Rattle.rubis_laws.proofs.Common.{Best, StockShort, Row, RowKey, key_eq, Tables, Misfit, change_row, fits_as, misfits_as, parts, opening, when, at_id}
use Rattle.rubis_laws.proofs.Common.{user_at, item_at, nick_at, as_user, as_item, as_bid, as_purchase, as_comment, close_of, best_bid, sold_of, bids_on, supply}
use Rattle.rubis_laws.proofs.Common.{total, count, user_row, item_row, category_row, meaning_row, IsMeaning, Follows, has_id, CheckedFrom, Checked, same_tables}
use Rattle.std.proofs.lemmas.List.Sums.{fold-append}
use Rattle.std.specs.FinMap as map
use Rattle.std.specs.Cmp.{Equal-is}
use Rattle.rubis_laws.proofs.Order.FitsByKind.{mapped_some, by_kind}
use Rattle.rubis_laws.proofs.Rows.Sets.{Head, msg, none_at}
use Rattle.rubis_model.specs.Log.{noted, numbered_from}
use Rattle.rubis_schema.specs.Keys.{key_order}
use Rattle.rubis_shadow.specs.Changes.{after_part, misfit_of}
use Rattle.rubis_shadow.specs.Tables.{categories_from, new_category}
use Rattle.rubis_schema.specs.KeyLaws.{key_total, tied-key_eq}
use Rattle.rubis_model.proofs.Shares.{get-with_row, doing_else}
use Rattle.rubis_laws.proofs.Rows.CheckedLogs.{Good, good_push, good_none}
use Rattle.rubis_laws.proofs.Rows.RowsOfUser.{at_key, row_of_user}
use Rattle.rubis_laws.proofs.Rows.RowsOfItem.{row_of_item, item_of}
use Rattle.rubis_laws.proofs.Rows.OtherRows.{row_of_bid, row_of_purchase, row_of_comment, row_of_nick, row_of_cat, freed_fits}
use Rattle.rubis_laws.proofs.Rows.Nicks.{nick_none, nick_some, some_nick}

-- ---- one message's parts, all fitting

abbrev pub effects_after : Tables → List Effect → Tables
effects_after t [] = t
effects_after t (e ∷ es) = effects_after (after_part t e) es

abbrev AllFit : Tables → List Effect → Type 0
AllFit t [] = ⊤
AllFit t (e ∷ es) = (misfit_of t e ≡ None) × AllFit (after_part t e) es

one_key : (b : Bool) (c : Change) (o p : Option Row) → (b ≡ true → o ≡ p) → cond b (change_row c o).row p ≡ cond b (change_row c p).row p
one_key true c o p e = ap (λ x. (change_row c x).row) (e refl)
one_key false c o p e = refl

get-after : (t : Tables) (e : Effect) (q : RowKey) → map.get (after_part t e) q ≡ at_key q (map.get t q) e
get-after t e q = get-with_row t e.key _ q ∙ one_key _ _ _ _ (λ h. map.get_tied key_total t q e.key ((Equal-is (key_order q e.key)).0 h)) ∙ ap
    (λ b. cond b (change_row e.change (map.get t q)).row (map.get t q)) (tied-key_eq q e.key)

pub get-effects_after : (t : Tables) (es : List Effect) (q : RowKey) → map.get (effects_after t es) q ≡ fold (at_key q) (map.get t q) es
get-effects_after t [] q = refl
get-effects_after t (e ∷ es) q = get-effects_after (after_part t e) es q ∙ ap (λ o. fold (at_key q) o es) (get-after t e q)

folded_fit : (t : Tables) (ms : List Misfit) (entry part : ℕ) (id : Id) (es : List Effect) → AllFit t es
    → fold_on (record { tables = t; misfits = ms }) (number_parts entry part id es) ≡ record { tables = effects_after t es; misfits = ms }
folded_fit t ms entry part id [] h = refl
folded_fit t ms entry part id (e ∷ es) h =
    ap (λ w. fold_on (record { tables = after_part t e; misfits = ms ++ noted (record { entry = entry; part = part; id = id; effect = e }) w })
    (number_parts entry (part + 1) id es)) h.0
    ∙ ap (λ w. fold_on (record { tables = after_part t e; misfits = w }) (number_parts entry (part + 1) id es)) (search Rattle.std.proofs.Common.rules)
    ∙ folded_fit (after_part t e) ms entry (part + 1) id es h.1

-- ---- each part fits

fit_two : (t : Tables) (e f : Effect) → ¬ (f.key ≡ e.key) → misfit_of t e ≡ None → misfit_of t f ≡ None → AllFit t (e ∷ f ∷ [])
fit_two t e f n p q = (p, (ap (λ d. d.misfit) (doing_else t e f n) ∙ q, tt))

fit_three : (t : Tables) (e f g : Effect) → ¬ (f.key ≡ e.key) → ¬ (g.key ≡ e.key) → ¬ (g.key ≡ f.key) → misfit_of t e ≡ None → misfit_of t f ≡ None
    → misfit_of t g ≡ None → AllFit t (e ∷ f ∷ g ∷ [])
fit_three t e f g n k l p q r = (p, (ap (λ d. d.misfit) (doing_else t e f n) ∙ q, (ap (λ d. d.misfit) (doing_else _ f g l ∙ doing_else t e g k) ∙ r, tt)))

fits_at : (t : Tables) (a : List Core) (k : RowKey) (c : Change) → map.get t k ≡ meaning_row a k → (change_row c (meaning_row a k)).misfit ≡ None
    → (change_row c (map.get t k)).misfit ≡ None
fits_at t a k c e h = ap (λ o. (change_row c o).misfit) e ∙ h

new_row : (a : List Core) (k : RowKey) (r : Row) → meaning_row a k ≡ None → (change_row (Insert r) (meaning_row a k)).misfit ≡ None
unfolding change_row
new_row a k r e = ap (λ o. (change_row (Insert r) o).misfit) e

some_of : {X : Type 0} (o : Option X) → IsSome o → (x : X) × (o ≡ Some x)
some_of None s = absurd (true≢false (sym s))
some_of (Some x) s = (x, refl)

user_fits : (a : List Core) (u : Id) (c : Change) → ((n : List ℕ) → (change_row c (Some (user_row a u n))).misfit ≡ None) → IsSome (user_at u a)
    → (change_row c (meaning_row a (RowKey.User u))).misfit ≡ None
unfolding meaning_row
user_fits a u c each s =
    let n = some_of (nick_at u a) (nick_some u a s) in
    ap (λ o. (change_row c (option_map (user_row a u) o)).misfit) n.1 ∙ each n.0

listed_fits : (a : List Core) (u : Id) (n : List ℕ) → (change_row ItemListed (Some (user_row a u n))).misfit ≡ None
unfolding change_row
listed_fits a u n = refl

bought_fits : (a : List Core) (u : Id) (q : ℕ) (n : List ℕ) → (change_row (Bought q) (Some (user_row a u n))).misfit ≡ None
unfolding change_row
bought_fits a u q n = refl

rated_fits : (a : List Core) (u : Id) (z : ℤ) (n : List ℕ) → (change_row (Rated z) (Some (user_row a u n))).misfit ≡ None
unfolding change_row
rated_fits a u z n = refl

renamed_fits : (a : List Core) (u : Id) (k n : List ℕ) → (change_row (Renamed k) (Some (user_row a u n))).misfit ≡ None
unfolding change_row
renamed_fits a u k n = refl

item_fits : (a : List Core) (i : Id) (c : Change) → IsSome (item_at i a) → close_of i a ≡ None
    → ((n : NewItem) → item_at i a ≡ Some n →
    (change_row c (Some (item_of (supply a i) (total (sold_of i) a) (count (bids_on i) a) (best_bid i a) None n))).misfit ≡ None)
    → (change_row c (meaning_row a (RowKey.Item i))).misfit ≡ None
unfolding meaning_row
item_fits a i c s shut each =
    let n = some_of (item_at i a) s in
    (λ j. (change_row c (option_map (item_of (supply a i) (total (sold_of i) a) (count (bids_on i) a) (best_bid i a) (shut j)) (n.1 j))).misfit) ∙ each n.0 n.1

bid_fits : (b : Best) (w : NewItem → ℕ) (s c : ℕ) (best : Option Core) (n : NewItem)
    → (change_row (BidTaken b) (Some (item_of w s c best None n))).misfit ≡ None
unfolding change_row
bid_fits b w s c best n = refl

end_fits : (e : Option Id) (w : NewItem → ℕ) (s c : ℕ) (best : Option Core) (n : NewItem)
    → (change_row (End e) (Some (item_of w s c best None n))).misfit ≡ None
unfolding change_row
end_fits e w s c best n = refl

sold_fits : (q : ℕ) (w : NewItem → ℕ) (s c : ℕ) (best : Option Core) (n : NewItem) → s + q ≤ w n
    → (change_row (Sold q) (Some (item_of w s c best None n))).misfit ≡ None
unfolding change_row
sold_fits q w s c best n h = split (nat_le q (w n - s)) _ (le-leb q (w n - s) (omega arith))
  where
    split : (b : Bool) (r : Row) → b ≡ true → (cond b (fits_as r) (misfits_as StockShort (Some (item_of w s c best None n)))).misfit ≡ None
    split true r e = refl
    split false r e = absurd (true≢false (sym e))

restocked_fits : (a : List Core) (i : Id) (q : ℕ) → IsSome (item_at i a) → (change_row (Restocked q) (meaning_row a (RowKey.Item i))).misfit ≡ None
unfolding meaning_row change_row
restocked_fits a i q s = let n = some_of (item_at i a) s in ap (λ o. (change_row (Restocked q) (option_map (item_row a i) o)).misfit) n.1

cat_fits : (a : List Core) {k : ℕ} (c : Change) → k < 1000 → (change_row c (Some (category_row a k))).misfit ≡ None
    → (change_row c (meaning_row a (RowKey.Cat k))).misfit ≡ None
unfolding meaning_row
cat_fits a {k} c h each = ap (λ b. (change_row c (when b (Some (category_row a k)))).misfit) (lt-ltb k 1000 h) ∙ each

cat_listed : (a : List Core) (k : ℕ) → (change_row CatListed (Some (category_row a k))).misfit ≡ None
unfolding change_row
cat_listed a k = refl

cat_ended : (a : List Core) (k : ℕ) → (change_row CatEnded (Some (category_row a k))).misfit ≡ None
unfolding change_row
cat_ended a k = refl

no_row : {X : Type 0} (f : Core → Option X) (wrap : X → Row) (i : Id) (a : List Core) → has_id i a ≡ None → option_map wrap (at_id f i a) ≡ None
no_row f wrap i a e = ap (option_map wrap) (none_at f i a e)

all_fit : (t : Tables) {a : List Core} {s : Head} (x : Shadow) → ((q : RowKey) → map.get t q ≡ meaning_row a q) → Good a → Follows a (msg s x)
    → AllFit t (parts s.id s.red x)
unfolding meaning_row
all_fit t {a} {s} (Shadow.User n) r g f = fit_two t _ _ (λ e. cc) (fits_at t a (RowKey.User s.id) _ (r _)
    (new_row a (RowKey.User s.id) _ (ap (option_map (user_row a s.id)) (nick_none s.id a (none_at (λ m. as_user m.shadow) s.id a f.new_id)))))
    (fits_at t a (RowKey.Nick n) _ (r _) (new_row a (RowKey.Nick n) _ (ap (option_map (λ (m : Core). Row.Nick m.id)) (by_kind a (Shadow.User n) f.fits))))
all_fit t {a} {s} (Shadow.Item n) r g f = fit_three t _ _ _ (λ e. cc) (λ e. cc) (λ e. cc)
    (fits_at t a _ _ (r _) (new_row a (RowKey.Item s.id) _ (ap (option_map (item_row a s.id)) (none_at (λ m. as_item m.shadow) s.id a f.new_id))))
    (fits_at t a _ _ (r _) (user_fits a _ _ (listed_fits a _) (by_kind a _ f.fits))) (fits_at t a _ _ (r _) (cat_fits a _ f.limits.1.cat (cat_listed a n.cat)))
all_fit t {a} {s} (Shadow.Bid b) r g f = fit_two t _ _ (λ e. cc) (fits_at t a _ _ (r _) (new_row a (RowKey.Bid s.id) _
    (no_row (λ m. as_bid m.red m.shadow) Row.Bid s.id a f.new_id))) (fits_at t a _ _ (r _) (item_fits a _ _ (by_kind a _ f.fits).0 (by_kind a _ f.fits).2
    (λ n e. bid_fits _ (supply a b.item) (total (sold_of b.item) a) (count (bids_on b.item) a) (best_bid b.item a) n)))
all_fit t {a} {s} (Shadow.Buy p) r g f = fit_three t _ _ _ (λ e. cc) (λ e. cc) (λ e. cc)
    (fits_at t a _ _ (r _) (new_row a (RowKey.Purchase s.id) _ (no_row (λ m. as_purchase m.shadow) Row.Purchase s.id a f.new_id)))
    (fits_at t a _ _ (r _) (item_fits a _ _ (by_kind a _ f.fits).0 (by_kind a _ f.fits).2 (λ n e. sold_fits _ (supply a p.item) _ (count (bids_on p.item) a)
    (best_bid p.item a) n (subst (λ o. IfSome o (λ n. total (sold_of p.item) a + p.quantity ≤ supply a p.item n)) e (by_kind a _ f.fits).3))))
    (fits_at t a _ _ (r _) (user_fits a _ _ (bought_fits a _ _) (by_kind a _ f.fits).1))
all_fit t {a} (Shadow.Close c) r g f = fit_two t _ _ (λ e. cc) (fits_at t a _ _ (r _) (item_fits a _ _ (mapped_some _ _ (by_kind a _ f.fits).0)
    (by_kind a _ f.fits).1 (λ n e. end_fits _ (supply a c.item) (total (sold_of c.item) a) (count (bids_on c.item) a) (best_bid c.item a) n)))
    (fits_at t a _ _ (r _) (cat_fits a _ f.limits.1.1 (cat_ended a c.cat)))
all_fit t {a} {s} (Shadow.Comment c) r g f = fit_two t _ _ (λ e. cc)
    (fits_at t a (RowKey.Comment s.id) _ (r _) (new_row a (RowKey.Comment s.id) _ (no_row (λ m. as_comment m.shadow) Row.Comment s.id a f.new_id)))
    (fits_at t a (RowKey.User c.to) _ (r _) (user_fits a c.to _ (rated_fits a c.to c.rating) (by_kind a (Shadow.Comment c) f.fits).2))
all_fit t {a} (Shadow.Restock k) r g f = (fits_at t a _ _ (r _) (restocked_fits a _ _ (by_kind a _ f.fits)), tt)
all_fit t {a} {s} (Shadow.Rename k) r g f = fit_three t _ _ _ (λ e. cc) (λ e. cc) (λ e. f.limits.1.1 (let w : k.from ≡ k.to = cc in w))
    (fits_at t a _ _ (r _) (user_fits a _ _ (renamed_fits a _ k.to) (some_nick _ a (by_kind a _ f.fits).0))) (fits_at t a _ _ (r _) (freed_fits a s k g f))
    (fits_at t a _ _ (r _) (new_row a (RowKey.Nick k.to) _ (ap (option_map (λ (m : Core). Row.Nick m.id)) (by_kind a _ f.fits).1)))

-- ---- one more message

rows_more : (t : Tables) {a : List Core} {s : Head} {x : Shadow} → ((q : RowKey) → map.get t q ≡ meaning_row a q) → Good a → Follows a (msg s x)
    → length a < 2 ^ 32 → (q : RowKey) → map.get (effects_after t (parts s.id s.red x)) q ≡ meaning_row (a ++ msg s x ∷ []) q
rows_more t {a} {s} {x} r g f h q = get-effects_after t (parts s.id s.red x) q ∙ ap (λ o. fold (at_key q) o (parts s.id s.red x)) (r q) ∙ at q
  where
    at : (q : RowKey) → fold (at_key q) (meaning_row a q) (parts s.id s.red x) ≡ meaning_row (a ++ msg s x ∷ []) q
    at (RowKey.User i) = row_of_user s x g f h i
    at (RowKey.Item i) = row_of_item s x g f h i
    at (RowKey.Bid i) = row_of_bid s x f i
    at (RowKey.Purchase i) = row_of_purchase s x f i
    at (RowKey.Comment i) = row_of_comment s x f i
    at (RowKey.Nick n) = row_of_nick s x g (good_push g f) f n
    at (RowKey.Cat k) = row_of_cat a s x h k

-- ---- the opening tables

found : (k j n : ℕ) → map.find key_order (RowKey.Cat k) (categories_from j n) ≡ when (nat_le j k && nat_lt k (j + n)) (Some new_category)
unfolding categories_from
found k j zero = ap (λ b. when b (Some new_category)) (none_in j k)
  where
    none_in : (j k : ℕ) → false ≡ (nat_le j k && nat_lt k (j + 0))
    none_in j k = grind (arith, nat_tests)
found k j (suc n) =
    (λ i. cond (tied-key_eq (RowKey.Cat k) (RowKey.Cat j) i) (Some new_category) (found k (j + 1) n i))
    ∙ split (nat_eq k j) (nat_le (j + 1) k && nat_lt k (j + 1 + n)) ∙ ap (λ b. when b (Some new_category)) (one_in j k n)
  where
    split : (b c : Bool) → cond b (Some new_category) (when c (Some new_category)) ≡ when (b || c) (Some new_category)
    split true c = refl
    split false c = refl

    one_in : (j k n : ℕ) → (nat_eq k j || (nat_le (j + 1) k && nat_lt k (j + 1 + n))) ≡ (nat_le j k && nat_lt k (j + suc n))
    one_in j k n = grind (arith, nat_tests)

not_found : (q : RowKey) → ((k : ℕ) → key_eq q (RowKey.Cat k) ≡ false) → (j n : ℕ) → map.find key_order q (categories_from j n) ≡ None
unfolding categories_from
not_found q other j zero = refl
not_found q other j (suc n) = (λ i. cond ((tied-key_eq q (RowKey.Cat j) ∙ other j) i) (Some new_category) (not_found q other (j + 1) n i))

opened_at : (q : RowKey) → map.find key_order q (categories_from 0 1000) ≡ meaning_row [] q
unfolding meaning_row
opened_at (RowKey.User i) = not_found (RowKey.User i) (λ k. refl) 0 1000
opened_at (RowKey.Item i) = not_found (RowKey.Item i) (λ k. refl) 0 1000
opened_at (RowKey.Bid i) = not_found (RowKey.Bid i) (λ k. refl) 0 1000
opened_at (RowKey.Purchase i) = not_found (RowKey.Purchase i) (λ k. refl) 0 1000
opened_at (RowKey.Comment i) = not_found (RowKey.Comment i) (λ k. refl) 0 1000
opened_at (RowKey.Nick i) = not_found (RowKey.Nick i) (λ k. refl) 0 1000
opened_at (RowKey.Cat k) = found k 0 1000 ∙ ap (λ b. when b (Some new_category)) (below k)
  where
    below : (k : ℕ) → (nat_le 0 k && nat_lt k 1000) ≡ nat_lt k 1000
    below k = grind (arith, nat_tests)

pub opening_rows : (q : RowKey) → map.get opening q ≡ meaning_row [] q
unfolding opening
opening_rows q = map.get-from_entries key_total (categories_from 0 1000) q ∙ opened_at q

-- ---- whole logs

append_none : {X : Type 0} (xs : List X) → xs ++ [] ≡ xs
append_none xs = search Rattle.std.proofs.Common.rules

numbered_push : (k : ℕ) (a : List Core) (m : Core) → numbered_from k (a ++ m ∷ []) ≡ numbered_from k a ++ number_parts (k + length a) 1 m.id (parts_of m)
numbered_push k [] m = append_none _ ∙ ap (λ n. number_parts n 1 m.id (parts_of m)) (omega arith)
numbered_push k (x ∷ a) m =
    ap (λ ns. number_parts k 1 x.id (parts_of x) ++ ns) (numbered_push (k + 1) a m) ∙ sym (append_assoc (number_parts k 1 x.id (parts_of x)) _ _)
    ∙ ap (λ n. (number_parts k 1 x.id (parts_of x) ++ numbered_from (k + 1) a) ++ number_parts n 1 m.id (parts_of m)) (omega arith)

pub fold_push_parts : (a : List Core) (m : Core) → fold_of (a ++ m ∷ []) ≡ fold_on (fold_of a) (number_parts (1 + length a) 1 m.id (parts_of m))
fold_push_parts a m = ap (fold_on (record { tables = opening; misfits = [] })) (numbered_push 1 a m) ∙ fold-append step _ (numbered_from 1 a) _

pub record Right (a : List Core) : Type 0 where
  pub rows : (q : RowKey) → map.get (fold_of a).tables q ≡ meaning_row a q
  pub clean : (fold_of a).misfits ≡ []
  pub good : Good a

right_none : Right []
right_none = record { rows = opening_rows; clean = refl; good = good_none }

right_push : {a : List Core} {m : Core} → Right a → Follows a m → length a < 2 ^ 32 → Right (a ++ m ∷ [])
right_push {a} {m} r f h =
    let together : fold_of (a ++ m ∷ []) ≡ record { tables = effects_after (fold_of a).tables (parts_of m); misfits = (fold_of a).misfits } = fold_push_parts a
    m ∙ folded_fit (fold_of a).tables (fold_of a).misfits (1 + length a) 1 m.id (parts_of m) (all_fit (fold_of a).tables m.shadow r.rows r.good f) in
    record {
      rows = λ q. ap (λ (w : Folded). map.get w.tables q) together ∙ rows_more (fold_of a).tables r.rows r.good f h q;
      clean = ap (λ (w : Folded). w.misfits) together ∙ r.clean;
      good = good_push r.good f;
    }

right_from : {a : List Core} (rest : List Core) → Right a → CheckedFrom a rest → length a + length rest ≤ 2 ^ 32 → Right (a ++ rest)
right_from {a} [] r c h = subst Right (sym (append_none a)) r
right_from {a} (m ∷ rest) r c h =
    let l = length-append a (m ∷ []) in
    subst Right (append_assoc a (m ∷ []) rest) (right_from rest (right_push r c.0 (omega arith)) c.1 (omega (arith, l, h)))

-- a checked log has no misfit, and its tables are its meaning
pub fold_is_meaning : (log : List Core) → Checked log → length log ≤ 2 ^ 32 → IsMeaning log (fold_of log).tables × ((fold_of log).misfits ≡ [])
fold_is_meaning log c h =
    let r = right_from log right_none c (omega arith) in
    (record { rows = r.rows }, r.clean)

-- and the set has one meaning
pub meaning_is_one : (a : List Core) (t u : Tables) → IsMeaning a t → IsMeaning a u → t ≡ u
meaning_is_one a t u h k = same_tables t u (λ q. h.rows q ∙ sym (k.rows q))
