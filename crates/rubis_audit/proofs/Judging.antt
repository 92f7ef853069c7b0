-- What is known of the messages before an entry, and how an entry without fault goes on with it.
use Rattle.rubis_audit.proofs.Common.{ℕ, ◌≡◌, ◌+◌, ◌≤◌, ◌<◌, zero, suc, Bool, true, false, refl, sym, ap, ◌∙◌, arith, ⊎_elim, List, [], ◌∷◌, ◌++◌}
use Rattle.rubis_audit.proofs.Common.{subst, Some, None, length, get_or, cond, Option, inl, inr, ◌-◌, append_assoc, ◌&&◌, ◌||◌, ◌==◌, not, nat_lt, ⊤}
use Rattle.rubis_audit.proofs.Common.{reverse, slice_index, bytes_eq, IfSome, option_map, option_and_then, option_copied, list_any, range_with_len}
use Rattle.rubis_audit.proofs.Common.{cases_lt, Decides-eqb, nat_tests, Message, sites_of, IsMessage, dep, shown_rows, last_red, checks, first_of}
use Rattle.rubis_audit.proofs.Common.{same_id, RowKey, option_or, option_map_or, Id, append-nil, is_red, refers_of, Decides-same_message, Released}
use Rattle.rubis_audit.proofs.Common.{Has, counted, counts, Ready, has_back, has_left, has_reverse, has_right, found, counted_reverse, reds_reverse}
use Rattle.rubis_audit.proofs.Common.{push_cases, cores_push, reverse_push, IsAmong, clock_of, counts_at, Tables, row_by_key, core, cores, Bor, Kind}
use Rattle.std.specs.Prelude.{nat_le, IsSome, is_some, ◌⊎◌}
use Rattle.std.proofs.lemmas.Bool.{and_from, lt-ltb, or_cases, and_parts, cases_eq}
use Rattle.std.proofs.lemmas.List.Folds.{list_any_at, find-append}
use Rattle.std.proofs.lemmas.List.FromFn.{length-range_with_len, get_or-range_with_len}
use Rattle.rubis_model.specs.Verdict.{at_some_site, clash, clashes, forgets, is_early, is_not_next, out_of_order, comes_before, red_gap, takes_number}
use Rattle.rubis_model.specs.Verdict.{is_known, wrong_reference}
use Rattle.std.specs.FinMap.Entries.{by_order, put}
use Rattle.std.specs.declared.cmp.Ordering.TheVariants.{Less, Equal, Greater}
use Rattle.rubis_schema.specs.Keys.{key_order}
use Rattle.rubis_schema.specs.KeyLaws.{key_total, Decides-same_id}
use Rattle.rubis_schema.specs.declared.limits.TheConstants.{CATEGORIES}
use Rattle.rubis_schema.specs.declared.rows.Row.{Row}
use Rattle.rubis_shadow.specs.Tables.{categories_from, new_category, opening}
use Rattle.rubis_model.specs.Listings.{records_of, row_record}
use Rattle.rubis_shard.proofs.Openings.{none_there}
use Rattle.std.specs.Option.{option_eq}
use Rattle.std.proofs.lemmas.List.{get_or_past, reverse-reverse}
use Rattle.rubis_message.specs.Equal.{same_message}
use Rattle.rubis_model.specs.Site.{reds}
use Rattle.rubis_model.proofs.Settling.{has_append, red_within}
use Rattle.rubis_schema.specs.declared.rows.Best.{Best}
use Rattle.rubis_schema.specs.declared.rows.ItemRow.{ItemRow}
use Rattle.rubis_schema.specs.declared.rows.UserRow.{UserRow}
use Rattle.rubis_schema.specs.declared.offers.NewItem.{NewItem}
use Rattle.rubis_shadow.specs.declared.shadows.Shadow.{Shadow}
use Rattle.rubis_shadow.specs.declared.shadows.Shadow.TheVariants.{User, Item, Bid, Buy, Close, Comment, Restock, Rename}
use Rattle.rubis_generate.specs.Decision.{as_item_row, as_user_row, is_ended, item_in}
use Rattle.rubis_model.specs.Checks.{nick_taken, stock_short, wrong_category, wrong_winner, Checked, Follows, has_id}
use Rattle.rubis_model.specs.Log.{Core}
use Rattle.rubis_model.specs.Meaning.{as_bid, as_item, as_user, at_id, best_bid, best_of, close_of, item_at, item_row, is_same_nick, meaning_row}
use Rattle.rubis_model.specs.Meaning.{named, nick_at, user_row, sale_after, sold_of, supply, total, user_at, when, count}
use Rattle.rubis_laws.proofs.Audits.AuditReadings.{fits}
use Rattle.rubis_laws.proofs.Order.Deciding.{checked_end, count_reds, new_here, number_is}
use Rattle.rubis_laws.proofs.Audits.Verdicts.{AreClean}
use mathlib.Core.Bool.{true≢false}
use Rattle.std.specs.FinMap as map
use Rattle.rubis_schema.specs.declared.listings.Listing.TheVariants as listing
use Rattle.rubis_schema.specs.declared.row_keys.RowKey.TheVariants as key
use Rattle.rubis_audit.specs.Walks.{by_message_id, by_red, clash_by_id, differs_by, early_by, exceeds, forgets_by_id, gap_by, last_of, not_next_by, order_by}
use Rattle.rubis_audit.specs.Walks.{taken_by_red, IsFaultless, closed_in, known_in, nick_taken_in, outbid_in, stock_short_in, wrong_category_in}
use Rattle.rubis_audit.specs.Walks.{wrong_reference_in, wrong_winner_in, Shows, Sees, id_in, checks_by}
use Rattle.rubis_audit.specs.declared.seen.Seen.{Seen}
use Rattle.rubis_message.specs.declared.answers.Kind.TheVariants as kind

none_from : (p : ℕ → Bool) (a n : ℕ) → ((j : ℕ) → a ≤ j → j < a + n → p j ≡ false) → list_any p (range_with_len a n) ≡ false
none_from p a zero h = refl
none_from p a (suc n) h =
    both (p a) (list_any p (range_with_len (a + 1) n)) (h a (omega arith) (omega arith))
    (none_from p (a + 1) n (λ j l m. h j (omega (arith, l)) (omega (arith, m))))
  where
    both : (x y : Bool) → x ≡ false → y ≡ false → (x || y) ≡ false
    both x y e f = λ i. e i || f i

-- it is so at a site that v counts
pub some_site : (v : Message) (p : ℕ → Bool) (j : ℕ) → j < sites_of v → p j ≡ true → at_some_site v p ≡ true
some_site v p j l t =
    list_any_at p (range_with_len 0 (sites_of v)) j 0 (let k = length-range_with_len 0 (sites_of v) in omega (arith, k, l))
    (ap p (get_or-range_with_len 0 (sites_of v) j 0 l ∙ omega arith) ∙ t)

-- it is so at none of them
pub no_site : (v : Message) (p : ℕ → Bool) → ((j : ℕ) → j < sites_of v → p j ≡ false) → at_some_site v p ≡ false
no_site v p h = none_from p 0 (sites_of v) (λ j l m. h j (omega (arith, m)))

any_from : (p : ℕ → Bool) (a n : ℕ) → list_any p (range_with_len a n) ≡ true → (j : ℕ) × (j < a + n) × (p j ≡ true)
any_from p a zero e = absurd (true≢false (sym e))
any_from p a (suc n) e = ⊎_elim (λ l. (a, omega arith, l)) (λ r. let w = any_from p (a + 1) n r in (w.0, (let k = w.1 in omega (arith, k)), w.2))
    (or_cases (p a) (list_any p (range_with_len (a + 1) n)) e)

-- a site at which it is so
pub site_of : (v : Message) (p : ℕ → Bool) → at_some_site v p ≡ true → (j : ℕ) × (j < sites_of v) × (p j ≡ true)
site_of v p e = let w = any_from p 0 (sites_of v) e in (w.0, (let k = w.1 in omega (arith, k)), w.2)

-- tests that agree at each of them
pub same_sites : (v : Message) (p q : ℕ → Bool) → ((j : ℕ) → j < sites_of v → p j ≡ q j) → at_some_site v p ≡ at_some_site v q
same_sites v p q e = from 0 (sites_of v) (λ j l m. e j (omega (arith, m)))
  where
    from : (a n : ℕ) → ((j : ℕ) → a ≤ j → j < a + n → p j ≡ q j) → list_any p (range_with_len a n) ≡ list_any q (range_with_len a n)
    from a zero h = refl
    from a (suc n) h =
        let rest = from (a + 1) n (λ j l m. h j (omega (arith, l)) (omega (arith, m))) in
        λ i. h a (omega arith) (omega arith) i || rest i

off : (b : Bool) → (b ≡ true → ⊥) → b ≡ false
off true n = absurd (n refl)
off false n = refl

-- single tests
pub less_at : (a b : ℕ) → a < b → nat_lt a b ≡ true
less_at a b l = lt-ltb a b l

pub other_at : (a b : ℕ) → ¬ (a ≡ b) → not (a == b) ≡ true
other_at a b n = ap not (off (a == b) (λ t. n ((Decides-eqb a b).0 t)))

pub early_at : (j s a b : ℕ) → ¬ (j ≡ s) → a < b → (not (j == s) && nat_lt a b) ≡ true
early_at j s a b n l = and_from _ _ (other_at j s n) (less_at a b l)

-- ---- before any message, the tables show no rows

-- none of the entries has a record
abbrev ShowNothing : List (RowKey × Row) → Type 0
ShowNothing [] = ⊤
ShowNothing (e ∷ es) = (row_record e.0 e.1 ≡ []) × ShowNothing es

-- a category without items has none, whatever its key
new_shows_nothing : (k : RowKey) → row_record k new_category ≡ []
new_shows_nothing (key.User i) = refl
new_shows_nothing (key.Item i) = refl
new_shows_nothing (key.Bid i) = refl
new_shows_nothing (key.Purchase i) = refl
new_shows_nothing (key.Comment i) = refl
new_shows_nothing (key.Nick n) = refl
new_shows_nothing (key.Cat k) = refl

one_more : (k : RowKey) (es : List (RowKey × Row)) → ShowNothing es → ShowNothing (put key_order k new_category es)
one_more k [] h = (new_shows_nothing k, tt)
one_more k (e ∷ es) h =
    elim (key_order k e.0) as (λ o. ShowNothing (by_order o ((k, new_category) ∷ e ∷ es) ((e.0, new_category) ∷ es) (e ∷ put key_order k new_category es))) [
      | Less ↦ (new_shows_nothing k, h)
      | Equal ↦ (new_shows_nothing e.0, h.1)
      | Greater ↦ (h.0, one_more k es h.1)
    ]

categories_show_nothing : (k n : ℕ) → ShowNothing (map.entries (map.from_entries {R = key_order} (categories_from k n)))
unfolding categories_from
categories_show_nothing k zero = subst ShowNothing (sym (none_there map.empty refl)) tt
categories_show_nothing k (suc n) =
    subst ShowNothing (sym (map.entries-insert key_total (map.from_entries (categories_from (k + 1) n)) (key.Cat k) new_category))
    (one_more (key.Cat k) (map.entries (map.from_entries (categories_from (k + 1) n))) (categories_show_nothing (k + 1) n))

no_records : (es : List (RowKey × Row)) → ShowNothing es → records_of listing.Tables es ≡ []
no_records [] h = refl
no_records (e ∷ es) h = ap (λ x. x ++ records_of listing.Tables es) h.0 ∙ no_records es h.1

pub nothing_shown : shown_rows [] ≡ []
unfolding opening
nothing_shown = no_records (map.entries opening) (categories_show_nothing 0 CATEGORIES)

-- ---- how the first message with an id, or with a red number, is found once one more follows

pub by_id_push : (i : Id) (all : List Message) (m : Message) → by_message_id i (all ++ m ∷ [])
    ≡ option_or (by_message_id i all) (cond (same_id i m.stamp.id) (Some m) None)
by_id_push i all m = find-append (λ u. same_id i u.stamp.id) all (m ∷ [])

pub by_red_push : (r : ℕ) (all : List Message) (m : Message) → by_red r (all ++ m ∷ []) ≡ option_or (by_red r all) (cond (r == m.stamp.red) (Some m) None)
by_red_push r all m = find-append (λ u. r == u.stamp.red) all (m ∷ [])

-- ---- while no fault was found, the checks of an entry by look-ups are those of the definition

-- ---- tests over members
pub same_bool : (a b : Bool) → (a ≡ true → b ≡ true) → (b ≡ true → a ≡ true) → a ≡ b
same_bool true true f g = refl
same_bool true false f g = sym (f refl)
same_bool false true f g = g refl
same_bool false false f g = refl

pub or_parts : (a b : Bool) → (a || b) ≡ false → (a ≡ false) × (b ≡ false)
or_parts true b e = absurd (true≢false e)
or_parts false b e = (refl, e)

pub or_rest : (a b c : Bool) → (a ≡ false → b ≡ c) → (a || b) ≡ (a || c)
or_rest true b c e = refl
or_rest false b c e = e refl

pub not_false : (b : Bool) → not b ≡ false → b ≡ true
not_false true e = refl
not_false false e = sym e

or_first : (a b : Bool) → a ≡ true → (a || b) ≡ true
or_first true b e = refl
or_first false b e = absurd (true≢false (sym e))

or_second : (a b : Bool) → b ≡ true → (a || b) ≡ true
or_second true b e = refl
or_second false b e = e

any_has : (p : Message → Bool) (xs : List Message) → list_any p xs ≡ true → (u : Message) × (Has u xs) × (p u ≡ true)
any_has p [] e = absurd (true≢false (sym e))
any_has p (x ∷ xs) e = ⊎_elim (λ l. (x, inl refl, l)) (λ r. let w = any_has p xs r in (w.0, inr w.1, w.2)) (or_cases (p x) (list_any p xs) e)

has_any : (p : Message → Bool) (xs : List Message) (u : Message) → Has u xs → p u ≡ true → list_any p xs ≡ true
has_any p [] u h e = absurd h
has_any p (x ∷ xs) u (inl q) e = or_first (p x) (list_any p xs) (ap p (sym q) ∙ e)
has_any p (x ∷ xs) u (inr h) e = or_second (p x) (list_any p xs) (has_any p xs u h e)

-- ---- who is found by an id, or by a red number
some_is : {X : Type 0} (a b : X) → Some a ≡ Some b → a ≡ b
some_is a b e = cc

id_at : (i : Id) (x : Message) (xs : List Message) (u : Message) (b : Bool) → same_id i x.stamp.id ≡ b
    → (by_message_id i xs ≡ Some u → Has u xs × (i ≡ u.stamp.id)) → cond b (Some x) (by_message_id i xs) ≡ Some u → Has u (x ∷ xs) × (i ≡ u.stamp.id)
id_at i x xs u true t rest e = let q : x ≡ u = some_is x u e in (inl (sym q), (Decides-same_id i x.stamp.id).0 t ∙ ap (λ (m : Message). m.stamp.id) q)
id_at i x xs u false t rest e = let w = rest e in (inr w.0, w.1)

pub found_id : (i : Id) (xs : List Message) (u : Message) → by_message_id i xs ≡ Some u → Has u xs × (i ≡ u.stamp.id)
found_id i [] u e = absurd cc
found_id i (x ∷ xs) u e = id_at i x xs u (same_id i x.stamp.id) refl (found_id i xs u) e

red_at : (r : ℕ) (x : Message) (xs : List Message) (u : Message) (b : Bool) → (r == x.stamp.red) ≡ b
    → (by_red r xs ≡ Some u → Has u xs × (r ≡ u.stamp.red)) → cond b (Some x) (by_red r xs) ≡ Some u → Has u (x ∷ xs) × (r ≡ u.stamp.red)
red_at r x xs u true t rest e = let q : x ≡ u = some_is x u e in (inl (sym q), (Decides-eqb r x.stamp.red).0 t ∙ ap (λ (m : Message). m.stamp.red) q)
red_at r x xs u false t rest e = let w = rest e in (inr w.0, w.1)

pub found_number : (r : ℕ) (xs : List Message) (u : Message) → by_red r xs ≡ Some u → Has u xs × (r ≡ u.stamp.red)
found_number r [] u e = absurd cc
found_number r (x ∷ xs) u e = red_at r x xs u (r == x.stamp.red) refl (found_number r xs u) e

-- ---- Clash
pub clash_is : (others own : List Message) (v : Message) → IsFaultless others own → clash others own v ≡ clash_by_id (others ++ own) v
clash_is others own v k = same_bool (clash others own v) (clash_by_id (others ++ own) v) there (back (by_message_id v.stamp.id (others ++ own)) refl)
  where
    there : clash others own v ≡ true → clash_by_id (others ++ own) v ≡ true
    there e =
        let w = any_has (clashes v) (others ++ own) e in
        let t = and_parts (same_id w.0.stamp.id v.stamp.id) (not (same_message w.0 v)) w.2 in
        ap (λ (j : Id). option_map_or (λ u. not (same_message u v)) (by_message_id j (others ++ own)) false)
        (sym ((Decides-same_id w.0.stamp.id v.stamp.id).0 t.0))
        ∙ ap (λ o. option_map_or (λ u. not (same_message u v)) o false) (k.one_id w.0 w.1) ∙ t.1

    back : (o : Option Message) → by_message_id v.stamp.id (others ++ own) ≡ o → option_map_or (λ u. not (same_message u v)) o false ≡ true → clash others own v
        ≡ true
    back None q e = absurd (true≢false (sym e))
    back (Some u) q e =
        let w = found_id v.stamp.id (others ++ own) u q in
        has_any (clashes v) (others ++ own) u w.0
        (and_from (same_id u.stamp.id v.stamp.id) (not (same_message u v)) ((Decides-same_id u.stamp.id v.stamp.id).1 (sym w.1)) e)

-- ---- Order
past_end : (xs : List ℕ) (j : ℕ) → 1 ≤ get_or xs j 0 → j < length xs
past_end xs j h = ⊎_elim (λ l. l) (λ l. let z = get_or_past xs j 0 l in absurd (omega (arith, h, z))) (cases_lt j (length xs))

-- what v counts of a site is in this log
in_own : (own : List Message) (j s : ℕ) → Released (reverse own) → 1 ≤ s → s ≤ counted j own → (u : Message) × (Has u own) × (u.stamp.id.site ≡ j)
    × (u.stamp.id.seq ≡ s)
in_own own j s r l h =
    let w = found (reverse own) j s r l (let c = counted_reverse j own in omega (arith, c, h)) in
    (w.0, has_reverse w.0 own w.1, w.2, w.3)

pub forgets_is : (others own : List Message) (v : Message) → IsFaultless others own → ((j : ℕ) → dep v j ≤ counted j own) → list_any (forgets v) own
    ≡ forgets_by_id (others ++ own) v
forgets_is others own v k le = same_bool (list_any (forgets v) own) (forgets_by_id (others ++ own) v) there back
  where
    there : list_any (forgets v) own ≡ true → forgets_by_id (others ++ own) v ≡ true
    there e =
        let w = any_has (forgets v) own e in
        let t = and_parts (w.0.stamp.id.seq == dep v w.0.stamp.id.site) (exceeds v w.0) w.2 in
        let s = (Decides-eqb w.0.stamp.id.seq (dep v w.0.stamp.id.site)).0 t.0 in
        let m = has_right w.0 others own w.1 in
        let q = (k.formed w.0 m).id.positive in
        some_site v (λ j. option_map_or (exceeds v) (by_message_id (last_of v j) (others ++ own)) false) w.0.stamp.id.site
        (past_end v.stamp.deps w.0.stamp.id.site (omega (arith, q, s)))
        (ap (λ (n : ℕ). option_map_or (exceeds v) (by_message_id (record { site = w.0.stamp.id.site; seq = n }) (others ++ own)) false) (sym s)
        ∙ ap (λ o. option_map_or (exceeds v) o false) (k.one_id w.0 m) ∙ t.1)

    at : (j : ℕ) (o : Option Message) → by_message_id (last_of v j) (others ++ own) ≡ o → option_map_or (exceeds v) o false ≡ true → list_any (forgets v) own
        ≡ true
    at j None q e = absurd (true≢false (sym e))
    at j (Some u) q e =
        let f = found_id (last_of v j) (others ++ own) u q in
        let a : j ≡ u.stamp.id.site = ap (λ (i : Id). i.site) f.1 in
        let b : dep v j ≡ u.stamp.id.seq = ap (λ (i : Id). i.seq) f.1 in
        let c : u.stamp.id.seq ≡ dep v u.stamp.id.site = sym b ∙ ap (dep v) a in
        let p = (k.formed u f.0).id.positive in
        let d = le u.stamp.id.site in
        let w = in_own own u.stamp.id.site u.stamp.id.seq k.released p (omega (arith, c, d)) in
        let same : w.0.stamp.id ≡ u.stamp.id = λ i. record { site = w.2 i; seq = w.3 i } in
        let one : w.0 ≡ u = some_is w.0 u
        (sym (k.one_id w.0 (has_right w.0 others own w.1)) ∙ ap (λ (i : Id). by_message_id i (others ++ own)) same ∙ k.one_id u f.0) in
        has_any (forgets v) own u (subst (λ (x : Message). Has x own) one w.1)
        (and_from (u.stamp.id.seq == dep v u.stamp.id.site) (exceeds v u) ((Decides-eqb _ _).1 c) e)

    back : forgets_by_id (others ++ own) v ≡ true → list_any (forgets v) own ≡ true
    back e =
        let w = site_of v (λ j. option_map_or (exceeds v) (by_message_id (last_of v j) (others ++ own)) false) e in
        at w.0 (by_message_id (last_of v w.0) (others ++ own)) refl w.2

-- with the first two tests false no count is above those of this log
pub within : (own : List Message) (v : Message) → IsMessage v → is_not_next own v ≡ false → is_early own v ≡ false → (j : ℕ) → dep v j ≤ counted j own
within own v f next early j = ⊎_elim here other (cases_eq j v.stamp.id.site)
  where
    here : j ≡ v.stamp.id.site → dep v j ≤ counted j own
    here e =
        let s = (Decides-eqb v.stamp.id.seq (counted v.stamp.id.site own + 1)).0 (not_false _ next) in
        let o = f.own in
        subst (λ i. dep v i ≤ counted i own) (sym e) (omega (arith, s, o))

    apart : (a b : ℕ) → (a ≡ b → ⊥) → not (a == b) ≡ true
    apart a b n = grind (arith, nat_tests)

    above : (a b : ℕ) → a < b → nat_lt a b ≡ true
    above a b l = grind (arith, nat_tests)

    other : (j ≡ v.stamp.id.site → ⊥) → dep v j ≤ counted j own
    other n = ⊎_elim
        (λ l. absurd (true≢false
        (sym (some_site v (λ i. not (i == v.stamp.id.site) && nat_lt (counted i own) (dep v i)) j (past_end v.stamp.deps j (omega (arith, l)))
        (and_from _ _ (apart j v.stamp.id.site n) (above (counted j own) (dep v j) l))) ∙ early)))
        (λ l. l) (cases_lt (counted j own) (dep v j))

pub order_is : (sites site : ℕ) (others own : List Message) (v : Message) → IsFaultless others own → IsAmong sites v → IsMessage v
    → out_of_order site own v ≡ order_by site (counts sites own) (others ++ own) v
order_is sites site others own v k a f = clocked ∙ or_rest _ _ _ (λ n. or_rest _ _ _ (λ e. or_rest _ _ _ (λ d. forgets_is others own v k (le n e))))
  where
    at : (j : ℕ) → j < sites_of v → counted j own ≡ slice_index (counts sites own) j
    at j l = sym (counts_at sites own j (subst (λ n. j < n) a.counts l))

    next : is_not_next own v ≡ not_next_by (counts sites own) v
    next = ap (λ n. not (v.stamp.id.seq == n + 1)) (sym (counts_at sites own v.stamp.id.site a.id.site))

    early : is_early own v ≡ early_by (counts sites own) v
    early = same_sites v _ _ (λ j l. ap (λ n. not (j == v.stamp.id.site) && nat_lt n (dep v j)) (at j l))

    differs : at_some_site v (λ j. not (dep v j == counted j own)) ≡ differs_by (counts sites own) v
    differs = same_sites v _ _ (λ j l. ap (λ n. not (dep v j == n)) (at j l))

    clocked : out_of_order site own v
        ≡ (not_next_by (counts sites own) v ||
        (early_by (counts sites own) v || (((v.stamp.id.site == site) && differs_by (counts sites own) v) || list_any (forgets v) own)))
    clocked = λ i. next i || (early i || (((v.stamp.id.site == site) && differs i) || list_any (forgets v) own))

    le : not_next_by (counts sites own) v ≡ false → early_by (counts sites own) v ≡ false → (j : ℕ) → dep v j ≤ counted j own
    le n e = within own v f (next ∙ n) (early ∙ e)

-- ---- RedGap
pub taken_is : (others own : List Message) (v : Message) → IsFaultless others own → v.stamp.red ≡ reds own + 1 → list_any (takes_number v) others
    ≡ taken_by_red (others ++ own) v
taken_is others own v k next = same_bool (list_any (takes_number v) others) (taken_by_red (others ++ own) v) there
    (back (by_red v.stamp.red (others ++ own)) refl)
  where
    there : list_any (takes_number v) others ≡ true → taken_by_red (others ++ own) v ≡ true
    there e =
        let w = any_has (takes_number v) others e in
        let t = and_parts (w.0.stamp.red == v.stamp.red) (not (same_id w.0.stamp.id v.stamp.id)) w.2 in
        let r = (Decides-eqb w.0.stamp.red v.stamp.red).0 t.0 in
        ap (λ n. option_map_or (λ u. not (same_id u.stamp.id v.stamp.id)) (by_red n (others ++ own)) false) (sym r)
        ∙ ap (λ o. option_map_or (λ u. not (same_id u.stamp.id v.stamp.id)) o false) (k.one_red w.0 (has_left w.0 others own w.1) (omega (arith, r, next)))
        ∙ t.1

    back : (o : Option Message) → by_red v.stamp.red (others ++ own) ≡ o → option_map_or (λ u. not (same_id u.stamp.id v.stamp.id)) o false ≡ true →
        list_any (takes_number v) others ≡ true
    back None q e = absurd (true≢false (sym e))
    back (Some u) q e =
        let f = found_number v.stamp.red (others ++ own) u q in
        ⊎_elim (λ l. has_any (takes_number v) others u l
        (and_from (u.stamp.red == v.stamp.red) (not (same_id u.stamp.id v.stamp.id)) ((Decides-eqb _ _).1 (sym f.1)) e))
        (λ r. let m = red_within (reverse own) u k.released (has_back u own r) in let n = reds_reverse own in absurd (omega (arith, m, n, f.1, next)))
        (has_append u others own f.0)

pub gap_is : (others own : List Message) (v : Message) → IsFaultless others own → red_gap others own v ≡ gap_by (reds own) (last_red own) (others ++ own) v
gap_is others own v k =
    ap (λ b. is_red v.shadow && b) (or_rest (not (v.stamp.red == reds own + 1)) _ _ (λ e.
    ap (λ b. b || option_map_or (λ u. not (comes_before u v)) (last_red own) false)
    (taken_is others own v k ((Decides-eqb v.stamp.red (reds own + 1)).0 (not_false _ e)))))

-- ---- what the tables of the messages before an entry say of its content

-- ---- who makes a row, and precedes

absorbed : (a b : Bool) → (a || (b && a)) ≡ a
absorbed true b = refl
absorbed false true = refl
absorbed false false = refl

known_head : {X : Type 0} (i j : Id) (v : Message) (o rest : Option X) (more : Bool) (b : Bool) → same_id i j ≡ b
    → more ≡ (is_some rest && nat_le i.seq (dep v i.site))
    → (((b && is_some o) && nat_le j.seq (dep v j.site)) || more) ≡ (is_some (option_or (when b o) rest) && nat_le i.seq (dep v i.site))
known_head i j v o rest more false e h = h
known_head i j v None rest more true e h = h
known_head i j v (Some x) rest more true e h =
    ap (λ (k : Id). nat_le k.seq (dep v k.site) || more) (sym ((Decides-same_id i j).0 e)) ∙ ap (λ b. nat_le i.seq (dep v i.site) || b) h
    ∙ absorbed (nat_le i.seq (dep v i.site)) (is_some rest)

pub known_by : {X : Type 0} (f : Core → Option X) (i : Id) (own : List Message) (v : Message)
    → list_any (λ u. (same_id i u.stamp.id && is_some (f (core u))) && comes_before u v) own ≡ (is_some (at_id f i (cores own)) && nat_le i.seq (dep v i.site))
known_by f i [] v = refl
known_by f i (u ∷ own) v =
    known_head i u.stamp.id v (f (core u)) (at_id f i (cores own)) _ (same_id i u.stamp.id) refl (known_by f i own v)

some_map : {X Y : Type 0} (f : X → Y) (o : Option X) → is_some (option_map f o) ≡ is_some o
some_map f None = refl
some_map f (Some x) = refl

nothing : (own : List Message) → false ≡ list_any (λ u. false) own
nothing [] = refl
nothing (u ∷ own) = nothing own

known_is : (t : Tables) (own : List Message) (v : Message) (k : RowKey) → Shows t (cores own) → known_in (row_by_key t) v k ≡ is_known own v k
unfolding meaning_row
known_is t own v (key.User i) s =
    ap (λ o. is_some o && nat_le i.seq (dep v i.site)) (s.rows (key.User i))
    ∙ ap (λ b. b && nat_le i.seq (dep v i.site)) (some_map _ (nick_at i (cores own)) ∙ some_map _ (user_at i (cores own)))
    ∙ sym (known_by (λ m. as_user m.shadow) i own v)
known_is t own v (key.Item i) s =
    ap (λ o. is_some o && nat_le i.seq (dep v i.site)) (s.rows (key.Item i))
    ∙ ap (λ b. b && nat_le i.seq (dep v i.site)) (some_map _ (item_at i (cores own))) ∙ sym (known_by (λ m. as_item m.shadow) i own v)
known_is t own v (key.Bid i) s =
    ap (λ o. is_some o && nat_le i.seq (dep v i.site)) (s.rows (key.Bid i))
    ∙ ap (λ b. b && nat_le i.seq (dep v i.site)) (some_map _ (at_id (λ m. as_bid m.red m.shadow) i (cores own)))
    ∙ sym (known_by (λ m. as_bid m.red m.shadow) i own v)
known_is t own v (key.Purchase i) s = nothing own
known_is t own v (key.Comment i) s = nothing own
known_is t own v (key.Nick n) s = nothing own
known_is t own v (key.Cat c) s = nothing own

any_same : (p q : RowKey → Bool) → ((k : RowKey) → p k ≡ q k) → (ks : List RowKey) → list_any p ks ≡ list_any q ks
any_same p q e [] = refl
any_same p q e (k ∷ ks) = λ i. e k i || any_same p q e ks i

-- the row of an item
item_is : (t : Tables) (before : List Core) (i : Id) → Shows t before → item_in (row_by_key t) i
    ≡ option_and_then as_item_row (option_map (item_row before i) (item_at i before))
unfolding meaning_row
item_is t before i s = ap (option_and_then as_item_row) (s.rows (key.Item i))

category_is : (t : Tables) (before : List Core) (x : Shadow) → Shows t before → wrong_category_in (row_by_key t) x ≡ wrong_category before x
category_is t before (Close c) s = ap (λ o. option_map_or (λ (i : ItemRow). not (i.cat == c.cat)) o false) (item_is t before c.item s)
    ∙ at (item_at c.item before)
  where
    at : (o : Option NewItem) →
        option_map_or (λ (i : ItemRow). not (i.cat == c.cat)) (option_and_then as_item_row (option_map (item_row before c.item) o)) false
        ≡ option_map_or (λ (n : NewItem). not (n.cat == c.cat)) o false
    at None = refl
    at (Some n) = refl
category_is t before (User n) s = refl
category_is t before (Item n) s = refl
category_is t before (Bid n) s = refl
category_is t before (Buy n) s = refl
category_is t before (Comment n) s = refl
category_is t before (Restock r) s = refl
category_is t before (Rename r) s = refl

pub reference_is : (t : Tables) (own : List Message) (v : Message) → Shows t (cores own) → wrong_reference_in (row_by_key t) v ≡ wrong_reference own v
reference_is t own v s =
    λ i. any_same (λ k. not (known_in (row_by_key t) v k)) (λ k. not (is_known own v k)) (λ k j. not (known_is t own v k s j)) (refers_of v.shadow) i
    || category_is t (cores own) v.shadow s i

pub nick_is : (t : Tables) (before : List Core) (x : Shadow) → Shows t before → nick_taken_in (row_by_key t) x ≡ nick_taken before x
unfolding meaning_row
nick_is t before (User n) s = ap is_some (s.rows (key.Nick n)) ∙ some_map _ (named n before)
nick_is t before (Item n) s = refl
nick_is t before (Bid n) s = refl
nick_is t before (Buy n) s = refl
nick_is t before (Close n) s = refl
nick_is t before (Comment n) s = refl
nick_is t before (Restock r) s = refl
nick_is t before (Rename r) s = λ j.
    (ap is_some (s.rows (key.Nick r.to)) ∙ some_map _ (named r.to before)) j
    || not ((ap (λ o. option_map_or (λ (u : UserRow). bytes_eq r.from u.nick) o false) (ap (option_and_then as_user_row) (s.rows (key.User r.user)))
    ∙ at (nick_at r.user before)) j)
  where
    at : (o : Option (List ℕ)) →
        option_map_or (λ (u : UserRow). bytes_eq r.from u.nick) (option_and_then as_user_row (option_map (user_row before r.user) o)) false
        ≡ is_same_nick r.from o
    at None = refl
    at (Some n) = refl

short_is : (n t q : ℕ) → t ≤ n → nat_lt (n - t) q ≡ nat_lt n (t + q)
short_is n t q h = grind (arith, nat_tests)

pub stock_is : (t : Tables) (before : List Core) (x : Shadow) → Shows t before → stock_short_in (row_by_key t) x ≡ stock_short before x
stock_is t before (Buy p) s = ap (λ o. option_map_or (λ (i : ItemRow). nat_lt i.stock p.quantity) o false) (item_is t before p.item s)
    ∙ at (item_at p.item before) (s.holds.stock p.item)
  where
    at : (o : Option NewItem) → IfSome o (λ n. total (sold_of p.item) before ≤ supply before p.item n)
        → option_map_or (λ (i : ItemRow). nat_lt i.stock p.quantity) (option_and_then as_item_row (option_map (item_row before p.item) o)) false
        ≡ option_map_or (λ n. nat_lt (supply before p.item n) (total (sold_of p.item) before + p.quantity)) o false
    at None h = refl
    at (Some n) h = short_is (supply before p.item n) (total (sold_of p.item) before) p.quantity h
stock_is t before (User n) s = refl
stock_is t before (Item n) s = refl
stock_is t before (Bid n) s = refl
stock_is t before (Close n) s = refl
stock_is t before (Comment n) s = refl
stock_is t before (Restock r) s = refl
stock_is t before (Rename r) s = refl

-- ---- the winner, where the item is there
over_is : (before : List Core) (i : Id) (n : NewItem) → is_ended (sale_after (close_of i before)) ≡ is_some (close_of i before)
over_is before i n = at (close_of i before)
  where
    at : (o : Option Core) → is_ended (sale_after o) ≡ is_some o
    at None = refl
    at (Some m) = refl

best_is : (o : Option Core) → option_map (λ (b : Best). b.bid) (option_map best_of o) ≡ option_map (λ (m : Core). m.id) o
best_is None = refl
best_is (Some m) = refl

closed_is : (t : Tables) (before : List Core) (i : Id) → Shows t before → IsSome (item_at i before) → closed_in (row_by_key t) i ≡ is_some (close_of i before)
closed_is t before i s h = ap (λ o. option_map_or (λ (r : ItemRow). is_ended r.sale) o false) (item_is t before i s) ∙ at (item_at i before) h
  where
    at : (o : Option NewItem) → IsSome o →
        option_map_or (λ (r : ItemRow). is_ended r.sale) (option_and_then as_item_row (option_map (item_row before i) o)) false ≡ is_some (close_of i before)
    at None h = absurd (true≢false (sym h))
    at (Some n) h = over_is before i n

outbid_is : (t : Tables) (before : List Core) (i : Id) (w : Option Id) → Shows t before → IsSome (item_at i before)
    → outbid_in (row_by_key t) i w ≡ not (option_eq same_id w (option_map (λ (m : Core). m.id) (best_bid i before)))
outbid_is t before i w s h =
    ap (λ o. option_map_or (λ (r : ItemRow). not (option_eq same_id w (option_map (λ (b : Best). b.bid) r.best))) o false) (item_is t before i s)
    ∙ at (item_at i before) h
  where
    at : (o : Option NewItem) → IsSome o →
        option_map_or (λ (r : ItemRow). not (option_eq same_id w (option_map (λ (b : Best). b.bid) r.best)))
        (option_and_then as_item_row (option_map (item_row before i) o)) false
        ≡ not (option_eq same_id w (option_map (λ (m : Core). m.id) (best_bid i before)))
    at None h = absurd (true≢false (sym h))
    at (Some n) h = ap (λ o. not (option_eq same_id w o)) (best_is (best_bid i before))

item_named : (own : List Message) (v : Message) (i : Id) (rest more : Bool) → ((not (is_known own v (key.Item i)) || rest) || more) ≡ false →
    IsSome (item_at i (cores own))
item_named own v i rest more e =
    (and_parts (is_some (item_at i (cores own))) _ (sym (known_by (λ m. as_item m.shadow) i own v) ∙ first (is_known own v (key.Item i)) rest more e)).0
  where
    first : (a b c : Bool) → ((not a || b) || c) ≡ false → a ≡ true
    first true b c e = refl
    first false b c e = sym e

winner_by : (t : Tables) (own : List Message) (v : Message) (x : Shadow) → Shows t (cores own) →
    (list_any (λ k. not (is_known own v k)) (refers_of x) || wrong_category (cores own) x) ≡ false
    → wrong_winner_in (row_by_key t) x ≡ wrong_winner (cores own) x
winner_by t own v (User n) s e = refl
winner_by t own v (Item n) s e = refl
winner_by t own v (Bid b) s e = closed_is t (cores own) b.item s (item_named own v b.item _ _ e)
winner_by t own v (Buy p) s e = closed_is t (cores own) p.item s (item_named own v p.item _ _ e)
winner_by t own v (Close c) s e =
    let there = item_named own v c.item _ _ e in
    λ i. closed_is t (cores own) c.item s there i || outbid_is t (cores own) c.item c.winner s there i
winner_by t own v (Comment c) s e = refl
winner_by t own v (Restock r) s e = refl
winner_by t own v (Rename r) s e = refl

pub winner_is : (t : Tables) (own : List Message) (v : Message) → Shows t (cores own) → wrong_reference own v ≡ false
    → wrong_winner_in (row_by_key t) v.shadow ≡ wrong_winner (cores own) v.shadow
winner_is t own v s e = winner_by t own v v.shadow s e

-- ---- a message that was seen already adds nothing to what look-ups find, and none has number 0

or_none : (o : Option Message) → option_or o None ≡ o
or_none None = refl
or_none (Some m) = refl

-- who is found is found as before
or_found : (o : Option Message) (u m : Message) → o ≡ Some u → option_or o (Some m) ≡ o
or_found o u m e = ap (λ p. option_or p (Some m)) e ∙ sym e

again_id : (i : Id) (all : List Message) (m : Message) → by_message_id m.stamp.id all ≡ Some m → by_message_id i (all ++ m ∷ []) ≡ by_message_id i all
again_id i all m e = by_id_push i all m ∙ at (same_id i m.stamp.id) refl
  where
    at : (b : Bool) → same_id i m.stamp.id ≡ b → option_or (by_message_id i all) (cond b (Some m) None) ≡ by_message_id i all
    at true t = or_found (by_message_id i all) m m (ap (λ (j : Id). by_message_id j all) ((Decides-same_id i m.stamp.id).0 t) ∙ e)
    at false t = or_none (by_message_id i all)

some_red : (r : ℕ) (all : List Message) (m : Message) → Has m all → (r == m.stamp.red) ≡ true → (u : Message) × (by_red r all ≡ Some u)
some_red r [] m h t = absurd h
some_red r (x ∷ xs) m (inl q) t = (x, ap (λ b. cond b (Some x) (by_red r xs)) (ap (λ (y : Message). r == y.stamp.red) (sym q) ∙ t))
some_red r (x ∷ xs) m (inr h) t =
    elim (r == x.stamp.red) as (λ b. (u : Message) × (cond b (Some x) (by_red r xs) ≡ Some u)) [ true ↦ (x, refl) | false ↦ some_red r xs m h t ]

again_red : (r : ℕ) (all : List Message) (m : Message) → Has m all → by_red r (all ++ m ∷ []) ≡ by_red r all
again_red r all m h = by_red_push r all m ∙ at (r == m.stamp.red) refl
  where
    at : (b : Bool) → (r == m.stamp.red) ≡ b → option_or (by_red r all) (cond b (Some m) None) ≡ by_red r all
    at true t = let f = some_red r all m h t in or_found (by_red r all) f.0 m f.1
    at false t = or_none (by_red r all)

pub more_formed : (all : List Message) (m : Message) → ((u : Message) → Has u all → IsMessage u) → IsMessage m → (u : Message) → Has u (all ++ m ∷ []) →
    IsMessage u
more_formed all m formed f u h = ⊎_elim (λ l. formed u l) (λ e. subst IsMessage (sym e) f) (push_cases u m all h)

seen_again : (s : Seen) (all : List Message) (m u : Message) → id_in s m.stamp.id ≡ Some u → Sees s all → clash_by_id all m ≡ false → Sees s (all ++ m ∷ [])
seen_again s all m u k h clear =
    let e : by_message_id m.stamp.id all ≡ Some u = sym (h.ids m.stamp.id) ∙ k in
    let same : u ≡ m = (Decides-same_message u m).0 (not_false _ (sym (ap (λ o. option_map_or (λ w. not (same_message w m)) o false) e) ∙ clear)) in
    let f : by_message_id m.stamp.id all ≡ Some m = e ∙ ap Some same in
    let there = (found_id m.stamp.id all m f).0 in
    record {
      formed = more_formed all m h.formed (h.formed m there);
      ids = λ i. h.ids i ∙ sym (again_id i all m f);
      reds = λ r. h.reds r ∙ sym (again_red r all m there);
    }

pub seen_known : (s : Seen) (known : Option (Bor Message)) (all : List Message) (m : Message) → is_some known ≡ true → option_copied known ≡ id_in s m.stamp.id
    → Sees s all → clash_by_id all m ≡ false → Sees s (all ++ m ∷ [])
seen_known s None all m t k h clear = absurd (true≢false (sym t))
seen_known s (Some u) all m t k h clear = seen_again s all m u.now (sym k) h clear

pub none_known : (known there : Option (Bor Message)) → is_some known ≡ false → option_copied known ≡ option_copied there → there ≡ None
none_known None None t k = refl
none_known None (Some u) t k = absurd (let q : None ≡ Some u.now = k in cc)
none_known (Some u) there t k = absurd (true≢false t)

-- no message has number 0
pub none_at_nought : (s : Seen) (all : List Message) (v : Message) (last : Id) → Sees s all → last.seq ≡ 0 →
    option_map_or (exceeds v) (by_message_id last all) false ≡ false
none_at_nought s all v last h z = at (by_message_id last all) refl
  where
    at : (o : Option Message) → by_message_id last all ≡ o → option_map_or (exceeds v) o false ≡ false
    at None e = refl
    at (Some u) e =
        let f = found_id last all u e in
        let p = (h.formed u f.0).id.positive in
        let q = ap (λ (i : Id). i.seq) f.1 in
        absurd (omega (arith, p, q, z))

-- ---- an entry without fault goes on with what is known

-- ---- the checks one after the other
cond_rest : {X : Type 0} (b : Bool) (x : X) (r s : X) → (b ≡ false → r ≡ s) → cond b x r ≡ cond b x s
cond_rest true x r s e = refl
cond_rest false x r s e = e refl

abbrev content : Bool → Bool → Bool → Bool → Option Kind
content a b c d = cond a (Some kind.Refers) (cond b (Some kind.Nick) (cond c (Some kind.Stock) (cond d (Some kind.Winner) None)))

pub checks_are : (sites site : ℕ) (t : Tables) (others own : List Message) (v : Message) → IsFaultless others own → Shows t (cores own) → IsAmong sites v
    → IsMessage v → first_of (checks others site own v) ≡ first_of (checks_by site (clock_of sites own) (last_red own) t (others ++ own) v)
checks_are sites site t others own v k s a f =
    (λ i. cond (clash_is others own v k i) (Some kind.Clash)
    (cond (order_is sites site others own v k a f i) (Some kind.Order) (cond (gap_is others own v k i) (Some kind.RedGap) (rest i))))
  where
    rest : content (wrong_reference own v) (nick_taken (cores own) v.shadow) (stock_short (cores own) v.shadow) (wrong_winner (cores own) v.shadow)
        ≡ content (wrong_reference_in (row_by_key t) v) (nick_taken_in (row_by_key t) v.shadow) (stock_short_in (row_by_key t) v.shadow)
        (wrong_winner_in (row_by_key t) v.shadow)
    rest =
        cond_rest (wrong_reference own v) (Some kind.Refers) _ _ (λ e i.
        cond (sym (nick_is t (cores own) v.shadow s) i) (Some kind.Nick)
        (cond (sym (stock_is t (cores own) v.shadow s) i) (Some kind.Stock) (cond (sym (winner_is t own v s e) i) (Some kind.Winner) None)))
        ∙ ap (λ b. content b (nick_taken_in (row_by_key t) v.shadow) (stock_short_in (row_by_key t) v.shadow) (wrong_winner_in (row_by_key t) v.shadow))
        (sym (reference_is t own v s))

-- ---- where none finds a fault
next_red : (own : List Message) (b rest : Bool) (n : ℕ) → b ≡ true → (b && (not (n == reds own + 1) || rest)) ≡ false → n ≡ reds own + 1
next_red own true rest n e h = (Decides-eqb n (reds own + 1)).0 (not_false _ (or_parts _ _ h).0)
next_red own false rest n e h = absurd (true≢false (sym e))

pub ready : (others : List Message) (site : ℕ) (own : List Message) (v : Message) → IsMessage v → AreClean others site own v → Ready (reverse own) v
ready others site own v f l = record {
  next = (Decides-eqb v.stamp.id.seq (counted v.stamp.id.site own + 1)).0 (not_false _ first) ∙ ap (λ n. n + 1) (sym (counted_reverse v.stamp.id.site own));
  released = λ j n. let w = within own v f first second j in let c = counted_reverse j own in omega (arith, w, c);
  number = λ p. next_red own (is_red v.shadow) _ v.stamp.red (f.colour ∙ positive v.stamp.red p) l.red_gap ∙ ap (λ n. n + 1) (sym (reds_reverse own));
}
  where
    first : is_not_next own v ≡ false
    first = (or_parts _ _ l.order).0

    second : is_early own v ≡ false
    second = (or_parts _ _ (or_parts (is_not_next own v) _ l.order).1).0

    positive : (n : ℕ) → 0 < n → nat_lt 0 n ≡ true
    positive n p = grind (arith, nat_tests)

pub follows : (others : List Message) (site : ℕ) (own : List Message) (v : Message) → IsFaultless others own → IsMessage v → AreClean others site own v
    → Follows (cores own) (core v)
follows others site own v k f l = record {
  new_id = subst (λ xs. new xs) (reverse-reverse own) (new_here k.released r);
  next_red = number_is v.stamp.red (count is_red (cores own)) (is_red v.shadow) f.colour (λ p. r.number p ∙ ap (λ n. n + 1) same);
  fits = (fits own v v.shadow l.content).0;
  limits = (sites_of v, f.shadow);
}
  where
    r : Ready (reverse own) v
    r = ready others site own v f l

    new : List Message → Type 0
    new xs = has_id v.stamp.id (cores xs) ≡ None

    same : reds (reverse own) ≡ count is_red (cores own)
    same = sym (count_reds (reverse own) (λ m h. (k.formed m (has_right m others own (has_reverse m own h))).colour))
        ∙ ap (λ xs. count is_red (cores xs)) (reverse-reverse own)

-- ---- one message more
option_or_at : {X : Type 0} (o p : Option X) (x : X) → o ≡ Some x → option_or o p ≡ Some x
option_or_at o p x e = ap (λ q. option_or q p) e

itself : (v : Message) → same_id v.stamp.id v.stamp.id ≡ true
itself v = (Decides-same_id v.stamp.id v.stamp.id).1 refl

-- v is the first with its id
new_id : (all : List Message) (v : Message) → clash_by_id all v ≡ false → by_message_id v.stamp.id (all ++ v ∷ []) ≡ Some v
new_id all v e = by_id_push v.stamp.id all v ∙ at (by_message_id v.stamp.id all) e
  where
    at : (o : Option Message) → option_map_or (λ u. not (same_message u v)) o false ≡ false → option_or o (cond (same_id v.stamp.id v.stamp.id) (Some v) None)
        ≡ Some v
    at None e = ap (λ b. cond b (Some v) None) (itself v)
    at (Some u) e = ap Some ((Decides-same_message u v).0 (not_false _ e))

-- v is the first with its red number
new_red : (all : List Message) (v : Message) → ((m : Message) → Has m all → by_message_id m.stamp.id all ≡ Some m) → clash_by_id all v ≡ false
    → taken_by_red all v ≡ false → by_red v.stamp.red (all ++ v ∷ []) ≡ Some v
new_red all v one c e = by_red_push v.stamp.red all v ∙ at (by_red v.stamp.red all) refl e
  where
    at : (o : Option Message) → by_red v.stamp.red all ≡ o → option_map_or (λ u. not (same_id u.stamp.id v.stamp.id)) o false ≡ false
        → option_or o (cond (v.stamp.red == v.stamp.red) (Some v) None) ≡ Some v
    at None p e = ap (λ b. cond b (Some v) None) ((Decides-eqb v.stamp.red v.stamp.red).1 refl)
    at (Some u) p e =
        let i : u.stamp.id ≡ v.stamp.id = (Decides-same_id u.stamp.id v.stamp.id).0 (not_false _ e) in
        let f = found_number v.stamp.red all u p in
        let h : by_message_id v.stamp.id all ≡ Some u = ap (λ (j : Id). by_message_id j all) (sym i) ∙ one u f.0 in
        ap Some ((Decides-same_message u v).0 (not_false _ (sym (ap (λ o. option_map_or (λ w. not (same_message w v)) o false) h) ∙ c)))

pub known_push : (others : List Message) (site : ℕ) (own : List Message) (v : Message) → IsFaultless others own → IsMessage v → AreClean others site own v
    → IsFaultless others (own ++ v ∷ [])
known_push others site own v k f l = record {
  formed = λ m h. ⊎_elim (λ a. k.formed m a) (λ e. subst IsMessage (sym e) f) (split m h);
  one_id = λ m h. subst (λ xs. by_message_id m.stamp.id xs ≡ Some m) (append_assoc others own (v ∷ [])) (⊎_elim
      (λ a. by_id_push m.stamp.id (others ++ own) v ∙ option_or_at _ _ m (k.one_id m a))
      (λ e. subst (λ (x : Message). by_message_id x.stamp.id ((others ++ own) ++ v ∷ []) ≡ Some x) (sym e) (new_id (others ++ own) v clear)) (split m h));
  one_red = λ m h p. subst (λ xs. by_red m.stamp.red xs ≡ Some m) (append_assoc others own (v ∷ [])) (⊎_elim
      (λ a. by_red_push m.stamp.red (others ++ own) v ∙ option_or_at _ _ m (k.one_red m a p))
      (λ e. subst (λ (x : Message). by_red x.stamp.red ((others ++ own) ++ v ∷ []) ≡ Some x) (sym e)
      (new_red (others ++ own) v k.one_id clear (free (subst (λ (x : Message). 0 < x.stamp.red) e p)))) (split m h));
  released = subst Released (sym (reverse_push own v)) (ready others site own v f l, k.released);
  checked = subst Checked (sym (cores_push own v)) (checked_end [] (cores own) k.checked (follows others site own v k f l));
}
  where
    split : (m : Message) → Has m (others ++ (own ++ v ∷ [])) → Has m (others ++ own) ⊎ (m ≡ v)
    split m h = push_cases m v (others ++ own) (subst (Has m) (sym (append_assoc others own (v ∷ []))) h)

    clear : clash_by_id (others ++ own) v ≡ false
    clear = sym (clash_is others own v k) ∙ l.clash

    free : 0 < v.stamp.red → taken_by_red (others ++ own) v ≡ false
    free p = parts (is_red v.shadow) (not (v.stamp.red == reds own + 1)) (taken_by_red (others ++ own) v)
        (option_map_or (λ u. not (comes_before u v)) (last_red own) false) (f.colour ∙ positive v.stamp.red p) (sym (gap_is others own v k) ∙ l.red_gap)
      where
        positive : (n : ℕ) → 0 < n → nat_lt 0 n ≡ true
        positive n p = grind (arith, nat_tests)

        parts : (b x y z : Bool) → b ≡ true → (b && (x || (y || z))) ≡ false → y ≡ false
        parts true x y z e h = (or_parts _ _ (or_parts _ _ h).1).0
        parts false x y z e h = absurd (true≢false (sym e))

-- a whole log is among the earlier ones
pub known_log : (others own : List Message) → IsFaultless others own → IsFaultless (others ++ own) []
known_log others own k = record {
  formed = λ m h. k.formed m (subst (Has m) (append-nil (others ++ own)) h);
  one_id = λ m h. subst (λ xs. by_message_id m.stamp.id xs ≡ Some m) (sym (append-nil (others ++ own)))
      (k.one_id m (subst (Has m) (append-nil (others ++ own)) h));
  one_red = λ m h p. subst (λ xs. by_red m.stamp.red xs ≡ Some m) (sym (append-nil (others ++ own)))
      (k.one_red m (subst (Has m) (append-nil (others ++ own)) h) p);
  released = tt;
  checked = tt;
}
