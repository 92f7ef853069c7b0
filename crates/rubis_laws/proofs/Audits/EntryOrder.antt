-- The tests of an entry's stamp, and what they mean: of ids, of the order in its log, and of red numbers.
use Rattle.rubis_laws.proofs.Common.{ℕ, ◌≡◌, ◌+◌, ◌≤◌, ◌<◌, List, [], ◌∷◌, ◌++◌, true, false, ◌&&◌, cond, refl, sym, ap, ◌∙◌, subst, Option, Some, None, inl}
use Rattle.rubis_laws.proofs.Common.{inr, ⊎_elim, arith, ◌||◌, ◌==◌, find, not, nat_lt, reverse, list_any, range_with_len, option_map_or, true≢false, and_parts}
use Rattle.rubis_laws.proofs.Common.{cases_lt, eq-eqb, eqb-true, false_from_ne_true, le-leb, le-ltb, leb-true, ltb-false, ltb-true, not-false, not_from_true}
use Rattle.rubis_laws.proofs.Common.{or_from, or_parts, get_or_past, Decides-same_id, same_id, Id, is_red, same_message, Decides-same_message, Message, dep}
use Rattle.rubis_laws.proofs.Common.{sites_of, IsOrdered, Precedes, Released, Has, counted, reds, comes_before, clashes, is_not_next, is_early, miscounts}
use Rattle.rubis_laws.proofs.Common.{forgets, out_of_order, last_red, takes_number, red_gap, has_back, has_reverse, counted_no, red_within, counted_reverse}
use Rattle.rubis_laws.proofs.Common.{reds_reverse}
use Rattle.std.proofs.lemmas.Bool.{and_cases, cases_Bool, lt-ltb, not-true}
use Rattle.rubis_model.specs.Verdict.{clash}
use Rattle.rubis_model.proofs.Settling.{reds_no, reds_yes}
use Rattle.rubis_laws.proofs.Audits.Tests.{below_none, has_none, none_below, none_has}

-- ---- ids
abbrev pub Same : Message → Message → Type 0
Same u v = u.stamp.id.site ≡ v.stamp.id.site → u.stamp.id.seq ≡ v.stamp.id.seq → u ≡ v

pub one_content : (others own : List Message) (v : Message) → clash others own v ≡ false → (u : Message) → Has u (others ++ own) → Same u v
one_content others own v e u h s q = ⊎_elim
    (λ f. absurd (true≢false (sym ((Decides-same_id u.stamp.id v.stamp.id).1 (λ i. record { site = s i; seq = q i })) ∙ f)))
    (λ f. (Decides-same_message u v).0 (not-false (same_message u v) f)) (and_cases _ _ (has_none _ _ e u h))

pub no_clash : (others own : List Message) (v : Message) → ((u : Message) → Has u (others ++ own) → Same u v) → clash others own v ≡ false
no_clash others own v h = none_has (others ++ own) (λ u k. false_from_ne_true (clashes v u) (λ e.
    let t = and_parts (same_id u.stamp.id v.stamp.id) (not (same_message u v)) e in
    let i = (Decides-same_id u.stamp.id v.stamp.id).0 t.0 in
    let m = (Decides-same_message u v).1 (h u k (ap (λ (x : Id). x.site) i) (ap (λ (x : Id). x.seq) i)) in
    true≢false (sym m ∙ not-true (same_message u v) t.1)))

-- ---- the order in a log
same_number : {a b : ℕ} → not (a == b) ≡ false → a ≡ b
same_number {a} {b} e = eqb-true a b (not-false (a == b) e)

pub number_same : {a b : ℕ} → a ≡ b → not (a == b) ≡ false
number_same {a} {b} e = not_from_true (a == b) (eq-eqb a b e)

pub counted_past : (own : List Message) (n j : ℕ) → n ≤ j → ((u : Message) → Has u own → u.stamp.id.site < n) → counted j own ≡ 0
counted_past [] n j l h = refl
counted_past (m ∷ own) n j l h =
    counted_no j m own (λ e. let k = h m (inl refl) in absurd (omega (arith, e, k, l))) ∙ counted_past own n j l (λ u k. h u (inr k))

pub nothing_past : (u : Message) (j : ℕ) → sites_of u ≤ j → dep u j ≡ 0
nothing_past u j l = get_or_past u.stamp.deps j 0 l

-- of messages that count the same sites
module _ (site : ℕ) (own : List Message) (v : Message) (e : out_of_order site own v ≡ false)
    (sites : (u : Message) → Has u own → (sites_of u ≡ sites_of v) × (u.stamp.id.site < sites_of v)) where
  after_next : (is_not_next own v ≡ false) × ((is_early own v || (miscounts site own v || list_any (forgets v) own)) ≡ false)
  after_next = or_parts (is_not_next own v) (is_early own v || (miscounts site own v || list_any (forgets v) own)) e

  after_early : (is_early own v ≡ false) × ((miscounts site own v || list_any (forgets v) own) ≡ false)
  after_early = or_parts (is_early own v) (miscounts site own v || list_any (forgets v) own) after_next.1

  after_miscounts : (miscounts site own v ≡ false) × (list_any (forgets v) own ≡ false)
  after_miscounts = or_parts (miscounts site own v) (list_any (forgets v) own) after_early.1

  pub next : v.stamp.id.seq ≡ counted v.stamp.id.site own + 1
  next = same_number after_next.0

  within : (j : ℕ) → (j ≡ v.stamp.id.site → ⊥) → j < sites_of v → dep v j ≤ counted j own
  within j n l = ⊎_elim (λ f. absurd (n (same_number f))) (λ f. ltb-false (counted j own) (dep v j) f) (and_cases (not (j == v.stamp.id.site))
      (nat_lt (counted j own) (dep v j)) (below_none (λ j. not (j == v.stamp.id.site) && nat_lt (counted j own) (dep v j)) after_early.0 l))

  pub released : (j : ℕ) → (j ≡ v.stamp.id.site → ⊥) → dep v j ≤ counted j own
  released j n = ⊎_elim (λ l. within j n l) (λ l. let z = nothing_past v j l in omega (arith, z)) (cases_lt j (sites_of v))

  pub made : v.stamp.id.site ≡ site → (j : ℕ) → dep v j ≡ counted j own
  made o j = ⊎_elim (λ f. absurd (true≢false (sym (eq-eqb v.stamp.id.site site o) ∙ f)))
      (λ f. ⊎_elim (λ l. same_number (below_none (λ j. not (dep v j == counted j own)) f l))
      (λ l. nothing_past v j l ∙ sym (counted_past own _ j l (λ u h. (sites u h).1))) (cases_lt j (sites_of v))) (and_cases _ _ after_miscounts.0)

  pub carries : (u : Message) → Has u own → u.stamp.id.seq ≡ dep v u.stamp.id.site → (j : ℕ) → dep u j ≤ dep v j
  carries u h q j = ⊎_elim (λ f. absurd (true≢false (sym (eq-eqb u.stamp.id.seq (dep v u.stamp.id.site) q) ∙ f)))
      (λ f. ⊎_elim (λ l. ltb-false (dep v j) (dep u j) (below_none (λ j. nat_lt (dep v j) (dep u j)) {n = sites_of v} f {j = j} l))
      (λ l. let s = (sites u h).0 in let z = nothing_past u j (omega (arith, s, l)) in omega (arith, z)) (cases_lt j (sites_of v)))
      (and_cases _ _ (has_none _ own after_miscounts.1 u h))

-- what is in order passes
pub orderly : {site : ℕ} (own : List Message) {v : Message} → IsOrdered site (reverse own) v → out_of_order site own v ≡ false
orderly {site} own {v} o = or_from (is_not_next own v) _ (number_same (o.ready.next ∙ ap (λ n. n + 1) (counted_reverse v.stamp.id.site own)))
    (or_from (is_early own v) _ (none_below (λ j. not (j == v.stamp.id.site) && nat_lt (counted j own) (dep v j)) (sites_of v) early) (or_from
    (miscounts site own v) _ (false_from_ne_true (miscounts site own v) miscounted) (none_has own (λ u h. false_from_ne_true (forgets v u) (forgot u h)))))
  where
    early : (j : ℕ) → (not (j == v.stamp.id.site) && nat_lt (counted j own) (dep v j)) ≡ false
    early j = false_from_ne_true _ (λ e.
        let t = and_parts (not (j == v.stamp.id.site)) (nat_lt (counted j own) (dep v j)) e in
        let l = ltb-true (counted j own) (dep v j) t.1 in
        let m = o.ready.released j (λ q. true≢false (sym (eq-eqb j v.stamp.id.site q) ∙ not-true (j == v.stamp.id.site) t.0)) in
        let c = counted_reverse j own in
        absurd (omega (arith, l, m, c)))

    miscounted : miscounts site own v ≡ true → ⊥
    miscounted e =
        let t = and_parts (v.stamp.id.site == site) (list_any (λ j. not (dep v j == counted j own)) (range_with_len 0 (sites_of v))) e in
        let m = o.made (eqb-true v.stamp.id.site site t.0) in
        true≢false (sym t.1 ∙ none_below (λ j. not (dep v j == counted j own)) (sites_of v)
        (λ j. number_same (m j ∙ counted_reverse j own)))

    forgot : (u : Message) → Has u own → forgets v u ≡ true → ⊥
    forgot u h e =
        let t = and_parts (u.stamp.id.seq == dep v u.stamp.id.site) (list_any (λ j. nat_lt (dep v j) (dep u j)) (range_with_len 0 (sites_of v))) e in
        let c = o.carries u (has_back u own h) (eqb-true u.stamp.id.seq (dep v u.stamp.id.site) t.0) in
        true≢false (sym t.1 ∙ none_below (λ j. nat_lt (dep v j) (dep u j)) (sites_of v) (λ j. le-ltb (dep v j) (dep u j) (c j)))

-- ---- red numbers

-- a message is red if and only if it has a red number
abbrev pub Coloured : Message → Type 0
Coloured u = is_red u.shadow ≡ nat_lt 0 u.stamp.red

-- the last red one has the number of red ones
last_has : (past : List Message) → Released past → ((u : Message) → Has u past → Coloured u) → (u : Message)
    → find (λ (x : Message). is_red x.shadow) past ≡ Some u → (Has u past) × (0 < u.stamp.red) × (u.stamp.red ≡ reds past)
last_has [] r c u e = absurd cc
last_has (m ∷ past) r c u e = ⊎_elim here (λ b. on b (last_has past r.1 (λ x h. c x (inr h)) u (next b))) (cases_Bool (is_red m.shadow))
  where
    next : is_red m.shadow ≡ false → find (λ (x : Message). is_red x.shadow) past ≡ Some u
    next b = ap (λ t. cond t (Some m) (find (λ (x : Message). is_red x.shadow) past)) (sym b) ∙ e

    here : is_red m.shadow ≡ true → (Has u (m ∷ past)) × (0 < u.stamp.red) × (u.stamp.red ≡ reds (m ∷ past))
    here b =
        let q : Some m ≡ Some u = ap (λ t. cond t (Some m) (find (λ (x : Message). is_red x.shadow) past)) (sym b) ∙ e in
        let s : m ≡ u = cc in
        let p = ltb-true 0 m.stamp.red (sym (c m (inl refl)) ∙ b) in
        subst (λ x. (Has x (m ∷ past)) × (0 < x.stamp.red) × (x.stamp.red ≡ reds (m ∷ past))) s (inl refl, p, r.0.number p ∙ sym (reds_yes m past p))

    on : is_red m.shadow ≡ false → (Has u past) × (0 < u.stamp.red) × (u.stamp.red ≡ reds past)
        → (Has u (m ∷ past)) × (0 < u.stamp.red) × (u.stamp.red ≡ reds (m ∷ past))
    on b w =
        let l = ltb-false 0 m.stamp.red (sym (c m (inl refl)) ∙ b) in
        (inr w.0, w.1, w.2 ∙ sym (reds_no m past (omega (arith, l))))

-- and who has that number is the last one
last_is : (past : List Message) → Released past → ((u : Message) → Has u past → Coloured u) → (u : Message) → Has u past → 0 < u.stamp.red
    → u.stamp.red ≡ reds past → find (λ (x : Message). is_red x.shadow) past ≡ Some u
last_is [] r c u h l e = absurd h
last_is (m ∷ past) r c u (inl s) l e =
    ap (λ t. cond t (Some m) (find (λ (x : Message). is_red x.shadow) past))
    (c m (inl refl) ∙ lt-ltb 0 m.stamp.red (subst (λ (x : Message). 0 < x.stamp.red) s l)) ∙ ap Some (sym s)
last_is (m ∷ past) r c u (inr h) l e = ⊎_elim (λ k. let p = reds_yes m past k in let w = red_within past u r.1 h in absurd (omega (arith, w, p, e))) (λ k.
    ap (λ t. cond t (Some m) (find (λ (x : Message). is_red x.shadow) past)) (c m (inl refl) ∙ le-ltb 0 m.stamp.red k)
    ∙ last_is past r.1 (λ x k. c x (inr k)) u h l (e ∙ reds_no m past (omega (arith, k)))) (cases_lt 0 m.stamp.red)

module _ (others own : List Message) (v : Message) (e : red_gap others own v ≡ false) (red : Coloured v) where
  number_tests : 0 < v.stamp.red →
      (not (v.stamp.red == reds own + 1) || (list_any (takes_number v) others || option_map_or (λ u. not (comes_before u v)) (last_red own) false)) ≡ false
  number_tests l = ⊎_elim (λ f. absurd (true≢false (sym (lt-ltb 0 v.stamp.red l) ∙ sym red ∙ f))) (λ f. f) (and_cases (is_red v.shadow) _ e)

  pub number : 0 < v.stamp.red → v.stamp.red ≡ reds own + 1
  number l = same_number (or_parts (not (v.stamp.red == reds own + 1)) _ (number_tests l)).0

  others_tests : 0 < v.stamp.red → (list_any (takes_number v) others ≡ false) × (option_map_or (λ u. not (comes_before u v)) (last_red own) false ≡ false)
  others_tests l = or_parts (list_any (takes_number v) others) _ (or_parts (not (v.stamp.red == reds own + 1)) _ (number_tests l)).1

  -- who has v's number in an earlier log has its id
  pub untaken : 0 < v.stamp.red → (u : Message) → Has u others → u.stamp.red ≡ v.stamp.red → u.stamp.id ≡ v.stamp.id
  untaken l u h q = ⊎_elim (λ f. absurd (true≢false (sym (eq-eqb u.stamp.red v.stamp.red q) ∙ f)))
      (λ f. (Decides-same_id u.stamp.id v.stamp.id).0 (not-false (same_id u.stamp.id v.stamp.id) f)) (and_cases _ _ (has_none _ _ (others_tests l).0 u h))

  pub red_before : Released (reverse own) → ((u : Message) → Has u own → Coloured u) → (u : Message) → Has u own → 0 < u.stamp.red
      → v.stamp.red ≡ u.stamp.red + 1 → Precedes u v
  red_before r c u h l q =
      let p : 0 < v.stamp.red = omega (arith, q) in
      let n = number p in
      let s = last_is (reverse own) r (λ x k. c x (has_reverse x own k)) u (has_back u own h) l (let z = reds_reverse own in omega (arith, z, n, q)) in
      leb-true u.stamp.id.seq (dep v u.stamp.id.site)
      (not-false (comes_before u v) (ap (λ o. option_map_or (λ u. not (comes_before u v)) o false) (sym s) ∙ (others_tests p).1))

-- what has the next red number, and is preceded by the red one before it, passes
pub no_gap : {site : ℕ} (others own : List Message) {v : Message} → Coloured v → Released (reverse own) → ((u : Message) → Has u own → Coloured u)
    → IsOrdered site (reverse own) v → ((u : Message) → Has u others → 0 < v.stamp.red → u.stamp.red ≡ v.stamp.red → u ≡ v) → red_gap others own v ≡ false
no_gap others own {v} red r c o once = false_from_ne_true (red_gap others own v) (λ e.
    let t = and_parts (is_red v.shadow)
    (not (v.stamp.red == reds own + 1) || (list_any (takes_number v) others || option_map_or (λ u. not (comes_before u v)) (last_red own) false)) e in
    let l = ltb-true 0 v.stamp.red (sym red ∙ t.0) in
    true≢false (sym t.1 ∙ or_from (not (v.stamp.red == reds own + 1)) _ (number_same (o.ready.number l ∙ ap (λ n. n + 1) (reds_reverse own)))
    (or_from (list_any (takes_number v) others) _ (none_has {p = takes_number v} others (λ u h. false_from_ne_true (takes_number v u) (taken l u h)))
    (last l (last_red own) refl))))
  where
    taken : 0 < v.stamp.red → (u : Message) → Has u others → takes_number v u ≡ true → ⊥
    taken l u h e =
        let t = and_parts (u.stamp.red == v.stamp.red) (not (same_id u.stamp.id v.stamp.id)) e in
        let s = once u h l (eqb-true u.stamp.red v.stamp.red t.0) in
        true≢false (sym ((Decides-same_id u.stamp.id v.stamp.id).1 (ap (λ (x : Message). x.stamp.id) s)) ∙ not-true (same_id u.stamp.id v.stamp.id) t.1)

    last : 0 < v.stamp.red → (x : Option Message) → last_red own ≡ x → option_map_or (λ u. not (comes_before u v)) x false ≡ false
    last l None e = refl
    last l (Some u) e =
        let w = last_has (reverse own) r (λ x k. c x (has_reverse x own k)) u e in
        let n = o.ready.number l in
        not_from_true (comes_before u v) (le-leb u.stamp.id.seq (dep v u.stamp.id.site) (o.red_before u w.0 w.1 (n ∙ ap (λ k. k + 1) (sym w.2))))
