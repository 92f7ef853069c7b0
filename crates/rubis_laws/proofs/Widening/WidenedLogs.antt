-- Logs whose messages were widened have the same meaning and the same verdict.
use Rattle.rubis_laws.proofs.Common.{ℕ, ◌≡◌, ◌+◌, ◌-◌, ◌≤◌, ◌<◌, zero, suc, List, [], ◌∷◌, ◌++◌, length, Bool, true, false, ◌&&◌, cond, Option, Some, None}
use Rattle.rubis_laws.proofs.Common.{refl, sym, ap, ◌∙◌, subst, inl, inr, ⊎_elim, arith, get_or, append_assoc, ◌||◌, ◌==◌, not, nat_lt, nat_le, map, find}
use Rattle.rubis_laws.proofs.Common.{reverse, option_map, list_any, range_with_len, option_map_or, option_or, cases_lt, le-ltb, or_from, get_or_past}
use Rattle.rubis_laws.proofs.Common.{map-append, reverse-append, same_id, RowKey, refers_of, is_red, same_message, Decides-same_message, Message, IsMessage}
use Rattle.rubis_laws.proofs.Common.{dep, sites_of, widened, sites_widened, widened_is, nick_taken, stock_short, wrong_category, wrong_winner, table_rows}
use Rattle.rubis_laws.proofs.Common.{cores, core, fold_of, Log, IsMeaning, Has, counted, reds, comes_before, clashes, is_not_next, is_early, miscounts, forgets}
use Rattle.rubis_laws.proofs.Common.{out_of_order, last_red, takes_number, red_gap, makes_row, is_known, wrong_reference, checks, first_of, same_rows}
use Rattle.rubis_laws.proofs.Common.{wrong_rows, first_fault, found_or, verdict_from, widened_log, has_left, has_right, has_append, Listing}
use Rattle.rubis_message.specs.declared.answers.Kind.{Kind}
use Rattle.std.specs.Prelude.{replicate, slice_index}
use Rattle.std.proofs.lemmas.Bool.Decides.{Decides-like, same_from_decides}
use Rattle.std.proofs.lemmas.List.{append_cancel_right, get_or_append_left, length-map}
use Rattle.std.proofs.Math.Seq.{get_or-append_right}
use Rattle.rubis_model.specs.Verdict.{at_some_site, clash}
use Rattle.rubis_model.specs.Widening.{WidenedAreAmong, MeaningStays, VerdictStays}
use Rattle.rubis_laws.proofs.Audits.EntryOrder.{counted_past, nothing_past, number_same}

-- ---- tests over lists and numbers
no_and : (a : Bool) {b : Bool} → b ≡ false → (a && b) ≡ false
no_and true e = e
no_and false e = refl

any_map : {A B : Type 0} (p : B → Bool) (q : A → Bool) (f : A → B) (xs : List A) → ((u : A) → Has u xs → p (f u) ≡ q u) → list_any p (map f xs) ≡ list_any q xs
any_map p q f [] h = refl
any_map p q f (x ∷ xs) h = λ i. h x (inl refl) i || any_map p q f xs (λ u k. h u (inr k)) i

none_from : (p : ℕ → Bool) (a n : ℕ) → ((j : ℕ) → a ≤ j → p j ≡ false) → list_any p (range_with_len a n) ≡ false
none_from p a zero h = refl
none_from p a (suc n) h = or_from (p a) (list_any p (range_with_len (a + 1) n)) (h a (omega arith)) (none_from p (a + 1) n (λ j l. h j (omega (arith, l))))

-- further numbers, of which none passes, change no test
beyond : (p : ℕ → Bool) (a few many : ℕ) → few ≤ many → ((j : ℕ) → a + few ≤ j → p j ≡ false)
    → list_any p (range_with_len a many) ≡ list_any p (range_with_len a few)
beyond p a zero many l h = none_from p a many (λ j m. h j (omega (arith, m)))
beyond p a (suc few) zero l h = absurd (omega (arith, l))
beyond p a (suc few) (suc many) l h = ap (λ b. p a || b) (beyond p (a + 1) few many (omega (arith, l)) (λ j m. h j (omega (arith, m))))

-- ---- counts
zeros : (n j : ℕ) → ◌≡◌ {A = ℕ} (get_or (replicate n 0) j 0) 0
zeros zero j = refl
zeros (suc n) zero = refl
zeros (suc n) (suc j) = zeros n j

count_widened : (deps : List ℕ) (n j : ℕ) → slice_index (deps ++ replicate n 0) j ≡ slice_index deps j
count_widened deps n j = ⊎_elim (λ l. get_or_append_left deps (replicate n 0) 0 j l)
    (λ l. get_or-append_right deps (replicate n 0) j 0 l ∙ zeros n _ ∙ sym (get_or_past deps j 0 l)) (cases_lt j (length deps))

-- it counts `sites` sites, and belongs to one of them
record Counts (sites : ℕ) (u : Message) : Type 0 where
  counts : sites_of u ≡ sites
  site : u.stamp.id.site < sites

AllCount : ℕ → List Message → Type 0
AllCount sites log = (u : Message) → Has u log → Counts sites u

module _ (from to : ℕ) (up : from ≤ to) where
  abbrev w : Message → Message
  w m = widened to m

  dep_w : (m : Message) (j : ℕ) → dep (w m) j ≡ dep m j
  dep_w m j = count_widened m.stamp.deps (to - sites_of m) j

  before_w : (u v : Message) → comes_before (w u) (w v) ≡ comes_before u v
  before_w u v = ap (λ n. nat_le u.stamp.id.seq n) (dep_w v u.stamp.id.site)

  counted_w : (j : ℕ) (log : List Message) → counted j (map w log) ≡ counted j log
  counted_w j [] = refl
  counted_w j (m ∷ log) = ap (λ n. n + cond (m.stamp.id.site == j) 1 0) (counted_w j log)

  reds_w : (log : List Message) → reds (map w log) ≡ reds log
  reds_w [] = refl
  reds_w (m ∷ log) = ap (λ n. n + cond (nat_lt 0 m.stamp.red) 1 0) (reds_w log)

  cores_w : (log : List Message) → cores (map w log) ≡ cores log
  cores_w [] = refl
  cores_w (m ∷ log) = ap (λ c. core m ∷ c) (cores_w log)

  reverse_w : (log : List Message) → reverse (map w log) ≡ map w (reverse log)
  reverse_w [] = refl
  reverse_w (m ∷ log) =
      reverse-append (w m ∷ []) (map w log) ∙ ap (λ ms. ms ++ w m ∷ []) (reverse_w log) ∙ sym (map-append w (reverse log) (m ∷ []))
      ∙ ap (map w) (sym (reverse-append (m ∷ []) log))

  -- the same where a test of further sites is false
  at_sites : (v : Message) → sites_of v ≡ from → (p q : ℕ → Bool) → ((j : ℕ) → p j ≡ q j) → ((j : ℕ) → from ≤ j → q j ≡ false)
      → at_some_site (w v) p ≡ at_some_site v q
  at_sites v c p q e past =
      ap (λ n. list_any p (range_with_len 0 n)) (sites_widened to v (omega (arith, c, up)))
      ∙ (λ i. list_any (λ j. e j i) (range_with_len 0 to))
      ∙ beyond q 0 from to up (λ j l. past j (omega (arith, l)))
      ∙ ap (λ n. list_any q (range_with_len 0 n)) (sym c)

  -- ---- Clash: no two messages become one
  apart : (u v : Message) → sites_of u ≡ sites_of v → w u ≡ w v → u ≡ v
  apart u v s e = λ i. record {
    stamp = record { id = ap (λ (m : Message). m.stamp.id) e i; red = ap (λ (m : Message). m.stamp.red) e i; deps = same i };
    shadow = ap (λ (m : Message). m.shadow) e i;
  }
    where
      same : u.stamp.deps ≡ v.stamp.deps
      same = append_cancel_right u.stamp.deps v.stamp.deps (replicate (to - sites_of v) 0)
          (ap (λ n. u.stamp.deps ++ replicate (to - n) 0) (sym s) ∙ ap (λ (m : Message). m.stamp.deps) e)

  same_w : (u v : Message) → sites_of u ≡ sites_of v → same_message (w u) (w v) ≡ same_message u v
  same_w u v s = same_from_decides _ _ (Decides-same_message (w u) (w v)) (Decides-like _ (ap w) (apart u v s) (Decides-same_message u v))

  module _ (others own : List Message) (v : Message) (there : AllCount from others) (here : AllCount from own) (this : Counts from v) where
    among : (u : Message) → Has u (others ++ own) → Counts from u
    unfolding AllCount
    among u h = ⊎_elim (there u) (here u) (has_append u others own h)

    clash_w : clash (map w others) (map w own) (w v) ≡ clash others own v
    clash_w = ap (list_any (clashes (w v))) (sym (map-append w others own)) ∙ any_map _ _ w _
        (λ u h. ap (λ b. same_id u.stamp.id v.stamp.id && not b) (same_w u v ((among u h).counts ∙ sym this.counts)))

    -- ---- Order
    next_w : is_not_next (map w own) (w v) ≡ is_not_next own v
    next_w = ap (λ n. not (v.stamp.id.seq == n + 1)) (counted_w v.stamp.id.site own)

    nothing : (u : Message) → Counts from u → (j : ℕ) → from ≤ j → dep u j ≡ 0
    nothing u c j l = let e = c.counts in nothing_past u j (omega (arith, e, l))

    early_w : is_early (map w own) (w v) ≡ is_early own v
    early_w = at_sites v this.counts (λ j. not (j == v.stamp.id.site) && nat_lt (counted j (map w own)) (dep (w v) j))
        (λ j. not (j == v.stamp.id.site) && nat_lt (counted j own) (dep v j)) (λ j i. not (j == v.stamp.id.site) && nat_lt (counted_w j own i) (dep_w v j i))
        (λ j l. no_and _ (le-ltb (counted j own) (dep v j) (let z = nothing v this j l in omega (arith, z))))

    miscounts_w : (site : ℕ) → miscounts site (map w own) (w v) ≡ miscounts site own v
    unfolding AllCount
    miscounts_w site = ap (λ b. (v.stamp.id.site == site) && b) (at_sites v this.counts
        (λ j. not (dep (w v) j == counted j (map w own)))
        (λ j. not (dep v j == counted j own))
        (λ j i. not (dep_w v j i == counted_w j own i))
        (λ j l. number_same (nothing v this j l ∙ sym (counted_past own from j l (λ u h. (here u h).site)))))

    forgets_w : (u : Message) → Counts from u → forgets (w v) (w u) ≡ forgets v u
    forgets_w u c = λ i. (u.stamp.id.seq == dep_w v u.stamp.id.site i) && at_sites v this.counts
        (λ j. nat_lt (dep (w v) j) (dep (w u) j))
        (λ j. nat_lt (dep v j) (dep u j))
        (λ j k. nat_lt (dep_w v j k) (dep_w u j k))
        (λ j l. le-ltb (dep v j) (dep u j) (let z = nothing u c j l in omega (arith, z))) i

    order_w : (site : ℕ) → out_of_order site (map w own) (w v) ≡ out_of_order site own v
    unfolding AllCount
    order_w site = λ i. next_w i || (early_w i || (miscounts_w site i || any_map (forgets (w v)) (forgets v) w own (λ u h. forgets_w u (here u h)) i))

    -- ---- RedGap
    found_w : (log : List Message) → find (λ (u : Message). is_red u.shadow) (map w log) ≡ option_map w (find (λ (u : Message). is_red u.shadow) log)
    found_w [] = refl
    found_w (x ∷ log) = ap (cond (is_red x.shadow) (Some (w x))) (found_w log) ∙ at (is_red x.shadow) (find (λ (u : Message). is_red u.shadow) log)
      where
        at : (b : Bool) (o : Option Message) → cond b (Some (w x)) (option_map w o) ≡ option_map w (cond b (Some x) o)
        at true o = refl
        at false o = refl

    last_w : last_red (map w own) ≡ option_map w (last_red own)
    last_w = ap (find (λ (u : Message). is_red u.shadow)) (reverse_w own) ∙ found_w (reverse own)

    behind_w : (o : Option Message) → option_map_or (λ u. not (comes_before u (w v))) (option_map w o) false
        ≡ option_map_or (λ u. not (comes_before u v)) o false
    behind_w None = refl
    behind_w (Some u) = ap not (before_w u v)

    gap_w : red_gap (map w others) (map w own) (w v) ≡ red_gap others own v
    gap_w = λ i. is_red v.shadow && (not (v.stamp.red == reds_w own i + 1) ||
        (any_map (takes_number (w v)) _ w others (λ u h. refl) i || (ap (λ o. option_map_or (λ u. not (comes_before u (w v))) o false) last_w ∙ behind_w _) i))

    -- ---- Refers
    makes_w : (k : RowKey) (u : Message) → makes_row k (w u) ≡ makes_row k u
    makes_w (RowKey.User i) u = refl
    makes_w (RowKey.Item i) u = refl
    makes_w (RowKey.Bid i) u = refl
    makes_w k u = refl

    known_w : (k : RowKey) → is_known (map w own) (w v) k ≡ is_known own v k
    known_w k = any_map (λ u. makes_row k u && comes_before u (w v)) (λ u. makes_row k u && comes_before u v) w own (λ u h i. makes_w k u i && before_w u v i)

    reference_w : wrong_reference (map w own) (w v) ≡ wrong_reference own v
    reference_w = λ i. list_any (λ k. not (known_w k i)) (refers_of v.shadow) || wrong_category (cores_w own i) v.shadow

    -- ---- all of them
    checks_w : (site : ℕ) → checks (map w others) site (map w own) (w v) ≡ checks others site own v
    checks_w site = λ i.
        (Kind.Clash, clash_w i)
        ∷ (Kind.Order, order_w site i)
        ∷ (Kind.RedGap, gap_w i)
        ∷ (Kind.Refers, reference_w i)
        ∷ (Kind.Nick, nick_taken (cores_w own i) v.shadow)
        ∷ (Kind.Stock, stock_short (cores_w own i) v.shadow)
        ∷ (Kind.Winner, wrong_winner (cores_w own i) v.shadow)
        ∷ []

  fault_w : (others : List Message) (site : ℕ) (own rest : List Message) → AllCount from others → AllCount from (own ++ rest)
      → first_fault (map w others) site (map w own) (map w rest) ≡ first_fault others site own rest
  unfolding AllCount
  fault_w others site own [] there here = refl
  fault_w others site own (v ∷ rest) there here =
      let c = checks_w others own v there (λ u h. here u (has_left u own (v ∷ rest) h)) (here v (has_right v own (v ∷ rest) (inl refl))) site in
      let further : first_fault (map w others) site (map w own ++ w v ∷ []) (map w rest) ≡ first_fault others site (own ++ v ∷ []) rest =
      ap (λ l. first_fault (map w others) site l (map w rest)) (sym (map-append w own (v ∷ [])))
      ∙ fault_w others site (own ++ v ∷ []) rest there (λ u h. here u (subst (Has u) (append_assoc own (v ∷ []) rest) h)) in
      λ i. option_or (option_map (λ k. (k, length-map own w i + 1)) (first_of (c i))) (further i)

  rows_w : (log : Log) → wrong_rows (widened_log to log) ≡ wrong_rows log
  rows_w log = ap (λ c. option_map_or (λ rows. not (same_rows rows (table_rows Listing.Tables (fold_of c).tables))) log.rows false) (cores_w log.messages)

  verdict_w : (k : ℕ) (others : List Message) (logs : List Log) → AllCount from others → ((log : Log) → Has log logs → AllCount from log.messages)
      → verdict_from k (map w others) (map (widened_log to) logs) ≡ verdict_from k others logs
  unfolding AllCount
  verdict_w k others [] there here = refl
  verdict_w k others (log ∷ logs) there here =
      let f = fault_w others log.site [] log.messages there (here log (inl refl)) in
      let further : verdict_from (k + 1) (map w others ++ map w log.messages) (map (widened_log to) logs) ≡ verdict_from (k + 1) (others ++ log.messages) logs =
      ap (λ l. verdict_from (k + 1) l (map (widened_log to) logs)) (sym (map-append w others log.messages))
      ∙ verdict_w (k + 1) (others ++ log.messages) logs (λ u h. ⊎_elim (there u) (here log (inl refl) u) (has_append u others log.messages h))
      (λ l h. here l (inr h)) in
      λ i. found_or k (option_or (f i) (cond (rows_w log i) (Some (Kind.Rows, 0)) None)) (further i)

pub verdict_stays : VerdictStays
unfolding AllCount
verdict_stays from to logs up among = verdict_w from to up 1 [] logs (λ u h. absurd h) (λ log h u k.
    let m = among u ((log, h), k) in
    record { counts = m.1; site = subst (λ n. u.stamp.id.site < n) m.1 m.0.id.site })

pub meaning_stays : MeaningStays
meaning_stays to log t =
    let e = cores_w to to (omega arith) log.messages in
    (λ h. subst (λ c. IsMeaning c t) e h, λ h. subst (λ c. IsMeaning c t) (sym e) h)

-- ---- and they are messages of that many sites
was_in : (to : ℕ) (log : List Message) (x : Message) → Has x (map (widened to) log) → (u : Message) × (Has u log) × (x ≡ widened to u)
was_in to [] x h = absurd h
was_in to (m ∷ log) x (inl e) = (m, inl refl, e)
was_in to (m ∷ log) x (inr h) = let r = was_in to log x h in (r.0, inr r.1, r.2)

was_log : (to : ℕ) (logs : List Log) (x : Log) → Has x (map (widened_log to) logs) → (log : Log) × (Has log logs) × (x ≡ widened_log to log)
was_log to [] x h = absurd h
was_log to (log ∷ logs) x (inl e) = (log, inl refl, e)
was_log to (log ∷ logs) x (inr h) = let r = was_log to logs x h in (r.0, inr r.1, r.2)

pub widened_are_among : WidenedAreAmong
widened_are_among from to logs up few among x h =
    let l = was_log to logs h.0.0 h.0.1 in
    let u = was_in to l.0.messages x (subst (λ (k : Log). Has x k.messages) l.2 h.1) in
    let m = among u.0 ((l.0, l.1), u.1) in
    let e = m.1 in
    let fits : sites_of u.0 ≤ to = omega (arith, e, up) in
    subst (λ y. IsMessage y × (sites_of y ≡ to)) (sym u.2) (widened_is to u.0 m.0 fits few, sites_widened to u.0 fits)
