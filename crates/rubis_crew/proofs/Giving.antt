-- A job is given, or it is said that no more come.
use Rattle.std.proofs.Common.{◌≡◌, ℕ, zero, suc, ◌+◌, ◌<◌, ◌≤◌, Bool, true, false, cond, eqb, eq-eqb, ne_eqb, eqb-true, List, [], ◌∷◌, ◌++◌, length, get_or}
use Rattle.std.proofs.Common.{Contains, sym, refl, ap, ◌∙◌, ⊎_elim, arith, true≢false, set, subst, All}
use Rattle.std.proofs.lemmas.List.Elements.{All-cons, All-nil, Contains-append_left, Contains-append_right, Contains-append_cases, Contains-push_cases}
use Rattle.std.proofs.lemmas.List.Elements.{All-push, Contains-push}
use Rattle.rubis_crew.specs.declared.job.Given.{Given}
use Rattle.rubis_crew.specs.Rule.{AreBelow, AreRising, weigh, taken_off, waiting, overs_in, idle, FitsJobs, sum_over, EachAt, first_view, JobsRuled, HasPut}
use Rattle.rubis_crew.specs.Rule.{AreFew}
use Rattle.std.proofs.lemmas.List.{append-nil}
use Rattle.rubis_crew.specs.declared.rule.JobEntry.{JobEntry}
use Rattle.rubis_crew.specs.declared.rule.JobEntry.TheVariants.{Work, Over}
use mathlib.Core.Option.{some, some-injective, some-ne-none}
use lib.ListN.{get_elem?}
use Rattle.crossbeam_queue.proofs.Lists.{at_set, at_snoc}
use Rattle.rubis_crew.specs.declared.rule.JobView.{JobView}
use Rattle.crossbeam_queue.specs.Fifo.{Pushes, Learns}

-- 1 at that number, and 0 at all others
abbrev pub one_at : ℕ → ℕ → ℕ
one_at n m = cond (eqb n m) 1 0

one_here : (n : ℕ) → one_at n n ≡ 1
one_here n = ap (λ (b : Bool). cond b 1 0) (eq-eqb n n refl)

one_else : (n m : ℕ) → (n ≡ m → ⊥) → one_at n m ≡ 0
one_else n m apart = ap (λ (b : Bool). cond b 1 0) (ne_eqb n m apart)

module _ {J : Type 0} where
  -- ---- what stands in a list

  pub none_in : (y : Given J) → Contains [] y → ⊥
  none_in y h = let less = h.1 in omega arith

  pub first_in : (y : Given J) (ys : List (Given J)) → Contains (y ∷ ys) y
  first_in y ys = (0, omega arith, refl)

  pub later_in : (x : Given J) (ys : List (Given J)) (y : Given J) → Contains ys y → Contains (x ∷ ys) y
  later_in x ys y h = Contains-append_right (x ∷ []) ys y h

  pub one_in : (x y : Given J) → Contains (x ∷ []) y → x ≡ y
  one_in x y h = ⊎_elim (λ (l : Contains [] y). absurd (none_in y l)) (λ (e : x ≡ y). e) (Contains-push_cases [] x y h)

  parted_at : (xs : List (Given J)) (y : Given J) (k : ℕ) → k < length xs → get_or xs k y ≡ y
      → (before : List (Given J)) × (after : List (Given J)) × (xs ≡ before ++ y ∷ after)
  parted_at [] y k less e = absurd (omega arith)
  parted_at (x ∷ xs) y zero less e = ([], xs, ap (λ (z : Given J). z ∷ xs) e)
  parted_at (x ∷ xs) y (suc k) less e = let r = parted_at xs y k (omega arith) e in (x ∷ r.0, r.1, ap (λ (l : List (Given J)). x ∷ l) r.2)

  pub parted : (xs : List (Given J)) (y : Given J) → Contains xs y
      → (before : List (Given J)) × (after : List (Given J)) × (xs ≡ before ++ y ∷ after)
  parted xs y h = parted_at xs y h.0 h.1 h.2

  -- what isn't the one in the middle stands beside it
  pub beside_in : (before after : List (Given J)) (x y : Given J) → (y.number ≡ x.number → ⊥) → Contains (before ++ x ∷ after) y
      → Contains (before ++ after) y
  beside_in before after x y apart h =
      ⊎_elim (λ (l : Contains before y). Contains-append_left before after y l)
      (λ (r : Contains (x ∷ after) y).
      ⊎_elim (λ (l : Contains (x ∷ []) y). absurd (apart (ap (λ (z : Given J). z.number) (sym (one_in x y l)))))
      (λ (l : Contains after y). Contains-append_right before after y l) (Contains-append_cases (x ∷ []) after y r))
      (Contains-append_cases before (x ∷ after) y h)

  -- ---- what the numbers weigh

  pub weigh-append : (h : ℕ → ℕ) (xs ys : List (Given J)) → weigh h (xs ++ ys) ≡ weigh h xs + weigh h ys
  weigh-append h [] ys = omega arith
  weigh-append h (x ∷ xs) ys = let e = weigh-append h xs ys in omega arith

  pub weigh_ones : (xs : List (Given J)) → weigh (λ n. 1) xs ≡ length xs
  weigh_ones [] = refl
  weigh_ones (x ∷ xs) = let e = weigh_ones xs in omega arith

  -- ---- numbers that rise

  pub rising_lower : (lower low next : ℕ) (xs : List (Given J)) → lower ≤ low → AreRising low next xs → AreRising lower next xs
  rising_lower lower low next [] less h = omega arith
  rising_lower lower low next (x ∷ xs) less h = ((let l = h.0 in omega arith), h.1)

  rising_bound : (low next : ℕ) (xs : List (Given J)) → AreRising low next xs → low ≤ next
  rising_bound low next [] h = h
  rising_bound low next (x ∷ xs) h = let r = rising_bound (x.number + 1) next xs h.1 in let l = h.0 in omega arith

  pub rising_below : (low next : ℕ) (xs : List (Given J)) → AreRising low next xs → AreBelow next xs
  rising_below low next [] h = All-nil (λ (y : Given J). y.number < next)
  rising_below low next (x ∷ xs) h =
      All-cons (λ (y : Given J). y.number < next) x xs (let r = rising_bound (x.number + 1) next xs h.1 in omega arith)
      (rising_below (x.number + 1) next xs h.1)

  pub rising_more : (low next : ℕ) (xs : List (Given J)) (x : Given J) → x.number ≡ next → AreRising low next xs
      → AreRising low (next + 1) (xs ++ x ∷ [])
  rising_more low next [] x is h = (omega arith, omega arith)
  rising_more low next (y ∷ xs) x is h = (h.0, rising_more (y.number + 1) next xs x is h.1)

  rising_at : (low next : ℕ) (before after : List (Given J)) (x : Given J) → AreRising low next (before ++ x ∷ after) → low ≤ x.number
  rising_at low next [] after x h = h.0
  rising_at low next (y ∷ before) after x h = let r = rising_at (y.number + 1) next before after x h.1 in let l = h.0 in omega arith

  pub rising_less : (low next : ℕ) (before after : List (Given J)) (x : Given J) → AreRising low next (before ++ x ∷ after)
      → AreRising low next (before ++ after)
  rising_less low next [] after x h = rising_lower low (x.number + 1) next after (let l = h.0 in omega arith) h.1
  rising_less low next (y ∷ before) after x h = (h.0, rising_less (y.number + 1) next before after x h.1)

  pub off_taken : (low next : ℕ) (before after : List (Given J)) (x : Given J) → AreRising low next (before ++ x ∷ after)
      → taken_off x.number (before ++ x ∷ after) ≡ before ++ after
  off_taken low next [] after x h = ap (λ (b : Bool). cond b after (x ∷ taken_off x.number after)) (eq-eqb x.number x.number refl)
  off_taken low next (y ∷ before) after x h =
      let less = rising_at (y.number + 1) next before after x h.1 in
      let apart : y.number ≡ x.number → ⊥ = λ e. omega arith in
      ap (λ (b : Bool). cond b (before ++ x ∷ after) (y ∷ taken_off x.number (before ++ x ∷ after))) (ne_eqb y.number x.number apart)
      ∙ ap (λ (l : List (Given J)). y ∷ l) (off_taken (y.number + 1) next before after x h.1)

  -- ---- how often a number stands in a list

  times_none : (n low next : ℕ) (xs : List (Given J)) → n < low → AreRising low next xs → weigh (one_at n) xs ≡ 0
  times_none n low next [] less h = refl
  times_none n low next (x ∷ xs) less h =
      let l = h.0 in
      let here = one_else n x.number (λ e. omega arith) in
      let rest = times_none n (x.number + 1) next xs (omega arith) h.1 in
      omega arith

  -- once at most, where they rise
  pub times_most : (n low next : ℕ) (xs : List (Given J)) → AreRising low next xs → weigh (one_at n) xs ≤ 1
  times_most n low next [] h = omega arith
  times_most n low next (x ∷ xs) h = by_test (eqb n x.number) refl (times_most n (x.number + 1) next xs h.1)
    where
      by_test : (b : Bool) → eqb n x.number ≡ b → weigh (one_at n) xs ≤ 1 → weigh (one_at n) (x ∷ xs) ≤ 1
      by_test true e most =
          let is = eqb-true n x.number e in
          let here : one_at n x.number ≡ 1 = ap (λ (b : Bool). cond b 1 0) e in
          let rest = times_none n (x.number + 1) next xs (omega arith) h.1 in
          omega arith
      by_test false e most =
          let here : one_at n x.number ≡ 0 = ap (λ (b : Bool). cond b 1 0) e in
          omega arith

  -- once at least, where it stands
  pub times_in : (xs : List (Given J)) (y : Given J) → Contains xs y → 1 ≤ weigh (one_at y.number) xs
  times_in xs y h =
      let p = parted xs y h in
      let same = ap (weigh (one_at y.number)) p.2 in
      let sum = weigh-append (one_at y.number) p.0 (y ∷ p.1) in
      let here = one_here y.number in
      omega arith

-- ---- what a job or an end at the back does to the queue of jobs, and what the rule says at one pass

module _ {J : Type 0} where
  pub waiting_append : (xs ys : List (JobEntry J)) → waiting (xs ++ ys) ≡ waiting xs ++ waiting ys
  waiting_append [] ys = refl
  waiting_append (Work x ∷ xs) ys = ap (λ (l : List (Given J)). x ∷ l) (waiting_append xs ys)
  waiting_append (Over ∷ xs) ys = waiting_append xs ys

  pub waiting_over : (xs : List (JobEntry J)) → waiting (xs ++ Over ∷ []) ≡ waiting xs
  waiting_over xs = waiting_append xs (Over ∷ []) ∙ append-nil (waiting xs)

  pub overs_append : (xs ys : List (JobEntry J)) → overs_in (xs ++ ys) ≡ overs_in xs + overs_in ys
  overs_append [] ys = omega arith
  overs_append (Work x ∷ xs) ys = overs_append xs ys
  overs_append (Over ∷ xs) ys = let h = overs_append xs ys in omega arith

  pub length_items : (xs : List (JobEntry J)) → length xs ≡ length (waiting xs) + overs_in xs
  length_items [] = refl
  length_items (Work x ∷ xs) = let h = length_items xs in omega arith
  length_items (Over ∷ xs) = let h = length_items xs in omega arith

  -- a pass that holds nothing and gives nothing
  pub agrees_idle : (lead : ℕ) (given : List (Given J)) (next overs place : ℕ) → FitsJobs lead given next overs place (idle {J = J})
  agrees_idle lead given next overs place =
      record { held = λ x h. absurd (none_in x h); leads = λ e. absurd (true≢false (sym e)) }

-- ---- what all passes hold, when the view of one changes

module _ {J : Type 0} (f : JobView J → ℕ) where
  pub sum_set : (views : List (JobView J)) (i : ℕ) (v w : JobView J) → get_elem? views i ≡ some v
      → sum_over f (set views i w) + f v ≡ sum_over f views + f w
  sum_set [] i v w e = absurd (some-ne-none v (sym e))
  sum_set (x ∷ xs) zero v w e = let is = ap f (some-injective x v e) in omega arith
  sum_set (x ∷ xs) (suc i) v w e = let h = sum_set xs i v w e in omega arith

  pub sum_snoc : (views : List (JobView J)) (w : JobView J) → sum_over f (views ++ w ∷ []) ≡ sum_over f views + f w
  sum_snoc [] w = omega arith
  sum_snoc (x ∷ xs) w = let h = sum_snoc xs w in omega arith

  pub sum_one : (views : List (JobView J)) (i : ℕ) (v : JobView J) → get_elem? views i ≡ some v → f v ≤ sum_over f views
  sum_one [] i v e = absurd (some-ne-none v (sym e))
  sum_one (x ∷ xs) zero v e = let is = ap f (some-injective x v e) in omega arith
  sum_one (x ∷ xs) (suc i) v e = let h = sum_one xs i v e in omega arith

  pub sum_two : (views : List (JobView J)) (i j : ℕ) (v u : JobView J) → (j ≡ i → ⊥) → get_elem? views i ≡ some v
      → get_elem? views j ≡ some u → f v + f u ≤ sum_over f views
  sum_two [] i j v u n e d = absurd (some-ne-none v (sym e))
  sum_two (x ∷ xs) zero zero v u n e d = absurd (n refl)
  sum_two (x ∷ xs) zero (suc j) v u n e d = let is = ap f (some-injective x v e) in let h = sum_one xs j u d in omega arith
  sum_two (x ∷ xs) (suc i) zero v u n e d = let is = ap f (some-injective x u d) in let h = sum_one xs i v e in omega arith
  sum_two (x ∷ xs) (suc i) (suc j) v u n e d = let h = sum_two xs i j v u (λ k. n (ap suc k)) e d in omega arith

module _ {J : Type 0} (F : ℕ → JobView J → Type 0) where
  pub each_set : (views : List (JobView J)) (i : ℕ) (w : JobView J) → F i w
      → ((j : ℕ) (u : JobView J) → (j ≡ i → ⊥) → get_elem? views j ≡ some u → F j u) → EachAt F (set views i w)
  each_set views i w mine others j u e =
      ⊎_elim (λ (x : (j ≡ i) × (w ≡ u)). subst (λ (y : ℕ × JobView J). F y.0 y.1) (λ k. (sym x.0 k, x.1 k)) mine)
      (λ (x : (j ≡ i → ⊥) × (get_elem? views j ≡ some u)). others j u x.0 x.1) (at_set views i j w u e)

  pub each_snoc : (views : List (JobView J)) (w : JobView J) → EachAt F views → ((j : ℕ) → F j w) → EachAt F (views ++ w ∷ [])
  each_snoc views w all last j u e =
      ⊎_elim (λ (x : get_elem? views j ≡ some u). all j u x) (λ (is : w ≡ u). subst (F j) is (last j)) (at_snoc views w u j e)

-- ---- a job is given, or it is said that no more come

module _ {J : Type 0} (Fits : J → Type 0) where
  pub begins : JobsRuled Fits [] (first_view ∷ [])
  begins =
      record {
        given = [];
        next = 0;
        numbers = omega arith;
        once = λ h. omega arith;
        waits = λ x h. h;
        fits = All-nil (λ (x : Given J). Fits x.job);
        lead = 0;
        each = each_set (FitsJobs 0 [] 0 0) (first_view ∷ []) 0 first_view
            (record {
              held = λ x h. h;
              leads = λ _. record { alone = refl; same = refl; number = refl; said = omega arith };
            })
            (λ j u apart e. only j u apart e);
      }
    where
      only : (j : ℕ) (u : JobView J) → (j ≡ 0 → ⊥) → get_elem? (first_view ∷ []) j ≡ some u → FitsJobs 0 [] 0 0 j u
      only zero u apart e = absurd (apart refl)
      only (suc j) u apart e = absurd (some-ne-none u (sym e))

  module _ (place : ℕ) (v : JobView J) (leads : v.leads ≡ true) where
    pub gives : (room : ℕ) (x : Given J) → x.number ≡ v.next → Fits x.job → Pushes (JobsRuled Fits) room place v (Work x) (HasPut v (Work x))
    gives room x number fits items views _ ruled at =
        let mine = (ruled.each place v at).leads leads in
        let given : List (Given J) = ruled.given ++ x ∷ [] in
        let w : JobView J = record v { next = v.next + 1; given = v.given ++ x ∷ [] } in
        let same : waiting (items ++ Work x ∷ []) ≡ waiting items ++ x ∷ [] = waiting_append items (Work x ∷ []) in
        let overs : overs_in (items ++ Work x ∷ []) ≡ overs_in items = (let sum = overs_append items (Work x ∷ []) in omega arith) in
        let below : AreBelow x.number v.given =
        subst (λ (y : ℕ × List (Given J)). AreBelow y.0 y.1) (λ i. (sym (number ∙ mine.number) i, sym mine.same i))
        (rising_below 0 ruled.next ruled.given ruled.numbers) in (
          w,
          record {
            given = given;
            next = ruled.next + 1;
            numbers = rising_more 0 ruled.next ruled.given x (number ∙ mine.number) ruled.numbers;
            once = λ h.
                (let old = ruled.once h in
                let a = weigh-append h ruled.given (x ∷ []) in
                let b = weigh-append h (waiting items) (x ∷ []) in
                let c = ap (weigh h) same in
                let d = sum_set (λ (u : JobView J). weigh h u.held) views place v w at in
                omega arith);
            waits = λ y h.
                ⊎_elim (λ (l : Contains (waiting items) y). Contains-append_left ruled.given (x ∷ []) y (ruled.waits y l))
                (λ (is : x ≡ y). subst (Contains given) is (Contains-push ruled.given x))
                (Contains-push_cases (waiting items) x y (subst (λ (l : List (Given J)). Contains l y) same h));
            fits = subst (All (λ (y : Given J). Fits y.job)) (sym same) (All-push (λ (y : Given J). Fits y.job) (waiting items) x ruled.fits fits);
            lead = ruled.lead;
            each =
                each_set (FitsJobs ruled.lead given (ruled.next + 1) (overs_in (items ++ Work x ∷ []))) views place w
                (record {
                  held = λ y h. Contains-append_left ruled.given (x ∷ []) y ((ruled.each place v at).held y h);
                  leads = λ _. record {
                    alone = mine.alone;
                    same = ap (λ (l : List (Given J)). l ++ x ∷ []) mine.same;
                    number = ap (λ (n : ℕ). n + 1) mine.number;
                    said = (let said = mine.said in omega arith);
                  };
                })
                (λ j u apart e. record {
                  held = λ y h. Contains-append_left ruled.given (x ∷ []) y ((ruled.each j u e).held y h);
                  leads = λ is. absurd (apart (((ruled.each j u e).leads is).alone ∙ sym mine.alone));
                });
          },
          (refl, below),
        )

    pub says : (room : ℕ) → Pushes (JobsRuled Fits) room place v Over (HasPut v Over)
    says room items views _ ruled at =
        let mine = (ruled.each place v at).leads leads in
        let w : JobView J = record v { overs = v.overs + 1 } in
        let same : waiting (items ++ Over ∷ []) ≡ waiting items = waiting_over items in
        let overs : overs_in (items ++ Over ∷ []) ≡ overs_in items + 1 = (let sum = overs_append items (Over ∷ []) in omega arith) in (
          w,
          record {
            given = ruled.given;
            next = ruled.next;
            numbers = ruled.numbers;
            once = λ h.
                (let old = ruled.once h in
                let c = ap (weigh h) same in
                let d = sum_set (λ (u : JobView J). weigh h u.held) views place v w at in
                omega arith);
            waits = λ y h. ruled.waits y (subst (λ (l : List (Given J)). Contains l y) same h);
            fits = subst (All (λ (y : Given J). Fits y.job)) (sym same) ruled.fits;
            lead = ruled.lead;
            each =
                each_set (FitsJobs ruled.lead ruled.given ruled.next (overs_in (items ++ Over ∷ []))) views place w
                (record {
                  held = (ruled.each place v at).held;
                  leads = λ _. record {
                    alone = mine.alone;
                    same = mine.same;
                    number = mine.number;
                    said = (let said = mine.said in omega arith);
                  };
                })
                (λ j u apart e. record {
                  held = (ruled.each j u e).held;
                  leads = λ is. absurd (apart (((ruled.each j u e).leads is).alone ∙ sym mine.alone));
                });
          },
          refl,
        )

    -- no more lies in the queue than is given, and was said
    pub few : Learns (JobsRuled Fits) place v (AreFew v)
    few items views ruled at =
        let mine = (ruled.each place v at).leads leads in
        let long = length_items items in
        let once = ruled.once (λ n. 1) in
        let a = weigh_ones ruled.given in
        let b = weigh_ones (waiting items) in
        let same = ap length mine.same in
        let said = mine.said in
        omega arith
