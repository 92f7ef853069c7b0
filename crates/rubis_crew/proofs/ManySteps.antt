-- Many steps: the account of what was given.
use Rattle.std.proofs.Common.{◌≡◌, ℕ, suc, ◌+◌, Bool, true, false, List, [], ◌∷◌, ◌++◌, length, set, Contains, sym, refl, ap, ◌∙◌, subst, ⊎_elim, arith}
use Rattle.std.proofs.lemmas.List.Elements.{Contains-append_cases}
use mathlib.Core.Option.{some}
use lib.ListN.{get_elem?}
use Rattle.rubis_crew.specs.declared.job.Given.{Given}
use Rattle.rubis_crew.specs.declared.rule.JobView.{JobView}
use Rattle.rubis_crew.specs.declared.rule.JobEntry.{JobEntry}
use Rattle.rubis_crew.specs.declared.rule.JobEntry.TheVariants.{Work, Over}
use Rattle.rubis_crew.specs.Rule.{weigh, waiting, sum_over, JobsRuled, HasTaken}
use Rattle.rubis_crew.specs.Laws.{JobState, Step, Steps, StepsAll, opening, held_if, held_by, out, coming_back, IsAccounted}
use Rattle.rubis_crew.specs.Laws.Step.{Puts, Takes, Shares, Hands, Receives, Settles}
use Rattle.rubis_crew.proofs.Giving.{none_in, weigh-append, begins, gives, says}
use Rattle.rubis_crew.proofs.Handing.{takes, shares, hands, receives, settles}

module _ {J : Type 0} (Fits : J → Type 0) where
  abbrev IsRuled : JobState J → Type 0
  IsRuled s = JobsRuled Fits s.items s.views

  put_one : (s : JobState J) (i : ℕ) (item : JobEntry J) (t : JobState J) → IsRuled s → Steps Fits s (Puts i item) t → IsRuled t
  put_one s i (Work x) t ruled step =
      let r = gives Fits i step.0 step.3.0 (suc (length s.items)) x step.3.1 step.3.2 s.items s.views (omega arith) ruled step.2 in
      subst IsRuled (sym (step.5 ∙ ap (λ w. record { items = s.items ++ Work x ∷ []; views = set s.views i w }) (step.4.0 ∙ sym r.2.0))) r.1
  put_one s i Over t ruled step =
      let r = says Fits i step.0 step.3 (suc (length s.items)) s.items s.views (omega arith) ruled step.2 in
      subst IsRuled (sym (step.5 ∙ ap (λ w. record { items = s.items ++ Over ∷ []; views = set s.views i w }) (step.4 ∙ sym r.2))) r.1

  took : (v : JobView J) (item : JobEntry J) (w u : JobView J) → HasTaken Fits v item w → HasTaken Fits v item u → w ≡ u
  took v (Work x) w u a b = a.1 ∙ sym b.1
  took v Over w u a b = a ∙ sym b

  take_one : (s : JobState J) (i : ℕ) (t : JobState J) → IsRuled s → Steps Fits s (Takes i) t → IsRuled t
  take_one s i t ruled step =
      let r = takes Fits i step.0 step.2 t.items s.views (subst (λ l. JobsRuled Fits l s.views) step.4 ruled) step.3 in
      subst IsRuled
      (sym (step.6 ∙ ap (λ w. record { items = t.items; views = set s.views i w }) (took step.0 step.2 step.1 r.0 step.5 r.2))) r.1

  one : (s : JobState J) (step : Step J) (t : JobState J) → IsRuled s → Steps Fits s step t → IsRuled t
  one s (Puts i item) t ruled h = put_one s i item t ruled h
  one s (Takes i) t ruled h = take_one s i t ruled h
  one s (Shares i) t ruled h = subst IsRuled (sym h.2) (shares Fits i h.0 s.items s.views ruled h.1)
  one s (Hands i) t ruled h = subst IsRuled (sym h.2) (hands Fits i h.0 s.items s.views ruled h.1)
  one s (Receives i j) t ruled h = subst IsRuled (sym h.5) (receives Fits i h.0 j h.1 s.items s.views ruled h.2 h.3 h.4)
  one s (Settles i) t ruled h = subst IsRuled (sym h.5) (settles Fits i h.0 h.3 h.1 h.4 s.items s.views ruled h.2)

  all : (s : JobState J) (steps : List (Step J)) (t : JobState J) → IsRuled s → StepsAll Fits s steps t → IsRuled t
  all s [] t ruled h = subst IsRuled h ruled
  all s (step ∷ steps) t ruled h = all h.0 steps t (one s step h.0 ruled h.1) h.2

  -- ---- what is held, by those that go back with a result and by the others

  weigh_if : (h : ℕ → ℕ) (pays : Bool) (held : List (Given J))
      → weigh h (held_if false pays held) + weigh h (held_if true pays held) ≡ weigh h held
  weigh_if h true held = omega arith
  weigh_if h false held = omega arith

  weigh_held : (h : ℕ → ℕ) (views : List (JobView J))
      → weigh h (out views) + weigh h (coming_back views) ≡ sum_over (λ v. weigh h v.held) views
  weigh_held h [] = omega arith
  weigh_held h (v ∷ views) =
      let a = weigh-append h (held_if false v.pays v.held) (out views) in
      let b = weigh-append h (held_if true v.pays v.held) (coming_back views) in
      let c = weigh_if h v.pays v.held in
      let d = weigh_held h views in
      omega arith

  in_if : (which pays : Bool) (held : List (Given J)) (x : Given J) → Contains (held_if which pays held) x → Contains held x
  in_if true true held x h = h
  in_if true false held x h = absurd (none_in x h)
  in_if false true held x h = absurd (none_in x h)
  in_if false false held x h = h

  held_in : (which : Bool) (views : List (JobView J)) (x : Given J) (A : Type 0)
      → ((j : ℕ) (v : JobView J) → get_elem? views j ≡ some v → Contains v.held x → A) → Contains (held_by which views) x → A
  held_in which [] x A go h = absurd (none_in x h)
  held_in which (v ∷ views) x A go h =
      ⊎_elim (λ (l : Contains (held_if which v.pays v.held) x). go 0 v refl (in_if which v.pays v.held x l))
      (λ (r : Contains (held_by which views) x). held_in which views x A (λ j u e k. go (suc j) u e k) r)
      (Contains-append_cases (held_if which v.pays v.held) (held_by which views) x h)

  accounted : (s : JobState J) → IsRuled s → IsAccounted s
  accounted s ruled =
      record {
        given = ruled.given;
        next = ruled.next;
        known = λ j v e leads. ((ruled.each j v e).leads leads).same;
        numbers = ruled.numbers;
        once = λ h.
            (let old = ruled.once h in
            let a = weigh-append h (waiting s.items) (out s.views ++ coming_back s.views) in
            let b = weigh-append h (out s.views) (coming_back s.views) in
            let c = weigh_held h s.views in
            omega arith);
        same = λ x h.
            ⊎_elim (λ (l : Contains (waiting s.items) x). ruled.waits x l)
            (λ (r : Contains (out s.views ++ coming_back s.views) x).
            ⊎_elim
            (λ (l : Contains (out s.views) x).
            held_in false s.views x (Contains ruled.given x) (λ j v e k. (ruled.each j v e).held x k) l)
            (λ (b : Contains (coming_back s.views) x).
            held_in true s.views x (Contains ruled.given x) (λ j v e k. (ruled.each j v e).held x k) b)
            (Contains-append_cases (out s.views) (coming_back s.views) x r))
            (Contains-append_cases (waiting s.items) (out s.views ++ coming_back s.views) x h);
      }

  pub every_list : (steps : List (Step J)) (t : JobState J) → StepsAll Fits opening steps t → IsAccounted t
  every_list steps t h = accounted t (all opening steps t (begins Fits) h)
