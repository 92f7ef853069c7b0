-- A job is taken, what a pass holds goes to another, and is back.
use Rattle.std.proofs.Common.{◌≡◌, ℕ, ◌+◌, List, [], ◌∷◌, ◌++◌, set, Contains, refl, subst, ⊎_elim, arith, true≢false, sym, ◌≤◌, true, ap, ◌∙◌, ◌-◌, Bool}
use Rattle.std.proofs.Common.{length, Some}
use Rattle.std.proofs.lemmas.List.Elements.{All-head, All-tail, Contains-push_cases, Contains-append_cases}
use mathlib.Core.Option.{some}
use lib.ListN.{get_elem?}
use Rattle.crossbeam_queue.specs.Fifo.{Pops, Forks, Merges, Learns}
use Rattle.rubis_crew.specs.declared.job.Given.{Given}
use Rattle.rubis_crew.specs.declared.rule.JobView.{JobView}
use Rattle.rubis_crew.specs.declared.rule.JobEntry.{JobEntry}
use Rattle.rubis_crew.specs.declared.rule.JobEntry.TheVariants.{Work, Over}
use Rattle.rubis_crew.specs.Rule.{weigh, waiting, overs_in, FitsJobs, JobsRuled, HasTaken, idle, emptied, token_view, together, AreRising, taken_off, without}
use Rattle.rubis_crew.specs.Rule.{sum_over, HoldsAGivenOne, settled, jobs_held}
use Rattle.rubis_crew.proofs.Giving.{first_in, later_in, weigh-append, sum_set, each_set, none_in, sum_snoc, each_snoc, agrees_idle, parted, beside_in}
use Rattle.rubis_crew.proofs.Giving.{rising_less, off_taken, one_at, times_in, times_most, sum_one, sum_two}
use Rattle.crossbeam_queue.proofs.Lists.{at_set}
use Rattle.std.proofs.lemmas.List.{length-append}
use Rattle.atomic_table.specs.Seated.{TableId}
use Rattle.crossbeam_queue.specs.Passes.{Pass, view, IsSamePass}
use Rattle.rubis_crew.specs.declared.results.ResultView.{ResultView}
use Rattle.rubis_crew.specs.declared.results.Slip.{Slip}
use Rattle.rubis_crew.specs.States.{AreALead, Settles, HelperState, helper_of, served}

module _ {J : Type 0} (Fits : J → Type 0) (place : ℕ) (v : JobView J) where
  takes_work : (x : Given J) (items : List (JobEntry J)) (views : List (JobView J)) → JobsRuled Fits (Work x ∷ items) views
      → get_elem? views place ≡ some v → (w : JobView J) × JobsRuled Fits items (set views place w) × HasTaken Fits v (Work x) w
  takes_work x items views ruled at =
      let w : JobView J = record v { held = v.held ++ x ∷ []; taken = v.taken ++ x ∷ [] } in
      let mine = ruled.each place v at in
      let first : Contains ruled.given x = ruled.waits x (first_in x (waiting items)) in (
        w,
        record {
          given = ruled.given;
          next = ruled.next;
          numbers = ruled.numbers;
          once = λ h.
              (let old = ruled.once h in
              let a = weigh-append h v.held (x ∷ []) in
              let d = sum_set (λ (u : JobView J). weigh h u.held) views place v w at in
              omega arith);
          waits = λ y h. ruled.waits y (later_in x (waiting items) y h);
          fits = All-tail (λ (y : Given J). Fits y.job) x (waiting items) ruled.fits;
          lead = ruled.lead;
          each =
              each_set (FitsJobs ruled.lead ruled.given ruled.next (overs_in items)) views place w
              (record {
                held = λ y h. ⊎_elim (λ (l : Contains v.held y). mine.held y l) (λ (is : x ≡ y). subst (Contains ruled.given) is first)
                    (Contains-push_cases v.held x y h);
                leads = λ is. let gives = mine.leads is in record {
                  alone = gives.alone;
                  same = gives.same;
                  number = gives.number;
                  said = gives.said;
                };
              })
              (λ j u apart e. ruled.each j u e);
        },
        (All-head (λ (y : Given J). Fits y.job) x (waiting items) ruled.fits, refl),
      )

  fewer_overs : (lead : ℕ) (given : List (Given J)) (next overs j : ℕ) (u : JobView J) → FitsJobs lead given next (overs + 1) j u
      → FitsJobs lead given next overs j u
  fewer_overs lead given next overs j u agrees =
      record {
        held = agrees.held;
        leads = λ is. let gives = agrees.leads is in record {
          alone = gives.alone;
          same = gives.same;
          number = gives.number;
          said = (let said = gives.said in omega arith);
        };
      }

  takes_over : (items : List (JobEntry J)) (views : List (JobView J)) → JobsRuled Fits (Over ∷ items) views → get_elem? views place ≡ some v
      → (w : JobView J) × JobsRuled Fits items (set views place w) × HasTaken Fits v Over w
  takes_over items views ruled at = (
    record v { heard = v.heard + 1 },
    record {
      given = ruled.given;
      next = ruled.next;
      numbers = ruled.numbers;
      once = λ h. (let old = ruled.once h in let d = sum_set (λ (u : JobView J). weigh h u.held) views place v (record v { heard = v.heard + 1 }) at in omega arith);
      waits = ruled.waits;
      fits = ruled.fits;
      lead = ruled.lead;
      each =
          each_set (FitsJobs ruled.lead ruled.given ruled.next (overs_in items)) views place (record v { heard = v.heard + 1 })
          (let mine = fewer_overs ruled.lead ruled.given ruled.next (overs_in items) place v (ruled.each place v at) in
          record {
            held = mine.held;
            leads = λ is. let gives = mine.leads is in record {
              alone = gives.alone;
              same = gives.same;
              number = gives.number;
              said = gives.said;
            };
          })
          (λ j u apart e. fewer_overs ruled.lead ruled.given ruled.next (overs_in items) j u (ruled.each j u e));
    },
    refl,
  )

  pub takes : Pops (JobsRuled Fits) place v (HasTaken Fits v)
  takes (Work x) items views ruled at = takes_work x items views ruled at
  takes Over items views ruled at = takes_over items views ruled at

-- ---- new passes are made, and what one holds goes to another

module _ {J : Type 0} (Fits : J → Type 0) (place : ℕ) (v : JobView J) where
  pub shares : Forks (JobsRuled Fits) place v v idle
  shares items views ruled at =
      let F : ℕ → JobView J → Type 0 = FitsJobs ruled.lead ruled.given ruled.next (overs_in items) in
      record {
        given = ruled.given;
        next = ruled.next;
        numbers = ruled.numbers;
        once = λ h.
            (let old = ruled.once h in
            let d = sum_set (λ (u : JobView J). weigh h u.held) views place v v at in
            let s = sum_snoc (λ (u : JobView J). weigh h u.held) (set views place v) idle in
            omega arith);
        waits = ruled.waits;
        fits = ruled.fits;
        lead = ruled.lead;
        each =
            each_snoc F (set views place v) idle (each_set F views place v (ruled.each place v at) (λ j u apart e. ruled.each j u e))
            (agrees_idle ruled.lead ruled.given ruled.next (overs_in items));
      }

  pub hands : Forks (JobsRuled Fits) place v (emptied v) (token_view v)
  hands items views ruled at =
      let F : ℕ → JobView J → Type 0 = FitsJobs ruled.lead ruled.given ruled.next (overs_in items) in
      let mine = ruled.each place v at in
      record {
        given = ruled.given;
        next = ruled.next;
        numbers = ruled.numbers;
        once = λ h.
            (let old = ruled.once h in
            let d = sum_set (λ (u : JobView J). weigh h u.held) views place v (emptied v) at in
            let s = sum_snoc (λ (u : JobView J). weigh h u.held) (set views place (emptied v)) (token_view v) in
            omega arith);
        waits = ruled.waits;
        fits = ruled.fits;
        lead = ruled.lead;
        each =
            each_snoc F (set views place (emptied v)) (token_view v)
            (each_set F views place (emptied v)
            (record {
              held = λ y h. absurd (none_in y h);
              leads = λ is. let gives = mine.leads is in record {
                alone = gives.alone;
                same = gives.same;
                number = gives.number;
                said = gives.said;
              };
            })
            (λ j u apart e. ruled.each j u e))
            (λ j. record { held = mine.held; leads = λ is. absurd (true≢false (sym is)) });
      }

  module _ (other : ℕ) (u : JobView J) where
    pub receives : Merges (JobsRuled Fits) place v other u (together v u) idle
    receives items views ruled at apart there =
        let F : ℕ → JobView J → Type 0 = FitsJobs ruled.lead ruled.given ruled.next (overs_in items) in
        let mine = ruled.each place v at in
        let was : get_elem? views other ≡ some u =
        ⊎_elim (λ (x : (other ≡ place) × (together v u ≡ u)). absurd (apart x.0))
        (λ (x : (other ≡ place → ⊥) × (get_elem? views other ≡ some u)). x.1) (at_set views place other (together v u) u there) in
        let theirs = ruled.each other u was in
        record {
          given = ruled.given;
          next = ruled.next;
          numbers = ruled.numbers;
          once = λ h.
              (let old = ruled.once h in
              let a = weigh-append h v.held u.held in
              let d = sum_set (λ (y : JobView J). weigh h y.held) views place v (together v u) at in
              let s = sum_set (λ (y : JobView J). weigh h y.held) (set views place (together v u)) other u idle there in
              omega arith);
          waits = ruled.waits;
          fits = ruled.fits;
          lead = ruled.lead;
          each =
              each_set F (set views place (together v u)) other idle (agrees_idle ruled.lead ruled.given ruled.next (overs_in items) other)
              (λ j y _ e.
              each_set F views place (together v u)
              (record {
                held = λ x h. ⊎_elim (λ (l : Contains v.held x). mine.held x l) (λ (r : Contains u.held x). theirs.held x r)
                    (Contains-append_cases v.held u.held x h);
                leads = λ is. let gives = mine.leads is in record {
                  alone = gives.alone;
                  same = gives.same;
                  number = gives.number;
                  said = gives.said;
                };
              })
              (λ k z _ f. ruled.each k z f) j y e);
        }

-- ---- the job that a pass holds is back

module _ {J : Type 0} (Fits : J → Type 0) (place : ℕ) (v : JobView J) (leads : v.leads ≡ true) where
  -- where the given jobs are cut, and what they are without the one that it holds
  record Cut (given : List (Given J)) (x : Given J) : Type 0 where
    before : List (Given J)
    after : List (Given J)
    whole : given ≡ before ++ x ∷ after
    off : taken_off x.number given ≡ before ++ after

  module _ (items : List (JobEntry J)) (views : List (JobView J)) (ruled : JobsRuled Fits items views) (at : get_elem? views place ≡ some v)
      (x : Given J) (held : v.held ≡ x ∷ []) where
    cut : Cut ruled.given x
    cut =
        let here = (ruled.each place v at).held x (subst (λ (l : List (Given J)). Contains l x) (sym held) (first_in x [])) in
        let p = parted ruled.given x here in
        record {
          before = p.0;
          after = p.1;
          whole = p.2;
          off = ap (taken_off x.number) p.2 ∙ off_taken 0 ruled.next p.0 p.1 x (subst (AreRising 0 ruled.next) p.2 ruled.numbers);
        }

    -- no other job that waits or is held has its number
    once_there : weigh (one_at x.number) (waiting items) + sum_over (λ (u : JobView J). weigh (one_at x.number) u.held) views ≤ 1
    once_there =
        let once = ruled.once (one_at x.number) in let most = times_most x.number 0 ruled.next ruled.given ruled.numbers in omega arith

    here_once : 1 ≤ weigh (one_at x.number) v.held
    here_once = times_in v.held x (subst (λ (l : List (Given J)). Contains l x) (sym held) (first_in x []))

    same_number : (y : Given J) (ys : List (Given J)) → y.number ≡ x.number → Contains ys y → 1 ≤ weigh (one_at x.number) ys
    same_number y ys e h = subst (λ (n : ℕ). 1 ≤ weigh (one_at n) ys) e (times_in ys y h)

    waits_apart : (y : Given J) → Contains (waiting items) y → y.number ≡ x.number → ⊥
    waits_apart y h e =
        let more = same_number y (waiting items) e h in
        let mine = here_once in
        let one = sum_one (λ (u : JobView J). weigh (one_at x.number) u.held) views place v at in
        let most = once_there in
        omega arith

    held_apart : (j : ℕ) (u : JobView J) → (j ≡ place → ⊥) → get_elem? views j ≡ some u → (y : Given J) → Contains u.held y
        → y.number ≡ x.number → ⊥
    held_apart j u apart e y h is =
        let more = same_number y u.held is h in
        let mine = here_once in
        let two = sum_two (λ (u : JobView J). weigh (one_at x.number) u.held) views place j v u apart at e in
        let most = once_there in
        omega arith

    left_in : (y : Given J) → (y.number ≡ x.number → ⊥) → Contains ruled.given y → Contains (cut.before ++ cut.after) y
    left_in y apart h = beside_in cut.before cut.after x y apart (subst (λ (l : List (Given J)). Contains l y) cut.whole h)

    ruled_after : JobsRuled Fits items (set views place (settled v) ++ idle ∷ [])
    ruled_after =
        let given : List (Given J) = cut.before ++ cut.after in
        let w : JobView J = settled v in
        let mine = (ruled.each place v at).leads leads in
        let F : ℕ → JobView J → Type 0 = FitsJobs ruled.lead given ruled.next (overs_in items) in
        record {
          given = given;
          next = ruled.next;
          numbers = rising_less 0 ruled.next cut.before cut.after x (subst (AreRising 0 ruled.next) cut.whole ruled.numbers);
          once = λ h.
              (let old = ruled.once h in
              let a = ap (weigh h) cut.whole in
              let b = weigh-append h cut.before (x ∷ cut.after) in
              let c = weigh-append h cut.before cut.after in
              let k = ap (weigh h) held in
              let d = sum_set (λ (u : JobView J). weigh h u.held) views place v w at in
              let s = sum_snoc (λ (u : JobView J). weigh h u.held) (set views place w) idle in
              omega arith);
          waits = λ y h. left_in y (waits_apart y h) (ruled.waits y h);
          fits = ruled.fits;
          lead = ruled.lead;
          each =
              each_snoc F (set views place w) idle
              (each_set F views place w
              (record {
                held = λ y h. absurd (none_in y h);
                leads = λ _. record {
                  alone = mine.alone;
                  same = ap (λ (l : List (Given J)). without l v.given) held ∙ ap (taken_off x.number) mine.same ∙ cut.off;
                  number = mine.number;
                  said = mine.said;
                };
              })
              (λ j u apart e. record {
                held = λ y h. left_in y (held_apart j u apart e y h) ((ruled.each j u e).held y h);
                leads = λ is. absurd (apart (((ruled.each j u e).leads is).alone ∙ sym mine.alone));
              }))
              (agrees_idle ruled.lead given ruled.next (overs_in items));
        }

  pub settles : (x : Given J) → v.held ≡ x ∷ [] → Forks (JobsRuled Fits) place v (settled v) idle
  settles x held items views ruled at = ruled_after items views ruled at x held

  pub owns : Learns (JobsRuled Fits) place v (λ items. HoldsAGivenOne v)
  owns items views ruled at x held =
      let mine = (ruled.each place v at).leads leads in
      let c = cut items views ruled at x held in
      (c.before, c.after, mine.same ∙ c.whole, ap (taken_off x.number) mine.same ∙ c.off)

-- ---- the passes of the one who gives jobs, after one of them came back

-- the pass came to hold one job, and what it gave is as before
pub record CameToHold {J : Type 0} (v w : JobView J) (x : Given J) : Type 0 where
  pub leads : w.leads ≡ v.leads
  pub next : w.next ≡ v.next
  pub given : w.given ≡ v.given
  pub overs : w.overs ≡ v.overs
  pub held : w.held ≡ x ∷ []

module _ {J : Type 0} (v w : JobView J) (x : Given J) (none : v.held ≡ []) where
  pub after_taking : w ≡ record v { held = v.held ++ x ∷ []; taken = v.taken ++ x ∷ [] } → CameToHold v w x
  after_taking is =
      record {
        leads = ap (λ (u : JobView J). u.leads) is;
        next = ap (λ (u : JobView J). u.next) is;
        given = ap (λ (u : JobView J). u.given) is;
        overs = ap (λ (u : JobView J). u.overs) is;
        held = ap (λ (u : JobView J). u.held) is ∙ ap (λ (l : List (Given J)). l ++ x ∷ []) none;
      }

  pub after_receiving : (u : JobView J) → u.held ≡ x ∷ [] → w ≡ together v u → CameToHold v w x
  after_receiving u one is =
      record {
        leads = ap (λ (y : JobView J). y.leads) is;
        next = ap (λ (y : JobView J). y.next) is;
        given = ap (λ (y : JobView J). y.given) is;
        overs = ap (λ (y : JobView J). y.overs) is;
        held = ap (λ (y : JobView J). y.held) is ∙ ap (λ (l : List (Given J)). l ++ u.held) none ∙ one;
      }

-- what is given then, if it is given no more
fewer : {J : Type 0} (v w : JobView J) (x : Given J) → w.held ≡ x ∷ [] → HoldsAGivenOne w → v ≡ settled w
    → length w.given ≡ length v.given + 1
fewer {J} v w x held owns is =
    let cut = owns x held in
    let whole = ap length cut.2 in
    let off = ap (λ (u : JobView J). length u.given) is ∙ ap (λ (l : List (Given J)). length (without l w.given)) held ∙ ap length cut.3 in
    let long = length-append cut.0 (x ∷ cut.1) in
    let short = length-append cut.0 cut.1 in
    omega arith

module _ {J R : Type 0} (next count : ℕ) (told : Bool) (seat holding after : Pass (JobEntry J) (JobView J)) (desk later : Pass (Slip J R) (ResultView J))
    (x : Given J) where
  pub still_leads : AreALead next count told seat desk → IsSamePass seat holding → CameToHold (view seat) (view holding) x
      → Settles holding after → later.me.1 ≡ [] → (view later).of ≡ (view desk).of → AreALead next (count - 1) told after later
  still_leads lead same came settles free of =
      let owns = settles.given in
      let kept = settles.same in
      let is = settles.back in
      let many = lead.many in
      let given = ap length came.given in
      let less = fewer (view after) (view holding) x came.held owns is in
      record {
        pair = record {
          seat_free = kept.2 ∙ same.2 ∙ lead.pair.seat_free;
          desk_free = free;
          holds_none = ap (λ (u : JobView J). u.held) is;
          told = of ∙ lead.pair.told ∙ ap (λ (q : TableId). Some q) (sym (kept.0 ∙ same.0));
        };
        leads = ap (λ (u : JobView J). u.leads) is ∙ came.leads ∙ lead.leads;
        none_over = λ none. ap (λ (u : JobView J). u.overs) is ∙ came.overs ∙ lead.none_over none;
        number = lead.number ∙ sym (ap (λ (u : JobView J). u.next) is ∙ came.next);
        many = omega arith;
      }

-- ---- the passes of a helper that took a job and paid for it

module _ {J R : Type 0} (seat taking after token : Pass (JobEntry J) (JobView J)) (desk later : Pass (Slip J R) (ResultView J)) (x : Given J) where
  -- the job is taken, handed to the token, and paid for with it
  pub record Helped : Type 0 where
    pub none : (view seat).held ≡ []
    pub taken : view taking ≡ record (view seat) { held = (view seat).held ++ x ∷ []; taken = (view seat).taken ++ x ∷ [] }
    pub left : view after ≡ emptied (view taking)
    pub handed : view token ≡ token_view (view taking)
    pub paid : view later ≡ record (view desk) { paid = (view desk).paid ++ jobs_held token }

  pub helped : (s : HelperState J) → helper_of seat desk ≡ s → IsSamePass seat taking → IsSamePass taking after → IsSamePass desk later
      → Helped → helper_of after later ≡ served s x
  helped s is same kept written h =
      let one =
      ap (λ (v : JobView J). v.held) h.handed ∙ ap (λ (v : JobView J). v.held) h.taken ∙ ap (λ (l : List (Given J)). l ++ x ∷ []) h.none in
      let taken = ap (λ (v : JobView J). v.taken) h.left ∙ ap (λ (v : JobView J). v.taken) h.taken in
      let heard = ap (λ (v : JobView J). v.heard) h.left ∙ ap (λ (v : JobView J). v.heard) h.taken in
      let paid = ap (λ (v : ResultView J). v.paid) h.paid ∙ ap (λ (l : List (Given J)). (view desk).paid ++ l) one in
      (λ i. record {
        crew = record { jobs = (kept.0 ∙ same.0) i; results = written.0 i };
        taken = taken i;
        paid = paid i;
        heard = heard i;
      })
      ∙ ap (λ (y : HelperState J). served y x) is
