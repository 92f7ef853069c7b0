-- Each step keeps the rule of the results.
use Rattle.std.proofs.Common.{◌≡◌, ℕ, zero, suc, inl, inr, Some, List, [], ◌∷◌, ◌++◌, length, set, All, sym, refl, ap, ◌∙◌, subst, ⊎_elim, arith}
use Rattle.std.proofs.lemmas.List.Elements.{All-nil, All-push, All-head, All-tail}
use Rattle.std.proofs.lemmas.Option.{none-some, same_Some}
use mathlib.Core.Option.{some, some-injective, some-ne-none}
use lib.ListN.{get_elem?}
use Rattle.atomic_table.specs.Seated.{TableId}
use Rattle.crossbeam_queue.specs.Fifo.{Pushes, Pops, Forks, Learns}
use Rattle.crossbeam_queue.specs.Passes.{Pass}
use Rattle.crossbeam_queue.proofs.Lists.{at_set, at_snoc}
use Rattle.rubis_crew.specs.declared.rule.JobEntry.{JobEntry}
use Rattle.rubis_crew.specs.declared.rule.JobView.{JobView}
use Rattle.rubis_crew.specs.declared.results.Payment.{Payment}
use Rattle.rubis_crew.specs.declared.results.ResultView.{ResultView}
use Rattle.rubis_crew.specs.declared.results.Slip.{Slip}
use Rattle.rubis_crew.specs.declared.results.Slip.TheVariants.{Name, Pay}
use Rattle.rubis_crew.specs.Rule.{jobs_held, IsPaid, BelongsTo, unnamed, newcomer, Named, AreResults, HasNamed, HasPaid, HasCollected}

module _ {A : Type 0} where
  -- a list of one has one place, and there it is
  one_place : (x a b : A) (i j : ℕ) → get_elem? (x ∷ []) i ≡ some a → get_elem? (x ∷ []) j ≡ some b → j ≡ i
  one_place x a b zero zero e d = refl
  one_place x a b zero (suc j) e d = absurd (some-ne-none b (sym d))
  one_place x a b (suc i) j e d = absurd (some-ne-none a (sym e))

  the_one : (x a : A) (i : ℕ) → get_elem? (x ∷ []) i ≡ some a → x ≡ a
  the_one x a zero e = some-injective x a e
  the_one x a (suc i) e = absurd (some-ne-none a (sym e))

module _ {J R : Type 0} (Worked : J → R → Type 0) where
  abbrev NoneYet : List (Slip J R) → List (ResultView J) → Type 0
  NoneYet slips views = (slips ≡ []) × (views ≡ unnamed ∷ [])

  abbrev Some_of_one : List (Slip J R) → List (ResultView J) → Type 0
  Some_of_one slips views = (queue : TableId) × Named Worked queue slips views

  pub results_begin : AreResults Worked [] (unnamed ∷ [])
  results_begin = inl (refl, refl)

  module _ (place : ℕ) (v : ResultView J) where
    untold : (slips : List (Slip J R)) (views : List (ResultView J)) → NoneYet slips views → get_elem? views place ≡ some v → v ≡ unnamed
    untold slips views none at = sym (the_one unnamed v place (subst (λ (l : List (ResultView J)). get_elem? l place ≡ some v) none.1 at))

    told_all : (views : List (ResultView J)) (w : ResultView J) (queue : TableId) → w.of ≡ Some queue
        → ((j : ℕ) (u : ResultView J) → (j ≡ place → ⊥) → get_elem? views j ≡ some u → u.of ≡ Some queue) → (j : ℕ) (u : ResultView J)
        → get_elem? (set views place w) j ≡ some u → u.of ≡ Some queue
    told_all views w queue mine others j u e =
        ⊎_elim (λ (x : (j ≡ place) × (w ≡ u)). subst (λ (y : ResultView J). y.of ≡ Some queue) x.1 mine)
        (λ (x : (j ≡ place → ⊥) × (get_elem? views j ≡ some u)). others j u x.0 x.1) (at_set views place j w u e)

    pub names : (room : ℕ) (token : Pass (JobEntry J) (JobView J)) → v ≡ unnamed
        → Pushes (AreResults Worked) room place v (Name token) (HasNamed {R = R} v (Name token))
    names room token is slips views _ ruled at =
        ⊎_elim
        (λ (none : NoneYet slips views).
        let queue : TableId = token.table_id in
        let w : ResultView J = record v { of = Some queue } in
        let belong : All (BelongsTo Worked queue) (slips ++ Name token ∷ []) =
        subst (λ (l : List (Slip J R)). All (BelongsTo Worked queue) (l ++ Name token ∷ [])) (sym none.0)
        (All-push (BelongsTo Worked queue) [] (Name token) (All-nil (BelongsTo Worked queue)) refl) in (
          w,
          inr (
            queue,
            record {
              belong = belong;
              told = told_all views w queue refl (λ j u apart e.
                  absurd (apart (one_place unnamed v u place j (subst (λ (l : List (ResultView J)). get_elem? l place ≡ some v) none.1 at)
                  (subst (λ (l : List (ResultView J)). get_elem? l j ≡ some u) none.1 e))));
            },
          ),
          refl,
        ))
        (λ (one : Some_of_one slips views).
        absurd (none-some one.0 (sym (ap (λ (u : ResultView J). u.of) is) ∙ one.1.told place v at)))
        ruled

    pub none_in : v ≡ unnamed → Learns (AreResults Worked) place v (λ slips. slips ≡ [])
    none_in is slips views ruled at =
        ⊎_elim (λ (none : NoneYet slips views). none.0)
        (λ (one : Some_of_one slips views).
        absurd (none-some one.0 (sym (ap (λ (u : ResultView J). u.of) is) ∙ one.1.told place v at)))
        ruled

    pub pays : (room : ℕ) (queue : TableId) (p : Payment J R) → v.of ≡ Some queue → IsPaid Worked queue p
        → Pushes (AreResults Worked) room place v (Pay p) (HasPaid v (Pay p))
    pays room queue p of paid slips views _ ruled at =
        ⊎_elim
        (λ (none : NoneYet slips views).
        absurd (none-some queue (sym (ap (λ (u : ResultView J). u.of) (untold slips views none at)) ∙ of)))
        (λ (one : Some_of_one slips views).
        let here = one.1.told place v at in
        let w : ResultView J = record v { paid = v.paid ++ jobs_held p.token } in
        let same : queue ≡ one.0 = same_Some queue one.0 (sym of ∙ here) in (
          w,
          inr (
            one.0,
            record {
              belong = All-push (BelongsTo Worked one.0) slips (Pay p) one.1.belong (subst (λ (q : TableId). IsPaid Worked q p) same paid);
              told = told_all views w one.0 here (λ j u _ e. one.1.told j u e);
            },
          ),
          refl,
        ))
        ruled

    pub collects : Pops (AreResults Worked) place v (HasCollected Worked v)
    collects slip slips views ruled at =
        ⊎_elim (λ (none : NoneYet (slip ∷ slips) views). absurd (let e = ap length none.0 in omega arith))
        (λ (one : Some_of_one (slip ∷ slips) views). (
          v,
          inr (
            one.0,
            record {
              belong = All-tail (BelongsTo Worked one.0) slip slips one.1.belong;
              told = told_all views v one.0 (one.1.told place v at) (λ j u _ e. one.1.told j u e);
            },
          ),
          (refl, (one.0, one.1.told place v at, All-head (BelongsTo Worked one.0) slip slips one.1.belong)),
        ))
        ruled

    pub joins : (queue : TableId) → v.of ≡ Some queue → Forks (AreResults Worked) place v v (newcomer v)
    joins queue of slips views ruled at =
        ⊎_elim
        (λ (none : NoneYet slips views).
        absurd (none-some queue (sym (ap (λ (u : ResultView J). u.of) (untold slips views none at)) ∙ of)))
        (λ (one : Some_of_one slips views).
        let here = one.1.told place v at in
        let told : (j : ℕ) (u : ResultView J) → get_elem? (set views place v) j ≡ some u → u.of ≡ Some one.0 =
        told_all views v one.0 here (λ j u _ e. one.1.told j u e) in
        inr (
          one.0,
          record {
            belong = one.1.belong;
            told = λ j u e. ⊎_elim (λ (x : get_elem? (set views place v) j ≡ some u). told j u x)
                (λ (is : newcomer v ≡ u). subst (λ (y : ResultView J). y.of ≡ Some one.0) is here)
                (at_snoc (set views place v) (newcomer v) u j e);
          },
        ))
        ruled
