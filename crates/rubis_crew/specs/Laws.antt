-- Every step keeps the rules. Whatever the steps, each job that is given waits, is out or comes back, once.
use Rattle.std.specs.Prelude.{◌≡◌, ℕ, Bool, true, false, List, [], ◌∷◌, ◌++◌, slice_set, Some}
use Rattle.std.specs.List.{Contains}
use mathlib.Core.Option.{some}
use lib.ListN.{get_elem?}
use Rattle.atomic_table.specs.Seated.{TableId}
use Rattle.crossbeam_queue.specs.Fifo.{Pushes, Pops, Forks, Merges}
use Rattle.crossbeam_queue.specs.Passes.{Pass}
use Rattle.rubis_crew.specs.declared.job.Given.{Given}
use Rattle.rubis_crew.specs.declared.rule.JobView.{JobView}
use Rattle.rubis_crew.specs.declared.rule.JobEntry.{JobEntry}
use Rattle.rubis_crew.specs.declared.rule.JobEntry.TheVariants.{Work, Over}
use Rattle.rubis_crew.specs.declared.results.Payment.{Payment}
use Rattle.rubis_crew.specs.declared.results.ResultView.{ResultView}
use Rattle.rubis_crew.specs.declared.results.Slip.TheVariants.{Name, Pay}
use Rattle.rubis_crew.specs.Rule.{AreRising, weigh, waiting, first_view, idle, JobsRuled, HasPut, HasTaken, emptied, token_view, together, settled, EachAt, IsPaid}
use Rattle.rubis_crew.specs.Rule.{AreResults, unnamed, newcomer, HasNamed, HasPaid, HasCollected}

-- ---- one step, whatever a queue holds and whatever the other passes know

-- each step on the queue of jobs keeps its rule, whatever the queue holds and the other passes know
pub record JobStepsKeepTheRule {J : Type 0} (Fits : J → Type 0) : Type 0 where
  pub opening : JobsRuled Fits [] (first_view ∷ [])
  pub give : (room place : ℕ) (v : JobView J) (x : Given J) → v.leads ≡ true → x.number ≡ v.next → Fits x.job
      → Pushes (JobsRuled Fits) room place v (Work x) (HasPut v (Work x))
  pub say_over : (room place : ℕ) (v : JobView J) → v.leads ≡ true → Pushes (JobsRuled Fits) room place v Over (HasPut v Over)
  pub take : (place : ℕ) (v : JobView J) → Pops (JobsRuled Fits) place v (HasTaken Fits v)
  pub share : (place : ℕ) (v : JobView J) → Forks (JobsRuled Fits) place v v idle
  pub hand : (place : ℕ) (v : JobView J) → Forks (JobsRuled Fits) place v (emptied v) (token_view v)
  pub receive : (place : ℕ) (v : JobView J) (other : ℕ) (u : JobView J) → Merges (JobsRuled Fits) place v other u (together v u) idle
  pub settle : (place : ℕ) (v : JobView J) (x : Given J) → v.leads ≡ true → v.held ≡ x ∷ []
      → Forks (JobsRuled Fits) place v (settled v) idle

-- each step on the queue of results keeps its rule, whatever the queue holds and the other passes know
pub record ResultStepsKeepTheRule {J R : Type 0} (Worked : J → R → Type 0) : Type 0 where
  pub opening : AreResults Worked [] (unnamed ∷ [])
  pub name : (room place : ℕ) (v : ResultView J) (token : Pass (JobEntry J) (JobView J)) → v ≡ unnamed
      → Pushes (AreResults Worked) room place v (Name token) (HasNamed {R = R} v (Name token))
  pub pay : (room place : ℕ) (v : ResultView J) (queue : TableId) (p : Payment J R) → v.of ≡ Some queue → IsPaid Worked queue p
      → Pushes (AreResults Worked) room place v (Pay p) (HasPaid v (Pay p))
  pub collect : (place : ℕ) (v : ResultView J) → Pops (AreResults Worked) place v (HasCollected Worked v)
  pub join : (place : ℕ) (v : ResultView J) (queue : TableId) → v.of ≡ Some queue → Forks (AreResults Worked) place v v (newcomer v)

-- ---- many steps of many passes

-- what is in the queue of jobs, and what each pass knows
pub record JobState (J : Type 0) : Type 0 where
  pub items : List (JobEntry J)
  pub views : List (JobView J)

-- the step of a pass, which is known by its place
pub data Step (J : Type 0) : Type 0 where
  -- it gives a job, or says that no more come
  Puts : ℕ → JobEntry J → Step J
  -- it takes what is first
  Takes : ℕ → Step J
  -- a new pass is made
  Shares : ℕ → Step J
  -- a new pass is made, which goes back with the result of what it holds
  Hands : ℕ → Step J
  -- it takes back what another holds
  Receives : ℕ → ℕ → Step J
  -- what it holds is given no more
  Settles : ℕ → Step J

module _ {J : Type 0} where
  abbrev pub opening : JobState J
  opening = record { items = []; views = first_view ∷ [] }

  -- where its view changes, and where a new pass comes too
  abbrev pub with_view : List (JobEntry J) → JobState J → ℕ → JobView J → JobState J
  with_view items s i w = record { items = items; views = slice_set s.views i w }

  abbrev pub with_new : JobState J → ℕ → JobView J → JobView J → JobState J
  with_new s i w new = record { items = s.items; views = slice_set s.views i w ++ new ∷ [] }

  abbrev pub MayPut : (J → Type 0) → JobView J → JobEntry J → Type 0
  MayPut Fits v (Work x) = (v.leads ≡ true) × (x.number ≡ v.next) × Fits x.job
  MayPut Fits v Over = v.leads ≡ true

  abbrev pub Steps : (J → Type 0) → JobState J → Step J → JobState J → Type 0
  Steps Fits s (Puts i item) t =
      (v : JobView J) × (w : JobView J) × (get_elem? s.views i ≡ some v) × MayPut Fits v item × HasPut v item w
      × (t ≡ with_view (s.items ++ item ∷ []) s i w)
  Steps Fits s (Takes i) t =
      (v : JobView J) × (w : JobView J) × (item : JobEntry J) × (get_elem? s.views i ≡ some v) × (s.items ≡ item ∷ t.items)
      × HasTaken Fits v item w × (t ≡ with_view t.items s i w)
  Steps Fits s (Shares i) t = (v : JobView J) × (get_elem? s.views i ≡ some v) × (t ≡ with_new s i v idle)
  Steps Fits s (Hands i) t = (v : JobView J) × (get_elem? s.views i ≡ some v) × (t ≡ with_new s i (emptied v) (token_view v))
  Steps Fits s (Receives i j) t =
      (v : JobView J) × (u : JobView J) × (get_elem? s.views i ≡ some v) × (j ≡ i → ⊥)
      × (get_elem? (slice_set s.views i (together v u)) j ≡ some u)
      × (t ≡ record { items = s.items; views = slice_set (slice_set s.views i (together v u)) j idle })
  Steps Fits s (Settles i) t =
      (v : JobView J) × (x : Given J) × (get_elem? s.views i ≡ some v) × (v.leads ≡ true) × (v.held ≡ x ∷ [])
      × (t ≡ with_new s i (settled v) idle)

  abbrev pub StepsAll : (J → Type 0) → JobState J → List (Step J) → JobState J → Type 0
  StepsAll Fits s [] t = s ≡ t
  StepsAll Fits s (step ∷ steps) t = (between : JobState J) × Steps Fits s step between × StepsAll Fits between steps t

  -- what a pass holds, where it goes back with a result, or where it doesn't
  abbrev pub held_if : Bool → Bool → List (Given J) → List (Given J)
  held_if true true held = held
  held_if true false held = []
  held_if false true held = []
  held_if false false held = held

  -- what is held by the passes that go back with a result, or by the others
  abbrev pub held_by : Bool → List (JobView J) → List (Given J)
  held_by pays [] = []
  held_by pays (v ∷ views) = held_if pays v.pays v.held ++ held_by pays views

  -- what is held by passes that don't go back with a result
  abbrev pub out : List (JobView J) → List (Given J)
  out views = held_by false views

  -- what is held by passes that go back with a result
  abbrev pub coming_back : List (JobView J) → List (Given J)
  coming_back views = held_by true views

-- each job that is given waits, is out or comes back, once, and under its own number; no other does
pub record IsAccounted {J : Type 0} (s : JobState J) : Type 0 where
  pub given : List (Given J)
  pub next : ℕ
  -- what the pass that gives jobs knows to be given
  pub known : EachAt (λ _ v. v.leads ≡ true → v.given ≡ given) s.views
  -- under numbers that differ
  pub numbers : AreRising 0 next given
  -- each of these numbers stands once among those that wait, are out or come back, and no other does
  pub once : (h : ℕ → ℕ) → weigh h given ≡ weigh h (waiting s.items ++ (out s.views ++ coming_back s.views))
  -- and under it the job that was given
  pub same : (x : Given J) → Contains (waiting s.items ++ (out s.views ++ coming_back s.views)) x → Contains given x

-- after any list of steps of any passes, in any order, the jobs are accounted for
abbrev pub EveryListOfStepsAccounts : {J : Type 0} → (J → Type 0) → Type 0
EveryListOfStepsAccounts {J} Fits = (steps : List (Step J)) (t : JobState J) → StepsAll Fits opening steps t → IsAccounted t
