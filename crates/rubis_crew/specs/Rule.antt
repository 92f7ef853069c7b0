-- The rules of a crew: what is so of the queues of jobs and of results and of their passes, before and after every step.
use Rattle.std.specs.Prelude.{◌≡◌, ℕ, ◌+◌, ◌<◌, ◌≤◌, true, false, cond, eqb, List, [], ◌∷◌, ◌++◌, length, ◌⊎◌, Some, None}
use Rattle.std.specs.List.{All, Contains}
use mathlib.Core.Option.{some}
use lib.ListN.{get_elem?}
use Rattle.rubis_crew.specs.declared.job.Given.{Given}
use Rattle.rubis_crew.specs.declared.rule.JobView.{JobView}
use Rattle.rubis_crew.specs.declared.rule.JobEntry.{JobEntry}
use Rattle.rubis_crew.specs.declared.rule.JobEntry.TheVariants.{Work, Over}
use Rattle.atomic_table.specs.Seated.{TableId}
use Rattle.crossbeam_queue.specs.Passes.{Pass, view}
use Rattle.rubis_crew.specs.declared.results.Payment.{Payment}
use Rattle.rubis_crew.specs.declared.results.ResultView.{ResultView}
use Rattle.rubis_crew.specs.declared.results.Slip.{Slip}
use Rattle.rubis_crew.specs.declared.results.Slip.TheVariants.{Name, Pay}

module _ {J : Type 0} where
  -- ---- jobs under their numbers

  -- the numbers rise from `low` on and are below `next`: no two are the same
  abbrev pub AreRising : ℕ → ℕ → List (Given J) → Type 0
  AreRising low next [] = low ≤ next
  AreRising low next (x ∷ xs) = (low ≤ x.number) × AreRising (x.number + 1) next xs

  -- they are all below `n`
  abbrev pub AreBelow : ℕ → List (Given J) → Type 0
  AreBelow n xs = All (λ x. x.number < n) xs

  -- what the numbers weigh together
  abbrev pub weigh : (ℕ → ℕ) → List (Given J) → ℕ
  weigh h [] = 0
  weigh h (x ∷ xs) = h x.number + weigh h xs

  -- without the first one of that number
  abbrev pub taken_off : ℕ → List (Given J) → List (Given J)
  taken_off n [] = []
  taken_off n (x ∷ xs) = cond (eqb x.number n) xs (x ∷ taken_off n xs)

  -- without one that is held
  abbrev pub without : List (Given J) → List (Given J) → List (Given J)
  without [] given = given
  without (x ∷ held) given = taken_off x.number given

  -- ---- the queue

  -- the jobs that wait
  abbrev pub waiting : List (JobEntry J) → List (Given J)
  waiting [] = []
  waiting (Work x ∷ items) = x ∷ waiting items
  waiting (Over ∷ items) = waiting items

  -- how often the queue says that no more come
  abbrev pub overs_in : List (JobEntry J) → ℕ
  overs_in [] = 0
  overs_in (Work x ∷ items) = overs_in items
  overs_in (Over ∷ items) = overs_in items + 1

  -- ---- all passes

  -- what a number of each pass adds up to
  abbrev pub sum_over : (JobView J → ℕ) → List (JobView J) → ℕ
  sum_over f [] = 0
  sum_over f (v ∷ views) = f v + sum_over f views

  abbrev pub EachAt : (ℕ → JobView J → Type 0) → List (JobView J) → Type 0
  EachAt F views = (place : ℕ) (v : JobView J) → get_elem? views place ≡ some v → F place v

  -- the pass that gives jobs, when none is given
  abbrev pub first_view : JobView J
  first_view = record { leads = true; next = 0; given = []; overs = 0; held = []; taken = []; pays = false; heard = 0 }

  -- a pass that holds nothing
  abbrev pub idle : JobView J
  idle = record { leads = false; next = 0; given = []; overs = 0; held = []; taken = []; pays = false; heard = 0 }

-- ---- the rule

-- the pass gives the jobs: no other does, and it knows which are given, the next number, and how often no more come
pub record GivesThem {J : Type 0} (lead : ℕ) (given : List (Given J)) (next overs place : ℕ) (v : JobView J) : Type 0 where
  pub alone : place ≡ lead
  pub same : v.given ≡ given
  pub number : v.next ≡ next
  pub said : overs ≤ v.overs

-- a pass fits the jobs that are given
pub record FitsJobs {J : Type 0} (lead : ℕ) (given : List (Given J)) (next overs place : ℕ) (v : JobView J) : Type 0 where
  -- what it holds is given
  pub held : (x : Given J) → Contains v.held x → Contains given x
  pub leads : v.leads ≡ true → GivesThem lead given next overs place v

-- the rule of the jobs: what the queue's items and what all passes know have to do with each other
pub record JobsRuled {J : Type 0} (Fits : J → Type 0) (items : List (JobEntry J)) (views : List (JobView J)) : Type 0 where
  -- the jobs that are given and aren't back, under numbers that differ
  pub given : List (Given J)
  pub next : ℕ
  pub numbers : AreRising 0 next given
  -- each of these numbers waits or is held by a pass, once, and no other does
  pub once : (h : ℕ → ℕ) → weigh h given ≡ weigh h (waiting items) + sum_over (λ v. weigh h v.held) views
  -- and under it is the job that was given
  pub waits : (x : Given J) → Contains (waiting items) x → Contains given x
  pub fits : All (λ x. Fits x.job) (waiting items)
  -- one pass at most gives jobs
  pub lead : ℕ
  pub each : EachAt (FitsJobs lead given next (overs_in items)) views

-- ---- the steps

module _ {J : Type 0} where
  -- a job is given under the next number, which none of those that are given has; or no more come
  abbrev pub HasPut : JobView J → JobEntry J → JobView J → Type 0
  HasPut v (Work x) w = (w ≡ record v { next = v.next + 1; given = v.given ++ x ∷ [] }) × AreBelow x.number v.given
  HasPut v Over w = w ≡ record v { overs = v.overs + 1 }

  -- no more lies in the queue than is given, and was said
  abbrev pub AreFew : JobView J → List (JobEntry J) → Type 0
  AreFew v items = length items ≤ length v.given + v.overs

  -- the pass holds the job that it took; or it took that no more come
  abbrev pub HasTaken : (J → Type 0) → JobView J → JobEntry J → JobView J → Type 0
  HasTaken Fits v (Work x) w = Fits x.job × (w ≡ record v { held = v.held ++ x ∷ []; taken = v.taken ++ x ∷ [] })
  HasTaken Fits v Over w = w ≡ record v { heard = v.heard + 1 }

  -- a pass that gives away what it holds, and the one that then holds it and goes back with the result
  abbrev pub emptied : JobView J → JobView J
  emptied v = record v { held = [] }

  -- a new pass that holds what this one held, and goes back with the result
  abbrev pub token_view : JobView J → JobView J
  token_view v = record { leads = false; next = 0; given = []; overs = 0; held = v.held; taken = []; pays = true; heard = 0 }

  -- the first pass holds what both did
  abbrev pub together : JobView J → JobView J → JobView J
  together v u = record v { held = v.held ++ u.held }

  -- what the pass holds is one of the jobs that it gave, and taken off leaves the others
  abbrev pub HoldsAGivenOne : JobView J → Type 0
  HoldsAGivenOne v =
      (x : Given J) → v.held ≡ x ∷ []
      → (before : List (Given J)) × (after : List (Given J)) × (v.given ≡ before ++ x ∷ after)
      × (taken_off x.number v.given ≡ before ++ after)

  -- the job that it holds is given no more
  abbrev pub settled : JobView J → JobView J
  settled v = record v { given = without v.held v.given; held = [] }

-- ---- the rule of the results: what is so of their queue and of its passes, before and after every step

-- the jobs that a pass holds
abbrev pub jobs_held : {J : Type 0} → Pass (JobEntry J) (JobView J) → List (Given J)
jobs_held token = (view token).held

-- it is the result of the one job that its token holds, under that job's number; and the token is one of that queue of jobs
pub record IsPaid {J R : Type 0} (Worked : J → R → Type 0) (queue : TableId) (p : Payment J R) : Type 0 where
  pub queued : p.token.table_id ≡ queue
  pub none_out : p.token.me.1 ≡ []
  pub job : J
  pub held : jobs_held p.token ≡ record { number = p.number; job = job } ∷ []
  pub worked : Worked job p.result

module _ {J R : Type 0} (Worked : J → R → Type 0) where
  abbrev pub BelongsTo : TableId → Slip J R → Type 0
  BelongsTo queue (Name token) = token.table_id ≡ queue
  BelongsTo queue (Pay p) = IsPaid Worked queue p

module _ {J : Type 0} where
  -- a pass that wasn't told whose results these are
  abbrev pub unnamed : ResultView J
  unnamed = record { of = None; paid = [] }

  -- one that was, and paid nothing
  abbrev pub newcomer : ResultView J → ResultView J
  newcomer v = record v { paid = [] }

-- what lies in the queue belongs to these jobs, and each pass was told so
pub record Named {J R : Type 0} (Worked : J → R → Type 0) (queue : TableId) (slips : List (Slip J R)) (views : List (ResultView J)) : Type 0 where
  pub belong : All (BelongsTo Worked queue) slips
  pub told : (place : ℕ) (v : ResultView J) → get_elem? views place ≡ some v → v.of ≡ Some queue

module _ {J R : Type 0} where
  -- nothing was put in yet, by its one pass; or all belongs to one queue of jobs
  abbrev pub AreResults : (J → R → Type 0) → List (Slip J R) → List (ResultView J) → Type 0
  AreResults Worked slips views =
      ((slips ≡ []) × (views ≡ unnamed ∷ [])) ⊎ ((queue : TableId) × Named Worked queue slips views)

  -- ---- the steps

  -- the pass told the queue whose results come back here
  abbrev pub HasNamed : ResultView J → Slip J R → ResultView J → Type 0
  HasNamed v (Name token) w = w ≡ record v { of = Some token.table_id }
  HasNamed v (Pay p) w = ⊥

  -- the pass paid for the job that the token holds
  abbrev pub HasPaid : ResultView J → Slip J R → ResultView J → Type 0
  HasPaid v (Name token) w = ⊥
  HasPaid v (Pay p) w = w ≡ record v { paid = v.paid ++ jobs_held p.token }

  -- the pass took out what belongs to the jobs whose results these are
  abbrev pub HasCollected : (J → R → Type 0) → ResultView J → Slip J R → ResultView J → Type 0
  HasCollected Worked v slip w = (w ≡ v) × ((queue : TableId) × (v.of ≡ Some queue) × BelongsTo Worked queue slip)
