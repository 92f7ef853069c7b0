-- What a contract sees of a crew, of the one who gives jobs and of a helper, and how each call changes it.
use Rattle.std.specs.Prelude.{◌≡◌, ℕ, ◌+◌, ◌≤◌, ◌⊎◌, Bool, true, false, List, [], ◌∷◌, ◌++◌, length, Some, refl}
use Rattle.atomic_table.specs.Seated.{TableId, table_id_coded}
use Rattle.crossbeam_queue.specs.Passes.{Pass, view, IsSamePass}
use Rattle.rubis_crew.specs.declared.job.Given.{Given}
use Rattle.rubis_crew.specs.declared.job.Back.{Back}
use Rattle.rubis_crew.specs.declared.rule.JobEntry.{JobEntry}
use Rattle.rubis_crew.specs.declared.rule.JobView.{JobView}
use Rattle.rubis_crew.specs.Rule.{HoldsAGivenOne, settled}
use Rattle.rubis_crew.specs.declared.results.ResultView.{ResultView}
use Rattle.rubis_crew.specs.declared.results.Slip.{Slip}
use Rattle.rubis_crew.specs.declared.crew.Found.{Found}
use Rattle.rubis_crew.specs.declared.crew.Found.TheVariants.{AJob, Nothing, Over}
use Rattle.std.specs.Coded.{Coded, code_by, coded×, coded_ℕ, coded_bool, coded_list}

-- which crew it is: its queue of jobs, and that of the results
pub record CrewId : Type 0 where
  pub jobs : TableId
  pub results : TableId

-- a crew, how many jobs may be given and not back, and how many helpers it has
pub record CrewState : Type 0 where
  pub id : CrewId
  pub room : ℕ
  pub helpers : ℕ

-- the one who gives jobs: the next number, the jobs that are given and not back, whether it said that no more come, and to how many
-- helpers
pub record LeadState (J : Type 0) : Type 0 where
  pub crew : CrewId
  pub next : ℕ
  pub given : List (Given J)
  pub ended : Bool
  pub told : ℕ

-- a helper: the jobs that it ever took, those for whose results it paid, and how often it took that no more come
pub record HelperState (J : Type 0) : Type 0 where
  pub crew : CrewId
  pub taken : List (Given J)
  pub paid : List (Given J)
  pub heard : ℕ

module _ {J : Type 0} where
  -- nothing was given yet
  abbrev pub new_lead : CrewId → LeadState J
  new_lead crew = record { crew = crew; next = 0; given = []; ended = false; told = 0 }

  -- nothing is taken
  abbrev pub new_helper : CrewId → HelperState J
  new_helper crew = record { crew = crew; taken = []; paid = []; heard = 0 }

  -- the job is given too, under the next number
  abbrev pub given_too : LeadState J → J → LeadState J
  given_too s job = record s { next = s.next + 1; given = s.given ++ record { number = s.next; job = job } ∷ [] }

  -- nothing is given any more
  abbrev pub drained : LeadState J → LeadState J
  drained s = record s { given = [] }

  -- it said that no more come, to that many helpers
  abbrev pub ended : ℕ → LeadState J → LeadState J
  ended helpers s = record s { ended = true; told = helpers }

  -- no more come, all jobs for which there is room are given, or all numbers are
  abbrev pub HasNoRoom : ℕ → LeadState J → Type 0
  HasNoRoom room s = (s.ended ≡ true) ⊎ ((room ≤ length s.given) ⊎ (18446744073709551615 ≤ s.next))

  -- a job that was given is given no more
  abbrev pub IsBack : LeadState J → Given J → LeadState J → Type 0
  IsBack s x t =
      (before : List (Given J)) × (after : List (Given J)) × (s.given ≡ before ++ x ∷ after) × (t ≡ record s { given = before ++ after })

  -- the job is taken and paid for
  abbrev pub served : HelperState J → Given J → HelperState J
  served s x = record s { taken = s.taken ++ x ∷ []; paid = s.paid ++ x ∷ [] }

  -- it took that no more come
  abbrev pub told_over : HelperState J → HelperState J
  told_over s = record s { heard = s.heard + 1 }

  -- what the helper found: a job, which it took and paid for; none, and nothing changes; or that no more come, which it took
  abbrev pub HasHelped : Found → HelperState J → HelperState J → Type 0
  HasHelped AJob s t = (x : Given J) × (t ≡ served s x)
  HasHelped Nothing s t = t ≡ s
  HasHelped Over s t = t ≡ told_over s

-- the result of a job that was given comes back under its number
abbrev pub ComesBack : {J R : Type 0} → (J → R → Type 0) → LeadState J → Back R → LeadState J → Type 0
ComesBack {J} Worked s back t = (job : J) × IsBack s (record { number = back.number; job = job }) t × Worked job back.result

-- ---- what the passes say

module _ {J R : Type 0} (seat : Pass (JobEntry J) (JobView J)) (desk : Pass (Slip J R) (ResultView J)) where
  abbrev pub crew_of : CrewId
  crew_of = record { jobs = seat.table_id; results = desk.table_id }

  abbrev pub helper_of : HelperState J
  helper_of = record { crew = crew_of; taken = (view seat).taken; paid = (view desk).paid; heard = (view seat).heard }

abbrev pub lead_of : {J R : Type 0} → Bool → Pass (JobEntry J) (JobView J) → Pass (Slip J R) (ResultView J) → LeadState J
lead_of told seat desk =
    record { crew = crew_of seat desk; next = (view seat).next; given = (view seat).given; ended = told; told = (view seat).overs }

-- a pass of the jobs that holds nothing, with one of their results
pub record AreAPair {J R : Type 0} (seat : Pass (JobEntry J) (JobView J)) (desk : Pass (Slip J R) (ResultView J)) : Type 0 where
  pub seat_free : seat.me.1 ≡ []
  pub desk_free : desk.me.1 ≡ []
  pub holds_none : (view seat).held ≡ []
  pub told : (view desk).of ≡ Some seat.table_id

-- they are those of the one who gives jobs: `count` are given and not back, and the next number is `next`
pub record AreALead {J R : Type 0} (next count : ℕ) (told : Bool) (seat : Pass (JobEntry J) (JobView J)) (desk : Pass (Slip J R) (ResultView J)) : Type 0 where
  pub pair : AreAPair seat desk
  pub leads : (view seat).leads ≡ true
  pub none_over : told ≡ false → (view seat).overs ≡ 0
  pub number : next ≡ (view seat).next
  pub many : count ≡ length (view seat).given

-- ---- what the one who gives jobs does with its pass

module _ {J : Type 0} where
  -- a job that was given and that the pass holds is back
  pub record Settles (old new : Pass (JobEntry J) (JobView J)) : Type 0 where
    pub same : IsSamePass old new
    pub given : HoldsAGivenOne (view old)
    pub back : view new ≡ settled (view old)

  -- all jobs are back, and it wasn't said that no more come
  abbrev pub HasAllBack : JobView J → Type 0
  HasAllBack v = (v.leads ≡ true) × (v.given ≡ []) × (v.overs ≡ 0)

  -- each of that many helpers is told that no more jobs come
  pub record TellsAll (helpers : ℕ) (old new : Pass (JobEntry J) (JobView J)) : Type 0 where
    pub same : IsSamePass old new
    pub said : view new ≡ record (view old) { overs = helpers }

-- ---- what a contract sees of a crew as plain data, by which proofs tell crews apart

abbrev pub crew_id_code : Coded CrewId
crew_id_code =
    code_by (TableId × TableId) (coded× table_id_coded table_id_coded) (λ c. (c.jobs, c.results))
    (λ c. record { jobs = c.0; results = c.1 }) (λ _. refl)

abbrev pub crew_code : Coded CrewState
crew_code =
    code_by (CrewId × (ℕ × ℕ)) (coded× crew_id_code (coded× coded_ℕ coded_ℕ)) (λ c. (c.id, (c.room, c.helpers)))
    (λ c. record { id = c.0; room = c.1.0; helpers = c.1.1 }) (λ _. refl)

module _ {J : Type 0} (job : Coded J) where
  abbrev pub given_code : Coded (Given J)
  given_code = code_by (ℕ × J) (coded× coded_ℕ job) (λ x. (x.number, x.job)) (λ c. record { number = c.0; job = c.1 }) (λ _. refl)

  abbrev pub lead_code : Coded (LeadState J)
  lead_code =
      code_by (CrewId × (ℕ × (List (Given J) × (Bool × ℕ))))
      (coded× crew_id_code (coded× coded_ℕ (coded× (coded_list given_code) (coded× coded_bool coded_ℕ))))
      (λ s. (s.crew, (s.next, (s.given, (s.ended, s.told)))))
      (λ c. record { crew = c.0; next = c.1.0; given = c.1.1.0; ended = c.1.1.1.0; told = c.1.1.1.1 }) (λ _. refl)

  abbrev pub helper_code : Coded (HelperState J)
  helper_code =
      code_by (CrewId × (List (Given J) × (List (Given J) × ℕ)))
      (coded× crew_id_code (coded× (coded_list given_code) (coded× (coded_list given_code) coded_ℕ)))
      (λ s. (s.crew, (s.taken, (s.paid, s.heard)))) (λ c. record { crew = c.0; taken = c.1.0; paid = c.1.1.0; heard = c.1.1.1 }) (λ _. refl)
