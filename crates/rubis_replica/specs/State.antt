-- How a site is set up, its state, what its calls answer, and messages that arrive at it one after the other.
use Rattle.rubis_release.specs.declared.intake.IntakeFault.{IntakeFault}
use Rattle.rubis_release.specs.declared.intake.IntakeFault.TheVariants as intake
use Rattle.rubis_replica.specs.declared.faults.Fault.{Fault}
use Rattle.rubis_replica.specs.declared.faults.Fault.TheVariants.{Refused, Memory, Behind}
use Rattle.std.specs.Prelude.{ℕ, ◌<◌, ◌≡◌, ◌-◌, ◌⊎◌, List, length, Result, Ok, Err, MatchResult, OnOk, ⊤, ◌++◌}
use Rattle.rubis_schema.specs.declared.limits.TheConstants.{BATCH_MAX, KEEP_MAX, SHARDS_MAX, SITES_MAX, WORKERS_MAX}
use Rattle.rubis_model.specs.Site.{Place, Replica}
use Rattle.rubis_replica.specs.Counts.{IsCount}
use Rattle.rubis_schema.specs.declared.listings.Listing.{Listing}
use Rattle.rubis_schema.specs.declared.listings.Listing.TheVariants.{Log}
use Rattle.rubis_schema.specs.declared.refusals.Refusal.{Refusal}
use Rattle.rubis_message.specs.declared.answers.Arrival.{Arrival}
use Rattle.rubis_message.specs.declared.answers.Arrival.TheVariants.{Released, Held, Repeat}
use Rattle.rubis_replica.specs.Follow.{HasBegun, IsBatched, end_of, left_of, resting_at, short}
use Rattle.rubis_replica.specs.declared.progress.Progress.{Progress}
use Rattle.rubis_message.specs.Message.{Message}
pub use Rattle.rubis_model.specs.Site.{after_all, answers_to}

-- what an intake refuses, the site refuses; where the intake is out of memory, so is the site
abbrev pub fault_of : IntakeFault → Fault
fault_of (intake.Refused r) = Refused r
fault_of (intake.Memory m) = Memory

-- ---- how a site is set up

-- the site, one of `sites`; its shards, workers and batches; how many messages it keeps
pub record Setup : Type 0 where
  pub site : ℕ
  pub sites : ℕ
  pub shards : ℕ
  pub workers : ℕ
  pub batch : ℕ
  pub keep : ℕ

-- each number is within its limits
pub record IsSetup (s : Setup) : Type 0 where
  pub site : s.site < s.sites
  pub sites : IsCount s.sites SITES_MAX
  pub shards : IsCount s.shards SHARDS_MAX
  pub workers : IsCount s.workers WORKERS_MAX
  pub batch : IsCount s.batch BATCH_MAX
  pub keep : IsCount s.keep KEEP_MAX

-- all of it that answers depend on
abbrev pub setup_place : Setup → Place
setup_place s = record { site = s.site; sites = s.sites; keep = s.keep }

-- ---- a site's state, and what its calls answer

-- a site: which one, its state, how far its tables are in its log, and how many messages a batch has
pub record SiteState : Type 0 where
  pub place : Place
  pub state : Replica
  pub progress : Progress
  pub batch : ℕ

-- how many released messages aren't applied yet
abbrev pub pending : SiteState → ℕ
pending s = length s.state.log - s.progress.applied

-- the site with all that was pending applied
abbrev pub with_all_applied : SiteState → SiteState
with_all_applied s = record s { progress = resting_at (length s.state.log) }

-- the site as it was, but that memory ran out when what is pending was to be applied
abbrev pub with_none_applied : SiteState → SiteState
with_none_applied s = record s { progress = short s.progress }

-- the same with what was kept applied, and no more
abbrev pub with_kept_applied : SiteState → SiteState
with_kept_applied s = record s { progress = short (resting_at (end_of s.progress)) }

-- the call answers as the step says; where it doesn't, the site's state is as it was
abbrev pub AnswersAsTheStep : {A : Type 0} → SiteState → SiteState → Replica × Result A Refusal → Result A Fault → Type 0
AnswersAsTheStep old new step (Ok a) = (new.state ≡ step.0) × (step.1 ≡ Ok a)
AnswersAsTheStep old new step (Err (Refused r)) = (new.state ≡ old.state) × (step.1 ≡ Err r)
AnswersAsTheStep old new step (Err fault) = new.state ≡ old.state

-- the call adds the rows that the step answers with; where it doesn't, the site's state is as it was
abbrev pub AddsRows : (List (List (List ℕ)) → Type 0) → SiteState → SiteState → Replica × Result (List (List (List ℕ))) Refusal
    → Result (Unit {0}) Fault → Type 0
AddsRows adds old new step (Ok u) = (new.state ≡ step.0) × MatchResult step.1 adds (λ r. ⊥)
AddsRows adds old new step (Err (Refused r)) = (new.state ≡ old.state) × (step.1 ≡ Err r)
AddsRows adds old new step (Err fault) = new.state ≡ old.state

-- a site that is behind says so, and stays as it is
abbrev pub WaitsBehind : {A : Type 0} → SiteState → SiteState → Result A Fault → Type 0
WaitsBehind old new result = 0 < left_of old.progress → (result ≡ Err Behind) × (new ≡ old)

-- ---- how far the tables are after a call

-- a call without tables and without memory leaves them, and nothing but a site that was behind keeps it from an answer
abbrev pub NeedsNoTables : {A : Type 0} → SiteState → SiteState → Result A Fault → Type 0
NeedsNoTables old new (Ok a) = new.progress ≡ old.progress
NeedsNoTables old new (Err (Refused r)) = new ≡ old
NeedsNoTables old new (Err Behind) = 0 < left_of old.progress
NeedsNoTables old new (Err Memory) = ⊥

-- after an arrival that released something, what is pending is a batch or waits; any other leaves the tables, and one
-- that is refused all else too
abbrev pub TakesIn : SiteState → SiteState → Result Arrival Fault → Type 0
TakesIn old new (Ok (Released n)) = IsBatched old.batch new.state.log old.progress new.progress
TakesIn old new (Ok Held) = new.progress ≡ old.progress
TakesIn old new (Ok Repeat) = new.progress ≡ old.progress
TakesIn old new (Err (Refused r)) = new ≡ old
TakesIn old new (Err Behind) = 0 < left_of old.progress
TakesIn old new (Err Memory) = new ≡ old

-- why what was pending isn't applied: a batch of it has begun and isn't whole, or nothing of the next one is done
abbrev pub IsCutFault : SiteState → SiteState → Fault → Type 0
IsCutFault old new (Refused r) = ⊥
IsCutFault old new Behind = left_of old.progress ≡ 0 → HasBegun old.state.log old.progress new.progress
IsCutFault old new Memory = (new ≡ with_none_applied old) ⊎ (new ≡ with_kept_applied old)

-- all that was pending is applied, or was tried to be; nothing else changed
pub record IsRefreshed (old new : SiteState) (result : Result (Unit {0}) Fault) : Type 0 where
  pub place : new.place ≡ old.place
  pub batch : new.batch ≡ old.batch
  pub state : new.state ≡ old.state
  pub ok : OnOk result (new ≡ with_all_applied old)

-- why a call that reads the tables gives no answer. It applies all that is pending first: without memory for that a batch of it
-- has begun and isn't whole, or nothing of the next one is done; where it comes to nothing later, all stays applied
abbrev pub IsReadFault : SiteState → SiteState → Fault → Type 0
IsReadFault old new (Refused r) = new ≡ with_all_applied old
IsReadFault old new Behind = left_of old.progress ≡ 0 → HasBegun old.state.log old.progress new.progress
IsReadFault old new Memory = (new ≡ with_none_applied old) ⊎ (new ≡ with_kept_applied old) ⊎ (new ≡ with_all_applied old)

-- a listing of the log reads no tables and changes nothing, and it yields its rows unless the site was behind or memory
-- ran out
abbrev pub ListsTheLog : {A : Type 0} → SiteState → SiteState → Result A Fault → Type 0
ListsTheLog old new (Ok rows) = new ≡ old
ListsTheLog old new (Err (Refused r)) = ⊥
ListsTheLog old new (Err Behind) = (0 < left_of old.progress) × (new ≡ old)
ListsTheLog old new (Err Memory) = new ≡ old

-- how far the tables are after a listing: all but that of the log read them, so all is applied first
abbrev pub Lists : {A : Type 0} → Listing → SiteState → SiteState → Result A Fault → Type 0
Lists Log old new result = ListsTheLog old new result
Lists l old new result = MatchResult result (λ rows. new ≡ with_all_applied old) (IsReadFault old new)

-- the site can list: all of its log stands in its tables, unless the listing is of the log itself
abbrev pub IsReadyFor : Listing → SiteState → Type 0
IsReadyFor Log s = ⊤
IsReadyFor l s = s.progress ≡ resting_at (length s.state.log)

-- ---- messages that arrive at a site one after the other: how many of them it took in, and why not all

-- the first of the messages were taken in, and each was answered; the others are the rest
pub record TakesFirst (p : Place) (old new : Replica) (messages : List Message) (answers : List (Result Arrival Refusal)) (rest : List Message) : Type 0 where
  pub taken : List Message
  pub parts : messages ≡ taken ++ rest
  pub state : new ≡ after_all p old taken
  pub told : answers ≡ answers_to p old taken

-- why not all of the messages were taken in, where the site wasn't behind: there was no memory for the first of the rest
abbrev pub IsStop : ℕ → List Message → Fault → Type 0
IsStop left rest (Refused r) = ⊥
IsStop left rest Behind = 0 < left
IsStop left rest Memory = 0 < length rest
