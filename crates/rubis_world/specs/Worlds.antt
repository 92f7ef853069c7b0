-- Several sites with their packets: how they are set up, what their calls answer, and what a world keeps.
use Rattle.std.specs.Prelude.{◌≡◌, ℕ, ◌<◌, ◌≤◌, List, None, Some, length, map, Result, Ok, Err, IfSome, slice_get, slice_index_or, ◌⊎◌}
use Rattle.std.specs.List.{range_with_len}
use Rattle.rubis_schema.specs.declared.refusals.Refusal.{Refusal}
use Rattle.rubis_schema.specs.declared.refusals.Refusal.TheVariants as refusal
use Rattle.rubis_message.specs.declared.answers.Happened.{Happened}
use Rattle.rubis_message.specs.declared.requests.Request.{Request}
use Rattle.rubis_message.specs.declared.requests.Request.TheVariants.{Pass}
use Rattle.rubis_message.specs.declared.tokens.Packet.{Packet}
use Rattle.rubis_model.specs.System.{World, happens, packet_at, start, AllDeliverable, Room, Sound}
use Rattle.rubis_model.specs.System.Event.{At, Deliver}
use Rattle.rubis_script.specs.Replica.{SiteState, Fault, IsCount, Setup}
use Rattle.rubis_script.specs.Replica.fault_variants as fault
use Rattle.rubis_world.specs.declared.faults.WorldFault.{WorldFault}
use Rattle.rubis_world.specs.declared.faults.WorldFault.TheVariants.{BadEvent, NoSuchPacket, Site, Memory}
use Rattle.rubis_schema.specs.declared.limits.TheConstants.{KEEP_MAX, SITES_MAX, BATCH_MAX, SHARDS_MAX, WORKERS_MAX}

-- how many messages each site keeps, the sites with their packets, and how many parts each site has left of the batch that
-- it has begun
pub record WorldState : Type 0 where
  pub keep : ℕ
  pub world : World
  pub left : List ℕ

-- `sites` sites with nothing done
abbrev pub opening_world : ℕ → ℕ → WorldState
opening_world keep sites = record { keep = keep; world = start sites; left = map (λ i. 0) (range_with_len 0 sites) }

-- what a site has left; it is behind where that is something
abbrev pub left_behind : WorldState → ℕ → ℕ
left_behind s i = slice_index_or s.left i 0

-- each site is at the place of its number
abbrev pub AreAtPlaces : ℕ → List SiteState → Type 0
AreAtPlaces keep sites = (i : ℕ) → IfSome (slice_get sites i) (λ s. s.place ≡ record { site = i; sites = length sites; keep = keep })

-- the call comes to that world; how far the tables are may change
abbrev pub ComesToWorld : WorldState → WorldState → World → Type 0
ComesToWorld old new w = (new.keep ≡ old.keep) × (new.world ≡ w)

-- the call answers as the step says, and comes to its world; where a site is behind or memory runs out, it stays at its own
abbrev pub StepsWorld : WorldState → WorldState → World × Result Happened Refusal → Result Happened WorldFault → Type 0
StepsWorld old new step (Ok h) = ComesToWorld old new step.0 × (step.1 ≡ Ok h)
StepsWorld old new step (Err BadEvent) = (new ≡ old) × (step.1 ≡ Err refusal.BadEvent)
StepsWorld old new step (Err NoSuchPacket) = (new ≡ old) × (step.1 ≡ Err refusal.NoSuchPacket)
StepsWorld old new step (Err (Site (fault.Refused r))) = ComesToWorld old new old.world × (step.1 ≡ Err r)
StepsWorld old new step (Err (Site fault.Behind)) = ComesToWorld old new old.world
StepsWorld old new step (Err (Site fault.Memory)) = ⊥
StepsWorld old new step (Err Memory) = ComesToWorld old new old.world

-- site i alone was asked: the tables of the others are as far as they were. Where it was behind it says so, and nothing
-- changes; and it says so only where it is
pub record Asks (i : ℕ) (old new : WorldState) (result : Result Happened WorldFault) : Type 0 where
  pub others : (j : ℕ) → (j ≡ i → ⊥) → left_behind new j ≡ left_behind old j
  pub waits : 0 < left_behind old i → (result ≡ Err (Site fault.Behind)) × (new ≡ old)
  pub says : result ≡ Err (Site fault.Behind) → 0 < left_behind new i

-- site i is there and isn't behind
pub record IsNotBehind (i : ℕ) (s : WorldState) : Type 0 where
  pub there : i < length s.world.sites
  pub none_left : left_behind s i ≡ 0

-- site i alone takes the step: the call answers as the step says, and the tables of the others are as far as they were
pub record StepsAlone (i : ℕ) (old new : WorldState) (step : World × Result Happened Refusal) (result : Result Happened WorldFault) : Type 0 where
  pub answers : StepsWorld old new step result
  pub tables : Asks i old new result

-- a request at a site is answered as the step says, and only that site changes; if there is no such site, nothing does
pub record AnswersRequest (site : ℕ) (request : Request) (old new : WorldState) (result : Result Happened WorldFault) : Type 0 where
  pub step : StepsWorld old new (happens old.keep old.world (At site request)) result
  pub tables : site < length old.world.sites → Asks site old new result
  pub absent : length old.world.sites ≤ site → (result ≡ Err BadEvent) × (new ≡ old)
  -- handing the token on applies nothing, so it finds a site behind only where that was so before
  pub pass : (to : ℕ) → request ≡ Pass to → result ≡ Err (Site fault.Behind) → 0 < left_behind old site

-- a delivery of packet `which` to a site is answered as the step says, and only that site changes; if there is no such site or packet,
-- nothing does
pub record AnswersDelivery (site which : ℕ) (old new : WorldState) (result : Result Happened WorldFault) : Type 0 where
  pub step : StepsWorld old new (happens old.keep old.world (Deliver site which)) result
  pub tables : site < length old.world.sites → (p : Packet) → packet_at old.world.sent which ≡ Some p → Asks site old new result
  pub absent : length old.world.sites ≤ site → (result ≡ Err BadEvent) × (new ≡ old)
  pub unsent : site < length old.world.sites → packet_at old.world.sent which ≡ None → (result ≡ Err NoSuchPacket) × (new ≡ old)
  pub behind : result ≡ Err (Site fault.Behind) → 0 < left_behind old site

-- ---- what a world keeps, and why it has no verdict

-- what every call keeps
pub record IsWorld (s : WorldState) : Type 0 where
  pub sites : length s.world.sites ≤ SITES_MAX
  pub keep : s.keep ≤ KEEP_MAX
  pub sound : Sound s.world
  pub room : Room s.keep s.world
  pub deliverable : AllDeliverable (length s.world.sites) s.world.sent

-- some site is behind
abbrev pub SomeBehind : WorldState → Type 0
SomeBehind s = (i : ℕ) × (i < length s.world.sites) × (0 < left_behind s i)

-- why there is no verdict: some site is behind, or memory ran out
abbrev pub IsCheckFault : WorldState → WorldFault → Type 0
IsCheckFault s f = ((f ≡ Site fault.Behind) × SomeBehind s) ⊎ (f ≡ Memory)

-- ---- why a call of a world gives no answer

-- where a site is out of memory, so is the world
abbrev pub fault_at_site : Fault → WorldFault
fault_at_site (fault.Refused r) = Site (fault.Refused r)
fault_at_site fault.Behind = Site fault.Behind
fault_at_site fault.Memory = Memory

-- ---- how the sites of a world are set up

-- how many sites; and of each its shards, workers and batches, and how many messages it keeps
pub record WorldSetup : Type 0 where
  pub sites : ℕ
  pub shards : ℕ
  pub workers : ℕ
  pub batch : ℕ
  pub keep : ℕ

-- each number is within its limits
pub record IsWorldSetup (s : WorldSetup) : Type 0 where
  pub sites : IsCount s.sites SITES_MAX
  pub shards : IsCount s.shards SHARDS_MAX
  pub workers : IsCount s.workers WORKERS_MAX
  pub batch : IsCount s.batch BATCH_MAX
  pub keep : IsCount s.keep KEEP_MAX

-- what the setup of one of the sites says of all
abbrev pub common_setup : Setup → WorldSetup
common_setup s = record { sites = s.sites; shards = s.shards; workers = s.workers; batch = s.batch; keep = s.keep }

-- the setup of one of the sites
abbrev pub setup_at : WorldSetup → ℕ → Setup
setup_at s site = record { site = site; sites = s.sites; shards = s.shards; workers = s.workers; batch = s.batch; keep = s.keep }
