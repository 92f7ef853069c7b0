-- Sites as separate processes, with packets carried between them, that stop at any moment and are restarted on their recordings.
use Rattle.std.specs.Prelude.{◌≡◌, ℕ, ◌+◌, ◌≤◌, List, [], ◌∷◌, ◌++◌, length, take, Some, None, ◌↔◌, ◌⊎◌, ◌<◌, ◌==◌, cond, IfSome, IsSome, map}
use Rattle.std.specs.List.{flat_map}
use Rattle.rubis_schema.specs.declared.limits.TheConstants.{COUNTED_MAX, KEEP_MAX}
use Rattle.rubis_message.specs.WorldReadings.{world_input}
use Rattle.rubis_message.specs.declared.answers.Verdict.TheVariants.{Agree}
use Rattle.rubis_message.specs.declared.world_inputs.WorldInput.{WorldInput}
use Rattle.rubis_message.specs.declared.world_inputs.WorldInput.TheVariants.{Asked, Delivered, Audit, Neither}
use Rattle.rubis_model.specs.AuditRecords.{verdict_record}
use Rattle.rubis_model.specs.Checks.{SameSet}
use Rattle.rubis_model.specs.Laws.{InRun, tables_at, HasExactly}
use Rattle.rubis_model.specs.System.{AreEvents, Event, World, run, site, start}
use Rattle.rubis_model.specs.System.Event.{At, Deliver}
use Rattle.rubis_model.specs.WorldRecords.{world_output_of, world_step}
use Rattle.rubis_schema.specs.declared.refusals.Refusal.TheVariants.{NotOurs}
use Rattle.rubis_message.specs.Message.{Message}
use Rattle.rubis_message.specs.Readings.{packet_of}
use Rattle.rubis_message.specs.declared.tokens.Packet.{Packet}
use Rattle.rubis_message.specs.declared.tokens.Packet.TheVariants as packet
use Rattle.rubis_model.specs.Site.{refused_row, send_row, input_step, output_of, Has, Place, Replica, opening_at, answers}
use Rattle.rubis_model.specs.Claims.{KeepInvariants, SerializeOneOrder}
use Rattle.rubis_model.specs.Log.{cores, fold_of}
use Rattle.rubis_model.specs.Verdict.{Log, shown_rows, verdict}
use Rattle.rubis_message.specs.Inputs.{input_of}

-- the event that a record is, if it is one
abbrev pub input_events : WorldInput → List Event
input_events (Asked i (Some r)) = At i r ∷ []
input_events (Asked i None) = []
input_events (Delivered i k) = Deliver i k ∷ []
input_events Audit = []
input_events Neither = []

-- the events that these records are, in order
abbrev pub record_events : ℕ → List (List (List ℕ)) → List Event
record_events sites records = flat_map (λ fields. input_events (world_input sites fields)) records

-- the world after these records, the first of which has that number
abbrev pub world_after : ℕ → World → ℕ → List (List (List ℕ)) → World
world_after keep w n [] = w
world_after keep w n (fields ∷ rest) = world_after keep (world_step keep w n (world_input (length w.sites) fields)).0 (n + 1) rest

-- the events that records are, are within the limits, and the world after the records is their run
abbrev pub RecordsAreARun : Type 0
RecordsAreARun = (sites keep : ℕ) (records : List (List (List ℕ))) → sites ≤ COUNTED_MAX
    → AreEvents sites (record_events sites records) × (world_after keep (start sites) 1 records ≡ run keep (record_events sites records) (start sites))

-- so after any records the claims of every run hold
abbrev pub RecordsKeepInvariants : Type 0
RecordsKeepInvariants =
    (sites keep : ℕ) (records : List (List (List ℕ))) → 1 ≤ sites → sites ≤ COUNTED_MAX → keep ≤ KEEP_MAX → InRun (world_after keep (start sites) 1 records)

-- and an audit after any records is answered Agree
abbrev pub AuditsAgree : Type 0
AuditsAgree = (sites keep : ℕ) (records : List (List (List ℕ))) (fields : List (List ℕ)) → 1 ≤ sites → sites ≤ COUNTED_MAX → keep ≤ KEEP_MAX
    → world_input sites fields ≡ Audit → world_output_of sites keep (records ++ fields ∷ []) ≡ world_output_of sites keep records ++ verdict_record Agree ∷ []

-- the sites after the first k of these records
abbrev pub world_at : ℕ → ℕ → List (List (List ℕ)) → ℕ → World
world_at sites keep records k = world_after keep (start sites) 1 (take k records)

-- these rows are the text of a run of the sites, and every claim of the headline holds of that run
pub record IsTextOfARun (sites keep : ℕ) (records rows : List (List (List ℕ))) : Type 0 where
  -- the rows are the answers to the records
  pub text : rows ≡ world_output_of sites keep records
  -- the first k records are events within the limits, and the sites are then where these events lead
  pub events : (k : ℕ) → AreEvents sites (record_events sites (take k records))
      × (world_at sites keep records k ≡ run keep (record_events sites (take k records)) (start sites))
  -- the answers to one record more are those to the records before it, and then what it is answered by the sites as those
  -- before it left them
  pub told : (before later : List (List (List ℕ))) (fields : List (List ℕ)) → records ≡ before ++ fields ∷ later
      → world_output_of sites keep (before ++ fields ∷ [])
      ≡ world_output_of sites keep before ++ (world_step keep (world_after keep (start sites) 1 before) (length before + 1) (world_input sites fields)).1
  -- after the first k records the logs are in one order, and the invariants hold
  pub claims : (k : ℕ) → InRun (world_at sites keep records k)
  -- two sites with the same messages, be it at two moments, have equal tables
  pub agree : (j k a b : ℕ) → SameSet (site (world_at sites keep records j) a).log (site (world_at sites keep records k) b).log
      → tables_at (world_at sites keep records j) a ≡ tables_at (world_at sites keep records k) b

-- what is answered to any records is the text of a run
abbrev pub AnswersAreARun : Type 0
AnswersAreARun = (sites keep : ℕ) (records : List (List (List ℕ))) → 1 ≤ sites → sites ≤ COUNTED_MAX → keep ≤ KEEP_MAX
    → IsTextOfARun sites keep records (world_output_of sites keep records)

-- ---- sites as separate processes, with packets carried between them, and the run of the model that they are

-- ---- what processes read, and what they come to

-- the process of that site reads a record
pub record Reading : Type 0 where
  pub site : ℕ
  pub fields : List (List ℕ)

-- what the process of site i reads, of all readings, in the order in which they are answered
abbrev pub read_by : ℕ → List Reading → List (List (List ℕ))
read_by i [] = []
read_by i (r ∷ rest) = cond (r.site == i) (r.fields ∷ read_by i rest) (read_by i rest)

-- the process of site i. How many messages it keeps may differ from process to process
abbrev pub process : ℕ → (ℕ → ℕ) → ℕ → Place
process sites keep i = record { site = i; sites = sites; keep = keep i }

-- a site after these records, the first of which has that number
abbrev pub site_after : Place → Replica → ℕ → List (List (List ℕ)) → Replica
site_after p s n [] = s
site_after p s n (fields ∷ rest) = site_after p (input_step p s n (input_of p.sites fields)).0 (n + 1) rest

-- the state of the process of site i after these readings, and all its answers
abbrev pub state_of : ℕ → (ℕ → ℕ) → List Reading → ℕ → Replica
state_of sites keep readings i = site_after (process sites keep i) (opening_at i) 1 (read_by i readings)

-- all that process i answered to these readings
abbrev pub answers_of : ℕ → (ℕ → ℕ) → List Reading → ℕ → List (List (List ℕ))
answers_of sites keep readings i = output_of (process sites keep i) (read_by i readings)

-- ---- packets that are carried

-- one of the processes answered with these fields after `send`
abbrev pub WasSent : ℕ → (ℕ → ℕ) → List Reading → List (List ℕ) → Type 0
WasSent sites keep readings fields = (i : ℕ) × (i < sites) × Has (send_row fields) (answers_of sites keep readings i)

-- packets are carried unchanged: each packet that a process reads was sent before by one of them, with the same fields.
-- Packets may be lost, duplicated, reordered, and delivered to any process
abbrev pub Carried : ℕ → (ℕ → ℕ) → List Reading → Type 0
Carried sites keep readings = (before later : List Reading) (r : Reading) (p : Packet)
    → readings ≡ before ++ r ∷ later → packet_of sites r.fields ≡ Some p → WasSent sites keep before r.fields

-- what holds of any readings of 1 to 16 processes whose packets are carried unchanged
abbrev pub OfProcesses : (ℕ → (ℕ → ℕ) → List Reading → Type 0) → Type 0
OfProcesses claim =
    (sites : ℕ) (keep : ℕ → ℕ) (readings : List Reading) → 1 ≤ sites → sites ≤ COUNTED_MAX → ((i : ℕ) → keep i ≤ KEEP_MAX)
    → Carried sites keep readings → claim sites keep readings

-- ---- they are a run

-- the packet is what one of the processes sent
abbrev pub IsSent : ℕ → (ℕ → ℕ) → List Reading → Packet → Type 0
IsSent sites keep readings p = (fields : List (List ℕ)) × WasSent sites keep readings fields × (packet_of sites fields ≡ Some p)

-- the sites of the world have the states of these processes, its packets are what they sent, and whatever they sent is read
-- as a packet
pub record AreProcesses (sites : ℕ) (keep : ℕ → ℕ) (readings : List Reading) (w : World) : Type 0 where
  pub count : length w.sites ≡ sites
  pub states : (i : ℕ) → i < sites → site w i ≡ state_of sites keep readings i
  pub sent : (p : Packet) → Has p w.sent ↔ IsSent sites keep readings p
  pub read : (fields : List (List ℕ)) → WasSent sites keep readings fields → IsSome (packet_of sites fields)

-- some run leads to exactly that, so what holds in every run holds of these processes. What a process refuses as Full is no
-- event of the run
abbrev pub ProcessesAreARun : Type 0
ProcessesAreARun =
    OfProcesses (λ sites keep readings. (events : List Event) × AreEvents sites events × AreProcesses sites keep readings (run KEEP_MAX events (start sites)))

-- so the claims of every run hold in a world that is exactly these processes
abbrev pub ProcessesAreInRun : Type 0
ProcessesAreInRun = OfProcesses (λ sites keep readings. (w : World) × AreProcesses sites keep readings w × InRun w)

-- ---- what follows, said of the processes alone

-- a message that a process sent
abbrev pub IsSentMessage : ℕ → (ℕ → ℕ) → List Reading → Message → Type 0
IsSentMessage sites keep readings m = IsSent sites keep readings (packet.Msg m)

-- it is the log of a process after these readings, with its tables as `list,tables` gives them, or without
pub record IsLogOfProcess (sites : ℕ) (keep : ℕ → ℕ) (readings : List Reading) (log : Log) : Type 0 where
  pub within : log.site < sites
  pub messages : log.messages ≡ (state_of sites keep readings log.site).log
  pub rows : IfSome log.rows (λ rows. rows ≡ shown_rows log.messages)

-- the processes' logs causally serialize one RedBlue order of all messages that they sent, and the invariants hold
abbrev pub ProcessesKeepInvariants : Type 0
ProcessesKeepInvariants = OfProcesses (λ sites keep readings.
    SerializeOneOrder (IsSentMessage sites keep readings) (IsLogOfProcess sites keep readings)
    × KeepInvariants (IsSentMessage sites keep readings) (IsLogOfProcess sites keep readings))

-- equal sets of messages have equal tables, at any two processes and moments, even of two such systems
abbrev pub ProcessesAgreeOnTables : Type 0
ProcessesAgreeOnTables = OfProcesses (λ sites keep readings. OfProcesses (λ others kept later. (i j : ℕ) → i < sites → j < others
    → SameSet (state_of sites keep readings i).log (state_of others kept later j).log
    → (fold_of (cores (state_of sites keep readings i).log)).tables ≡ (fold_of (cores (state_of others kept later j).log)).tables))

-- it is the log of a process as it was at some moment
abbrev pub WasLogOfProcess : ℕ → (ℕ → ℕ) → List Reading → Log → Type 0
WasLogOfProcess sites keep readings log = (before later : List Reading) × (readings ≡ before ++ later) × IsLogOfProcess sites keep before log

-- the verdict on their logs, each as it was at any moment, is Agree
abbrev pub ProcessesAgree : Type 0
ProcessesAgree =
    OfProcesses (λ sites keep readings. (logs : List Log) → ((log : Log) → Has log logs → WasLogOfProcess sites keep readings log) → verdict logs ≡ Agree)

-- no process ever answers NotOurs
abbrev pub ProcessesKnowTheirOwn : Type 0
ProcessesKnowTheirOwn =
    OfProcesses (λ sites keep readings. (i n : ℕ) → i < sites → ¬ (Has (refused_row n NotOurs) (answers_of sites keep readings i)))

-- ---- everything delivered, everything equal

-- the process has read each message that the processes sent, but for its own
abbrev pub HasReadAll : ℕ → (ℕ → ℕ) → List Reading → ℕ → Type 0
HasReadAll sites keep readings i = (fields : List (List ℕ)) (m : Message) → WasSent sites keep readings fields
    → packet_of sites fields ≡ Some (packet.Msg m) → Has fields (read_by i readings) ⊎ (m.stamp.id.site ≡ i)

-- it keeps as many messages as were sent: some list of that length at most has them all
abbrev pub KeepsAll : ℕ → (ℕ → ℕ) → List Reading → ℕ → Type 0
KeepsAll sites keep readings i = (all : List Message) × ((m : Message) → IsSentMessage sites keep readings m → Has m all) × (length all ≤ keep i)

-- nothing waits at a site in that state, and its log has exactly the messages that the processes sent
abbrev pub HasExactlySent : ℕ → (ℕ → ℕ) → List Reading → Replica → Type 0
HasExactlySent sites keep readings s = HasExactly (IsSentMessage sites keep readings) s

-- so processes that have read all messages have released all of them, and have equal tables, whatever they were asked meanwhile
abbrev pub ProcessesConverge : Type 0
ProcessesConverge = OfProcesses (λ sites keep readings. (i j : ℕ) → i < sites → j < sites → HasReadAll sites keep readings i → HasReadAll sites keep readings j
    → KeepsAll sites keep readings i → KeepsAll sites keep readings j
    → HasExactlySent sites keep readings (state_of sites keep readings i) × HasExactlySent sites keep readings (state_of sites keep readings j)
    × ((fold_of (cores (state_of sites keep readings i).log)).tables ≡ (fold_of (cores (state_of sites keep readings j).log)).tables))

-- ---- processes that stop at any moment, and are restarted on their recordings: they are processes that never stopped

-- what a process answered stays as it was when it reads more
abbrev pub AnswersStay : Type 0
AnswersStay = (p : Place) (records more : List (List (List ℕ)))
    → output_of p (records ++ more) ≡ output_of p records ++ answers p (site_after p (opening_at p.site) 1 records) (1 + length records) more

-- ---- processes that are restarted

-- the process of that site reads and answers a record that it had not read, which is recorded; or it stops, and is restarted with
-- nothing read; or it reads and answers a record of its recording again
pub data Moment : Type 0 where
  Reads : (site : ℕ) (fields : List (List ℕ)) → Moment
  Restarts : (site : ℕ) → Moment
  Replays : (site : ℕ) (fields : List (List ℕ)) → Moment

-- what is recorded: the readings of processes that never stop
abbrev pub recorded : List Moment → List Reading
recorded [] = []
recorded (Reads i fields ∷ rest) = record { site = i; fields = fields } ∷ recorded rest
recorded (Restarts i ∷ rest) = recorded rest
recorded (Replays i fields ∷ rest) = recorded rest

-- what the process of site i has read since its last start, after these moments, if it had read `so_far` before them
abbrev pub read_on : ℕ → List (List (List ℕ)) → List Moment → List (List (List ℕ))
read_on i so_far [] = so_far
read_on i so_far (Reads j fields ∷ rest) = read_on i (cond (j == i) (so_far ++ fields ∷ []) so_far) rest
read_on i so_far (Restarts j ∷ rest) = read_on i (cond (j == i) [] so_far) rest
read_on i so_far (Replays j fields ∷ rest) = read_on i (cond (j == i) (so_far ++ fields ∷ []) so_far) rest

-- what process i has read since its last start
abbrev pub has_read : ℕ → List Moment → List (List (List ℕ))
has_read i moments = read_on i [] moments

-- the state of the process, from what it has read since its last start
abbrev pub state_since_start : ℕ → (ℕ → ℕ) → List Moment → ℕ → Replica
state_since_start sites keep moments i = site_after (process sites keep i) (opening_at i) 1 (has_read i moments)

-- `short` is `full` without some of the records that change nothing where they are read, from state s on
abbrev pub IsShortened : Place → Replica → List (List (List ℕ)) → List (List (List ℕ)) → Type 0
IsShortened p s short [] = short ≡ []
IsShortened p s short (fields ∷ full) =
    (((input_step p s 1 (input_of p.sites fields)).0 ≡ s) × IsShortened p s short full)
    ⊎ ((rest : List (List (List ℕ))) × (short ≡ fields ∷ rest) × IsShortened p (input_step p s 1 (input_of p.sites fields)).0 rest full)

-- a restarted process reads its recording again, from the first record on and in order, where records that change nothing may
-- be left out; and it reads no new record before it has read the whole recording
pub record Replayed (sites : ℕ) (keep : ℕ → ℕ) (i : ℕ) (before later : List Moment) : Type 0 where
  pub first : List (List (List ℕ))
  pub rest : List (List (List ℕ))
  pub parts : read_by i (recorded before) ≡ first ++ rest
  pub again : IsShortened (process sites keep i) (opening_at i) (has_read i before) first
  pub whole : (fields : List (List ℕ)) (more : List Moment) → later ≡ Reads i fields ∷ more → rest ≡ []

-- at every moment, each restarted process has read of its recording what `Replayed` says
abbrev pub AreReplayed : ℕ → (ℕ → ℕ) → List Moment → Type 0
AreReplayed sites keep moments = (i : ℕ) (before later : List Moment) → moments ≡ before ++ later → Replayed sites keep i before later

-- one of the processes answered with these fields after `send`, since its last start or before
abbrev pub WasEverSent : ℕ → (ℕ → ℕ) → List Moment → List (List ℕ) → Type 0
WasEverSent sites keep moments fields =
    (i : ℕ) × (i < sites) × (a b : List Moment) × (moments ≡ a ++ b) × Has (send_row fields) (output_of (process sites keep i) (has_read i a))

-- packets are carried unchanged: each packet that a process reads and records was sent before by one of them
abbrev pub CarriedWithRestarts : ℕ → (ℕ → ℕ) → List Moment → Type 0
CarriedWithRestarts sites keep moments = (before later : List Moment) (i : ℕ) (fields : List (List ℕ)) (p : Packet)
    → moments ≡ before ++ Reads i fields ∷ later → packet_of sites fields ≡ Some p → WasEverSent sites keep before fields

-- what is recorded are readings of processes that never stop, whose packets are carried unchanged: at any moment each process
-- has the state that it has there at some moment, and they have sent what they send there
pub record NeverStopped (sites : ℕ) (keep : ℕ → ℕ) (moments : List Moment) : Type 0 where
  pub carried : Carried sites keep (recorded moments)
  pub states : (i : ℕ) (before later : List Moment) → moments ≡ before ++ later → (first rest : List Reading) × (recorded moments ≡ first ++ rest)
      × (state_since_start sites keep before i ≡ state_of sites keep first i)
  pub sent : (fields : List (List ℕ)) → WasEverSent sites keep moments fields ↔ WasSent sites keep (recorded moments) fields

abbrev pub RestartsChangeNothing : Type 0
RestartsChangeNothing =
    (sites : ℕ) (keep : ℕ → ℕ) (moments : List Moment) → AreReplayed sites keep moments → CarriedWithRestarts sites keep moments
    → NeverStopped sites keep moments

-- it is the log of a process at some moment, from what it had read since its last start, with its tables as they were shown, or
-- without
pub record WasLogSinceStart (sites : ℕ) (keep : ℕ → ℕ) (moments : List Moment) (log : Log) : Type 0 where
  pub before : List Moment
  pub later : List Moment
  pub parts : moments ≡ before ++ later
  pub within : log.site < sites
  pub messages : log.messages ≡ (state_since_start sites keep before log.site).log
  pub rows : IfSome log.rows (λ rows. rows ≡ shown_rows log.messages)

-- so the verdict on their logs, each as it was at any moment, before or after restarts, is Agree
abbrev pub RestartedAgree : Type 0
RestartedAgree =
    (sites : ℕ) (keep : ℕ → ℕ) (moments : List Moment) → 1 ≤ sites → sites ≤ COUNTED_MAX → ((i : ℕ) → keep i ≤ KEEP_MAX) → AreReplayed sites keep moments
    → CarriedWithRestarts sites keep moments → (logs : List Log) → ((log : Log) → Has log logs → WasLogSinceStart sites keep moments log) → verdict logs ≡ Agree

-- the process has read its whole recording again, perhaps without records that changed nothing
abbrev pub IsLevel : ℕ → (ℕ → ℕ) → List Moment → ℕ → Type 0
IsLevel sites keep moments i = IsShortened (process sites keep i) (opening_at i) (has_read i moments) (read_by i (recorded moments))

-- so processes that have read all messages have released all of them, and have equal tables, however often they were restarted
abbrev pub RestartedConverge : Type 0
RestartedConverge = (sites : ℕ) (keep : ℕ → ℕ) (moments : List Moment) → 1 ≤ sites → sites ≤ COUNTED_MAX → ((i : ℕ) → keep i ≤ KEEP_MAX)
    → AreReplayed sites keep moments → CarriedWithRestarts sites keep moments → (i j : ℕ) → i < sites → j < sites
    → IsLevel sites keep moments i → IsLevel sites keep moments j
    → HasReadAll sites keep (recorded moments) i → HasReadAll sites keep (recorded moments) j
    → KeepsAll sites keep (recorded moments) i → KeepsAll sites keep (recorded moments) j
    → HasExactlySent sites keep (recorded moments) (state_since_start sites keep moments i)
    × HasExactlySent sites keep (recorded moments) (state_since_start sites keep moments j)
    × ((fold_of (cores (state_since_start sites keep moments i).log)).tables ≡ (fold_of (cores (state_since_start sites keep moments j).log)).tables)

-- ---- when the conditions hold

-- processes that never stop are a case of this
abbrev pub without_restarts : List Reading → List Moment
without_restarts readings = map (λ (r : Reading). Reads r.site r.fields) readings

abbrev pub ReadingsAreMoments : Type 0
ReadingsAreMoments = (sites : ℕ) (keep : ℕ → ℕ) (readings : List Reading) → Carried sites keep readings
    → AreReplayed sites keep (without_restarts readings) × CarriedWithRestarts sites keep (without_restarts readings)

-- after these moments process j stops, is restarted, and reads these records again
abbrev pub restarted_on : ℕ → List (List (List ℕ)) → List Moment → List Moment
restarted_on j records moments = moments ++ Restarts j ∷ map (Replays j) records

-- so a process may be restarted at any moment on its recording, or on a shortened one
abbrev pub RecordingsReplay : Type 0
RecordingsReplay = (sites j : ℕ) (keep : ℕ → ℕ) (moments : List Moment) (records : List (List (List ℕ))) → AreReplayed sites keep moments
    → CarriedWithRestarts sites keep moments
    → IsShortened (process sites keep j) (opening_at j) records (read_by j (recorded moments))
    → AreReplayed sites keep (restarted_on j records moments) × CarriedWithRestarts sites keep (restarted_on j records moments)

-- the recording itself is a case of this
abbrev pub NothingIsLeftOut : Type 0
NothingIsLeftOut = (p : Place) (s : Replica) (records : List (List (List ℕ))) → IsShortened p s records records

-- and a process that has read its whole recording again may read a new record, if that is a packet only one that was sent
abbrev pub NewRecordsAreRead : Type 0
NewRecordsAreRead = (sites j : ℕ) (keep : ℕ → ℕ) (moments : List Moment) (fields : List (List ℕ)) → AreReplayed sites keep moments
    → CarriedWithRestarts sites keep moments
    → IsLevel sites keep moments j → ((p : Packet) → packet_of sites fields ≡ Some p → WasEverSent sites keep moments fields)
    → AreReplayed sites keep (moments ++ Reads j fields ∷ []) × CarriedWithRestarts sites keep (moments ++ Reads j fields ∷ [])
    × IsLevel sites keep (moments ++ Reads j fields ∷ []) j
