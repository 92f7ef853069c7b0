-- The laws of every run and of every log, as contracts name them.
use Rattle.std.specs.Prelude.{◌≡◌, ◌≢◌, ℕ, ◌+◌, ◌^◌, ◌<◌, ◌≤◌, List, [], ◌++◌, length, IfSome, Ok, Err, ◌↔◌, ◌∷◌, ⊤, Some, ◌⊎◌}
use Rattle.std.specs.FinMap as map
use Rattle.rubis_schema.specs.declared.limits.TheConstants.{COUNTED_MAX, KEEP_MAX}
use Rattle.rubis_schema.specs.Keys.{home}
use Rattle.rubis_schema.specs.Tables.{Tables}
use Rattle.rubis_schema.specs.declared.row_keys.RowKey.{RowKey}
use Rattle.rubis_shadow.specs.Changes.{after_part, misfit_of}
use Rattle.rubis_shadow.specs.declared.shadows.Ask.{Ask}
use Rattle.rubis_shadow.specs.declared.keyed_change.Effect.{Effect}
use Rattle.rubis_shadow.specs.declared.shadows.Shadow.{Shadow}
use Rattle.rubis_generate.specs.Decision.{decision, row_by_key}
use Rattle.rubis_generate.specs.declared.standing.Standing.{Standing}
use Rattle.rubis_shadow.specs.declared.numbered.Misfit.{Misfit}
use Rattle.rubis_message.specs.declared.answers.Arrival.TheVariants as arrival
use Rattle.rubis_message.specs.declared.answers.Happened.TheVariants as happened
use Rattle.rubis_message.specs.declared.answers.Taken.TheVariants as taken
use Rattle.rubis_message.specs.declared.answers.Verdict.TheVariants.{Agree}
use Rattle.rubis_schema.specs.declared.refusals.Refusal.{Refusal}
use Rattle.rubis_schema.specs.declared.refusals.Refusal.TheVariants.{NotOurs}
use Rattle.rubis_message.specs.Message.{Message}
use Rattle.rubis_model.specs.Site.{Has, Settles, settle, arrived, Replica}
use Rattle.rubis_model.specs.Log.{Core, cores, fold_of}
use Rattle.rubis_model.specs.Meaning.{IsMeaning, nick_at}
use Rattle.rubis_model.specs.Checks.{Fits, Checked, SameSet, Holds, Unique}
use Rattle.rubis_model.specs.Shares.{part_of, batch_folded, share_folded, InPlace}
use Rattle.rubis_model.specs.Audit.{AreAmong, AreFaultless, AreSound}
use Rattle.rubis_model.specs.Claims.{SerializeOneOrder, KeepInvariants}
use Rattle.rubis_model.specs.Verdict.{Log, shown_rows, verdict}
use Rattle.rubis_model.specs.System.{Precedes, Foundation, World, Event, AreEvents, site, place, happens, run, start, AllDeliverable, red_count, OneToken}
use Rattle.rubis_model.specs.System.{packet_at}
use Rattle.rubis_message.specs.declared.tokens.Packet.TheVariants as packet
use Rattle.rubis_message.specs.declared.tokens.Packet.{Packet}
use Rattle.rubis_model.specs.System.Event.{At, Deliver}

-- ---- parts and logs

-- parts on different keys may be done in either order: the tables are the same, and the misfit of each part
abbrev pub PartsCommute : Type 0
PartsCommute = (t : Tables) (e f : Effect) → ¬ (e.key ≡ f.key)
    → (after_part (after_part t e) f ≡ after_part (after_part t f) e) × (misfit_of (after_part t e) f ≡ misfit_of t f)
    × (misfit_of (after_part t f) e ≡ misfit_of t e)

-- a set of messages has one meaning
abbrev pub MeaningIsOne : Type 0
MeaningIsOne = (a : List Core) (t u : Tables) → IsMeaning a t → IsMeaning a u → t ≡ u

-- a log that passes the checks folds without misfit to the meaning of its set
abbrev pub FoldIsMeaning : Type 0
FoldIsMeaning = (log : List Core) → Checked log → length log ≤ 2 ^ 32 → IsMeaning log (fold_of log).tables × ((fold_of log).misfits ≡ [])

-- the invariants hold in a log that passes the checks
abbrev pub CheckedLogsHold : Type 0
CheckedLogsHold = (log : List Core) → Checked log → Holds log

-- the shadow of an ask that isn't refused at the tables of such a log fits after it
abbrev pub DecidedShadowsFit : Type 0
DecidedShadowsFit = (log : List Core) (standing : Standing) (ask : Ask) (x : Shadow) → Checked log → length log ≤ 2 ^ 32
    → decision (row_by_key (fold_of log).tables) standing ask ≡ Ok x → Fits log x

-- logs that pass the checks and have equal sets fold to equal tables
abbrev pub EqualSetsEqualTables : Type 0
EqualSetsEqualTables =
    (a b : List Core) → Checked a → Checked b → length a ≤ 2 ^ 32 → length b ≤ 2 ^ 32 → SameSet a b → (fold_of a).tables ≡ (fold_of b).tables

-- a log with a batch folds to the batch folded on the tables of the log, the new misfits after the old ones
abbrev pub FoldsBatchByBatch : Type 0
FoldsBatchByBatch = (log batch : List Core) → fold_of (log ++ batch) ≡ record {
  tables = (batch_folded (1 + length log) (fold_of log).tables batch).tables;
  misfits = (fold_of log).misfits ++ (batch_folded (1 + length log) (fold_of log).tables batch).misfits;
}

-- each row is held by its home shard
abbrev pub RowsAreAtHome : Type 0
RowsAreAtHome = (shards : ℕ) (t : Tables) (q : RowKey) → map.get (part_of shards (home shards q) t) q ≡ map.get t q

-- a shard that folds its share of a batch on what it holds comes to hold its part of what the whole batch folds to
abbrev pub SharesFoldToTheWhole : Type 0
SharesFoldToTheWhole =
    (shards first k : ℕ) (t : Tables) (batch : List Core) → (share_folded shards first t batch k).tables ≡ part_of shards k (batch_folded first t batch).tables

-- the misfits of a batch stand in the order of their places, and a list in that order that has the shards' misfits and no
-- others is the list of them
abbrev pub MisfitsFallInPlace : Type 0
MisfitsFallInPlace = (shards first : ℕ) (t : Tables) (batch : List Core) (all : List Misfit) → 0 < shards → InPlace (batch_folded first t batch).misfits
    × (InPlace all → ((z : Misfit) → Has z all ↔ ((k : ℕ) × (k < shards) × Has z (share_folded shards first t batch k).misfits))
    → all ≡ (batch_folded first t batch).misfits)

-- ---- settling

-- what a log and its waiting messages settle to is given by `settle`, and there is nothing else that they settle to
abbrev pub SettlingHasOneOutcome : Type 0
SettlingHasOneOutcome = (log waiting : List Message) → Settles log waiting (settle (length waiting) log waiting).0 (settle (length waiting) log waiting).1
    × ((released left : List Message) → Settles log waiting released left → settle (length waiting) log waiting ≡ (released, left))

-- ---- runs

-- the message was made at one of the sites
abbrev pub Sent : World → Message → Type 0
Sent w m = Has (packet.Msg m) w.sent

-- it is the log of a site, with its tables as `list,tables` gives them, or without
pub record IsLogOf (w : World) (log : Log) : Type 0 where
  pub messages : log.messages ≡ (site w log.site).log
  pub rows : IfSome log.rows (λ rows. rows ≡ shown_rows log.messages)

-- it is the log of a site as it was at some moment, with its tables as they were shown then, or without
pub record WasLogOf (w : World) (log : Log) : Type 0 where
  pub later : List Message
  pub messages : log.messages ++ later ≡ (site w log.site).log
  pub rows : IfSome log.rows (λ rows. rows ≡ shown_rows log.messages)

-- all sites' logs causally serialize one RedBlue order
pub record InOrder (w : World) : Type 0 where
  pub serial : SerializeOneOrder (Sent w) (IsLogOf w)
  -- of two red ones, the one with the smaller number precedes
  pub smaller_first : (u v : Message) → Sent w u → Sent w v → 0 < u.stamp.red → u.stamp.red < v.stamp.red → Precedes u v
  -- the red numbers are 1 to their count, each once
  pub numbers : (m : Message) → Sent w m → m.stamp.red ≤ red_count w.sent
  pub numbered : (r : ℕ) → 1 ≤ r → r ≤ red_count w.sent → (m : Message) × (Sent w m) × (m.stamp.red ≡ r)
  pub numbered_once : (u v : Message) → Sent w u → Sent w v → 0 < u.stamp.red → u.stamp.red ≡ v.stamp.red → u ≡ v
  -- each fits after exactly what precedes it
  pub foundation : (v : Message) → Sent w v → Foundation (Sent w) v
  -- no site answers NotOurs to a message that was sent
  pub ours : (keep i : ℕ) (m : Message) → Sent w m → (arrived (place keep w i) (site w i) m).1 ≢ Err NotOurs
  -- the right to make red shadows is at one site, or in one packet that wasn't taken, with the greatest red number
  pub token : OneToken (length w.sites) (λ i. (site w i).held) (λ i. (site w i).last) w.sent

-- what the tables of a site know of its log, and those tables
abbrev pub known_at : World → ℕ → List Core
known_at w i = cores (site w i).log

-- the tables of a site's log
abbrev pub tables_at : World → ℕ → Tables
tables_at w i = (fold_of (known_at w i)).tables

-- what every run keeps: all logs are in one order, in each log and over all sites the invariants hold, and two sites that
-- have the same messages have equal tables
pub record InRun (w : World) : Type 0 where
  pub in_order : InOrder w
  pub invariants : KeepInvariants (Sent w) (IsLogOf w)
  pub agree : (i j : ℕ) → SameSet (site w i).log (site w j).log → tables_at w i ≡ tables_at w j

-- the claim holds of what any events at n sites lead to: n is at least 1, and each site keeps at most `keep` messages, which is at most
-- KEEP_MAX
abbrev pub EveryRun : (World → Type 0) → Type 0
EveryRun claim = (n keep : ℕ) (events : List Event) → 1 ≤ n → keep ≤ KEEP_MAX → AreEvents n events → claim (run keep events (start n))

-- every run is in order
abbrev pub RunsAreInOrder : Type 0
RunsAreInOrder = EveryRun InOrder

-- every run keeps the invariants
abbrev pub RunsKeepInvariants : Type 0
RunsKeepInvariants = EveryRun InRun

-- among at most 16 sites, each packet that is sent can be taken in by each of them
abbrev pub RunsSendDeliverables : Type 0
RunsSendDeliverables =
    (n keep : ℕ) (events : List Event) → 1 ≤ n → n ≤ COUNTED_MAX → keep ≤ KEEP_MAX → AreEvents n events → AllDeliverable n (run keep events (start n)).sent

-- a log only grows: what a site has released stays there, in its place, whatever happens afterwards
abbrev pub LogsOnlyGrow : Type 0
LogsOnlyGrow = (n keep : ℕ) (events more : List Event) (i : ℕ)
    → (later : List Message) × ((site (run keep events (start n)) i).log ++ later ≡ (site (run keep (events ++ more) (start n)) i).log)

-- equal sets of messages have equal tables, at any two sites and moments, even of two runs
abbrev pub RunsAgreeOnTables : Type 0
RunsAgreeOnTables = EveryRun (λ w. EveryRun (λ v. (i j : ℕ) → SameSet (site w i).log (site v j).log → tables_at w i ≡ tables_at v j))

-- an event that is refused changes nothing, nor does a packet that came again, nor a listing
pub record ChangesNothing (keep : ℕ) (w : World) (e : Event) : Type 0 where
  pub refused : (r : Refusal) → (happens keep w e).1 ≡ Err r → (happens keep w e).0 ≡ w
  pub came_again : (happens keep w e).1 ≡ Ok (happened.Came arrival.Repeat) → (happens keep w e).0 ≡ w
  pub token_again : (happens keep w e).1 ≡ Ok (happened.Token taken.Repeat) → (happens keep w e).0 ≡ w
  pub listed : (rows : List (List (List ℕ))) → (happens keep w e).1 ≡ Ok (happened.Rows rows) → (happens keep w e).0 ≡ w

abbrev pub RefusalsChangeNothing : Type 0
RefusalsChangeNothing = (keep : ℕ) (w : World) (e : Event) → ChangesNothing keep w e

-- ---- logs together

-- logs that pass the checks together are sound
abbrev pub FaultlessLogsAreSound : Type 0
FaultlessLogsAreSound = (sites : ℕ) (logs : List Log) → AreAmong sites logs → AreFaultless logs → AreSound logs

-- logs of a run, each as it was at any moment, with its tables then or without, pass the checks together
abbrev pub RunsAreFaultless : Type 0
RunsAreFaultless = EveryRun (λ w. (logs : List Log) → ((log : Log) → Has log logs → WasLogOf w log) → AreFaultless logs)

-- the verdict is Agree if and only if the logs pass the checks together
abbrev pub AgreesWhereFaultless : Type 0
AgreesWhereFaultless = (sites : ℕ) (logs : List Log) → AreAmong sites logs → (verdict logs ≡ Agree) ↔ AreFaultless logs

-- so logs of which the verdict is Agree are sound
abbrev pub AgreedLogsAreSound : Type 0
AgreedLogsAreSound = (sites : ℕ) (logs : List Log) → AreAmong sites logs → verdict logs ≡ Agree → AreSound logs

-- of logs of a run, each as it was at any moment, with its tables then or without, the verdict is Agree
abbrev pub RunsAgree : Type 0
RunsAgree = EveryRun (λ w. (logs : List Log) → ((log : Log) → Has log logs → WasLogOf w log) → verdict logs ≡ Agree)

-- ---- nicknames over all sites: along the one order of the red messages of a run

-- their red numbers are n + 1, n + 2, and so on
abbrev pub AreNumberedFrom : ℕ → List Message → Type 0
AreNumberedFrom n [] = ⊤
AreNumberedFrom n (m ∷ ms) = (m.stamp.red ≡ n + 1) × AreNumberedFrom (n + 1) ms

-- the first red messages of all that were sent, in the order of their numbers
pub record AreFirstReds (w : World) (ms : List Message) : Type 0 where
  pub sent : (m : Message) → Has m ms → Sent w m
  pub numbered : AreNumberedFrom 0 ms

-- at each point of that order no nickname has two users
abbrev pub NicknamesAreUnique : Type 0
NicknamesAreUnique = EveryRun (λ w. (ms : List Message) → AreFirstReds w ms → Unique (λ u. nick_at u (cores ms)))

-- and the order goes on to the last of them
abbrev pub RedsAreInOneOrder : Type 0
RedsAreInOneOrder = EveryRun (λ w. (n : ℕ) → n ≤ red_count w.sent → (ms : List Message) × AreFirstReds w ms × (length ms ≡ n))

-- ---- sites that have had every message come to the same tables

-- every message that was sent is in the site's log or waits there
abbrev pub HasAll : World → ℕ → Type 0
HasAll w i = (m : Message) → Sent w m → Has m (site w i).log ⊎ Has m (site w i).waiting

-- nothing waits at a site in that state, and its log has exactly these messages
pub record HasExactly (These : Message → Type 0) (s : Replica) : Type 0 where
  pub none_waits : s.waiting ≡ []
  pub released : (m : Message) → These m ↔ Has m s.log

-- nothing waits there, and its log has exactly the messages that were sent
abbrev pub HasReleasedAll : World → ℕ → Type 0
HasReleasedAll w i = HasExactly (Sent w) (site w i)

-- a site that has all messages has released them all
abbrev pub AllHadAreReleased : Type 0
AllHadAreReleased = EveryRun (λ w. (i : ℕ) → HasAll w i → HasReleasedAll w i)

-- two sites that have all messages have the same tables
abbrev pub HavingAllConverges : Type 0
HavingAllConverges = EveryRun (λ w. (i j : ℕ) → HasAll w i → HasAll w j → tables_at w i ≡ tables_at w j)

-- a site that has every message that was sent up to some moment has released all of these, whatever came since
abbrev pub MomentsAreReleased : Type 0
MomentsAreReleased = (n keep : ℕ) (events later : List Event) → 1 ≤ n → keep ≤ KEEP_MAX → AreEvents n events → AreEvents n later → (i : ℕ)
    → ((m : Message) → Sent (run keep events (start n)) m
    → Has m (site (run keep later (run keep events (start n))) i).log ⊎ Has m (site (run keep later (run keep events (start n))) i).waiting)
    → (m : Message) → Sent (run keep events (start n)) m → Has m (site (run keep later (run keep events (start n))) i).log

-- how many messages were sent
abbrev pub message_count : List Packet → ℕ
message_count [] = 0
message_count (packet.Msg m ∷ ps) = message_count ps + 1
message_count (packet.Token t ∷ ps) = message_count ps

-- only deliveries: any packets, in any order, to any sites, and again
abbrev pub AreDeliveries : List Event → Type 0
AreDeliveries [] = ⊤
AreDeliveries (At i r ∷ es) = ⊥
AreDeliveries (Deliver i k ∷ es) = AreDeliveries es

-- each packet that is a message is delivered to site i at least once
abbrev pub DeliversAll : World → ℕ → List Event → Type 0
DeliversAll w i es = (k : ℕ) (m : Message) → packet_at w.sent k ≡ Some (packet.Msg m) → Has (Deliver i k) es

-- what is claimed of any run at n sites that sent no more messages than a site keeps, and any deliveries after it
abbrev pub AfterDeliveries : (ℕ → World → List Event → World → Type 0) → Type 0
AfterDeliveries claim = (n keep : ℕ) (events deliveries : List Event) → 1 ≤ n → keep ≤ KEEP_MAX → AreEvents n events → AreDeliveries deliveries
    → message_count (run keep events (start n)).sent ≤ keep
    → claim n (run keep events (start n)) deliveries (run keep deliveries (run keep events (start n)))

-- a site to which every message is delivered has them all
abbrev pub DeliveredAreHad : Type 0
DeliveredAreHad = AfterDeliveries (λ n w es v. (i : ℕ) → i < n → DeliversAll w i es → HasAll v i)

-- sites to which every message is delivered have released them all, and have the same tables
abbrev pub DeliveringAllConverges : Type 0
DeliveringAllConverges = AfterDeliveries (λ n w es v. (i j : ℕ) → i < n → j < n → DeliversAll w i es → DeliversAll w j es
    → HasReleasedAll v i × HasReleasedAll v j × (tables_at v i ≡ tables_at v j))

-- any deliveries after a run: no message that was sent is then refused by any site
abbrev pub NoMessageIsRefused : Type 0
NoMessageIsRefused = (n keep : ℕ) (events deliveries : List Event) → 1 ≤ n → keep ≤ KEEP_MAX → AreEvents n events → AreDeliveries deliveries
    → message_count (run keep events (start n)).sent ≤ keep
    → (i : ℕ) (m : Message) (r : Refusal) → Sent (run keep events (start n)) m
    → (arrived (place keep (run keep deliveries (run keep events (start n))) i) (site (run keep deliveries (run keep events (start n))) i) m).1 ≢ Err r

-- there are such deliveries, to all sites at once
abbrev pub AllCanBeDelivered : Type 0
AllCanBeDelivered = (w : World) → (es : List Event) × (AreDeliveries es) × ((i : ℕ) → i < length w.sites → DeliversAll w i es)
