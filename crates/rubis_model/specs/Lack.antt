-- What a log lacks of others, and what becomes of a site to which that is sent.
use Rattle.std.specs.Prelude.{◌≡◌, ◌≢◌, ◌↔◌, ◌⊎◌, ℕ, ◌+◌, ◌<◌, ◌≤◌, Bool, not, cond, nat_lt, Option, Some, None, Result, Ok, Err, List, [], ◌∷◌, ◌++◌, length}
use Rattle.std.specs.Prelude.{map, filter, ⊤, ◌==◌, reverse, codes, decimal}
use Rattle.std.specs.List.{list_any, flat_map, filter_map, range_with_len}
use Rattle.rubis_schema.specs.declared.limits.TheConstants.{KEEP_MAX, COUNTED_MAX}
use Rattle.rubis_schema.specs.Keys.{same_id}
use Rattle.rubis_schema.specs.declared.ids.Id.{Id}
use Rattle.rubis_schema.specs.declared.refusals.Refusal.{Refusal}
use Rattle.rubis_message.specs.Message.{Message, dep, sites_of}
use Rattle.rubis_message.specs.declared.answers.Arrival.{Arrival}
use Rattle.rubis_message.specs.declared.answers.Arrival.TheVariants as arrival
use Rattle.rubis_message.specs.declared.tokens.Packet.TheVariants as packet
use Rattle.rubis_model.specs.Site.{after_all, answers_to, Has, counted, reds, Place, Replica}
use Rattle.rubis_model.specs.Audit.{AreAmong, AreFaultless, Logged}
use Rattle.rubis_model.specs.Laws.{AfterDeliveries, HasReleasedAll, message_count, EveryRun, Sent, WasLogOf, tables_at}
use Rattle.rubis_model.specs.Log.{cores, fold_of}
use Rattle.rubis_model.specs.Verdict.{Log, verdict}
use Rattle.rubis_model.specs.System.{Precedes, StandsBefore, World, Event, packet_at, place, site}
use Rattle.rubis_model.specs.System.Event.{Deliver}
use Rattle.rubis_schema.specs.Ids.{id_text}
use Rattle.rubis_message.specs.Grammar.{message_record}
use Rattle.rubis_message.specs.declared.answers.Verdict.{Verdict}
use Rattle.rubis_message.specs.declared.answers.Verdict.TheVariants.{Agree, Found}
use Rattle.rubis_model.specs.AuditRecords.{audit_of, audit_record, logs_after, verdict_record}

-- ---- what a log lacks

-- one of these messages has m's id
abbrev pub is_among : List Message → Message → Bool
is_among messages m = list_any (λ u. same_id m.stamp.id u.stamp.id) messages

-- those whose id none has before them
abbrev pub firsts : List Message → List Message → List Message
firsts before [] = []
firsts before (m ∷ rest) = cond (is_among before m) (firsts before rest) (m ∷ firsts (before ++ m ∷ []) rest)

-- the messages of the logs, one log after the other and each in its order, without those that came before
abbrev pub merged : List Log → List Message
merged logs = firsts [] (flat_map (λ log. log.messages) logs)

-- those of them that aren't among these
abbrev pub lacked : List Log → List Message → List Message
lacked logs messages = filter (λ m. not (is_among messages m)) (merged logs)

-- with what they lack after them
abbrev pub completed : List Log → List Message → List Message
completed logs messages = messages ++ lacked logs messages

-- of logs that pass the checks, a log lacks exactly what another one has and it hasn't, each once
abbrev pub LacksTheRest : Type 0
LacksTheRest = (logs : List Log) → AreFaultless logs → (log : Log) → Has log logs
    → ((m : Message) → Has m (lacked logs log.messages) ↔ (Logged logs m × (Has m log.messages → ⊥)))
    × ((m : Message) → StandsBefore m m (lacked logs log.messages) → ⊥)

-- ---- sending it

-- a site to which all that its log lacks is sent releases each message as it arrives, and then has exactly the messages of
-- the logs
pub record Completes (logs : List Log) (p : Place) (s : Replica) : Type 0 where
  pub answers : answers_to p s (lacked logs s.log) ≡ map (λ m. Ok (arrival.Released 1)) (lacked logs s.log)
  pub state : after_all p s (lacked logs s.log) ≡ record s { log = completed logs s.log }
  pub all : (m : Message) → Has m (completed logs s.log) ↔ Logged logs m

-- logs that pass the checks complete a site with one of these logs at which nothing waits, that keeps as many and made
-- none that it lacks
abbrev pub LackIsReleased : Type 0
LackIsReleased = (logs : List Log) → AreFaultless logs → (log : Log) → Has log logs → (p : Place) (s : Replica) → s.log ≡ log.messages → s.waiting ≡ []
    → ((m : Message) → Has m (lacked logs s.log) → m.stamp.id.site ≢ p.site) → length (completed logs s.log) ≤ p.keep → Completes logs p s

-- so do logs of a run, each as it was at any moment, for a site whose log is now as it was given and that keeps as many
-- messages as were sent: it made none that it lacks
abbrev pub LackIsReleasedInRuns : Type 0
LackIsReleasedInRuns = EveryRun (λ w. (logs : List Log) → ((log : Log) → Has log logs → WasLogOf w log) → (log : Log) → Has log logs
    → log.messages ≡ (site w log.site).log → (site w log.site).waiting ≡ [] → (keep : ℕ) → message_count w.sent ≤ keep
    → Completes logs (place keep w log.site) (site w log.site))

-- the message was taken in: it is released, and maybe others after it, or it was there
abbrev pub IsTakenIn : Result Arrival Refusal → Type 0
IsTakenIn (Ok (arrival.Released k)) = 1 ≤ k
IsTakenIn (Ok arrival.Repeat) = ⊤
IsTakenIn (Ok arrival.Held) = ⊥
IsTakenIn (Err r) = ⊥

-- and where messages wait at the site, each that it lacks is released as it arrives or was released just before: none comes to
-- wait, none is refused, and then the site has all messages of the logs
abbrev pub LackNeverWaits : Type 0
LackNeverWaits = EveryRun (λ w. (logs : List Log) → ((log : Log) → Has log logs → WasLogOf w log) → (log : Log) → Has log logs → log.site < length w.sites
    → log.messages ≡ (site w log.site).log → (keep : ℕ) → keep ≤ KEEP_MAX → message_count w.sent ≤ keep
    → ((a : Result Arrival Refusal) → Has a (answers_to (place keep w log.site) (site w log.site) (lacked logs (site w log.site).log)) → IsTakenIn a)
    × ((m : Message) → Logged logs m → Has m (after_all (place keep w log.site) (site w log.site) (lacked logs (site w log.site).log)).log))

-- what logs that pass the checks come to by that has equal tables
abbrev pub CompletedTablesAreEqual : Type 0
CompletedTablesAreEqual = (sites : ℕ) (logs : List Log) → AreAmong sites logs → AreFaultless logs → (a b : Log) → Has a logs → Has b logs
    → (fold_of (cores (completed logs a.messages))).tables ≡ (fold_of (cores (completed logs b.messages))).tables

-- these deliveries bring each of n sites what its log lacks, among any others
abbrev pub BringsLack : ℕ → World → List Log → List Event → Type 0
BringsLack n w logs es = (i : ℕ) → i < n → (m : Message) → Has m (lacked logs (site w i).log)
    → (k : ℕ) × (packet_at w.sent k ≡ Some (packet.Msg m)) × Has (Deliver i k) es

-- logs of n sites, those of all of them as they are among them
pub record AreLogsOfAll (n : ℕ) (w : World) (logs : List Log) : Type 0 where
  pub were : (log : Log) → Has log logs → WasLogOf w log
  pub now : (i : ℕ) → i < n → (log : Log) × (Has log logs) × (log.messages ≡ (site w i).log)

-- after one round of that all sites have released all messages, and have equal tables
abbrev pub OneRoundConverges : Type 0
OneRoundConverges = AfterDeliveries (λ n w es v. (logs : List Log) → AreLogsOfAll n w logs → BringsLack n w logs es → (i j : ℕ) → i < n → j < n
    → HasReleasedAll v i × HasReleasedAll v j × (tables_at v i ≡ tables_at v j))

-- ---- a message that waits

-- the first message of site j that m counts and the log hasn't
abbrev pub awaited : List Message → Message → ℕ → Option Id
awaited log m j = cond (nat_lt (counted j log) (dep m j)) (Some (record { site = j; seq = counted j log + 1 })) None

-- the first red number before m's that the log hasn't
abbrev pub awaited_red : List Message → Message → Option ℕ
awaited_red log m = cond (nat_lt (reds log + 1) m.stamp.red) (Some (reds log + 1)) None

-- m waits for u after the log of site i: u was sent and isn't there, and it precedes m or has a smaller red number
pub record WaitsFor (w : World) (i : ℕ) (m u : Message) : Type 0 where
  pub sent : Sent w u
  pub missing : Has u (site w i).log → ⊥
  pub before : Precedes u m ⊎ ((0 < u.stamp.red) × (u.stamp.red < m.stamp.red))

-- each message that waits at a site of a run waits for one; and what is named by id or by red number is one
pub record NamesWhatIsAwaited (w : World) (i : ℕ) (m : Message) : Type 0 where
  pub some : ((j : ℕ) × (id : Id) × (awaited (site w i).log m j ≡ Some id)) ⊎ ((r : ℕ) × (awaited_red (site w i).log m ≡ Some r))
  pub ids : (j : ℕ) (id : Id) → awaited (site w i).log m j ≡ Some id → (u : Message) × (u.stamp.id ≡ id) × WaitsFor w i m u
  pub red : (r : ℕ) → awaited_red (site w i).log m ≡ Some r → (u : Message) × (u.stamp.red ≡ r) × WaitsFor w i m u

abbrev pub WaitingIsExplained : Type 0
WaitingIsExplained = EveryRun (λ w. (i : ℕ) (m : Message) → Has m (site w i).waiting → NamesWhatIsAwaited w i m)

-- ---- the records that `rubis lack` writes of logs, and of the messages that wait at a site

-- those of these messages that the site made
abbrev pub made_at : ℕ → List Message → List Message
made_at site messages = filter (λ m. m.stamp.id.site == site) messages

-- how many messages the log of that number lacks, or how many are lost
abbrev pub count_row : List ℕ → ℕ → ℕ → List (List ℕ)
count_row word number many = word ∷ decimal number ∷ decimal many ∷ []

-- one of the messages that it lacks
abbrev pub lack_row : ℕ → Message → List (List ℕ)
lack_row number m = codes "lack" ∷ decimal number ∷ message_record m

-- how many it lacks, and each of them. A site can't be given messages that it made itself: where it lacks some of these, only how
-- many they are
abbrev pub named_or_lost : ℕ → List Message → List Message → List (List (List ℕ))
named_or_lost number messages [] = count_row (codes "lacks") number (length messages) ∷ map (lack_row number) messages
named_or_lost number messages (m ∷ own) = count_row (codes "lost") number (length (m ∷ own)) ∷ []

abbrev pub lack_rows : ℕ → ℕ → List Message → List (List (List ℕ))
lack_rows number site messages = named_or_lost number messages (made_at site messages)

-- of the logs from that number on, among all logs
abbrev pub lack_rows_from : ℕ → List Log → List Log → List (List (List ℕ))
lack_rows_from number all [] = []
lack_rows_from number all (log ∷ logs) = lack_rows number log.site (lacked all log.messages) ++ lack_rows_from (number + 1) all logs

-- of logs with that verdict: what each lacks, or else the record of the verdict
abbrev pub lack_rows_of : List Log → Verdict → List (List (List ℕ))
lack_rows_of logs Agree = lack_rows_from 1 logs logs
lack_rows_of logs (Found kind log entry) = verdict_record (Found kind log entry) ∷ []

-- of logs that were read, or of the number of the record that couldn't be
abbrev pub lack_rows_read : Result (List Log) ℕ → List (List (List ℕ))
lack_rows_read (Ok logs) = lack_rows_of (reverse logs) (verdict (reverse logs))
lack_rows_read (Err n) = audit_record (Err n) ∷ []

-- the records that tell what logs lack, in answer to the records of these logs
abbrev pub lack_of : ℕ → List (List (List ℕ)) → List (List (List ℕ))
lack_of sites records = lack_rows_read (logs_after sites 1 [] records)

-- where the auditor's record is Agree, the records are those of logs that pass the checks, and what each lacks is answered; else
-- the auditor's record is
abbrev pub LackFollowsTheAudit : Type 0
LackFollowsTheAudit = (sites : ℕ) (records : List (List (List ℕ))) → sites ≤ COUNTED_MAX
    → (audit_of sites records ≡ verdict_record Agree
    → (logs : List Log) × (logs_after sites 1 [] records ≡ Ok (reverse logs)) × (AreAmong sites logs) × (AreFaultless logs)
    × (lack_of sites records ≡ lack_rows_from 1 logs logs))
    × ((audit_of sites records ≡ verdict_record Agree → ⊥) → lack_of sites records ≡ audit_of sites records ∷ [])

-- ---- what waits

abbrev pub red_rows : Message → Option ℕ → List (List (List ℕ))
red_rows m None = []
red_rows m (Some r) = (codes "waits" ∷ id_text m.stamp.id ∷ codes "red" ∷ decimal r ∷ []) ∷ []

-- of each site the first message that m waits for, and the red number
abbrev pub waits_rows : List Message → Message → List (List (List ℕ))
waits_rows log m =
    map (λ id. codes "waits" ∷ id_text m.stamp.id ∷ codes "for" ∷ id_text id ∷ []) (filter_map (awaited log m) (range_with_len 0 (sites_of m)))
    ++ red_rows m (awaited_red log m)

-- the records that tell what each message that waits at a site waits for, in arrival order
abbrev pub waiting_rows : Replica → List (List (List ℕ))
waiting_rows s = flat_map (waits_rows s.log) s.waiting
