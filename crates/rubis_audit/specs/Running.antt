-- An auditor that reads records, and what it writes.
use Rattle.std.specs.Prelude.{◌≡◌, ℕ, List, [], ◌∷◌, Bool, false, ⊤, bytes_eq, codes, cond, nat_lt, Option, Some, None, option_and_then, ◌≤◌, ◌==◌, ◌&&◌, suc}
use Rattle.std.specs.Prelude.{true, length, reverse, Result, ◌⊎◌, ◌++◌, Ok, ◌+◌, map, decimal, ◌-◌}
use Rattle.rubis_schema.specs.NumberForms.{number_of}
use Rattle.rubis_message.specs.Message.{sites_of, Message}
use Rattle.rubis_model.specs.AuditRecords.{Line as Said, audit_record, line_of, logs_after, with_line, verdict_record}
use Rattle.rubis_model.specs.AuditRecords.Line.{Begin, Claim, Next}
use Rattle.rubis_audit.specs.declared.lines.Line.{Line}
use Rattle.rubis_audit.specs.declared.lines.Line.TheVariants as read
use Rattle.rubis_schema.specs.declared.limits.TheConstants.{COUNTED_MAX}
use Rattle.rubis_message.specs.declared.answers.Verdict.{Verdict}
use Rattle.rubis_message.specs.declared.answers.Verdict.TheVariants.{Agree, Found}
use Rattle.rubis_model.specs.Audit.{AreFaultless, AreSound}
use Rattle.rubis_model.specs.Lack.{lacked, lack_rows_read, made_at, awaited}
use Rattle.rubis_model.specs.Verdict.{Log, verdict}
use Rattle.rubis_model.specs.Site.{Has}
use Rattle.rubis_engine.specs.Accounts.{Account, Ending}
use Rattle.rubis_engine.specs.Accounts.Ending.{AtEnd, Cut}
use Rattle.rubis_engine.specs.Text.{rows_text, input_records}
use Rattle.rubis_audit.specs.Walks.{HaveMessagesAmong}
use Rattle.rubis_audit.specs.declared.auditor.LogQuestion.{LogQuestion}
use Rattle.rubis_audit.specs.declared.auditor.LogQuestion.TheVariants.{Agreement, Lacks}
use Rattle.rubis_model.specs.Widening.{widened_record}
use Rattle.rubis_audit.specs.declared.widener.LinePlace.{LinePlace}
use Rattle.std.specs.List.{filter_map, range_with_len}
use Rattle.rubis_schema.specs.Ids.{id_text}
use Rattle.rubis_schema.specs.declared.ids.Id.{Id}

-- the site whose log begins
abbrev pub begin_of : ℕ → List (List ℕ) → Option ℕ
begin_of sites (word ∷ site ∷ []) = cond (bytes_eq word (codes "site")) (option_and_then (λ n. cond (nat_lt n sites) (Some n) None) (number_of 255 site)) None
begin_of sites fields = None

-- it is a row of tables
abbrev pub is_row : List (List ℕ) → Bool
is_row [] = false
is_row (word ∷ rest) = bytes_eq word (codes "row")

-- what was read of these fields
abbrev pub line_as : List (List ℕ) → Line → Said
line_as fields (read.Begin site) = Begin site
line_as fields (read.Next m) = Next m
line_as fields read.Claim = Claim fields

-- if the line is a message, it counts `sites` sites
abbrev pub IsAmongLine : ℕ → Option Line → Type 0
IsAmongLine sites (Some (read.Next m)) = sites_of m ≡ sites
IsAmongLine sites line = ⊤

-- ---- an auditor that reads records

-- among how many sites, what is asked of the logs, the logs so far, newest first, and whether that was answered and nothing wrong was
-- found
pub record AuditorState : Type 0 where
  pub sites : ℕ
  pub asked : LogQuestion
  pub logs : List Log
  pub well : Bool

-- the logs that ended, in order, and the one that is read, if one has begun
abbrev pub logs_so_far : List Log → Option Log → List Log
logs_so_far ended None = []
logs_so_far ended (Some log) = log ∷ reverse ended

-- each message of the log counts `sites` sites
abbrev pub HasMessagesAmong : ℕ → Log → Type 0
HasMessagesAmong sites log = (m : Message) → Has m log.messages → sites_of m ≡ sites

-- the messages of the log that is being read, if there is one, are of `sites` sites
abbrev pub IsCurrentAmong : ℕ → Option Log → Type 0
IsCurrentAmong sites current = (log : Log) → current ≡ Some log → HasMessagesAmong sites log

-- what these are for an auditor of `sites` sites
pub record AreForAuditor (sites : ℕ) (ended : List Log) (current : Option Log) : Type 0 where
  pub few : sites ≤ COUNTED_MAX
  pub ended_among : (log : Log) → Has log ended → HasMessagesAmong sites log
  pub current_among : IsCurrentAmong sites current

-- these logs of `sites` sites were audited, and that was found
pub record AreAudited (sites : ℕ) (logs : List Log) (found : Verdict) : Type 0 where
  pub few : sites ≤ COUNTED_MAX
  pub among : HaveMessagesAmong sites logs
  pub verdict_is : found ≡ verdict logs
  pub faultless : found ≡ Agree → AreFaultless logs

-- ---- what is made of records

-- the records that answer what is asked of logs that were read, or of the number of the first record that is malformed
abbrev pub rows_for : LogQuestion → Result (List Log) ℕ → List (List (List ℕ))
rows_for Agreement logs = audit_record logs ∷ []
rows_for Lacks logs = lack_rows_read logs

-- none of these logs lacks a message of its own site that another of all logs has
abbrev pub none_lost : List Log → List Log → Bool
none_lost all [] = true
none_lost all (log ∷ logs) = (length (made_at log.site (lacked all log.messages)) == 0) && none_lost all logs

-- what was asked of logs with that verdict finds nothing wrong: they agree, and, if it is what they lack, none has lost a message
abbrev pub is_well : LogQuestion → List Log → Verdict → Bool
is_well Agreement logs Agree = true
is_well Lacks logs Agree = none_lost logs logs
is_well asked logs (Found kind log entry) = false

-- what was asked of all logs was answered, and it is known whether nothing wrong was found
abbrev pub HasFound : AuditorState → AuditorState → Type 0
HasFound old new = new.well ≡ is_well old.asked (reverse old.logs) (verdict (reverse old.logs))

-- with no more records it stays as it is, or has found that; nothing is said of records that are read
abbrev pub LeadsAuditor : AuditorState → List (List (List ℕ)) → AuditorState → Type 0
LeadsAuditor old [] new = (new ≡ old) ⊎ HasFound old new
LeadsAuditor old (fields ∷ more) new = ⊤

-- at the end these; where the run is cut short, nothing
abbrev pub answer_text : LogQuestion → Ending → Result (List Log) ℕ → List ℕ
answer_text asked AtEnd logs = rows_text (rows_for asked logs)
answer_text asked Cut logs = []

-- how many of the records after these logs are read: all, or those up to the first that is malformed there
abbrev pub read_behind : ℕ → List Log → List (List (List ℕ)) → ℕ
read_behind sites logs [] = 0
read_behind sites logs (fields ∷ rest) = suc (elim (option_and_then (with_line logs) (line_of sites fields)) [
  | None ↦ 0
  | Some more ↦ read_behind sites more rest
])

-- of the records after these logs, newest first
abbrev pub account_from : LogQuestion → ℕ → ℕ → List Log → Account
account_from asked sites n logs = record {
  text = λ ending records. answer_text asked ending (logs_after sites n logs records);
  read = λ records. read_behind sites logs records;
}

-- of all records of an input: the auditor's record, and what each log lacks
abbrev pub audit_account : ℕ → Account
audit_account sites = account_from Agreement sites 1 []

-- what a run answers that tells what each log lacks
abbrev pub lack_account : ℕ → Account
lack_account sites = account_from Lacks sites 1 []

-- ---- what is written where the logs of an audit agree

-- the text `audit,Agree`, with its end of line
abbrev pub agreed_text : List ℕ
agreed_text = rows_text (verdict_record Agree ∷ [])

-- if that was written behind what stood there before, the records are those of logs, and these are sound
abbrev pub AgreesOnSoundLogs : ℕ → Option (List ℕ) → Option (List ℕ) → List (List (List ℕ)) → Type 0
AgreesOnSoundLogs sites old now records = (before : List ℕ) → old ≡ Some before → now ≡ Some (before ++ agreed_text)
    → (logs : List Log) × (logs_after sites 1 [] records ≡ Ok (reverse logs)) × AreSound logs

-- ---- the records of an audit, widened as they are read

-- from how many sites to how many, and where the next record stands
pub record WidenerState : Type 0 where
  pub from : ℕ
  pub to : ℕ
  pub place : LinePlace

-- the record that says that record n is not in the grammar
abbrev pub bad_record : ℕ → List (List ℕ)
bad_record n = codes "widen" ∷ codes "BadRecord" ∷ decimal n ∷ []

-- what is written for these records, after the records of these logs, newest first; the first record has the number n.
-- Each gives one row, the record widened, and the first that is not in the grammar is the last
abbrev pub widened_rows : ℕ → ℕ → ℕ → List Log → List (List (List ℕ)) → List (List (List ℕ))
widened_rows from to n logs [] = []
widened_rows from to n logs (fields ∷ rest) =
    elim (option_and_then (with_line logs) (line_of from fields)) [ None ↦ bad_record n | Some more ↦ widened_record from to fields ]
    ∷ elim (option_and_then (with_line logs) (line_of from fields)) [ None ↦ [] | Some more ↦ widened_rows from to (n + 1) more rest ]

-- all is written at once, so a run that is cut short has the same text; as many records are read as rows are written
abbrev pub widening_from : ℕ → ℕ → ℕ → List Log → Account
widening_from from to n logs = record {
  text = λ ending records. rows_text (widened_rows from to n logs records);
  read = λ records. length (widened_rows from to n logs records);
}

-- of all records of an input
abbrev pub widening_account : ℕ → ℕ → Account
widening_account from to = widening_from from to 1 []

-- the text that is written for an input
abbrev pub widened_text : ℕ → ℕ → List ℕ → List ℕ
widened_text from to input = (widening_account from to).text AtEnd (input_records input)

-- where all records of an input are in the grammar, what was written for it reads back as these records, each widened
abbrev pub WidenedTextReadsBack : Type 0
WidenedTextReadsBack = (from to : ℕ) (input : List ℕ) (logs : List Log) → from ≤ to → to ≤ COUNTED_MAX → logs_after from 1 [] (input_records input) ≡ Ok logs
    → input_records (widened_text from to input) ≡ map (widened_record from to) (input_records input)

-- and an audit among as many sites as it was widened to writes the same
abbrev pub WidenedAuditStays : Type 0
WidenedAuditStays = (from to : ℕ) (input : List ℕ) (logs : List Log) → from ≤ to → to ≤ COUNTED_MAX → logs_after from 1 [] (input_records input) ≡ Ok logs
    → (audit_account to).text AtEnd (input_records (widened_text from to input)) ≡ (audit_account from).text AtEnd (input_records input)

-- ---- what a message waits for, record by record

-- m waits for the message with that id
abbrev pub for_row : Message → Id → List (List ℕ)
for_row m id = codes "waits" ∷ id_text m.stamp.id ∷ codes "for" ∷ id_text id ∷ []

-- the row for what a message waits for, if it waits for something
abbrev pub for_rows : Message → Option Id → List (List (List ℕ))
for_rows m None = []
for_rows m (Some id) = for_row m id ∷ []

-- what m waits for of the sites from this one on
abbrev pub for_rows_from : List Message → Message → ℕ → List (List (List ℕ))
for_rows_from log m site = map (for_row m) (filter_map (awaited log m) (range_with_len site (sites_of m - site)))
