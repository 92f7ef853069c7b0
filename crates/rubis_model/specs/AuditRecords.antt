-- The records that an auditor reads, and the one that it writes.
use Rattle.std.specs.Prelude.{◌≡◌, ◌≢◌, ◌↔◌, ℕ, ◌+◌, ◌<◌, ◌≤◌, List, [], ◌∷◌, ◌++◌, map, reverse, bytes_eq, codes, decimal, Option, Some, None, option_and_then}
use Rattle.std.specs.Prelude.{unwrap_or, Result, Ok, Err}
use Rattle.std.specs.List.{flat_map}
use Rattle.std.specs.Option.{option_or}
use Rattle.rubis_schema.specs.NumberForms.{only_if}
use Rattle.rubis_schema.specs.declared.limits.TheConstants.{COUNTED_MAX}
use Rattle.rubis_message.specs.Readings.{Form, ◌>>=◌, ◌>>◌, check, mapped, one, take_site, whole, packet_of}
use Rattle.rubis_message.specs.Grammar.{IsMessageAmong, message_record}
use Rattle.rubis_message.specs.Message.{fault_kind_name, Message}
use Rattle.rubis_message.specs.declared.answers.Verdict.{Verdict}
use Rattle.rubis_message.specs.declared.answers.Verdict.TheVariants.{Agree, Found}
use Rattle.rubis_message.specs.declared.tokens.Packet.{Packet}
use Rattle.rubis_message.specs.declared.tokens.Packet.TheVariants as packet
use Rattle.rubis_model.specs.Verdict.{Log, verdict}
use Rattle.rubis_model.specs.Site.{Has}
use Rattle.rubis_model.specs.Audit.{AreSound}

-- what a record says: a log of that site begins; its next message; one of the rows that it claims
pub data Line : Type 0 where
  Begin : ℕ → Line
  Next : Message → Line
  Claim : List (List ℕ) → Line

-- `site`, then the number of a site, below `sites`
unfoldable pub take_begin : ℕ → Form Line
take_begin sites = do
  word ← one Some
  check (bytes_eq word (codes "site"))
  mapped Begin (take_site sites)

-- a message, and no token
abbrev pub next_of : Packet → Option Line
next_of (packet.Msg m) = Some (Next m)
next_of (packet.Token t) = None

-- a row is any record whose first field is `row`
abbrev pub claim_of : List (List ℕ) → Option Line
claim_of [] = None
claim_of (word ∷ rest) = only_if (bytes_eq word (codes "row")) (Claim (word ∷ rest))

-- what the fields of a record say when there are `sites` sites
abbrev pub line_of : ℕ → List (List ℕ) → Option Line
line_of sites fields = option_or (whole (take_begin sites) fields) (option_or (claim_of fields) (option_and_then next_of (packet_of sites fields)))

-- the logs with one record more, the newest log in front. None but `site` stands before the first log, and no message
-- after a row
abbrev pub with_line : List Log → Line → Option (List Log)
with_line logs (Begin site) = Some (record { site = site; messages = []; rows = None } ∷ logs)
with_line [] line = None
with_line (log ∷ logs) (Next m) = elim log.rows [
  | None ↦ Some (record log { messages = log.messages ++ m ∷ [] } ∷ logs)
  | Some rows ↦ None
]
with_line (log ∷ logs) (Claim row) = Some (record log { rows = Some (unwrap_or log.rows [] ++ row ∷ []) } ∷ logs)

-- the logs after these records, the first of which has that number; or the number of the first that isn't so
abbrev pub logs_after : ℕ → ℕ → List Log → List (List (List ℕ)) → Result (List Log) ℕ
logs_after sites n logs [] = Ok logs
logs_after sites n logs (fields ∷ rest) = elim (option_and_then (with_line logs) (line_of sites fields)) [
  | None ↦ Err n
  | Some more ↦ logs_after sites (n + 1) more rest
]

-- the record of a verdict
abbrev pub verdict_record : Verdict → List (List ℕ)
verdict_record Agree = codes "audit" ∷ codes "Agree" ∷ []
verdict_record (Found kind log entry) = codes "audit" ∷ fault_kind_name kind ∷ decimal log ∷ decimal entry ∷ []

-- the one record that answers an audit: the verdict, or BadRecord with the number of the first malformed record
abbrev pub audit_record : Result (List Log) ℕ → List (List ℕ)
audit_record (Ok logs) = verdict_record (verdict (reverse logs))
audit_record (Err n) = codes "audit" ∷ codes "BadRecord" ∷ decimal n ∷ []

-- the record that answers these records: the verdict on their logs, or the first record that isn't so
abbrev pub audit_of : ℕ → List (List (List ℕ)) → List (List ℕ)
audit_of sites records = audit_record (logs_after sites 1 [] records)

-- ---- what is written is read, and nothing else

-- the record that says so
abbrev pub line_record : Line → List (List ℕ)
line_record (Begin site) = codes "site" ∷ decimal site ∷ []
line_record (Next m) = message_record m
line_record (Claim row) = row

-- it can be said when there are `sites` sites
abbrev pub IsLine : ℕ → Line → Type 0
IsLine sites (Begin site) = site < sites
IsLine sites (Next m) = IsMessageAmong sites m
IsLine sites (Claim row) = (rest : List (List ℕ)) × (row ≡ codes "row" ∷ rest)

-- the records of a log: its site, its messages, and the rows that it claims
abbrev pub log_records : Log → List (List (List ℕ))
log_records log = line_record (Begin log.site) ∷ (map message_record log.messages ++ unwrap_or log.rows [])

-- a log that records can say when there are `sites` sites; if it claims rows, it claims at least one
pub record IsLogAmong (sites : ℕ) (log : Log) : Type 0 where
  pub site : log.site < sites
  pub messages : (m : Message) → Has m log.messages → IsMessageAmong sites m
  pub some : log.rows ≢ Some []
  pub rows : (row : List (List ℕ)) → Has row (unwrap_or log.rows []) → IsLine sites (Claim row)

-- a record says exactly what can be said and is written so
abbrev pub LinesAreReadAsWritten : Type 0
LinesAreReadAsWritten =
    (sites : ℕ) → sites ≤ COUNTED_MAX → (fields : List (List ℕ)) (line : Line)
    → (line_of sites fields ≡ Some line) ↔ (IsLine sites line × (fields ≡ line_record line))

-- and so the records of logs are those of exactly these logs
abbrev pub LogsAreReadAsWritten : Type 0
LogsAreReadAsWritten =
    (sites : ℕ) → sites ≤ COUNTED_MAX → (records : List (List (List ℕ))) (logs : List Log)
    → (logs_after sites 1 [] records ≡ Ok (reverse logs)) ↔ (((log : Log) → Has log logs → IsLogAmong sites log) × (records ≡ flat_map log_records logs))

-- ---- what the one record of an audit says of the logs that were read

-- where the record is Agree, the records of the input are those of logs, and these are sound
abbrev pub AgreedAuditsAreSound : Type 0
AgreedAuditsAreSound = (sites : ℕ) (records : List (List (List ℕ))) → sites ≤ COUNTED_MAX → audit_of sites records ≡ verdict_record Agree
    → (logs : List Log) × (logs_after sites 1 [] records ≡ Ok (reverse logs)) × AreSound logs
