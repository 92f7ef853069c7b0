-- Logs, and records of an audit, whose messages were widened: what stays.
use Rattle.std.specs.Prelude.{◌≡◌, ◌↔◌, ℕ, ◌≤◌, List, map, [], Ok}
use Rattle.rubis_schema.specs.Tables.{Tables}
use Rattle.rubis_schema.specs.declared.limits.TheConstants.{COUNTED_MAX}
use Rattle.rubis_message.specs.Message.{widened}
use Rattle.rubis_model.specs.Audit.{AreAmong}
use Rattle.rubis_model.specs.Log.{cores}
use Rattle.rubis_model.specs.Verdict.{Log, verdict}
use Rattle.rubis_model.specs.Meaning.{IsMeaning}
use Rattle.std.specs.Option.{option_map_or}
use Rattle.rubis_model.specs.AuditRecords.{Line, line_of, line_record, logs_after, audit_of}
use Rattle.rubis_model.specs.AuditRecords.Line.{Begin, Next, Claim}

-- each message counts `sites` sites; the rows stay as they are claimed
abbrev pub widened_log : ℕ → Log → Log
widened_log sites log = record { site = log.site; messages = map (widened sites) log.messages; rows = log.rows }

-- its messages are then of that many sites
abbrev pub WidenedAreAmong : Type 0
WidenedAreAmong = (from to : ℕ) (logs : List Log) → from ≤ to → to ≤ COUNTED_MAX → AreAmong from logs → AreAmong to (map (widened_log to) logs)

-- it has the same meaning
abbrev pub MeaningStays : Type 0
MeaningStays = (to : ℕ) (log : Log) (t : Tables) → IsMeaning (cores (widened_log to log).messages) t ↔ IsMeaning (cores log.messages) t

-- the verdict on logs of one number of sites stays
abbrev pub VerdictStays : Type 0
VerdictStays = (from to : ℕ) (logs : List Log) → from ≤ to → AreAmong from logs → verdict (map (widened_log to) logs) ≡ verdict logs

-- ---- the records of an audit whose messages were widened: what stays

-- a message counts `to` sites; a site and a row stay
abbrev pub widened_line : ℕ → Line → Line
widened_line to (Begin site) = Begin site
widened_line to (Next m) = Next (widened to m)
widened_line to (Claim row) = Claim row

-- the record of it
abbrev pub widened_record : ℕ → ℕ → List (List ℕ) → List (List ℕ)
widened_record from to fields = option_map_or (λ x. line_record (widened_line to x)) (line_of from fields) fields

-- if all records are in the grammar, an audit of the widened ones answers the same
abbrev pub AuditStays : Type 0
AuditStays = (from to : ℕ) (records : List (List (List ℕ))) (logs : List Log) → from ≤ to → to ≤ COUNTED_MAX → logs_after from 1 [] records ≡ Ok logs
    → audit_of to (map (widened_record from to) records) ≡ audit_of from records
