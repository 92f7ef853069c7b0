-- The records of several sites in one run, and what answers them.
use Rattle.std.specs.Prelude.{ℕ, ◌+◌, codes, decimal, List, [], ◌∷◌, ◌++◌, length, map, Option, Some, None, Result, Ok, Err}
use Rattle.std.specs.List.{range_with_len}
use Rattle.rubis_schema.specs.Refusals.{code_of, refusal_name}
use Rattle.rubis_schema.specs.declared.refusals.Refusal.{Refusal}
use Rattle.rubis_schema.specs.declared.refusals.Refusal.TheVariants.{BadEvent, BadRecord, NoSuchPacket}
use Rattle.rubis_message.specs.WorldReadings.{world_input}
use Rattle.rubis_message.specs.declared.answers.Happened.{Happened}
use Rattle.rubis_message.specs.declared.answers.Happened.TheVariants as happened
use Rattle.rubis_message.specs.declared.requests.Request.{Request}
use Rattle.rubis_message.specs.declared.tokens.Packet.{Packet}
use Rattle.rubis_message.specs.declared.tokens.Packet.TheVariants as packet
use Rattle.rubis_message.specs.declared.world_inputs.WorldInput.{WorldInput}
use Rattle.rubis_message.specs.declared.world_inputs.WorldInput.TheVariants.{Asked, Delivered, Audit, Neither}
use Rattle.rubis_model.specs.Site.{arrived_rows, asked_rows, listed_rows, passed_rows, refused_row, took_rows}
use Rattle.rubis_model.specs.AuditRecords.{verdict_record}
use Rattle.rubis_model.specs.Verdict.{Log, shown_rows, verdict}
use Rattle.rubis_model.specs.System.{World, happens, packet_at, site, start}
use Rattle.rubis_model.specs.System.Event.{At, Deliver}

-- ---- answers

-- a record that a site gives, after `at` and the site
abbrev pub site_row : ℕ → List (List ℕ) → List (List ℕ)
site_row site row = codes "at" ∷ decimal site ∷ row

-- record n is no event, and is refused, after `world` and n
abbrev pub world_row : ℕ → Refusal → List (List ℕ)
world_row n r = codes "world" ∷ decimal n ∷ codes "refused" ∷ decimal (code_of r) ∷ refusal_name r ∷ []

-- the packet that answers a request
abbrev pub sent_rows : ℕ → Option Packet → List (List (List ℕ))
sent_rows n None = []
sent_rows n (Some (packet.Msg m)) = asked_rows n (Ok m)
sent_rows n (Some (packet.Token t)) = passed_rows n (Ok t)

-- the records that answer an event which wasn't refused
abbrev pub happened_rows : ℕ → List Packet → Happened → List (List (List ℕ))
happened_rows n sent (happened.Sent k) = sent_rows n (packet_at sent k)
happened_rows n sent (happened.Came a) = arrived_rows n (Ok a)
happened_rows n sent (happened.Token t) = took_rows n (Ok t)
happened_rows n sent (happened.Rows rows) = listed_rows n (Ok rows)

-- what is no event is refused by the world, and all else by the site
abbrev pub refusal_row : ℕ → ℕ → Refusal → List (List ℕ)
refusal_row n site BadEvent = world_row n BadEvent
refusal_row n site NoSuchPacket = world_row n NoSuchPacket
refusal_row n site r = site_row site (refused_row n r)

-- all packets that were sent are at hand
abbrev pub event_rows : ℕ → ℕ → List Packet → Result Happened Refusal → List (List (List ℕ))
event_rows n site sent (Ok h) = map (site_row site) (happened_rows n sent h)
event_rows n site sent (Err r) = refusal_row n site r ∷ []

-- an event at a site, with the records that answer it
abbrev pub told_at : ℕ → ℕ → World × Result Happened Refusal → World × List (List (List ℕ))
told_at n site step = (step.0, event_rows n site step.0.sent step.1)

-- a site's request, if the fields are one
abbrev pub asked_at : ℕ → World → ℕ → ℕ → Option Request → World × List (List (List ℕ))
asked_at keep w n i (Some r) = told_at n i (happens keep w (At i r))
asked_at keep w n i None = (w, site_row i (refused_row n BadRecord) ∷ [])

-- the log of a site, with its tables
abbrev pub log_of : World → ℕ → Log
log_of w i = record { site = i; messages = (site w i).log; rows = Some (shown_rows (site w i).log) }

-- the logs of all sites
abbrev pub logs_of : World → List Log
logs_of w = map (log_of w) (range_with_len 0 (length w.sites))

-- the world after record n, and the records that answer it
abbrev pub world_step : ℕ → World → ℕ → WorldInput → World × List (List (List ℕ))
world_step keep w n (Asked i r) = asked_at keep w n i r
world_step keep w n (Delivered i k) = told_at n i (happens keep w (Deliver i k))
world_step keep w n Audit = (w, verdict_record (verdict (logs_of w)) ∷ [])
world_step keep w n Neither = (w, world_row n BadEvent ∷ [])

-- the records that answer these records, the first of which has that number
unfoldable pub world_answers : ℕ → World → ℕ → List (List (List ℕ)) → List (List (List ℕ))
world_answers keep w n [] = []
world_answers keep w n (fields ∷ rest) =
    (world_step keep w n (world_input (length w.sites) fields)).1 ++ world_answers keep (world_step keep w n
    (world_input (length w.sites) fields)).0 (n + 1) rest

-- everything that `sites` sites answer to a run of records, where each site keeps at most `keep` messages
abbrev pub world_output_of : ℕ → ℕ → List (List (List ℕ)) → List (List (List ℕ))
world_output_of sites keep records = world_answers keep (start sites) 1 records
