-- Shops of sites that keep their records, whose processes are killed and started again at any moments.
use Rattle.std.specs.Prelude.{◌≡◌, ◌++◌, ◌∷◌, ℕ, List, bytes_eq, codes, cond}
use Rattle.rubis_schema.specs.declared.limits.TheConstants.{KEEP_MAX}
use Rattle.rubis_message.specs.declared.answers.Verdict.TheVariants.{Agree}
use Rattle.rubis_model.specs.Verdict.{Log, verdict}
use Rattle.rubis_model.specs.Processes.{AreProcesses, Moment, WasLogSinceStart, recorded}
use Rattle.rubis_model.specs.Site.{Has, Place, output_of, send_row}
use Rattle.rubis_model.specs.System.{AreEvents, Event, run, start}
use Rattle.rubis_engine.specs.Text.{rows_text}
use Rattle.rubis_keep.specs.History.{Says, records_in}
use Rattle.rubis_keep.specs.Saying.{says_of}
use Rattle.rubis_keys.specs.Keys.{keyed_answers, keyed_opening}
use Rattle.rubis_keys.specs.Laws.{bare_of}

-- the text that the process of a site answers to records, which may be under keys
abbrev pub process_text : Place → List (List (List ℕ)) → List ℕ
process_text p records = rows_text (keyed_answers p (keyed_opening p.site) 1 records)

-- and what it says of them
abbrev pub process_words : Place → Says
process_words p = says_of p (keyed_opening p.site)

-- the records of what was kept without their keys, and without the asks that were answered by what was known: what of them a process of the model reads
abbrev pub bare_in : Place → List ℕ → List (List (List ℕ))
bare_in p kept = bare_of p (keyed_opening p.site) (records_in kept)

-- what a packet carries that is under a key: the packet behind its first two fields
abbrev pub without_key : List (List ℕ) → List (List ℕ)
without_key (word ∷ key ∷ rest) = cond (bytes_eq word (codes "key")) rest (word ∷ key ∷ rest)
without_key fields = fields

-- what a site sends is, without its key, what a process of the model sends that reads its records without theirs. So where packets are carried
-- unchanged from site to site, they are carried unchanged from process to process
abbrev pub SendsWithoutKeys : Type 0
SendsWithoutKeys = (p : Place) (records : List (List (List ℕ))) (fields : List (List ℕ))
    → Has (send_row fields) (keyed_answers p (keyed_opening p.site) 1 records)
    → Has (send_row (without_key fields)) (output_of p (bare_of p (keyed_opening p.site) records))

-- the second list begins with the first
abbrev pub IsPrefix : List (List (List ℕ)) → List (List (List ℕ)) → Type 0
IsPrefix xs ys = (rest : List (List (List ℕ))) × (xs ++ rest ≡ ys)

-- a run of the model has the states of these processes at its sites, and their packets
abbrev pub IsSomeRun : ℕ → (ℕ → ℕ) → List Moment → Type 0
IsSomeRun sites keep moments = (events : List Event) × AreEvents sites events × AreProcesses sites keep (recorded moments) (run KEEP_MAX events (start sites))

-- the verdict on logs of the processes, each as it was at any moment, is Agree
abbrev pub AreAgreed : ℕ → (ℕ → ℕ) → List Moment → Type 0
AreAgreed sites keep moments = (logs : List Log) → ((log : Log) → Has log logs → WasLogSinceStart sites keep moments log) → verdict logs ≡ Agree
