-- What a run of one site says of it: what the site answers to the records that it reads, also where it is built again by replaying them.
use Rattle.std.specs.Prelude.{◌≡◌, ◌+◌, ◌++◌, ◌∷◌, [], ℕ, List, length, ◌≤◌, ◌<◌, ⊤, Option, None, Result, Ok, Err, take}
use Rattle.rubis_message.specs.Inputs.{input_of}
use Rattle.rubis_model.specs.Site.{answers, input_step, Place, Replica}
use Rattle.std.specs.Io.KnownBytes.{Appends}
use Rattle.rubis_message.specs.Message.{Message}
use Rattle.rubis_model.specs.Processes.{IsLogOfProcess, Reading, answers_of, read_by, site_after, state_of}
use Rattle.rubis_message.specs.declared.inputs.Input.{Input}
use Rattle.rubis_replica.specs.State.{after_all, SiteState}
use Rattle.rubis_engine.specs.Text.{input_records, rows_text}
use Rattle.rubis_engine.specs.declared.fault.Count.{Count}
use Rattle.rubis_engine.specs.declared.fault.RunFault.{RunFault}
use Rattle.rubis_engine.specs.declared.fault.RunFault.TheVariants.{Memory, Read, TooLong, Write}

-- the site after these records, the first of which has number n
unfoldable pub after_records : Place → Replica → ℕ → List (List (List ℕ)) → Replica
after_records p s n [] = s
after_records p s n (fields ∷ rest) = after_records p (input_step p s n (input_of p.sites fields)).0 (n + 1) rest

-- what a site answers to some records and then to more is what it answers to the first, and after that what the site in which
-- they leave it answers to the others, with numbers that go on
abbrev pub ReplaysGoOn : Type 0
ReplaysGoOn = (p : Place) (s : Replica) (n : ℕ) (records more : List (List (List ℕ)))
    → answers p s n (records ++ more) ≡ answers p s n records ++ answers p (after_records p s n records) (n + length records) more

-- ---- what a run of one site says of it: what the site answers to the records that it reads, and the state in which they leave it

-- of the records that a run answers this holds, by how it ends: of all records at the end of the input, of the first `limit` where
-- there are more, of some first ones where the reader failed. Where memory ran out or the writer failed, nothing is said
abbrev pub OfRead : ℕ → List ℕ → Result Count RunFault → (List (List (List ℕ)) → Type 0) → Type 0
OfRead limit input (Ok count) holds = holds (input_records input)
OfRead limit input (Err TooLong) holds = holds (take limit (input_records input))
OfRead limit input (Err Read) holds = (k : ℕ) × holds (take k (input_records input))
OfRead limit input (Err Memory) holds = ⊤
OfRead limit input (Err Write) holds = ⊤

-- these records lead from one state of a site to the other
abbrev pub Lead : List (List (List ℕ)) → SiteState → SiteState → Type 0
Lead records old new = (new.place ≡ old.place) × (new.state ≡ site_after old.place old.state 1 records)

-- what the site answers to these records stands behind what stood there before, and they led it from one state to the other
abbrev pub HasAnswered : SiteState → SiteState → Option (List ℕ) → Option (List ℕ) → List (List (List ℕ)) → Type 0
HasAnswered old new before after records = Appends before after (rows_text (answers old.place old.state 1 records)) × Lead records old new

-- ---- the same of a site with nothing done before, in the words of the laws of processes

-- the process of this site keeps as many messages, and of all readings it has read just these records
abbrev pub HasReadJust : Place → (ℕ → ℕ) → List Reading → List (List (List ℕ)) → Type 0
HasReadJust p keep readings records = (keep p.site ≡ p.keep) × (read_by p.site readings ≡ records)

-- what was appended are the answers of such a process
abbrev pub WritesAsProcess : Place → Option (List ℕ) → Option (List ℕ) → List (List (List ℕ)) → Type 0
WritesAsProcess p before after records = (keep : ℕ → ℕ) (readings : List Reading) → HasReadJust p keep readings records
    → Appends before after (rows_text (answers_of p.sites keep readings p.site))

-- the site stands as such a process does, and its log is that of the process
abbrev pub StandsAsProcess : Place → Replica → List (List (List ℕ)) → Type 0
StandsAsProcess p state records = (keep : ℕ → ℕ) (readings : List Reading) → HasReadJust p keep readings records
    → (state ≡ state_of p.sites keep readings p.site)
    × (p.site < p.sites → IsLogOfProcess p.sites keep readings (record { site = p.site; messages = state.log; rows = None }))

-- ---- steps of a run

-- the site was led from the one state, with these messages held, to the other, where only messages that it held were taken in
abbrev pub SettlesHeld : SiteState → List Message → SiteState → List Message → Type 0
SettlesHeld old held new left = (new.place ≡ old.place) × (after_all new.place new.state left ≡ after_all old.place old.state held)

-- the same, where record n was taken in after them, or is held too
abbrev pub StepsOn : ℕ → Input → SiteState → List Message → SiteState → List Message → Type 0
StepsOn n input old held new left =
    (new.place ≡ old.place) × (after_all new.place new.state left ≡ (input_step old.place (after_all old.place old.state held) n input).0)

-- all records are answered, at most `limit`
abbrev pub AnswersAll : ℕ → SiteState → SiteState → Option (List ℕ) → Option (List ℕ) → List (List (List ℕ)) → ℕ → Type 0
AnswersAll limit first new old now records count = HasAnswered first new old now records × (count ≡ length records) × (count ≤ limit)

-- the first `limit` are, and there are more
abbrev pub AnswersFirst : ℕ → SiteState → SiteState → Option (List ℕ) → Option (List ℕ) → List (List (List ℕ)) → Type 0
AnswersFirst limit first new old now records = HasAnswered first new old now (take limit records) × (limit < length records)

-- just the first n are, and no more
abbrev pub AnswersJust : ℕ → SiteState → SiteState → Option (List ℕ) → Option (List ℕ) → List (List (List ℕ)) → Type 0
AnswersJust n first new old now records = HasAnswered first new old now (take n records) × (n ≤ length records)
