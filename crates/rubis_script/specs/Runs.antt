-- How a run of a site, with or without helpers that stay, goes on and ends.
use Rattle.std.specs.Prelude.{◌≡◌, [], IfNone, IfOk, Option, Result, true, ℕ, All, List, Ok, Err}
use Rattle.rubis_crew.specs.States.{CrewId, LeadState}
use Rattle.rubis_engine.specs.declared.fault.Count.{Count}
use Rattle.rubis_engine.specs.declared.fault.RunFault.{RunFault}
use Rattle.rubis_reading.specs.Chunked.{held_text, CameWhole}
use Rattle.rubis_reading.specs.Readings.{AreOf, AreInputs, FitWindow, flat}
use Rattle.rubis_reading.specs.declared.chunks.Chunks.{Chunks}
use Rattle.rubis_reading.specs.declared.pieces.Pieces.{Pieces}
use Rattle.rubis_script.specs.declared.desk.Desk.{Desk}
use Rattle.rubis_script.specs.declared.helped.Helpers.{Helpers}
use Rattle.rubis_message.specs.Inputs.{FitsIn}
use Rattle.rubis_message.specs.declared.inputs.Input.{Input}
use Rattle.rubis_replica.specs.State.{SiteState}
use Rattle.rubis_engine.specs.Accounts.Ending.{AtEnd}
use Rattle.rubis_engine.specs.Progress.{WrotePrefix}
use Rattle.rubis_engine.specs.Seam.{Lefts}
use Rattle.rubis_engine.specs.Text.{input_records}
use Rattle.rubis_engine.specs.declared.fault.RunFault.TheVariants.{Memory, Read, TooLong, Write}
use Rattle.rubis_reading.specs.declared.stretches.Stretch.{Stretch}
use Rattle.rubis_serving.specs.Outlets.{writes, writes_front}
use Rattle.rubis_serving.specs.Serving.{At, Goes, Serving, Tears, serving}
use Rattle.rubis_script.specs.Desks.{LeadsSite, left_at}
use Rattle.rubis_script.specs.Headline.{AnswersAll, AnswersFirst, AnswersJust}
use Rattle.rubis_script.specs.SiteRuns.{told_by}

-- the pieces are of the text that is held, and read as at this desk
pub record AreHeld {R T : Type 0} (chunks : Chunks R) (d : Desk T) (p : Pieces) : Type 0 where
  pub pieces : AreOf (held_text chunks) p
  pub sites : p.sites ≡ d.site.place.sites
  pub window : p.window ≡ d.plan.window

-- they are those of the same two crews
abbrev pub StayWith : Helpers → Helpers → Type 0
StayWith old new = (new.pieces.lead.crew ≡ old.pieces.lead.crew) × (new.hands.lead.crew ≡ old.hands.lead.crew)

-- after a step of the run they are, and the pieces are of what is held then, if the run goes on
abbrev pub StayHeld : {R T : Type 0} → Helpers → Chunks R → Desk T → Helpers → Result (Option Count) RunFault → Type 0
StayHeld old chunks d new result = StayWith old new × IfOk result (λ over. IfNone over (AreHeld chunks d new.pieces))

-- the lead of that crew has all back, and said that no more come
abbrev pub HasEnded : {J : Type 0} → CrewId → LeadState J → Type 0
HasEnded crew l = (l.crew ≡ crew) × (l.ended ≡ true) × (l.given ≡ [])

-- both crews are told that no more come
abbrev pub AreOver : Helpers → Helpers → Type 0
AreOver old new = HasEnded old.pieces.lead.crew new.pieces.lead × HasEnded old.hands.lead.crew new.hands.lead

-- ---- how a run of a site goes on and ends

-- how a run over the chunks of an input ends: all records are answered; the first `limit` of more; those that came whole, where the reader
-- failed; or a prefix of the text was written, where memory ran out or the writer failed
abbrev pub EndsAsSite : {R : Type 0} → Lefts R → Chunks R → ℕ → SiteState → SiteState → Option (List ℕ) → Option (List ℕ) → List ℕ
    → Result Count RunFault → Type 0
EndsAsSite rem chunks limit first new old now input (Ok count) = AnswersAll limit first new old now (input_records input) count.records
EndsAsSite rem chunks limit first new old now input (Err TooLong) = AnswersFirst limit first new old now (input_records input)
EndsAsSite rem chunks limit first new old now input (Err Read) =
    (k : ℕ) × AnswersJust k first new old now (input_records input) × CameWhole rem chunks input k
EndsAsSite rem chunks limit first new old now input (Err Memory) = WrotePrefix ((told_by first 1).text AtEnd) old now (input_records input)
EndsAsSite rem chunks limit first new old now input (Err Write) = WrotePrefix ((told_by first 1).text AtEnd) old now (input_records input)

-- ---- records that were read ahead

-- what was read ahead is of this desk's system, and no more messages came together than it takes in together
pub record IsSound {T : Type 0} (d : Desk T) (ahead : List Stretch) : Type 0 where
  pub fits : All (λ p. FitsIn d.site.place.sites p) (flat ahead)
  pub windows : FitWindow d.plan.window ahead

-- a run of its desk, whose answers go to a writer
abbrev pub by_desk : {T W : Type 0} → (W → Option (List ℕ)) → Serving (Desk T) W
by_desk contents = serving left_at LeadsSite (writes contents) (writes_front contents)

-- the records that were read so were answered, or are held
abbrev pub GoesAhead : {T W : Type 0} → (W → Option (List ℕ)) → List Input → At (Desk T) W → At (Desk T) W → Type 0
GoesAhead contents ps x y = (rows : List (List (List ℕ))) → AreInputs x.service.site.place.sites rows ps → Goes (by_desk contents) rows x y

-- before they were, memory ran out or the writer failed
abbrev pub BreaksAhead : {T W : Type 0} → (W → Option (List ℕ)) → List Input → At (Desk T) W → W → Type 0
BreaksAhead contents ps x after = (rows : List (List (List ℕ))) → AreInputs x.service.site.place.sites rows ps → Tears (by_desk contents) rows x after
