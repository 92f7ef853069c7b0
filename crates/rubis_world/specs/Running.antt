-- What several sites make of their records.
use Rattle.std.specs.Prelude.{◌∷◌, MatchOption, None, Option, Some, length, map}
use Rattle.rubis_schema.specs.declared.refusals.Refusal.{Refusal}
use Rattle.rubis_schema.specs.declared.refusals.Refusal.TheVariants as refusal
use Rattle.rubis_model.specs.Processes.{world_after, site_after}
use Rattle.rubis_model.specs.System.{World, start}
use Rattle.rubis_model.specs.WorldRecords.{refusal_row, world_answers, site_row}
use Rattle.rubis_script.specs.Replica.fault_variants as fault
use Rattle.rubis_engine.specs.Accounts.{Account, Ending}
use Rattle.rubis_engine.specs.Text.{rows_text, plain_writer, row_text}
use Rattle.rubis_world.specs.Worlds.{ComesToWorld, WorldState}
use Rattle.rubis_world.specs.declared.desk.WorldDesk.{WorldDesk}
use Rattle.rubis_world.specs.declared.faults.WorldFault.{WorldFault}
use Rattle.rubis_world.specs.declared.faults.WorldFault.TheVariants.{BadEvent, NoSuchPacket, Site, Memory}
use Rattle.std.proofs.Common.{◌≡◌, ℕ, List, [], ◌++◌, refl, sym, ap, ◌∙◌, append_assoc}
use Rattle.std.proofs.lemmas.List.{append-nil, map-append}
use Rattle.std.proofs.lemmas.Grind.{flat_map-append}
use Rattle.rubis_model.specs.Lack.{waiting_rows}
use Rattle.rubis_model.specs.Site.{Place, Replica, opening_at}
use Rattle.rubis_engine.specs.Accounts.Ending.{AtEnd, Cut}

-- what refuses an event; where a site is behind or memory runs out nothing does
abbrev pub refusal_of : WorldFault → Option Refusal
refusal_of BadEvent = Some refusal.BadEvent
refusal_of NoSuchPacket = Some refusal.NoSuchPacket
refusal_of (Site (fault.Refused r)) = Some r
refusal_of (Site fault.Behind) = None
refusal_of (Site fault.Memory) = None
refusal_of Memory = None

-- the event is refused, and the text says so behind what stood before
abbrev pub IsRefused : ℕ → ℕ → WorldFault → List ℕ → List ℕ → Type 0
IsRefused n site fault before after = MatchOption (refusal_of fault) ⊥ (λ r. after ≡ before ++ rows_text (refusal_row n site r ∷ []))

-- the world has come to what a step makes of it, and the text of the step's records follows what stood before
abbrev pub IsTold : WorldState → WorldState → World × List (List (List ℕ)) → List ℕ → List ℕ → Type 0
IsTold old new step before after = ComesToWorld old new step.0 × (after ≡ before ++ rows_text step.1)

-- however the run ends after some records, from record n on, its text is that of the answers to them; it reads all of them
abbrev pub world_account : ℕ → World → ℕ → Account
world_account keep w n = record { text = λ ending records. rows_text (world_answers keep w n records); read = λ records. length records }

-- what `sites` sites with nothing done make of their records: the text of `world_output_of`
abbrev pub answers_of_world : ℕ → ℕ → Account
answers_of_world sites keep = world_account keep (start sites) 1

-- what is still to be made of a world
abbrev pub told_by_world : WorldState → ℕ → Account
told_by_world s n = world_account s.keep s.world n

-- these records, the first of which has that number, lead from one state of the sites to the other
abbrev pub LeadsWorld : WorldState → ℕ → List (List (List ℕ)) → WorldState → Type 0
LeadsWorld old n records new = ComesToWorld old new (world_after old.keep old.world n records)

-- ---- the same of the desk that has them

-- what the sites of a world's desk make of records, from a number on
abbrev pub told_by_desk : {T : Type 0} → WorldDesk T → ℕ → Account
told_by_desk desk n = told_by_world desk.world n

-- the sites of a world's desk are led by these records from one state to another
abbrev pub LeadsDesk : {T : Type 0} → WorldDesk T → ℕ → List (List (List ℕ)) → WorldDesk T → Type 0
LeadsDesk old n records new = LeadsWorld old.world n records new.world

-- ---- records that one site of several gives

-- the text comes to have these records of the site after what it had
abbrev pub text_grows_by : List (List (List ℕ)) → List ℕ → ℕ → List ℕ → ℕ → Type 0
text_grows_by rows old site new same = (new ≡ old ++ rows_text (map (site_row site) rows)) × (same ≡ site)

pub none_told : (text : List ℕ) (site : ℕ) → text_grows_by [] text site text site
none_told text site = (sym (append-nil text), refl)

pub more_told : (xs ys : List (List (List ℕ))) (a b c : List ℕ) (i j k : ℕ) → text_grows_by xs a i b j → text_grows_by ys b j c k
    → text_grows_by (xs ++ ys) a i c k
more_told xs ys a b c i j k e f =
    let both : rows_text (map (site_row i) (xs ++ ys)) ≡ rows_text (map (site_row i) xs) ++ rows_text (map (site_row i) ys) =
    ap rows_text (map-append (site_row i) xs ys) ∙ flat_map-append (row_text plain_writer) (map (site_row i) xs) (map (site_row i) ys) in
    (f.0 ∙ (λ t. e.0 t ++ rows_text (map (site_row (e.1 t)) ys)) ∙ append_assoc a _ _ ∙ ap (λ t. a ++ t) (sym both), f.1 ∙ e.1)

-- ---- what is written of the messages that wait at a site once its input ends

-- at the end of the input, the rows of what waits at the site; where the run is cut short, nothing
abbrev pub waiting_text : Ending → Replica → List ℕ
waiting_text AtEnd s = rows_text (waiting_rows s)
waiting_text Cut s = []

-- of a site and the records from record n on: the text is that of the site after them; all of them are read
abbrev pub waiting_from : Place → Replica → ℕ → Account
waiting_from p s n = record { text = λ ending records. waiting_text ending (site_after p s n records); read = λ records. length records }

-- of all records of an input, at a site with nothing done
abbrev pub waiting_account : Place → Account
waiting_account p = waiting_from p (opening_at p.site) 1
