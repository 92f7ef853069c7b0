-- What was kept, without the lines whose records changed nothing.
use Rattle.std.specs.Prelude.{◌≡◌, ◌⊎◌, ◌∷◌, [], ℕ, Bool, List, Option, Some, cond, false, true}
use Rattle.std.specs.Io.KnownBytes.{Appends}
use Rattle.rubis_message.specs.Inputs.{input_of}
use Rattle.rubis_message.specs.declared.inputs.Input.{Input}
use Rattle.rubis_model.specs.Site.{input_step, Place}
use Rattle.rubis_script.specs.Replica.{SiteState}
use Rattle.rubis_engine.specs.Text.{input_records}
use Rattle.rubis_keys.specs.Keys.{KeyedSite, keyed_input, keyed_step}
use Rattle.rubis_keys.specs.declared.inputs.KeyedInput.TheVariants.{Plain}
use Rattle.rubis_keep.specs.Lines.{HasSoundLines, begun_after, whole_lines}

-- the site has come to what a record makes of it; where it is said not to have changed, that is what it was
abbrev pub TakesRecord : SiteState → SiteState → Input → Bool → Type 0
TakesRecord old new input changed =
    (new.state ≡ (input_step old.place old.state 1 input).0) × (changed ≡ false → (input_step old.place old.state 1 input).0 ≡ old.state)

-- a site, and what it knows, after a record: where there are no keys yet, each record is read without one
abbrev pub after_record : Bool → Place → KeyedSite → List (List ℕ) → KeyedSite
after_record keyed p s fields = (keyed_step p s 1 (cond keyed (keyed_input p.sites fields) (Plain (input_of p.sites fields)))).0

-- and after these records
abbrev pub state_by : Bool → Place → KeyedSite → List (List (List ℕ)) → KeyedSite
state_by keyed p s [] = s
state_by keyed p s (fields ∷ rest) = state_by keyed p (after_record keyed p s fields) rest

abbrev pub state_after : Place → KeyedSite → List (List (List ℕ)) → KeyedSite
state_after p s records = state_by true p s records

-- `short` is `full` without some of the records that change nothing where they are read, neither the site nor what it knows
abbrev pub LeavesOut : Bool → Place → KeyedSite → List (List (List ℕ)) → List (List (List ℕ)) → Type 0
LeavesOut keyed p s short [] = short ≡ []
LeavesOut keyed p s short (fields ∷ full) = ((after_record keyed p s fields ≡ s) × LeavesOut keyed p s short full)
    ⊎ ((rest : List (List (List ℕ))) × (short ≡ fields ∷ rest) × LeavesOut keyed p (after_record keyed p s fields) rest full)

-- the site and what it knows have come to where these records lead; where they are said not to have changed, all of them may be left out
abbrev pub TakesRecords : Bool → Place → KeyedSite → KeyedSite → List (List (List ℕ)) → Bool → Type 0
TakesRecords keyed p old new records changed = (new ≡ state_by keyed p old records) × (changed ≡ false → LeavesOut keyed p old [] records)

-- of a text that begins with `done`, `line` is begun; what was written of it, `text`, is lines that are kept as they are, and is what
-- is left of the whole lines without some that changed nothing; and the site has taken all of these
pub record IsShort (keyed : Bool) (p : Place) (s : KeyedSite) (done line text : List ℕ) (state : KeyedSite) : Type 0 where
  pub begun : line ≡ begun_after [] done
  pub reached : state ≡ state_by keyed p s (input_records (whole_lines done))
  pub short : LeavesOut keyed p s (input_records text) (input_records (whole_lines done))
  pub sound : HasSoundLines [] text
  pub ends : begun_after [] text ≡ []

-- where all of what was kept is lines that are kept as they are, such lines were written, and are what was kept without some
-- records that change nothing where they are read
abbrev pub Shortens : Bool → Place → KeyedSite → Option (List ℕ) → Option (List ℕ) → Option (List ℕ) → Type 0
Shortens keyed p s past fresh fresh2 = (kept : List ℕ) → past ≡ Some kept → HasSoundLines [] kept
    → (short : List ℕ) × Appends fresh fresh2 short × LeavesOut keyed p s (input_records short) (input_records (whole_lines kept)) × HasSoundLines [] short
    × (begun_after [] short ≡ [])
