-- A run of a site that keeps its records, from its start to its end: what was kept is read through and flushed, and answered again; the line
-- that isn't whole is cut off, and `kept,..` is shown; then new records come.
use Rattle.std.specs.Prelude.{◌≡◌, ◌∷◌, ◌⊎◌, [], ℕ, IfSome, List, MatchResult, None, Option, Result, false, take, true, ⊤}
use Rattle.std.specs.Io.KnownBytes.{IsAtEnd, Keeps}
use Rattle.rubis_model.specs.Site.{counts}
use Rattle.rubis_keep.specs.Turns.{Answering, Breaks, Ends, IsAtRest, Standing, left_to_read}
use Rattle.rubis_keep.specs.Faults.{HasMore, MayDiffer, IsEditedAt, IsFailure, MayBeEdited, of_kept}
use Rattle.rubis_keep.specs.History.{FolderEvent, Grows, History}
use Rattle.rubis_keep.specs.History.FolderEvent.{Began, CutTo, Flushed, Settled}
use Rattle.rubis_keep.specs.Lines.{HasSoundLines}
use Rattle.rubis_keep.specs.declared.fault.KeepFault.{KeepFault}
use Rattle.rubis_keep.specs.declared.fault.KeepFault.TheVariants as fault

-- ---- what was kept is answered again

-- what was kept is lines that are kept as they are, and was flushed: `first` is what was read of it
pub record Starts (first : Option (List ℕ)) (old new : Option History) : Type 0 where
  pub sound : IfSome first (λ text. HasSoundLines [] text)
  pub flushed : Grows old new (Flushed ∷ [])

-- where a run of a site that answers so begins, with this to be read of what was kept
abbrev pub starting : Answering → Option (List ℕ) → Option History → Standing
starting a past history = record { at = a; input = past; history = history; begun = []; kept = 0; listed = None }

-- it is, and all answers of before were found
pub record Replays (x y : Standing) : Type 0 where
  pub end : Standing
  pub ends : Ends false x end
  pub before : Option (List ℕ)
  pub same : Keeps end.at.before before
  pub none_left : IsAtEnd before
  pub is : y ≡ record end { at = record end.at { before = before } }

-- a fault ended that; or there are more answers of before
abbrev pub Unreplayed : Standing → Option History → KeepFault → Type 0
Unreplayed x history2 e = ((met : KeepFault) × (past2 : Option (List ℕ)) × Breaks false x past2 history2 met × (e ≡ of_kept met))
    ⊎ ((end : Standing) × Ends false x end × (history2 ≡ end.history)
    × MayDiffer e (λ d. IfSome end.at.before (λ left. HasMore left end.at.lines d)))

-- ---- and new records come

-- a write to `kept` failed, a flush or a cut of it
abbrev pub IsKeptFailure : KeepFault → Type 0
IsKeptFailure (fault.WriteKept e) = ⊤
IsKeptFailure other = ⊥

-- what happens in between
abbrev pub beginning : Standing → List FolderEvent
beginning y = CutTo y.kept ∷ Flushed ∷ Settled ∷ Began y.at.answered (counts y.at.place.sites y.at.state.site.log) ∷ []

-- all of it did
pub record Begun (y : Standing) (input : Option (List ℕ)) (z : Standing) : Type 0 where
  pub history : Option History
  pub happened : Grows y.history history (beginning y)
  pub is : z ≡ record y { at = record y.at { is_live = true }; input = input; history = history; begun = [] }
  pub rests : IsAtRest z

-- the run came to the end of its input
abbrev pub GoesOn : Standing → Option (List ℕ) → Option (List ℕ) → Option History → Type 0
GoesOn y input input2 history2 = (z end : Standing) × (unread : List ℕ) × Begun y input z × Ends true z end
    × (end.input ≡ left_to_read unread input2) × (end.history ≡ history2)

-- a fault ended it before the first record, or then
abbrev pub Fails : Standing → Option (List ℕ) → Option (List ℕ) → Option History → KeepFault → Type 0
Fails y input input2 history2 e = ((n : ℕ) × Grows y.history history2 (take n (beginning y)) × (input2 ≡ input) × IsFailure e)
    ⊎ ((z : Standing) × (unread : List ℕ) × Begun y input z × Breaks true z (left_to_read unread input2) history2 e)

-- ---- the run

abbrev pub RunsOut : Option (List ℕ) → Option (List ℕ) → Answering → Option (List ℕ) → Option (List ℕ) → Option History → Option History → Type 0
RunsOut first past a input input2 old new = (mid : Option History) × (y : Standing) × Starts first old mid × Replays (starting a past mid) y
    × GoesOn y input input2 new

abbrev pub RunsInto : Option (List ℕ) → Option (List ℕ) → Answering → Option (List ℕ) → Option (List ℕ) → Option History → Option History
    → KeepFault → Type 0
RunsInto first past a input input2 old new e =
    (Grows old new [] × (input2 ≡ input) × MayBeEdited e (λ n. IfSome first (λ text. IsEditedAt text n)))
    ⊎ ((mid : Option History) × Starts first old mid × (((input2 ≡ input) × Unreplayed (starting a past mid) new e)
    ⊎ ((y : Standing) × Replays (starting a past mid) y × Fails y input input2 new e)))

-- it came to the end of its input, or ended with a fault
abbrev pub Runs : {T : Type 0} → Option (List ℕ) → Option (List ℕ) → Answering → Option (List ℕ) → Option (List ℕ) → Option History
    → Option History → Result T KeepFault → Type 0
Runs first past a input input2 old new r =
    MatchResult r (λ _. RunsOut first past a input input2 old new) (RunsInto first past a input input2 old new)
