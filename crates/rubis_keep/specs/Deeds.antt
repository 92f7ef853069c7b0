-- What a start does in a folder, in which order, and why it may do nothing.
use Rattle.std.specs.Prelude.{◌≡◌, ◌≢◌, ◌++◌, ◌∷◌, ◌⊎◌, ◌==◌, [], ℕ, Bool, List, MatchBool, MatchOption, MatchResult, None, Option, Result, Some}
use Rattle.std.specs.Prelude.{cond, false, nat_lt, true, unwrap_or, ⊤}
use Rattle.rubis_script.specs.Replica.{IsSetup, Setup as SiteSetup}
use Rattle.rubis_keep.specs.Setups.{GoesOn, config_of, next_setup, opening_setup, renewed}
use Rattle.rubis_keep.specs.declared.fault.FolderFault.{FolderFault}
use Rattle.rubis_keep.specs.declared.fault.FolderFault.TheVariants as fault
use Rattle.rubis_keep.specs.declared.keep.Settings.{Settings}
use Rattle.rubis_keep.specs.declared.keep.Wanted.{Wanted}
use Rattle.rubis_keep.specs.declared.setup.Setup.{Setup}
use Rattle.rubis_keep.specs.declared.setup.TheConstants.{ANSWERS, KEYLESS}

-- ---- what happens in a folder

-- What the folder says of its site is written down, and the name of that file flushed. What was kept is answered: `keep_site` comes to its end
-- over it, set up so, without input; the answers complete `out`, or all of them are in a new file that takes the place of `out`. What was kept is
-- replaced by what `shorten` left of it, and `out` emptied. Or the site runs: `keep_site` comes to the end of standard input, set up so, and writes
-- down before its first record that the site is set up otherwise from then on, if it is
pub data FolderDeed : Type 0 where
  SetsUp : (setup : Setup) → FolderDeed
  Answers : (config : SiteSetup) → FolderDeed
  AnswersAnew : (config : SiteSetup) → FolderDeed
  Rewrites : (config : SiteSetup) (knows_keys : Bool) → FolderDeed
  Runs : (config : SiteSetup) (settles : Option Setup) → FolderDeed

-- What the folder says of its site is read, or that it says nothing. It is read whether any record of what was kept, or of what is to
-- replace it, begins with the word `key`. A deed begins, before which nothing was changed by it; and comes to its end
pub data FolderStep : Type 0 where
  Found : (setup : Option Setup) → FolderStep
  FoundKeys : (some : Bool) → FolderStep
  Began : (deed : FolderDeed) → FolderStep
  Ended : (deed : FolderDeed) → FolderStep

-- these deeds, one after the other, each from its beginning to its end
abbrev pub whole : List FolderDeed → List FolderStep
whole [] = []
whole (deed ∷ later) = Began deed ∷ Ended deed ∷ whole later

-- ---- in which order

-- how it is set up, or a new one is to be
abbrev pub setup_for : Wanted → Option Setup → Setup
setup_for w found = unwrap_or found (opening_setup w)

-- Where there were no keys, records under keys are left out of what was kept, if it has some
abbrev pub without_keys : SiteSetup → Bool → List FolderStep
without_keys config false = FoundKeys false ∷ []
without_keys config true = FoundKeys true ∷ FoundKeys false ∷ whole (Rewrites config false ∷ [])

-- A folder of another version is renewed: what it says of its site is written last
abbrev pub renewal : Wanted → Setup → Bool → List FolderStep
renewal w s keys = cond (s.answers == ANSWERS) []
    (cond (s.answers == KEYLESS) (without_keys (config_of w s) keys) (whole (AnswersAnew (config_of w s) ∷ [])) ++ whole (SetsUp (renewed s) ∷ []))

-- What was kept is shortened between two answers to it. A site that keeps more from now on first answers what was kept as it was told
abbrev pub service : Wanted → Setup → List FolderDeed
service w s = cond w.shortens (Answers (config_of w s) ∷ Rewrites (config_of w s) true ∷ Answers (config_of w s) ∷ [])
    (cond (nat_lt s.keep (next_setup w s).keep)
    (Answers (config_of w s) ∷ Runs (config_of w (next_setup w s)) (Some (renewed (next_setup w s))) ∷ []) (Runs (config_of w s) None ∷ []))

-- a new site is set up, and another folder renewed
abbrev pub preparation : Wanted → Option Setup → Bool → List FolderStep
preparation w None keys = whole (SetsUp (opening_setup w) ∷ [])
preparation w (Some s) keys = renewal w s keys

-- what is done in a folder that was found so: `keys` is whether what was kept has records under keys, which is looked for where there were none
abbrev pub course : Wanted → Option Setup → Bool → List FolderStep
course w found keys = preparation w found keys ++ whole (service w (setup_for w found))

-- ---- why nothing is done

-- the numbers are within their limits, with what the site keeps and is to keep
abbrev pub IsWithin : Wanted → Setup → Type 0
IsWithin w s = IsSetup (config_of w s) × IsSetup (config_of w (next_setup w s))

-- records under keys are left out only where what was kept is to be shortened
abbrev pub MayLeaveOut : Wanted → Bool → Type 0
MayLeaveOut w keys = keys ≡ true → w.shortens ≡ true

-- a folder of another version may be renewed
abbrev pub MayRenew : Wanted → Setup → Bool → Type 0
MayRenew w s keys = MatchBool (s.answers == ANSWERS) ⊤ (MatchBool (s.answers == KEYLESS) (MayLeaveOut w keys) (w.upgrades ≡ true))

-- what is asked for is of the folder that was found
pub record IsOfFolder (w : Wanted) (found : Option Setup) (keys : Bool) : Type 0 where
  pub there : found ≡ None → w.shortens ≡ false
  pub goes : GoesOn w (setup_for w found)
  pub within : IsWithin w (setup_for w found)
  pub renews : MayRenew w (setup_for w found) keys

-- this fault says that a site can't go on that is set up so
abbrev pub IsUnfit : Wanted → Setup → FolderFault → Type 0
IsUnfit w s fault.NotBelow = ¬ IsWithin w s
IsUnfit w s (fault.IsOther setup) = (setup ≡ s) × ¬ GoesOn w s
IsUnfit w s other = ⊥

-- there are records under keys: in what was kept, or, if it is to be shortened, still in what was left of it
abbrev pub HaveKeys : Wanted → List FolderStep → Type 0
HaveKeys w steps = ((w.shortens ≡ false) × (steps ≡ FoundKeys true ∷ [])) ⊎ ((w.shortens ≡ true) × (steps ≡ FoundKeys true ∷ FoundKeys true ∷ []))

-- this fault says that a folder of another version isn't renewed
abbrev pub StaysOld : Wanted → Setup → List FolderStep → FolderFault → Type 0
StaysOld w s steps (fault.IsOld version) = (s.answers ≢ ANSWERS) × (s.answers ≢ KEYLESS) × (w.upgrades ≡ false) × (version ≡ s.answers) × (steps ≡ [])
StaysOld w s steps fault.HasKeys = (s.answers ≡ KEYLESS) × HaveKeys w steps
StaysOld w s steps other = ⊥

-- something failed: the fault says nothing of what was asked for
abbrev pub IsFailure : FolderFault → Type 0
IsFailure fault.NoName = ⊥
IsFailure fault.NoSite = ⊥
IsFailure fault.NotBelow = ⊥
IsFailure (fault.IsOther setup) = ⊥
IsFailure (fault.IsOld version) = ⊥
IsFailure fault.HasKeys = ⊥
IsFailure other = ⊤

-- ---- a start

-- all of these steps begins so
abbrev pub IsBegun : List FolderStep → List FolderStep → Type 0
IsBegun steps all = (rest : List FolderStep) × (steps ++ rest ≡ all)

-- the folder was found, and all was done
abbrev pub IsDone : Wanted → List FolderStep → Type 0
IsDone w steps = (found : Option Setup) × (keys : Bool) × IsOfFolder w found keys × (steps ≡ Found found ∷ course w found keys)

-- By this fault nothing was changed, since what is asked for isn't of the folder that was found. Or something failed: the folder couldn't be
-- found, or some of it was done
abbrev pub StopsBy : Wanted → List FolderStep → FolderFault → Type 0
StopsBy w steps fault.NoName = ⊥
StopsBy w steps fault.NoSite = (w.shortens ≡ true) × (steps ≡ Found None ∷ [])
StopsBy w steps fault.NotBelow = (found : Option Setup) × (steps ≡ Found found ∷ []) × IsUnfit w (setup_for w found) fault.NotBelow
StopsBy w steps (fault.IsOther setup) = (found : Option Setup) × (steps ≡ Found found ∷ []) × IsUnfit w (setup_for w found) (fault.IsOther setup)
StopsBy w steps (fault.IsOld version) = (s : Setup) × (later : List FolderStep) × (steps ≡ Found (Some s) ∷ later)
    × StaysOld w s later (fault.IsOld version)
StopsBy w steps fault.HasKeys = (s : Setup) × (later : List FolderStep) × (steps ≡ Found (Some s) ∷ later) × StaysOld w s later fault.HasKeys
StopsBy w steps other = (steps ≡ [])
    ⊎ ((found : Option Setup) × (keys : Bool) × IsOfFolder w found keys × IsBegun steps (Found found ∷ course w found keys))

-- what the folder said before it was made and locked, if that was read
abbrev pub looks : Option (Option Setup) → List FolderStep
looks None = []
looks (Some found) = Found found ∷ []

-- a folder without a name isn't looked at. Another one is, before it is made and locked, if that can be read; and then it is found
abbrev pub StopsIn : List ℕ → Wanted → List FolderStep → FolderFault → Type 0
StopsIn name w steps fault.NoName = (name ≡ []) × (steps ≡ [])
StopsIn name w steps e =
    (name ≢ []) × (first : Option (Option Setup)) × (later : List FolderStep) × (steps ≡ looks first ++ later) × StopsBy w later e

abbrev pub EndsIn : List ℕ → Wanted → List FolderStep → Type 0
EndsIn name w steps = (name ≢ []) × (first : Option (Option Setup)) × (later : List FolderStep) × (steps ≡ looks first ++ later) × IsDone w later

-- how a start ends, by what happened since
abbrev pub KeepsFolder : {T : Type 0} → List ℕ → Wanted → List FolderStep → List FolderStep → Result T FolderFault → Type 0
KeepsFolder name w old new r = (steps : List FolderStep) × (new ≡ old ++ steps) × MatchResult r (λ _. EndsIn name w steps) (StopsIn name w steps)

-- ---- its parts

-- how a site goes on that is set up so
pub record AreSettings (w : Wanted) (s : Setup) (settings : Settings) : Type 0 where
  pub setup : settings.setup ≡ s
  pub next : settings.next ≡ next_setup w s
  pub config : settings.config ≡ config_of w s
  pub raised : settings.raised ≡ config_of w (next_setup w s)
  pub goes : GoesOn w s
  pub within : IsWithin w s

-- what the folder said was read, if it could be, or why the folder isn't made
abbrev pub Looks : {T : Type 0} → Wanted → List FolderStep → List FolderStep → Result T FolderFault → Type 0
Looks w old new r = MatchResult r (λ _. (first : Option (Option Setup)) × (new ≡ old ++ looks first))
    (λ e. (steps : List FolderStep) × (new ≡ old ++ steps) × StopsBy w steps e)

-- that was read, and the folder made
abbrev pub Makes : {T : Type 0} → List ℕ → Wanted → List FolderStep → List FolderStep → Result T FolderFault → Type 0
Makes name w old new r = MatchResult r (λ _. (name ≢ []) × (first : Option (Option Setup)) × (new ≡ old ++ looks first))
    (λ e. (steps : List FolderStep) × (new ≡ old ++ steps) × StopsIn name w steps e)

-- this has begun, or hasn't
abbrev pub MayHaveBegun : FolderDeed → List FolderStep → List FolderStep → Type 0
MayHaveBegun deed old new = (new ≡ old) ⊎ (new ≡ old ++ Began deed ∷ [])

-- something failed after some of this
abbrev pub BreaksOff : List FolderStep → List FolderStep → List FolderStep → FolderFault → Type 0
BreaksOff all old new e = IsFailure e × (steps : List FolderStep) × (new ≡ old ++ steps) × IsBegun steps all

-- these deeds are done, or that
abbrev pub Serves : {T : Type 0} → List FolderDeed → List FolderStep → List FolderStep → Result T FolderFault → Type 0
Serves deeds old new r = MatchResult r (λ _. new ≡ old ++ whole deeds) (BreaksOff (whole deeds) old new)

-- all of a part is done that depends on whether there were records under keys, where that may be
abbrev pub AllDone : (Bool → Type 0) → (Bool → List FolderStep) → List FolderStep → List FolderStep → Type 0
AllDone may all old new = (keys : Bool) × may keys × (new ≡ old ++ all keys)

-- this fault says why it isn't; or something failed after some of it
abbrev pub NotAll : (Bool → Type 0) → (Bool → List FolderStep) → (List FolderStep → FolderFault → Type 0) → List FolderStep → List FolderStep
    → FolderFault → Type 0
NotAll may all stays old new e = (steps : List FolderStep) × (new ≡ old ++ steps)
    × (stays steps e ⊎ (IsFailure e × (keys : Bool) × may keys × IsBegun steps (all keys)))

abbrev pub Comes : {T : Type 0} → (Bool → Type 0) → (Bool → List FolderStep) → (List FolderStep → FolderFault → Type 0) → List FolderStep
    → List FolderStep → Result T FolderFault → Type 0
Comes may all stays old new r = MatchResult r (λ _. AllDone may all old new) (NotAll may all stays old new)

-- records under keys aren't left out
abbrev pub StaysKeyed : Wanted → List FolderStep → FolderFault → Type 0
StaysKeyed w steps e = (e ≡ fault.HasKeys) × HaveKeys w steps

-- a folder that was found so isn't renewed
abbrev pub StaysAsFound : Wanted → Option Setup → List FolderStep → FolderFault → Type 0
StaysAsFound w found steps e = MatchOption found ⊥ (λ s. StaysOld w s steps e)

abbrev pub LeavesKeysOut : {T : Type 0} → Wanted → SiteSetup → List FolderStep → List FolderStep → Result T FolderFault → Type 0
LeavesKeysOut w config = Comes (MayLeaveOut w) (without_keys config) (StaysKeyed w)

abbrev pub RenewsKeyless : {T : Type 0} → Wanted → SiteSetup → Setup → List FolderStep → List FolderStep → Result T FolderFault → Type 0
RenewsKeyless w config s = Comes (MayLeaveOut w) (λ keys. without_keys config keys ++ whole (SetsUp (renewed s) ∷ [])) (StaysKeyed w)

abbrev pub Renews : {T : Type 0} → Wanted → Setup → List FolderStep → List FolderStep → Result T FolderFault → Type 0
Renews w s = Comes (MayRenew w s) (renewal w s) (StaysOld w s)

abbrev pub Prepares : {T : Type 0} → Wanted → Option Setup → List FolderStep → List FolderStep → Result T FolderFault → Type 0
Prepares w found = Comes (MayRenew w (setup_for w found)) (preparation w found) (StaysAsFound w found)

abbrev pub KeepsFound : {T : Type 0} → Wanted → List FolderStep → List FolderStep → Result T FolderFault → Type 0
KeepsFound w old new r = (steps : List FolderStep) × (new ≡ old ++ steps) × MatchResult r (λ _. IsDone w steps) (StopsBy w steps)
