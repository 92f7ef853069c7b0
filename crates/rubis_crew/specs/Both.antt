-- A helper of two crews.
use Rattle.std.specs.Prelude.{◌≡◌, ◌+◌, ℕ, true}
use Rattle.std.specs.Int.{from_bool}
use Rattle.rubis_crew.specs.States.{CrewId}
use Rattle.rubis_crew.specs.declared.job.Job.{Ghosts}
use Rattle.rubis_crew.specs.declared.both.Both.{Both}
use Rattle.rubis_crew.specs.declared.crew.Found.{Found}
use Rattle.rubis_crew.specs.declared.crew.Found.TheVariants.{Over}
use Rattle.rubis_crew.specs.declared.post.Post.{Post}

-- it is a helper of these crews
abbrev pub IsAt : {J K R S : Type 0} {job : Ghosts J R} {other : Ghosts K S} → CrewId → CrewId → Both J K R S job other → Type 0
IsAt first second both = (both.first.helper.crew ≡ first) × (both.second.helper.crew ≡ second)

-- it took that no more come if and only if it is over, which its helper had taken that often before
abbrev pub IsToldOnce : {J R : Type 0} {job : Ghosts J R} → ℕ → Post J R job → Type 0
IsToldOnce before post = post.helper.heard ≡ before + from_bool post.over

-- if it took once that no more come, if and only if the crew is over, that stays so
abbrev pub StaysToldOnce : {J R : Type 0} {job : Ghosts J R} → Post J R job → Post J R job → Type 0
StaysToldOnce old new = (before : ℕ) → IsToldOnce before old → IsToldOnce before new

-- so it is at both
abbrev pub StayToldOnce : {J K R S : Type 0} {job : Ghosts J R} {other : Ghosts K S} → Both J K R S job other → Both J K R S job other → Type 0
StayToldOnce old new = StaysToldOnce old.first new.first × StaysToldOnce old.second new.second

-- no more come at either
abbrev pub IsOver : {J K R S : Type 0} {job : Ghosts J R} {other : Ghosts K S} → Both J K R S job other → Type 0
IsOver both = (both.first.over ≡ true) × (both.second.over ≡ true)

-- that is what it found if and only if it is over at both
abbrev pub FindsOver : {J K R S : Type 0} {job : Ghosts J R} {other : Ghosts K S} → Found → Both J K R S job other → Type 0
FindsOver found both = (found ≡ Over → IsOver both) × (IsOver both → found ≡ Over)
