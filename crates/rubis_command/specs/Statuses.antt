-- The program's exit status: 0 if all went well, 1 if a fault ended the run, 2 if the command line is
-- invalid.
use Rattle.std.specs.Prelude.{◌≡◌, ◌⊎◌, ℕ, List, []}
use Rattle.clap.specs.Words.{IsAmong, Text, fault_of}
use Rattle.clap.specs.declared.error.kind.ErrorKind.{ErrorKind}
use Rattle.clap.specs.declared.error.kind.ErrorKind.TheVariants.{DisplayHelp, DisplayVersion}
use Rattle.rubis_command.specs.CommandLine.{command_line}

-- help and the version are shown, and all else that `clap` says is a mistake
abbrev pub status_by : ErrorKind → ℕ
status_by DisplayHelp = 0
status_by DisplayVersion = 0
status_by k = 2

-- the status of a run: 0 if it went well, 1 if a fault ended it or what it looked for isn't so
abbrev pub IsRunStatus : ℕ → Type 0
IsRunStatus s = (s ≡ 0) ⊎ (s ≡ 1)

-- the status where nothing is run: 1 if a fault is the reason, 2 if the command line is
abbrev pub IsRefusal : ℕ → Type 0
IsRefusal s = (s ≡ 1) ⊎ (s ≡ 2)

-- the status of a run, or 2 where what is asked for isn't run
abbrev pub IsStatus : ℕ → Type 0
IsStatus s = IsRunStatus s ⊎ (s ≡ 2)

-- the status for these words: 1, since a fault may end any run; that of one of the reasons to refuse them; or, if there is
-- none, 0 for a run that went well, or 2 for a site that isn't below `sites`, a `to` that is, an option without its flag, or a folder that
-- isn't the one that is asked for
abbrev pub IsStatusOf : List Text → ℕ → Type 0
IsStatusOf words s = (s ≡ 1) ⊎ ((k : ErrorKind) × IsAmong k (fault_of command_line words) × (s ≡ status_by k)) ⊎ ((fault_of command_line words ≡ []) × ((s ≡ 0) ⊎ (s ≡ 2)))
