-- The status of a command line that is run.
use Rattle.std.proofs.Common.{◌≡◌, ℕ, List, inl, inr, []}
use Rattle.clap.specs.Words.{Text, fault_of}
use Rattle.rubis_command.specs.CommandLine.{command_line}
use Rattle.rubis_command.specs.Statuses.{IsStatus, IsStatusOf}

-- the status of words that aren't refused
pub status_of_run : (words : List Text) (s : ℕ) → fault_of command_line words ≡ [] → IsStatus s → IsStatusOf words s
status_of_run words s fits (inl (inl well)) = inr (inr (fits, inl well))
status_of_run words s fits (inl (inr fault)) = inl fault
status_of_run words s fits (inr misuse) = inr (inr (fits, inr misuse))
