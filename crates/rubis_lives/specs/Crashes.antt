-- Runs that are cut off anywhere, and start again.
use Rattle.std.specs.Prelude.{◌≡◌, ◌≢◌, ◌++◌, [], ◌∷◌, ℕ, List, Option, Some, take}
use Rattle.rubis_engine.specs.Accounts.{Account}
use Rattle.rubis_engine.specs.Accounts.Ending.{AtEnd}
use Rattle.rubis_engine.specs.Text.{input_records}
use Rattle.rubis_keep.specs.History.{Ended, IsFrontOf, Lived, Files, IsLeft}
use Rattle.rubis_keep.specs.Lines.{HasSoundLines, kept_of_input, read_back, whole_lines, without_questions}

-- what a run leaves that is never cut off, and began with no files: it is given lines that were kept, each one of records, and then an
-- input, whose questions are left out
abbrev pub files_of : (List (List (List ℕ)) → List ℕ) → List ℕ → List ℕ → Files
files_of text kept input = record { log = read_back kept ++ kept_of_input input; out = text (input_records (read_back kept ++ kept_of_input input)) }

-- what a start over these files and a run over an input leave
abbrev pub goes_on : (List (List (List ℕ)) → List ℕ) → Files → List ℕ → Files
goes_on text files input = record { log = whole_lines files.log ++ kept_of_input input; out = text (input_records (whole_lines files.log ++ kept_of_input input)) }

-- a life: what the run is given, and of how many bytes of the log, and of the answers to its whole lines, it is cut off
pub record Life : Type 0 where
  pub input : List ℕ
  pub log_bytes : ℕ
  pub out_bytes : ℕ

-- what is left of the files after a life
abbrev pub after_life : (List (List (List ℕ)) → List ℕ) → Files → Life → Files
after_life text files life = record {
  log = take life.log_bytes (whole_lines files.log ++ kept_of_input life.input);
  out = take life.out_bytes (text (input_records (whole_lines (take life.log_bytes (whole_lines files.log ++ kept_of_input life.input)))));
}

-- the files after several runs, each cut off somewhere
abbrev pub after_lives : (List (List (List ℕ)) → List ℕ) → Files → List Life → Files
after_lives text files [] = files
after_lives text files (life ∷ lives) = after_lives text (after_life text files life) lives

-- after any number of lives, each cut off anywhere, a start and a run to its end leave what one run leaves that is never cut
-- off, over the lines that were kept and then the input
abbrev pub EndsAsUncut : Type 0
EndsAsUncut = (text : List (List (List ℕ)) → List ℕ) (files : Files) (lives : List Life) (input : List ℕ) → IsLeft text files
    → IsLeft text (after_lives text files lives)
    × (goes_on text (after_lives text files lives) input ≡ files_of text (whole_lines (after_lives text files lives).log) input)

-- a run leaves what it leaves without the questions of its input, wherever it is cut off
abbrev pub QuestionsLeaveNothing : Type 0
QuestionsLeaveNothing = (text : List (List (List ℕ)) → List ℕ) (files : Files) (life : Life)
    → after_life text files (record life { input = without_questions life.input }) ≡ after_life text files life

-- however a run ends that began with what was left, it leaves what a next one can begin with, and no line that was kept whole is
-- lost
abbrev pub EndsLeft : Type 0
EndsLeft = (all : Account) (files : Files) (input later log out : Option (List ℕ)) → IsLeft (all.text AtEnd) files
    → Ended all files.log files.out input later log out
    → (next : Files) × IsLeft (all.text AtEnd) next × IsFrontOf (whole_lines files.log) next.log × (log ≡ Some next.log) × (out ≡ Some next.out)

abbrev pub LivesLeft : Type 0
LivesLeft = (all : Account) (files : Files) (input later log out : Option (List ℕ)) → IsLeft (all.text AtEnd) files
    → Lived all files.log files.out input later log out
    → (next : Files) × IsLeft (all.text AtEnd) next × IsFrontOf (whole_lines files.log) next.log × (log ≡ Some next.log) × (out ≡ Some next.out)

-- a run over these files can only end with a fault, and both are as they were then
abbrev pub OnlyFails : Account → Files → Type 0
OnlyFails all files = (input later log out : Option (List ℕ))
    → (Lived all files.log files.out input later log out → ⊥)
    × (Ended all files.log files.out input later log out → (log ≡ Some files.log) × (out ≡ Some files.out))

-- it is so where the answers of before are not the beginning of the text of what was kept
abbrev pub DifferencesAreFound : Type 0
DifferencesAreFound = (all : Account) (files : Files) → ((rest : List ℕ)
    → files.out ++ rest ≢ all.text AtEnd (input_records (whole_lines files.log))) → OnlyFails all files

-- and where some whole line of the log is one that isn't kept as it is
abbrev pub EditsAreFound : Type 0
EditsAreFound = (all : Account) (files : Files) → (HasSoundLines [] files.log → ⊥) → OnlyFails all files
