-- By which fault a run ends, and what is told of the first line in which two texts differ.
use Rattle.std.specs.Prelude.{◌≢◌, ◌≤◌, ◌<◌, ℕ, List, Option, get_or, length, take, ⊤, ◌≡◌, ◌==◌, ◌+◌, ◌++◌, ◌^◌, [], drop, filter, string_bytes, MatchResult}
use Rattle.std.specs.Prelude.{Result, false, true, min, ◌-◌}
use Rattle.std.specs.Io.KnownBytes.{Consumes, IsAtEnd}
use Rattle.rubis_keep.specs.declared.fault.KeepFault.{KeepFault}
use Rattle.rubis_keep.specs.declared.fault.KeepFault.TheVariants as fault
use Rattle.std.specs.List.{after_last, before_first, common_prefix_len}
use Rattle.std.specs.Str.Lossy.{utf8_lossy}
use Rattle.rubis_keep.specs.History.{IsFrontOf}
use Rattle.rubis_keep.specs.declared.fault.Difference.{Difference}
use Rattle.rubis_engine.specs.Accounts.{Account}
use Rattle.rubis_engine.specs.Accounts.Ending.{AtEnd}
use Rattle.rubis_engine.specs.Text.{input_records}
use Rattle.rubis_keep.specs.Lines.{are_sound, kept_of_input, whole_lines}

-- the first n bytes of a text are the next ones of a reader, which has no more where the text has
abbrev pub Found : Option (List ℕ) → Option (List ℕ) → List ℕ → ℕ → Type 0
Found old new text n = (n ≤ length text) × Consumes old new (take n text) × (n < length text → IsAtEnd new)

-- a file failed, or the memory did: the fault says nothing of what was kept or answered
abbrev pub IsFailure : KeepFault → Type 0
IsFailure (fault.Edited n) = ⊥
IsFailure (fault.Differs d) = ⊥
IsFailure fault.TooLong = ⊥
IsFailure other = ⊤

-- a file or the memory failed; or what was kept was changed, and this holds of the number that is told
abbrev pub MayBeEdited : KeepFault → (ℕ → Type 0) → Type 0
MayBeEdited (fault.Edited n) P = P n
MayBeEdited other P = IsFailure other

-- how many lines end in a text
abbrev pub ends_in : List ℕ → ℕ
ends_in text = length (filter (λ b. b == 10) text)

-- they are counted, as far as a number of 64 bits goes
abbrev pub CountsLines : ℕ → ℕ → List ℕ → Type 0
CountsLines lines lines2 text = lines + ends_in text < 2 ^ 64 → lines2 ≡ lines + ends_in text

-- one of these bytes, which go on with a line that was begun, ends the first line that isn't kept as it is; those before it are counted
pub record IsEdited (line bytes : List ℕ) (lines lines2 : ℕ) : Type 0 where
  pub at : ℕ
  pub inside : at < length bytes
  pub before : are_sound line (take at bytes) ≡ true
  pub there : are_sound line (take (at + 1) bytes) ≡ false
  pub counted : CountsLines lines lines2 (take at bytes)

-- the line of this number is the first one of a text that isn't kept as it is
abbrev pub IsEditedAt : List ℕ → ℕ → Type 0
IsEditedAt text number = (lines : ℕ) × IsEdited [] text 0 lines × (number ≡ min (lines + 1) (2 ^ 64 - 1))

-- a fault of the input, where the input is what was kept
abbrev pub of_kept : KeepFault → KeepFault
of_kept (fault.ReadInput e) = fault.ReadKept e
of_kept other = other

-- at some place a text and the bytes of a reader differ
abbrev pub DiffersFrom : List ℕ → List ℕ → Type 0
DiffersFrom old text = (k : ℕ) × (k < length text) × (k < length old) × (get_or old k 0 ≢ get_or text k 0)

-- ---- what is told of the first line in which two texts differ

-- a file or the memory failed; or answers differ, and this holds of what is told of it
abbrev pub MayDiffer : KeepFault → (Difference → Type 0) → Type 0
MayDiffer (fault.Differs d) P = P d
MayDiffer other P = IsFailure other

-- how long the beginning is that two texts have in common
abbrev pub same_in : List ℕ → List ℕ → ℕ
same_in found text = common_prefix_len (λ x y. x == y) found text

-- the line in which a text ends, as far as it goes
abbrev pub last_line : List ℕ → List ℕ
last_line text = after_last (λ b. b == 10) text

-- the first line of a text, of which at most 200 bytes are shown
abbrev pub first_line : List ℕ → List ℕ
first_line text = before_first (λ b. b == 10) (take 200 text)

-- what is shown of a line that begins with the one text and goes on with the other; what isn't UTF-8 is replaced
abbrev pub shown_line : List ℕ → List ℕ → List ℕ
shown_line begun more = utf8_lossy (first_line (begun ++ first_line more))

-- the number of the first line in which what came and a text differ, which come after these whole lines
abbrev pub TellsLine : List ℕ → List ℕ → ℕ → Difference → Type 0
TellsLine came text lines d = let number = lines + ends_in (take (same_in came text) text) + 1 in number < 2 ^ 64 → d.line ≡ number

-- that, and how either has it
pub record IsDifference (came text : List ℕ) (lines : ℕ) (d : Difference) : Type 0 where
  pub line : TellsLine came text lines d
  pub found : string_bytes d.found ≡ shown_line (last_line (take (same_in came text) text)) (drop (same_in came text) came)
  pub answered : string_bytes d.answered ≡ shown_line (last_line (take (same_in came text) text)) (drop (same_in came text) text)

-- a text and the first bytes of what stands there differ, and this tells where
pub record HasDifference (old text : List ℕ) (lines : ℕ) (d : Difference) : Type 0 where
  pub came : List ℕ
  pub front : IsFrontOf came old
  pub differs : DiffersFrom came text
  pub tells : IsDifference came text lines d

-- more stands there than was to be found, and this tells of the line that begins there
pub record HasMore (old : List ℕ) (lines : ℕ) (d : Difference) : Type 0 where
  pub came : List ℕ
  pub front : IsFrontOf came old
  pub some : came ≢ []
  pub tells : IsDifference came [] lines d

-- ---- by which fault a run ends

-- What is so if this fault ends a run over `kept` and `old`, of whose input these bytes were read. A line of what was kept isn't kept as
-- it is, and the first one is told; or `old` isn't the beginning of the answers to what was kept, and the first line in which they differ is told; or what was kept
-- and came has more records than the limit
abbrev pub IsTrueFault : ℕ → Account → List ℕ → List ℕ → List ℕ → KeepFault → Type 0
IsTrueFault limit all kept old bytes (fault.Edited n) = IsEditedAt kept n
IsTrueFault limit all kept old bytes (fault.Differs d) = let text = all.text AtEnd (input_records (whole_lines kept)) in
    (IsFrontOf old text → ⊥) × TellsLine old text 0 d
IsTrueFault limit all kept old bytes fault.TooLong = limit < length (input_records (whole_lines kept ++ kept_of_input bytes))
IsTrueFault limit all kept old bytes other = ⊤

-- a run ended with a fault that is true; or it ended without one, and had no more records than its limit
abbrev pub EndsTruly : {T : Type 0} → ℕ → Account → List ℕ → List ℕ → Option (List ℕ) → Option (List ℕ) → Result T KeepFault → Type 0
EndsTruly limit all kept old input input2 r = (bytes : List ℕ) × Consumes input input2 bytes
    × MatchResult r (λ _. length (input_records (whole_lines kept ++ kept_of_input bytes)) ≤ limit) (IsTrueFault limit all kept old bytes)
