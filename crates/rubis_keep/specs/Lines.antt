-- What is kept of an input: its lines, each one whole records of CSV, but for its questions.
use Rattle.std.specs.Prelude.{◌≡◌, ◌==◌, ◌&&◌, ◌+◌, ◌++◌, ◌∷◌, [], ℕ, Bool, List, IsTrue, false, true, if◌then◌else◌, length, nat_le, not, get_or, take, ⊤}
use Rattle.std.specs.Prelude.{MatchBool, codes, cond, nat_eq}
use Rattle.std.specs.List.{starts_with}
use Rattle.csv.specs.Machine.{step}
use Rattle.csv.specs.Reading.{default_config}
use Rattle.csv.specs.declared.parser.State.{State}
use Rattle.csv.specs.declared.parser.State.TheVariants as st

-- where the machine of CSV stands after these bytes
abbrev pub state_after : State → List ℕ → State
state_after s [] = s
state_after s (c ∷ rest) = state_after (step default_config s c).0 rest

-- whether the machine stands in a field with quotes, whose last quote is still to come
abbrev pub is_quoted : State → Bool
is_quoted st.InQuoted = true
is_quoted st.InEscape = true
is_quoted st.StartRecord = false
is_quoted st.StartField = false
is_quoted st.InField = false
is_quoted st.AfterQuote = false
is_quoted st.InComment = false
is_quoted st.AfterCr = false

-- a line in which the quotes close, so that the next line begins a record
abbrev pub closes_quotes : List ℕ → Bool
closes_quotes line = not (is_quoted (state_after st.StartRecord line))

-- a line that begins with the first byte of a byte order mark, which no record does
abbrev pub is_marked : List ℕ → Bool
is_marked line = get_or line 0 0 == 0xEF

-- the line `broken`
abbrev pub broken : List ℕ
broken = 98 ∷ 114 ∷ 111 ∷ 107 ∷ 101 ∷ 110 ∷ 10 ∷ []

-- no line is longer, but for one that begins with `key,`
abbrev pub line_max : ℕ
line_max = 4096

-- and that is longer by no more than a key in quotes takes
abbrev pub keyed_max : ℕ
keyed_max = 4613

-- how long a line may be
abbrev pub line_limit : List ℕ → ℕ
line_limit line = cond (starts_with nat_eq line (codes "key,")) keyed_max line_max

-- a line that is kept as it is
abbrev pub is_sound : List ℕ → Bool
is_sound line = nat_le (length line) (line_limit line) && (closes_quotes line && not (is_marked line))

-- a line that begins with '?'
abbrev pub is_question : List ℕ → Bool
is_question line = get_or line 0 0 == 63

-- what is kept of a line of records, with its end
abbrev pub kept_record : List ℕ → List ℕ
kept_record line = if is_sound line then line ++ 10 ∷ [] else broken

-- the same of any line. An input asks questions, of which nothing is kept. What was kept asks none: a line of that form is a record there
abbrev pub kept_line : Bool → List ℕ → List ℕ
kept_line asks line = if asks && is_question line then [] else kept_record line

-- what is kept of these bytes, the first of which go on with a line that was begun: what follows the last line end waits
abbrev pub kept_after : Bool → List ℕ → List ℕ → List ℕ
kept_after asks line [] = []
kept_after asks line (b ∷ rest) = if b == 10 then kept_line asks line ++ kept_after asks [] rest else kept_after asks (line ++ b ∷ []) rest

-- the line that is begun then
abbrev pub begun_after : List ℕ → List ℕ → List ℕ
begun_after line [] = line
begun_after line (b ∷ rest) = if b == 10 then begun_after [] rest else begun_after (line ++ b ∷ []) rest

-- what is kept of an input
abbrev pub kept_of_input : List ℕ → List ℕ
kept_of_input input = kept_after true [] input

-- what is read of what was kept, where each line is a line of records
abbrev pub read_back : List ℕ → List ℕ
read_back kept = kept_after false [] kept

-- a question of an input, and what is kept of the input before it. Of a long question the first bytes are looked at
pub record Asked : Type 0 where
  pub kept : List ℕ
  pub question : List ℕ

-- the questions that a line asks, and these bytes: `kept` was kept before
abbrev pub asked_line : Bool → List ℕ → List ℕ → List Asked
asked_line asks kept line = if asks && is_question line then record { kept = kept; question = take (keyed_max + 1) line } ∷ [] else []

-- the questions of an input that goes on with a line that was begun, each with what was kept before it
abbrev pub asked_after : Bool → List ℕ → List ℕ → List ℕ → List Asked
asked_after asks kept line [] = []
asked_after asks kept line (b ∷ rest) =
    if b == 10 then asked_line asks kept line ++ asked_after asks (kept ++ kept_line asks line) [] rest else asked_after asks kept (line ++ b ∷ []) rest

-- these bytes, the first of which go on with a line that was begun, without the lines that are questions
abbrev pub without_after : List ℕ → List ℕ → List ℕ
without_after line [] = line
without_after line (b ∷ rest) =
    if b == 10 then (if is_question line then [] else line ++ 10 ∷ []) ++ without_after [] rest else without_after (line ++ b ∷ []) rest

-- an input without its questions
abbrev pub without_questions : List ℕ → List ℕ
without_questions input = without_after [] input

-- the whole lines of a text that goes on with a line that was begun
abbrev pub whole_after : List ℕ → List ℕ → List ℕ
whole_after line [] = []
whole_after line (b ∷ rest) = if b == 10 then (line ++ 10 ∷ []) ++ whole_after [] rest else whole_after (line ++ b ∷ []) rest

-- the whole lines of a text, without what follows its last line end
abbrev pub whole_lines : List ℕ → List ℕ
whole_lines text = whole_after [] text

-- each whole line of a text is kept as it is
abbrev pub HasSoundLines : List ℕ → List ℕ → Type 0
HasSoundLines line [] = ⊤
HasSoundLines line (b ∷ rest) = MatchBool (b == 10) (IsTrue (is_sound line) × HasSoundLines [] rest) (HasSoundLines (line ++ b ∷ []) rest)

-- the same, as it is decided
abbrev pub are_sound : List ℕ → List ℕ → Bool
are_sound line [] = true
are_sound line (b ∷ rest) = if b == 10 then is_sound line && are_sound [] rest else are_sound (line ++ b ∷ []) rest

-- a line has no end within it
abbrev pub HasNoEnd : List ℕ → Type 0
HasNoEnd [] = ⊤
HasNoEnd (b ∷ line) = (b == 10 ≡ false) × HasNoEnd line

-- ---- how a line is looked through

-- a state that the machine comes to with the crate's defaults
abbrev pub is_usual : State → Bool
is_usual st.InQuoted = true
is_usual st.StartRecord = true
is_usual st.StartField = true
is_usual st.InField = true
is_usual st.AfterQuote = true
is_usual st.AfterCr = true
is_usual st.InEscape = false
is_usual st.InComment = false

-- the first bytes of a line, one more than any line may have
abbrev pub begun_bytes : List ℕ → List ℕ
begun_bytes line = take (keyed_max + 1) line

-- ---- lines that are cut off an input, up to a question

-- these are the one question that was asked, or none was
abbrev pub asked_by : Bool → List ℕ → List ℕ → List Asked
asked_by asked kept question = cond asked (record { kept = kept; question = question } ∷ []) []

-- these bytes go on with a begun line: what is kept of their lines was added, and they end with the one question that they ask, or
-- they ask none
pub record CutsLines (asks : Bool) (line bytes begun kept kept2 : List ℕ) (asked : Bool) (question : List ℕ) : Type 0 where
  pub begins : begun ≡ begun_bytes (begun_after line bytes)
  pub keeps : kept2 ≡ kept ++ kept_after asks line bytes
  pub questions : (done : List ℕ) → asked_after asks done line bytes ≡ asked_by asked (done ++ kept_after asks line bytes) question

-- ---- a text of whole records

-- after these bytes a record begins, and no byte order mark is at their start
pub record HasWholeRecords (bytes : List ℕ) : Type 0 where
  pub closed : state_after st.StartRecord bytes ≡ st.StartRecord
  pub unmarked : is_marked bytes ≡ false
