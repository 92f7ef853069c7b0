-- The records of a text, from any place in a record on, and where a text may be cut.
use Rattle.csv.specs.declared.parser.State.{State}
use Rattle.csv.specs.declared.parser.State.TheVariants as st
use Rattle.rubis_reading.specs.declared.csv_state.CsvState.{CsvState}
use Rattle.rubis_reading.specs.declared.csv_state.CsvState.TheVariants as at
use Rattle.std.specs.Prelude.{◌≡◌, ◌==◌, ◌++◌, ◌∷◌, ◌≤◌, ◌<◌, ◌-◌, ◌⊎◌, [], ⊤, ℕ, List, false, get_or, if◌then◌else◌, length, take}
use Rattle.std.specs.Bool.{MatchBool}
use Rattle.csv.specs.Machine.{carriage_return, ends_at_end, field_after, fields_after, is_end, line_feed, step}
use Rattle.csv.specs.Reading.{default_config, strip_bom}
use Rattle.rubis_reading.specs.declared.cuts.Looked.{Looked}

-- the machine's state
abbrev pub state_of_csv : CsvState → State
state_of_csv at.Start = st.StartRecord
state_of_csv at.FieldStart = st.StartField
state_of_csv at.Field = st.InField
state_of_csv at.Quoted = st.InQuoted
state_of_csv at.QuoteEnd = st.AfterQuote
state_of_csv at.CrEnd = st.AfterCr

-- ---- the records of a text, from any place in a record on, and where a text may be cut

-- the records of a text, from a state on, with the fields and the bytes of the field at hand
unfoldable pub records_on : State → List (List ℕ) → List ℕ → List ℕ → List (List (List ℕ))
records_on s fields field [] = if ends_at_end s then (fields ++ (field ∷ [])) ∷ [] else []
records_on s fields field (c ∷ rest) =
    if is_end (step default_config s c).1
    then fields_after (step default_config s c).1 fields field ∷ records_on (step default_config s c).0 [] [] rest
    else records_on (step default_config s c).0 (fields_after (step default_config s c).1 fields field) (field_after (step default_config s c).1 c field) rest

-- the machine stands where no record is begun
abbrev pub IsBetween : State → Type 0
IsBetween st.StartRecord = ⊤
IsBetween st.AfterCr = ⊤
IsBetween st.StartField = ⊥
IsBetween st.InField = ⊥
IsBetween st.InQuoted = ⊥
IsBetween st.AfterQuote = ⊥
IsBetween st.InEscape = ⊥
IsBetween st.InComment = ⊥

-- the machine stands not between quotes
abbrev pub IsOutside : State → Type 0
IsOutside st.StartRecord = ⊤
IsOutside st.AfterCr = ⊤
IsOutside st.StartField = ⊤
IsOutside st.InField = ⊤
IsOutside st.InQuoted = ⊥
IsOutside st.AfterQuote = ⊤
IsOutside st.InEscape = ⊥
IsOutside st.InComment = ⊥

-- the byte ends a line
abbrev pub IsLineEnd : ℕ → Type 0
IsLineEnd b = (b ≡ line_feed) ⊎ (b ≡ carriage_return)

-- fed these bytes, the machine stands before a record, with none begun
unfoldable pub Closes : State → List (List ℕ) → List ℕ → List ℕ → Type 0
Closes s fields field [] = IsBetween s × (fields ≡ []) × (field ≡ [])
Closes s fields field (c ∷ rest) =
    MatchBool (is_end (step default_config s c).1)
    (Closes (step default_config s c).0 [] [] rest)
    (Closes (step default_config s c).0 (fields_after (step default_config s c).1 fields field) (field_after (step default_config s c).1 c field) rest)

-- no byte is a quote
unfoldable pub HasNoQuote : List ℕ → Type 0
HasNoQuote [] = ⊤
HasNoQuote (c ∷ rest) = ((c == 34) ≡ false) × HasNoQuote rest

-- a text of whole records that may be cut off at its end
pub record IsWhole (text : List ℕ) : Type 0 where
  pub front : List ℕ
  pub last : ℕ
  pub ends : IsLineEnd last
  pub is : text ≡ front ++ last ∷ []
  pub closes : Closes st.StartRecord [] [] (strip_bom text)

-- the machine's state after these bytes
unfoldable pub stands : State → List ℕ → State
stands s [] = s
stands s (c ∷ rest) = stands (step default_config s c).0 rest

-- after the first n of these bytes, the last of which ends a line, no record is begun
pub record EndsFrom (s : State) (text : List ℕ) (n : ℕ) : Type 0 where
  pub within : n ≤ length text
  pub line : (0 < n) × IsLineEnd (get_or text (n - 1) 0)
  pub before : IsBetween (stands s (take n text))

-- the same state, or both where no record is begun: what follows is read alike
abbrev pub IsLike : State → State → Type 0
IsLike s t = (s ≡ t) ⊎ (IsBetween s × IsBetween t)

-- no line ends later than after the first n of these bytes, so that no record is begun then
abbrev pub NoEndAfter : State → List ℕ → ℕ → Type 0
NoEndAfter s text n = (k : ℕ) → n < k → EndsFrom s text k → ⊥

-- no more than the first n of these bytes are whole records
abbrev pub NoWholeAfter : List ℕ → ℕ → Type 0
NoWholeAfter text n = (k : ℕ) → n < k → k ≤ length text → IsWhole (take k text) → ⊥

-- behind the line end that these bytes may begin with no record ends, a byte order mark at their start left aside
abbrev pub EndsNoRecord : List ℕ → Type 0
EndsNoRecord text = NoEndAfter st.StartRecord (strip_bom text) 1

-- ---- how far a text was looked through for ends of records

-- a record ends in the bytes that were looked at, behind the line end at their start, if there is one
abbrev pub HasEnd : Looked → Type 0
HasEnd l = 1 < l.end

-- the machine stands so after the bytes that were looked at, and of the ends of records among them that is the last
pub record HasLooked (text : List ℕ) (l : Looked) : Type 0 where
  pub within : l.place ≤ length text
  pub upto : l.end ≤ l.place
  pub like : IsLike (state_of_csv l.at) (stands st.StartRecord (take l.place text))
  pub found : 0 < l.end → EndsFrom st.StartRecord text l.end
  pub none : (k : ℕ) → l.end < k → k ≤ l.place → EndsFrom st.StartRecord text k → ⊥
