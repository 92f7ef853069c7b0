-- What a piece of text, and several records, are read as, and the pieces that are given to be read.
use Rattle.std.specs.Prelude.{⊤, ℕ, List, [], ◌∷◌, ◌++◌, ◌≤◌, ◌<◌, None, Option, Some, length, ◌≡◌, ◌+◌, ◌-◌, ◌⊎◌, IfNone, IfOk, IfSome, Result, drop}
use Rattle.std.specs.Prelude.{slice_index_or, slice_set, take, true, ◌*◌, Bool, cond, max, min, nat_lt}
use Rattle.rubis_message.specs.Inputs.{IsInput}
use Rattle.rubis_message.specs.declared.inputs.Input.{Input}
use Rattle.rubis_message.specs.Message.{Message}
use Rattle.rubis_engine.specs.Reading.{Gives}
use Rattle.rubis_engine.specs.declared.record_list.Records.{Records}
use Rattle.rubis_message.specs.declared.tokens.Packet.TheVariants.{Msg}
use Rattle.rubis_message.specs.declared.inputs.Input.TheVariants.{Came}
use Rattle.rubis_reading.specs.declared.stretches.Stretch.{Stretch}
use Rattle.rubis_reading.specs.declared.stretches.Stretch.TheVariants.{Messages, One}
use Rattle.std.specs.Global.{Vec}
use Rattle.rubis_engine.specs.Text.{input_records}
use Rattle.rubis_engine.specs.declared.fault.OutOfMemory.{OutOfMemory}
use Rattle.rubis_crew.specs.declared.job.Back.{Back}
use Rattle.rubis_crew.specs.declared.job.Given.{Given}
use Rattle.rubis_crew.specs.States.{CrewId, LeadState}
use Rattle.rubis_reading.specs.Chunked.{IsChunk}
use Rattle.rubis_reading.specs.declared.pieces.GivenPiece.{GivenPiece}
use Rattle.rubis_reading.specs.declared.pieces.Pieces.{Pieces}
use Rattle.rubis_reading.specs.declared.pieces.ReadPiece.{ReadPiece}
use Rattle.rubis_reading.specs.declared.readings.Reading.{Reading}
use Rattle.std.specs.Int.{from_bool}
use Rattle.rubis_reading.specs.declared.worth.TheConstants.{ALONE_MAX, ALONE_MIN, COUNTED}
use Rattle.rubis_reading.specs.declared.worth.Worth.{Worth}

-- the records are these inputs, one by one
unfoldable pub AreInputs : ℕ → List (List (List ℕ)) → List Input → Type 0
AreInputs sites [] [] = ⊤
AreInputs sites [] (p ∷ ps) = ⊥
AreInputs sites (fields ∷ rows) [] = ⊥
AreInputs sites (fields ∷ rows) (p ∷ ps) = IsInput sites fields p × AreInputs sites rows ps

-- ---- records that were read, one after the other, messages in lists of their own

-- messages, each as what a record is
abbrev pub all_came : List Message → List Input
all_came [] = []
all_came (m ∷ ms) = Came (Msg m) ∷ all_came ms

-- what one run has
abbrev pub of_stretch : Stretch → List Input
of_stretch (Messages list) = all_came list.items
of_stretch (One p) = p ∷ []

-- what several have, one after the other
abbrev pub flat : List Stretch → List Input
flat [] = []
flat (r ∷ rest) = of_stretch r ++ flat rest

-- the next, if there is one
abbrev pub of_next : Option Stretch → List Stretch
of_next None = []
of_next (Some r) = r ∷ []

-- no more messages came together than a window has; a window of 0 sets no limit
abbrev pub FitsWindow : ℕ → Stretch → Type 0
FitsWindow window (Messages list) = 0 < window → length list.items ≤ window
FitsWindow window (One p) = ⊤

-- so it is with each of them
abbrev pub FitWindow : ℕ → List Stretch → Type 0
FitWindow window [] = ⊤
FitWindow window (r ∷ rest) = FitsWindow window r × FitWindow window rest

-- and with the messages that came last, which are still to be put behind
abbrev pub HaveWindow : ℕ → List Stretch → List Message → Type 0
HaveWindow window runs messages = FitWindow window runs × (0 < window → length messages ≤ window)

-- all records of a reader are these, and those that came last are messages
pub record HasRead {R : Type 0} (rem : R → Option (List ℕ)) (sites most : ℕ) (records : Records R) (runs : List Stretch) (messages : List Message) :
    Type 0 where
  pub parsed : (rows : List (List (List ℕ))) → Gives rem records rows → AreInputs sites rows (flat runs ++ all_came messages)
  pub window : HaveWindow most runs messages

-- ---- what a piece of text is read as, and the pieces of a text that are given to be read

-- these are the records of a text, and no more messages came together than a window has
abbrev pub AreRead : ℕ → ℕ → List ℕ → List Stretch → Type 0
AreRead sites window text list = AreInputs sites (input_records text) (flat list) × FitWindow window list

-- the job is to read that text so
abbrev pub IsReading : ℕ → ℕ → List ℕ → Reading → Type 0
IsReading sites window text job = (job.text.items ≡ text) × (job.sites ≡ sites) × (job.window ≡ window)

-- so it is with each of the jobs that are given
abbrev pub EachGiven : (Given Reading → Type 0) → List (Given Reading) → Type 0
EachGiven P [] = ⊤
EachGiven P (x ∷ xs) = P x × EachGiven P xs

-- one of the jobs that are given has that number
abbrev pub IsGivenJob : ℕ → List (Given Reading) → Type 0
IsGivenJob number [] = ⊥
IsGivenJob number (x ∷ xs) = (x.number ≡ number) ⊎ IsGivenJob number xs

-- a piece is the front of a text, has that number, and what was read of it are its records; until it is read its job is given
pub record IsTextPiece (sites window : ℕ) (jobs : List (Given Reading)) (number : ℕ) (text : List ℕ) (p : GivenPiece) : Type 0 where
  pub chunk : IsChunk p.many text
  pub read : IfSome p.read (λ result. IfOk result (λ list. AreRead sites window (take p.many text) list.items))
  pub job : EachGiven (λ x. x.number ≡ number → IsReading sites window (take p.many text) x.job) jobs
  pub waits : IfNone p.read (IsGivenJob number jobs)

-- the pieces that are given, the first of which has that number: each begins with the end of the one before, and no job has a later number
abbrev pub AreGiven : ℕ → ℕ → List (Given Reading) → ℕ → List ℕ → List GivenPiece → Type 0
AreGiven sites window jobs number text [] = EachGiven (λ x. x.number < number) jobs
AreGiven sites window jobs number text (p ∷ ps) =
    IsTextPiece sites window jobs number text p × AreGiven sites window jobs (number + 1) (drop (p.many - 1) text) ps

-- how many bytes they are, the last of each left aside
abbrev pub bytes_passed : List GivenPiece → ℕ
bytes_passed [] = 0
bytes_passed (p ∷ ps) = (p.many - 1) + bytes_passed ps

-- they are the pieces of that text, from its start on
pub record AreOf (text : List ℕ) (p : Pieces) : Type 0 where
  pub pieces : AreGiven p.sites p.window p.lead.given p.first text p.given.items
  pub next : p.lead.next ≡ p.first + length p.given.items
  pub fits : p.lead.next < 18446744073709551616
  pub from : p.from ≡ bytes_passed p.given.items

-- they are given to that crew, and their records are read so
abbrev pub AreFor : CrewId → ℕ → ℕ → Pieces → Type 0
AreFor crew sites window p = (p.lead.crew ≡ crew) × (p.sites ≡ sites) × (p.window ≡ window)

-- they are given to the same crew, and read alike
abbrev pub KeepFor : Pieces → Pieces → Type 0
KeepFor old new = AreFor old.lead.crew old.sites old.window new

-- the lead of that crew has all back, and said that no more come
abbrev pub IsReadingOver : CrewId → LeadState Reading → Type 0
IsReadingOver crew l = (l.crew ≡ crew) × (l.ended ≡ true) × (l.given ≡ [])

-- the first piece was taken off, with its records, or there is none
abbrev pub TakesPiece : List ℕ → Option ReadPiece → Pieces → Type 0
TakesPiece text None s = (other : List ℕ) → AreOf other s
TakesPiece text (Some p) s = IsChunk p.many text × AreRead s.sites s.window (take p.many text) p.list.items × AreOf (drop (p.many - 1) text) s

-- a result is with its piece, the first of which has that number; one of no piece is let go
abbrev pub IsPut : ℕ → List GivenPiece → Back (Result (Vec Stretch) OutOfMemory) → List GivenPiece → Type 0
IsPut first old back new =
    ((new ≡ old) × ((back.number < first) ⊎ (first + length old ≤ back.number))) ⊎ ((k : ℕ) × (p : GivenPiece) × (first + k ≡ back.number) × (k < length old)
    × (p ≡ slice_index_or old k p) × (new ≡ slice_set old k (record { many = p.many; read = Some back.result })))

-- ---- whether helpers are fed, by who read the last pieces

-- it is counted who read the last `pieces`: the caller's thread read `mine` of them
abbrev pub Counts : ℕ → ℕ → Worth → Type 0
Counts pieces mine w = (w.pieces ≡ pieces) × (w.mine ≡ mine)

-- the caller's thread reads the next `alone` pieces alone, of `last` that it began with
abbrev pub ReadsAlone : ℕ → ℕ → Worth → Type 0
ReadsAlone alone last w = (w.alone ≡ alone) × (w.last ≡ last)

-- where it read more than seven of eight itself: twice as many as last time, within bounds; otherwise none
abbrev pub alone_after : ℕ → ℕ → ℕ
alone_after mine last = cond (nat_lt (7 * COUNTED) (8 * mine)) (min (max (2 * last) ALONE_MIN) ALONE_MAX) 0

-- a piece more is counted; with the last of COUNTED it is decided whether helpers are fed, and nothing is counted any more
abbrev pub HasCounted : Bool → Worth → Worth → Type 0
HasCounted by_caller old new =
    let mine = old.mine + from_bool by_caller in
    let alone = alone_after mine old.last in
    (old.pieces + 1 < COUNTED → Counts (old.pieces + 1) mine new × ReadsAlone old.alone old.last new)
    × (old.pieces + 1 ≡ COUNTED → Counts 0 0 new × ReadsAlone alone alone new)
