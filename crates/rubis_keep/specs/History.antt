-- What happens to the files of a site, byte by byte, what holds of them at each moment, and what a run leaves.
use Rattle.std.specs.Prelude.{◌≡◌, ◌++◌, ◌⊎◌, [], ℕ, List, Option, Some, ◌≤◌, ◌∷◌, Bool, Result, None, MatchBool, MatchResult, cond, drop, length, map, take}
use Rattle.std.specs.Prelude.{true, false, ⊤}
use Rattle.std.specs.Io.KnownBytes.{Consumes, IsAtEnd}
use Rattle.rubis_engine.specs.Accounts.{Account}
use Rattle.rubis_engine.specs.Accounts.Ending.{AtEnd, Cut}
use Rattle.rubis_engine.specs.Text.{input_records}
use Rattle.rubis_keep.specs.Lines.{HasSoundLines, kept_of_input, whole_lines}
use Rattle.std.specs.Option.{option_map}

-- a text begins so
abbrev pub IsFrontOf : List ℕ → List ℕ → Type 0
IsFrontOf xs ys = (rest : List ℕ) × (xs ++ rest ≡ ys)

-- the log and what is read of it are `kept`, the answers and what is read of them `old`
pub record Opens (kept old : List ℕ) (first past log before out : Option (List ℕ)) : Type 0 where
  pub first_is : first ≡ Some kept
  pub past_is : past ≡ Some kept
  pub log_is : log ≡ Some kept
  pub before_is : before ≡ Some old
  pub out_is : out ≡ Some old

-- it came to the end of its input: the log has the whole lines of before, and then what is kept of the input, and `out`
-- the text of all of it
pub record Lived (all : Account) (kept0 old : List ℕ) (input input2 log out : Option (List ℕ)) : Type 0 where
  pub sound : HasSoundLines [] kept0
  pub found : IsFrontOf old (all.text AtEnd (input_records (whole_lines kept0)))
  pub bytes : List ℕ
  pub taken : Consumes input input2 bytes
  pub end : IsAtEnd input2
  pub log_is : log ≡ Some (whole_lines kept0 ++ kept_of_input bytes)
  pub out_is : out ≡ Some (all.text Cut (input_records (whole_lines kept0 ++ kept_of_input bytes)))
  pub begins : (more : List (List (List ℕ))) → (rest : List ℕ)
      × (all.text Cut (input_records (whole_lines kept0 ++ kept_of_input bytes)) ++ rest ≡ all.text AtEnd
      (input_records (whole_lines kept0 ++ kept_of_input bytes) ++ more))

-- it ended with a fault. The log is as it was; or it has the whole lines of before, and then a prefix of what is kept of the bytes
-- that were read of the input. The answers of before are the beginning of the text of what was kept, and what stands in `out` is the
-- beginning of the text of what the log has, whatever follows it; or both are as they were
pub record Ended (all : Account) (kept0 old : List ℕ) (input input2 log out : Option (List ℕ)) : Type 0 where
  pub kept : List ℕ
  pub told : List ℕ
  pub bytes : List ℕ
  pub log_is : log ≡ Some kept
  pub out_is : out ≡ Some told
  pub taken : Consumes input input2 bytes
  pub sound : HasSoundLines [] kept0 → HasSoundLines [] kept
  pub grows : (kept ≡ kept0) ⊎ (IsFrontOf (whole_lines kept0) kept × IsFrontOf kept (whole_lines kept0 ++ kept_of_input bytes))
  pub answers : ((kept ≡ kept0) × (told ≡ old))
      ⊎ (HasSoundLines [] kept0 × IsFrontOf old (all.text AtEnd (input_records (whole_lines kept0)))
      × ((more : List (List (List ℕ))) → IsFrontOf told (all.text AtEnd (input_records (whole_lines kept) ++ more))))

-- ---- what a run leaves that was cut off

-- a log and the answers beside it
pub record Files : Type 0 where
  pub log : List ℕ
  pub out : List ℕ

-- a log of kept lines, the last of which may be torn, and the beginning of the text of its whole lines
pub record IsLeft (text : List (List (List ℕ)) → List ℕ) (files : Files) : Type 0 where
  pub sound : HasSoundLines [] files.log
  pub rest : List ℕ
  pub begins : files.out ++ rest ≡ text (input_records (whole_lines files.log))

-- ---- what happens to the files of a site, byte by byte, and what holds of them at each moment

-- a byte is appended to `kept` or to `out`, or shown on standard output: of a write that is cut off, some first bytes are. `kept` is
-- flushed, after which it survives a power failure if that is asked for, or cut off after its first bytes. It is written down how the
-- site is set up from now on. The line `kept,..` is shown: how many records were kept, and how many messages of each site are released.
-- A question is answered on standard output by this text, or by some first bytes of it where that failed
pub data FolderEvent : Type 0 where
  Kept : (byte : ℕ) → FolderEvent
  Flushed : FolderEvent
  CutTo : (len : ℕ) → FolderEvent
  Told : (byte : ℕ) → FolderEvent
  Settled : FolderEvent
  Began : (records : ℕ) (counts : List ℕ) → FolderEvent
  Shown : (byte : ℕ) → FolderEvent
  Replied : (question : List ℕ) (text : List ℕ) → FolderEvent

-- what stands in the files of a site
pub record FileState : Type 0 where
  pub kept : List ℕ
  -- what of it survives a power failure
  pub flushed : List ℕ
  -- what was cut off from it, and may come back with a power failure
  pub cut : List ℕ
  pub out : List ℕ
  -- whether it was written down how the site is set up from now on; whether the line `kept,..` was shown; and what `out` had then, with the
  -- answers that were shown since
  pub settled : Bool
  pub begun : Bool
  pub shown : List ℕ

abbrev pub after_file_event : FileState → FolderEvent → FileState
after_file_event s (Kept b) = record s { kept = s.kept ++ b ∷ [] }
after_file_event s Flushed = record s { flushed = s.kept; cut = [] }
after_file_event s (CutTo n) = record s { kept = take n s.kept; flushed = take n s.flushed; cut = drop n s.kept ++ s.cut }
after_file_event s (Told b) = record s { out = s.out ++ b ∷ [] }
after_file_event s Settled = record s { settled = true }
after_file_event s (Began n counts) = record s { begun = true; shown = s.out }
after_file_event s (Shown b) = record s { shown = s.shown ++ b ∷ [] }
after_file_event s (Replied question text) = s

abbrev pub after_file_events : FileState → List FolderEvent → FileState
after_file_events s [] = s
after_file_events s (e ∷ later) = after_file_events (after_file_event s e) later

-- how the files stood when a process opened them, and what has happened to them since
pub record History : Type 0 where
  pub start : FileState
  pub events : List FolderEvent

abbrev pub now : History → FileState
now h = after_file_events h.start h.events

abbrev pub kept_in : Option History → Option (List ℕ)
kept_in known = option_map (λ h. (now h).kept) known

abbrev pub out_in : Option History → Option (List ℕ)
out_in known = option_map (λ h. (now h).out) known

-- where the history is known, these events and no others have happened since
abbrev pub Grows : Option History → Option History → List FolderEvent → Type 0
Grows None new events = ⊤
Grows (Some h) None events = ⊥
Grows (Some h) (Some h2) events = h2 ≡ record { start = h.start; events = h.events ++ events }

-- some of these bytes are written at once, or none
abbrev pub HasWritten : {E : Type 0} → (ℕ → FolderEvent) → Option History → Option History → Result ℕ E → List ℕ → Type 0
HasWritten event old new r bytes = MatchResult r (λ n. Grows old new (map event (take n bytes))) (λ _. Grows old new [])

-- the one event happens, or none
abbrev pub HasDone : {T E : Type 0} → FolderEvent → Option History → Option History → Result T E → Type 0
HasDone event old new r = MatchResult r (λ _. Grows old new (event ∷ [])) (λ _. Grows old new [])

-- these bytes are shown, or some first ones
abbrev pub HasShown : {T E : Type 0} → Option History → Option History → Result T E → List ℕ → Type 0
HasShown old new r text = MatchResult r (λ _. Grows old new (map (λ b. Shown b) text)) (λ _. (n : ℕ) × Grows old new (map (λ b. Shown b) (take n text)))

-- a question is answered by this text, or by some first bytes of it
abbrev pub HasReplied : {T E : Type 0} → Option History → Option History → Result T E → List ℕ → List ℕ → Type 0
HasReplied old new r question text = MatchResult r (λ _. Grows old new (Replied question text ∷ []))
    (λ _. (n : ℕ) × Grows old new (Replied question (take n text) ∷ []))

-- ---- what holds at each moment

-- what a site says behind records: the answers to them; how many messages of each site are released then; and what it replies to a question
pub record Says : Type 0 where
  pub text : List (List (List ℕ)) → List ℕ
  pub counts : List (List (List ℕ)) → List ℕ
  pub reply : List (List (List ℕ)) → List ℕ → List ℕ

-- the records of what was kept whole
abbrev pub records_in : List ℕ → List (List (List ℕ))
records_in kept = input_records (whole_lines kept)

-- What was kept is lines that are kept as they are, the last of which may be torn. What survives a power failure is a prefix of it, and
-- `out` is the beginning of the text of the records that survive: so nothing is told that isn't kept and flushed. Nothing is shown before
-- the line `kept,..`, and then nothing that `out` doesn't have
pub record IsSafe (text : List (List (List ℕ)) → List ℕ) (s : FileState) : Type 0 where
  pub sound : HasSoundLines [] (s.kept ++ s.cut)
  pub flushed : IsFrontOf s.flushed s.kept
  pub told : IsFrontOf s.out (text (records_in s.flushed))
  pub shown : MatchBool s.begun (IsFrontOf s.shown s.out) (s.shown ≡ [])

-- all that was kept is answered
abbrev pub IsAllAnswered : (List (List (List ℕ)) → List ℕ) → FileState → Type 0
IsAllAnswered text s = s.out ≡ text (records_in s.kept)

-- what `out` has is shown, after the line `kept,..`
abbrev pub IsShown : FileState → Type 0
IsShown s = (s.begun ≡ true) × (s.shown ≡ s.out)

-- The line `kept,..` is shown once, and counts what is kept: all of it is answered then, and it was written down how the site is set up. A
-- byte is kept only after it, and only where all that was told is shown; and no event loses a line that was kept whole. A question is
-- answered once all that was kept is answered, and shown: by what the site says behind that, or some first bytes of it
abbrev pub MayFollow : Says → FileState → FolderEvent → Type 0
MayFollow says s (Kept b) = IsShown s
MayFollow says s Flushed = ⊤
MayFollow says s (CutTo n) = IsFrontOf (whole_lines s.kept) (take n s.kept)
MayFollow says s (Told b) = ⊤
MayFollow says s Settled = IsAllAnswered says.text s × (s.begun ≡ false)
MayFollow says s (Began n counts) = IsAllAnswered says.text s × (n ≡ length (records_in s.kept)) × (counts ≡ says.counts (records_in s.kept))
    × (s.settled ≡ true) × (s.begun ≡ false)
MayFollow says s (Shown b) = ⊤
MayFollow says s (Replied question reply) = IsAllAnswered says.text s × IsShown s × IsFrontOf reply (says.reply (records_in s.kept) question)

-- at each moment of these events the files are safe
abbrev pub AreSafe : Says → FileState → List FolderEvent → Type 0
AreSafe says s [] = IsSafe says.text s
AreSafe says s (e ∷ later) = IsSafe says.text s × MayFollow says s e × AreSafe says (after_file_event s e) later

-- where the history is known, the files were safe at each moment since
abbrev pub StaysSafe : Says → Option History → Option History → Type 0
StaysSafe says None new = ⊤
StaysSafe says (Some h) new = (events : List FolderEvent) × Grows (Some h) new events × AreSafe says (now h) events

-- ---- what a run does to them

-- only answers are told, and in a run that shows them each is shown once it is told: `due` is still to be shown before these events,
-- and `due2` after them
abbrev pub Answers : Bool → List FolderEvent → List ℕ → List ℕ → Type 0
Answers live [] due due2 = due2 ≡ due
Answers live (Told b ∷ later) due due2 = Answers live later (cond live (due ++ b ∷ []) due) due2
Answers live (Shown b ∷ later) due due2 = (rest : List ℕ) × (due ≡ b ∷ rest) × Answers live later rest due2
Answers live (e ∷ later) due due2 = ⊥

-- what is told by these events
abbrev pub told_of : List FolderEvent → List ℕ
told_of [] = []
told_of (Told b ∷ later) = b ∷ told_of later
told_of (e ∷ later) = told_of later

-- this text was told, and shown if answers are shown; or `due` of it is still to be shown
abbrev pub Tells : Bool → Option History → Option History → List ℕ → List ℕ → Type 0
Tells live old new text due = (events : List FolderEvent) × Grows old new events × Answers live events [] due × (told_of events ≡ text)

-- a prefix of this text was told, of which some may not be shown yet
abbrev pub TellsFront : Bool → Option History → Option History → List ℕ → Type 0
TellsFront live old new text = (n : ℕ) × (n ≤ length text) × (due : List ℕ) × Tells live old new (take n text) due

-- ---- lines that are kept

-- a run that keeps lines has kept these, and flushed them
abbrev pub KeepsLines : Bool → Option History → Option History → List ℕ → Type 0
KeepsLines true old new lines = Grows old new (map (λ b. Kept b) lines ++ Flushed ∷ []) ⊎ (Grows old new [] × (lines ≡ []))
KeepsLines false old new lines = Grows old new []

-- the lines of a run that keeps them are kept, and flushed; at a fault some first bytes of them are
abbrev pub HasKept : {T E : Type 0} → Bool → Option History → Option History → Result T E → List ℕ → Type 0
HasKept keeps old new r lines = MatchResult r (λ _. KeepsLines keeps old new lines)
    (λ _. (keeps ≡ true) × (n : ℕ) × (n ≤ length lines) × Grows old new (map (λ b. Kept b) (take n lines)))

-- what of `kept` a run sees that keeps lines
abbrev pub log_if_kept : Bool → Option History → Option (List ℕ)
log_if_kept keeps known = cond keeps (kept_in known) None
