-- How far a run over an input has come: it goes on by turns, each of which reads bytes, keeps and answers the lines that end in them.
use Rattle.std.specs.Prelude.{◌≡◌, ◌≤◌, ◌<◌, ◌+◌, ◌++◌, ◌⊎◌, [], ℕ, Bool, IfSome, List, MatchResult, Option, Result, None, Some, length, ◌≢◌, ◌∷◌, MatchBool, ⊤}
use Rattle.std.specs.Prelude.{cond, map, take, true}
use Rattle.rubis_message.specs.Message.{Message}
use Rattle.rubis_model.specs.Site.{Place}
use Rattle.rubis_replica.specs.State.{after_all}
use Rattle.rubis_engine.specs.Accounts.{Ending}
use Rattle.rubis_engine.specs.Accounts.Ending.{AtEnd}
use Rattle.rubis_engine.specs.declared.fault.RunFault.{RunFault}
use Rattle.rubis_engine.specs.declared.fault.RunFault.TheVariants as run
use Rattle.rubis_engine.specs.Text.{rows_text, input_records}
use Rattle.rubis_script.specs.Windows.{window_rows}
use Rattle.rubis_keys.specs.Desks.{LeadsKeyed, keyed_left_at, standing_at}
use Rattle.rubis_keys.specs.Keys.{KeyedSite, keyed_answers}
use Rattle.rubis_keys.specs.declared.desk.KeyedDesk.{KeyedDesk}
use Rattle.rubis_serving.specs.Serving.{Serving, serving}
use Rattle.rubis_keep.specs.Faults.{CountsLines, MayDiffer, IsFailure, TellsLine}
use Rattle.rubis_keep.specs.History.{History, Tells, IsFrontOf, Grows, KeepsLines}
use Rattle.rubis_keep.specs.Shortened.{state_after}
use Rattle.rubis_keep.specs.declared.answers.Answers.{Answers}
use Rattle.rubis_keep.specs.declared.fault.Difference.{Difference}
use Rattle.rubis_keep.specs.declared.fault.KeepFault.{KeepFault}
use Rattle.rubis_keep.specs.declared.fault.KeepFault.TheVariants as fault
use Rattle.rubis_keep.specs.declared.site.Clerk.{Clerk}
use Rattle.std.specs.Io.KnownBytes.{Consumes, IsAtEnd, prepend_known}
use Rattle.rubis_keep.specs.Lines.{CutsLines, HasNoEnd, kept_after, begun_bytes}
use Rattle.rubis_keep.specs.History.FolderEvent.{Kept, Replied}
use Rattle.rubis_keep.specs.Questions.{AreListed, reply_rows, reply_text}
use Rattle.rubis_keep.specs.declared.keeping.KeptLines.{KeptLines}
use Rattle.rubis_keep.specs.declared.pages.Listed.{Listed}

-- a site that answers: the messages that it holds, the first of which was that record; how many records are answered or held, and how many
-- are at most; what waits to be put, whether answers are shown, and what is left of the answers of before, with how many lines were found
pub record Answering : Type 0 where
  pub place : Place
  pub state : KeyedSite
  pub held : List Message
  pub first : ℕ
  pub answered : ℕ
  pub limit : ℕ
  pub sink : List ℕ
  pub is_live : Bool
  pub before : Option (List ℕ)
  pub lines : ℕ

abbrev pub clerk_at : {O F G : Type 0} → (O → Option (List ℕ)) → Clerk G → Answers O F → Answering
clerk_at before clerk answers = record {
  place = clerk.keyed.desk.site.place;
  state = standing_at clerk.keyed;
  held = clerk.keyed.desk.window.items;
  first = clerk.keyed.desk.first;
  answered = clerk.served.answered;
  limit = clerk.limit;
  sink = clerk.served.reply.sink;
  is_live = answers.is_live;
  before = before answers.before;
  lines = answers.lines;
}

-- a site once it has taken in the messages that it holds, and what it knows under keys
abbrev pub with_held : Place → KeyedSite → List Message → KeyedSite
with_held p s held = record s { site = after_all p s.site held }

-- the text that is still to be put, if these records come next and then the run ends so
abbrev pub still_to_put : Answering → Ending → List (List (List ℕ)) → List ℕ
still_to_put a ending records =
    a.sink ++ rows_text (window_rows a.place a.state.site a.first a.held ++ keyed_answers a.place (with_held a.place a.state a.held) (a.answered + 1) records)

-- nothing is held, and nothing waits to be put; no more are answered than the limit
pub record HoldsNothing (a : Answering) : Type 0 where
  pub window : a.held ≡ []
  pub empty : a.sink ≡ []
  pub within : a.answered ≤ a.limit

-- ---- a text that is put over answers of before

-- it was found there as far as they go, `left` of them is left, and `added` is the rest of it
abbrev pub IsPutOver : List ℕ → List ℕ → List ℕ → List ℕ → Type 0
IsPutOver old left added text = (old ++ added ≡ text ++ left) × ((added ≡ []) ⊎ (left ≡ []))

abbrev pub PutsOver : Option (List ℕ) → Option (List ℕ) → List ℕ → List ℕ → Type 0
PutsOver before before2 added text = IfSome before (λ old. (left : List ℕ) × (before2 ≡ Some left) × IsPutOver old left added text)

-- where all of it was found, its lines are counted
abbrev pub CountsOn : ℕ → ℕ → List ℕ → List ℕ → Type 0
CountsOn lines lines2 added text = added ≡ [] → CountsLines lines lines2 text

-- nothing was added, or what stands there then is the beginning of this text
abbrev pub PutsFront : Option (List ℕ) → List ℕ → List ℕ → Type 0
PutsFront before added text = IfSome before (λ old. (added ≡ []) ⊎ IsFrontOf (old ++ added) text)

-- a text was put, and told and shown where answers are; or a fault came, and some of it was
abbrev pub Puts : {T : Type 0} → Bool → Option (List ℕ) → Option (List ℕ) → ℕ → ℕ → Option History → Option History → List ℕ → Result T KeepFault → Type 0
Puts live before before2 lines lines2 old new text r = MatchResult r
    (λ _. (added : List ℕ) × PutsOver before before2 added text × CountsOn lines lines2 added text × Tells live old new added [])
    (λ _. (added : List ℕ) × PutsFront before added text × ((due : List ℕ) × Tells live old new added due))

-- whatever comes behind this text, what stood there isn't the beginning of it, and the first line in which they differ is told
abbrev pub IsUnlike : Option (List ℕ) → ℕ → List ℕ → Difference → Type 0
IsUnlike before lines text d = IfSome before (λ old. (rest : List ℕ) → (IsFrontOf old (text ++ rest) → ⊥) × TellsLine old (text ++ rest) lines d)

-- ---- the answers of a site as an outlet

-- a text was put
pub record HasPut {O F : Type 0} (before : O → Option (List ℕ)) (history : F → Option History) (text : List ℕ) (a b : Answers O F) : Type 0 where
  pub added : List ℕ
  pub over : PutsOver (before a.before) (before b.before) added text
  pub counted : CountsOn a.lines b.lines added text
  pub told : Tells a.is_live (history a.files) (history b.files) added []
  pub live : b.is_live ≡ a.is_live
  pub fault : b.fault ≡ a.fault

-- something failed: some of it was, or none; where it was noted that what stood there differs, it did
pub record HasTorn {O F : Type 0} (before : O → Option (List ℕ)) (history : F → Option History) (text : List ℕ) (a b : Answers O F) : Type 0 where
  pub added : List ℕ
  pub front : PutsFront (before a.before) added text
  pub due : List ℕ
  pub told : Tells a.is_live (history a.files) (history b.files) added due
  pub noted : (b.fault ≡ a.fault) ⊎ ((e : KeepFault) × (b.fault ≡ Some e) × MayDiffer e (λ d. IsUnlike (before a.before) a.lines text d))

-- the front of it was put, and something failed as the next of it was to be
pub record HasTornOff {O F : Type 0} (before : O → Option (List ℕ)) (history : F → Option History) (text : List ℕ) (a b : Answers O F) : Type 0 where
  pub front : List ℕ
  pub next : List ℕ
  pub later : List ℕ
  pub parts : front ++ (next ++ later) ≡ text
  pub mid : Answers O F
  pub put : HasPut before history front a mid
  pub torn : HasTorn before history next mid b

-- a run of a site that is kept
abbrev pub kept_run : {T O F : Type 0} → (O → Option (List ℕ)) → (F → Option History) → Serving (KeyedDesk T) (Answers O F)
kept_run before history = serving keyed_left_at LeadsKeyed (HasPut before history) (HasTornOff before history)

-- the fault that was noted, if one was: otherwise memory ran out
abbrev pub noted_fault : Option KeepFault → KeepFault
noted_fault (Some e) = e
noted_fault None = fault.Memory

-- why a run ended so
abbrev pub met : RunFault → Option KeepFault → KeepFault
met run.TooLong noted = fault.TooLong
met other noted = noted_fault noted

-- ---- records that are answered

-- these records were answered, this text was put, of which `added` is new, and they led the site on
pub record Fed (rows : List (List (List ℕ))) (x y : Answering) (text added : List ℕ) : Type 0 where
  pub says : (ending : Ending) (more : List (List (List ℕ))) → still_to_put x ending (rows ++ more) ≡ text ++ still_to_put y ending more
  pub put : PutsOver x.before y.before added text
  pub counted : CountsOn x.lines y.lines added text
  pub place : y.place ≡ x.place
  pub state : with_held y.place y.state y.held ≡ state_after x.place (with_held x.place x.state x.held) rows
  pub count : y.answered ≡ x.answered + length rows
  pub limit : y.limit ≡ x.limit
  pub live : y.is_live ≡ x.is_live

-- what is so if this fault comes before these records are answered: what stands there of before is no beginning of the answers to them,
-- whatever follows; or they are more than are answered
abbrev pub IsCause : List (List (List ℕ)) → Answering → KeepFault → Type 0
IsCause rows x (fault.Differs d) = (more : List (List (List ℕ))) → IsUnlike x.before x.lines (still_to_put x AtEnd (rows ++ more)) d
IsCause rows x fault.TooLong = x.limit < x.answered + length rows
IsCause rows x other = IsFailure other

-- this fault came, for a cause, and `added` begins the answers to them, whatever follows
pub record Stopped (rows : List (List (List ℕ))) (x : Answering) (added : List ℕ) (e : KeepFault) : Type 0 where
  pub begins : (more : List (List (List ℕ))) → PutsFront x.before added (still_to_put x AtEnd (rows ++ more))
  pub cause : IsCause rows x e

-- the records are answered, and what was added was told, and shown where answers are; or a fault came before they were
abbrev pub HasFed : List (List (List ℕ)) → Answering → Answering → Option History → Option History → Type 0
HasFed rows x y old new = (text added : List ℕ) × Fed rows x y text added × Tells x.is_live old new added []

abbrev pub HasStopped : List (List (List ℕ)) → Answering → Option History → Option History → KeepFault → Type 0
HasStopped rows x old new e = (added : List ℕ) × Stopped rows x added e × ((due : List ℕ) × Tells x.is_live old new added due)

abbrev pub Feeds : {T : Type 0} → List (List (List ℕ)) → Answering → Answering → Option History → Option History → Result T KeepFault → Type 0
Feeds rows x y old new r = MatchResult r (λ _. HasFed rows x y old new) (HasStopped rows x old new)

-- ---- how far a run over an input has come: it goes on by turns, each of which reads bytes, keeps and answers the lines that end in them, and answers a
-- question if they end with one

-- ---- where a run stands

-- the site that answers, what is left of the input, and what happened to the files; of the lines that are kept, which one is begun, how long
-- they are, and what is held of a listing
pub record Standing : Type 0 where
  pub at : Answering
  pub input : Option (List ℕ)
  pub history : Option History
  pub begun : List ℕ
  pub kept : ℕ
  pub listed : Option Listed

-- what is left of an input of which these bytes were read and aren't looked at yet
abbrev pub left_to_read : List ℕ → Option (List ℕ) → Option (List ℕ)
left_to_read unread input = prepend_known unread input

abbrev pub standing : {R O F G : Type 0} → (R → Option (List ℕ)) → (O → Option (List ℕ)) → (F → Option History) → R → KeptLines → Clerk G → Answers O F → Standing
standing input before history live lines clerk answers = record {
  at = clerk_at before clerk answers;
  input = left_to_read lines.unread (input live);
  history = history answers.files;
  begun = lines.cutter;
  kept = lines.kept;
  listed = lines.listed;
}

-- the beginning of some line
abbrev pub IsLineBegun : List ℕ → Type 0
IsLineBegun begun = (line : List ℕ) × HasNoEnd line × (begun ≡ begun_bytes line)

-- nothing is held, and nothing waits to be put; some line is begun; and what is held of a listing is that of this moment
pub record IsAtRest (s : Standing) : Type 0 where
  pub idle : HoldsNothing s.at
  pub begun : IsLineBegun s.begun
  pub listed : AreListed s.at.state.site s.listed

-- ---- what comes of an input

-- some bytes of it came, and what is kept of the lines that end in them is `chunk`; they end with the one question that they ask, if they
-- ask one. What was kept asks none, whatever it has
pub record TakesLines (asks asked : Bool) (input input2 : Option (List ℕ)) (begun begun2 chunk question : List ℕ) : Type 0 where
  pub bytes : List ℕ
  pub taken : Consumes input input2 bytes
  pub cuts : (line : List ℕ) → begun ≡ begun_bytes line → CutsLines asks line bytes begun2 [] chunk asked question
  pub asks_it : asked ≡ true → asks ≡ true

-- some bytes of an input came; or it is at its end
abbrev pub CameOrEnded : Bool → Option (List ℕ) → Option (List ℕ) → Type 0
CameOrEnded more input input2 = MatchBool more ((bytes : List ℕ) × Consumes input input2 bytes × (bytes ≢ [])) (IsAtEnd input2)

-- ---- a turn

-- it went on from the one to the other: its lines are kept, if this run keeps what it reads, and answered. Whether it ended with a question
pub record Answered (keeps : Bool) (x y : Standing) (asked : Bool) (question : List ℕ) : Type 0 where
  pub chunk : List ℕ
  pub reads : TakesLines keeps asked x.input y.input x.begun y.begun chunk question
  pub mid : Option History
  pub kept : KeepsLines keeps x.history mid chunk
  pub text : List ℕ
  pub added : List ℕ
  pub fed : Fed (input_records chunk) x.at y.at text added
  pub told : Tells x.at.is_live mid y.history added []
  pub length_is : y.kept ≡ x.kept + length chunk
  pub rests : IsAtRest y

-- what answers a question
abbrev pub replied_to : Answering → List ℕ → List ℕ
replied_to a question = reply_text (reply_rows a.place a.state.site a.answered question)

-- the question was answered, if there was one, and nothing else has changed
pub record Turn (keeps : Bool) (x y : Standing) : Type 0 where
  pub asked : Bool
  pub question : List ℕ
  pub mid : Standing
  pub answered : Answered keeps x mid asked question
  pub replied : Grows mid.history y.history (cond asked (Replied question (replied_to mid.at question) ∷ []) [])
  pub same : y ≡ record mid { history = y.history; listed = y.listed }
  pub listed : AreListed mid.at.state.site y.listed

-- ---- a turn that a fault ended, with what was read and what happened until then

-- before its lines were kept: some first bytes of them may be
pub record Torn (keeps : Bool) (x : Standing) (input2 : Option (List ℕ)) (history2 : Option History) (e : KeepFault) : Type 0 where
  pub bytes : List ℕ
  pub torn : List ℕ
  pub taken : Consumes x.input input2 bytes
  pub front : (line : List ℕ) → x.begun ≡ begun_bytes line → IsFrontOf torn (kept_after keeps line bytes)
  pub kept : Grows x.history history2 (map (λ b. Kept b) torn)
  pub only : (torn ≡ []) ⊎ (keeps ≡ true)
  pub cause : IsFailure e

-- before they were answered
pub record Unanswered (keeps : Bool) (x : Standing) (input2 : Option (List ℕ)) (history2 : Option History) (e : KeepFault) : Type 0 where
  pub asked : Bool
  pub question : List ℕ
  pub begun2 : List ℕ
  pub chunk : List ℕ
  pub reads : TakesLines keeps asked x.input input2 x.begun begun2 chunk question
  pub mid : Option History
  pub kept : KeepsLines keeps x.history mid chunk
  pub added : List ℕ
  pub stopped : Stopped (input_records chunk) x.at added e
  pub due : List ℕ
  pub told : Tells x.at.is_live mid history2 added due

-- before its question was: some first bytes of the answer may be shown
pub record Unreplied (keeps : Bool) (x : Standing) (input2 : Option (List ℕ)) (history2 : Option History) (e : KeepFault) : Type 0 where
  pub question : List ℕ
  pub mid : Standing
  pub answered : Answered keeps x mid true question
  pub input_is : input2 ≡ mid.input
  pub replied : Grows mid.history history2 []
      ⊎ ((n : ℕ) × Grows mid.history history2 (Replied question (take n (replied_to mid.at question)) ∷ []))
  pub cause : IsFailure e

abbrev pub Broke : Bool → Standing → Option (List ℕ) → Option History → KeepFault → Type 0
Broke keeps x input2 history2 e = Torn keeps x input2 history2 e ⊎ (Unanswered keeps x input2 history2 e ⊎ Unreplied keeps x input2 history2 e)

-- ---- many turns

abbrev pub last : Standing → List Standing → Standing
last x [] = x
last x (y ∷ ys) = last y ys

-- turn by turn it came from where it stood to the last of these
abbrev pub Turns : Bool → Standing → List Standing → Type 0
Turns keeps x [] = ⊤
Turns keeps x (y ∷ ys) = Turn keeps x y × Turns keeps y ys

-- it came to the end of its input
pub record Ends (keeps : Bool) (x y : Standing) : Type 0 where
  pub turns : List Standing
  pub are : Turns keeps x turns
  pub last_is : y ≡ last x turns
  pub rests : IsAtRest y
  pub end : IsAtEnd y.input

-- a fault ended it
pub record Breaks (keeps : Bool) (x : Standing) (input2 : Option (List ℕ)) (history2 : Option History) (e : KeepFault) : Type 0 where
  pub turns : List Standing
  pub are : Turns keeps x turns
  pub rests : IsAtRest (last x turns)
  pub broke : Broke keeps (last x turns) input2 history2 e
