-- What a source of chunks has still to give.
use Rattle.std.specs.Prelude.{◌≡◌, ◌≤◌, ◌<◌, ◌+◌, ◌*◌, ◌++◌, [], ⊤, ℕ, Bool, Err, List, Ok, Option, Result, Some, false, length, take, true}
use Rattle.std.specs.Int.{from_bool}
use Rattle.std.specs.Io.KnownBytes.{Consumes, IsAtEnd, Keeps, prepend_known}
use Rattle.rubis_engine.specs.Seam.{IsNew, Lefts, MayHave}
use Rattle.rubis_engine.specs.Text.{input_records}
use Rattle.rubis_reading.specs.Streams.{EndsNoRecord, IsWhole}
use Rattle.rubis_reading.specs.declared.buffer.ChunkFault.{ChunkFault}
use Rattle.rubis_reading.specs.declared.buffer.ChunkFault.TheVariants.{Memory, Read}
use Rattle.rubis_reading.specs.declared.chunks.Chunks.{Chunks}

-- the bytes that came from the reader and were not handed on
abbrev pub held_text : {R : Type 0} → Chunks R → List ℕ
held_text c = c.held

-- all bytes that are not handed on
abbrev pub pending_text : {R : Type 0} → Lefts R → Chunks R → Option (List ℕ)
pending_text rem c = prepend_known (held_text c) (rem c.reader)

-- the first `many` bytes are whole records, and more than the line end that may stand first
abbrev pub IsChunk : ℕ → List ℕ → Type 0
IsChunk many text = (1 < many) × (many ≤ length text) × IsWhole (take many text)

-- a source of chunks has these records still to give
pub record HasPending {R : Type 0} (rem : Lefts R) (c : Chunks R) (rows : List (List (List ℕ))) : Type 0 where
  pub bytes : List ℕ
  pub source : pending_text rem c ≡ Some bytes
  pub reads : rows ≡ input_records bytes

-- these bytes were taken off the front, and are whole records: what comes after them is read from there on
abbrev pub TakesOff : {R : Type 0} → Lefts R → Chunks R → Chunks R → List ℕ → Type 0
TakesOff rem old new chunk = (rows : List (List (List ℕ))) → HasPending rem old rows
    → (more : List (List (List ℕ))) × (rows ≡ input_records chunk ++ more) × HasPending rem new more

-- bytes were put behind those that are held, `more` if and only if there were any
pub record PutsBehind (old new : List ℕ) (more : Bool) : Type 0 where
  pub bytes : List ℕ
  pub behind : new ≡ old ++ bytes
  pub some : more ≡ true → 0 < length bytes

-- the reader put them there; where there were none it is at its end
pub record WasFilled (before after : Option (List ℕ)) (old new : List ℕ) (more : Bool) : Type 0 where
  pub put : PutsBehind old new more
  pub consumed : Consumes before after put.bytes
  pub last : more ≡ false → IsAtEnd after

-- how the reader was asked: what it gave was put behind; or it failed, and all is as it was
abbrev pub WasAsked : Option (List ℕ) → Option (List ℕ) → List ℕ → List ℕ → Result Bool ChunkFault → Type 0
WasAsked before after old new (Ok more) = WasFilled before after old new more
WasAsked before after old new (Err Read) = (new ≡ old) × Keeps before after
WasAsked before after old new (Err Memory) = ⊤

-- nothing was taken off
abbrev pub KeepsPending : {R : Type 0} → Lefts R → Chunks R → Chunks R → Type 0
KeepsPending rem old new = (rows : List (List (List ℕ))) → HasPending rem old rows → HasPending rem new rows

-- what came of an input: `front` was handed on, and whatever follows it, its records stand first; `begun` came since, and is held behind
-- the end of the last line that was handed on, if there is one; the reader has what is left
pub record HasCome {R : Type 0} (rem : Lefts R) (input : List ℕ) (c : Chunks R) : Type 0 where
  pub front : List ℕ
  pub mark : List ℕ
  pub begun : List ℕ
  pub left : List ℕ
  pub parts : input ≡ front ++ (begun ++ left)
  pub few : length mark ≤ 1
  pub held : held_text c ≡ mark ++ begun
  pub source : rem c.reader ≡ Some left
  pub first : (more : List ℕ) → input_records (front ++ more) ≡ input_records front ++ input_records (mark ++ more)

-- all that came is there still
abbrev pub KeepsCome : {R : Type 0} → Lefts R → Chunks R → Chunks R → Type 0
KeepsCome rem old new = (input : List ℕ) → HasCome rem input old → HasCome rem input new

-- how far it is to the end of a text: each byte that is held is still to be handed on, and each of those `to_come` to be taken in before
abbrev pub way : List ℕ → List ℕ → ℕ
way held to_come = length held + 2 * length to_come

-- by n or more it is nearer to the end of a text, where that is known
abbrev pub ComesNearer : {R : Type 0} → ℕ → Lefts R → Chunks R → Chunks R → Type 0
ComesNearer n rem old new = (left : List ℕ) → rem old.reader ≡ Some left
    → (left2 : List ℕ) × (rem new.reader ≡ Some left2) × (way (held_text new) left2 + n ≤ way (held_text old) left)

-- what comes is held, and the end is nearer by n or more
pub record ComesOn {R : Type 0} (n : ℕ) (rem : Lefts R) (old new : Chunks R) : Type 0 where
  pub pending : KeepsPending rem old new
  pub come : KeepsCome rem old new
  pub nearer : ComesNearer n rem old new

-- the reader failed: all that came is there still, and no record ends in what is held, if none did before
pub record FailsShort {R : Type 0} (rem : Lefts R) (old new : Chunks R) : Type 0 where
  pub pending : KeepsPending rem old new
  pub come : KeepsCome rem old new
  pub none : EndsNoRecord (held_text old) → EndsNoRecord (held_text new)

-- how more is asked for: some came, or it is the end; or the reader failed
abbrev pub AsksOn : {R : Type 0} → Lefts R → Chunks R → Chunks R → Result Bool ChunkFault → Type 0
AsksOn rem old new (Ok more) = ComesOn (from_bool more) rem old new
AsksOn rem old new (Err Read) = FailsShort rem old new
AsksOn rem old new (Err Memory) = ⊤

-- the chunks have all of the input still to give
abbrev pub HasWholeInput : {R : Type 0} → Lefts R → Chunks R → List ℕ → Type 0
HasWholeInput rem chunks input = HasPending rem chunks (input_records input) × HasCome rem input chunks

-- of an input k whole records came: they were handed on, and in what came since no record ends
pub record CameWhole {R : Type 0} (rem : Lefts R) (chunks : Chunks R) (input : List ℕ) (k : ℕ) : Type 0 where
  pub come : HasCome rem input chunks
  pub count : k ≡ length (input_records come.front)
  pub none : EndsNoRecord (held_text chunks)

-- nothing came of their text yet
abbrev pub AreNew : {R : Type 0} → Chunks R → Type 0
AreNew c = IsNew c.reader × (held_text c ≡ [])

-- of a run over new chunks: so it is with each input that their reader may have
abbrev pub OfInput : {R : Type 0} → (R → Option (List ℕ)) → Chunks R → Chunks R → (List ℕ → Type 0) → Type 0
OfInput rem old new holds = AreNew old → (input : List ℕ) → MayHave rem input old.reader new.reader → holds input
