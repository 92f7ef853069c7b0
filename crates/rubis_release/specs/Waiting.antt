-- The slots of the messages that wait: by id, in arrival order, and empty where one was taken out.
use Rattle.std.specs.Prelude.{◌≡◌, ℕ, ◌+◌, ◌≤◌, ⊤, List, [], ◌∷◌, length, Option, None, Some, slice_get, min, Bool, false, is_some}
use Rattle.std.specs.List.{IsDistinct, remove}
use Rattle.std.specs.Map.{keys_of}
use Rattle.rubis_schema.specs.Keys.{same_id}
use Rattle.rubis_schema.specs.declared.ids.Id.{Id}
use Rattle.rubis_clock.specs.Clocks.{MessageCounts, IsReady}
use Rattle.rubis_message.specs.Message.{Message}
use Rattle.rubis_release.specs.Release.{IsFirst, NoneReady}

-- the waiting messages' slots, by id, in arrival order; empty where the message was released
abbrev pub Slots : Type 0
Slots = List (Id × Option Message)

abbrev pub put_some : Option Message → List Message → List Message
put_some None ms = ms
put_some (Some m) ms = m ∷ ms

-- those that wait, in arrival order
abbrev pub somes : Slots → List Message
somes [] = []
somes (e ∷ es) = put_some e.1 (somes es)

abbrev pub IsItsSlot : Id → Option Message → Type 0
IsItsSlot k None = ⊤
IsItsSlot k (Some m) = m.stamp.id ≡ k

-- each stands at its own id
abbrev pub HaveTheirIds : Slots → Type 0
HaveTheirIds [] = ⊤
HaveTheirIds (e ∷ es) = IsItsSlot e.0 e.1 × HaveTheirIds es

-- no two slots have one id
abbrev pub AreApart : Slots → Type 0
AreApart es = IsDistinct same_id (keys_of es)

-- each message is in the slot of its id, ids differ, and this many slots are empty
pub record AreSlots (es : Slots) (empty : ℕ) : Type 0 where
  pub own : HaveTheirIds es
  pub apart : AreApart es
  pub gone : length (somes es) + empty ≡ length es

-- of one site, a message in a slot that is ready
pub record IsReadySlot (clock : MessageCounts) (es : Slots) (at : ℕ) : Type 0 where
  pub key : Id
  pub message : Message
  pub there : slice_get es at ≡ Some (key, Some message)
  pub ready : IsReady clock message.stamp

-- the slot has no message that is ready
abbrev pub HasNoReady : MessageCounts → Slots → ℕ → Type 0
HasNoReady clock es at = (k : Id) (m : Message) → slice_get es at ≡ Some (k, Some m) → IsReady clock m.stamp → ⊥

-- each that is ready, of the sites that pass, is in that slot or after it
abbrev pub NoSlotBefore : MessageCounts → Slots → (ℕ → Type 0) → ℕ → Type 0
NoSlotBefore clock es Passes at = (i : ℕ) (k : Id) (m : Message) → slice_get es i ≡ Some (k, Some m) → IsReady clock m.stamp → Passes m.stamp.id.site → at ≤ i

abbrev pub NoSlotOf : MessageCounts → Slots → (ℕ → Type 0) → Type 0
NoSlotOf clock es Passes = (i : ℕ) (k : Id) (m : Message) → slice_get es i ≡ Some (k, Some m) → IsReady clock m.stamp → Passes m.stamp.id.site → ⊥

-- the first that is ready, of the sites that pass, if one is
abbrev pub IsFirstOf : MessageCounts → Slots → (ℕ → Type 0) → Option ℕ → Type 0
IsFirstOf clock es Passes None = NoSlotOf clock es Passes
IsFirstOf clock es Passes (Some at) = IsReadySlot clock es at × NoSlotBefore clock es Passes at

-- what `take_ready` does: nothing where none is ready
abbrev pub NoneTaken : MessageCounts → List Message → List Message → Type 0
NoneTaken clock old new = NoneReady clock old × (new ≡ old)

-- and else it takes the first that is
pub record TakesFirstReady (clock : MessageCounts) (old : List Message) (m : Message) (new : List Message) : Type 0 where
  pub at : ℕ
  pub first : IsFirst clock old at
  pub message : slice_get old at ≡ Some m
  pub rest : new ≡ remove old at

-- the lesser of two places, where there are two
abbrev pub lesser_place : Option ℕ → Option ℕ → Option ℕ
lesser_place None b = b
lesser_place (Some i) None = Some i
lesser_place (Some i) (Some j) = Some (min i j)

-- a slot is there and has a message
abbrev pub is_there : Option (Option Message) → Bool
is_there None = false
is_there (Some v) = is_some v
