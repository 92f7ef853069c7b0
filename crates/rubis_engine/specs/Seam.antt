-- What came from a reader, and the texts of which it is the front.
use Rattle.std.specs.Prelude.{◌≡◌, ◌++◌, ◌⊎◌, [], ℕ, List, Option, Some, drop, false, length, true}
use Rattle.rubis_engine.specs.declared.seam.Incoming.{Incoming}

-- what came is the front of this text, and all of it once the reader gave nothing
pub record IsTextOf {R : Type 0} (text : List ℕ) (s : Incoming R) : Type 0 where
  pub rest : List ℕ
  pub parts : text ≡ s.came.bytes ++ rest
  pub ended : s.is_ended ≡ true → rest ≡ []

-- what is left of a text, by what came of it
abbrev pub left : {R : Type 0} → List ℕ → Incoming R → Option (List ℕ)
left text s = Some (drop (length s.came.bytes) text)

-- the same where it is known what the reader has: just the rest of this text
pub record IsKnownText {R : Type 0} (rem : R → Option (List ℕ)) (text : List ℕ) (s : Incoming R) : Type 0 where
  pub is : IsTextOf text s
  pub known : rem s.reader ≡ Some is.rest

-- ---- what is said of a reader's text, whichever it is

-- what is left of it, by what came
abbrev pub Lefts : Type 0 → Type 0
Lefts R = Incoming R → Option (List ℕ)

-- so it is with each text of which what came now is the front: what had come before is too, and `holds` is said by what is left. A text
-- that was known is known
pub record OfEach {R : Type 0} (rem : R → Option (List ℕ)) (old new : Incoming R) (holds : Lefts R → Type 0) : Type 0 where
  pub known : (text : List ℕ) → IsKnownText rem text old → IsKnownText rem text new
  pub each : (text : List ℕ) → IsTextOf text new → IsTextOf text old × holds (left text)

-- nothing came yet
abbrev pub IsNew : {R : Type 0} → Incoming R → Type 0
IsNew s = (s.came.bytes ≡ []) × (s.is_ended ≡ false)

-- a text that the reader may have, which was new: the one that it is known to have, or one of which what came is the front
abbrev pub MayHave : {R : Type 0} → (R → Option (List ℕ)) → List ℕ → Incoming R → Incoming R → Type 0
MayHave rem text old new = (rem old.reader ≡ Some text) ⊎ IsTextOf text new
