-- A list of fields that lie in one buffer, each with a comma before it, and what is appended where there is room for it.
use Rattle.std.specs.Prelude.{◌≡◌, ◌==◌, ◌||◌, ◌<◌, ◌-◌, ◌+◌, Bool, ℕ, List, [], ◌∷◌, take, drop, length, not, ◌≤◌, true, cond, ◌++◌, vec_len, vec_capacity}
use Rattle.std.specs.List.{flat_map, list_all, list_any}
use Rattle.std.specs.Global.{Vec}

-- a record, or a row: its fields, each a list of bytes
abbrev pub Fields : Type 0
Fields = List (List ℕ)

-- the byte `,`
abbrev pub comma : ℕ
comma = 44

-- the pieces of a buffer that end at these places, each after one comma; the first follows the place `before`
abbrev pub pieces : ℕ → List ℕ → List ℕ → List (List ℕ)
pieces before [] bytes = []
pieces before (end ∷ ends) bytes = take (end - (before + 1)) (drop (before + 1) bytes) ∷ pieces end ends bytes

-- there is a comma before each of these places, and the last is the size of the buffer
abbrev pub Fills : ℕ → List ℕ → ℕ → Type 0
Fills before [] size = before ≡ size
Fills before (end ∷ ends) size = (before < end) × Fills end ends size

-- the fields, each with a comma before it
abbrev pub joined : List (List ℕ) → List ℕ
joined fields = flat_map (λ field. comma ∷ field) fields

-- the buffer has its pieces, with the commas, and nothing else
pub record IsLaidOut (ends bytes : List ℕ) : Type 0 where
  pub fills : Fills 0 ends (length bytes)
  pub commas : bytes ≡ joined (pieces 0 ends bytes)

-- a byte that calls for quotes: a comma, a quote or a line end
abbrev pub is_mark : ℕ → Bool
is_mark b = (b == comma) || (b == 34) || (b == 13) || (b == 10)

-- no byte of the field calls for quotes
abbrev pub is_plain : List ℕ → Bool
is_plain field = not (list_any is_mark field)

-- no field has a byte that calls for quotes
abbrev pub all_plain : List (List ℕ) → Bool
all_plain fields = list_all is_plain fields

-- ---- a row of fields that call for no quotes, written from its last field to its first

-- the fields, and how many bytes there is still room for, where each field takes a comma besides
pub record PlainRow : Type 0 where
  pub fields : List (List ℕ)
  pub left : ℕ

-- what stands before the first comma of a text, and after it the fields between commas
pub record TextFields : Type 0 where
  pub front : List ℕ
  pub fields : List (List ℕ)

-- a byte more in front: a comma ends what stood there as a field
abbrev pub with_byte : ℕ → TextFields → TextFields
with_byte b c = cond (b == comma) (record { front = []; fields = c.front ∷ c.fields }) (record { front = b ∷ c.front; fields = c.fields })

-- a text, read from its last byte to its first
abbrev pub text_fields : List ℕ → TextFields
text_fields [] = record { front = []; fields = [] }
text_fields (b ∷ text) = with_byte b (text_fields text)

-- the fields of a text in which each has a comma before it
abbrev pub fields_in : List ℕ → List (List ℕ)
fields_in text = (text_fields text).fields

-- `size` bytes at most, which have fields that call for no quotes, with a comma before each, and nothing else
pub record IsPlainText (size : ℕ) (bytes : List ℕ) : Type 0 where
  pub fits : length bytes ≤ size
  pub text : bytes ≡ joined (fields_in bytes)
  pub plain : all_plain (fields_in bytes) ≡ true

-- a row of at most `size` bytes that stands in this text
abbrev pub row_of_text : ℕ → List ℕ → PlainRow
row_of_text size text = record { fields = fields_in text; left = size - length text }

-- ---- what is appended where there is room for it

-- the text has these bytes more, in the room that it had
pub record Appends (old : Vec ℕ) (bytes : List ℕ) (new : Vec ℕ) : Type 0 where
  pub text : new.items ≡ old.items ++ bytes
  pub len : vec_len new ≡ vec_len old + length bytes
  pub room : vec_capacity new ≡ vec_capacity old
