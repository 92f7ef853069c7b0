-- The grammar of nicknames, names and texts, and what a single field is read as: its value, or none.
use Rattle.std.specs.Prelude.{◌≡◌, ℕ, ◌-◌, List, ◌++◌, length, replicate, Bool, ◌&&◌, ◌||◌, ◌==◌, nat_le, nat_lt, IsTrue, slice_index, take, ◌+◌, drop}
use Rattle.std.specs.Prelude.{position, Option, Some, option_map}
use Rattle.std.specs.List.{list_all}
use Rattle.rubis_schema.specs.declared.limits.TheConstants.{NICK_MAX, NAME_MAX, TEXT_MAX, SEQ_MAX}
use Rattle.rubis_numbers.specs.Numbers.{◌>>=◌, number_of, only_if}
use Rattle.rubis_schema.specs.declared.ids.Id.{Id}

-- `a` to `z`
abbrev pub is_small_letter : ℕ → Bool
is_small_letter b = nat_le 97 b && nat_le b 122

-- `0` to `9`
abbrev pub is_digit : ℕ → Bool
is_digit b = nat_le 48 b && nat_le b 57

-- a small letter, a digit or `_`
abbrev pub is_nick_byte : ℕ → Bool
is_nick_byte b = is_small_letter b || (is_digit b || (b == 95))

-- from space to `~`
abbrev pub is_printable : ℕ → Bool
is_printable b = nat_le 32 b && nat_le b 126

-- a nickname: 1 to NICK_MAX small letters, digits and `_`, the first a letter
abbrev pub is_nick : List ℕ → Bool
is_nick text = is_small_letter (slice_index text 0) && (nat_le (length text) NICK_MAX && list_all is_nick_byte text)

-- as a statement
abbrev pub IsNick : List ℕ → Type 0
IsNick text = IsTrue (is_nick text)

-- a name: 1 to NAME_MAX printable bytes
abbrev pub is_name : List ℕ → Bool
is_name text = nat_lt 0 (length text) && (nat_le (length text) NAME_MAX && list_all is_printable text)

-- as a statement
abbrev pub IsName : List ℕ → Type 0
IsName text = IsTrue (is_name text)

-- a text: at most TEXT_MAX printable bytes, or none
abbrev pub is_text : List ℕ → Bool
is_text text = nat_le (length text) TEXT_MAX && list_all is_printable text

-- as a statement
abbrev pub IsText : List ℕ → Type 0
IsText text = IsTrue (is_text text)

-- with zeros after it, as many bytes as a nickname can have
abbrev pub padded : List ℕ → List ℕ
padded bytes = bytes ++ replicate (NICK_MAX - length bytes) 0

-- the first `len` of these bytes are a nickname, and zeros follow it
pub record IsPadded (bytes : List ℕ) (len : ℕ) : Type 0 where
  pub nick : IsNick (take len bytes)
  pub behind : padded (take len bytes) ≡ bytes
  pub counted : length (take len bytes) ≡ len

pub padded_take : (bytes : List ℕ) (len : ℕ) → IsPadded bytes len → padded (take len bytes) ≡ bytes
padded_take bytes len h = h.behind

pub length_take_padded : (bytes : List ℕ) (len : ℕ) → IsPadded bytes len → length (take len bytes) ≡ len
length_take_padded bytes len h = h.counted

-- ---- what a single field is read as: its value, or none

-- what stands before the first mark, and what follows it
abbrev pub cut_at : ℕ → List ℕ → Option (List ℕ × List ℕ)
cut_at mark field = option_map (λ place. (take place field, drop (place + 1) field)) (position (λ b. b == mark) field)

-- the number, up to the greatest, that stands before the first mark, and what follows the mark
unfoldable pub number_before : ℕ → ℕ → List ℕ → Option (ℕ × List ℕ)
number_before mark high field = do
  parts ← cut_at mark field
  number ← number_of high parts.0
  Some (number, parts.1)

-- an id whose site is below `sites`: its site and its number, separated by a point
unfoldable pub id_of : ℕ → List ℕ → Option Id
id_of sites field = do
  parts ← cut_at 46 field
  site ← number_of 255 parts.0
  seq ← number_of SEQ_MAX parts.1
  only_if (nat_lt site sites && nat_lt 0 seq) (record { site = site; seq = seq })

-- nicknames, names and texts are what they are written as
unfoldable pub nick_of : List ℕ → Option (List ℕ)
nick_of field = only_if (is_nick field) field

-- the field itself, if it is a name
unfoldable pub name_of : List ℕ → Option (List ℕ)
name_of field = only_if (is_name field) field

-- the field itself, if it is a text
unfoldable pub text_of : List ℕ → Option (List ℕ)
text_of field = only_if (is_text field) field
