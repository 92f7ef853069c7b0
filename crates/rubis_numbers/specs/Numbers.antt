-- What a number is read from: its one text.
use Rattle.std.specs.Prelude.{◌≡◌, ℕ, ◌-◌, ◌==◌, ◌&&◌, Bool, cond, nat_lt, nat_le, ℤ, pos, negsuc, List, drop, slice_index, Option, Some}
use Rattle.std.specs.Prelude.{None, option_map, option_and_then, bytes_eq, decimal}
use Rattle.std.specs.Str.Parse.{digits_value}
use Rattle.rubis_numbers.specs.declared.numbers.TheConstants.{RATING_MAX}

-- what fits is read back from its text, and nothing else is read
pub record IsField {A : Type 0} (Fits : A → Type 0) (text : A → List ℕ) (read : List ℕ → Option A) : Type 0 where
  pub back : (x : A) → Fits x → read (text x) ≡ Some x
  pub only : (field : List ℕ) (x : A) → read field ≡ Some x → Fits x × (field ≡ text x)

infixl 10 ◌>>=◌
abbrev pub ◌>>=◌ : {A B : Type 0} → Option A → (A → Option B) → Option B
o >>= next = option_and_then next o

-- the value, if the test holds
abbrev pub only_if : {A : Type 0} → Bool → A → Option A
only_if test x = cond test (Some x) None

-- the number that is written so, without leading zeros, up to the greatest
unfoldable pub number_of : ℕ → List ℕ → Option ℕ
number_of high field = only_if (nat_le (digits_value 10 field) high && bytes_eq field (decimal (digits_value 10 field))) (digits_value 10 field)

-- a rating below 0, by what follows its `-`
unfoldable pub below_zero_of : List ℕ → Option ℤ
below_zero_of digits = do
  size ← number_of RATING_MAX digits
  only_if (nat_lt 0 size) (negsuc (size - 1))

-- a rating: a `-` stands in front of those below 0, and of no other
unfoldable pub rating_of : List ℕ → Option ℤ
rating_of field = cond (slice_index field 0 == 45) (below_zero_of (drop 1 field)) (option_map pos (number_of RATING_MAX field))
