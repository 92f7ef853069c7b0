-- Counts in one row and in two.
use Rattle.std.specs.Prelude.{◌≡◌, ℕ, ◌-◌, ◌≤◌, List, ◌++◌, length, take, replicate, ◌+◌, ◌*◌, ◌/◌, ◌%◌, [], ◌∷◌}
use Rattle.rubis_schema.specs.declared.limits.TheConstants.{COUNTED_MAX}

-- with zeros after them, so that the row is full
abbrev pub filled : List ℕ → List ℕ
filled counts = counts ++ replicate (COUNTED_MAX - length counts) 0

-- the first `used` of the row are in use, and zeros follow them
pub record IsFilled (row : List ℕ) (used : ℕ) : Type 0 where
  pub few : used ≤ COUNTED_MAX
  pub behind : filled (take used row) ≡ row
  pub counted : length (take used row) ≡ used

pub filled_take : (row : List ℕ) (used : ℕ) → IsFilled row used → filled (take used row) ≡ row
filled_take row used h = h.behind

pub length_take_filled : (row : List ℕ) (used : ℕ) → IsFilled row used → length (take used row) ≡ used
length_take_filled row used h = h.counted

-- ---- counts in two rows: the lower 16 bits of each, and the four bits above them, two counts to a byte

-- two numbers below 16 from each byte
abbrev pub halves : List ℕ → List ℕ
halves [] = []
halves (pair ∷ pairs) = (pair % 16) ∷ (pair / 16) ∷ halves pairs

-- each count from its two parts
abbrev pub joined_counts : List ℕ → List ℕ → List ℕ
joined_counts [] high = []
joined_counts (l ∷ low) [] = []
joined_counts (l ∷ low) (h ∷ high) = (l + 65536 * h) ∷ joined_counts low high

-- the counts that are packed in two rows: their lower 16 bits, and what is above these, two in each byte
abbrev pub counts_of : List ℕ → List ℕ → List ℕ
counts_of low pairs = joined_counts low (halves pairs)
