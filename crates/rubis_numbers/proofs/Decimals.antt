-- What the digits of a number look like.
use Rattle.std.proofs.Common.{◌<◌, ◌^◌, ℕ, length, get_or, decimal}
use Rattle.std.specs.Int.{IsInRange}
use Rattle.std.proofs.lemmas.Fmt.{decimal_is_IsNumeral}
use Rattle.std.proofs.lemmas.Str.Parse.{digit_at}

-- each byte is a digit
pub decimal_at : (n i : ℕ) → n < 2 ^ 64 → i < length (decimal n) → IsInRange 48 57 (get_or (decimal n) i 0)
decimal_at n i h lt = digit_at (decimal n) i (decimal_is_IsNumeral n h).0.1 lt
