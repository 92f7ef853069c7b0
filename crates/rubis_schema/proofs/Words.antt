-- A number that is written in eight bytes is read back.
use Rattle.std.proofs.Common.{◌≡◌, ℕ, ◌<◌, ◌^◌}
use Rattle.std.specs.Hash.{le_bytes}
use Rattle.std.specs.Int.{from_le_bytes, w64}
use Rattle.std.proofs.lemmas.Nat.{from_le_bytes-to_le_bytes_8}

pub word_read : (n : ℕ) → n < 2 ^ 64 → from_le_bytes w64 (le_bytes 8 n) ≡ n
unfolding le_bytes
word_read n small = from_le_bytes-to_le_bytes_8 n small
