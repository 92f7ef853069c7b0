use Rattle.std.proofs.Common.{◌≡◌, ◌+◌, ◌++◌, drop, length}
use Rattle.std.specs.Vec.{vec_capacity, vec_len}
use Rattle.rubis_schema.proofs.spare_room.push_bytes.Given as goal

abbrev pub invariant-loop-byte : goal.invariant-loop-byte
invariant-loop-byte l = (l.text.items ++ drop l.byte-index l.bytes ≡ l.fn.text.items ++ l.bytes)
    × (vec_len l.text + length (drop l.byte-index l.bytes) ≡ vec_len l.fn.text + length l.bytes) × (vec_capacity l.text ≡ vec_capacity l.fn.text)
