use Rattle.rubis_workers.proofs.Common.{◌≡◌, ◌+◌, ◌++◌, length, map as each, vec_len, IsPermutation}
use Rattle.rubis_workers.specs.Work.{bare}
use Rattle.rubis_workers.proofs.following.post_bare.Given as goal

abbrev pub invariant-loop : goal.invariant-loop
invariant-loop g l =
    (l.poster.capacity ≡ l.fn.poster.capacity) × (length l.poster.posted + vec_len l.shards ≡ l.fn.poster.capacity)
    × (vec_len l.shards + l.counter ≡ l.end)
    × IsPermutation (each bare l.fn.shards.items) (each bare l.shards.items ++ l.poster.posted)
