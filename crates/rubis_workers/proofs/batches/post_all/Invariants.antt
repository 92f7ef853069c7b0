use Rattle.rubis_workers.proofs.Common.{◌≡◌, ◌+◌, ◌++◌, length, vec_len, IsPermutation, pieces_of}
use Rattle.rubis_workers.proofs.batches.post_all.Given as goal

abbrev pub invariant-loop : goal.invariant-loop
invariant-loop g l =
    (vec_len l.shards ≡ vec_len l.shares) × (l.poster.capacity ≡ l.fn.poster.capacity)
    × (length l.poster.posted + vec_len l.shards ≡ l.fn.poster.capacity) × (vec_len l.shards + l.counter ≡ l.end)
    × IsPermutation (pieces_of l.fn.shards.items l.fn.shares.items) (pieces_of l.shards.items l.shares.items ++ l.poster.posted)
