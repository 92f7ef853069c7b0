use Rattle.rubis_pieces.proofs.Common.{◌≡◌, take, cores, share, with_parts}
use Rattle.rubis_pieces.proofs.following.follow.Given as goal

abbrev pub invariant-loop-place : goal.invariant-loop-place
invariant-loop-place l = l.shard ≡ with_parts l.fn.shard (share l.fn.shard.shards l.first (cores (take l.place l.batch)) l.fn.shard.number)
