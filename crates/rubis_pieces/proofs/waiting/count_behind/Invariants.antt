use Rattle.rubis_pieces.proofs.Common.{◌≡◌, ◌*◌, ◌≤◌, length, take, cores}
use Rattle.rubis_pieces.specs.Following.{parts_behind}
use Rattle.rubis_pieces.proofs.waiting.count_behind.Given as goal

abbrev pub invariant-loop-place : goal.invariant-loop-place
invariant-loop-place l =
    (l.parts ≡ parts_behind (length l.stops) l.stops l.from (cores (take l.place l.batch))) × (l.parts ≤ 3 * l.place)
