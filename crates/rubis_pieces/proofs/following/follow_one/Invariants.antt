use Rattle.rubis_pieces.proofs.Common.{◌≡◌, length, cores}
use Rattle.rubis_pieces.specs.Following.{GoesTo}
use Rattle.rubis_pieces.proofs.following.follow_one.Given as goal

abbrev pub invariant-loop-place : goal.invariant-loop-place
invariant-loop-place l =
    (length l.tables ≡ length l.fn.tables) × GoesTo l.number l.from l.place (cores l.log) l.fn.tables l.tables
