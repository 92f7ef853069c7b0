-- Pieces, which are shards with their shares: what work makes of one, and how the list of those that are posted and not yet taken changes.
use Rattle.std.specs.Prelude.{◌≡◌, List, [], ◌∷◌, ◌++◌}
use Rattle.std.specs.List.{All}
use Rattle.rubis_shard.specs.States.{ShardState, IsHomeOf}
use Rattle.rubis_shard.specs.declared.shares.Share.{Share}
use Rattle.rubis_pieces.specs.declared.pieces.Piece.{Piece}

-- the share is the shard's: it has its number, and the key of each part has its home there
pub record IsShareOf (shard : ShardState) (share : Share) : Type 0 where
  pub number : shard.number ≡ share.number
  pub home : All (IsHomeOf shard) share.effects

-- ---- how the list of pieces that are posted and not yet taken changes, move by move. The pieces on the running board, and those that the schedule machine
-- has posted, change by these moves and no others

-- a piece is posted, or taken
pub data Move : Type 0 where
  Posted : Piece → Move
  Taken : Piece → Move

-- one move: a posted piece is appended, and a taken piece was the first
abbrev pub Moves : List Piece → Move → List Piece → Type 0
Moves before (Posted p) after = after ≡ before ++ p ∷ []
Moves before (Taken p) after = before ≡ p ∷ after

-- several moves, one after the other, lead from one list to the other
abbrev pub MovesAll : List Piece → List Move → List Piece → Type 0
MovesAll before [] after = before ≡ after
MovesAll before (m ∷ ms) after = (between : List Piece) × Moves before m between × MovesAll between ms after
