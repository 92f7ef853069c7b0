-- What the workers make of the pieces, and what the shards are afterwards.
use Rattle.std.specs.Prelude.{◌≡◌, ℕ, ◌≤◌, Bool, List, [], length, ◌+◌, map, vec_len}
use Rattle.std.specs.Global.{Vec}
use Rattle.std.specs.Vec.{vec_capacity}
use Rattle.rubis_model.specs.Log.{Core}
use Rattle.rubis_shard.specs.States.{ShardState}
use Rattle.rubis_shard.specs.declared.shares.Share.{Share}
use Rattle.rubis_pieces.specs.Batches.{AreShares, AreFoldedTo, AreUnfinished, IsBegun, LeavesNoMore, TakesBatch, TakesWholeBatch}
use Rattle.rubis_pieces.specs.declared.pieces.Piece.{Piece}
use Rattle.rubis_pieces.specs.declared.pieces.Done.{Done}
use Rattle.rubis_pieces.specs.declared.pieces.Left.{Left}
use Rattle.rubis_board.specs.Rule.{PassState, opened}
use Rattle.rubis_workers.specs.declared.batches.Worked.{Worked}
use Rattle.std.specs.List.{All, AllZip}
use Rattle.std.specs.List.Sorted.{IsPermutation}
use Rattle.rubis_shard.specs.Holdings.{AreInOrder}
use Rattle.rubis_pieces.specs.Following.{IsFollowed}
use Rattle.rubis_workers.specs.declared.following.ShardBoard.{ShardBoard}

-- the pass, when it has taken these pieces
abbrev pub having : PassState → List Piece → Bool → PassState
having p taken seen_none =
    record { board = p.board; parts = p.parts; posted = p.posted; taken = taken; seen_none = seen_none }

-- an empty list with room for at least `many`
abbrev pub IsRoom : ℕ → Vec Done → Type 0
IsRoom many room = (room.items ≡ []) × (many ≤ vec_capacity room)

-- Each shard in its place, a beginning of its share folded on it; and in order those shares that aren't folded whole, with
-- how much of each is.
abbrev pub AreWorked : List ShardState → List Share → Worked → Type 0
AreWorked shards shares worked = AreFoldedTo shards shares (record { shards = worked.shards; left = worked.left })

-- a batch is applied to the shards as far as memory went, and `left` has the rest
pub record IsAppliedTo (first : ℕ) (batch : List Core) (old new : List ShardState) (left : List Left) : Type 0 where
  -- a beginning of each share of the batch is folded on its shard
  pub begun : IsBegun first batch old new left
  pub unfinished : AreUnfinished 0 (length old) left
  -- shards that hold a log come to hold it with the batch, but for what is left
  pub log : TakesBatch first batch old new left
  -- and wholly, where nothing is left
  pub whole : TakesWholeBatch first batch old new left
  -- no more is left than the batch has; where all of it is, the shards are as they were
  pub count : LeavesNoMore batch old new left

-- where the shares are those of a batch, whatever batch that is, it is applied
abbrev pub AppliesBatch : List ShardState → List Share → Worked → Type 0
AppliesBatch old shares worked = (first : ℕ) (batch : List Core) → AreShares (length old) first batch shares
    → IsAppliedTo first batch old worked.shards worked.left

-- ---- shards that workers take off a board with no shares, each to have the parts of a batch folded on it that are at home there

-- the shard with no parts for it
abbrev pub bare : ShardState → Piece
bare s = record { shard = s; share = record { number = s.number; effects = [] } }

-- its parts of the first messages of the batch are folded on the shard, as many as are done
abbrev pub IsFollowedOn : ℕ → List Core → Piece → Done → Type 0
IsFollowedOn first batch p d = IsFollowed first batch p.shard d.done d.shard

-- the shards of a set are posted, and there is room for what is done with each, whichever of that many workers takes it
pub record IsOpened (ss : List ShardState) (n : ℕ) (b : ShardBoard) : Type 0 where
  pub pass : b.pass ≡ opened b.board b.pass.posted
  pub posted : IsPermutation (map bare ss) b.pass.posted
  pub many : length b.pass.posted ≡ length ss
  pub mine : IsRoom (length ss) b.mine
  pub others : All (IsRoom (length ss)) b.others.items
  pub workers : vec_len b.others + 1 ≡ n
  pub places : b.places ≡ length ss
  pub dones : (b.dones.items ≡ []) × (length ss ≤ vec_capacity b.dones)

-- the shards of a set were posted, and the list says how far the batch is folded on each that was taken
pub record HasFollowed (first : ℕ) (batch : List Core) (ss : List ShardState) (p : PassState) (list : List Done) : Type 0 where
  pub order : AreInOrder ss
  pub posted : IsPermutation (map bare ss) p.posted
  pub worked : AllZip (IsFollowedOn first batch) p.taken list
