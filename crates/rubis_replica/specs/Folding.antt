-- A batch of an intake's log, folded on the shards of a set by a crew, whose jobs are parts of a board.
use Rattle.std.specs.Prelude.{◌≡◌, ℕ, ◌+◌, ◌<◌, ◌≤◌, ⊤, false, true, List, [], ◌∷◌, OnOk, OnErr, Result, length, slice_range, vec_len}
use Rattle.std.specs.Arc.{arc_value}
use Rattle.std.specs.Global.{Vec}
use Rattle.std.specs.Vec.{vec_capacity}
use Rattle.std.specs.List.{All, AllZip}
use Rattle.std.specs.declared.alloc.AllocError.{AllocError}
use Rattle.atomic_table.specs.Seated.{TableId}
use Rattle.rubis_schema.specs.declared.limits.TheConstants.{KEEP_MAX}
use Rattle.rubis_message.specs.Message.{IsMessage, Message}
use Rattle.rubis_model.specs.Log.{Core, cores}
use Rattle.rubis_shard.specs.Holdings.{IsSet, AreHomes}
use Rattle.rubis_shard.specs.States.{ShardState}
use Rattle.rubis_pieces.specs.declared.pieces.Done.{Done}
use Rattle.rubis_pieces.specs.declared.pieces.Piece.{Piece}
use Rattle.rubis_board.specs.Rule.{PassState}
use Rattle.rubis_crew.specs.States.{CrewId, IsBack, LeadState}
use Rattle.rubis_crew.specs.declared.job.Given.{Given}
use Rattle.rubis_workers.specs.Work.{IsFollowedOn, IsRoom, having}
use Rattle.rubis_workers.specs.Logs.{AppliesTo, AppliesWhole}
use Rattle.rubis_workers.specs.declared.team.Teamwork.{Teamwork}
use Rattle.rubis_release.specs.Release.{Intake}
use Rattle.rubis_replica.specs.declared.folding.Span.{Span}
use Rattle.rubis_replica.specs.declared.folding.SharedBatch.{SharedBatch}
use Rattle.rubis_replica.specs.declared.folding.Part.{Part}
use Rattle.rubis_replica.specs.declared.folding.PartDone.{PartDone}

-- ---- a batch

-- the messages of the batch
abbrev pub messages_of : SharedBatch → List Message
messages_of b = slice_range b.intake.state.log b.span.from b.span.upto

-- what they do
abbrev pub cores_of : SharedBatch → List Core
cores_of b = cores (messages_of b)

-- there are such messages in the log
pub record IsSpan (log : List Message) (s : Span) : Type 0 where
  pub on : s.from ≤ s.upto
  pub within : s.upto ≤ length log

-- the batch is one of its log, with the homes of its parts among that many shards
pub record IsBatch (b : SharedBatch) (shards : ℕ) : Type 0 where
  pub span : IsSpan b.intake.state.log b.span
  pub homes : AreHomes shards (cores_of b) b.homes.items

-- the batch is these messages of that intake's log, which are well formed
pub record IsShared (i : Intake) (s : Span) (shards : ℕ) (b : SharedBatch) : Type 0 where
  pub intake : b.intake ≡ i
  pub span : b.span ≡ s
  pub batch : IsBatch b shards
  pub conditions : All IsMessage (messages_of b)

-- ---- a part of a board

-- the shard of the piece is one of a set among which the parts of the batch have their homes
pub record FitsBatch (b : SharedBatch) (p : Piece) : Type 0 where
  pub number : p.shard.number < p.shard.shards
  pub batch : IsBatch b p.shard.shards
  pub few : b.span.from + 1 + length (messages_of b) ≤ KEEP_MAX + 1

-- the shard's parts of the first messages of the batch are folded on it, as many as are done
abbrev pub IsFoldedOn : SharedBatch → Piece → Done → Type 0
IsFoldedOn b p d = IsFollowedOn (b.span.from + 1) (cores_of b) p d

-- the pass is one of that board, took nothing, and the batch fits the pieces
pub record CanShare (board : TableId) (b : SharedBatch) (p : PassState) : Type 0 where
  pub board_is : p.board ≡ board
  pub span : IsSpan b.intake.state.log b.span
  pub pieces : All (FitsBatch b) p.posted
  pub taken : p.taken ≡ []
  pub seen_none : p.seen_none ≡ false

module _ {G : Type 0} where
  -- the part can be worked at
  pub record IsFoldable (x : Part G) : Type 0 where
    pub share : CanShare x.board (arc_value x.batch) x.pass
    pub one : x.pass.parts ≡ 1
    pub room : IsRoom (length x.pass.posted) x.room

  -- what came of it: the batch is folded on the shards that were taken
  pub record ComesOf (x : Part G) (d : PartDone) : Type 0 where
    pub pass : d.pass ≡ having x.pass d.pass.taken d.pass.seen_none
    pub worked : AllZip (IsFoldedOn (arc_value x.batch)) d.pass.taken d.list.items

  -- and no shard was left on the board
  abbrev pub HasFolded : Part G → PartDone → Type 0
  HasFolded x d = ComesOf x d × (d.pass.seen_none ≡ true)

  -- ---- the one who gives parts

  -- it is of that crew, and all that it gave is back
  abbrev pub IsIdle : CrewId → LeadState (Part G) → Type 0
  IsIdle crew l = (l.crew ≡ crew) × (l.given ≡ [])

  -- the part is one of that board, whose pieces those are, and of that batch
  pub record IsOf (board : TableId) (posted : List Piece) (b : SharedBatch) (x : Given (Part G)) : Type 0 where
    pub board_is : x.job.pass.board ≡ board
    pub posted_are : x.job.pass.posted ≡ posted
    pub parts : x.job.pass.parts ≡ 1
    pub batch : arc_value x.job.batch ≡ b

  -- and so is each of them
  abbrev pub AreOf : TableId → List Piece → SharedBatch → List (Given (Part G)) → Type 0
  AreOf board posted b [] = ⊤
  AreOf board posted b (x ∷ xs) = IsOf board posted b x × AreOf board posted b xs

  -- the parts that are given are of the board and the batch of the pass
  pub record AreOut (crew : CrewId) (board : TableId) (b : SharedBatch) (p : PassState) (l : LeadState (Part G)) : Type 0 where
    pub same : l.crew ≡ crew
    pub board_is : p.board ≡ board
    pub given : AreOf board p.posted b l.given

  -- a part that was given is given no more, and this came of it
  abbrev pub ReturnsPart : LeadState (Part G) → PartDone → LeadState (Part G) → Type 0
  ReturnsPart old d new = (x : Given (Part G)) × IsBack old x new × ComesOf x.job d

-- ---- those who work at a board

-- they took all that was there, the list says how far the batch is folded on each shard, and there is room in it for all
pub record HasWorked (b : SharedBatch) (t : Teamwork (Unit {0})) : Type 0 where
  pub seen_none : t.pass.seen_none ≡ true
  pub worked : AllZip (IsFoldedOn b) t.pass.taken t.list.items
  pub room : length t.pass.posted ≤ vec_capacity t.list
  pub others : t.others ≤ vec_len t.list

-- ---- the shards of a set

-- they are a set, among which the batch's parts have their homes
pub record FitsSet (b : SharedBatch) (ss : List ShardState) : Type 0 where
  pub set : IsSet ss
  pub batch : IsBatch b (length ss)
  pub few : b.span.from + 1 + length (messages_of b) ≤ KEEP_MAX + 1

-- ---- the tables

-- there are messages of a log to be applied, and shards to apply them to, with room to note where each stands
pub record CanApply (log : List Message) (s : Span) (ts : List ShardState) (stops : Vec ℕ) : Type 0 where
  pub some_pending : s.from < s.upto
  pub within : s.upto ≤ length log
  pub few : length log ≤ KEEP_MAX
  pub some : 0 < length ts
  pub shards : length ts ≤ 255
  pub room : length ts ≤ vec_capacity stops

-- the messages are applied, whole or as far as memory went, and each shard's stop is noted
pub record IsApplied (log : List Message) (s : Span) (old : List ShardState) (before : Vec ℕ) (new : List ShardState) (stops : Vec ℕ)
    (result : Result (Unit {0}) AllocError) : Type 0 where
  pub ok : OnOk result (AppliesWhole log s.from s.upto old new)
  pub err : OnErr result (AppliesTo log s.from s.upto old new stops.items)
  pub room : vec_capacity stops ≡ vec_capacity before
