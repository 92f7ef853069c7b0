-- What holds after every schedule, and a batch, folded by any.
use Rattle.std.specs.Prelude.{ℕ, ⊤, List, [], ◌∷◌, ◌++◌, Option, Some, None, ◌≡◌, ◌+◌, ◌<◌, length, slice_get}
use Rattle.std.specs.List.{All, AllZip}
use Rattle.std.specs.List.Sorted.{IsPermutation, IsNonDecreasingBy}
use Rattle.rubis_pieces.specs.declared.pieces.Piece.{Piece}
use Rattle.rubis_pieces.specs.declared.pieces.Done.{Done}
use Rattle.rubis_pool_core.specs.declared.event.Event.{Event}
use Rattle.rubis_pieces.specs.Batches.{IsWorked, AreShares, IsFault, numbers_of, IsGathered, pieces_of}
use Rattle.rubis_pool_core.specs.Machine.{IsShareDone, PoolState, opening_pool, with_posted, after_event, run_of}
use Rattle.rubis_shadow.specs.declared.numbered.Misfit.{Misfit}
use Rattle.rubis_model.specs.Log.{Core, fold_of}
use Rattle.rubis_shard.specs.States.{ShardState}
use Rattle.rubis_shard.specs.Holdings.{HoldsLog, all_misfits, union}
use Rattle.rubis_shard.specs.declared.shares.Share.{Share}
use Rattle.rubis_pieces.specs.Misfits.{misfit_order}
use Rattle.rubis_pieces.specs.declared.gathers.FaultKind.{FaultKind}
use Rattle.rubis_pieces.specs.declared.gathers.Gathered.{Gathered}

-- what the workers hold, in the order of workers
abbrev pub present : List (Option Piece) → List Piece
present [] = []
present (Some p ∷ slots) = p ∷ present slots
present (None ∷ slots) = present slots

-- what a worker holds, as it was posted and as it is now
abbrev pub IsWorkedSlot : Option Piece → Option Done → Type 0
IsWorkedSlot None None = ⊤
IsWorkedSlot None (Some d) = ⊥
IsWorkedSlot (Some p) None = ⊥
IsWorkedSlot (Some p) (Some d) = IsWorked p d

-- Each of the pieces is posted, held by one worker or returned, once, and counted: two equal ones are two. The shard of
-- one that is held or returned has a beginning of its share folded on; that of a returned one all of it.
pub record Accounted (pieces : List Piece) (s : PoolState) : Type 0 where
  -- what each worker holds, and what was returned, as it was posted
  pub held : List (Option Piece)
  pub returned : List Piece
  pub once : IsPermutation pieces (s.posted ++ (present held ++ returned))
  pub held_worked : AllZip IsWorkedSlot held s.held
  pub returned_worked : AllZip IsWorked returned s.returned
  pub returned_whole : All IsShareDone s.returned

-- whatever the schedule
abbrev pub EveryScheduleAccounts : Type 0
EveryScheduleAccounts =
    (workers : ℕ) (pieces : List Piece) (events : List Event) → Accounted pieces (run_of workers pieces events)

-- and wherever posts stand between the events
pub record StepsAccount : Type 0 where
  pub opening : (workers : ℕ) → Accounted [] (opening_pool workers)
  pub post : (pieces : List Piece) (s : PoolState) (p : Piece) → Accounted pieces s
      → Accounted (pieces ++ p ∷ []) (with_posted s p)
  pub event : (pieces : List Piece) (s : PoolState) (e : Event) → Accounted pieces s → Accounted pieces (after_event s e)

-- ---- a batch, folded by any schedule

-- nothing is posted, and no worker holds a piece
pub record IsAtEnd (s : PoolState) : Type 0 where
  pub none_posted : s.posted ≡ []
  pub none_held : (w : ℕ) (d : Done) → slice_get s.held w ≡ Some (Some d) → ⊥

-- the gathered shards hold the log with the batch, together they have its tables and its misfits, and nothing is left of
-- their shares
pub record HoldsTheBatch (shards : ℕ) (log batch : List Core) (g : Gathered) : Type 0 where
  pub holds : HoldsLog shards (log ++ batch) g.shards
  pub tables : 0 < shards → union g.shards ≡ (fold_of (log ++ batch)).tables
  pub none_left : g.left ≡ []
  -- their misfits, put in the order of entry and part, are those of the log with the batch
  pub misfits : 0 < shards → (ms : List Misfit) → IsPermutation (all_misfits g.shards) ms → IsNonDecreasingBy misfit_order ms
      → ms ≡ (fold_of (log ++ batch)).misfits

-- the returned pieces can be gathered without fault, and then hold the batch, however they are gathered
pub record FoldsTheBatch (shards : ℕ) (log batch : List Core) (returned : List Done) : Type 0 where
  pub no_fault : (kind : FaultKind) → IsFault shards (numbers_of returned) kind → ⊥
  pub gathered : (g : Gathered) → IsGathered shards returned g → HoldsTheBatch shards log batch g

-- whatever the schedule, at its end
abbrev pub EveryScheduleFoldsTheBatch : Type 0
EveryScheduleFoldsTheBatch =
    (shards workers : ℕ) (log batch : List Core) (ts : List ShardState) (shares : List Share) (events : List Event)
    → HoldsLog shards log ts → AreShares shards (1 + length log) batch shares
    → IsAtEnd (run_of workers (pieces_of ts shares) events)
    → FoldsTheBatch shards log batch (run_of workers (pieces_of ts shares) events).returned
