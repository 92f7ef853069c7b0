-- What threads do with a board, one thing after the other, and a team whose workers read the parts of a batch from its messages.
use Rattle.std.specs.Prelude.{◌≡◌, ℕ, suc, ◌<◌, ⊤, true, List, [], ◌∷◌, ◌++◌, length, map, take, replicate, fold, Option, Some, None, is_some, slice_get}
use Rattle.std.specs.Prelude.{slice_set, ◌+◌}
use Rattle.rubis_pieces.specs.Pieces.{Move, MovesAll}
use Rattle.rubis_pieces.specs.Pieces.Move.{Posted, Taken}
use Rattle.rubis_pieces.specs.declared.pieces.Piece.{Piece}
use Rattle.rubis_pool_core.specs.declared.event.Event.{Event}
use Rattle.rubis_pool_core.specs.declared.event.Event.TheVariants.{Take, Apply, Back}
use Rattle.rubis_pool_core.specs.Machine.{begun, PoolState, opening_pool, with_posted, stepped, after_event, run_of, IsShareDone}
use Rattle.std.specs.List.Sorted.{IsPermutation}
use Rattle.rubis_model.specs.Log.{Core, share}
use Rattle.rubis_shard.specs.States.{ShardState}
use Rattle.rubis_shard.specs.Holdings.{HoldsLog}
use Rattle.rubis_pieces.specs.Following.{IsFollowed}
use Rattle.rubis_pieces.specs.Batches.{IsWorked}
use Rattle.rubis_pieces.specs.declared.pieces.Done.{Done}
use Rattle.rubis_workers.specs.Work.{bare}
use Rattle.rubis_pool_core.specs.Batches.{FoldsTheBatch, IsAtEnd}

-- a step on the board: a piece is posted, or a worker takes one
pub data BoardStep : Type 0 where
  Posts : Piece → BoardStep
  Takes : ℕ → Piece → BoardStep

-- how it moves what is on the board
abbrev pub move_of : BoardStep → Move
move_of (Posts p) = Posted p
move_of (Takes w p) = Taken p

-- a step on the board; or a worker folds a part of the piece that it took, or gives that piece back
pub data Action : Type 0 where
  OnBoard : BoardStep → Action
  Folds : ℕ → Action
  GivesBack : ℕ → Action

-- the steps on the board alone
abbrev pub board_steps : List Action → List BoardStep
board_steps [] = []
board_steps (OnBoard b ∷ actions) = b ∷ board_steps actions
board_steps (Folds w ∷ actions) = board_steps actions
board_steps (GivesBack w ∷ actions) = board_steps actions

abbrev pub moves_of_team : List Action → List Move
moves_of_team actions = map move_of (board_steps actions)

-- ---- each worker in turn

-- what each worker has in hand: nothing, or a piece, with how many of its parts are still to be folded
abbrev pub Hands : Type 0
Hands = List (Option ℕ)

abbrev pub empty_hands : ℕ → Hands
empty_hands workers = replicate workers None

-- A worker takes a piece only with empty hands, folds a part only where one is left, and gives the piece back once none is.
abbrev pub InTurn : Hands → List Action → Type 0
InTurn hands [] = ⊤
InTurn hands (OnBoard (Posts p) ∷ actions) = InTurn hands actions
InTurn hands (OnBoard (Takes w p) ∷ actions) =
    (slice_get hands w ≡ Some None) × InTurn (slice_set hands w (Some (length p.share.effects))) actions
InTurn hands (Folds w ∷ actions) =
    (left : ℕ) × (slice_get hands w ≡ Some (Some (suc left))) × InTurn (slice_set hands w (Some left)) actions
InTurn hands (GivesBack w ∷ actions) = (slice_get hands w ≡ Some (Some 0)) × InTurn (slice_set hands w None) actions

-- ---- the machine

-- its state after it did the same
abbrev pub after_action : PoolState → Action → PoolState
after_action s (OnBoard (Posts p)) = with_posted s p
after_action s (OnBoard (Takes w p)) = after_event s (Take w)
after_action s (Folds w) = after_event s (Apply w)
after_action s (GivesBack w) = after_event s (Back w)

abbrev pub after_actions : PoolState → List Action → PoolState
after_actions s actions = fold after_action s actions

-- it can do the same: the event is possible, and a Take takes the piece that its worker took off the board
abbrev pub CanDo : PoolState → Action → Type 0
CanDo s (OnBoard (Posts p)) = ⊤
CanDo s (OnBoard (Takes w p)) = (t : PoolState) × (stepped s (Take w) ≡ Some t) × (slice_get t.held w ≡ Some (Some (begun p)))
CanDo s (Folds w) = is_some (stepped s (Apply w)) ≡ true
CanDo s (GivesBack w) = is_some (stepped s (Back w)) ≡ true

-- it can do each when it comes, and after each prefix has posted what is on the board
pub record GoesAlong (s : PoolState) (actions : List Action) : Type 0 where
  pub possible : (n : ℕ) (a : Action) → slice_get actions n ≡ Some a → CanDo (after_actions s (take n actions)) a
  pub posted : (n : ℕ) → MovesAll s.posted (moves_of_team (take n actions)) (after_actions s (take n actions)).posted

-- ---- the laws

-- wherever workers do their own work between steps that a board allows, each in its turn, the machine goes along
abbrev pub EveryRunIsASchedule : Type 0
EveryRunIsASchedule =
    (workers : ℕ) (actions : List Action) (board : List Piece) → InTurn (empty_hands workers) actions
    → MovesAll [] (moves_of_team actions) board → GoesAlong (opening_pool workers) actions

-- each piece is taken by one of the workers
abbrev pub AreTakenBy : ℕ → List BoardStep → Type 0
AreTakenBy workers [] = ⊤
AreTakenBy workers (Posts p ∷ steps) = AreTakenBy workers steps
AreTakenBy workers (Takes w p ∷ steps) = (w < workers) × AreTakenBy workers steps

-- these steps, with the workers' own work between them
pub record IsScheduled (workers : ℕ) (steps : List BoardStep) : Type 0 where
  pub actions : List Action
  pub same_steps : board_steps actions ≡ steps
  pub in_turn : InTurn (empty_hands workers) actions
  pub along : GoesAlong (opening_pool workers) actions

-- whatever steps a board allows, there is a list of actions with these steps with which the machine goes along
abbrev pub EveryListOfStepsIsScheduled : Type 0
EveryListOfStepsIsScheduled =
    (workers : ℕ) (steps : List BoardStep) (board : List Piece) → AreTakenBy workers steps
    → MovesAll [] (map move_of steps) board → IsScheduled workers steps

-- ---- posts come first

-- the events of the workers
abbrev pub events_of : List Action → List Event
events_of [] = []
events_of (OnBoard (Posts p) ∷ actions) = events_of actions
events_of (OnBoard (Takes w p) ∷ actions) = Take w ∷ events_of actions
events_of (Folds w ∷ actions) = Apply w ∷ events_of actions
events_of (GivesBack w ∷ actions) = Back w ∷ events_of actions

abbrev pub posts : List Piece → List Action
posts pieces = map (λ p. OnBoard (Posts p)) pieces

abbrev pub HasNoPost : List Action → Type 0
HasNoPost [] = ⊤
HasNoPost (OnBoard (Posts p) ∷ actions) = ⊥
HasNoPost (OnBoard (Takes w p) ∷ actions) = HasNoPost actions
HasNoPost (Folds w ∷ actions) = HasNoPost actions
HasNoPost (GivesBack w ∷ actions) = HasNoPost actions

-- where all pieces are posted before any is taken, the machine ends as a run of these pieces under these events
abbrev pub PostsFirstAreARun : Type 0
PostsFirstAreARun =
    (workers : ℕ) (pieces : List Piece) (actions : List Action) → HasNoPost actions
    → after_actions (opening_pool workers) (posts pieces ++ actions) ≡ run_of workers pieces (events_of actions)

-- ---- a team whose workers read the parts of a batch from its messages. The pieces on its board carry no parts; each stands for its shard with the share of
-- the batch that is the shard's, and the machine, given these, does what the team does

-- what a piece stands for in a batch whose first message is that entry of the log: its shard with the shard's share
abbrev pub in_batch : ℕ → List Core → Piece → Piece
in_batch first batch p =
    record { shard = p.shard; share = record { number = p.shard.number; effects = share p.shard.shards first batch p.shard.number } }

abbrev pub step_in_batch : ℕ → List Core → BoardStep → BoardStep
step_in_batch first batch (Posts p) = Posts (in_batch first batch p)
step_in_batch first batch (Takes w p) = Takes w (in_batch first batch p)

-- the steps that a team takes on its board, each piece as what it stands for
abbrev pub steps_in_batch : ℕ → List Core → List BoardStep → List BoardStep
steps_in_batch first batch steps = map (step_in_batch first batch) steps

-- ---- the laws

-- whatever steps the board of a team allows, the machine has a schedule with these steps
abbrev pub EveryTeamIsScheduled : Type 0
EveryTeamIsScheduled =
    (workers first : ℕ) (batch : List Core) (steps : List BoardStep) (board : List Piece) → AreTakenBy workers steps
    → MovesAll [] (map move_of steps) board → IsScheduled workers (steps_in_batch first batch steps)

-- wherever the workers of a team fold the parts of their shards between the steps on the board, each in its turn, the machine goes along
abbrev pub EveryRunOfATeamIsASchedule : Type 0
EveryRunOfATeamIsASchedule =
    (workers first : ℕ) (batch : List Core) (steps : List BoardStep) (board : List Piece) (actions : List Action)
    → MovesAll [] (map move_of steps) board → board_steps actions ≡ steps_in_batch first batch steps
    → InTurn (empty_hands workers) actions → GoesAlong (opening_pool workers) actions

-- what a worker makes of a piece straight from the messages is what the machine makes of it part by part: a beginning of the share is
-- folded on the shard, and all of it where the worker came to the end of the batch
abbrev pub FollowingFoldsTheShare : Type 0
FollowingFoldsTheShare =
    (first : ℕ) (batch : List Core) (p : Piece) (messages : ℕ) (shard : ShardState) → IsFollowed first batch p.shard messages shard
    → (d : Done) × (d.shard ≡ shard) × IsWorked (in_batch first batch p) d × (messages ≡ length batch → IsShareDone d)

-- shards that hold a log are posted with no parts, in any order: once all are returned, whatever the schedule, they hold the log with the
-- batch
abbrev pub EveryTeamFoldsTheBatch : Type 0
EveryTeamFoldsTheBatch =
    (shards workers : ℕ) (log batch : List Core) (ts : List ShardState) (posted : List Piece) (events : List Event)
    → HoldsLog shards log ts → IsPermutation (map bare ts) posted
    → IsAtEnd (run_of workers (map (in_batch (1 + length log) batch) posted) events)
    → FoldsTheBatch shards log batch (run_of workers (map (in_batch (1 + length log) batch) posted) events).returned
