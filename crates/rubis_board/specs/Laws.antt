-- Every step keeps the rule, and does to the board what its event does to the posted list of the schedule machine.
use Rattle.std.specs.Prelude.{◌≡◌, ℕ, ◌<◌, List, [], ◌∷◌, ◌++◌}
use Rattle.crossbeam_queue.specs.Fifo.{Pushes, Pops, Forks, Merges}
use Rattle.rubis_pieces.specs.declared.pieces.Piece.{Piece}
use Rattle.rubis_pieces.specs.Pieces.{Move, Moves, MovesAll}
use Rattle.rubis_pieces.specs.Pieces.Move.{Posted, Taken}
use Rattle.rubis_board.specs.declared.rule.PassView.{PassView}
use Rattle.rubis_board.specs.declared.rule.Item.{Item}
use Rattle.rubis_board.specs.declared.rule.Item.TheVariants.{Work, Mark}
use Rattle.rubis_board.specs.Rule.{Ruled, first_view, spent, posting, content, HasPosted, HasTaken, HasMarked, split_view, new_view, both}

-- each step keeps the rule, whatever the queue holds and whatever the other passes know
pub record StepsKeepTheRule : Type 0 where
  pub opening : Ruled [] (first_view ∷ [])
  pub post : (room place : ℕ) (v : PassView) (p : Piece) → v ≡ posting v.posted
      → Pushes Ruled room place v (Work p) (HasPosted v (Work p))
  pub take : (place : ℕ) (v : PassView) → 0 < v.parts → Pops Ruled place v (HasTaken v)
  pub mark : (room place : ℕ) (v : PassView) → 0 < v.parts → Pushes Ruled room place v Mark (HasMarked v Mark)
  pub split : (place : ℕ) (v : PassView) → 1 < v.parts → Forks Ruled place v (split_view v) (new_view v)
  pub join : (place : ℕ) (v : PassView) (other : ℕ) (u : PassView) → 0 < v.parts → 0 < u.parts
      → Merges Ruled place v other u (both v u) spent

-- what is done to the queue: an item is pushed, and is then its last, or the first is popped
pub data QueueStep : Type 0 where
  Pushed : Item → QueueStep
  Popped : Item → QueueStep

abbrev pub Steps : List Item → QueueStep → List Item → Type 0
Steps before (Pushed item) after = after ≡ before ++ item ∷ []
Steps before (Popped item) after = before ≡ item ∷ after

abbrev pub StepsAll : List Item → List QueueStep → List Item → Type 0
StepsAll before [] after = before ≡ after
StepsAll before (step ∷ steps) after = (between : List Item) × Steps before step between × StepsAll between steps after

-- how it moves what is on the board: a mark doesn't
abbrev pub moves_of : List QueueStep → List Move
moves_of [] = []
moves_of (Pushed (Work p) ∷ steps) = Posted p ∷ moves_of steps
moves_of (Pushed Mark ∷ steps) = moves_of steps
moves_of (Popped (Work p) ∷ steps) = Taken p ∷ moves_of steps
moves_of (Popped Mark ∷ steps) = moves_of steps

-- a post puts its piece last on the board, and a take takes the first one off it, as the posted list of the schedule machine
-- changes; marks change nothing
pub record StepsMoveThePosted : Type 0 where
  pub post : (items : List Item) (p : Piece) → Moves (content items) (Posted p) (content (items ++ Work p ∷ []))
  pub take : (items : List Item) (p : Piece) → Moves (content (Work p ∷ items)) (Taken p) (content items)
  pub mark : (items : List Item) → content (items ++ Mark ∷ []) ≡ content items
  pub take_mark : (items : List Item) → content (Mark ∷ items) ≡ content items
  -- whatever is pushed and popped, one after the other
  pub all : (before : List Item) (steps : List QueueStep) (after : List Item) → StepsAll before steps after
      → MovesAll (content before) (moves_of steps) (content after)
