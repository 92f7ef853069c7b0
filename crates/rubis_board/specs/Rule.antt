-- The rule of the board: what is so of the queue and of all passes, before and after every step, and what a contract sees of them.
use Rattle.std.specs.Prelude.{◌≡◌, ℕ, ◌+◌, ◌-◌, ◌≤◌, ◌<◌, ◌||◌, ⊤, Bool, true, false, List, [], ◌∷◌, ◌++◌, refl}
use Rattle.std.specs.List.Sorted.{IsPermutation}
use Rattle.rubis_pieces.specs.declared.pieces.Piece.{Piece}
use Rattle.rubis_board.specs.declared.rule.PassView.{PassView}
use Rattle.rubis_board.specs.declared.rule.Item.{Item}
use Rattle.rubis_board.specs.declared.rule.Item.TheVariants.{Work, Mark}
use Rattle.atomic_table.specs.Seated.{TableId, table_id_coded}
use Rattle.crossbeam_queue.specs.Passes.{Pass, view}
use Rattle.std.specs.Coded.{Coded, code_by, coded×, coded_ℕ, coded_bool, coded_list}
use Rattle.rubis_pieces.specs.contracts.pieces.Piece as piece

-- ---- what a pass knows

abbrev pub view_of : ℕ → List Piece → List Piece → Bool → ℕ → PassView
view_of parts posted taken seen_none marks =
    record { parts = parts; posted = posted; taken = taken; seen_none = seen_none; marks = marks }

-- the poster's, when nothing is posted yet
abbrev pub first_view : PassView
first_view = view_of 16 [] [] false 0

-- that of a pass that was joined to another
abbrev pub spent : PassView
spent = view_of 0 [] [] false 0

-- ---- the queue

-- what is on the board: the pieces of the queue
abbrev pub content : List Item → List Piece
content [] = []
content (Work p ∷ items) = p ∷ content items
content (Mark ∷ items) = content items

abbrev pub marks_in : List Item → ℕ
marks_in [] = 0
marks_in (Work p ∷ items) = marks_in items
marks_in (Mark ∷ items) = marks_in items + 1

-- no piece follows a mark
abbrev pub MarksAreLast : List Item → Type 0
MarksAreLast [] = ⊤
MarksAreLast (Work p ∷ items) = MarksAreLast items
MarksAreLast (Mark ∷ items) = (content items ≡ []) × MarksAreLast items

-- ---- all passes

-- what a number of each pass adds up to
abbrev pub sum_over : (PassView → ℕ) → List PassView → ℕ
sum_over f [] = 0
sum_over f (v ∷ views) = f v + sum_over f views

-- the taken lists, one after the other
abbrev pub all_taken : List PassView → List Piece
all_taken [] = []
all_taken (v ∷ views) = v.taken ++ all_taken views

abbrev pub Each : (PassView → Type 0) → List PassView → Type 0
Each P [] = ⊤
Each P (v ∷ views) = P v × Each P views

-- ---- the rule

-- a pass fits what was posted and what of it is still on the board
pub record AgreesWith (posted rest : List Piece) (v : PassView) : Type 0 where
  -- it has a part, or it was joined to another
  pub idle : v.parts ≡ 0 → v ≡ spent
  pub common : 0 < v.parts → v.posted ≡ posted
  pub empty : v.seen_none ≡ true → rest ≡ []

-- the rule of a board: what the queue's items and what all passes know have to do with each other
pub record Ruled (items : List Item) (views : List PassView) : Type 0 where
  -- all passes have one list of posted pieces; what is on the board is a suffix of it
  pub posted : List Piece
  pub before : List Piece
  pub suffix : posted ≡ before ++ content items
  -- the taken lists together hold the pieces before that suffix, each once
  pub taken : IsPermutation before (all_taken views)
  -- the parts of all passes add up to 16
  pub parts : sum_over (λ v. v.parts) views ≡ 16
  -- if a pass has seen None, the suffix is empty
  pub each : Each (AgreesWith posted (content items)) views
  -- no piece follows a mark, and each mark was put there by a pass
  pub marks_last : MarksAreLast items
  pub marks_few : marks_in items ≤ sum_over (λ v. v.marks) views

-- ---- the steps

-- the taken pieces are among the posted ones, each counted
abbrev pub IsPartOf : List Piece → List Piece → Type 0
IsPartOf taken posted = (rest : List Piece) × IsPermutation posted (taken ++ rest)

-- a pass that may post: it has all parts, took nothing and has not seen None
abbrev pub posting : List Piece → PassView
posting posted = view_of 16 posted [] false 0

-- a piece is posted
abbrev pub HasPosted : PassView → Item → PassView → Type 0
HasPosted v item w = w ≡ view_of v.parts (v.posted ++ content (item ∷ [])) v.taken v.seen_none v.marks

-- the pass put a mark into the queue
abbrev pub HasMarked : PassView → Item → PassView → Type 0
HasMarked v item w = w ≡ view_of v.parts v.posted v.taken v.seen_none (v.marks + 1)

-- the pass took a piece, which it can't once it has seen None; or it took a mark, and so has seen None
abbrev pub HasTaken : PassView → Item → PassView → Type 0
HasTaken v (Work p) w =
    (v.seen_none ≡ false) × (w ≡ view_of v.parts v.posted (v.taken ++ p ∷ []) false v.marks)
    × IsPartOf (v.taken ++ p ∷ []) v.posted
HasTaken v Mark w = w ≡ view_of v.parts v.posted v.taken true v.marks

-- a split: the first pass gives one part to a second one, which took nothing and has not seen None
abbrev pub split_view : PassView → PassView
split_view v = view_of (v.parts - 1) v.posted v.taken v.seen_none v.marks

abbrev pub new_view : PassView → PassView
new_view v = view_of 1 v.posted [] false 0

-- a join
abbrev pub both : PassView → PassView → PassView
both v u = view_of (v.parts + u.parts) v.posted (v.taken ++ u.taken) (v.seen_none || u.seen_none) (v.marks + u.marks)

-- what a pass took was posted; if it has all parts and has seen None, it took all that was posted
pub record Knows (v : PassView) : Type 0 where
  pub part : IsPartOf v.taken v.posted
  pub whole : v.parts ≡ 16 → v.seen_none ≡ true → IsPermutation v.posted v.taken

-- ---- what a contract sees of a poster and of a pass, and how each call changes its pass

-- a board to which pieces are posted
pub record PosterState : Type 0 where
  pub capacity : ℕ
  pub posted : List Piece

-- a pass of an open board
pub record PassState : Type 0 where
  pub board : TableId
  pub parts : ℕ
  pub posted : List Piece
  pub taken : List Piece
  pub seen_none : Bool

-- the pass of a board that was just opened: it has all parts, took nothing and has not seen None
abbrev pub opened : TableId → List Piece → PassState
opened board posted = record { board = board; parts = 16; posted = posted; taken = []; seen_none = false }

-- a split: the first pass keeps its list and what it has seen, and gives one part away
abbrev pub one_part_less : PassState → PassState
one_part_less p = record { board = p.board; parts = p.parts - 1; posted = p.posted; taken = p.taken; seen_none = p.seen_none }

-- the second one has it, took nothing and has not seen None
abbrev pub new_part : PassState → PassState
new_part p = record { board = p.board; parts = 1; posted = p.posted; taken = []; seen_none = false }

-- a join puts lists and parts together; it has seen None where either had
abbrev pub joined_pass : PassState → PassState → PassState
joined_pass p q =
    record {
      board = p.board;
      parts = p.parts + q.parts;
      posted = p.posted;
      taken = p.taken ++ q.taken;
      seen_none = p.seen_none || q.seen_none;
    }

-- a piece is put last in the list of the pass that took it
abbrev pub after_piece : PassState → Piece → PassState
after_piece p piece =
    record { board = p.board; parts = p.parts; posted = p.posted; taken = p.taken ++ piece ∷ []; seen_none = false }

-- a pass has seen None
abbrev pub after_none : PassState → PassState
after_none p = record { board = p.board; parts = p.parts; posted = p.posted; taken = p.taken; seen_none = true }

-- ---- what a pass of the queue says of itself

abbrev pub known : Pass Item PassView → PassView
known seat = view seat

abbrev pub board_state : Pass Item PassView → PassState
board_state seat =
    record {
      board = seat.table_id;
      parts = (known seat).parts;
      posted = (known seat).posted;
      taken = (known seat).taken;
      seen_none = (known seat).seen_none;
    }

-- ---- what a contract sees of a poster and of a pass, as plain data, by which proofs tell them apart

abbrev pub pieces_code : Coded (List Piece)
pieces_code = coded_list piece.the_row.coded

abbrev pub poster_code : Coded PosterState
poster_code =
    code_by (ℕ × List Piece) (coded× coded_ℕ pieces_code) (λ p. (p.capacity, p.posted))
    (λ c. record { capacity = c.0; posted = c.1 }) (λ _. refl)

abbrev pub pass_code : Coded PassState
pass_code =
    code_by (TableId × (ℕ × (List Piece × (List Piece × Bool))))
    (coded× table_id_coded (coded× coded_ℕ (coded× pieces_code (coded× pieces_code coded_bool))))
    (λ p. (p.board, (p.parts, (p.posted, (p.taken, p.seen_none)))))
    (λ c. record { board = c.0; parts = c.1.0; posted = c.1.1.0; taken = c.1.1.1.0; seen_none = c.1.1.1.1 }) (λ _. refl)
