-- The machine goes along with what threads, and a team, do.
use Rattle.std.proofs.Common.{◌≡◌, ℕ, zero, suc, ◌+◌, ◌-◌, List, [], ◌∷◌, ◌++◌, length, take, refl, sym, ap, ◌∙◌, subst, arith, length-append, drop}
use Rattle.std.specs.Prelude.{Option, Some, None, is_some, slice_get, slice_set, map, option_map}
use Rattle.rubis_pieces.specs.Pieces.{Moves, MovesAll}
use Rattle.rubis_pieces.specs.declared.pieces.Piece.{Piece}
use Rattle.rubis_pieces.specs.declared.pieces.Done.{Done}
use Rattle.rubis_pool_core.specs.declared.event.Event.TheVariants.{Take, Apply, Back}
use Rattle.rubis_pool_core.specs.Machine.{begun, next_part, one_part_more, PoolState, opening_pool, with_posted, taken, applied_to, applied, back_of, backed}
use Rattle.rubis_pool_core.specs.Machine.{stepped, or_same, posted_all, run_from, run_of}
use Rattle.rubis_pool_core.specs.Teams.{BoardStep, move_of, Action, board_steps, moves_of_team, Hands, empty_hands, InTurn, after_action, after_actions, CanDo}
use Rattle.rubis_pool_core.specs.Teams.{GoesAlong, EveryRunIsASchedule, AreTakenBy, EveryListOfStepsIsScheduled, events_of, posts, HasNoPost, PostsFirstAreARun}
use Rattle.rubis_pool_core.specs.Teams.{EveryRunOfATeamIsASchedule, EveryTeamFoldsTheBatch, EveryTeamIsScheduled, FollowingFoldsTheShare, in_batch}
use Rattle.rubis_pool_core.specs.Teams.{step_in_batch, steps_in_batch}
use Rattle.rubis_pool_core.specs.Teams.BoardStep.{Posts, Takes}
use Rattle.rubis_pool_core.specs.Teams.Action.{OnBoard, Folds, GivesBack}
use Rattle.rubis_pool_core.proofs.Hands.{set_now, set_twice, set_same, all_empty, part_there, no_part, AreHandsOf, start_empty, hands_set, free_at, held_at}
use Rattle.rubis_shadow.specs.declared.numbered.Numbered.{Numbered}
use Rattle.rubis_shard.specs.States.{ShardState, with_parts}
use Rattle.std.specs.List.Sorted.{IsPermutation}
use Rattle.std.proofs.lemmas.List.{length-map, map-append, take_all, take-append-drop, take_at}
use Rattle.std.proofs.lemmas.List.Sorted.{IsPermutation-map, IsPermutation-trans}
use Rattle.std.proofs.lemmas.Option.{slice_get-map}
use Rattle.rubis_model.specs.Log.{Core, share}
use Rattle.rubis_shard.proofs.Logs.{share_append}
use Rattle.rubis_workers.specs.Work.{bare}
use Rattle.rubis_pool_core.specs.Batches.{Accounted, present}
use Rattle.rubis_pool_core.proofs.Accounts.{every}
use Rattle.rubis_pool_core.proofs.Batches.{folds_pieces}

-- ---- one action more, in front
possible_more : (s : PoolState) (a : Action) (actions : List Action) → CanDo s a
    → ((n : ℕ) (x : Action) → slice_get actions n ≡ Some x → CanDo (after_actions (after_action s a) (take n actions)) x)
    → (n : ℕ) (x : Action) → slice_get (a ∷ actions) n ≡ Some x → CanDo (after_actions s (take n (a ∷ actions))) x
possible_more s a actions can rest zero x at = let same : a ≡ x = cc in subst (CanDo s) same can
possible_more s a actions can rest (suc n) x at = rest n x at

posted_moved : (s : PoolState) (b : BoardStep) (actions : List Action)
    → Moves s.posted (move_of b) (after_action s (OnBoard b)).posted
    → GoesAlong (after_action s (OnBoard b)) actions
    → (n : ℕ) → MovesAll s.posted (moves_of_team (take n (OnBoard b ∷ actions))) (after_actions s (take n (OnBoard b ∷ actions))).posted
posted_moved s b actions moved rest zero = refl
posted_moved s b actions moved rest (suc n) = ((after_action s (OnBoard b)).posted, moved, rest.posted n)

on_board : (s : PoolState) (b : BoardStep) (actions : List Action) → CanDo s (OnBoard b)
    → Moves s.posted (move_of b) (after_action s (OnBoard b)).posted
    → GoesAlong (after_action s (OnBoard b)) actions → GoesAlong s (OnBoard b ∷ actions)
on_board s b actions can moved rest =
    record {
      possible = possible_more s (OnBoard b) actions can rest.possible;
      posted = posted_moved s b actions moved rest;
    }

posted_kept_by_fold : (s : PoolState) (w : ℕ) (actions : List Action) → (after_action s (Folds w)).posted ≡ s.posted
    → GoesAlong (after_action s (Folds w)) actions
    → (n : ℕ) → MovesAll s.posted (moves_of_team (take n (Folds w ∷ actions))) (after_actions s (take n (Folds w ∷ actions))).posted
posted_kept_by_fold s w actions same rest zero = refl
posted_kept_by_fold s w actions same rest (suc n) =
    subst (λ l. MovesAll l (moves_of_team (take n actions)) (after_actions (after_action s (Folds w)) (take n actions)).posted) same
    (rest.posted n)

posted_kept_by_back : (s : PoolState) (w : ℕ) (actions : List Action) → (after_action s (GivesBack w)).posted ≡ s.posted
    → GoesAlong (after_action s (GivesBack w)) actions
    → (n : ℕ) → MovesAll s.posted (moves_of_team (take n (GivesBack w ∷ actions))) (after_actions s (take n (GivesBack w ∷ actions))).posted
posted_kept_by_back s w actions same rest zero = refl
posted_kept_by_back s w actions same rest (suc n) =
    subst (λ l. MovesAll l (moves_of_team (take n actions)) (after_actions (after_action s (GivesBack w)) (take n actions)).posted) same
    (rest.posted n)

-- ---- each action of a worker in its turn is possible
taken_is : (s t : PoolState) (w : ℕ) (p : Piece) (actions : List Action) → stepped s (Take w) ≡ Some t
    → slice_get t.held w ≡ Some (Some (begun p))
    → s.posted ≡ p ∷ t.posted → GoesAlong t actions → GoesAlong s (OnBoard (Takes w p) ∷ actions)
taken_is s t w p actions is has moved rest =
    let same : t ≡ after_action s (OnBoard (Takes w p)) = ap (or_same s) (sym is) in
    on_board s (Takes w p) actions (t, is, has) (moved ∙ ap (λ (u : PoolState). p ∷ u.posted) same)
    (subst (λ u. GoesAlong u actions) same rest)

folded_is : (s t : PoolState) (w : ℕ) (actions : List Action) → stepped s (Apply w) ≡ Some t → t.posted ≡ s.posted
    → GoesAlong t actions
    → GoesAlong s (Folds w ∷ actions)
folded_is s t w actions is kept rest =
    let same : t ≡ after_action s (Folds w) = ap (or_same s) (sym is) in
    let along : GoesAlong (after_action s (Folds w)) actions = subst (λ u. GoesAlong u actions) same rest in
    record {
      possible = possible_more s (Folds w) actions (ap is_some is) along.possible;
      posted = posted_kept_by_fold s w actions (ap (λ (u : PoolState). u.posted) (sym same) ∙ kept) along;
    }

back_is : (s t : PoolState) (w : ℕ) (actions : List Action) → stepped s (Back w) ≡ Some t → t.posted ≡ s.posted
    → GoesAlong t actions
    → GoesAlong s (GivesBack w ∷ actions)
back_is s t w actions is kept rest =
    let same : t ≡ after_action s (GivesBack w) = ap (or_same s) (sym is) in
    let along : GoesAlong (after_action s (GivesBack w)) actions = subst (λ u. GoesAlong u actions) same rest in
    record {
      possible = possible_more s (GivesBack w) actions (ap is_some is) along.possible;
      posted = posted_kept_by_back s w actions (ap (λ (u : PoolState). u.posted) (sym same) ∙ kept) along;
    }

none_posted : (s : PoolState) (n : ℕ) → MovesAll s.posted (moves_of_team (take n [])) (after_actions s (take n [])).posted
none_posted s zero = refl
none_posted s (suc n) = refl

-- the machine with that list of posted pieces, and with that in a worker's hands
abbrev with_slot : PoolState → List Piece → ℕ → Option Done → List Done → PoolState
with_slot s posted w slot returned = record { posted = posted; held = slice_set s.held w slot; returned = returned }

goes : (actions : List Action) (s : PoolState) (hands : Hands) (board : List Piece) → AreHandsOf hands s.held
    → InTurn hands actions
    → MovesAll s.posted (moves_of_team actions) board → GoesAlong s actions
goes [] s hands board are turn moves = record { possible = λ n a at. absurd cc; posted = none_posted s }
goes (OnBoard (Posts p) ∷ actions) s hands board are turn moves =
    on_board s (Posts p) actions tt refl
    (goes actions (with_posted s p) hands board are turn (subst (λ l. MovesAll l (moves_of_team actions) board) moves.1 moves.2))
goes (OnBoard (Takes w p) ∷ actions) s hands board are turn moves =
    let free : slice_get s.held w ≡ Some None = free_at hands s.held w are turn.0 in
    let t : PoolState = with_slot s moves.0 w (Some (begun p)) s.returned in
    let all : length p.share.effects ≡ length p.share.effects - 0 = omega arith in
    let is : stepped s (Take w) ≡ Some t = λ i. taken (free i) (moves.1 i) s w in
    taken_is s t w p actions is (set_now s.held w (Some (begun p)) None free) moves.1
    (goes actions t (slice_set hands w (Some (length p.share.effects))) board
    (hands_set hands s.held w (Some (length p.share.effects)) (Some (begun p)) are (ap (λ n. Some n) all)) turn.1 moves.2)
goes (Folds w ∷ actions) s hands board are turn moves =
    let has = held_at hands s.held w (suc turn.0) are turn.1 in
    let d : Done = has.0 in
    let many = has.2 in
    let next = part_there d.share.effects d.done (omega (arith, many)) in
    let left : turn.0 ≡ length d.share.effects - (d.done + 1) = omega (arith, many) in
    let t : PoolState = with_slot s s.posted w (Some (one_part_more d next.0)) s.returned in
    let is : stepped s (Apply w) ≡ Some t = (λ i. applied (has.1 i) s w) ∙ (λ i. applied_to (next.1 i) d s w) in
    folded_is s t w actions is refl
    (goes actions t (slice_set hands w (Some turn.0)) board
    (hands_set hands s.held w (Some turn.0) (Some (one_part_more d next.0)) are (ap (λ n. Some n) left)) turn.2 moves)
goes (GivesBack w ∷ actions) s hands board are turn moves =
    let has = held_at hands s.held w 0 are turn.0 in
    let d : Done = has.0 in
    let many = has.2 in
    let none : next_part d ≡ None = no_part d.share.effects d.done (omega (arith, many)) in
    let t : PoolState = with_slot s s.posted w None (s.returned ++ d ∷ []) in
    let is : stepped s (Back w) ≡ Some t = (λ i. backed (has.1 i) s w) ∙ (λ i. back_of (none i) d s w) in
    back_is s t w actions is refl
    (goes actions t (slice_set hands w None) board (hands_set hands s.held w None None are refl) turn.1 moves)

pub schedules : EveryRunIsASchedule
schedules workers actions board turn moves =
    goes actions (opening_pool workers) (empty_hands workers) board (start_empty workers) turn moves

-- ---- the schedule in which each worker finishes its piece at once

-- the worker folds so many parts and gives the piece back; then the others follow
abbrev work_then : ℕ → ℕ → List Action → List Action
work_then w zero actions = GivesBack w ∷ actions
work_then w (suc parts) actions = Folds w ∷ work_then w parts actions

abbrev at_once : List BoardStep → List Action
at_once [] = []
at_once (Posts p ∷ steps) = OnBoard (Posts p) ∷ at_once steps
at_once (Takes w p ∷ steps) = OnBoard (Takes w p) ∷ work_then w (length p.share.effects) (at_once steps)

work_has_no_step : (w parts : ℕ) (actions : List Action) → board_steps (work_then w parts actions) ≡ board_steps actions
work_has_no_step w zero actions = refl
work_has_no_step w (suc parts) actions = work_has_no_step w parts actions

same_steps : (steps : List BoardStep) → board_steps (at_once steps) ≡ steps
same_steps [] = refl
same_steps (Posts p ∷ steps) = ap (λ l. Posts p ∷ l) (same_steps steps)
same_steps (Takes w p ∷ steps) =
    ap (λ l. Takes w p ∷ l) (work_has_no_step w (length p.share.effects) (at_once steps) ∙ same_steps steps)

work_in_turn : (hands : Hands) (w parts : ℕ) (actions : List Action) → slice_get hands w ≡ Some (Some parts)
    → InTurn (slice_set hands w None) actions → InTurn hands (work_then w parts actions)
work_in_turn hands w zero actions has rest = (has, rest)
work_in_turn hands w (suc parts) actions has rest = (
  parts,
  has,
  work_in_turn (slice_set hands w (Some parts)) w parts actions (set_now hands w (Some parts) (Some (suc parts)) has)
      (subst (λ h. InTurn h actions) (sym (set_twice hands w (Some parts) None)) rest),
)

in_turn : (workers : ℕ) (steps : List BoardStep) → AreTakenBy workers steps → InTurn (empty_hands workers) (at_once steps)
in_turn workers [] by = tt
in_turn workers (Posts p ∷ steps) by = in_turn workers steps by
in_turn workers (Takes w p ∷ steps) by =
    let hands : Hands = empty_hands workers in
    let parts : ℕ = length p.share.effects in
    let free : slice_get hands w ≡ Some None = all_empty workers w by.0 in
    let same : hands ≡ slice_set (slice_set hands w (Some parts)) w None =
    sym (set_twice hands w (Some parts) None ∙ set_same hands w None free) in (
      free,
      work_in_turn (slice_set hands w (Some parts)) w parts (at_once steps) (set_now hands w (Some parts) None free)
          (subst (λ h. InTurn h (at_once steps)) same (in_turn workers steps by.1)),
    )

pub scheduled : EveryListOfStepsIsScheduled
scheduled workers steps board by moves =
    let turn : InTurn (empty_hands workers) (at_once steps) = in_turn workers steps by in
    record {
      actions = at_once steps;
      same_steps = same_steps steps;
      in_turn = turn;
      along =
          schedules workers (at_once steps) board turn
          (subst (λ l. MovesAll [] (map move_of l) board) (sym (same_steps steps)) moves);
    }

-- ---- posts come first
after_posts : (pieces : List Piece) (actions : List Action) (s : PoolState)
    → after_actions s (posts pieces ++ actions) ≡ after_actions (posted_all s pieces) actions
after_posts [] actions s = refl
after_posts (p ∷ pieces) actions s = after_posts pieces actions (with_posted s p)

after_events : (actions : List Action) (s : PoolState) → HasNoPost actions
    → after_actions s actions ≡ run_from s (events_of actions)
after_events [] s none = refl
after_events (OnBoard (Posts p) ∷ actions) s none = absurd none
after_events (OnBoard (Takes w p) ∷ actions) s none = after_events actions (after_action s (OnBoard (Takes w p))) none
after_events (Folds w ∷ actions) s none = after_events actions (after_action s (Folds w)) none
after_events (GivesBack w ∷ actions) s none = after_events actions (after_action s (GivesBack w)) none

pub posts_first : PostsFirstAreARun
posts_first workers pieces actions none =
    after_posts pieces actions (opening_pool workers) ∙ after_events actions (posted_all (opening_pool workers) pieces) none

-- ---- a worked example of what threads do with a board, and what isn't one

not_empty : (left : ℕ) → Some (Some left) ≡ Some None → ⊥
not_empty left e = absurd cc

-- three pieces, with two parts, with one, and with none
module _ (a b c : ShardState) (m n o : Numbered) where
  abbrev with_share : ShardState → ℕ → List Numbered → Piece
  with_share s number ns = record { shard = s; share = record { number = number; effects = ns } }

  abbrev first : Piece
  first = with_share a 0 (m ∷ n ∷ [])

  abbrev second : Piece
  second = with_share b 1 (o ∷ [])

  abbrev third : Piece
  third = with_share c 2 []

  -- the third is posted after the first two were taken, one by each of two workers
  abbrev steps : List BoardStep
  steps = Posts first ∷ Posts second ∷ Takes 0 first ∷ Takes 1 second ∷ Posts third ∷ Takes 1 third ∷ []

  -- the second worker has done with its piece, and takes the third, while the first worker still folds its own
  abbrev actions : List Action
  actions =
      OnBoard (Posts first) ∷ OnBoard (Posts second) ∷ OnBoard (Takes 0 first) ∷ OnBoard (Takes 1 second) ∷ Folds 0 ∷ Folds 1
      ∷ GivesBack 1 ∷ OnBoard (Posts third) ∷ OnBoard (Takes 1 third) ∷ Folds 0 ∷ GivesBack 0 ∷ GivesBack 1 ∷ []

  these_steps : board_steps actions ≡ steps
  these_steps = refl

  on_the_board : MovesAll [] (moves_of_team actions) []
  on_the_board = (
    first ∷ [],
    refl,
    (
      first ∷ second ∷ [],
      refl,
      (second ∷ [], refl, ([], refl, (third ∷ [], refl, ([], refl, refl)))),
    ),
  )

  each_in_turn : InTurn (empty_hands 2) actions
  each_in_turn = (refl, (refl, (1, refl, (0, refl, (refl, (refl, (0, refl, (refl, (refl, tt)))))))))

  it_goes_along : GoesAlong (opening_pool 2) actions
  it_goes_along = schedules 2 actions [] each_in_turn on_the_board

  -- after the sixth action nothing is posted, and the second worker has folded its piece to the end
  halfway : (after_actions (opening_pool 2) (take 6 actions)).posted ≡ []
  halfway = refl

  -- at the end all three were given back
  at_the_end : map (λ (d : Done). d.share) (after_actions (opening_pool 2) actions).returned
      ≡ second.share ∷ first.share ∷ third.share ∷ []
  at_the_end = refl

  -- a worker that takes twice without giving back isn't in turn
  takes_twice : InTurn (empty_hands 2)
      (OnBoard (Posts first) ∷ OnBoard (Posts second) ∷ OnBoard (Takes 0 first) ∷ OnBoard (Takes 0 second) ∷ []) → ⊥
  takes_twice turn = not_empty 2 turn.1.0

-- ---- the machine does what a team does whose workers read the parts of a batch from its messages

-- ---- the steps, each piece as what it stands for
module _ (first : ℕ) (batch : List Core) where
  moved : (b : BoardStep) (before after : List Piece) → Moves before (move_of b) after
      → Moves (map (in_batch first batch) before) (move_of (step_in_batch first batch b)) (map (in_batch first batch) after)
  moved (Posts p) before after h = ap (map (in_batch first batch)) h ∙ map-append (in_batch first batch) before (p ∷ [])
  moved (Takes w p) before after h = ap (map (in_batch first batch)) h

  all_moved : (steps : List BoardStep) (before after : List Piece) → MovesAll before (map move_of steps) after
      → MovesAll (map (in_batch first batch) before) (map move_of (steps_in_batch first batch steps)) (map (in_batch first batch) after)
  all_moved [] before after h = ap (map (in_batch first batch)) h
  all_moved (b ∷ steps) before after h =
      (map (in_batch first batch) h.0, moved b before h.0 h.1, all_moved steps h.0 after h.2)

  taken_by : (workers : ℕ) (steps : List BoardStep) → AreTakenBy workers steps → AreTakenBy workers (steps_in_batch first batch steps)
  taken_by workers [] by = tt
  taken_by workers (Posts p ∷ steps) by = taken_by workers steps by
  taken_by workers (Takes w p ∷ steps) by = (by.0, taken_by workers steps by.1)

pub team_scheduled : EveryTeamIsScheduled
team_scheduled workers first batch steps board by moves =
    scheduled workers (steps_in_batch first batch steps) (map (in_batch first batch) board) (taken_by first batch workers steps by)
    (all_moved first batch steps [] board moves)

pub team_goes_along : EveryRunOfATeamIsASchedule
team_goes_along workers first batch steps board actions moves same turn =
    schedules workers actions (map (in_batch first batch) board) turn
    (subst (λ l. MovesAll [] (map move_of l) (map (in_batch first batch) board)) (sym same) (all_moved first batch steps [] board moves))

-- ---- what a worker makes of a piece
pub follows_the_share : FollowingFoldsTheShare
follows_the_share first batch p messages shard h =
    let n = p.shard.shards in
    let k = p.shard.number in
    let done = share n first (take messages batch) k in
    let rest = share n (first + length (take messages batch)) (drop messages batch) k in
    let all : share n first batch k ≡ done ++ rest =
    ap (λ ms. share n first ms k) (sym (take-append-drop messages batch)) ∙ share_append n first (take messages batch) (drop messages batch) k in
    let d : Done = record { shard = shard; share = (in_batch first batch p).share; done = length done } in (
      d,
      refl,
      record {
        share = refl;
        done = let long = ap length all in let both = length-append done rest in omega (arith, long, both);
        shard = h.shard ∙ ap (with_parts p.shard) (sym (ap (take (length done)) all ∙ take_at done rest (length done) refl));
      },
      λ whole. ap (λ ms. length (share n first ms k)) (take_all messages batch (omega (arith, whole))),
    )

-- ---- the whole batch
pub team_folds : EveryTeamFoldsTheBatch
team_folds shards workers log batch ts posted events held order end =
    let stands : Piece → Piece = in_batch (1 + length log) batch in
    let pieces : List Piece = map stands (map bare ts) in
    let s : PoolState = run_of workers (map stands posted) events in
    let a : Accounted (map stands posted) s = every workers (map stands posted) events in
    folds_pieces shards log batch pieces s (length-map (map bare ts) stands ∙ length-map ts bare ∙ held.many)
    (λ k less. slice_get-map stands (map bare ts) k
    ∙ ap (option_map stands) (slice_get-map bare ts k ∙ ap (option_map bare) (held.each k less)))
    (record {
      held = a.held;
      returned = a.returned;
      once = IsPermutation-trans pieces (map stands posted) (s.posted ++ (present a.held ++ a.returned))
          (IsPermutation-map stands (map bare ts) posted order) a.once;
      held_worked = a.held_worked;
      returned_worked = a.returned_worked;
      returned_whole = a.returned_whole;
    }) end
