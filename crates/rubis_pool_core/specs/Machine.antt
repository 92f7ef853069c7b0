-- The schedule machine: the posted pieces, what each worker holds, and what was returned.
use Rattle.std.specs.Prelude.{◌≡◌, ◌+◌, [], ◌∷◌, length, slice_get, Option, Some, None, ℕ, List, ◌++◌, slice_set, replicate, fold, refl}
use Rattle.rubis_shadow.specs.declared.numbered.Numbered.{Numbered}
use Rattle.rubis_shard.specs.States.{with_parts}
use Rattle.rubis_pieces.specs.declared.pieces.Piece.{Piece}
use Rattle.rubis_pieces.specs.declared.pieces.Done.{Done}
use Rattle.rubis_pool_core.specs.declared.event.Event.{Event}
use Rattle.rubis_pool_core.specs.declared.event.Event.TheVariants.{Take, Apply, Back}
use Rattle.rubis_pieces.specs.Pieces.{Move, Moves, MovesAll}
use Rattle.rubis_pieces.specs.Pieces.Move.{Posted, Taken}
use Rattle.std.specs.Coded.{Coded, code_by, coded×, coded_ℕ, coded_list, coded_option}
use Rattle.rubis_pieces.specs.contracts.pieces.Piece as piece
use Rattle.rubis_pieces.specs.contracts.pieces.Done as done

-- a piece of which nothing is done
abbrev pub begun : Piece → Done
begun p = record { shard = p.shard; share = p.share; done = 0 }

-- its next part, if one is left
abbrev pub next_part : Done → Option Numbered
next_part d = slice_get d.share.effects d.done

-- with that part folded on
abbrev pub one_part_more : Done → Numbered → Done
one_part_more d n = record { shard = with_parts d.shard (n ∷ []); share = d.share; done = d.done + 1 }

-- all of its share is done
abbrev pub IsShareDone : Done → Type 0
IsShareDone d = d.done ≡ length d.share.effects

-- the same, or nothing changes where no part is left
abbrev pub or_one_part_more : Done → Option Numbered → Done
or_one_part_more d (Some n) = one_part_more d n
or_one_part_more d None = d

-- ---- the schedule machine: the posted pieces, what each worker holds, and what was returned

-- the posted pieces, in order; what each worker holds, if anything; the returned pieces, in order
pub record PoolState : Type 0 where
  pub posted : List Piece
  -- of each worker, the piece that it holds
  pub held : List (Option Done)
  pub returned : List Done

-- nothing is posted, and all workers are free
abbrev pub opening_pool : ℕ → PoolState
opening_pool workers = record { posted = []; held = replicate workers None; returned = [] }

-- Post: the piece stands last among the posted
abbrev pub with_posted : PoolState → Piece → PoolState
with_posted s p = record { posted = s.posted ++ p ∷ []; held = s.held; returned = s.returned }

-- ---- the events, each where it is possible

-- Take: a free worker has the first posted piece
abbrev pub taken : Option (Option Done) → List Piece → PoolState → ℕ → Option PoolState
taken (Some None) (p ∷ rest) s w =
    Some (record { posted = rest; held = slice_set s.held w (Some (begun p)); returned = s.returned })
taken (Some None) [] s w = None
taken (Some (Some d)) posted s w = None
taken None posted s w = None

-- Apply: the next part of the share that a worker holds is folded on its shard
abbrev pub applied_to : Option Numbered → Done → PoolState → ℕ → Option PoolState
applied_to (Some n) d s w =
    Some (record { posted = s.posted; held = slice_set s.held w (Some (one_part_more d n)); returned = s.returned })
applied_to None d s w = None

-- Apply: the next part of what a worker holds is folded; None if there is none
abbrev pub applied : Option (Option Done) → PoolState → ℕ → Option PoolState
applied (Some (Some d)) s w = applied_to (next_part d) d s w
applied (Some None) s w = None
applied None s w = None

-- Back: a finished piece goes last in the returned list
abbrev pub back_of : Option Numbered → Done → PoolState → ℕ → Option PoolState
back_of (Some n) d s w = None
back_of None d s w = Some (record { posted = s.posted; held = slice_set s.held w None; returned = s.returned ++ d ∷ [] })

-- Back: a piece whose share is done goes from its worker to the end of the returned list; None if it isn't
abbrev pub backed : Option (Option Done) → PoolState → ℕ → Option PoolState
backed (Some (Some d)) s w = back_of (next_part d) d s w
backed (Some None) s w = None
backed None s w = None

-- the state after an event, where it is possible
abbrev pub stepped : PoolState → Event → Option PoolState
stepped s (Take w) = taken (slice_get s.held w) s.posted s w
stepped s (Apply w) = applied (slice_get s.held w) s w
stepped s (Back w) = backed (slice_get s.held w) s w

-- an event that isn't possible changes nothing
abbrev pub or_same : PoolState → Option PoolState → PoolState
or_same s (Some t) = t
or_same s None = s

-- the state after an event; an impossible one changes nothing
abbrev pub after_event : PoolState → Event → PoolState
after_event s e = or_same s (stepped s e)

-- ---- schedules

abbrev pub posted_all : PoolState → List Piece → PoolState
posted_all s pieces = fold with_posted s pieces

abbrev pub run_from : PoolState → List Event → PoolState
run_from s events = fold after_event s events

-- a Post of each piece, in order, and then the events
abbrev pub run_of : ℕ → List Piece → List Event → PoolState
run_of workers pieces events = run_from (posted_all (opening_pool workers) pieces) events

-- ---- a pool: the machine, how many pieces were posted, and how many may be

-- how many pieces may be posted, how many were, and the machine
pub record PoolOf : Type 0 where
  pub capacity : ℕ
  pub count : ℕ
  pub state : PoolState

abbrev pub in_state : PoolOf → PoolState → PoolOf
in_state pool s = record { capacity = pool.capacity; count = pool.count; state = s }

-- ---- the posted list, as the events of a schedule change it

-- a Take takes the piece that its worker then holds; the other events leave the list
abbrev pub MovesPosted : PoolState → Event → PoolState → Type 0
MovesPosted s (Take w) t = (p : Piece) × Moves s.posted (Taken p) t.posted × (slice_get t.held w ≡ Some (Some (begun p)))
MovesPosted s (Apply w) t = t.posted ≡ s.posted
MovesPosted s (Back w) t = t.posted ≡ s.posted

-- what Post and each event do to the posted list
pub record EventsMoveThePosted : Type 0 where
  pub post : (s : PoolState) (p : Piece) → Moves s.posted (Posted p) (with_posted s p).posted
  pub event : (s : PoolState) (e : Event) (t : PoolState) → stepped s e ≡ Some t → MovesPosted s e t
  -- the moves fix the list
  pub fixed : (before : List Piece) (moves : List Move) (a b : List Piece) → MovesAll before moves a
      → MovesAll before moves b → a ≡ b

-- ---- what a contract sees of a pool as plain data, by which proofs tell pools apart

abbrev pub done_code : Coded Done
done_code = done.the_row.coded

abbrev pub pool_state_code : Coded PoolState
pool_state_code =
    code_by (List Piece × (List (Option Done) × List Done))
    (coded× (coded_list piece.the_row.coded) (coded× (coded_list (coded_option done_code)) (coded_list done_code)))
    (λ s. (s.posted, (s.held, s.returned))) (λ c. record { posted = c.0; held = c.1.0; returned = c.1.1 }) (λ _. refl)

abbrev pub pool_code : Coded PoolOf
pool_code =
    code_by (ℕ × (ℕ × PoolState)) (coded× coded_ℕ (coded× coded_ℕ pool_state_code)) (λ p. (p.capacity, (p.count, p.state)))
    (λ c. record { capacity = c.0; count = c.1.0; state = c.1.1 }) (λ _. refl)
