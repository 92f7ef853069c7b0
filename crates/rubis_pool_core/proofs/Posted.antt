-- The posted list, as the events of a schedule change it.
use Rattle.std.proofs.Common.{◌≡◌, ℕ, zero, suc, List, [], ◌∷◌, refl, sym, ap, ◌∙◌, subst}
use Rattle.std.specs.Prelude.{Option, Some, None, slice_get, slice_set}
use Rattle.rubis_shadow.specs.declared.numbered.Numbered.{Numbered}
use Rattle.rubis_pieces.specs.Pieces.{Move, Moves, MovesAll}
use Rattle.rubis_pieces.specs.Pieces.Move.{Posted, Taken}
use Rattle.rubis_pieces.specs.declared.pieces.Piece.{Piece}
use Rattle.rubis_pieces.specs.declared.pieces.Done.{Done}
use Rattle.rubis_pool_core.specs.declared.event.Event.{Event}
use Rattle.rubis_pool_core.specs.declared.event.Event.TheVariants.{Take, Apply, Back}
use Rattle.rubis_pool_core.specs.Machine.{begun, next_part, PoolState, taken, applied_to, applied, back_of, backed, stepped, MovesPosted}

now_held : (held : List (Option Done)) (w : ℕ) (new old : Option Done) → slice_get held w ≡ Some old
    → slice_get (slice_set held w new) w ≡ Some new
now_held [] w new old at = absurd cc
now_held (x ∷ held) zero new old at = refl
now_held (x ∷ held) (suc w) new old at = now_held held w new old at

takes : (slot : Option (Option Done)) (posted : List Piece) (s t : PoolState) (w : ℕ) → slice_get s.held w ≡ slot
    → s.posted ≡ posted
    → taken slot posted s w ≡ Some t → MovesPosted s (Take w) t
takes (Some None) (p ∷ rest) s t w at is e =
    let after : PoolState = record { posted = rest; held = slice_set s.held w (Some (begun p)); returned = s.returned } in
    let same : after ≡ t = cc in (
      p,
      is ∙ ap (λ (u : PoolState). p ∷ u.posted) same,
      subst (λ (u : PoolState). slice_get u.held w ≡ Some (Some (begun p))) same (now_held s.held w (Some (begun p)) None at),
    )
takes (Some None) [] s t w at is e = absurd cc
takes (Some (Some d)) posted s t w at is e = absurd cc
takes None posted s t w at is e = absurd cc

-- the state after an event, where it is possible
gives : (u t : PoolState) → Some u ≡ Some t → t.posted ≡ u.posted
gives u t e = let same : u ≡ t = cc in ap (λ (s : PoolState). s.posted) (sym same)

applies_part : (next : Option Numbered) (d : Done) (s t : PoolState) (w : ℕ) → applied_to next d s w ≡ Some t
    → t.posted ≡ s.posted
applies_part (Some n) d s t w e = gives _ t e
applies_part None d s t w e = absurd cc

applies : (slot : Option (Option Done)) (s t : PoolState) (w : ℕ) → applied slot s w ≡ Some t → t.posted ≡ s.posted
applies (Some (Some d)) s t w e = applies_part (next_part d) d s t w e
applies (Some None) s t w e = absurd cc
applies None s t w e = absurd cc

returns_whole : (next : Option Numbered) (d : Done) (s t : PoolState) (w : ℕ) → back_of next d s w ≡ Some t → t.posted ≡ s.posted
returns_whole (Some n) d s t w e = absurd cc
returns_whole None d s t w e = gives _ t e

returns : (slot : Option (Option Done)) (s t : PoolState) (w : ℕ) → backed slot s w ≡ Some t → t.posted ≡ s.posted
returns (Some (Some d)) s t w e = returns_whole (next_part d) d s t w e
returns (Some None) s t w e = absurd cc
returns None s t w e = absurd cc

pub events : (s : PoolState) (e : Event) (t : PoolState) → stepped s e ≡ Some t → MovesPosted s e t
events s (Take w) t is = takes (slice_get s.held w) s.posted s t w refl refl is
events s (Apply w) t is = applies (slice_get s.held w) s t w is
events s (Back w) t is = returns (slice_get s.held w) s t w is

fixed_by_one : (before : List Piece) (m : Move) (a b : List Piece) → Moves before m a → Moves before m b → a ≡ b
fixed_by_one before (Posted p) a b x y = x ∙ sym y
fixed_by_one before (Taken p) a b x y = cc

pub fixed : (before : List Piece) (moves : List Move) (a b : List Piece) → MovesAll before moves a
    → MovesAll before moves b → a ≡ b
fixed before [] a b x y = sym x ∙ y
fixed before (m ∷ ms) a b x y =
    fixed x.0 ms a b x.2 (subst (λ l. MovesAll l ms b) (fixed_by_one before m y.0 x.0 y.1 x.1) y.2)
