-- What workers have in hand, as numbers of parts and as the machine's pieces.
use Rattle.std.proofs.Common.{◌≡◌, ℕ, zero, suc, ◌-◌, ◌<◌, ◌≤◌, List, [], ◌∷◌, length, refl, sym, ap, ◌∙◌, arith}
use Rattle.std.specs.Prelude.{Option, Some, None, slice_get, slice_set, map, option_map, replicate}
use Rattle.std.proofs.lemmas.Option.{slice_get-map}
use Rattle.rubis_shadow.specs.declared.numbered.Numbered.{Numbered}
use Rattle.rubis_pieces.specs.declared.pieces.Done.{Done}
use Rattle.rubis_pool_core.specs.Teams.{Hands}

-- ---- a list with one place set
pub set_now : {A : Type 0} (xs : List A) (w : ℕ) (new old : A) → slice_get xs w ≡ Some old → slice_get (slice_set xs w new) w ≡ Some new
set_now [] w new old at = absurd cc
set_now (x ∷ xs) zero new old at = refl
set_now (x ∷ xs) (suc w) new old at = set_now xs w new old at

pub set_twice : {A : Type 0} (xs : List A) (w : ℕ) (x y : A) → slice_set (slice_set xs w x) w y ≡ slice_set xs w y
set_twice [] w x y = refl
set_twice (z ∷ xs) zero x y = refl
set_twice (z ∷ xs) (suc w) x y = ap (λ l. z ∷ l) (set_twice xs w x y)

pub set_same : {A : Type 0} (xs : List A) (w : ℕ) (x : A) → slice_get xs w ≡ Some x → slice_set xs w x ≡ xs
set_same [] w x at = refl
set_same (y ∷ xs) zero x at = let same : y ≡ x = cc in ap (λ z. z ∷ xs) (sym same)
set_same (y ∷ xs) (suc w) x at = ap (λ l. y ∷ l) (set_same xs w x at)

pub all_empty : (n w : ℕ) → w < n → slice_get {X = Option ℕ} (replicate n None) w ≡ Some None
all_empty zero w h = absurd (omega arith)
all_empty (suc n) zero h = refl
all_empty (suc n) (suc w) h = all_empty n w (omega arith)

-- ---- the parts of a share
pub part_there : (ns : List Numbered) (i : ℕ) → i < length ns → (n : Numbered) × (slice_get ns i ≡ Some n)
part_there [] i h = absurd (omega arith)
part_there (x ∷ ns) zero h = (x, refl)
part_there (x ∷ ns) (suc i) h = part_there ns i (omega arith)

pub no_part : (ns : List Numbered) (i : ℕ) → length ns ≤ i → slice_get ns i ≡ None
no_part [] i h = refl
no_part (x ∷ ns) zero h = absurd (omega arith)
no_part (x ∷ ns) (suc i) h = no_part ns i (omega arith)

-- ---- of the machine's pieces
abbrev pub hand_of : Option Done → Option ℕ
hand_of None = None
hand_of (Some d) = Some (length d.share.effects - d.done)

abbrev pub AreHandsOf : Hands → List (Option Done) → Type 0
AreHandsOf hands held = hands ≡ map hand_of held

pub start_empty : (workers : ℕ) → AreHandsOf (replicate workers None) (replicate workers None)
start_empty zero = refl
start_empty (suc n) = ap (λ l. None ∷ l) (start_empty n)

set_map : (held : List (Option Done)) (w : ℕ) (slot : Option Done)
    → slice_set (map hand_of held) w (hand_of slot) ≡ map hand_of (slice_set held w slot)
set_map [] w slot = refl
set_map (x ∷ held) zero slot = refl
set_map (x ∷ held) (suc w) slot = ap (λ l. hand_of x ∷ l) (set_map held w slot)

pub hands_set : (hands : Hands) (held : List (Option Done)) (w : ℕ) (hand : Option ℕ) (slot : Option Done) → AreHandsOf hands held
    → hand ≡ hand_of slot
    → AreHandsOf (slice_set hands w hand) (slice_set held w slot)
hands_set hands held w hand slot are is =
    ap (λ h. slice_set h w hand) are ∙ ap (λ x. slice_set (map hand_of held) w x) is ∙ set_map held w slot

slot_free : (slot : Option (Option Done)) → option_map hand_of slot ≡ Some None → slot ≡ Some None
slot_free None e = absurd cc
slot_free (Some None) e = refl
slot_free (Some (Some d)) e = absurd cc

slot_held : (slot : Option (Option Done)) (left : ℕ) → option_map hand_of slot ≡ Some (Some left)
    → (d : Done) × (slot ≡ Some (Some d)) × (length d.share.effects - d.done ≡ left)
slot_held None left e = absurd cc
slot_held (Some None) left e = absurd cc
slot_held (Some (Some d)) left e = (d, refl, cc)

at_slot : (hands : Hands) (held : List (Option Done)) (w : ℕ) → AreHandsOf hands held
    → slice_get hands w ≡ option_map hand_of (slice_get held w)
at_slot hands held w are = ap (λ h. slice_get h w) are ∙ slice_get-map hand_of held w

pub free_at : (hands : Hands) (held : List (Option Done)) (w : ℕ) → AreHandsOf hands held → slice_get hands w ≡ Some None
    → slice_get held w ≡ Some None
free_at hands held w are free = slot_free (slice_get held w) (sym (at_slot hands held w are) ∙ free)

pub held_at : (hands : Hands) (held : List (Option Done)) (w left : ℕ) → AreHandsOf hands held
    → slice_get hands w ≡ Some (Some left)
    → (d : Done) × (slice_get held w ≡ Some (Some d)) × (length d.share.effects - d.done ≡ left)
held_at hands held w left are has = slot_held (slice_get held w) left (sym (at_slot hands held w are) ∙ has)
