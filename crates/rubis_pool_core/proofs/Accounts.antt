-- Each event keeps the account of what is posted, held and returned.
use Rattle.std.proofs.Common.{◌≡◌, ℕ, zero, suc, List, [], ◌∷◌, ◌++◌, refl, subst, ◌+◌, ◌≤◌, length, take, sym, ap, ◌∙◌, arith, ◌<◌, get_or, Bool, true, false}
use Rattle.std.proofs.Common.{true≢false, append_assoc}
use Rattle.std.specs.Prelude.{Option, Some, None, slice_get, slice_set, replicate, Result, Ok, Err, IfOk, OnOk, is_some}
use Rattle.std.specs.List.{AllZip, All}
use Rattle.std.specs.List.Sorted.{IsPermutation}
use Rattle.std.proofs.lemmas.List.Sorted.{IsPermutation-refl, IsPermutation-trans, IsPermutation-sym, IsPermutation-cons, IsPermutation-middle}
use Rattle.std.proofs.lemmas.List.Sorted.{IsPermutation-append_left, IsPermutation-append_right, IsPermutation-append_comm}
use Rattle.rubis_pieces.specs.declared.pieces.Piece.{Piece}
use Rattle.rubis_pieces.specs.declared.pieces.Done.{Done}
use Rattle.rubis_pieces.specs.Batches.{IsWorked, IsPiece}
use Rattle.rubis_pool_core.specs.Batches.{present, IsWorkedSlot, Accounted}
use Rattle.std.proofs.lemmas.List.Elements.{All-nil, All-cons, All-append}
use Rattle.std.proofs.lemmas.Option.{slice_get_within, slice_get_read}
use Rattle.rubis_shadow.specs.declared.numbered.Numbered.{Numbered}
use Rattle.rubis_shard.specs.States.{with_parts}
use Rattle.rubis_shard.proofs.Folds.{with_append}
use Rattle.rubis_pool_core.specs.Machine.{begun, next_part, one_part_more, IsShareDone, or_one_part_more, PoolState, PoolOf, in_state, taken, applied_to, applied}
use Rattle.rubis_pool_core.specs.Machine.{or_same, with_posted, posted_all, opening_pool, back_of, backed, after_event, run_from, run_of}
use Rattle.std.proofs.lemmas.List.{append-nil}
use Rattle.rubis_pool_core.specs.declared.event.Event.{Event}
use Rattle.rubis_pool_core.specs.declared.event.Event.TheVariants.{Take, Apply, Back}

pub zip_set : (ps : List (Option Piece)) (ds : List (Option Done)) (w : ℕ) (p : Option Piece) (d : Option Done)
    → AllZip IsWorkedSlot ps ds → IsWorkedSlot p d → AllZip IsWorkedSlot (slice_set ps w p) (slice_set ds w d)
zip_set [] [] w p d h is = tt
zip_set [] (y ∷ ds) w p d h is = absurd h
zip_set (x ∷ ps) [] w p d h is = absurd h
zip_set (x ∷ ps) (y ∷ ds) zero p d h is = (is, h.1)
zip_set (x ∷ ps) (y ∷ ds) (suc w) p d h is = (h.0, zip_set ps ds w p d h.1 is)

pub zip_push : (ps : List Piece) (ds : List Done) (p : Piece) (d : Done) → AllZip IsWorked ps ds → IsWorked p d
    → AllZip IsWorked (ps ++ p ∷ []) (ds ++ d ∷ [])
zip_push [] [] p d h is = (is, tt)
zip_push [] (y ∷ ds) p d h is = absurd h
zip_push (x ∷ ps) [] p d h is = absurd h
zip_push (x ∷ ps) (y ∷ ds) p d h is = (h.0, zip_push ps ds p d h.1 is)

-- all workers are free
pub none_present : (workers : ℕ) → present (replicate workers None) ≡ []
none_present zero = refl
none_present (suc n) = none_present n

pub none_worked : (workers : ℕ) → AllZip IsWorkedSlot (replicate workers None) (replicate workers None)
none_worked zero = tt
none_worked (suc n) = (tt, none_worked n)

-- a free worker comes to hold a piece
pub one_present : (ps : List (Option Piece)) (ds : List (Option Done)) (w : ℕ) (p : Piece) → AllZip IsWorkedSlot ps ds
    → slice_get ds w ≡ Some None → IsPermutation (p ∷ present ps) (present (slice_set ps w (Some p)))
one_present [] [] w p h free = absurd cc
one_present [] (y ∷ ds) w p h free = absurd h
one_present (x ∷ ps) [] w p h free = absurd h
one_present (None ∷ ps) (y ∷ ds) zero p h free = IsPermutation-refl _
one_present (Some x ∷ ps) (None ∷ ds) zero p h free = absurd h.0
one_present (Some x ∷ ps) (Some y ∷ ds) zero p h free = absurd cc
one_present (None ∷ ps) (y ∷ ds) (suc w) p h free = one_present ps ds w p h.1 free
one_present (Some x ∷ ps) (y ∷ ds) (suc w) p h free =
    IsPermutation-trans _ _ _ (IsPermutation-sym _ _ (IsPermutation-middle (x ∷ []) p (present ps)))
    (IsPermutation-cons x _ _ (one_present ps ds w p h.1 free))

-- a worker goes on with the piece that it holds
pub worked_on : (ps : List (Option Piece)) (ds : List (Option Done)) (w : ℕ) (d e : Done) → AllZip IsWorkedSlot ps ds
    → slice_get ds w ≡ Some (Some d) → ((p : Piece) → IsWorked p d → IsWorked p e)
    → AllZip IsWorkedSlot ps (slice_set ds w (Some e))
worked_on [] [] w d e h at go = tt
worked_on [] (y ∷ ds) w d e h at go = absurd h
worked_on (x ∷ ps) [] w d e h at go = absurd h
worked_on (x ∷ ps) (None ∷ ds) zero d e h at go = absurd cc
worked_on (None ∷ ps) (Some y ∷ ds) zero d e h at go = absurd h.0
worked_on (Some x ∷ ps) (Some y ∷ ds) zero d e h at go = let same : y ≡ d = cc in (go x (subst (IsWorked x) same h.0), h.1)
worked_on (x ∷ ps) (y ∷ ds) (suc w) d e h at go = (h.0, worked_on ps ds w d e h.1 at go)

-- a worker no longer holds its piece
pub record Held (ps : List (Option Piece)) (w : ℕ) (d : Done) : Type 0 where
  pub piece : Piece
  pub worked : IsWorked piece d
  pub others : IsPermutation (present ps) (piece ∷ present (slice_set ps w None))

pub held_at : (ps : List (Option Piece)) (ds : List (Option Done)) (w : ℕ) (d : Done) → AllZip IsWorkedSlot ps ds
    → slice_get ds w ≡ Some (Some d) → Held ps w d
held_at [] [] w d h at = absurd cc
held_at [] (y ∷ ds) w d h at = absurd h
held_at (x ∷ ps) [] w d h at = absurd h
held_at (x ∷ ps) (None ∷ ds) zero d h at = absurd cc
held_at (None ∷ ps) (Some y ∷ ds) zero d h at = absurd h.0
held_at (Some x ∷ ps) (Some y ∷ ds) zero d h at =
    let same : y ≡ d = cc in
    record { piece = x; worked = subst (IsWorked x) same h.0; others = IsPermutation-refl _ }
held_at (None ∷ ps) (y ∷ ds) (suc w) d h at =
    let more = held_at ps ds w d h.1 at in
    record { piece = more.piece; worked = more.worked; others = more.others }
held_at (Some x ∷ ps) (y ∷ ds) (suc w) d h at =
    let more = held_at ps ds w d h.1 at in
    record {
      piece = more.piece;
      worked = more.worked;
      others =
          IsPermutation-trans _ _ _ (IsPermutation-cons x _ _ more.others)
          (IsPermutation-middle (x ∷ []) more.piece (present (slice_set ps w None)));
    }

-- ---- what work makes of a piece

pub one_more_piece : (pieces more : List Piece) (p : Piece) → more ≡ pieces ++ p ∷ [] → All IsPiece pieces → IsPiece p
    → All IsPiece more
one_more_piece pieces more p is all one =
    subst (All IsPiece) (sym is) (All-append IsPiece pieces (p ∷ []) all (All-cons IsPiece p [] one (All-nil IsPiece)))

pub begun_worked : (p : Piece) → IsWorked p (begun p)
begun_worked p = record { share = refl; done = omega arith; shard = refl }

past : (ns : List Numbered) (i : ℕ) → slice_get ns i ≡ None → length ns ≤ i
past [] i is = omega arith
past (x ∷ ns) zero is = absurd cc
past (x ∷ ns) (suc i) is = let h = past ns i is in omega arith

take_next : (ns : List Numbered) (i : ℕ) (n : Numbered) → slice_get ns i ≡ Some n → take (suc i) ns ≡ take i ns ++ n ∷ []
take_next [] i n is = absurd cc
take_next (x ∷ ns) zero n is = let same : x ≡ n = cc in ap (λ y. y ∷ []) same
take_next (x ∷ ns) (suc i) n is = ap (λ l. x ∷ l) (take_next ns i n is)

pub next_worked : (p : Piece) (d : Done) (n : Numbered) → next_part d ≡ Some n → IsWorked p d → IsWorked p (one_part_more d n)
next_worked p d n is h =
    let ns : List Numbered = p.share.effects in
    let at : slice_get ns d.done ≡ Some n = subst (λ share. slice_get share.effects d.done ≡ Some n) h.share is in
    let more : suc d.done ≡ d.done + 1 = omega arith in
    let both : take d.done ns ++ n ∷ [] ≡ take (d.done + 1) ns = sym (take_next ns d.done n at) ∙ ap (λ k. take k ns) more in
    record {
      share = h.share;
      done = (let less = slice_get_within ns d.done n at in omega arith);
      shard =
          ap (λ s. with_parts s (n ∷ [])) h.shard ∙ sym (with_append p.shard (take d.done ns) (n ∷ []))
          ∙ ap (with_parts p.shard) both;
    }

pub none_next : (p : Piece) (d : Done) → next_part d ≡ None → IsWorked p d → IsShareDone d
none_next p d is h =
    let long = past d.share.effects d.done is in
    let same = ap (λ share. length share.effects) h.share in
    let short = h.done in
    omega arith

-- ---- the state after an event, where it is possible and where it isn't

-- what follows from a fact about an answer
if_ok : {T E : Type 0} (r : Result T E) (P Q : T → Type 0) → ((x : T) → P x → Q x) → IfOk r P → IfOk r Q
if_ok (Ok x) P Q go h = go x h
if_ok (Err e) P Q go h = tt

-- a worker that holds nothing
pub free_slot : (held : List (Option Done)) (n w : ℕ) (slot : Option Done) → n ≡ length held → w < n → slot ≡ get_or held w slot
    → is_some slot ≡ false → slice_get held w ≡ Some None
free_slot held n w None long within at free = slice_get_read held n w None long within at
free_slot held n w (Some d) long within at free = absurd (true≢false free)

same_slot : (held : List (Option Done)) (w : ℕ) (slot : Option Done) → slice_get held w ≡ Some slot → slice_set held w slot ≡ held
same_slot [] w slot at = refl
same_slot (x ∷ held) zero slot at = let same : x ≡ slot = cc in ap (λ y. y ∷ held) (sym same)
same_slot (x ∷ held) (suc w) slot at = ap (λ l. x ∷ l) (same_slot held w slot at)

-- the machine with another list of posted pieces, and with that in a worker's hands
abbrev with_slot : PoolState → List Piece → ℕ → Option Done → PoolState
with_slot s posted w slot = record { posted = posted; held = slice_set s.held w slot; returned = s.returned }

applied_just : (next : Option Numbered) (d : Done) (s : PoolState) (w : ℕ) → is_some next ≡ is_some (applied_to next d s w)
applied_just (Some n) d s w = refl
applied_just None d s w = refl

applied_is : (next : Option Numbered) (d : Done) (s : PoolState) (w : ℕ) → slice_get s.held w ≡ Some (Some d)
    → with_slot s s.posted w (Some (or_one_part_more d next)) ≡ or_same s (applied_to next d s w)
applied_is (Some n) d s w at = refl
applied_is None d s w at = λ i. record { posted = s.posted; held = same_slot s.held w (Some d) at i; returned = s.returned }

module _ (pool now : PoolOf) (same : pool ≡ now) (w : ℕ) where
  pub take_just : (p : Piece) (rest : List Piece) → slice_get pool.state.held w ≡ Some None → pool.state.posted ≡ p ∷ rest
      → true ≡ is_some (taken (slice_get now.state.held w) now.state.posted now.state w)
  take_just p rest free is =
      (λ i. is_some (taken (sym free i) (sym is i) pool.state w))
      ∙ ap (λ (q : PoolOf). is_some (taken (slice_get q.state.held w) q.state.posted q.state w)) same

  pub take_is : (p : Piece) (rest : List Piece) (d : Done) → slice_get pool.state.held w ≡ Some None
      → pool.state.posted ≡ p ∷ rest
      → d ≡ begun p
      → in_state pool (with_slot pool.state rest w (Some d))
      ≡ in_state now (or_same now.state (taken (slice_get now.state.held w) now.state.posted now.state w))
  take_is p rest d free is begins =
      ap (λ e. in_state pool (with_slot pool.state rest w (Some e))) begins
      ∙ (λ i. in_state pool (or_same pool.state (taken (sym free i) (sym is i) pool.state w)))
      ∙ ap (λ (q : PoolOf). in_state q (or_same q.state (taken (slice_get q.state.held w) q.state.posted q.state w))) same

  abbrev AppliesTo : PoolOf → Type 0
  AppliesTo next = next ≡ in_state now (or_same now.state (applied (slice_get now.state.held w) now.state w))

  pub apply_none : (slot : Option Done) → slot ≡ None → slice_get pool.state.held w ≡ Some slot
      → AppliesTo (in_state pool (with_slot pool.state pool.state.posted w slot))
  apply_none slot none at =
      let free : slice_get pool.state.held w ≡ Some None = at ∙ ap (λ o. Some o) none in
      ap (λ held. in_state pool (record { posted = pool.state.posted; held = held; returned = pool.state.returned }))
      (same_slot pool.state.held w slot at)
      ∙ ap (λ slot. in_state pool (or_same pool.state (applied slot pool.state w))) (sym free)
      ∙ ap (λ (q : PoolOf). in_state q (or_same q.state (applied (slice_get q.state.held w) q.state w))) same

  module _ (d : Done) (at : slice_get pool.state.held w ≡ Some (Some d)) where
    pub apply_just : {E : Type 0} (r : Result Bool E) → IfOk r (λ did. did ≡ is_some (next_part d))
        → IfOk r (λ did. did ≡ is_some (applied (slice_get now.state.held w) now.state w))
    apply_just r h = if_ok r _ _
        (λ did is. is ∙ applied_just (next_part d) d pool.state w ∙ ap (λ slot. is_some (applied slot pool.state w)) (sym at)
        ∙ ap (λ (q : PoolOf). is_some (applied (slice_get q.state.held w) q.state w)) same) h

    pub apply_is : {E : Type 0} (r : Result Bool E) (e : Done) → OnOk r (e ≡ or_one_part_more d (next_part d))
        → OnOk r (AppliesTo (in_state pool (with_slot pool.state pool.state.posted w (Some e))))
    apply_is r e h = if_ok r _ _
        (λ did is. ap (λ x. in_state pool (with_slot pool.state pool.state.posted w (Some x))) is
        ∙ ap (in_state pool) (applied_is (next_part d) d pool.state w at)
        ∙ ap (λ slot. in_state pool (or_same pool.state (applied slot pool.state w))) (sym at)
        ∙ ap (λ (q : PoolOf). in_state q (or_same q.state (applied (slice_get q.state.held w) q.state w))) same) h

pub all_posted : (s : PoolState) (pieces : List Piece) → posted_all s pieces
    ≡ record { posted = s.posted ++ pieces; held = s.held; returned = s.returned }
all_posted s [] = λ i. record { posted = sym (append-nil s.posted) i; held = s.held; returned = s.returned }
all_posted s (p ∷ pieces) =
    all_posted (with_posted s p) pieces
    ∙ (λ i. record { posted = append_assoc s.posted (p ∷ []) pieces i; held = s.held; returned = s.returned })

-- ---- each event keeps the account

pub opens : (workers : ℕ) → Accounted [] (opening_pool workers)
opens workers =
    record {
      held = replicate workers None;
      returned = [];
      once = subst (λ l. IsPermutation [] (l ++ [])) (sym (none_present workers)) (IsPermutation-refl []);
      held_worked = none_worked workers;
      returned_worked = tt;
      returned_whole = All-nil IsShareDone;
    }

-- what is put after the first of two lists is put after both
between : (a b c : List Piece) → IsPermutation ((a ++ b) ++ c) ((a ++ c) ++ b)
between a b c =
    subst (λ (y : List Piece × List Piece). IsPermutation y.0 y.1) (λ i. (sym (append_assoc a b c) i, sym (append_assoc a c b) i))
    (IsPermutation-append_right a _ _ (IsPermutation-append_comm b c))

pub posts : (pieces : List Piece) (s : PoolState) (p : Piece) → Accounted pieces s
    → Accounted (pieces ++ p ∷ []) (with_posted s p)
posts pieces s p a =
    record {
      held = a.held;
      returned = a.returned;
      once =
          IsPermutation-trans _ _ _ (IsPermutation-append_left (p ∷ []) _ _ a.once)
          (between s.posted (present a.held ++ a.returned) (p ∷ []));
      held_worked = a.held_worked;
      returned_worked = a.returned_worked;
      returned_whole = a.returned_whole;
    }

takes : (pieces : List Piece) (slot : Option (Option Done)) (posted : List Piece) (s : PoolState) (w : ℕ)
    → slice_get s.held w ≡ slot → s.posted ≡ posted → Accounted pieces s → Accounted pieces (or_same s (taken slot posted s w))
takes pieces (Some None) (p ∷ rest) s w at is a =
    record {
      held = slice_set a.held w (Some p);
      returned = a.returned;
      once =
          IsPermutation-trans _ _ _ (subst (λ l. IsPermutation pieces (l ++ (present a.held ++ a.returned))) is a.once)
          (IsPermutation-trans _ _ _ (IsPermutation-sym _ _ (IsPermutation-middle rest p (present a.held ++ a.returned)))
          (IsPermutation-append_right rest _ _
          (IsPermutation-append_left a.returned _ _ (one_present a.held s.held w p a.held_worked at))));
      held_worked = zip_set a.held s.held w (Some p) (Some (begun p)) a.held_worked (begun_worked p);
      returned_worked = a.returned_worked;
      returned_whole = a.returned_whole;
    }
takes pieces (Some None) [] s w at is a = a
takes pieces (Some (Some d)) posted s w at is a = a
takes pieces None posted s w at is a = a

applies : (pieces : List Piece) (next : Option Numbered) (d : Done) (s : PoolState) (w : ℕ) → next_part d ≡ next
    → slice_get s.held w ≡ Some (Some d) → Accounted pieces s → Accounted pieces (or_same s (applied_to next d s w))
applies pieces (Some n) d s w is at a =
    record {
      held = a.held;
      returned = a.returned;
      once = a.once;
      held_worked = worked_on a.held s.held w d (one_part_more d n) a.held_worked at (λ p. next_worked p d n is);
      returned_worked = a.returned_worked;
      returned_whole = a.returned_whole;
    }
applies pieces None d s w is at a = a

returns : (pieces : List Piece) (next : Option Numbered) (d : Done) (s : PoolState) (w : ℕ) → next_part d ≡ next
    → slice_get s.held w ≡ Some (Some d) → Accounted pieces s → Accounted pieces (or_same s (back_of next d s w))
returns pieces (Some n) d s w is at a = a
returns pieces None d s w is at a =
    let was = held_at a.held s.held w d a.held_worked at in
    let left : List Piece = present (slice_set a.held w None) in
    record {
      held = slice_set a.held w None;
      returned = a.returned ++ was.piece ∷ [];
      once =
          IsPermutation-trans _ _ _ a.once
          (IsPermutation-append_right s.posted _ _
          (IsPermutation-trans _ _ _ (IsPermutation-append_left a.returned _ _ was.others)
          (subst (IsPermutation (was.piece ∷ (left ++ a.returned))) (append_assoc left a.returned (was.piece ∷ []))
          (IsPermutation-append_comm (was.piece ∷ []) (left ++ a.returned)))));
      held_worked = zip_set a.held s.held w None None a.held_worked tt;
      returned_worked = zip_push a.returned s.returned was.piece d a.returned_worked was.worked;
      returned_whole = All-append IsShareDone s.returned (d ∷ []) a.returned_whole
          (All-cons IsShareDone d [] (none_next was.piece d is was.worked) (All-nil IsShareDone));
    }

applies_at : (pieces : List Piece) (slot : Option (Option Done)) (s : PoolState) (w : ℕ) → slice_get s.held w ≡ slot
    → Accounted pieces s → Accounted pieces (or_same s (applied slot s w))
applies_at pieces (Some (Some d)) s w at a = applies pieces (next_part d) d s w refl at a
applies_at pieces (Some None) s w at a = a
applies_at pieces None s w at a = a

returns_at : (pieces : List Piece) (slot : Option (Option Done)) (s : PoolState) (w : ℕ) → slice_get s.held w ≡ slot
    → Accounted pieces s → Accounted pieces (or_same s (backed slot s w))
returns_at pieces (Some (Some d)) s w at a = returns pieces (next_part d) d s w refl at a
returns_at pieces (Some None) s w at a = a
returns_at pieces None s w at a = a

pub events : (pieces : List Piece) (s : PoolState) (e : Event) → Accounted pieces s → Accounted pieces (after_event s e)
events pieces s (Take w) a = takes pieces (slice_get s.held w) s.posted s w refl refl a
events pieces s (Apply w) a = applies_at pieces (slice_get s.held w) s w refl a
events pieces s (Back w) a = returns_at pieces (slice_get s.held w) s w refl a

posts_all : (before pieces : List Piece) (s : PoolState) → Accounted before s → Accounted (before ++ pieces) (posted_all s pieces)
posts_all before [] s a = subst (λ l. Accounted l s) (sym (append-nil before)) a
posts_all before (p ∷ pieces) s a =
    subst (λ l. Accounted l (posted_all (with_posted s p) pieces)) (append_assoc before (p ∷ []) pieces)
    (posts_all (before ++ p ∷ []) pieces (with_posted s p) (posts before s p a))

runs : (pieces : List Piece) (s : PoolState) (es : List Event) → Accounted pieces s → Accounted pieces (run_from s es)
runs pieces s [] a = a
runs pieces s (e ∷ es) a = runs pieces (after_event s e) es (events pieces s e a)

pub every : (workers : ℕ) (pieces : List Piece) (es : List Event) → Accounted pieces (run_of workers pieces es)
every workers pieces es =
    runs pieces (posted_all (opening_pool workers) pieces) es (posts_all [] pieces (opening_pool workers) (opens workers))
