-- What the workers give back, whoever took what, gathered by number.
use Rattle.rubis_workers.proofs.Common.{◌≡◌, ℕ, suc, List, [], ◌∷◌, length, get_or, map, refl, sym, ap, ◌∙◌, subst, arith, ◌≤◌, ◌++◌, ◌<◌, All}
use Rattle.rubis_workers.proofs.Common.{AllZip, IsPermutation, length-map, length-append, All-nil, All-cons, All-permutation, IsPermutation-map}
use Rattle.rubis_workers.proofs.Common.{length_permutation, IsPermutation-trans, IsPermutation-sym, ShardState, IsPiece, pieces_of, IsFault}
use Rattle.rubis_workers.proofs.Common.{numbers_of, IsGathered, IsInOrder, Piece, PassState, Result, Ok, Err, AreInOrder, FaultKind, Done}
use Rattle.rubis_workers.proofs.Common.{no_fault_if_moved}
use Rattle.std.proofs.Common.{set, append_assoc}
use Rattle.std.proofs.Math.ListN.{get_or-map}
use Rattle.std.specs.List.{swap}
use Rattle.std.specs.List.Sorted.{apply_swaps, SwapsInRange}
use Rattle.std.proofs.lemmas.List.{map-set}
use Rattle.std.proofs.lemmas.List.Sorted.{IsPermutation-append_right, IsPermutation-append_comm}
use Rattle.rubis_shard.specs.declared.shares.Share.{Share}
use Rattle.rubis_pieces.specs.Batches.{Belong, AreSharesFolded, AreFoldedTo, IsBegun, IsWorked}
use Rattle.rubis_board.specs.Rule.{IsPartOf}
use Rattle.std.specs.Prelude.{IfOk}
use Rattle.rubis_pieces.specs.declared.gathers.Gathered.{Gathered}
use Rattle.rubis_pieces.proofs.Counting.{leaves_no_more}
use Rattle.rubis_pieces.proofs.Folded.{folded_numbers, order_folded, begun, begun_unfinished, takes_batch, takes_whole}
use Rattle.rubis_workers.specs.Work.{AreWorked, AppliesBatch}
use Rattle.rubis_workers.specs.declared.batches.Worked.{Worked}

map_swap : {X Y : Type 0} (f : X → Y) (xs : List X) (i j : ℕ) → map f (swap xs i j) ≡ swap (map f xs) i j
map_swap f [] i j = refl
map_swap f (x ∷ xs) i j =
    map-set f (set (x ∷ xs) i (get_or (x ∷ xs) j x)) j (get_or (x ∷ xs) i x)
    ∙ ap (λ l. set l j (f (get_or (x ∷ xs) i x))) (map-set f (x ∷ xs) i (get_or (x ∷ xs) j x))
    ∙ (λ t. set (set (map f (x ∷ xs)) i (sym (get_or-map f (x ∷ xs) j x) t)) j (sym (get_or-map f (x ∷ xs) i x) t))

map_swaps : {X Y : Type 0} (f : X → Y) (xs : List X) (moves : List (ℕ × ℕ))
    → map f (apply_swaps xs moves) ≡ apply_swaps (map f xs) moves
map_swaps f xs [] = refl
map_swaps f xs (m ∷ moves) = map_swap f (apply_swaps xs moves) m.0 m.1 ∙ ap (λ l. swap l m.0 m.1) (map_swaps f xs moves)

module _ {A B : Type 0} (R : A → B → Type 0) where
  abbrev left : A × B → A
  left z = z.0

  abbrev right : A × B → B
  right z = z.1

  abbrev Related : A × B → Type 0
  Related z = R z.0 z.1

  pairs : (xs : List A) (ys : List B) → AllZip R xs ys
      → (zs : List (A × B)) × (map left zs ≡ xs) × (map right zs ≡ ys) × All Related zs
  pairs [] [] h = ([], refl, refl, All-nil Related)
  pairs [] (y ∷ ys) h = absurd h
  pairs (x ∷ xs) [] h = absurd h
  pairs (x ∷ xs) (y ∷ ys) h =
      let w = pairs xs ys h.1 in
      ((x, y) ∷ w.0, ap (λ l. x ∷ l) w.1, ap (λ l. y ∷ l) w.2, All-cons Related (x, y) w.0 h.0 w.3)

  apart : (zs : List (A × B)) → All Related zs → AllZip R (map left zs) (map right zs)
  apart [] all = tt
  apart (z ∷ zs) all = (all 0 z (omega arith), apart zs (λ k e less. all (suc k) e (omega arith)))

  pub moves_along : (xs xs' : List A) (ys : List B) → IsPermutation xs xs' → AllZip R xs ys
      → (ys' : List B) × AllZip R xs' ys' × IsPermutation ys ys'
  moves_along xs xs' ys p h =
      let w = pairs xs ys h in
      let zs = apply_swaps w.0 p.moves in
      let long : length xs ≡ length w.0 = ap length (sym w.1) ∙ length-map w.0 left in
      let q : IsPermutation w.0 zs = record {
        moves = p.moves;
        below = subst (λ n. SwapsInRange n p.moves) long p.below;
        is
            = refl;
      } in
      let same : map left zs ≡ xs' = map_swaps left w.0 p.moves ∙ ap (λ l. apply_swaps l p.moves) w.1 ∙ sym p.is in (
        map right zs,
        subst (λ l. AllZip R l (map right zs)) same (apart zs (All-permutation Related w.0 zs q w.3)),
        subst (λ l. IsPermutation l (map right zs)) w.2 (IsPermutation-map right w.0 zs q),
      )

-- ---- lists of pieces, and of what was done of them

-- ---- two lists side by side
module _ {A B : Type 0} (R : A → B → Type 0) where
  pub zip_append : (xs xs' : List A) (ys ys' : List B) → AllZip R xs ys → AllZip R xs' ys' → AllZip R (xs ++ xs') (ys ++ ys')
  zip_append [] xs' [] ys' h k = k
  zip_append [] xs' (y ∷ ys) ys' h k = absurd h
  zip_append (x ∷ xs) xs' [] ys' h k = absurd h
  zip_append (x ∷ xs) xs' (y ∷ ys) ys' h k = (h.0, zip_append xs xs' ys ys' h.1 k)

  pub zip_length : (xs : List A) (ys : List B) → AllZip R xs ys → length xs ≡ length ys
  zip_length [] [] h = refl
  zip_length [] (y ∷ ys) h = absurd h
  zip_length (x ∷ xs) [] h = absurd h
  zip_length (x ∷ xs) (y ∷ ys) h = let e = zip_length xs ys h.1 in omega arith

-- ---- what is part of a list
pub part_length : (posted taken : List Piece) → IsPartOf taken posted → length taken ≤ length posted
part_length posted taken (rest, h) =
    let e = length_permutation posted (taken ++ rest) h in
    let f = length-append taken rest in
    omega arith

last_at : (xs ys : List Piece) (p : Piece) → get_or ((xs ++ p ∷ []) ++ ys) (length xs) p ≡ p
last_at [] ys p = refl
last_at (x ∷ xs) ys p = last_at xs ys p

-- what was taken last is one of the posted
pub last_is : (P : Piece → Type 0) (posted taken : List Piece) (p : Piece) → IsPartOf (taken ++ p ∷ []) posted → All P posted
    → P p
last_is P posted taken p (rest, h) all =
    let long = length-append (taken ++ p ∷ []) rest in
    let more = length-append taken (p ∷ []) in
    subst P (last_at taken rest p)
    (All-permutation P posted ((taken ++ p ∷ []) ++ rest) h all (length taken) p (omega arith))

-- ---- the pieces of shards and their shares
pub belong_length : (ss : List ShardState) (hs : List Share) → Belong ss hs → length ss ≡ length hs
belong_length [] [] b = refl
belong_length [] (h ∷ hs) b = absurd b
belong_length (s ∷ ss) [] b = absurd b
belong_length (s ∷ ss) (h ∷ hs) b = let e = belong_length ss hs b.1 in omega arith

pub all_pieces : (ss : List ShardState) (hs : List Share) → Belong ss hs → All IsPiece (pieces_of ss hs)
all_pieces [] hs b = All-nil IsPiece
all_pieces (s ∷ ss) [] b = All-nil IsPiece
all_pieces (s ∷ ss) (h ∷ hs) b = All-cons IsPiece (record { shard = s; share = h }) (pieces_of ss hs) b.0 (all_pieces ss hs b.1)

pub pieces_last : (ss : List ShardState) (hs : List Share) (s : ShardState) (h : Share) → length ss ≡ length hs
    → pieces_of (ss ++ s ∷ []) (hs ++ h ∷ []) ≡ pieces_of ss hs ++ record { shard = s; share = h } ∷ []
pieces_last [] [] s h e = refl
pieces_last [] (g ∷ hs) s h e = absurd (omega arith)
pieces_last (t ∷ ss) [] s h e = absurd (omega arith)
pieces_last (t ∷ ss) (g ∷ hs) s h e = ap (λ l. record { shard = t; share = g } ∷ l) (pieces_last ss hs s h (omega arith))

-- the last piece goes after what was posted
pub one_posted : (all left posted : List Piece) (p : Piece) → IsPermutation all ((left ++ p ∷ []) ++ posted)
    → IsPermutation all (left ++ (posted ++ p ∷ []))
one_posted all left posted p h =
    IsPermutation-trans _ _ _ (subst (IsPermutation all) (append_assoc left (p ∷ []) posted) h)
    (IsPermutation-append_right left _ _ (IsPermutation-append_comm (p ∷ []) posted))

-- ---- what the workers give back, whoever took what, gathered by number

folded_in_place : (ss : List ShardState) (hs : List Share) (ds : List Done) → Belong ss hs → AllZip IsWorked (pieces_of ss hs) ds
    → AreSharesFolded ss hs ds
folded_in_place [] [] [] b h = tt
folded_in_place [] [] (d ∷ ds) b h = absurd h
folded_in_place [] (g ∷ hs) ds b h = absurd b
folded_in_place (s ∷ ss) [] ds b h = absurd b
folded_in_place (s ∷ ss) (g ∷ hs) [] b h = absurd h
folded_in_place (s ∷ ss) (g ∷ hs) (d ∷ ds) b h = (h.0, folded_in_place ss hs ds b.1 h.1)

folded_length : (ss : List ShardState) (hs : List Share) (ds : List Done) → AreSharesFolded ss hs ds → length ds ≡ length ss
folded_length [] [] [] f = refl
folded_length [] [] (d ∷ ds) f = absurd f
folded_length [] (h ∷ hs) ds f = absurd f
folded_length (s ∷ ss) [] ds f = absurd f
folded_length (s ∷ ss) (h ∷ hs) [] f = absurd f
folded_length (s ∷ ss) (h ∷ hs) (d ∷ ds) f = ap (λ n. suc n) (folded_length ss hs ds f.1)

-- from the clauses of the calls: the last pass took each piece, in what order it be
pub all_taken : (ss : List ShardState) (hs : List Share) (posted : List Piece) (first last : PassState)
    → IsPermutation (pieces_of ss hs) posted → first.posted ≡ posted → last.posted ≡ first.posted
    → IsPermutation last.posted last.taken → IsPermutation (pieces_of ss hs) last.taken
all_taken ss hs posted first last moved begins goes ends =
    IsPermutation-trans (pieces_of ss hs) posted last.taken moved (subst (λ l. IsPermutation l last.taken) (goes ∙ begins) ends)

-- the shards with their shares; the pieces that were taken, in what order it be, and what was done of each
module _ (ss : List ShardState) (hs : List Share) (taken : List Piece) (list : List Done) (order : AreInOrder ss)
    (b : Belong ss hs)
    (moved : IsPermutation (pieces_of ss hs) taken) (worked : AllZip IsWorked taken list) where
  -- the same in the order of the shards
  in_place : (ds : List Done) × AreSharesFolded ss hs ds × IsPermutation list ds
  in_place =
      let w = moves_along IsWorked taken (pieces_of ss hs) list (IsPermutation-sym _ _ moved) worked in
      (w.0, folded_in_place ss hs w.0 b w.1, w.2)

  pub no_fault : (kind : FaultKind) → IsFault (length ss) (numbers_of list) kind → ⊥
  no_fault =
      let (ds, folded, back) = in_place in
      no_fault_if_moved (length ss) (numbers_of ds) (numbers_of list)
      (length-map ds (λ (d : Done). d.shard.number) ∙ folded_length ss hs ds folded)
      (folded_numbers ss hs ds order folded) (IsPermutation-map (λ (d : Done). d.shard.number) ds list
      (IsPermutation-sym list ds back))

  pub gathered : (g : Gathered) → IsGathered (length ss) list g → AreFoldedTo ss hs g
  gathered g (ds, sorted, shards_are, left_is) =
      let (es, folded, back) = in_place in
      let again : IsInOrder (length ss) es ds =
      record {
        moved = IsPermutation-trans es list ds (IsPermutation-sym list es back) sorted.moved;
        many = sorted.many;
        placed = sorted.placed;
      } in
      let same : ds ≡ es = order_folded ss hs es ds order folded again in
      (ds, subst (AreSharesFolded ss hs) (sym same) folded, shards_are, left_is)

-- where the shares are those of a batch, it is applied as on one thread
pub applies : (ss : List ShardState) (hs : List Share) (worked : Worked) → 0 < length ss → AreWorked ss hs worked → AppliesBatch ss hs worked
applies ss hs worked some (ds, folded, shards_are, left_is) first batch dealt =
    let is : IsBegun first batch ss worked.shards worked.left = begun first batch ss hs ds dealt folded worked.shards worked.left shards_are left_is in
    record {
      begun = is;
      unfinished = begun_unfinished first batch ss worked.shards worked.left is;
      log = takes_batch first batch ss worked.shards worked.left is;
      whole = takes_whole first batch ss worked.shards worked.left is;
      count = leaves_no_more first batch ss worked.shards worked.left some is;
    }

pub if_ok_so : {A E : Type 0} (P Q : A → Type 0) (r : Result A E) → ((x : A) → P x → Q x) → IfOk r P → IfOk r Q
if_ok_so P Q (Ok x) so h = so x h
if_ok_so P Q (Err e) so h = tt
