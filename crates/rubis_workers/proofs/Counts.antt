-- What the workers give back where they fold straight from the messages, whoever took what, in order of number.
use Rattle.rubis_workers.proofs.Common.{◌≡◌, ◌<◌, ℕ, zero, suc, List, [], ◌∷◌, ◌++◌, length, map, refl, sym, ap, ◌∙◌, subst, arith, ⊎_elim, Some}
use Rattle.rubis_workers.proofs.Common.{slice_get, All, AllZip, IsPermutation, length-map, All-nil, All-cons, IsPermutation-sym, IsPermutation-trans}
use Rattle.rubis_workers.proofs.Common.{IsPermutation-map, slice_get_cases, Core, ShardState, AreInOrder, IsFault, numbers_of, IsCounted, IsInOrder}
use Rattle.rubis_workers.proofs.Common.{FaultKind, Piece, Done, no_fault_if_moved, AreFollowed}
use Rattle.std.specs.Option.{option_map}
use Rattle.std.proofs.lemmas.List.{map-append}
use Rattle.std.proofs.lemmas.Option.{slice_get-map, get_or_from_slice_get}
use Rattle.rubis_pieces.specs.declared.gathers.CountedShards.{CountedShards}
use Rattle.rubis_pieces.proofs.Folded.{same_order}
use Rattle.rubis_pieces.specs.Following.{IsFollowed}
use Rattle.rubis_workers.specs.Work.{bare}
use Rattle.rubis_workers.proofs.Folded.{one_posted, zip_length, moves_along}

-- ---- posting
pub bare_last : (all : List Piece) (left : List ShardState) (posted : List Piece) (s : ShardState)
    → IsPermutation all (map bare (left ++ s ∷ []) ++ posted)
    → IsPermutation all (map bare left ++ (posted ++ bare s ∷ []))
bare_last all left posted s h =
    one_posted all (map bare left) posted (bare s)
    (subst (λ l. IsPermutation all (l ++ posted)) (map-append bare left (s ∷ [])) h)

-- each shard of a set has a place for its parts
pub all_bare : (P : Piece → Type 0) (ss : List ShardState) → ((k : ℕ) (s : ShardState) → slice_get ss k ≡ Some s → P (bare s))
    → All P (map bare ss)
all_bare P [] h = All-nil P
all_bare P (s ∷ ss) h = All-cons P (bare s) (map bare ss) (h 0 s refl) (all_bare P ss (λ k t e. h (suc k) t e))

-- ---- what is done, by place
module _ (first : ℕ) (batch : List Core) where
  abbrev IsDone : Piece → Done → Type 0
  IsDone p d = IsFollowed first batch p.shard d.done d.shard

  pub counts_length : (ps : List Piece) (ds : List Done) → AllZip IsDone ps ds → length ps ≡ length ds
  counts_length ps ds h = zip_length IsDone ps ds h

  done_length : (ss : List ShardState) (ds : List Done) → AllZip IsDone (map bare ss) ds → length ds ≡ length ss
  done_length [] [] h = refl
  done_length [] (d ∷ ds) h = absurd h
  done_length (s ∷ ss) [] h = absurd h
  done_length (s ∷ ss) (d ∷ ds) h = ap (λ n. suc n) (done_length ss ds h.1)

  done_at : (ss : List ShardState) (ds : List Done) → AllZip IsDone (map bare ss) ds → (k : ℕ) (s : ShardState)
      → slice_get ss k ≡ Some s → (d : Done) × (slice_get ds k ≡ Some d) × IsFollowed first batch s d.done d.shard
  done_at [] ds h k s e = absurd cc
  done_at (t ∷ ss) [] h k s e = absurd h
  done_at (t ∷ ss) (d ∷ ds) h zero s e =
      let is : t ≡ s = cc in (d, refl, subst (λ x. IsFollowed first batch x d.done d.shard) is h.0)
  done_at (t ∷ ss) (d ∷ ds) h (suc k) s e = done_at ss ds h.1 k s e

  -- the shards, the pieces that were taken, in what order it be, and what was done of each
  module _ (ss : List ShardState) (taken : List Piece) (list : List Done) (order : AreInOrder ss)
      (moved : IsPermutation (map bare ss) taken) (worked : AllZip IsDone taken list) where
    -- the same in the order of the shards
    in_place : (ds : List Done) × AllZip IsDone (map bare ss) ds × IsPermutation list ds
    in_place = moves_along IsDone taken (map bare ss) list (IsPermutation-sym _ _ moved) worked

    abbrev placed : List Done
    placed = in_place.0

    many : length placed ≡ length ss
    many = done_length ss placed in_place.1

    numbered : (k : ℕ) (s : ShardState) → slice_get ss k ≡ Some s → slice_get (numbers_of placed) k ≡ Some k
    numbered k s e =
        let (d, at, followed) = done_at ss placed in_place.1 k s e in
        slice_get-map (λ (x : Done). x.shard.number) placed k ∙ ap (option_map (λ (x : Done). x.shard.number)) at
        ∙ ap Some (ap (λ (x : ShardState). x.number) followed.shard ∙ (order k s e).0)

    numbers : (k : ℕ) → k < length ss → slice_get (numbers_of placed) k ≡ Some k
    numbers k l = ⊎_elim (λ w. numbered k w.0 w.2) (λ w. let high = w.0 in absurd (omega arith)) (slice_get_cases ss k).1

    pub no_fault : (kind : FaultKind) → IsFault (length ss) (numbers_of list) kind → ⊥
    no_fault =
        no_fault_if_moved (length ss) (numbers_of placed) (numbers_of list)
        (length-map placed (λ (d : Done). d.shard.number) ∙ many) numbers
        (IsPermutation-map (λ (d : Done). d.shard.number) placed list (IsPermutation-sym list placed in_place.2))

    pub followed : (c : CountedShards) → IsCounted (length ss) list c → AreFollowed first batch ss c.shards c.dones
    followed c (ds, sorted, shards_are, dones_are) =
        let again : IsInOrder (length ss) placed ds =
        record {
          moved = IsPermutation-trans placed list ds (IsPermutation-sym list placed in_place.2) sorted.moved;
          many = sorted.many;
          placed = sorted.placed;
        } in
        let same : ds ≡ placed = same_order (length ss) placed ds many numbers again in
        let shards : c.shards ≡ map (λ (d : Done). d.shard) placed = shards_are ∙ ap (map (λ (d : Done). d.shard)) same in
        let dones : c.dones ≡ map (λ (d : Done). d.done) placed = dones_are ∙ ap (map (λ (d : Done). d.done)) same in
        record {
          many = ap length shards ∙ length-map placed (λ (d : Done). d.shard) ∙ many;
          counts = ap length dones ∙ length-map placed (λ (d : Done). d.done) ∙ many;
          each = λ k s e.
              let (d, at, done) = done_at ss placed in_place.1 k s e in
              let count : slice_get c.dones k ≡ Some d.done =
              ap (λ l. slice_get l k) dones ∙ slice_get-map (λ (x : Done). x.done) placed k
              ∙ ap (option_map (λ (x : Done). x.done)) at in (
                d.shard,
                ap (λ l. slice_get l k) shards ∙ slice_get-map (λ (x : Done). x.shard) placed k
                    ∙ ap (option_map (λ (x : Done). x.shard)) at,
                subst (λ n. IsFollowed first batch s n d.shard) (sym (get_or_from_slice_get c.dones k d.done 0 count)) done,
              );
        }
