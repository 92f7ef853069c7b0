-- Every schedule folds the batch.
use Rattle.std.proofs.Common.{◌≡◌, ℕ, ◌<◌, List, [], ◌∷◌, length, refl, ap, ◌∙◌, subst, zero, suc, ◌+◌, ◌++◌, get_or, take, cond, false, sym, arith, ⊎_elim}
use Rattle.std.specs.Prelude.{Some, slice_get, map, option_map, Option, None, flat_map, nat_lt}
use Rattle.std.specs.List.{AllZip, All}
use Rattle.std.specs.List.Sorted.{IsPermutation}
use Rattle.std.proofs.lemmas.List.{length-map, take_all}
use Rattle.std.proofs.lemmas.List.Sorted.{IsPermutation-map, All-permutation}
use Rattle.std.proofs.lemmas.Option.{slice_get-map, slice_get_cases, get_or_from_slice_get}
use Rattle.rubis_shard.specs.States.{ShardState, with_parts}
use Rattle.rubis_pieces.specs.Batches.{numbers_of, IsFault, IsWorked, IsInOrder, IsGathered, share_left, pieces_of}
use Rattle.rubis_pieces.specs.declared.gathers.FaultKind.{FaultKind}
use Rattle.rubis_pieces.proofs.Folded.{no_fault_if_moved}
use Rattle.rubis_pieces.specs.declared.pieces.Piece.{Piece}
use Rattle.rubis_pieces.specs.declared.pieces.Done.{Done}
use Rattle.rubis_pool_core.specs.Machine.{PoolState, IsShareDone, run_of}
use Rattle.rubis_pool_core.specs.Batches.{Accounted, present, IsWorkedSlot, FoldsTheBatch, IsAtEnd, HoldsTheBatch, EveryScheduleFoldsTheBatch}
use Rattle.std.proofs.lemmas.Bool.{le-ltb}
use Rattle.std.proofs.lemmas.List.Elements.{All-nil, All-cons}
use Rattle.rubis_model.specs.Log.{Core, share}
use Rattle.rubis_shard.specs.Holdings.{shard_of_log, HoldsLog}
use Rattle.rubis_shard.specs.declared.shares.Share.{Share}
use Rattle.rubis_shard.proofs.Logs.{shard_with_share}
use Rattle.rubis_shard.proofs.Unions.{union_of_log}
use Rattle.rubis_pieces.proofs.Order.{misfits_are}
use Rattle.rubis_pieces.specs.declared.gathers.Gathered.{Gathered}
use Rattle.rubis_pool_core.proofs.Accounts.{every}

abbrev number_of : Piece → ℕ
number_of p = p.shard.number

-- work leaves the number
numbers_kept : (ps : List Piece) (ds : List Done) → AllZip IsWorked ps ds → numbers_of ds ≡ map number_of ps
numbers_kept [] [] h = refl
numbers_kept [] (d ∷ ds) h = absurd h
numbers_kept (p ∷ ps) [] h = absurd h
numbers_kept (p ∷ ps) (d ∷ ds) h =
    let same : d.shard.number ≡ p.shard.number = ap (λ (s : ShardState). s.number) h.0.shard in
    λ i. same i ∷ numbers_kept ps ds h.1 i

pub never_faulty : (shards : ℕ) (pieces : List Piece) (s : PoolState) (a : Accounted pieces s) → IsPermutation pieces a.returned
    → length pieces ≡ shards
    → ((k : ℕ) → k < shards → (p : Piece) × (slice_get pieces k ≡ Some p) × (p.shard.number ≡ k)) → (kind : FaultKind)
    → IsFault shards (numbers_of s.returned) kind → ⊥
never_faulty shards pieces s a moved many each kind fault =
    no_fault_if_moved shards (map number_of pieces) (map number_of a.returned) (length-map pieces number_of ∙ many)
    (λ k less. let p = each k less in slice_get-map number_of pieces k ∙ ap (option_map number_of) p.1 ∙ ap (λ n. Some n) p.2)
    (IsPermutation-map number_of pieces a.returned moved) kind
    (subst (λ ns. IsFault shards ns kind) (numbers_kept a.returned s.returned a.returned_worked) fault)

-- ---- every schedule folds the batch

none_present : (ps : List (Option Piece)) (ds : List (Option Done)) → AllZip IsWorkedSlot ps ds
    → ((w : ℕ) (d : Done) → slice_get ds w ≡ Some (Some d) → ⊥) → present ps ≡ []
none_present [] ds h none = refl
none_present (p ∷ ps) [] h none = absurd h
none_present (None ∷ ps) (d ∷ ds) h none = none_present ps ds h.1 (λ w. none (suc w))
none_present (Some p ∷ ps) (None ∷ ds) h none = absurd h.0
none_present (Some p ∷ ps) (Some d ∷ ds) h none = absurd (none zero d refl)

-- at the end all were returned
all_returned : (pieces : List Piece) (s : PoolState) (a : Accounted pieces s) → IsAtEnd s → IsPermutation pieces a.returned
all_returned pieces s a end =
    let none : present a.held ≡ [] = none_present a.held s.held a.held_worked end.none_held in
    subst (λ (l : List Piece × List Piece). IsPermutation pieces (l.0 ++ (l.1 ++ a.returned)))
    (λ i. (end.none_posted i, none i)) a.once

-- what is whole leaves nothing
none_left : (ds : List Done) → All IsShareDone ds → flat_map share_left ds ≡ []
none_left [] h = refl
none_left (d ∷ ds) h =
    let whole : d.done ≡ length d.share.effects = h 0 d (omega arith) in
    let not_less : nat_lt d.done (length d.share.effects) ≡ false = le-ltb d.done (length d.share.effects) (omega arith) in
    ap (λ b. cond b (record { share = d.share; done = d.done } ∷ []) [] ++ flat_map share_left ds) not_less
    ∙ none_left ds (λ k e less. h (suc k) e (omega arith))

module _ (shards : ℕ) (log batch : List Core) where
  -- shard k of the log, with its share of the batch
  abbrev pub piece_of_batch : ℕ → Piece
  piece_of_batch k =
      record { shard = shard_of_log shards log k; share = record { number = k; effects = share shards (1 + length log) batch k } }

  -- one of the pieces
  abbrev IsOfBatch : Piece → Type 0
  IsOfBatch p = (k : ℕ) × (k < shards) × (p ≡ piece_of_batch k)

  -- one of the shards of the log with the batch
  abbrev IsFolded : Done → Type 0
  IsFolded d = (k : ℕ) × (k < shards) × (d.shard ≡ shard_of_log shards (log ++ batch) k)

  folded : (p : Piece) (d : Done) → IsOfBatch p → IsWorked p d → IsShareDone d → IsFolded d
  folded p d (k, inside, is) worked whole =
      let ns = share shards (1 + length log) batch k in
      let same : d.share.effects ≡ ns = ap (λ s. s.effects) worked.share ∙ ap (λ (q : Piece). q.share.effects) is in
      let long = ap length same in
      let all : take d.done ns ≡ ns = take_all d.done ns (omega (arith, long, whole)) in (
        k,
        inside,
        worked.shard ∙ ap (λ (q : Piece). with_parts q.shard (take d.done q.share.effects)) is
            ∙ ap (with_parts (shard_of_log shards log k)) all ∙ shard_with_share shards log batch k,
      )

  all_folded : (ps : List Piece) (ds : List Done) → AllZip IsWorked ps ds → All IsOfBatch ps → All IsShareDone ds → All IsFolded ds
  all_folded [] [] h of whole = All-nil IsFolded
  all_folded [] (d ∷ ds) h of whole = absurd h
  all_folded (p ∷ ps) [] h of whole = absurd h
  all_folded (p ∷ ps) (d ∷ ds) h of whole =
      All-cons IsFolded d ds (folded p d (of 0 p (omega arith)) h.0 (whole 0 d (omega arith)))
      (all_folded ps ds h.1 (λ k q less. of (suc k) q (omega arith)) (λ k e less. whole (suc k) e (omega arith)))

  -- the shards in order hold the log with the batch
  holds : (returned ds : List Done) → IsInOrder shards returned ds → All IsFolded ds
      → HoldsLog shards (log ++ batch) (map (λ (d : Done). d.shard) ds)
  holds returned ds order all = record { many = length-map ds (λ (d : Done). d.shard) ∙ order.many; each = at }
    where
      here : (k : ℕ) (d : Done) → slice_get ds k ≡ Some d → k < length ds → k < shards
          → d.shard ≡ shard_of_log shards (log ++ batch) k
      here k d is inside less =
          let f = all k d inside in
          let same : get_or ds k d ≡ d = get_or_from_slice_get ds k d d is in
          let shard : d.shard ≡ shard_of_log shards (log ++ batch) f.0 = ap (λ (e : Done). e.shard) (sym same) ∙ f.2 in
          let placed : Some d.shard.number ≡ Some k =
          sym (slice_get-map (λ (e : Done). e.shard.number) ds k ∙ ap (option_map (λ (e : Done). e.shard.number)) is)
          ∙ order.placed k less in
          let place : d.shard.number ≡ k = cc in
          shard ∙ ap (shard_of_log shards (log ++ batch)) (sym (ap (λ (s : ShardState). s.number) shard) ∙ place)

      at : (k : ℕ) → k < shards → slice_get (map (λ (d : Done). d.shard) ds) k ≡ Some (shard_of_log shards (log ++ batch) k)
      at k less = slice_get-map (λ (d : Done). d.shard) ds k ∙ ⊎_elim
          (λ w. ap (option_map (λ (d : Done). d.shard)) w.2 ∙ ap (λ s. Some s) (here k w.0 w.2 w.1 less))
          (λ w. absurd (let past = w.0 in let many = order.many in omega arith)) (slice_get_cases ds k).1

  module _ (pieces : List Piece) (many : length pieces ≡ shards)
      (each : (k : ℕ) → k < shards → slice_get pieces k ≡ Some (piece_of_batch k)) where
    each_of_batch : All IsOfBatch pieces
    each_of_batch k d less =
        let inside : k < shards = omega arith in
        (k, inside, get_or_from_slice_get pieces k (piece_of_batch k) d (each k inside))

    gathers : (s : PoolState) → Accounted pieces s → IsAtEnd s → (g : Gathered) → IsGathered shards s.returned g
        → HoldsTheBatch shards log batch g
    gathers s a end g (ds, order, shards_are, left_is) =
        let done : All IsFolded s.returned =
        all_folded a.returned s.returned a.returned_worked
        (All-permutation IsOfBatch pieces a.returned (all_returned pieces s a end) each_of_batch) a.returned_whole in
        let log_holds : HoldsLog shards (log ++ batch) g.shards =
        subst (HoldsLog shards (log ++ batch)) (sym shards_are)
        (holds s.returned ds order (All-permutation IsFolded s.returned ds order.moved done)) in
        record {
          holds = log_holds;
          tables = λ some. union_of_log shards (log ++ batch) g.shards some log_holds;
          misfits = λ some ms moved sorted. misfits_are shards (log ++ batch) g.shards ms some log_holds moved sorted;
          none_left = left_is ∙ none_left ds (All-permutation IsShareDone s.returned ds order.moved a.returned_whole);
        }

-- ---- the pieces of shards with their shares
pair_at : (ts : List ShardState) (shares : List Share) (k : ℕ) (s : ShardState) (e : Share) → slice_get ts k ≡ Some s
    → slice_get shares k ≡ Some e
    → slice_get (pieces_of ts shares) k ≡ Some (record { shard = s; share = e })
pair_at [] shares k s e at there = absurd cc
pair_at (t ∷ ts) [] k s e at there = absurd cc
pair_at (t ∷ ts) (x ∷ shares) zero s e at there =
    let a : t ≡ s = cc in
    let b : x ≡ e = cc in
    λ i. Some (record { shard = a i; share = b i })
pair_at (t ∷ ts) (x ∷ shares) (suc k) s e at there = pair_at ts shares k s e at there

pairs : (ts : List ShardState) (shares : List Share) → length ts ≡ length shares → length (pieces_of ts shares) ≡ length ts
pairs [] shares e = refl
pairs (t ∷ ts) [] e = absurd (omega arith)
pairs (t ∷ ts) (x ∷ shares) e = let h = pairs ts shares (omega arith) in omega arith

-- the machine accounted for these pieces, in whatever order they were posted
pub folds_pieces : (shards : ℕ) (log batch : List Core) (pieces : List Piece) (s : PoolState) → length pieces ≡ shards
    → ((k : ℕ) → k < shards → slice_get pieces k ≡ Some (piece_of_batch shards log batch k)) → Accounted pieces s → IsAtEnd s
    → FoldsTheBatch shards log batch s.returned
folds_pieces shards log batch pieces s many each a end =
    record {
      no_fault = never_faulty shards pieces s a (all_returned pieces s a end) many
          (λ k less. (piece_of_batch shards log batch k, each k less, refl));
      gathered = gathers shards log batch pieces many each s a end;
    }

pub folds_the_batch : EveryScheduleFoldsTheBatch
folds_the_batch shards workers log batch ts shares events held dealt end =
    let pieces : List Piece = pieces_of ts shares in
    folds_pieces shards log batch pieces (run_of workers pieces events)
    (pairs ts shares (held.many ∙ sym dealt.many) ∙ held.many)
    (λ k less. pair_at ts shares k _ _ (held.each k less) (dealt.each k less)) (every workers pieces events) end
