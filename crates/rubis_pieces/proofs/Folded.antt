-- Shards in order of number, with a beginning of their shares folded on.
use Rattle.rubis_pieces.proofs.Common.{ℕ, suc, [], ◌∷◌, ◌≡◌, ◌+◌, ◌<◌, List, length, Bool, true, false, refl, sym, ap, ◌∙◌, subst, arith, get_or, set}
use Rattle.rubis_pieces.proofs.Common.{⊎_elim, zero, ◌-◌, ◌≤◌, ◌++◌, take, drop, cond, Some, nat_eq, slice_get, sum_by, map, slice_index, nat_lt}
use Rattle.rubis_pieces.proofs.Common.{flat_map, ⊤, Decides-eqb, nat_tests, slice_get-get_or, slice_get_read, slice_get_within, get_or_from_slice_get}
use Rattle.rubis_pieces.proofs.Common.{length-set, length-map, get_or-map, drop_all, same_lists, sum_by-cons, below_or_last, written_here}
use Rattle.rubis_pieces.proofs.Common.{written_elsewhere, IsNonDecreasingBy, IsPermutation, home, Numbered, Core, numbered_from, share, ShardState}
use Rattle.rubis_pieces.proofs.Common.{with_parts, shard_of_log, parts_at, HoldsLog, Share, not_equal, with_append, shard_with_share}
use Rattle.std.proofs.Common.{add-one, ◌≢◌, true≢false}
use Rattle.std.specs.Prelude.{All}
use Rattle.std.proofs.lemmas.Option.{slice_get-map}
use Rattle.std.proofs.lemmas.List.{take-append-drop}
use Rattle.std.proofs.lemmas.List.Sums.{sum_by-set}
use Rattle.std.specs.List.{AllByRecursion, IsDistinct, Contains}
use Rattle.std.specs.List.Sorted.{IsNonDecreasing, IsStrictlyIncreasing}
use Rattle.std.specs.Cmp.{nat_eq_equiv}
use Rattle.std.proofs.lemmas.List.Sorted.{IsPermutation-map, All-permutation, IsPermutation-sym, Contains-permutation}
use Rattle.std.proofs.lemmas.Map.Keys.{IsDistinct-IsPermutation, IsStrictlyIncreasing-from_distinct, apart_from_distinct}
use Rattle.std.proofs.lemmas.Map.Views.{All-map-IsPermutation}
use Rattle.std.specs.Option.{option_map}
use Rattle.std.proofs.lemmas.List.Elements.{All-cons}
use Rattle.rubis_shard.specs.States.{IsHomeOf}
use Rattle.rubis_shard.specs.Holdings.{AreInOrder}
use Rattle.rubis_shard.proofs.Unions.{AreFrom, from_rest, from_first}
use Rattle.rubis_pieces.specs.declared.pieces.Done.{Done}
use Rattle.rubis_pieces.specs.Batches.{AllUnseen, StandsBelow, IsSoundTo, IsSeenTo, numbers_of, IsGatherable, IsInOrder, IsFault, IsFolded, Belong, AreSharesFolded}
use Rattle.rubis_pieces.specs.Batches.{rest_of, AreLeft, IsBegun, AreUnfinished, HoldsBut, TakesBatch, TakesWholeBatch, share_left, AreShares}
use Rattle.rubis_pieces.specs.declared.gathers.FaultKind.{FaultKind}
use Rattle.rubis_pieces.specs.declared.gathers.FaultKind.TheVariants.{Stranger, Twice, Missing}
use Rattle.rubis_pieces.specs.declared.pieces.Left.{Left}

abbrev pub trues : List Bool → ℕ
trues seen = sum_by (λ b. cond b 1 0) seen

pub number_at : (ds : List Done) (i : ℕ) (d : Done) → i < length ds → d ≡ get_or ds i d
    → slice_get (numbers_of ds) i ≡ Some d.shard.number
number_at ds i d l e =
    slice_get-get_or (numbers_of ds) i d.shard.number (let w = length-map ds (λ (x : Done). x.shard.number) in
    omega (arith, w, l))
    ∙ ap Some (get_or-map (λ (x : Done). x.shard.number) ds i d d.shard.number l ∙ ap (λ (x : Done). x.shard.number) (sym e))

pub sound_more : (shards i p : ℕ) (ns : List ℕ) → IsSoundTo shards i ns → slice_get ns i ≡ Some p → p < shards
    → (StandsBelow i ns p → ⊥) → IsSoundTo shards (i + 1) ns
sound_more shards i p ns h at l new = record {
  below = λ j n lt e. ⊎_elim (λ b. h.below j n b e) (λ s. (let v : p ≡ n = (let w = sym at ∙ ap (slice_get ns) (sym s) ∙ e in
      cc) in subst (λ z. z < shards) v l)) (below_or_last j i lt);
  once = λ j n lt e b. ⊎_elim (λ z. h.once j n z e b)
      (λ s. (let v : n ≡ p = (let w = sym at ∙ ap (slice_get ns) (sym s) ∙ e in cc) in
      new (subst (λ z. StandsBelow z ns p) s (subst (λ z. StandsBelow j ns z) v b)))) (below_or_last j i lt);
}

pub seen_more : (i p : ℕ) (ns : List ℕ) (seen : List Bool) → IsSeenTo i ns seen → slice_get ns i ≡ Some p → p < length seen
    → IsSeenTo (i + 1) ns (set seen p true)
seen_more i p ns seen h at l = record {
  yes = λ k e. yes_at k e (nat_eq k p) refl;
  no = λ k e b. no_at k e b (nat_eq k p) refl;
}
  where
    inside : (k : ℕ) (b : Bool) → slice_get (set seen p true) k ≡ Some b → k < length seen
    inside k b e = let w = length-set seen p true in let v = slice_get_within (set seen p true) k b e in omega (arith, w, v)

    other : (k : ℕ) → nat_eq k p ≡ false → k ≡ p → ⊥
    other k q s = true≢false (sym ((Decides-eqb k p).1 s) ∙ q)

    more : (k : ℕ) → StandsBelow i ns k → StandsBelow (i + 1) ns k
    more k s = (s.0, (let z = s.1 in omega (arith, z)), s.2)

    yes_at : (k : ℕ) → slice_get (set seen p true) k ≡ Some true → (b : Bool) → nat_eq k p ≡ b → StandsBelow (i + 1) ns k
    yes_at k e true q = (i, omega arith, at ∙ ap Some (sym ((Decides-eqb k p).0 q)))
    yes_at k e false q = more k (h.yes k (sym (written_elsewhere seen p k true (other k q) (inside k true e)) ∙ e))

    no_at : (k : ℕ) → slice_get (set seen p true) k ≡ Some false → StandsBelow (i + 1) ns k → (b : Bool) → nat_eq k p ≡ b → ⊥
    no_at k e s true q =
        let w : Some true ≡ Some false = sym (written_here seen p true l)
        ∙ ap (slice_get (set seen p true)) (sym ((Decides-eqb k p).0 q)) ∙ e in cc
    no_at k e s false q =
        ⊎_elim (λ b. h.no k (sym (written_elsewhere seen p k true (other k q) (inside k false e)) ∙ e) (s.0, b, s.2))
        (λ z. other k q (let w = sym s.2 ∙ ap (slice_get ns) z ∙ at in let v : k ≡ p = cc in v)) (below_or_last s.0 i s.1)

pub flag : (seen : List Bool) (k : ℕ) (b : Bool) → k < length seen → b ≡ get_or seen k b → slice_get seen k ≡ Some b
flag seen k b l e = slice_get_read seen (length seen) k b refl l e

pub seen_one_more : (m n : ℕ) (ns : List ℕ) (seen : List Bool) → IsSeenTo m ns seen → slice_get seen n ≡ Some true → ((k : ℕ)
    → k < n → StandsBelow m ns k) → (k : ℕ) → k < n + 1 → StandsBelow m ns k
seen_one_more m n ns seen h e all k l = ⊎_elim (λ b. all k b) (λ s. h.yes k (ap (slice_get seen) s ∙ e)) (below_or_last k n l)

num_ap : {b c : Bool} → b ≡ c → ◌≡◌ {A = ℕ} (cond b 1 0) (cond c 1 0)
num_ap e = λ i. cond (e i) 1 0

pub none_true : (seen : List Bool) → AllUnseen seen → trues seen ≡ 0
none_true [] h = refl
none_true (b ∷ seen) h =
    let t = sum_by-cons (λ (b : Bool). cond b 1 0) b seen in
    let rest = none_true seen (λ k c e. h (suc k) c e) in
    let z : ◌≡◌ {A = ℕ} (cond b 1 0) 0 = num_ap (h 0 b refl) in
    omega (arith, t, rest, z)

pub all_true : (seen : List Bool) → ((k : ℕ) → k < length seen → slice_get seen k ≡ Some true) → trues seen ≡ length seen
all_true [] h = refl
all_true (b ∷ seen) h =
    let t = sum_by-cons (λ (b : Bool). cond b 1 0) b seen in
    let rest = all_true seen (λ k l. h (suc k) (omega (arith, l))) in
    let is : b ≡ true = (let w = h 0 (omega arith) in cc) in
    let z : ◌≡◌ {A = ℕ} (cond b 1 0) 1 = num_ap is in
    omega (arith, t, rest, z)

pub one_true_more : (seen : List Bool) (p : ℕ) → p < length seen → slice_get seen p ≡ Some false
    → trues (set seen p true) ≡ trues seen + 1
one_true_more seen p l e =
    let t = sum_by-set (λ (b : Bool). cond b 1 0) seen p true false l in
    let is : get_or seen p false ≡ false = get_or_from_slice_get seen p false false e in
    let z : ◌≡◌ {A = ℕ} (cond (get_or seen p false) 1 0) 0 = num_ap is in
    omega (arith, t, z)

pub one_flag_more : (seen : List Bool) (n : ℕ) → slice_get seen n ≡ Some true → ((k : ℕ) → k < n
    → slice_get seen k ≡ Some true) → (k : ℕ) → k < n + 1 → slice_get seen k ≡ Some true
one_flag_more seen n e all k l = ⊎_elim (λ b. all k b) (λ s. ap (slice_get seen) s ∙ e) (below_or_last k n l)

-- ---- a list of shards, each number once, sorted by number: each stands at its number

non_decreasing : {X : Type 0} (f : X → ℕ) (xs : List X) → IsNonDecreasingBy f xs → IsNonDecreasing (map f xs)
non_decreasing f [] h i j e le lt = absurd (omega arith)
non_decreasing f (x ∷ xs) h i j e le lt =
    let inside : j < length (x ∷ xs) = subst (λ n. j < n) (length-map (x ∷ xs) f) lt in
    let before : i < length (x ∷ xs) = omega arith in
    let a : get_or (map f (x ∷ xs)) i e ≡ f (get_or (x ∷ xs) i x) = get_or-map f (x ∷ xs) i x e before in
    let b : get_or (map f (x ∷ xs)) j e ≡ f (get_or (x ∷ xs) j x) = get_or-map f (x ∷ xs) j x e inside in
    let o : f (get_or (x ∷ xs) i x) ≤ f (get_or (x ∷ xs) j x) = h i j x le inside in
    omega arith

climb : (xs : List ℕ) → IsStrictlyIncreasing xs → (k : ℕ) → k < length xs → k ≤ slice_index xs k
climb xs h zero l = omega arith
climb xs h (suc k) l =
    let a : k ≤ slice_index xs k = climb xs h k (omega arith) in
    let b : slice_index xs k < slice_index xs (k + 1) = h k (omega arith) in
    let c : slice_index xs k < slice_index xs (suc k) = rw add-one at b in
    omega arith

room : (xs : List ℕ) → IsStrictlyIncreasing xs → All (λ x. x < length xs) xs → (m k : ℕ) → k + m < length xs
    → slice_index xs k + m < length xs
room xs h below zero k l = let a : slice_index xs k < length xs = below k 0 (omega arith) in omega arith
room xs h below (suc m) k l =
    let a : slice_index xs (k + 1) + m < length xs = room xs h below m (k + 1) (omega arith) in
    let b : slice_index xs k < slice_index xs (k + 1) = h k (omega arith) in
    omega arith

pub at_its_number : (xs : List ℕ) → IsStrictlyIncreasing xs → All (λ x. x < length xs) xs → (k : ℕ) → k < length xs
    → slice_index xs k ≡ k
at_its_number xs h below k l =
    let a = climb xs h k l in
    let b : slice_index xs k + (length xs - 1 - k) < length xs = room xs h below (length xs - 1 - k) k (omega arith) in
    omega arith

pub placed : {X : Type 0} (f : X → ℕ) (xs ys : List X) → IsDistinct nat_eq (map f xs) → All (λ n. n < length xs) (map f xs)
    → IsPermutation xs ys → length ys ≡ length xs → IsNonDecreasingBy f ys
    → (k : ℕ) → k < length ys → slice_index (map f ys) k ≡ k
placed f xs ys distinct below p same sorted k l =
    let d : IsDistinct nat_eq (map f ys) = IsDistinct-IsPermutation nat_eq nat_eq_equiv.symm (map f xs) (map f ys)
    (IsPermutation-map f xs ys p) distinct in
    let u = IsStrictlyIncreasing-from_distinct (map f ys) (non_decreasing f ys sorted) d in
    let n : length xs ≡ length (map f ys) = sym same ∙ sym (length-map ys f) in
    let b : All (λ x. x < length (map f ys)) (map f ys) = subst (λ m. All (λ x. x < m) (map f ys)) n (All-map-IsPermutation f
    (λ x. x < length xs) xs ys p below) in
    at_its_number (map f ys) u b k (subst (λ m. k < m) (sym (length-map ys f)) l)

apart : (x : ℕ) (xs : List ℕ) → ((j n : ℕ) → slice_get xs j ≡ Some n → x ≡ n → ⊥) → AllByRecursion (λ y. nat_eq x y ≡ false) xs
apart x [] h = tt
apart x (y ∷ xs) h = (differ (nat_eq x y) refl, apart x xs (λ j n g e. h (suc j) n g e))
  where
    differ : (b : Bool) → nat_eq x y ≡ b → nat_eq x y ≡ false
    differ true e = absurd (h 0 y refl ((Decides-eqb x y).0 e))
    differ false e = e

pub distinct_from : (ns : List ℕ) → ((j n : ℕ) → slice_get ns j ≡ Some n → StandsBelow j ns n → ⊥) → IsDistinct nat_eq ns
unfolding IsDistinct
distinct_from [] h = tt
distinct_from (x ∷ xs) h = (
  apart x xs (λ j n g e. h (suc j) n g (0, omega arith, ap Some e)),
  distinct_from xs (λ j n g b. h (suc j) n g (suc b.0, (let l = b.1 in omega (arith, l)), b.2)),
)

pub in_order : (shards : ℕ) (list ds : List Done) → IsGatherable shards (numbers_of list) → IsPermutation list ds
    → length ds ≡ length list
    → IsNonDecreasingBy (λ (d : Done). d.shard.number) ds → IsInOrder shards list ds
in_order shards list ds g p same sorted = record {
  moved = p;
  many = omega (arith, same, m, long);
  placed = λ k l.
      let within : k < length ds = omega (arith, l, same, m, long) in
      let counted = length-map ds (λ (d : Done). d.shard.number) in
      slice_get-get_or (numbers_of ds) k 0 (omega (arith, within, counted))
      ∙ ap Some (placed (λ (d : Done). d.shard.number) list ds distinct below p same sorted k within);
}
  where
    ns : List ℕ
    ns = numbers_of list

    long : length ns ≡ length list
    long = length-map list (λ (d : Done). d.shard.number)

    m : length ns ≡ shards
    m = g.many

    below : All (λ n. n < length list) ns
    below k e l =
        let at : slice_get ns k ≡ Some (get_or ns k e) = slice_get-get_or ns k e l in
        let b = g.sound.below k (get_or ns k e) l at in
        omega (arith, b, m, long)

    distinct : IsDistinct nat_eq ns
    distinct = distinct_from ns (λ j n e b. g.sound.once j n (slice_get_within ns j n e) e b)

-- ---- the numbers from 0 on, in any order, have no fault

module _ (shards : ℕ) (ms ns : List ℕ) (many : length ms ≡ shards) (each : (k : ℕ) → k < shards → slice_get ms k ≡ Some k)
    (moved : IsPermutation ms ns) where
  at : (k n : ℕ) → slice_get ms k ≡ Some n → n ≡ k
  at k n is =
      let inside : k < length ms = slice_get_within ms k n is in
      let there = each k (omega arith) in
      let same : Some n ≡ Some k = sym is ∙ there in
      cc

  no_stranger : All (λ n. n < shards) ns
  no_stranger =
      All-permutation (λ n. n < shards) ms ns moved
      (λ k d less. subst (λ n. n < shards) (sym (get_or_from_slice_get ms k k d (each k (omega arith)))) (omega arith))

  none_twice : IsDistinct nat_eq ns
  none_twice =
      IsDistinct-IsPermutation nat_eq nat_eq_equiv.symm ms ns moved
      (distinct_from ms (λ j n is (i, less, there). let a = at j n is in let b = at i n there in omega arith))

  not_twice : (p i j : ℕ) → j < i → slice_get ns i ≡ Some p → slice_get ns j ≡ Some p → ⊥
  not_twice p i j less is there =
      let differ : nat_eq (get_or ns j p) (get_or ns i p) ≡ false =
      apart_from_distinct nat_eq ns j i p none_twice less (slice_get_within ns i p is) in
      let same : nat_eq (get_or ns j p) (get_or ns i p) ≡ true =
      (Decides-eqb _ _).1 (get_or_from_slice_get ns j p p there ∙ sym (get_or_from_slice_get ns i p p is)) in
      true≢false (sym same ∙ differ)

  none_missing : (p : ℕ) → p < shards → (StandsBelow (length ns) ns p → ⊥) → ⊥
  none_missing p less absent =
      let differ : All (λ n. n ≢ p) ms =
      All-permutation (λ n. n ≢ p) ns ms (IsPermutation-sym ms ns moved)
      (λ k d inside e. absent (k, inside, slice_get-get_or ns k d inside ∙ ap (λ n. Some n) e)) in
      differ p p (omega arith) (get_or_from_slice_get ms p p p (each p less))

  pub no_fault_if_moved : (kind : FaultKind) → IsFault shards ns kind → ⊥
  no_fault_if_moved (Stranger p) (i, sound, is, past) =
      let inside : i < length ns = slice_get_within ns i p is in
      let below : p < shards = subst (λ n. n < shards) (get_or_from_slice_get ns i p p is) (no_stranger i p inside) in
      omega arith
  no_fault_if_moved (Twice p) (i, sound, is, (j, less, there)) = not_twice p i j less is there
  no_fault_if_moved (Missing p) (sound, less, absent, first) = none_missing p less absent

-- ---- shards with a beginning of their shares folded on, in order of number

-- ---- each share is its shard's
all_at_home : (shards k : ℕ) (ns : List Numbered) → All (λ n. home shards n.effect.key ≡ k) (parts_at shards k ns)
all_at_home shards k [] = λ j d l. absurd (omega arith)
all_at_home shards k (n ∷ ns) = elim (nat_eq (home shards n.effect.key) k) as (λ b. nat_eq (home shards n.effect.key) k ≡ b
    → All (λ m. home shards m.effect.key ≡ k) (cond b (n ∷ parts_at shards k ns) (parts_at shards k ns))) [
      | true ↦ λ e. All-cons (λ m. home shards m.effect.key ≡ k) n (parts_at shards k ns) ((Decides-eqb _ _).0 e) (all_at_home
          shards k ns)
      | false ↦ λ e. all_at_home shards k ns
    ] refl

abbrev AreSharesFrom : ℕ → ℕ → List Numbered → List Share → Type 0
AreSharesFrom shards n ns hs = (j : ℕ) → j < length hs
    → slice_get hs j ≡ Some (record { number = n + j; effects = parts_at shards (n + j) ns })

belong_from : (shards n : ℕ) (ns : List Numbered) (ss : List ShardState) (hs : List Share) → AreFrom shards n ss
    → length hs ≡ length ss
    → AreSharesFrom shards n ns hs → Belong ss hs
belong_from shards n ns [] [] f m e = tt
belong_from shards n ns [] (h ∷ hs) f m e = absurd (omega arith)
belong_from shards n ns (s ∷ ss) [] f m e = absurd (omega arith)
belong_from shards n ns (s ∷ ss) (h ∷ hs) f m e = (
  record {
    number = g.0 ∙ sym (ap (λ (x : Share). x.number) is);
    home = subst (λ ps. All (IsHomeOf s) ps) (sym (ap (λ (x : Share). x.effects) is)) (λ k d l. ap (λ w. home w (get_or
        (parts_at shards (n + 0) ns) k d).effect.key) g.1 ∙ all_at_home shards (n + 0) ns k d l ∙ sym g.0);
  },
  belong_from shards (n + 1) ns ss hs (from_rest shards n s ss f) (omega arith) (λ j l.
      let z : n + suc j ≡ (n + 1) + j = omega arith in
      e (suc j) (omega arith) ∙ (λ i. Some (record { number = z i; effects = parts_at shards (z i) ns }))),
)
  where
    g : (s.number ≡ n + 0) × (s.shards ≡ shards)
    g = f 0 s refl

    is : h ≡ record { number = n + 0; effects = parts_at shards (n + 0) ns }
    is = let w = e 0 (omega arith) in cc

pub belongs : (first : ℕ) (batch : List Core) (ss : List ShardState) (hs : List Share) → AreInOrder ss
    → AreShares (length ss) first batch hs → Belong ss hs
belongs first batch ss hs order dealt =
    let m = dealt.many in
    belong_from (length ss) 0 (numbered_from first batch) ss hs (from_first ss order) m (λ j l.
    let z : j ≡ 0 + j = omega arith in
    dealt.each j (omega (arith, l, m))
    ∙ (λ i. Some (record { number = z i; effects = parts_at (length ss) (z i) (numbered_from first batch) })))

-- ---- what is folded, by place
folded_length : (ss : List ShardState) (hs : List Share) (ds : List Done) → AreSharesFolded ss hs ds → length ds ≡ length ss
folded_length [] [] [] f = refl
folded_length [] [] (d ∷ ds) f = absurd f
folded_length [] (h ∷ hs) ds f = absurd f
folded_length (s ∷ ss) [] ds f = absurd f
folded_length (s ∷ ss) (h ∷ hs) [] f = absurd f
folded_length (s ∷ ss) (h ∷ hs) (d ∷ ds) f = ap (λ n. ℕ.suc n) (folded_length ss hs ds f.1)

folded_at : (ss : List ShardState) (hs : List Share) (ds : List Done) → AreSharesFolded ss hs ds → (k : ℕ) (s : ShardState)
    → slice_get ss k ≡ Some s
    → (h : Share) × (d : Done) × (slice_get hs k ≡ Some h) × (slice_get ds k ≡ Some d) × IsFolded s h d
folded_at [] [] [] f k s e = absurd cc
folded_at [] [] (d ∷ ds) f k s e = absurd f
folded_at [] (h ∷ hs) ds f k s e = absurd f
folded_at (t ∷ ss) [] ds f k s e = absurd f
folded_at (t ∷ ss) (h ∷ hs) [] f k s e = absurd f
folded_at (t ∷ ss) (h ∷ hs) (d ∷ ds) f zero s e = let is : t ≡ s = cc in (h, d, refl, refl, subst (λ x. IsFolded x h d) is f.0)
folded_at (t ∷ ss) (h ∷ hs) (d ∷ ds) f (suc k) s e = folded_at ss hs ds f.1 k s e

-- ---- the numbers of the shards are their places
number_of : (ds : List Done) (k : ℕ) (d : Done) → slice_get ds k ≡ Some d → slice_get (numbers_of ds) k ≡ Some d.shard.number
number_of ds k d e = slice_get-map (λ (x : Done). x.shard.number) ds k ∙ ap (option_map (λ (x : Done). x.shard.number)) e

pub folded_numbers : (ss : List ShardState) (hs : List Share) (ds : List Done) → AreInOrder ss → AreSharesFolded ss hs ds
    → (k : ℕ) → k < length ss → slice_get (numbers_of ds) k ≡ Some k
folded_numbers ss hs [] order f k l = let m = folded_length ss hs [] f in absurd (omega (arith, l, m))
folded_numbers [] hs (d ∷ ds) order f k l = absurd (omega (arith, l))
folded_numbers (s ∷ ss) hs (d ∷ ds) order f k l =
    let at = slice_get-get_or (s ∷ ss) k s l in
    let t = get_or (s ∷ ss) k s in
    let w = folded_at (s ∷ ss) hs (d ∷ ds) f k t at in
    number_of (d ∷ ds) k w.1 w.3 ∙ ap Some (ap (λ (x : ShardState). x.number) w.4.shard ∙ (order k t at).0)

-- such a list has no fault
no_fault : (shards : ℕ) (ns : List ℕ) (fault : FaultKind) → length ns ≡ shards → ((k : ℕ) → k < shards
    → slice_get ns k ≡ Some k) → IsFault shards ns fault → ⊥
no_fault shards ns (Stranger p) many each f =
    let l = slice_get_within ns f.0 p f.2 in
    let e = each f.0 (omega (arith, l, many)) in
    let same : f.0 ≡ p = let a = f.2 in cc in
    let high = f.3 in omega (arith, l, many, same, high)
no_fault shards ns (Twice p) many each f =
    let l = slice_get_within ns f.0 p f.2 in
    let j = f.3.0 in
    let low = f.3.1 in
    let here = each f.0 (omega (arith, l, many)) in
    let there = each j (omega (arith, l, low, many)) in
    let same : f.0 ≡ p = let a = f.2 in cc in
    let also : j ≡ p = let a = f.3.2 in cc in
    omega (arith, same, also, low)
no_fault shards ns (Missing p) many each f = let l = f.1 in f.2 (p, omega (arith, l, many), each p l)

-- and is the only one in order
pub same_order : (shards : ℕ) (list ds : List Done) → length list ≡ shards → ((k : ℕ) → k < shards
    → slice_get (numbers_of list) k ≡ Some k)
    → IsInOrder shards list ds → ds ≡ list
same_order shards list ds many each h = same_lists ds list (h.many ∙ sym many) (λ k e l.
    let m = h.many in
    let x = get_or ds k e in
    let at : slice_get ds k ≡ Some x = slice_get-get_or ds k e l in
    let in_list : Contains list x = Contains-permutation ds list x (IsPermutation-sym list ds h.moved) (
      k,
      l,
      get_or_from_slice_get ds k x x at,
    ) in
    let j = in_list.0 in
    let there : slice_get list j ≡ Some x = slice_get-get_or list j x in_list.1 ∙ ap Some in_list.2 in
    let a = number_of ds k x at in
    let b = h.placed k (omega (arith, l, m)) in
    let c = number_of list j x there in
    let d = each j (let w = in_list.1 in omega (arith, w, many)) in
    let first : x.shard.number ≡ k = cc in
    let second : x.shard.number ≡ j = cc in
    let same : j ≡ k = sym second ∙ first in
    sym (get_or_from_slice_get list k x e (ap (slice_get list) (sym same) ∙ there)))

pub order_folded : (ss : List ShardState) (hs : List Share) (list ds : List Done) → AreInOrder ss → AreSharesFolded ss hs list
    → IsInOrder (length ss) list ds → ds ≡ list
order_folded ss hs list ds order f = same_order (length ss) list ds (folded_length ss hs list f) (folded_numbers ss hs list
    order f)

-- ---- what is left
rest_none : (n : ℕ) (ds : List Done) → ((j : ℕ) (x : Done) → slice_get ds j ≡ Some x → n < x.share.number)
    → rest_of (flat_map share_left ds) n ≡ []
rest_none n [] h = refl
rest_none n (d ∷ ds) h = elim (nat_lt d.done (length d.share.effects)) as (λ b. rest_of (cond b (record {
  share = d.share;
  done
      = d.done;
} ∷ []) [] ++ flat_map share_left ds) n ≡ []) [
  | true ↦ ap (λ b. cond b (drop d.done d.share.effects) (rest_of (flat_map share_left ds) n)) (not_equal d.share.number n (λ e.
      let l = h 0 d refl in omega (arith, e, l)))
      ∙ rest_none n ds (λ j x e. h (suc j) x e)
  | false ↦ rest_none n ds (λ j x e. h (suc j) x e)
]

abbrev AreNumbered : ℕ → List Done → Type 0
AreNumbered n ds = (j : ℕ) (x : Done) → slice_get ds j ≡ Some x → x.share.number ≡ n + j

numbered_rest : (n : ℕ) (d : Done) (ds : List Done) → AreNumbered n (d ∷ ds) → AreNumbered (n + 1) ds
numbered_rest n d ds h j x e = let w = h (suc j) x e in omega arith

rest_flat : (n : ℕ) (ds : List Done) → AreNumbered n ds → (j : ℕ) (x : Done) → slice_get ds j ≡ Some x
    → x.done ≤ length x.share.effects
    → rest_of (flat_map share_left ds) (n + j) ≡ drop x.done x.share.effects
rest_flat n [] h j x e l = absurd cc
rest_flat n (d ∷ ds) h zero x e l = elim (nat_lt d.done (length d.share.effects)) as (λ b. nat_lt d.done (length
    d.share.effects) ≡ b
    → rest_of (cond b (record { share = d.share; done = d.done } ∷ []) [] ++ flat_map share_left ds) (n + 0) ≡ drop x.done
    x.share.effects) [
      | true ↦ λ q. ap (λ b. cond b (drop d.done d.share.effects) (rest_of (flat_map share_left ds) (n + 0))) ((Decides-eqb _ _).1
          (h 0 d refl))
          ∙ (let is : d ≡ x = cc in ap (λ (y : Done). drop y.done y.share.effects) is)
      | false ↦ λ q.
          let is : d ≡ x = cc in
          let all : length d.share.effects ≤ d.done = grind (arith, nat_tests) in
          rest_none (n + 0) ds (λ k y g. let w = h (suc k) y g in omega arith)
          ∙ sym (drop_all d.done d.share.effects all) ∙ ap (λ (y : Done). drop y.done y.share.effects) is
    ] refl
rest_flat n (d ∷ ds) h (suc j) x e l =
    let z : n + suc j ≡ (n + 1) + j = omega arith in
    elim (nat_lt d.done (length d.share.effects)) as (λ b. rest_of (cond b (record { share = d.share; done = d.done } ∷ []) []
    ++ flat_map share_left ds) (n + suc j) ≡ drop x.done x.share.effects) [
      | true ↦ ap (λ b. cond b (drop d.done d.share.effects) (rest_of (flat_map share_left ds) (n + suc j))) (not_equal
          d.share.number (n + suc j) (λ q. let w = h 0 d refl in omega (arith, q, w)))
          ∙ ap (rest_of (flat_map share_left ds)) z ∙ rest_flat (n + 1) ds (numbered_rest n d ds h) j x e l
      | false ↦ ap (rest_of (flat_map share_left ds)) z ∙ rest_flat (n + 1) ds (numbered_rest n d ds h) j x e l
    ]

left_lower : (n shards first : ℕ) (batch : List Core) (ls : List Left) → AreLeft (n + 1) shards first batch ls
    → AreLeft n shards first batch ls
left_lower n shards first batch [] h = tt
left_lower n shards first batch (l ∷ ls) h = ((let w = h.0 in omega (arith, w)), h.1, h.2, h.3, h.4)

left_flat : (n shards first : ℕ) (batch : List Core) (ds : List Done) → AreNumbered n ds
    → ((j : ℕ) (x : Done) → slice_get ds j ≡ Some x → (x.share.number < shards)
    × (x.share.effects ≡ share shards first batch x.share.number))
    → AreLeft n shards first batch (flat_map share_left ds)
left_flat n shards first batch [] h g = tt
left_flat n shards first batch (d ∷ ds) h g =
    let here : d.share.number ≡ n = let w = h 0 d refl in omega arith in
    let more = left_flat (n + 1) shards first batch ds (numbered_rest n d ds h) (λ j x e. g (suc j) x e) in
    elim (nat_lt d.done (length d.share.effects)) as (λ b. nat_lt d.done (length d.share.effects) ≡ b
    → AreLeft n shards first batch (cond b (record { share = d.share; done = d.done } ∷ []) [] ++ flat_map share_left ds)) [
      | true ↦ λ q. (
        omega (arith, here),
        (g 0 d refl).0,
        (g 0 d refl).1,
        grind (arith, nat_tests),
        subst (λ m. AreLeft (m + 1)
            shards first batch (flat_map share_left ds)) (sym here) more,
      )
      | false ↦ λ q. left_lower n shards first batch (flat_map share_left ds) more
    ] refl

-- ---- a batch that is begun
module _ (first : ℕ) (batch : List Core) (ss : List ShardState) (hs : List Share) (ds : List Done) (dealt : AreShares (length
    ss) first batch hs) (f : AreSharesFolded ss hs ds) where
  share_at : (k : ℕ) (h : Share) → slice_get hs k ≡ Some h → h ≡ record { number = k; effects = share (length ss) first batch k }
  share_at k h e =
      let l = slice_get_within hs k h e in
      let m = dealt.many in
      let w = dealt.each k (omega (arith, l, m)) in
      cc

  share_of : (j : ℕ) (x : Done) → slice_get ds j ≡ Some x → (j < length ss)
      × (x.share ≡ record { number = j; effects = share (length ss) first batch j })
  share_of j x e =
      let l : j < length ss = let a = slice_get_within ds j x e in let m = folded_length ss hs ds f in omega (arith, a, m) in
      let s = get_or ss j (record { number = 0; shards = 0; folded = record { tables = x.shard.folded.tables; misfits = [] } }) in
      let w = folded_at ss hs ds f j s (slice_get-get_or ss j _ l) in
      let same : x ≡ w.1 = let a = w.3 in cc in
      (l, ap (λ (y : Done). y.share) same ∙ w.4.share ∙ share_at j w.0 w.2)

  numbered : AreNumbered 0 ds
  numbered j x e = let w = ap (λ (h : Share). h.number) (share_of j x e).1 in omega (arith, w)

  pub begun : (new : List ShardState) (left : List Left) → new ≡ map (λ (d : Done). d.shard) ds → left ≡ flat_map share_left ds
      → IsBegun first batch ss new left
  begun new left new_is left_is = record {
    many = ap length new_is ∙ length-map ds (λ (d : Done). d.shard) ∙ folded_length ss hs ds f;
    each = λ k s e.
        let w = folded_at ss hs ds f k s e in
        let h = w.0 in
        let d = w.1 in
        let is : h ≡ record { number = k; effects = share (length ss) first batch k } = share_at k h w.2 in
        let z : k ≡ 0 + k = omega arith in (
          d.done,
          ap (λ ts. slice_get ts k) new_is ∙ slice_get-map (λ (x : Done). x.shard) ds k
              ∙ ap (option_map (λ (x : Done). x.shard)) w.3 ∙ ap Some w.4.shard
              ∙ ap (λ (x : Share). Some (with_parts s (take d.done x.effects))) is,
          (λ i. rest_of (left_is i) (z i)) ∙ rest_flat 0 ds numbered k d w.3 (subst (λ (x : Share). d.done ≤ length x.effects)
              (sym w.4.share) w.4.done)
              ∙ ap (λ (x : Share). drop d.done x.effects) (w.4.share ∙ is),
        );
    rest = subst (AreLeft 0 (length ss) first batch) (sym left_is) (left_flat 0 (length ss) first batch ds numbered (λ j x e.
        let w = share_of j x e in
        let n : x.share.number ≡ j = ap (λ (h : Share). h.number) w.1 in (
          subst (λ m. m < length ss) (sym n) w.0,
          ap (λ (h : Share). h.effects) w.1 ∙ ap (share (length ss) first batch) (sym n),
        )));
  }

pub unfinished_from : (n shards first : ℕ) (batch : List Core) (ls : List Left) → AreLeft n shards first batch ls
    → AreUnfinished n shards ls
unfinished_from n shards first batch [] h = tt
unfinished_from n shards first batch (l ∷ ls) h = (
  h.0,
  h.1,
  subst (λ ps. All (λ (p : Numbered). home shards p.effect.key ≡ l.share.number) ps) (sym h.2) (all_at_home shards
      l.share.number (numbered_from first batch)),
  h.3,
  unfinished_from (l.share.number + 1) shards first batch ls h.4,
)

pub begun_unfinished : (first : ℕ) (batch : List Core) (old new : List ShardState) (left : List Left)
    → IsBegun first batch old new left → AreUnfinished 0 (length old) left
begun_unfinished first batch old new left b = unfinished_from 0 (length old) first batch left b.rest

-- ---- the log with the batch
pub takes_batch : (first : ℕ) (batch : List Core) (old new : List ShardState) (left : List Left)
    → IsBegun first batch old new left → TakesBatch first batch old new left
takes_batch first batch old new left b shards log next holds = record {
  many = b.many ∙ holds.many;
  each = λ k l.
      let s = shard_of_log shards log k in
      let w = b.each k s (holds.each k l) in
      let ps = share (length old) first batch k in (
        with_parts s (take w.0 ps),
        w.1,
        ap (with_parts (with_parts s (take w.0 ps))) w.2 ∙ sym (with_append s (take w.0 ps) (drop w.0 ps))
            ∙ ap (with_parts s) (take-append-drop w.0 ps)
            ∙ (λ i. with_parts s (share (holds.many i) (next i) batch k)) ∙ shard_with_share shards log batch k,
      );
}

pub holds_all : (shards : ℕ) (log : List Core) (left : List Left) (ts : List ShardState) → left ≡ []
    → HoldsBut shards log left ts → HoldsLog shards log ts
holds_all shards log left ts none h = record {
  many = h.many;
  each = λ k l. let w = h.each k l in w.1 ∙ ap Some (ap (λ ls. with_parts w.0 (rest_of ls k)) (sym none) ∙ w.2);
}

pub takes_whole : (first : ℕ) (batch : List Core) (old new : List ShardState) (left : List Left)
    → IsBegun first batch old new left → TakesWholeBatch first batch old new left
takes_whole first batch old new left b none shards log next holds = holds_all shards (log ++ batch) left new none (takes_batch
    first batch old new left b shards log next holds)

-- ---- what is left of shares that aren't folded whole

-- as unfinished shares are, but that some may be whole
abbrev pub AreRests : ℕ → ℕ → List Left → Type 0
AreRests n shards [] = ⊤
AreRests n shards (l ∷ ls) =
    (n ≤ l.share.number) × (l.share.number < shards)
    × All (λ (p : Numbered). home shards p.effect.key ≡ l.share.number) l.share.effects × (l.done ≤ length l.share.effects)
    × AreRests (l.share.number + 1) shards ls

pub are_rests : (n shards : ℕ) (ls : List Left) → AreUnfinished n shards ls → AreRests n shards ls
are_rests n shards [] h = tt
are_rests n shards (l ∷ ls) h = (h.0, h.1, h.2, (let w = h.3 in omega (arith, w)), are_rests (l.share.number + 1) shards ls h.4)

-- there is nothing left of a shard before them
pub rest_past : (n shards k : ℕ) (ls : List Left) → AreRests n shards ls → k < n → rest_of ls k ≡ []
rest_past n shards k [] h l = refl
rest_past n shards k (x ∷ ls) h l =
    ap (λ b. cond b (drop x.done x.share.effects) (rest_of ls k)) (not_equal x.share.number k (λ q. let a = h.0 in
    omega (arith, q, a, l)))
    ∙ rest_past (x.share.number + 1) shards k ls h.4 (let a = h.0 in omega (arith, a, l))
