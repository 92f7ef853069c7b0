-- How many parts of a batch are left, on all shards together.
use Rattle.rubis_pieces.proofs.Common.{◌≡◌, ℕ, zero, suc, ◌+◌, ◌-◌, ◌<◌, ◌≤◌, List, [], ◌∷◌, length, length-append, take, drop, get_or, Bool, true}
use Rattle.rubis_pieces.proofs.Common.{false, cond, refl, sym, ap, ◌∙◌, subst, arith, ◌++◌, nat_eq, flat_map, Some, nat_lt, slice_index, slice_range}
use Rattle.rubis_pieces.proofs.Common.{filter, map, Option, None, slice_get, Decides-eqb, nat_tests, same_lists, append-nil, drop-drop, get_or-map}
use Rattle.rubis_pieces.proofs.Common.{length-map, length-take-le, take_more, sum_by-cons, slice_get-get_or, get_or_from_slice_get, home, Id, Effect}
use Rattle.rubis_pieces.proofs.Common.{Numbered, Core, number_parts, numbered_from, parts_of, share, core, cores, home_within, ShardState, with_parts}
use Rattle.rubis_pieces.proofs.Common.{parts_at, shard_of_log, HoldsLog, core_of, numbered_of, not_equal, Message, LogEntry, shard_with_share}
use Rattle.rubis_pieces.proofs.Common.{parts_at_append, few_parts, cores_push}
use Rattle.std.proofs.Common.{length-drop, inl, inr}
use Rattle.std.specs.Prelude.{◌⊎◌}
use Rattle.std.proofs.lemmas.List.{length-take, take-take}
use Rattle.rubis_shard.specs.Holdings.{home_or}
use Rattle.std.proofs.Math.Seq.{take-add}
use Rattle.std.proofs.lemmas.Grind.{flat_map-append}
use Rattle.rubis_shadow.specs.declared.parts.TheConstants.{PARTS_MAX}
use Rattle.rubis_pieces.specs.Batches.{rest_of, parts_left, AreUnfinished, IsBegun, LeavesNoMore}
use Rattle.rubis_pieces.specs.declared.pieces.Left.{Left}
use Rattle.rubis_pieces.proofs.Folded.{are_rests, rest_past, unfinished_from}
use Rattle.rubis_pieces.specs.Following.{AreFollowed, HoldsTo, IsFollowed, StopWithin, parts_behind, waits, waits_or}

-- ---- sums over the shards

-- what each of the first n shards has, together
abbrev sum_to : (ℕ → ℕ) → ℕ → ℕ
sum_to f zero = 0
sum_to f (suc n) = sum_to f n + f n

sum_same : (f g : ℕ → ℕ) (n : ℕ) → ((k : ℕ) → k < n → f k ≡ g k) → sum_to f n ≡ sum_to g n
sum_same f g zero h = refl
sum_same f g (suc n) h = omega (arith, sum_same f g n (λ k l. h k (omega (arith, l))), h n (omega arith))

sum_less : (f g : ℕ → ℕ) (n : ℕ) → ((k : ℕ) → k < n → f k ≤ g k) → sum_to f n ≤ sum_to g n
sum_less f g zero h = omega arith
sum_less f g (suc n) h = omega (arith, sum_less f g n (λ k l. h k (omega (arith, l))), h n (omega arith))

last_or : (k n : ℕ) → k < n + 1 → (k ≡ n) ⊎ (k < n)
last_or zero zero l = inl refl
last_or zero (suc n) l = inr (omega arith)
last_or (suc k) zero l = absurd (omega (arith, l))
last_or (suc k) (suc n) l = elim (last_or k n (omega (arith, l))) [ inl e ↦ inl (omega (arith, e)) | inr h ↦ inr (omega (arith, h)) ]

-- none has less where they have as much together
sum_each : (f g : ℕ → ℕ) (n : ℕ) → ((k : ℕ) → k < n → f k ≤ g k) → sum_to f n ≡ sum_to g n → (k : ℕ) → k < n → f k ≡ g k
sum_each f g zero h e k l = absurd (omega (arith, l))
sum_each f g (suc n) h e k l =
    let below = sum_less f g n (λ j m. h j (omega (arith, m))) in
    let top = h n (omega arith) in
    elim (last_or k n (omega (arith, l))) [
      | inl same ↦ subst (λ j. f j ≡ g j) (sym same) (omega (arith, e, below, top))
      | inr less ↦ sum_each f g n (λ j m. h j (omega (arith, m))) (omega (arith, e, below, top)) k less
    ]

sum_plus : (f g : ℕ → ℕ) (n : ℕ) → sum_to (λ k. f k + g k) n ≡ sum_to f n + sum_to g n
sum_plus f g zero = refl
sum_plus f g (suc n) = omega (arith, sum_plus f g n)

-- c at shard h, and none elsewhere
abbrev only_at : ℕ → ℕ → ℕ → ℕ
only_at h c k = cond (nat_eq h k) c 0

none_below : (h c n : ℕ) → n ≤ h → sum_to (only_at h c) n ≡ 0
none_below h c zero l = refl
none_below h c (suc n) l =
    omega (arith, none_below h c n (omega (arith, l)), ap (λ b. cond b c 0) (not_equal h n (λ e. omega (arith, l, e))))

once_below : (h c n : ℕ) → h < n → sum_to (only_at h c) n ≡ c
once_below h c zero l = absurd (omega (arith, l))
once_below h c (suc n) l = elim (last_or h n (omega (arith, l))) [
  | inl same ↦ omega (arith, none_below h c n (omega (arith, same)), ap (λ b. cond b c 0) ((Decides-eqb h n).1 same))
  | inr less ↦ omega (arith, once_below h c n less, ap (λ b. cond b c 0) (not_equal h n (λ e. omega (arith, less, e))))
]

-- ---- each part has one home

at_home : (b : Bool) (n : Numbered) (ns : List Numbered) → length (cond b (n ∷ ns) ns) ≡ cond b 1 0 + length ns
at_home true n ns = omega arith
at_home false n ns = omega arith

dealt_length : (shards : ℕ) (ns : List Numbered) → 0 < shards → sum_to (λ k. length (parts_at shards k ns)) shards ≡ length ns
dealt_length shards [] l = none shards
  where
    none : (n : ℕ) → sum_to (λ k. 0) n ≡ 0
    none zero = refl
    none (suc n) = omega (arith, none n)
dealt_length shards (n ∷ ns) l =
    let h = home shards n.effect.key in
    sum_same (λ k. length (parts_at shards k (n ∷ ns))) (λ k. only_at h 1 k + length (parts_at shards k ns)) shards
    (λ k m. at_home (nat_eq h k) n (parts_at shards k ns))
    ∙ sum_plus (only_at h 1) (λ k. length (parts_at shards k ns)) shards
    ∙ omega (arith, once_below h 1 shards (home_within shards n.effect.key l), dealt_length shards ns l)

numbered_length : (entry part : ℕ) (id : Id) (es : List Effect) → length (number_parts entry part id es) ≡ length es
numbered_length entry part id [] = refl
numbered_length entry part id (e ∷ es) = omega (arith, numbered_length entry (part + 1) id es)

-- as many parts as the messages have
batch_length : (first : ℕ) (batch : List Core) → length (numbered_from first batch) ≡ length (flat_map parts_of batch)
batch_length first [] = refl
batch_length first (m ∷ ms) = omega (
  arith,
  length-append (number_parts first 1 m.id (parts_of m)) (numbered_from (first + 1) ms),
  numbered_length first 1 m.id (parts_of m),
  batch_length (first + 1) ms,
  length-append (parts_of m) (flat_map parts_of ms),
)

-- ---- what is left, shard by shard

left_at : (b : Bool) (xs ys : List Numbered) → (b ≡ true → ys ≡ []) → length (cond b xs ys) ≡ cond b (length xs) 0 + length ys
left_at true xs ys h = omega (arith, ap length (h refl))
left_at false xs ys h = omega arith

left_length : (n shards : ℕ) (ls : List Left) → AreUnfinished n shards ls → sum_to (λ k. length (rest_of ls k)) shards ≡ parts_left ls
left_length n shards [] h = none shards
  where
    none : (m : ℕ) → sum_to (λ k. 0) m ≡ 0
    none zero = refl
    none (suc m) = omega (arith, none m)
left_length n shards (l ∷ ls) h =
    let own = length l.share.effects - l.done in
    sum_same (λ k. length (rest_of (l ∷ ls) k)) (λ k. only_at l.share.number (length (drop l.done l.share.effects)) k + length (rest_of ls k)) shards
    (λ k m. left_at (nat_eq l.share.number k) (drop l.done l.share.effects) (rest_of ls k)
    (λ e. rest_past (l.share.number + 1) shards k ls (are_rests (l.share.number + 1) shards ls h.4)
    (let same : l.share.number ≡ k = (Decides-eqb _ _).0 e in omega (arith, same))))
    ∙ sum_plus (only_at l.share.number (length (drop l.done l.share.effects))) (λ k. length (rest_of ls k)) shards
    ∙ omega (
      arith,
      once_below l.share.number (length (drop l.done l.share.effects)) shards h.1,
      length-drop l.done l.share.effects,
      left_length (l.share.number + 1) shards ls h.4,
      sum_by-cons (λ (x : Left). length x.share.effects - x.done) l ls,
    )

nothing_taken : (d : ℕ) (ns : List Numbered) → length (drop d ns) ≡ length ns → take d ns ≡ []
nothing_taken zero ns e = refl
nothing_taken (suc d) [] e = refl
nothing_taken (suc d) (n ∷ ns) e = absurd (omega (arith, e, length-drop d ns))

-- ---- a batch that is begun
module _ (first : ℕ) (batch : List Core) (old new : List ShardState) (left : List Left) (some : 0 < length old)
    (begun : IsBegun first batch old new left) where
  -- no shard has more left than its share
  no_more : (k : ℕ) → k < length old → length (rest_of left k) ≤ length (share (length old) first batch k)
  no_more k l = elim old as (λ xs. xs ≡ old → length (rest_of left k) ≤ length (share (length old) first batch k)) [
    | [] ↦ λ e. absurd (omega (arith, l, ap length e))
    | s ∷ ss ↦ λ e.
        let w = begun.each k (get_or old k s) (slice_get-get_or old k s l) in
        omega (arith, ap length w.2, length-drop w.0 (share (length old) first batch k))
  ] refl

  left_sum : sum_to (λ k. length (rest_of left k)) (length old) ≡ parts_left left
  left_sum = left_length 0 (length old) left (unfinished_from 0 (length old) first batch left begun.rest)

  share_sum : sum_to (λ k. length (share (length old) first batch k)) (length old) ≡ length (flat_map parts_of batch)
  share_sum = dealt_length (length old) (numbered_from first batch) some ∙ batch_length first batch

  -- where all is left, no shard changed
  nothing_done : parts_left left ≡ length (flat_map parts_of batch) → (k : ℕ) (s : ShardState) → k < length old → get_or new k s ≡ get_or old k s
  nothing_done e k s l =
      let w = begun.each k (get_or old k s) (slice_get-get_or old k s l) in
      let same = sum_each (λ j. length (rest_of left j)) (λ j. length (share (length old) first batch j)) (length old) no_more
      (left_sum ∙ e ∙ sym share_sum) k l in
      let none = nothing_taken w.0 (share (length old) first batch k) (ap length (sym w.2) ∙ same) in
      get_or_from_slice_get new k _ s w.1 ∙ ap (with_parts (get_or old k s)) none

  pub leaves_no_more : LeavesNoMore batch old new left
  leaves_no_more = record {
    few = omega (arith, left_sum, share_sum, sum_less (λ k. length (rest_of left k)) (λ k. length (share (length old) first batch k)) (length old) no_more);
    none = λ e. same_lists new old begun.many (λ k s l. nothing_done e k s (omega (arith, l, begun.many)));
  }

-- ---- shards that stand at stops of a log, and the parts that aren't done

-- ---- the parts of one message
-- none at a shard, where none waits and it would
none_wait : (shards : ℕ) (stops : List ℕ) (place entry part k : ℕ) (id : Id) (es : List Effect) → slice_index stops k ≤ place
    → length (filter (waits shards stops place) es) ≡ 0 → parts_at shards k (number_parts entry part id es) ≡ []
none_wait shards stops place entry part k id [] low none = refl
none_wait shards stops place entry part k id (e ∷ es) low none =
    at (nat_lt (slice_index stops (home shards e.key)) (place + 1)) refl none (none_wait shards stops place entry (part + 1) k id es low)
  where
    other : nat_lt (slice_index stops (home shards e.key)) (place + 1) ≡ false → ¬ (home shards e.key ≡ k)
    other is same =
        let high : place + 1 ≤ slice_index stops (home shards e.key) = grind (arith, nat_tests) in
        let here : slice_index stops (home shards e.key) ≡ slice_index stops k = ap (slice_index stops) same in
        absurd (omega (arith, high, here, low))

    at : (b : Bool) → nat_lt (slice_index stops (home shards e.key)) (place + 1) ≡ b
        → length (cond b (e ∷ filter (waits shards stops place) es) (filter (waits shards stops place) es)) ≡ 0
        → (length (filter (waits shards stops place) es) ≡ 0 → parts_at shards k (number_parts entry (part + 1) id es) ≡ [])
        → parts_at shards k (number_parts entry part id (e ∷ es)) ≡ []
    at true is long rest = absurd (omega (arith, long))
    at false is long rest =
        ap (λ b. cond b (record { entry = entry; part = part; id = id; effect = e } ∷ parts_at shards k (number_parts entry (part + 1) id es))
        (parts_at shards k (number_parts entry (part + 1) id es))) (not_equal
        (home shards e.key) k (other is))
        ∙ rest long

few_wait : (shards : ℕ) (stops : List ℕ) (place : ℕ) (es : List Effect)
    → length (filter (waits shards stops place) es) ≤ length es
few_wait shards stops place [] = omega arith
few_wait shards stops place (e ∷ es) =
    at (nat_lt (slice_index stops (home shards e.key)) (place + 1)) (few_wait shards stops place es)
  where
    at : (b : Bool) → length (filter (waits shards stops place) es) ≤ length es
        → length (cond b (e ∷ filter (waits shards stops place) es) (filter (waits shards stops place) es)) ≤ length (e ∷ es)
    at true rest = omega (arith, rest)
    at false rest = omega (arith, rest)

-- none at a shard, where all wait and it wouldn't
all_wait : (shards : ℕ) (stops : List ℕ) (place entry part k : ℕ) (id : Id) (es : List Effect) → place < slice_index stops k
    → length (filter (waits shards stops place) es) ≡ length es → parts_at shards k (number_parts entry part id es) ≡ []
all_wait shards stops place entry part k id [] high all = refl
all_wait shards stops place entry part k id (e ∷ es) high all =
    at (nat_lt (slice_index stops (home shards e.key)) (place + 1)) refl all (all_wait shards stops place entry (part + 1) k id es high)
  where
    other : nat_lt (slice_index stops (home shards e.key)) (place + 1) ≡ true → ¬ (home shards e.key ≡ k)
    other is same =
        let low : slice_index stops (home shards e.key) < place + 1 = grind (arith, nat_tests) in
        let here : slice_index stops (home shards e.key) ≡ slice_index stops k = ap (slice_index stops) same in
        absurd (omega (arith, low, here, high))

    at : (b : Bool) → nat_lt (slice_index stops (home shards e.key)) (place + 1) ≡ b
        → length (cond b (e ∷ filter (waits shards stops place) es) (filter (waits shards stops place) es)) ≡ length (e ∷ es)
        → (length (filter (waits shards stops place) es) ≡ length es → parts_at shards k (number_parts entry (part + 1) id es) ≡ [])
        → parts_at shards k (number_parts entry part id (e ∷ es)) ≡ []
    at true is long rest =
        ap (λ b. cond b (record { entry = entry; part = part; id = id; effect = e } ∷ parts_at shards k (number_parts entry (part + 1) id es))
        (parts_at shards k (number_parts entry (part + 1) id es))) (not_equal
        (home shards e.key) k (other is))
        ∙ rest (omega (arith, long))
    at false is long rest = let few = few_wait shards stops place es in absurd (omega (arith, long, few))

-- ---- the messages of a batch
pub behind_append : (shards : ℕ) (stops : List ℕ) (place : ℕ) (a b : List Core)
    → parts_behind shards stops place (a ++ b) ≡ parts_behind shards stops place a + parts_behind shards stops (place + length a) b
behind_append shards stops place [] b =
    let z : place ≡ place + 0 = omega arith in
    let same = ap (λ n. parts_behind shards stops n b) z in
    omega (arith, same)
behind_append shards stops place (m ∷ ms) b =
    let rest = behind_append shards stops (place + 1) ms b in
    let z : (place + 1) + length ms ≡ place + length (m ∷ ms) = omega arith in
    let same = ap (λ n. parts_behind shards stops n b) z in
    omega (arith, rest, same)

pub behind_few : (shards : ℕ) (stops : List ℕ) (place : ℕ) (ms : List Core)
    → parts_behind shards stops place ms ≤ length (flat_map parts_of ms)
behind_few shards stops place [] = omega arith
behind_few shards stops place (m ∷ ms) =
    let rest = behind_few shards stops (place + 1) ms in
    let few = few_wait shards stops place (parts_of m) in
    let both = length-append (parts_of m) (flat_map parts_of ms) in
    omega (arith, rest, few, both)

-- no part of them waits, and none is at a shard that stands before them
none_after : (shards : ℕ) (stops : List ℕ) (place first k : ℕ) (ms : List Core) → slice_index stops k ≤ place
    → parts_behind shards stops place ms ≡ 0 → share shards first ms k ≡ []
none_after shards stops place first k [] low none = refl
none_after shards stops place first k (m ∷ ms) low none =
    parts_at_append shards k (number_parts first 1 m.id (parts_of m)) (numbered_from (first + 1) ms)
    ∙ (λ i. none_wait shards stops place first 1 k m.id (parts_of m) low (omega (arith, none)) i ++ none_after shards stops (place + 1) (first + 1) k
    ms (omega (arith, low)) (omega (arith, none)) i)

-- all parts of them wait, and none is at a shard that stands behind them
none_before : (shards : ℕ) (stops : List ℕ) (place first k : ℕ) (ms : List Core) → place + length ms ≤ slice_index stops k
    → parts_behind shards stops place ms ≡ length (flat_map parts_of ms) → share shards first ms k ≡ []
none_before shards stops place first k [] high all = refl
none_before shards stops place first k (m ∷ ms) high all =
    parts_at_append shards k (number_parts first 1 m.id (parts_of m)) (numbered_from (first + 1) ms)
    ∙ (λ i. all_wait shards stops place first 1 k m.id (parts_of m) (omega (arith, high)) here i ++ none_before shards stops (place + 1) (first + 1) k
    ms (omega (arith, high)) there i)
  where
    here : length (filter (waits shards stops place) (parts_of m)) ≡ length (parts_of m)
    here =
        let few = few_wait shards stops place (parts_of m) in
        let rest = behind_few shards stops (place + 1) ms in
        let both = length-append (parts_of m) (flat_map parts_of ms) in
        omega (arith, all, few, rest, both)

    there : parts_behind shards stops (place + 1) ms ≡ length (flat_map parts_of ms)
    there =
        let few = few_wait shards stops place (parts_of m) in
        let rest = behind_few shards stops (place + 1) ms in
        let both = length-append (parts_of m) (flat_map parts_of ms) in
        omega (arith, all, few, rest, both)

-- ---- a log cut in two
cut_at : (log : List Core) (i j : ℕ) → i ≤ j → take j log ≡ take i log ++ slice_range log i j
cut_at log i j l = ap (λ n. take n log) (let e : j ≡ i + (j - i) = omega (arith, l) in e) ∙ take-add i (j - i) log

slices_meet : (log : List Core) (a b c : ℕ) → a ≤ b → b ≤ c → slice_range log a c ≡ slice_range log a b ++ slice_range log b c
slices_meet log a b c h g =
    let far : c - a ≡ (b - a) + (c - b) = omega (arith, h, g) in
    let near : a + (b - a) ≡ b = omega (arith, h) in
    ap (λ n. take n (drop a log)) far ∙ take-add (b - a) (c - b) (drop a log)
    ∙ ap (λ xs. take (b - a) (drop a log) ++ take (c - b) xs) (drop-drop (b - a) a log ∙ ap (λ n. drop n log) near)

slice_length : (log : List Core) (i j : ℕ) → i ≤ j → j ≤ length log → i + length (slice_range log i j) ≡ j
slice_length log i j l m =
    let rest = length-drop i log in
    let long = length-take-le (j - i) (drop i log) (omega (arith, l, m, rest)) in
    omega (arith, l, long)

-- ---- one shard at its stop
-- with its parts of the messages after it, a shard of the log stands further on
shard_more : (shards k : ℕ) (log : List Core) (i j : ℕ) → i ≤ j → i ≤ length log
    → with_parts (shard_of_log shards (take i log) k) (share shards (i + 1) (slice_range log i j) k) ≡ shard_of_log shards (take j log) k
shard_more shards k log i j l m =
    let long = length-take-le i log m in
    let z : i + 1 ≡ 1 + length (take i log) = omega (arith, long) in
    (λ t. with_parts (shard_of_log shards (take i log) k) (share shards (z t) (slice_range log i j) k))
    ∙ shard_with_share shards (take i log) (slice_range log i j) k
    ∙ ap (λ x. shard_of_log shards x k) (sym (cut_at log i j l))

pub stands_on : (shards k from done upto : ℕ) (log : List Core) (s t : ShardState) → from ≤ length log
    → s ≡ shard_of_log shards (take from log) k → IsFollowed (from + 1) (slice_range log from upto) s done t
    → t ≡ shard_of_log shards (take (from + done) log) k
stands_on shards k from done upto log s t l is f =
    let within = f.within in
    let long = length-take (upto - from) (drop from log) in
    let e : done ≡ (from + done) - from = omega arith in
    let same : take done (slice_range log from upto) ≡ slice_range log from (from + done) =
    take-take done (upto - from) (drop from log) (omega (arith, within, long)) ∙ ap (λ n. take n (drop from log)) e in
    f.shard ∙ (λ i. with_parts (is i) (share (is i).shards (from + 1) (same i) (is i).number))
    ∙ shard_more shards k log from (from + done) (omega arith) l

-- the same of one message of a log
pub shard_next : (shards k place : ℕ) (log : List Message) (x : Message) (m : LogEntry) → place < length log
    → x ≡ get_or log place x → m.number ≡ place + 1 → core_of m ≡ core x
    → with_parts (shard_of_log shards (take place (cores log)) k) (parts_at shards k (numbered_of m)) ≡ shard_of_log shards (take (place + 1) (cores log)) k
shard_next shards k place log x m l got counted is =
    let inside : place < length (cores log) = (let many = length-map log core in omega (arith, l, many)) in
    let long = length-take-le place (cores log) (omega (arith, inside)) in
    let z : m.number ≡ 1 + length (take place (cores log)) = omega (arith, long, counted) in
    let read : get_or (cores log) place (core_of m) ≡ core_of m = get_or-map core log place x (core_of m) l ∙ ap core (sym got) ∙ sym is in
    ap (with_parts (shard_of_log shards (take place (cores log)) k))
    (λ i. parts_at shards k (sym (append-nil (number_parts (z i) 1 m.id (parts_of (core_of m)))) i))
    ∙ shard_with_share shards (take place (cores log)) (core_of m ∷ []) k
    ∙ ap (λ ms. shard_of_log shards ms k) (sym (take_more (cores log) place (core_of m) inside
    ∙ ap (λ c. take place (cores log) ++ c ∷ []) read))

-- where no part waits, it holds the whole batch
whole_at : (shards k stop upto from : ℕ) (stops : List ℕ) (log : List Core) → from ≤ stop → stop ≤ upto → upto ≤ length log
    → slice_index stops k ≡ stop → parts_behind shards stops from (slice_range log from upto) ≡ 0
    → shard_of_log shards (take stop log) k ≡ shard_of_log shards (take upto log) k
whole_at shards k stop upto from stops log l m n is none =
    ap (with_parts (shard_of_log shards (take stop log) k)) (sym (none_after shards stops stop (stop + 1) k (slice_range log
    stop upto) (omega (arith, is)) rest))
    ∙ shard_more shards k log stop upto m (omega (arith, m, n))
  where
    rest : parts_behind shards stops stop (slice_range log stop upto) ≡ 0
    rest =
        let both = ap (parts_behind shards stops from) (slices_meet log from stop upto l m)
        ∙ behind_append shards stops from (slice_range log from stop) (slice_range log stop upto) in
        let long = slice_length log from stop l (omega (arith, m, n)) in
        let here = ap (λ p. parts_behind shards stops p (slice_range log stop upto)) long in
        omega (arith, none, both, here)

-- where all wait, it holds none of it
none_at : (shards k stop upto from : ℕ) (stops : List ℕ) (log : List Core) → from ≤ stop → stop ≤ upto → upto ≤ length log
    → slice_index stops k ≡ stop
    → parts_behind shards stops from (slice_range log from upto) ≡ length (flat_map parts_of (slice_range log from upto))
    → shard_of_log shards (take stop log) k ≡ shard_of_log shards (take from log) k
none_at shards k stop upto from stops log l m n is all =
    sym (ap (with_parts (shard_of_log shards (take from log) k)) (sym (none_before shards stops from (from + 1) k (slice_range
    log from stop) (omega (arith, is, slice_length log from stop l (omega (arith, m, n)))) rest))
    ∙ shard_more shards k log from stop l (omega (arith, l, m, n)))
  where
    rest : parts_behind shards stops from (slice_range log from stop) ≡ length (flat_map parts_of (slice_range log from stop))
    rest =
        let a = slice_range log from stop in
        let b = slice_range log stop upto in
        let meet = slices_meet log from stop upto l m in
        let both = ap (parts_behind shards stops from) meet ∙ behind_append shards stops from a b in
        let parts = ap (λ ms. length (flat_map parts_of ms)) meet ∙ ap length (flat_map-append parts_of a b) in
        let sum = length-append (flat_map parts_of a) (flat_map parts_of b) in
        let first = behind_few shards stops from a in
        let second = behind_few shards stops (from + length a) b in
        omega (arith, all, both, parts, sum, first, second)

-- ---- all shards at their stops
pub follows_to : (shards from upto : ℕ) (log : List Core) (old new : List ShardState) (dones stops : List ℕ) → from ≤ length log
    → HoldsLog shards (take from log) old → AreFollowed (from + 1) (slice_range log from upto) old new dones
    → stops ≡ map (λ d. from + d) dones → HoldsTo shards log stops new
follows_to shards from upto log old new dones stops l holds f are = record {
  many = f.many ∙ holds.many;
  counts = ap length are ∙ length-map dones (λ d. from + d) ∙ f.counts ∙ holds.many;
  each = λ k within.
      let (t, there, follows) = f.each k (shard_of_log shards (take from log) k) (holds.each k within) in
      let inside : k < length dones = (let a = f.counts in let b = holds.many in omega (arith, within, a, b)) in
      let stop : slice_index stops k ≡ from + slice_index dones k =
      ap (λ xs. slice_index xs k) are ∙ get_or-map (λ d. from + d) dones k 0 0 inside in
      there
      ∙ ap Some (stands_on shards k from (slice_index dones k) upto log (shard_of_log shards (take from log) k) t l refl follows
      ∙ ap (λ n. shard_of_log shards (take n log) k) (sym stop));
}

pub holds_whole : (shards from upto : ℕ) (stops : List ℕ) (log : List Core) (ts : List ShardState) → upto ≤ length log
    → StopWithin from upto stops → HoldsTo shards log stops ts → parts_behind shards stops from (slice_range log from upto) ≡ 0
    → HoldsLog shards (take upto log) ts
holds_whole shards from upto stops log ts n within h none = record {
  many = h.many;
  each = λ k l.
      let w = within k (let m = h.counts in omega (arith, l, m)) in
      h.each k l ∙ ap Some (whole_at shards k (slice_index stops k) upto from stops log w.0 w.1 n refl none);
}

pub holds_none : (shards from upto : ℕ) (stops : List ℕ) (log : List Core) (ts : List ShardState) → upto ≤ length log
    → StopWithin from upto stops → HoldsTo shards log stops ts
    → parts_behind shards stops from (slice_range log from upto) ≡ length (flat_map parts_of (slice_range log from upto))
    → HoldsLog shards (take from log) ts
holds_none shards from upto stops log ts n within h all = record {
  many = h.many;
  each = λ k l.
      let w = within k (let m = h.counts in omega (arith, l, m)) in
      h.each k l ∙ ap Some (none_at shards k (slice_index stops k) upto from stops log w.0 w.1 n refl all);
}

-- ---- how many parts wait, message by message

-- ---- one part
pub none_past : (shards : ℕ) (stops : List ℕ) (place h : ℕ) (o : Option Effect) → 0 < shards → shards ≤ h → h ≡ home_or shards o
    → 0 ≡ waits_or shards stops place o
none_past shards stops place h None some past is = refl
none_past shards stops place h (Some e) some past is = let low = home_within shards e.key some in absurd (omega arith)

one_more : (b : Bool) (e : Effect) (es : List Effect) → length (cond b (e ∷ es) es) ≡ cond b 1 0 + length es
one_more true e es = omega arith
one_more false e es = omega arith

-- the parts of a message, place by place
pub by_places : (shards : ℕ) (stops : List ℕ) (place : ℕ) (es : List Effect) → length es ≤ PARTS_MAX
    → waits_or shards stops place (slice_get es 0) + waits_or shards stops place (slice_get es 1) + waits_or shards stops place (slice_get es 2)
    ≡ length (filter (waits shards stops place) es)
by_places shards stops place [] few = refl
by_places shards stops place (a ∷ []) few = omega (arith, one_more (waits shards stops place a) a [])
by_places shards stops place (a ∷ b ∷ []) few =
    omega (arith, one_more (waits shards stops place a) a (filter (waits shards stops place) (b ∷ [])), one_more (waits shards stops place b) b [])
by_places shards stops place (a ∷ b ∷ c ∷ []) few =
    omega (
      arith,
      one_more (waits shards stops place a) a (filter (waits shards stops place) (b ∷ c ∷ [])),
      one_more (waits shards stops place b) b (filter (waits shards stops place) (c ∷ [])),
      one_more (waits shards stops place c) c [],
    )
by_places shards stops place (a ∷ b ∷ c ∷ d ∷ es) few = absurd (omega (arith, few))

pub message_parts : (shards : ℕ) (stops : List ℕ) (place : ℕ) (m : Core)
    → waits_or shards stops place (slice_get (parts_of m) 0) + waits_or shards stops place (slice_get (parts_of m) 1) + waits_or shards stops place
    (slice_get (parts_of m) 2) ≡ length (filter (waits shards stops place) (parts_of m))
message_parts shards stops place m = by_places shards stops place (parts_of m) (few_parts m.id m.red m.shadow)

pub behind_turn : (shards from i : ℕ) (stops : List ℕ) (batch : List Message) (x : Message) (m : LogEntry) → i < length batch
    → x ≡ get_or batch i x → core_of m ≡ core x → (parts own : ℕ)
    → parts ≡ parts_behind shards stops from (cores (take i batch))
    → own ≡ length (filter (waits shards stops (from + i)) (parts_of (core_of m)))
    → parts + own ≡ parts_behind shards stops from (cores (take (i + 1) batch))
behind_turn shards from i stops batch x m l got is parts own p o =
    let more : cores (take (i + 1) batch) ≡ cores (take i batch) ++ core_of m ∷ [] =
    ap cores (take_more batch i x l ∙ ap (λ y. take i batch ++ y ∷ []) (sym got)) ∙ cores_push (take i batch) x
    ∙ ap (λ c. cores (take i batch) ++ c ∷ []) (sym is) in
    let long = length-map (take i batch) core ∙ length-take-le i batch (omega (arith, l)) in
    let both = ap (parts_behind shards stops from) more ∙ behind_append shards stops from (cores (take i batch)) (core_of m ∷ []) in
    let here = ap (λ n. parts_behind shards stops (from + n) (core_of m ∷ [])) long in
    omega (arith, p, o, both, here)
