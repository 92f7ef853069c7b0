-- The union of shards: a key's row is that of its home shard.
use Rattle.rubis_shard.proofs.Common.{ℕ, zero, suc, ◌≡◌, ◌+◌, ◌<◌, List, [], ◌∷◌, ◌++◌, length, Bool, true, false, cond, refl, sym, ap, ◌∙◌, arith}
use Rattle.rubis_shard.proofs.Common.{Option, Some, None, nat_eq, flat_map, slice_get, Decides-eqb, home, key_order, key_total, RowKey, Row, Core}
use Rattle.rubis_shard.proofs.Common.{fold_of, part_of, same_tables, get-part_of}
use Rattle.std.specs.Option.{option_or}
use Rattle.rubis_schema.specs.Keys.{tied}
use Rattle.rubis_model.proofs.InPlace.{home_within}
use Rattle.std.specs.FinMap as map
use Rattle.rubis_shard.specs.States.{ShardState}
use Rattle.rubis_shard.specs.Holdings.{shard_of_log, HoldsLog, AreInOrder, union}
use Rattle.rubis_shard.proofs.Folds.{not_equal}
use Rattle.rubis_shard.proofs.Logs.{order_of_log, tables_of_shard}

or_cond : {X : Type 0} (b : Bool) (v : X) (o p : Option X) → cond b (Some v) (option_or o p) ≡ option_or (cond b (Some v) o) p
or_cond true v o p = refl
or_cond false v o p = refl

find_append : (q : RowKey) (xs ys : List (RowKey × Row))
    → map.find key_order q (xs ++ ys) ≡ option_or (map.find key_order q xs) (map.find key_order q ys)
find_append q [] ys = refl
find_append q (x ∷ xs) ys =
    ap (cond (tied q x.0) (Some x.1)) (find_append q xs ys)
    ∙ or_cond (tied q x.0) x.1 (map.find key_order q xs) (map.find key_order q ys)

abbrev pub entries_of : ShardState → List (RowKey × Row)
entries_of s = map.entries (part_of s.shards s.number s.folded.tables)

find_one : (q : RowKey) (s : ShardState)
    → map.find key_order q (entries_of s) ≡ cond (nat_eq (home s.shards q) s.number) (map.get s.folded.tables q) None
find_one q s = sym (map.get-entries (part_of s.shards s.number s.folded.tables) q)
    ∙ get-part_of s.shards s.number s.folded.tables q

or_none : {X : Type 0} (o : Option X) → option_or o None ≡ o
or_none None = refl
or_none (Some x) = refl

-- the numbers from n on
abbrev pub AreFrom : ℕ → ℕ → List ShardState → Type 0
AreFrom shards n ts = (j : ℕ) (s : ShardState) → slice_get ts j ≡ Some s → (s.number ≡ n + j) × (s.shards ≡ shards)

pub from_rest : (shards n : ℕ) (t : ShardState) (ts : List ShardState) → AreFrom shards n (t ∷ ts) → AreFrom shards (n + 1) ts
from_rest shards n t ts h j s e = let g = h (suc j) s e in ((let z = g.0 in omega arith), g.1)

pub from_first : (ts : List ShardState) → AreInOrder ts → AreFrom (length ts) 0 ts
from_first ts h j s e = let w = h j s e in ((let z = w.0 in omega arith), w.1)

step_past : (shards n : ℕ) (q : RowKey) (t : ShardState) (ts : List ShardState) → AreFrom shards n (t ∷ ts)
    → ¬ (home shards q ≡ n)
    → map.find key_order q (flat_map entries_of (t ∷ ts)) ≡ map.find key_order q (flat_map entries_of ts)
step_past shards n q t ts h other =
    let g = h 0 t refl in
    let numbered : t.number ≡ n = let z = g.0 in omega arith in
    let b : nat_eq (home t.shards q) t.number ≡ false = (λ i. nat_eq (home (g.1 i) q) (numbered i))
    ∙ not_equal (home shards q) n other in
    find_append q (entries_of t) (flat_map entries_of ts)
    ∙ ap (λ o. option_or o (map.find key_order q (flat_map entries_of ts))) (find_one q t
    ∙ ap (λ x. cond x (map.get t.folded.tables q) None) b)

none_below : (shards n : ℕ) (q : RowKey) (ts : List ShardState) → AreFrom shards n ts → home shards q < n
    → map.find key_order q (flat_map entries_of ts) ≡ None
none_below shards n q [] h l = refl
none_below shards n q (t ∷ ts) h l =
    step_past shards n q t ts h (λ e. omega (arith, l, e))
    ∙ none_below shards (n + 1) q ts (from_rest shards n t ts h) (omega (arith, l))

find_at : (shards n : ℕ) (q : RowKey) (ts : List ShardState) (j : ℕ) (s : ShardState) → AreFrom shards n ts
    → slice_get ts j ≡ Some s
    → home shards q ≡ n + j → map.find key_order q (flat_map entries_of ts) ≡ map.get s.folded.tables q
find_at shards n q [] j s h e l = absurd cc
find_at shards n q (t ∷ ts) zero s h e l =
    let g = h 0 t refl in
    let numbered : t.number ≡ home shards q = let z = g.0 in omega (arith, l) in
    let b : nat_eq (home t.shards q) t.number ≡ true = (λ i. nat_eq (home (g.1 i) q) (numbered i))
    ∙ (Decides-eqb (home shards q) (home shards q)).1 refl in
    let rest : map.find key_order q (flat_map entries_of ts) ≡ None = none_below shards (n + 1) q ts (from_rest shards n t ts
    h) (omega (arith, l)) in
    let same : t ≡ s = cc in
    find_append q (entries_of t) (flat_map entries_of ts)
    ∙ (λ i. option_or ((find_one q t ∙ ap (λ x. cond x (map.get t.folded.tables q) None) b) i) (rest i))
    ∙ or_none (map.get t.folded.tables q)
    ∙ ap (λ (x : ShardState). map.get x.folded.tables q) same
find_at shards n q (t ∷ ts) (suc j) s h e l =
    step_past shards n q t ts h (λ z. omega (arith, l, z))
    ∙ find_at shards (n + 1) q ts j s (from_rest shards n t ts h) e (omega (arith, l))

-- a key's row is that of its home
pub get-union : (ts : List ShardState) (q : RowKey) (s : ShardState) → AreInOrder ts → slice_get ts (home (length ts) q) ≡ Some s
    → map.get (union ts) q ≡ map.get s.folded.tables q
get-union ts q s h e =
    map.get-from_entries key_total (flat_map entries_of ts) q
    ∙ find_at (length ts) 0 q ts (home (length ts) q) s (from_first ts h) e (omega arith)

-- no shards have no row
pub get-union-none : (q : RowKey) → map.get (union []) q ≡ None
get-union-none q = map.get-from_entries key_total [] q

-- the union of the shards of a log is what one thread makes of it
pub union_of_log : (shards : ℕ) (log : List Core) (ts : List ShardState) → 0 < shards → HoldsLog shards log ts
    → union ts ≡ (fold_of log).tables
union_of_log shards log ts l h = same_tables _ _ (λ q.
    let k = home shards q in
    let at : slice_get ts (home (length ts) q) ≡ Some (shard_of_log shards log k) =
    ap (λ n. slice_get ts (home n q)) h.many ∙ h.each k (home_within shards q l) in
    get-union ts q (shard_of_log shards log k) (order_of_log shards log ts h) at
    ∙ ap (λ t. map.get t q) (tables_of_shard shards log k)
    ∙ get-part_of shards k (fold_of log).tables q
    ∙ ap (λ b. cond b (map.get (fold_of log).tables q) None) ((Decides-eqb k k).1 refl))
