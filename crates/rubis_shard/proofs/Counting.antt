-- The rows that have a record, counted shard by shard.
use Rattle.rubis_shard.proofs.Common.{◌≡◌, ℕ, ◌+◌, ◌<◌, Bool, true, false, cond, ◌&&◌, refl, sym, ap, subst, ◌∙◌, arith, List, [], ◌∷◌, ◌++◌, drop}
use Rattle.rubis_shard.proofs.Common.{length, length-append, None, Some, IfSome, Option, filter, flat_map, is_some, slice_index_or, suc, ◌≤◌}
use Rattle.rubis_shard.proofs.Common.{IsDistinct, keys_of, drop_all, filter-append, IsDistinct-keys_filter, key_eq, key_order, key_total, RowKey, Row}
use Rattle.rubis_shard.proofs.Common.{tables_of, get_tables_of}
use Rattle.std.proofs.lemmas.List.{drop_more}
use Rattle.std.specs.FinMap as map
use Rattle.rubis_schema.specs.declared.row_keys.RowKey.TheVariants as key
use Rattle.rubis_shard.specs.Listed.{is_recorded, recorded_from, recorded_of}
use Rattle.rubis_shard.specs.Holdings.{AreInOrder, union}
use Rattle.rubis_shard.specs.Rows.{entries_of as entries_in, kept_of}
use Rattle.rubis_shard.specs.States.{ShardState}
use Rattle.rubis_shard.specs.Chains.{chain_written}
use Rattle.rubis_shard.specs.declared.row_map.Rows.{Rows}
use Rattle.rubis_shard.proofs.Listing.{all_distinct}
use Rattle.rubis_shard.proofs.Openings.{none_there}
use Rattle.rubis_shard.proofs.Picked.{Entries, entries_passing, missing}
use Rattle.rubis_shard.proofs.Unions.{entries_of, from_first}

-- ---- tables have as many entries as they were made of, if the keys differ
made_length : (es : Entries) → IsDistinct key_eq (keys_of es) → length (map.entries (tables_of es)) ≡ length es
unfolding IsDistinct
made_length [] d = ap length (none_there map.empty refl)
made_length (e ∷ es) d =
    let m = tables_of es in
    let absent : map.contains_key m e.0 ≡ false = ap (λ (o : Option Row). is_some o) (get_tables_of es e.0 ∙ missing e.0 es d.0) in
    let more : map.len (map.insert m e.0 e.1) ≡ map.len m + 1 =
    map.len-insert key_total m e.0 e.1 ∙ ap (λ b. cond b (map.len m) (map.len m + 1)) absent in
    let rest = made_length es d.1 in
    let few = map.len-entries m in
    let many = map.len-entries (map.insert m e.0 e.1) in
    omega (arith, more, rest, few, many)

pub passing_length : (p : RowKey × Row → Bool) (es : Entries) → IsDistinct key_eq (keys_of es)
    → length (filter p (map.entries (tables_of es))) ≡ length (filter p es)
passing_length p es d = ap length (sym (entries_passing p es d)) ∙ made_length (filter p es) (IsDistinct-keys_filter key_eq p es d)

-- ---- among the rows of four maps
no_more : (b : Bool) → (b && false) ≡ false
no_more true = refl
no_more false = refl

no_nicknames : (n : ℕ) (es : List (List ℕ × Row)) → recorded_from n (chain_written key.Nick es) ≡ []
no_nicknames n [] = refl
no_nicknames n (e ∷ es) =
    ap (λ b. cond b ((key.Nick e.0, e.1) ∷ recorded_from n (chain_written key.Nick es)) (recorded_from n (chain_written key.Nick es))) (no_more _)
    ∙ no_nicknames n es

recorded_append : (n : ℕ) (xs ys : Entries) → length (recorded_from n (xs ++ ys)) ≡ length (recorded_from n xs) + length (recorded_from n ys)
recorded_append n xs ys = ap length (filter-append (is_recorded n) xs ys) ∙ length-append (recorded_from n xs) (recorded_from n ys)

pub recorded_in : (n : ℕ) (r : Rows) → IsDistinct key_eq (keys_of (entries_in r))
    → length (recorded_from n (map.entries (tables_of (entries_in r))))
    ≡ length (recorded_from n (kept_of r.users)) + length (recorded_from n (kept_of r.others)) + length (recorded_from n (chain_written key.Cat r.cats.entries))
recorded_in n r d =
    let nicks = chain_written key.Nick r.nicks.entries in
    let cats = chain_written key.Cat r.cats.entries in
    let all = passing_length (is_recorded n) (entries_in r) d in
    let first = recorded_append n (kept_of r.users) (kept_of r.others ++ (nicks ++ cats)) in
    let second = recorded_append n (kept_of r.others) (nicks ++ cats) in
    let third = recorded_append n nicks cats in
    let none = ap length (no_nicknames n r.nicks.entries) in
    omega (arith, all, first, second, third, none)

pub none_recorded : (n : ℕ) → length (recorded_from n (map.entries (map.empty {X = Row} {R = key_order}))) ≡ 0
none_recorded n = ap (λ (es : Entries). length (recorded_from n es)) (none_there map.empty refl)

-- one more is counted
pub one_counted : (n : ℕ) (b : Bool) (e : RowKey × Row) (es : Entries) → b ≡ is_recorded n e
    → cond b 1 0 + length (recorded_from n es) ≡ length (recorded_from n (e ∷ es))
one_counted n true e es is =
    let same = ap (λ b. length (cond b (e ∷ recorded_from n es) (recorded_from n es))) is in omega (arith, same)
one_counted n false e es is =
    let same = ap (λ b. length (cond b (e ∷ recorded_from n es) (recorded_from n es))) is in omega (arith, same)

-- ---- shard by shard
abbrev pub recorded_by_shard : ℕ → List ShardState → ℕ
recorded_by_shard n [] = 0
recorded_by_shard n (s ∷ ts) = recorded_of n s + recorded_by_shard n ts

recorded_flat : (n : ℕ) (ts : List ShardState) → length (recorded_from n (flat_map entries_of ts)) ≡ recorded_by_shard n ts
unfolding recorded_of
recorded_flat n [] = refl
recorded_flat n (s ∷ ts) = recorded_append n (entries_of s) (flat_map entries_of ts) ∙ ap (λ k. recorded_of n s + k) (recorded_flat n ts)

pub union_recorded : (n : ℕ) (ts : List ShardState) → AreInOrder ts → length (recorded_from n (map.entries (union ts))) ≡ recorded_by_shard n ts
union_recorded n ts order =
    passing_length (is_recorded n) (flat_map entries_of ts) (all_distinct (length ts) 0 ts (from_first ts order)) ∙ recorded_flat n ts

pub shards_more : (n : ℕ) (ts : List ShardState) (i : ℕ) (d : ShardState) → i < length ts
    → recorded_by_shard n (drop i ts) ≡ recorded_of n (slice_index_or ts i d) + recorded_by_shard n (drop (i + 1) ts)
shards_more n ts i d lt = ap (recorded_by_shard n) (drop_more ts i d lt)

-- ---- going over the rows of a map
pub count_step : {K : Type 0} (f : K → RowKey) (n : ℕ) (q : RowKey) (k : K) (v : Row) (rest es : List (K × Row)) (b : Bool)
    → q ≡ f k → es ≡ (k, v) ∷ rest → b ≡ is_recorded n (q, v)
    → cond b 1 0 + length (recorded_from n (chain_written f rest)) ≡ length (recorded_from n (chain_written f es))
count_step f n q k v rest es b is next test =
    one_counted n b (f k, v) (chain_written f rest) (test ∙ ap (λ (x : RowKey). is_recorded n (x, v)) is)
    ∙ ap (λ (xs : List _). length (recorded_from n (chain_written f xs))) (sym next)

-- ---- not more than there are rows
few_passing : (n : ℕ) (es : Entries) → length (recorded_from n es) ≤ length es
few_passing n [] = omega arith
few_passing n (e ∷ es) =
    let few = few_passing n es in
    elim (is_recorded n e) as (λ b. length (cond b (e ∷ recorded_from n es) (recorded_from n es)) ≤ suc (length es)) [
      | true ↦ omega (arith, few)
      | false ↦ omega (arith, few)
    ]

written_many : {K : Type 0} (f : K → RowKey) (es : List (K × Row)) → length (chain_written f es) ≡ length es
written_many f [] = refl
written_many f (e ∷ es) = ap suc (written_many f es)

pub few_recorded : {K : Type 0} (f : K → RowKey) (n : ℕ) (es : List (K × Row)) → length (recorded_from n (chain_written f es)) ≤ length es
few_recorded f n es = let few = few_passing n (chain_written f es) in let many = written_many f es in omega (arith, few, many)

pub some_is : (r : Option ℕ) (P : ℕ → Type 0) (v : ℕ) → r ≡ Some v → IfSome r P → P v
some_is None P v e h = absurd cc
some_is (Some w) P v e h = let same : w ≡ v = cc in subst P same h

pub if_some : (r : Option ℕ) (P Q : ℕ → Type 0) → IfSome r P → ((v : ℕ) → P v → Q v) → IfSome r Q
if_some None P Q h f = h
if_some (Some v) P Q h f = f v h

-- nothing is left behind the last shard
pub shards_end : (n : ℕ) (ts : List ShardState) (i : ℕ) → length ts ≤ i → recorded_by_shard n (drop i ts) ≡ 0
shards_end n ts i behind = ap (recorded_by_shard n) (drop_all i ts behind)
