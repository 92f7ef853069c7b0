-- A batch of a log that was applied, whole or as far as memory went.
use Rattle.rubis_workers.proofs.Common.{◌≡◌, ℕ, zero, suc, ◌+◌, ◌-◌, ◌*◌, ◌<◌, ◌≤◌, List, [], ◌∷◌, ◌++◌, length, get_or, take, sym, ap, ◌∙◌, arith}
use Rattle.rubis_workers.proofs.Common.{inl, inr, subst, refl, ⊎_elim, slice_range, Some, map, slice_index, Result, Ok, Err, true, flat_map}
use Rattle.rubis_workers.proofs.Common.{get_or_default, length-map, parts, Shadow, Message, IsMessage, cores, parts_of, Core, HoldsLog, AreInOrder}
use Rattle.rubis_workers.proofs.Common.{IsSet, ShardState, slice_get_cases, slice_get_within, AreFollowed, HoldsTo}
use Rattle.std.proofs.Common.{length-append, length-drop, drop}
use Rattle.std.specs.Prelude.{◌⊎◌, All, OnOk, OnErr}
use Rattle.std.proofs.Math.Seq.{take-add}
use Rattle.std.proofs.lemmas.Grind.{flat_map-append}
use Rattle.std.proofs.lemmas.List.{drop-append-le, drop-drop, take-append-le, take_more, length-take-le, append-nil, get_or-drop, get_or-take}
use Rattle.std.proofs.lemmas.List.{drop-map, get_or-map, length-take, take-map}
use Rattle.rubis_schema.specs.declared.ids.Id.{Id}
use Rattle.rubis_shadow.specs.declared.shadows.Shadow.TheVariants.{User}
use Rattle.rubis_shadow.proofs.Footprint.{few_parts as few_of_one}
use Rattle.rubis_message.specs.Message.{sites_of}
use Rattle.rubis_model.specs.Log.{core, Folded, fold_of, fold_on, before_any, number_parts, numbered_from, step}
use Rattle.rubis_model.proofs.Settling.{cores_append}
use Rattle.std.proofs.lemmas.List.Elements.{All-get_or}
use Rattle.rubis_shadow.specs.Tables.{AllInLimits}
use Rattle.rubis_shadow.specs.declared.keyed_change.Effect.{Effect}
use Rattle.rubis_shadow.proofs.InLimits.{PartsInLimits, after_kept, first_within, parts_in_limits}
use Rattle.rubis_model.proofs.Shares.{numbered_append}
use Rattle.std.proofs.lemmas.List.Sums.{fold-append}
use Rattle.rubis_shard.specs.Holdings.{shard_of_log}
use Rattle.std.specs.Result.{is_ok}
use Rattle.std.proofs.lemmas.Bool.{cases_lt}
use Rattle.rubis_pieces.proofs.Counting.{follows_to}
use Rattle.rubis_workers.specs.Logs.{parts_between, AreWithin, StaysWithin, AppliesTo, AppliesWhole}

-- ---- one message and the next

-- the cores of one message more
pub cores_more : (log : List Message) (n : ℕ) (m : Message) → n < length log → m ≡ get_or log n m → cores (take (n + 1) log) ≡ cores (take n log) ++ core m ∷ []
cores_more log n m h e =
    ap cores (take_more log n m h ∙ ap (λ x. take n log ++ x ∷ []) (sym e)) ∙ cores_append (take n log) (m ∷ [])

some_parts : (id : Id) (red : ℕ) (x : Shadow) → 0 < length (parts id red x)
some_parts id red (User n) = omega arith
some_parts id red x = omega arith

-- ---- between two places

pub below_or : (a b : ℕ) → (a < b) ⊎ (b ≤ a)
below_or a zero = inr (omega arith)
below_or zero (suc b) = inl (omega arith)
below_or (suc a) (suc b) = elim (below_or a b) [ inl h ↦ inl (omega (arith, h)) | inr h ↦ inr (omega (arith, h)) ]

slices_meet : (log : List Message) (a b c : ℕ) → a ≤ b → b ≤ c → slice_range log a c ≡ slice_range log a b ++ slice_range log b c
slices_meet log a b c h g =
    let far : c - a ≡ (b - a) + (c - b) = omega (arith, h, g) in
    let near : a + (b - a) ≡ b = omega (arith, h) in
    ap (λ n. take n (drop a log)) far
    ∙ take-add (b - a) (c - b) (drop a log)
    ∙ ap (λ xs. take (b - a) (drop a log) ++ take (c - b) xs) (drop-drop (b - a) a log ∙ ap (λ n. drop n log) near)

first_of : (xs : List Message) (n : ℕ) → 0 < length xs → 0 < n → 0 < length (flat_map parts_of (cores (take n xs)))
first_of [] n h g = absurd (omega (arith, h))
first_of (m ∷ xs) zero h g = absurd (omega (arith, g))
first_of (m ∷ xs) (suc n) h g =
    let rest = flat_map parts_of (cores (take n xs)) in
    omega (arith, some_parts m.stamp.id m.stamp.red m.shadow, length-append (parts_of (core m)) rest)

-- ---- a log that grows

pub slice_inside : (a b : ℕ) (log more : List Message) → a ≤ b → b ≤ length log → slice_range (log ++ more) a b ≡ slice_range log a b
slice_inside a b log more h g =
    ap (take (b - a)) (drop-append-le a log more (omega (arith, h, g)))
    ∙ take-append-le (b - a) (drop a log) more (omega (arith, g, h, length-drop a log))

pub between_inside : (a b : ℕ) (log more : List Message) → a ≤ b → b ≤ length log → parts_between (log ++ more) a b ≡ parts_between log a b
between_inside a b log more h g = ap (λ xs. flat_map parts_of (cores xs)) (slice_inside a b log more h g)

-- ---- how many parts there are

-- the parts of the messages up to one, and its own
pub count_more : (log : List Message) (n count own : ℕ) (m : Message) → n < length log → m ≡ get_or log n m
    → count ≡ length (flat_map parts_of (cores (take n log))) → own ≡ length (parts_of (core m))
    → count + own ≡ length (flat_map parts_of (cores (take (n + 1) log)))
count_more log n count own m h e c o =
    let meets = ap (λ xs. length (flat_map parts_of xs)) (cores_more log n m h e) in
    let split = flat_map-append parts_of (cores (take n log)) (core m ∷ []) in
    omega (
      arith,
      c,
      o,
      meets,
      ap length split,
      length-append (flat_map parts_of (cores (take n log))) (flat_map parts_of (core m ∷ [])),
      length-append (parts_of (core m)) [],
    )

three_parts : (id : Id) (red : ℕ) (x : Shadow) → length (parts id red x) ≤ 3
three_parts id red x = few_of_one id red x

few_parts : (xs : List Message) → length (flat_map parts_of (cores xs)) ≤ 3 * length xs
few_parts [] = omega arith
few_parts (m ∷ xs) =
    let rest = flat_map parts_of (cores xs) in
    omega (arith, three_parts m.stamp.id m.stamp.red m.shadow, few_parts xs, length-append (parts_of (core m)) rest)

-- ---- one message more on the tables of a log

-- the shards hold one message more
pub next_held : (log : List Message) (n : ℕ) (m : Message) (old new : List ShardState) → n < length log → m ≡ get_or log n m
    → ((shards : ℕ) (done : List Core) → n + 1 ≡ length done + 1 → HoldsLog shards done old → HoldsLog shards (done ++ core m ∷ []) new)
    → length old ≡ length new → HoldsLog (length old) (cores (take n log)) old → HoldsLog (length new) (cores (take (n + 1) log)) new
next_held log n m old new h e holds same held =
    let count : n + 1 ≡ length (cores (take n log)) + 1 = omega (arith, h, length-map (take n log) core, length-take-le n log (omega (arith, h))) in
    subst (λ k. HoldsLog k (cores (take (n + 1) log)) new) same
    (subst (λ xs. HoldsLog (length old) xs new) (sym (cores_more log n m h e)) (holds (length old) (cores (take n log)) count held))

-- ---- the limits

parts_kept : (sites : ℕ) (entry part : ℕ) (id : Id) (es : List Effect) (f : Folded) → PartsInLimits sites es → AllInLimits sites f.tables
    → AllInLimits sites (fold_on f (number_parts entry part id es)).tables
parts_kept sites entry part id [] f p h = h
parts_kept sites entry part id (e ∷ es) f p h =
    let w = first_within sites e.change (PartsInLimits sites es) p in
    parts_kept sites entry (part + 1) id es (step f (record { entry = entry; part = part; id = id; effect = e })) w.1 (after_kept sites f.tables e w.0 h)

-- the tables of a log with one message more
one_more : (log : List Core) (m : Core) → fold_of (log ++ m ∷ []) ≡ fold_on (fold_of log) (number_parts (1 + length log) 1 m.id (parts_of m))
one_more log m =
    ap (fold_on before_any) (numbered_append 1 log (m ∷ []))
    ∙ fold-append step before_any (numbered_from 1 log) (numbered_from (1 + length log) (m ∷ []))
    ∙ ap (fold_on (fold_of log)) (append-nil (number_parts (1 + length log) 1 m.id (parts_of m)))

pub next_within : (sites : ℕ) (log : List Message) (n : ℕ) (m : Message) → n < length log → m ≡ get_or log n m → IsMessage m
    → All (λ x. sites_of x ≡ sites) log → AreWithin sites log n → AreWithin sites log (n + 1)
next_within sites log n m h e conditions all within =
    let counts : sites_of m ≡ sites = subst (λ (x : Message). sites_of x ≡ sites) (sym e) (All-get_or (λ x. sites_of x ≡ sites) log n m h all) in
    let limits = parts_in_limits (sites_of m) m.stamp.id m.stamp.red m.shadow conditions.id conditions.shadow in
    let kept = parts_kept sites (1 + length (cores (take n log))) 1 m.stamp.id (parts_of (core m)) (fold_of (cores (take n log)))
    (subst (λ k. PartsInLimits k (parts_of (core m))) counts limits) within in
    subst (λ (f : Folded). AllInLimits sites f.tables) (sym (ap fold_of (cores_more log n m h e) ∙ one_more (cores (take n log)) (core m))) kept

-- and of those that follow, up to a place
rest_within : (sites : ℕ) (log : List Message) (n m k : ℕ) (d : Message) → k ≤ m → n + m ≤ length log → All IsMessage (take m (drop n log))
    → All (λ x. sites_of x ≡ sites) log → AreWithin sites log n → AreWithin sites log (n + k)
rest_within sites log n m ℕ.zero d on inside formed all within = subst (AreWithin sites log) (let e : n ≡ n + 0 = omega arith in e) within
rest_within sites log n m (ℕ.suc k) d on inside formed all within =
    let lt : n + k < length log = omega (arith, inside, on) in
    let x = get_or log (n + k) d in
    let same : n + k + 1 ≡ n + ℕ.suc k = omega arith in
    let conditions : IsMessage x =
    subst IsMessage (get_or-take m (drop n log) k d (omega (arith, on)) ∙ get_or-drop n log k d)
    (All-get_or IsMessage (take m (drop n log)) k d (omega (arith, on, inside, length-take-le m (drop n log) (omega (arith, inside, length-drop n log))))
    formed) in
    subst (AreWithin sites log) same
    (next_within sites log (n + k) x lt (get_or_default log (n + k) d x lt) conditions all
    (rest_within sites log n m k d (omega (arith, on)) inside formed all within))

pub log_within : (log : List Message) (n upto : ℕ) → n < upto → upto ≤ length log → All IsMessage (slice_range log n upto) → StaysWithin log n upto
log_within [] n upto l within formed = absurd (omega (arith, l, within))
log_within (m ∷ log) n upto l within formed = λ sites all first.
    let all_of_it : n + (upto - n) ≡ upto = omega (arith, l) in
    subst (AreWithin sites (m ∷ log)) all_of_it
    (rest_within sites (m ∷ log) n (upto - n) (upto - n) m (omega arith) (omega (arith, l, within)) formed all first)

-- ---- a batch of a log that was applied, whole or as far as memory went

-- ---- stops, one more
index_before : (xs : List ℕ) (x k : ℕ) → k < length xs → slice_index (xs ++ x ∷ []) k ≡ slice_index xs k
index_before [] x k l = absurd (omega (arith, l))
index_before (y ∷ xs) x zero l = refl
index_before (y ∷ xs) x (suc k) l = index_before xs x k (omega (arith, l))

index_last : (xs : List ℕ) (x : ℕ) → slice_index (xs ++ x ∷ []) (length xs) ≡ x
index_last [] x = refl
index_last (y ∷ xs) x = index_last xs x

pub index_more : (xs ys : List ℕ) (x n : ℕ) → ys ≡ xs ++ x ∷ [] → length xs ≡ n
    → ((k : ℕ) → k < n → slice_index xs k ≡ x) → (k : ℕ) → k < n + 1 → slice_index ys k ≡ x
index_more xs ys x n pushed many each k l = ⊎_elim
    (λ less. ap (λ zs. slice_index zs k) pushed ∙ index_before xs x k (omega (arith, less, many)) ∙ each k less)
    (λ more.
    let last : k ≡ length xs = omega (arith, l, more, many) in
    ap (λ zs. slice_index zs k) pushed ∙ ap (slice_index (xs ++ x ∷ [])) last ∙ index_last xs x) (cases_lt k n)

pub done_more : (dones : List ℕ) (at messages : ℕ) → slice_index dones at ≡ messages
    → ((k : ℕ) → k < at → slice_index dones k ≡ messages) → (k : ℕ) → k < at + 1 → slice_index dones k ≡ messages
done_more dones at messages one each k l = ⊎_elim (λ less. each k less)
    (λ more. let last : k ≡ at = omega (arith, l, more) in ap (slice_index dones) last ∙ one) (cases_lt k at)

-- ---- a log and its cores
pub cores_slice : (log : List Message) (i j : ℕ) → cores (slice_range log i j) ≡ slice_range (cores log) i j
cores_slice log i j = sym (ap (take (j - i)) (drop-map core i log) ∙ take-map core (j - i) (drop i log))

pub cores_front : (log : List Message) (i : ℕ) → cores (take i log) ≡ take i (cores log)
cores_front log i = sym (take-map core i log)

-- ---- where memory went out
-- all shards stand at one message
stands_all : (shards at : ℕ) (log : List Message) (ts : List ShardState) (stops : List ℕ) → length stops ≡ shards
    → ((k : ℕ) → k < shards → slice_index stops k ≡ at) → HoldsLog shards (cores (take at log)) ts
    → HoldsTo shards (cores log) stops ts
stands_all shards at log ts stops counts each h = record {
  many = h.many;
  counts = counts;
  each = λ k l.
      h.each k l
      ∙ ap (λ (ms : List Core). Some (shard_of_log shards ms k)) (cores_front log at ∙ ap (λ n. take n (cores log)) (sym (each k l)));
}

pub alone : (log : List Message) (from upto at : ℕ) (old new : List ShardState) (stops : List ℕ) → from ≤ at → at ≤ upto
    → length new ≡ length old → length stops ≡ length old → ((k : ℕ) → k < length old → slice_index stops k ≡ at)
    → (HoldsLog (length old) (cores (take from log)) old → HoldsLog (length old) (cores (take at log)) new)
    → AppliesTo log from upto old new stops
alone log from upto at old new stops on inside many counts each holds = record {
  many = many;
  counts = counts;
  within = λ k l. let is = each k (omega (arith, l, counts)) in (omega (arith, is, on), omega (arith, is, inside));
  holds = λ h. stands_all (length old) at log new stops counts each (holds h);
}

-- nothing was done
pub nothing : (log : List Message) (from upto : ℕ) (old new : List ShardState) (stops : List ℕ) → from ≤ upto → new ≡ old
    → length stops ≡ length old → ((k : ℕ) → k < length old → slice_index stops k ≡ from) → AppliesTo log from upto old new stops
nothing log from upto old new stops on same counts each =
    alone log from upto from old new stops (omega arith) on (ap length same) counts each
    (subst (HoldsLog (length old) (cores (take from log))) (sym same))

-- each shard did as much as it says
pub within_batch : (log : List Message) (from upto k : ℕ) (old new : List ShardState) (dones : List ℕ) → from ≤ upto → upto ≤ length log
    → AreFollowed (from + 1) (cores (slice_range log from upto)) old new dones → k < length dones
    → slice_index dones k ≤ upto - from
within_batch log from upto k old new dones on inside f l =
    let counts = f.counts in
    ⊎_elim (λ w. let (t, there, follows) = f.each k w.0 w.2 in
    let within = follows.within in
    let long = length-map (slice_range log from upto) core in
    let few = length-take (upto - from) (drop from log) in omega (arith, within, long, few))
    (λ w. let high = w.0 in absurd (omega (arith, high, counts, l))) (slice_get_cases old k).1

pub together : (log : List Message) (from upto : ℕ) (old new : List ShardState) (dones stops : List ℕ) → from ≤ upto
    → upto ≤ length log → AreFollowed (from + 1) (cores (slice_range log from upto)) old new dones
    → stops ≡ map (λ d. from + d) dones → AppliesTo log from upto old new stops
together log from upto old new dones stops on inside f are = record {
  many = f.many;
  counts = ap length are ∙ length-map dones (λ d. from + d) ∙ f.counts;
  within = λ k l.
      let long : k < length dones = (let a = ap length are in let b = length-map dones (λ d. from + d) in omega (arith, l, a, b)) in
      let few = within_batch log from upto k old new dones on inside f long in
      let stop : slice_index stops k ≡ from + slice_index dones k =
      ap (λ xs. slice_index xs k) are ∙ get_or-map (λ d. from + d) dones k 0 0 long in
      (omega (arith, stop), omega (arith, stop, few, on));
  holds = λ h.
      follows_to (length old) from upto (cores log) old new dones stops (let many = length-map log core in omega (arith, many, on, inside))
      (subst (λ ms. HoldsLog (length old) ms old) (cores_front log from) h)
      (subst (λ ms. AreFollowed (from + 1) ms old new dones) (cores_slice log from upto) f) are;
}

-- where each did all of it
pub whole : (log : List Message) (from upto : ℕ) (old new : List ShardState) (dones stops : List ℕ) → from ≤ upto
    → upto ≤ length log → AreFollowed (from + 1) (cores (slice_range log from upto)) old new dones
    → stops ≡ map (λ d. from + d) dones → ((k : ℕ) → k < length dones → slice_index dones k ≡ upto - from)
    → StaysWithin log from upto → AppliesWhole log from upto old new
whole log from upto old new dones stops on inside f are all limits =
    let to = together log from upto old new dones stops on inside f are in
    record {
      many = f.many;
      holds = λ h.
          let stand = to.holds h in
          record {
            many = stand.many;
            each = λ k l.
                let long : k < length dones = (let a = f.counts in omega (arith, l, a)) in
                let is = all k long in
                let stop : slice_index stops k ≡ upto =
                ap (λ xs. slice_index xs k) are ∙ get_or-map (λ d. from + d) dones k 0 0 long
                ∙ (let e : from + slice_index dones k ≡ upto = omega (arith, is, on) in e) in
                stand.each k l
                ∙ ap (λ (ms : List Core). Some (shard_of_log (length old) ms k)) (ap (λ n. take n (cores log)) stop ∙ sym (cores_front log upto));
          };
      limits = limits;
    }

-- the shards of a set are one still
pub set_followed : (first : ℕ) (batch : List Core) (old new : List ShardState) (dones : List ℕ) → 0 < length old → AreInOrder old
    → AreFollowed first batch old new dones → IsSet new
set_followed first batch old new dones some order f = record {
  some = (let m = f.many in omega (arith, some, m));
  order = λ k s e.
      let l : k < length old = (let a = slice_get_within new k s e in let m = f.many in omega (arith, a, m)) in
      ⊎_elim (λ w.
      let (t, there, follows) = f.each k w.0 w.2 in
      let same : s ≡ t = cc in
      let o = order k w.0 w.2 in (
        ap (λ (x : ShardState). x.number) (same ∙ follows.shard) ∙ o.0,
        ap (λ (x : ShardState). x.shards) (same ∙ follows.shard) ∙ o.1 ∙ sym f.many,
      ))
      (λ w. let high = w.0 in absurd (omega (arith, high, l))) (slice_get_cases old k).1;
}

pub on_err : {A E : Type 0} (P : Type 0) (r : Result A E) → P → OnErr r P
on_err P (Ok x) p = tt
on_err P (Err e) p = p

pub ok_of : {A E : Type 0} (P : Type 0) (r : Result A E) → is_ok r ≡ true → OnOk r P → P
ok_of P (Ok x) e h = h
ok_of P (Err x) e h = cc
