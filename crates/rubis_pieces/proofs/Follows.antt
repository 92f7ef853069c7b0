-- The parts of a batch folded on shards straight from its messages.
use Rattle.rubis_pieces.proofs.Common.{◌≡◌, ℕ, zero, suc, ◌+◌, ◌<◌, ◌≤◌, List, [], ◌∷◌, ◌++◌, length, take, get_or, refl, sym, ap, ◌∙◌, subst, arith}
use Rattle.rubis_pieces.proofs.Common.{set, Bool, true, false, cond, ⊎_elim, Ok, Err, Some, nat_lt, slice_get, slice_index, filter, append-nil}
use Rattle.rubis_pieces.proofs.Common.{get_or-map, length-map, take_more, take-map, length-set, Message, Core, core, cores, number_parts}
use Rattle.rubis_pieces.proofs.Common.{numbered_from, parts_of, share, cores_push, ShardState, with_parts, parts_at, core_of, numbered_of, AreHomes}
use Rattle.rubis_pieces.proofs.Common.{AreHomesOf, shard_of_log, LogEntry, PartHomes, with_append, parts_at_append, cases_eq, nat_tests, home, Effect}
use Rattle.std.specs.Prelude.{Result, OnErr}
use Rattle.std.specs.Result.{is_err}
use Rattle.std.proofs.lemmas.List.{get_or-set_other, get_or-set_same, set-get_or}
use Rattle.rubis_shard.specs.Holdings.{NoneAt, FoldsOn}
use Rattle.rubis_pieces.proofs.Dealt.{share_turn}
use Rattle.rubis_pieces.specs.Following.{IsFollowed, AreFurther, GoesTo, HoldsTo, parts_behind, waits}
use Rattle.rubis_pieces.proofs.Counting.{shard_next}

-- ---- the homes of the messages of a batch
home_at : (shards i : ℕ) (batch : List Core) (homes : List PartHomes) (m : Core) (d : PartHomes) → i < length batch
    → m ≡ get_or batch i m → AreHomes shards batch homes → AreHomesOf shards m (get_or homes i d)
home_at shards i [] homes m d l is all = absurd (omega (arith, l))
home_at shards i (y ∷ ys) [] m d l is all = absurd all
home_at shards zero (y ∷ ys) (g ∷ gs) m d l is all = subst (λ z. AreHomesOf shards z g) (sym is) all.0
home_at shards (suc i) (y ∷ ys) (g ∷ gs) m d l is all = home_at shards i ys gs m d (omega (arith, l)) is all.1

pub homes_at : (shards i : ℕ) (batch : List Message) (homes : List PartHomes) (x : Message) (m : LogEntry) (d : PartHomes)
    → i < length batch → x ≡ get_or batch i x → core_of m ≡ core x → AreHomes shards (cores batch) homes
    → AreHomesOf shards (core_of m) (get_or homes i d)
homes_at shards i batch homes x m d l got is all =
    home_at shards i (cores batch) homes (core_of m) d (let many = length-map batch core in omega arith)
    (is ∙ ap core got ∙ sym (get_or-map core batch i x (core_of m) l)) all

-- ---- one message more
pub follow_turn : (first i : ℕ) (batch : List Message) (x : Message) (m : LogEntry) (s now next : ShardState) → i < length batch
    → x ≡ get_or batch i x → m.number ≡ first + i → core_of m ≡ core x
    → now ≡ with_parts s (share s.shards first (cores (take i batch)) s.number)
    → next ≡ with_parts now (parts_at now.shards now.number (numbered_of m))
    → next ≡ with_parts s (share s.shards first (cores (take (i + 1) batch)) s.number)
follow_turn first i batch x m s now next l got counted is inv turn =
    let a = share s.shards first (cores (take i batch)) s.number in
    let b = parts_at s.shards s.number (numbered_of m) in
    turn ∙ (λ j. with_parts (inv j) (parts_at (inv j).shards (inv j).number (numbered_of m)))
    ∙ sym (with_append s a b)
    ∙ ap (with_parts s) (share_turn s.shards s.number first i batch x m a (a ++ b) l got counted is refl refl)

-- a message of which the shard has no part is passed over
passed : (shards k first i : ℕ) (batch : List Core) (homes : List PartHomes) (d : PartHomes) → i < length batch → k < shards
    → AreHomes shards batch homes → NoneAt k (get_or homes i d)
    → share shards first (take (suc i) batch) k ≡ share shards first (take i batch) k
passed shards k first i [] homes d l within all none = absurd (omega (arith, l))
passed shards k first i (m ∷ ms) [] d l within all none = absurd all
passed shards k first zero (m ∷ ms) (h ∷ hs) d l within all none =
    ap (parts_at shards k) (append-nil (number_parts first 1 m.id (parts_of m))) ∙ none shards first m within all.0
passed shards k first (suc i) (m ∷ ms) (h ∷ hs) d l within all none =
    parts_at_append shards k (number_parts first 1 m.id (parts_of m)) (numbered_from (first + 1) (take (suc i) ms))
    ∙ ap (λ ps. parts_at shards k (number_parts first 1 m.id (parts_of m)) ++ ps)
    (passed shards k (first + 1) i ms hs d (omega (arith, l)) within all.1 none)
    ∙ sym (parts_at_append shards k (number_parts first 1 m.id (parts_of m)) (numbered_from (first + 1) (take i ms)))

pub pass_turn : (first i : ℕ) (batch : List Message) (homes : List PartHomes) (d : PartHomes) (s now : ShardState)
    → i < length batch → s.number < s.shards → AreHomes s.shards (cores batch) homes → NoneAt s.number (get_or homes i d)
    → now ≡ with_parts s (share s.shards first (cores (take i batch)) s.number)
    → now ≡ with_parts s (share s.shards first (cores (take (i + 1) batch)) s.number)
pass_turn first i batch homes d s now l within all none inv =
    let inside : i < length (cores batch) = (let many = length-map batch core in omega (arith, l, many)) in
    let more : i + 1 ≡ suc i = omega arith in
    let same = passed s.shards s.number first i (cores batch) homes d inside within all none in
    inv ∙ ap (λ ms. with_parts s (share s.shards first ms s.number)) (sym (take-map core i batch))
    ∙ ap (with_parts s) (sym same)
    ∙ ap (λ ms. with_parts s (share s.shards first ms s.number)) (ap (λ n. take n (cores batch)) (sym more) ∙ take-map core (i + 1) batch)

pub homes_turn : (shards i : ℕ) (batch : List Message) (x : Message) (m : LogEntry) (h : PartHomes) (now next : List PartHomes)
    → i < length batch → x ≡ get_or batch i x → core_of m ≡ core x → next ≡ now ++ h ∷ [] → AreHomesOf shards (core_of m) h
    → AreHomes shards (cores (take i batch)) now → AreHomes shards (cores (take (i + 1) batch)) next
homes_turn shards i batch x m h now next l got is pushed one all =
    subst (λ ms. AreHomes shards ms next) (ap (λ c. cores (take i batch) ++ c ∷ []) is ∙ sym (cores_push (take i batch) x)
    ∙ ap cores (ap (λ y. take i batch ++ y ∷ []) got ∙ sym (take_more batch i x l)))
    (subst (AreHomes shards (cores (take i batch) ++ core_of m ∷ [])) (sym pushed) (homes_push (cores (take i batch)) now all))
  where
    homes_push : (ms : List Core) (hs : List PartHomes) → AreHomes shards ms hs
        → AreHomes shards (ms ++ core_of m ∷ []) (hs ++ h ∷ [])
    homes_push [] [] a = (one, tt)
    homes_push [] (g ∷ gs) a = absurd a
    homes_push (y ∷ ys) [] a = absurd a
    homes_push (y ∷ ys) (g ∷ gs) a = (a.0, homes_push ys gs a.1)

pub homes_many : (shards : ℕ) (batch : List Core) (homes : List PartHomes) → AreHomes shards batch homes
    → length homes ≡ length batch
homes_many shards [] [] h = refl
homes_many shards [] (g ∷ gs) h = absurd h
homes_many shards (m ∷ ms) [] h = absurd h
homes_many shards (m ∷ ms) (g ∷ gs) h = ap (λ n. suc n) (homes_many shards ms gs h.1)

-- ---- where it stops
pub of_err : {T E : Type 0} (P : Type 0) (r : Result T E) → is_err r ≡ true → OnErr r P → P
of_err P (Ok x) e h = cc
of_err P (Err x) e h = h

pub stops : (first i : ℕ) (batch : List Message) (s now next : ShardState) → i ≤ length batch
    → now ≡ with_parts s (share s.shards first (cores (take i batch)) s.number) → next ≡ now
    → IsFollowed first (cores batch) s i next
stops first i batch s now next l inv same = record {
  within = (let many = length-map batch core in omega arith);
  shard = same ∙ inv ∙ ap (λ ms. with_parts s (share s.shards first ms s.number)) (sym (take-map core i batch));
}

-- ---- shards that go on from their stops

-- one message more on one shard
pub goes_turn : (n from place : ℕ) (log : List Message) (x : Message) (m : LogEntry) (old now next : List ShardState)
    → n < length old → place < length log → x ≡ get_or log place x → m.number ≡ place + 1 → core_of m ≡ core x
    → GoesTo n from place (cores log) old now
    → FoldsOn n (parts_at (length now) n (numbered_of m)) now next → GoesTo n from (place + 1) (cores log) old next
goes_turn n from place log x m old now next inside l got counted is inv folds shards stops at holds = record {
  many = folds.many ∙ was.many;
  counts = length-set stops n (place + 1) ∙ holds.counts;
  each = λ k less. ⊎_elim (λ same. here k less same) (λ other. elsewhere k less other) (cases_eq k n);
}
  where
    was : HoldsTo shards (cores log) (set stops n place) now
    was = inv shards stops at holds

    long : n < length stops
    long = (let a = holds.counts in let b = holds.many in omega (arith, inside, a, b))

    here : (k : ℕ) → k < shards → k ≡ n
        → slice_get next k ≡ Some (shard_of_log shards (take (slice_index (set stops n (place + 1)) k) (cores log)) k)
    here k less same =
        let now_at : slice_get now n ≡ Some (shard_of_log shards (take place (cores log)) n) =
        was.each n (omega (arith, less, same)) ∙ ap (λ i. Some (shard_of_log shards (take i (cores log)) n)) (get_or-set_same stops n place 0 long) in
        let next_at : slice_get next n ≡ Some (shard_of_log shards (take (slice_index (set stops n (place + 1)) n) (cores log)) n) =
        folds.here (shard_of_log shards (take place (cores log)) n) now_at
        ∙ (λ i. Some (with_parts (shard_of_log shards (take place (cores log)) n) (parts_at (was.many i) n (numbered_of m))))
        ∙ ap Some (shard_next shards n place log x m l got counted is
        ∙ ap (λ i. shard_of_log shards (take i (cores log)) n) (sym (get_or-set_same stops n (place + 1) 0 long))) in
        subst (λ j. slice_get next j ≡ Some (shard_of_log shards (take (slice_index (set stops n (place + 1)) j) (cores log)) j)) (sym same) next_at

    elsewhere : (k : ℕ) → k < shards → ¬ (k ≡ n)
        → slice_get next k ≡ Some (shard_of_log shards (take (slice_index (set stops n (place + 1)) k) (cores log)) k)
    elsewhere k less other =
        folds.others k other ∙ was.each k less
        ∙ ap (λ i. Some (shard_of_log shards (take i (cores log)) k)) (get_or-set_other stops n k place 0 other
        ∙ sym (get_or-set_other stops n k (place + 1) 0 other))

-- before any
pub goes_first : (n from : ℕ) (log : List Core) (ts : List ShardState) → GoesTo n from from log ts ts
goes_first n from log ts shards stops at holds =
    subst (λ i. HoldsTo shards log (set stops n i) ts) at (subst (λ xs. HoldsTo shards log xs ts) (sym (set-get_or stops n 0)) holds)

-- ---- fewer parts wait where stops are further on
fewer_wait : (shards : ℕ) (old new : List ℕ) (place : ℕ) (es : List Effect) → AreFurther old new
    → length (filter (waits shards new place) es) ≤ length (filter (waits shards old place) es)
fewer_wait shards old new place [] further = omega arith
fewer_wait shards old new place (e ∷ es) further =
    at (nat_lt (slice_index new (home shards e.key)) (place + 1)) (nat_lt (slice_index old (home shards e.key)) (place + 1)) refl refl
    (fewer_wait shards old new place es further)
  where
    at : (a b : Bool) → nat_lt (slice_index new (home shards e.key)) (place + 1) ≡ a
        → nat_lt (slice_index old (home shards e.key)) (place + 1) ≡ b
        → length (filter (waits shards new place) es) ≤ length (filter (waits shards old place) es)
        → length (cond a (e ∷ filter (waits shards new place) es) (filter (waits shards new place) es)) ≤ length
        (cond b (e ∷ filter (waits shards old place) es) (filter (waits shards old place) es))
    at true true p q rest = omega (arith, rest)
    at true false p q rest =
        let low : slice_index new (home shards e.key) < place + 1 = grind (arith, nat_tests) in
        let high : place + 1 ≤ slice_index old (home shards e.key) = grind (arith, nat_tests) in
        let more = further (home shards e.key) in
        absurd (omega (arith, low, high, more))
    at false true p q rest = omega (arith, rest)
    at false false p q rest = rest

pub fewer_behind : (shards : ℕ) (old new : List ℕ) (place : ℕ) (ms : List Core) → AreFurther old new
    → parts_behind shards new place ms ≤ parts_behind shards old place ms
fewer_behind shards old new place [] further = omega arith
fewer_behind shards old new place (m ∷ ms) further =
    omega (arith, fewer_wait shards old new place (parts_of m) further, fewer_behind shards old new (place + 1) ms further)
