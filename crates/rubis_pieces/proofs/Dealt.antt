-- Parts dealt to the shares of their homes, one after the other, and put together again.
use Rattle.rubis_pieces.proofs.Common.{ℕ, ◌≡◌, ◌+◌, ◌<◌, List, [], ◌∷◌, ◌++◌, length, take, get_or, set, cond, sym, ap, ◌∙◌, subst, arith}
use Rattle.rubis_pieces.proofs.Common.{append_assoc, ⊎_elim, ◌*◌, ◌-◌, ◌≤◌, zero, suc, drop, refl, Some, None, Ok, Err, IfOk, slice_get, map}
use Rattle.rubis_pieces.proofs.Common.{slice_range, cases_eq, cases_lt, Decides-eqb, append-nil, take_more, take_all, length-map, length-take-le}
use Rattle.rubis_pieces.proofs.Common.{drop-drop, drop_all, length-drop, take-map, slice_get-get_or, slice_get_within, get_or_from_slice_get, home}
use Rattle.rubis_pieces.proofs.Common.{Id, Effect, Numbered, few_parts, Message, Core, core, cores, number_parts, numbered_from, parts_of, cores_push}
use Rattle.rubis_pieces.proofs.Common.{numbered_append, core_of, numbered_of, parts_at, LogEntry, Share, not_equal, parts_at_append, written_here}
use Rattle.rubis_pieces.proofs.Common.{written_elsewhere, below_or_last, Vec, AllZip, range_with_len}
use Rattle.std.proofs.Common.{length-set, min}
use Rattle.std.specs.Prelude.{MatchResult}
use Rattle.std.specs.declared.result.Result.{Result}
use Rattle.std.proofs.lemmas.List.{drop-map, take_min}
use Rattle.std.specs.declared.alloc.AllocError.{AllocError}
use Rattle.rubis_pieces.specs.Batches.{AreDealt, AreOfParts, AreShares, batch_part}

-- ---- one part
here : (shards k : ℕ) (ns : List Numbered) (n : Numbered) → home shards n.effect.key ≡ k
    → parts_at shards k (ns ++ n ∷ []) ≡ parts_at shards k ns ++ n ∷ []
here shards k ns n e =
    parts_at_append shards k ns (n ∷ [])
    ∙ ap (λ b. parts_at shards k ns ++ cond b (n ∷ []) []) ((Decides-eqb (home shards n.effect.key) k).1 e)

elsewhere : (shards k : ℕ) (ns : List Numbered) (n : Numbered) → ¬ (home shards n.effect.key ≡ k)
    → parts_at shards k (ns ++ n ∷ []) ≡ parts_at shards k ns
elsewhere shards k ns n e =
    parts_at_append shards k ns (n ∷ [])
    ∙ ap (λ b. parts_at shards k ns ++ cond b (n ∷ []) []) (not_equal (home shards n.effect.key) k e)
    ∙ append-nil (parts_at shards k ns)

pub dealt_push : (shards at : ℕ) (ns : List Numbered) (n : Numbered) (shares : List Share) (d : Share) (ps : List Numbered)
    → home shards n.effect.key ≡ at → at < shards → d ≡ get_or shares at d → ps ≡ d.effects ++ n ∷ []
    → AreDealt shards ns shares → AreDealt shards (ns ++ n ∷ []) (set shares at (record { number = d.number; effects = ps }))
dealt_push shards at ns n shares d ps e l g p h = record {
  many = length-set shares at new ∙ h.many;
  each = λ k lt.
      let within : k < length shares = let m = h.many in omega (arith, m, lt) in
      ⊎_elim
      (λ same.
      ap (slice_get (set shares at new)) same ∙ written_here shares at new (let m = h.many in omega (arith, m, l))
      ∙ (λ i. Some (record { number = (was i).number; effects = added i }))
      ∙ (λ i. Some (record { number = sym same i; effects = parts_at shards (sym same i) (ns ++ n ∷ []) })))
      (λ other.
      written_elsewhere shares at k new other within ∙ h.each k lt
      ∙ (λ i. Some (record { number = k; effects = sym (elsewhere shards k ns n (λ s. other (sym s ∙ e))) i })))
      (cases_eq k at);
}
  where
    new : Share
    new = record { number = d.number; effects = ps }

    was : d ≡ record { number = at; effects = parts_at shards at ns }
    was = g ∙ get_or_from_slice_get shares at (record { number = at; effects = parts_at shards at ns }) d (h.each at l)

    added : ps ≡ parts_at shards at (ns ++ n ∷ [])
    added = p ∙ ap (λ (x : Share). x.effects ++ n ∷ []) was ∙ sym (here shards at ns n e)

-- ---- the parts of one message
number_parts_push : (entry part : ℕ) (id : Id) (es : List Effect) (e : Effect)
    → number_parts entry part id (es ++ e ∷ []) ≡ number_parts entry part id es ++ record {
      entry = entry;
      part = part + length
          es;
      id = id;
      effect = e;
    } ∷ []
number_parts_push entry part id [] e = let z : part ≡ part + 0 = omega arith in
    λ i. record { entry = entry; part = z i; id = id; effect = e } ∷ []
number_parts_push entry part id (x ∷ es) e =
    let z : (part + 1) + length es ≡ part + length (x ∷ es) = omega arith in
    ap (λ ns. record { entry = entry; part = part; id = id; effect = x } ∷ ns)
    (number_parts_push entry (part + 1) id es e
    ∙ (λ i. number_parts entry (part + 1) id es ++ record { entry = entry; part = z i; id = id; effect = e } ∷ []))

take_one : {X : Type 0} (xs : List X) (i : ℕ) (x : X) → slice_get xs i ≡ Some x → take (i + 1) xs ≡ take i xs ++ x ∷ []
take_one xs i x e = take_more xs i x (slice_get_within xs i x e)
    ∙ ap (λ y. take i xs ++ y ∷ []) (get_or_from_slice_get xs i x x e)

take_none : {X : Type 0} (xs : List X) (i : ℕ) → slice_get xs i ≡ None → take (i + 1) xs ≡ take i xs
take_none [] i e = take_all (i + 1) [] (omega arith) ∙ sym (take_all i [] (omega arith))
take_none (x ∷ xs) i e = ⊎_elim
    (λ l. (let s = slice_get-get_or (x ∷ xs) i x l in absurd cc))
    (λ l. take_all (i + 1) (x ∷ xs) (omega (arith, l)) ∙ sym (take_all i (x ∷ xs) l)) (cases_lt i (length (x ∷ xs)))

-- one place more, where there is a part, and where there is none
next_part : (entry i : ℕ) (id : Id) (es : List Effect) (e f : Effect) → Some e ≡ slice_get es i → f ≡ e
    → number_parts entry 1 id (take (i + 1) es) ≡ number_parts entry 1 id (take i es) ++ record { entry = entry; part = i + 1; id = id; effect = f } ∷ []
next_part entry i id es e f there copied =
    let within = slice_get_within es i e (sym there) in
    let long : length (take i es) ≡ i = length-take-le i es (omega (arith, within)) in
    let z : 1 + length (take i es) ≡ i + 1 = omega (arith, long) in
    ap (number_parts entry 1 id) (take_one es i e (sym there)) ∙ number_parts_push entry 1 id (take i es) e
    ∙ (λ j. number_parts entry 1 id (take i es) ++ record { entry = entry; part = z j; id = id; effect = sym copied j } ∷ [])

no_part : (entry i : ℕ) (id : Id) (es : List Effect) → None ≡ slice_get es i
    → number_parts entry 1 id (take (i + 1) es) ≡ number_parts entry 1 id (take i es)
no_part entry i id es there = ap (number_parts entry 1 id) (take_none es i (sym there))

-- the parts before a place are dealt
abbrev pub IsDealtTo : ℕ → List Numbered → List Share → List Share → Type 0
IsDealtTo shards ps a b = (ns : List Numbered) → AreDealt shards ns a → AreDealt shards (ns ++ ps) b

pub place_turn : (shards entry i m : ℕ) (id : Id) (es : List Effect) (e f : Effect) (a l b : List Share) → m ≡ shards
    → Some e ≡ slice_get es i → f ≡ e
    → IsDealtTo shards (number_parts entry 1 id (take i es)) a l
    → IsDealtTo m (record { entry = entry; part = i + 1; id = id; effect = f } ∷ []) l b
    → IsDealtTo shards (number_parts entry 1 id (take (i + 1) es)) a b
place_turn shards entry i m id es e f a l b same there copied inv turn ns h =
    let done = subst (λ k. IsDealtTo k (record { entry = entry; part = i + 1; id = id; effect = f } ∷ []) l b) same turn _ (inv
    ns h) in
    subst (λ ps. AreDealt shards ps b) (append_assoc ns _ _ ∙ ap (λ ps. ns ++ ps) (sym (next_part entry i id es e f there copied))) done

pub place_past : (shards entry i : ℕ) (id : Id) (es : List Effect) (a l : List Share) → None ≡ slice_get es i
    → IsDealtTo shards (number_parts entry 1 id (take i es)) a l
    → IsDealtTo shards (number_parts entry 1 id (take (i + 1) es)) a l
place_past shards entry i id es a l there inv = subst (λ ps. IsDealtTo shards ps a l) (sym (no_part entry i id es there)) inv

all_places : (m : Core) (i : ℕ) → i ≡ 3 → take i (parts_of m) ≡ parts_of m
all_places m i end = ap (λ n. take n (parts_of m)) end ∙ take_all 3 (parts_of m) (few_parts m.id m.red m.shadow)

pub message_end : (shards entry i : ℕ) (m : Core) (a l : List Share) → i ≡ 3
    → IsDealtTo shards (number_parts entry 1 m.id (take i (parts_of m))) a l
    → IsDealtTo shards (number_parts entry 1 m.id (parts_of m)) a l
message_end shards entry i m a l end inv =
    subst (λ fs. IsDealtTo shards (number_parts entry 1 m.id fs) a l) (all_places m i end) inv

-- ---- the messages of a batch
-- after some parts, those of others whose home is a shard
abbrev pub IsTakenTo : ℕ → ℕ → List Numbered → List Numbered → List Numbered → Type 0
IsTakenTo shards k ps a b = b ≡ a ++ parts_at shards k ps

-- one message more
more_messages : (first i : ℕ) (batch : List Message) (x : Message) (m : LogEntry) → i < length batch
    → x ≡ get_or batch i x → m.number ≡ first + i → core_of m ≡ core x
    → numbered_from first (cores (take (i + 1) batch)) ≡ numbered_from first (cores (take i batch)) ++ numbered_of m
more_messages first i batch x m lt got counted is =
    let long : length (cores (take i batch)) ≡ i = length-map (take i batch) core ∙ length-take-le i batch (omega (arith, lt)) in
    let z : first + length (cores (take i batch)) ≡ m.number = omega (arith, long, counted) in
    ap (λ ms. numbered_from first (cores ms)) (take_more batch i x lt ∙ ap (λ y. take i batch ++ y ∷ []) (sym got))
    ∙ ap (numbered_from first) (cores_push (take i batch) x ∙ ap (λ c. cores (take i batch) ++ c ∷ []) (sym is))
    ∙ numbered_append first (cores (take i batch)) (core_of m ∷ [])
    ∙ (λ j. numbered_from first (cores (take i batch)) ++ (number_parts (z j) 1 m.id (parts_of (core_of m)) ++ []))
    ∙ ap (λ qs. numbered_from first (cores (take i batch)) ++ qs) (append-nil (numbered_of m))

pub split_turn : (shards first i many : ℕ) (batch : List Message) (x : Message) (m : LogEntry) (l b : List Share)
    → many ≡ shards → i < length batch → x ≡ get_or batch i x → m.number ≡ first + i → core_of m ≡ core x
    → AreDealt shards (numbered_from first (cores (take i batch))) l → IsDealtTo many (numbered_of m) l b
    → AreDealt shards (numbered_from first (cores (take (i + 1) batch))) b
split_turn shards first i many batch x m l b same lt got counted is h turn =
    subst (λ qs. AreDealt shards qs b) (sym (more_messages first i batch x m lt got counted is))
    (subst (λ k. IsDealtTo k (numbered_of m) l b) same turn _ h)

-- one shard's parts of one message more
pub share_turn : (shards k first i : ℕ) (batch : List Message) (x : Message) (m : LogEntry) (l b : List Numbered)
    → i < length batch → x ≡ get_or batch i x → m.number ≡ first + i → core_of m ≡ core x
    → l ≡ parts_at shards k (numbered_from first (cores (take i batch))) → IsTakenTo shards k (numbered_of m) l b
    → b ≡ parts_at shards k (numbered_from first (cores (take (i + 1) batch)))
share_turn shards k first i batch x m l b lt got counted is h turn =
    turn ∙ ap (λ qs. qs ++ parts_at shards k (numbered_of m)) h
    ∙ sym (parts_at_append shards k (numbered_from first (cores (take i batch))) (numbered_of m))
    ∙ ap (parts_at shards k) (sym (more_messages first i batch x m lt got counted is))

-- what follows where there is no error
pub if_ok : {T E : Type 0} (r : Result T E) (P Q : T → Type 0) (R : E → Type 0) → MatchResult r P R → ((v : T) → P v → Q v) → IfOk r Q
if_ok (Ok v) P Q R h f = f v h
if_ok (Err e) P Q R h f = tt

-- ---- the shares of the parts of a batch, put together

-- ---- what is left of a list
pub drop_first : {X : Type 0} (xs : List X) (n : ℕ) (x : X) (rest : List X) → drop n xs ≡ x ∷ rest → slice_get xs n ≡ Some x
drop_first [] zero x rest e = absurd cc
drop_first [] (suc n) x rest e = absurd cc
drop_first (y ∷ xs) zero x rest e = let same : y ≡ x = cc in ap Some same
drop_first (y ∷ xs) (suc n) x rest e = drop_first xs n x rest e

pub drop_rest : {X : Type 0} (xs : List X) (n : ℕ) (x : X) (rest : List X) → drop n xs ≡ x ∷ rest → rest ≡ drop (suc n) xs
drop_rest [] zero x rest e = absurd cc
drop_rest [] (suc n) x rest e = absurd cc
drop_rest (y ∷ xs) zero x rest e = cc
drop_rest (y ∷ xs) (suc n) x rest e = drop_rest xs n x rest e

-- ---- shares that are added to others
-- the first n shares have the parts of others after their own
pub record AreAddedTo (n : ℕ) (old more new : List Share) : Type 0 where
  pub many : length new ≡ length old
  pub done : (k : ℕ) (s t : Share) → k < n → slice_get old k ≡ Some s → slice_get more k ≡ Some t
      → slice_get new k ≡ Some (record { number = s.number; effects = s.effects ++ t.effects })
  pub left : (k : ℕ) → n ≤ k → k < length old → slice_get new k ≡ slice_get old k

pub none_added : (old more : List Share) → AreAddedTo 0 old more old
none_added old more = record {
  many = refl;
  done = λ k s t low here there. absurd (omega (arith, low));
  left = λ k high within. refl;
}

both_are : (s t u v : Share) → Some s ≡ Some u → Some t ≡ Some v
    → ◌≡◌ {A = Share} (record { number = s.number; effects = s.effects ++ t.effects }) (record { number = u.number; effects = u.effects ++ v.effects })
both_are s t u v first second =
    let one : s ≡ u = cc in
    let other : t ≡ v = cc in
    λ i. record { number = (one i).number; effects = (one i).effects ++ (other i).effects }

pub one_added : (n : ℕ) (old more l : List Share) (s t new : Share) → AreAddedTo n old more l → n < length l
    → slice_get l n ≡ Some s → slice_get more n ≡ Some t → new ≡ record { number = s.number; effects = s.effects ++ t.effects }
    → AreAddedTo (n + 1) old more (set l n new)
one_added n old more l s t new h within here there is = record {
  many = length-set l n new ∙ h.many;
  done = λ k u v low was adds. ⊎_elim
      (λ before. written_elsewhere l n k new (λ same. omega (arith, same, before)) (omega (arith, before, within)) ∙ h.done k u v before was adds)
      (λ same.
      ap (slice_get (set l n new)) same ∙ written_here l n new within
      ∙ ap Some (is ∙ both_are s t u v
      (sym here ∙ h.left n (omega arith) (omega (arith, h.many, within)) ∙ ap (slice_get old) (sym same) ∙ was)
      (sym there ∙ ap (slice_get more) (sym same) ∙ adds)))
      (below_or_last k n low);
  left = λ k high inside.
      written_elsewhere l n k new (λ same. omega (arith, same, high)) (omega (arith, h.many, inside)) ∙ h.left k (omega (arith, high)) inside;
}

pub added_dealt : (n : ℕ) (old more new : List Share) → length more ≤ n → AreAddedTo n old more new
    → (shards : ℕ) (ms ns : List Numbered) → AreDealt shards ms old → AreDealt shards ns more → AreDealt shards (ms ++ ns) new
added_dealt n old more new all h shards ms ns first second = record {
  many = h.many ∙ first.many;
  each = λ k lt.
      h.done k (record { number = k; effects = parts_at shards k ms }) (record { number = k; effects = parts_at shards k ns })
      (omega (arith, lt, second.many, all)) (first.each k lt) (second.each k lt)
      ∙ (λ i. Some (record { number = k; effects = sym (parts_at_append shards k ms ns) i }));
}

-- ---- the parts of a batch
-- a part, as it is read
pub part_cores : (batch : List Message) (from n : ℕ) → n ≡ min 1024 (length (slice_range batch from (length batch)))
    → cores (take n (slice_range batch from (length batch))) ≡ batch_part from (cores batch)
part_cores batch from n is =
    let rest = drop from batch in
    let same : slice_range batch from (length batch) ≡ rest = take_all (length batch - from) rest (omega (arith, length-drop from batch)) in
    ap cores (ap (take n) same ∙ ap (λ m. take m rest) (is ∙ ap (λ (xs : List Message). min 1024 (length xs)) same) ∙ take_min 1024 rest)
    ∙ sym (take-map core 1024 rest) ∙ ap (take 1024) (sym (drop-map core from batch))

-- what holds of each result, by its place, holds of what the results have
pub each_made : {S : Type 0} (P : ℕ → S → Type 0) (ks : List ℕ) (parts : List S)
    → AllZip (λ k (r : Result S AllocError). IfOk r (P k)) ks (map Ok parts) → AllZip P ks parts
each_made P [] [] h = tt
each_made P [] (p ∷ ps) h = absurd h
each_made P (k ∷ ks) [] h = absurd h
each_made P (k ∷ ks) (p ∷ ps) h = (h.0, each_made P ks ps h.1)

-- shares that were made of each part, from part k on, are those of the parts of the messages from its place on
pub parts_from : (shards first at : ℕ) (batch : List Core) (k n : ℕ) (parts : List (Vec Share)) → (1 ≤ n → at ≡ first + k * 1024)
    → length batch ≤ (k + n) * 1024 → (k + n) * 1024 ≤ length batch + 1024
    → AllZip (λ j (part : Vec Share). AreShares shards (first + j * 1024) (batch_part (j * 1024) batch) part.items) (range_with_len k n) parts
    → AreOfParts shards at (drop (k * 1024) batch) parts
parts_from shards first at batch k zero [] begins enough few h = drop_all (k * 1024) batch (omega (arith, enough))
parts_from shards first at batch k zero (p ∷ ps) begins enough few h = absurd h
parts_from shards first at batch k (suc n) [] begins enough few h = absurd h
parts_from shards first at batch k (suc n) (p ∷ ps) begins enough few h =
    let here : at ≡ first + k * 1024 = begins (omega arith) in
    let next : k * 1024 + 1024 ≡ (k + 1) * 1024 = omega arith in
    let rest = drop (k * 1024) batch in
    let begins_next : 1 ≤ n → at + length (take 1024 rest) ≡ first + (k + 1) * 1024 = λ some.
    omega (arith, here, length-take-le 1024 rest (omega (arith, length-drop (k * 1024) batch, few, some))) in (
      subst (λ m. AreShares shards m (take 1024 rest) p.items) (sym here) h.0,
      subst (λ ms. AreOfParts shards (at + length (take 1024 rest)) ms ps) (sym (drop-drop 1024 (k * 1024) batch ∙ ap (λ m. drop m batch) next))
          (parts_from shards first (at + length (take 1024 rest)) batch (k + 1) n ps begins_next (omega (arith, enough)) (omega (arith, few)) h.1),
    )
