-- The shards' misfits, sorted by place, are the misfits of one thread.
use Rattle.rubis_pieces.proofs.Common.{ℕ, ◌≡◌, ◌+◌, ◌*◌, ◌<◌, ◌≤◌, List, [], ◌∷◌, ◌++◌, length, true, false, cond, refl, sym, ap, ◌∙◌, arith, get_or}
use Rattle.rubis_pieces.proofs.Common.{suc, Option, Some, None, ⊤, nat_eq, filter, slice_get, sum_by, IsPermutation, IsNonDecreasingBy, nat_tests}
use Rattle.rubis_pieces.proofs.Common.{sum_by-cons, slice_get_within, home, Id, Effect, Numbered, few_parts, Core, number_parts, numbered_from}
use Rattle.rubis_pieces.proofs.Common.{parts_of, share, home_within, ShardState, shard_of_log, HoldsLog, all_misfits}
use Rattle.std.specs.Prelude.{leb}
use Rattle.std.proofs.lemmas.List.Sums.{sum_by-append}
use Rattle.std.proofs.lemmas.List.Sorted.{sum_by-IsPermutation}
use Rattle.rubis_schema.specs.Tables.{Tables}
use Rattle.rubis_shadow.specs.Changes.{after_part}
use Rattle.rubis_shadow.specs.Shadows.{parts}
use Rattle.rubis_shadow.specs.Tables.{opening}
use Rattle.rubis_shadow.specs.declared.changes.MisfitKind.{MisfitKind}
use Rattle.rubis_shadow.specs.declared.changes.MisfitKind.TheVariants.{RowThere, NoRow, ClosedItem, StockShort, OtherUser}
use Rattle.rubis_shadow.specs.declared.numbered.Misfit.{Misfit}
use Rattle.rubis_model.specs.Log.{Folded, noted, fold_of}
use Rattle.rubis_model.specs.Shares.{part_of}
use Rattle.rubis_model.proofs.Shares.{outcomes, all_noted, fold_on_is, share_outcomes}
use Rattle.rubis_pieces.specs.Misfits.{misfit_order}

-- ---- lists in order, told apart by sums

module _ {X : Type 0} (place : X → ℕ) where
  abbrev pub AtLeast : ℕ → List X → Type 0
  AtLeast n [] = ⊤
  AtLeast n (x ∷ xs) = (n ≤ place x) × AtLeast n xs

  abbrev pub Ordered : List X → Type 0
  Ordered [] = ⊤
  Ordered (x ∷ xs) = AtLeast (place x) xs × Ordered xs

  abbrev pub Rising : List X → Type 0
  Rising [] = ⊤
  Rising (x ∷ xs) = AtLeast (place x + 1) xs × Rising xs

  abbrev at_place : ℕ → (X → ℕ) → X → ℕ
  at_place n g x = cond (nat_eq (place x) n) (g x) 0

  here : (n m v : ℕ) → n ≡ m → ◌≡◌ {A = ℕ} (cond (nat_eq n m) v 0) v
  here n m v e = grind (arith, nat_tests)

  away : (n m v : ℕ) → n < m → ◌≡◌ {A = ℕ} (cond (nat_eq m n) v 0) 0
  away n m v e = grind (arith, nat_tests)

  none_at : (n m : ℕ) (g : X → ℕ) (xs : List X) → n < m → AtLeast m xs → sum_by (at_place n g) xs ≡ 0
  none_at n m g [] l h = refl
  none_at n m g (x ∷ xs) l h =
      let a = away n (place x) (g x) (let z = h.0 in omega (arith, z, l)) in
      let b = none_at n m g xs l h.1 in
      let t = sum_by-cons (at_place n g) x xs in
      omega (arith, a, b, t)

  none_of : (n : ℕ) (g : X → ℕ) (xs : List X) → sum_by (at_place n (λ x. 1)) xs ≡ 0 → sum_by (at_place n g) xs ≡ 0
  none_of n g [] h = refl
  none_of n g (x ∷ xs) h =
      let t = sum_by-cons (at_place n (λ x. 1)) x xs in
      let u = sum_by-cons (at_place n g) x xs in
      let a : ◌≡◌ {A = ℕ} (cond (nat_eq (place x) n) 1 0) 0 = omega (arith, h, t) in
      let b = none_of n g xs (omega (arith, h, t)) in
      let c : ◌≡◌ {A = ℕ} (cond (nat_eq (place x) n) (g x) 0) 0 = grind (arith, nat_tests) in
      omega (arith, b, c, u)

  abbrev pub SameSums : List X → List X → Type 0
  SameSums xs ys = (f : X → ℕ) → sum_by f xs ≡ sum_by f ys

  module _ (tell : (x y : X) → ((g : X → ℕ) → g x ≡ g y) → x ≡ y) where
    heads : (x y : X) (xs ys : List X) → AtLeast (place x) xs → AtLeast (place y + 1) ys → SameSums (x ∷ xs) (y ∷ ys) → x ≡ y
    heads x y xs ys h k s =
        let one : X → ℕ = λ z. 1 in
        let n = place y in
        let sx : (f : X → ℕ) → sum_by f (x ∷ xs) ≡ f x + sum_by f xs = λ f. sum_by-cons f x xs in
        let sy : (f : X → ℕ) → sum_by f (y ∷ ys) ≡ f y + sum_by f ys = λ f. sum_by-cons f y ys in
        let low : place x ≤ n = elim (leb (place x) n) as (λ b. leb (place x) n ≡ b → place x ≤ n) [
          | true ↦ λ e. grind (arith, nat_tests)
          | false ↦ λ e.
              (let l : n < place x = grind (arith, nat_tests) in
              let a = away n (place x) 1 l in let b = none_at n (place x) one xs l h in let c = here n n 1 refl in
              let d = s (at_place n one) in let t = sx (at_place n one) in let u = sy (at_place n one) in
              absurd (omega (arith, a, b, c, d, t, u)))
        ] refl in
        let high : n ≤ place x = elim (leb n (place x)) as (λ b. leb n (place x) ≡ b → n ≤ place x) [
          | true ↦ λ e. grind (arith, nat_tests)
          | false ↦ λ e.
              (let l : place x < n = grind (arith, nat_tests) in
              let a = away (place x) n 1 l in let b = none_at (place x) (n + 1) one ys (omega (arith, l)) k in
              let c = here (place x) (place x) 1 refl in let d = s (at_place (place x) one) in
              let t = sx (at_place (place x) one) in let u = sy (at_place (place x) one) in
              absurd (omega (arith, a, b, c, d, t, u)))
        ] refl in
        let same : place x ≡ n = omega (arith, low, high) in
        let empty : sum_by (at_place n one) xs ≡ 0 =
        (let a = here (place x) n 1 same in let b = here n n 1 refl in let c = none_at n (n + 1) one ys (omega arith) k in
        let d = s (at_place n one) in let t = sx (at_place n one) in let u = sy (at_place n one) in
        omega (arith, a, b, c, d, t, u)) in
        tell x y (λ g.
        let a = here (place x) n (g x) same in let b = here n n (g y) refl in let c = none_at n (n + 1) g ys (omega arith) k in
        let d = none_of n g xs empty in
        let e = s (at_place n g) in let t = sx (at_place n g) in let u = sy (at_place n g) in omega (arith, a, b, c, d, e, t, u))

    pub same_order : (xs ys : List X) → Ordered xs → Rising ys → SameSums xs ys → xs ≡ ys
    same_order [] [] o r s = refl
    same_order [] (y ∷ ys) o r s = let e = s (λ z. 1) in let t = sum_by-cons (λ (z : X). 1) y ys in absurd (omega (arith, e, t))
    same_order (x ∷ xs) [] o r s = let e = s (λ z. 1) in let t = sum_by-cons (λ (z : X). 1) x xs in absurd (omega (arith, e, t))
    same_order (x ∷ xs) (y ∷ ys) o r s =
        let e = heads x y xs ys o.0 r.0 s in
        let rest : SameSums xs ys = λ f. (let a = s f in let b : f x ≡ f y = ap f e in let t = sum_by-cons f x xs in
        let u = sum_by-cons f y ys in omega (arith, a, b, t, u)) in
        λ i. e i ∷ same_order xs ys o.1 r.1 rest i

-- ---- misfits are told apart by numbers

code : MisfitKind → ℕ
code RowThere = 0
code NoRow = 1
code ClosedItem = 2
code StockShort = 3
code OtherUser = 4

decode : ℕ → MisfitKind
decode n = cond (nat_eq n 0) RowThere (cond (nat_eq n 1) NoRow (cond (nat_eq n 2) ClosedItem (cond (nat_eq n 3) StockShort OtherUser)))

decoded : (k : MisfitKind) → decode (code k) ≡ k
unfolding code decode
decoded RowThere = refl
decoded NoRow = refl
decoded ClosedItem = refl
decoded StockShort = refl
decoded OtherUser = refl

tell_misfits : (x y : Misfit) → ((g : Misfit → ℕ) → g x ≡ g y) → x ≡ y
tell_misfits x y h =
    let a : x.entry ≡ y.entry = h (λ m. m.entry) in
    let b : x.part ≡ y.part = h (λ m. m.part) in
    let c : x.id.site ≡ y.id.site = h (λ m. m.id.site) in
    let d : x.id.seq ≡ y.id.seq = h (λ m. m.id.seq) in
    let e : x.kind ≡ y.kind = sym (decoded x.kind) ∙ ap decode (h (λ m. code m.kind)) ∙ decoded y.kind in
    λ i. record { entry = a i; part = b i; id = record { site = c i; seq = d i }; kind = e i }

-- ---- the shards' misfits have the sums of the whole's

abbrev Outcome : Type 0
Outcome = Numbered × Option MisfitKind

sum_noted : (f : Misfit → ℕ) (o : Outcome) (os : List Outcome)
    → sum_by f (all_noted (o ∷ os)) ≡ sum_by f (noted o.0 o.1) + sum_by f (all_noted os)
sum_noted f o os = sum_by-append f (noted o.0 o.1) (all_noted os)

module _ (shards : ℕ) (f : Misfit → ℕ) where
  abbrev home_of : Outcome → ℕ
  home_of o = home shards o.0.effect.key

  abbrev worth : Outcome → ℕ
  worth o = sum_by f (noted o.0 o.1)

  abbrev from_on : ℕ → Outcome → ℕ
  from_on n o = cond (leb n (home_of o)) (worth o) 0

  sum_share : (k : ℕ) (os : List Outcome)
      → sum_by f (all_noted (filter (λ o. nat_eq (home shards o.0.effect.key) k) os)) ≡ sum_by (λ o. cond (nat_eq (home_of o)
      k) (worth o) 0) os
  sum_share k [] = refl
  sum_share k (o ∷ os) =
      elim (nat_eq (home_of o) k) as (λ b. sum_by f (all_noted (cond b (o ∷ filter (λ o. nat_eq (home shards o.0.effect.key) k)
      os) (filter (λ o. nat_eq (home shards o.0.effect.key) k) os))) ≡ cond b (worth o) 0 + sum_by (λ o. cond (nat_eq
      (home_of o) k) (worth o) 0) os) [
        | true ↦ sum_noted f o (filter (λ o. nat_eq (home shards o.0.effect.key) k) os) ∙ ap (λ n. worth o + n) (sum_share k os)
        | false ↦ (let a = sum_share k os in omega (arith, a))
      ] ∙ sym (sum_by-cons (λ o. cond (nat_eq (home_of o) k) (worth o) 0) o os)

  one_band : (h n v : ℕ) → cond (nat_eq h n) v 0 + cond (leb (n + 1) h) v 0 ≡ cond (leb n h) v 0
  one_band h n v = grind (arith, nat_tests)

  bands : (n : ℕ) (os : List Outcome)
      → sum_by (λ o. cond (nat_eq (home_of o) n) (worth o) 0) os + sum_by (from_on (n + 1)) os ≡ sum_by (from_on n) os
  bands n [] = refl
  bands n (o ∷ os) =
      let a = bands n os in
      let b = one_band (home_of o) n (worth o) in
      let t = sum_by-cons (λ o. cond (nat_eq (home_of o) n) (worth o) 0) o os in
      let u = sum_by-cons (from_on (n + 1)) o os in
      let v = sum_by-cons (from_on n) o os in
      omega (arith, a, b, t, u, v)

  past : (h n v : ℕ) → h < n → ◌≡◌ {A = ℕ} (cond (leb n h) v 0) 0
  past h n v l = grind (arith, nat_tests)

  from_first : (h v : ℕ) → ◌≡◌ {A = ℕ} (cond (leb 0 h) v 0) v
  from_first h v = grind (arith, nat_tests)

  none_past : 0 < shards → (os : List Outcome) → sum_by (from_on shards) os ≡ 0
  none_past l [] = refl
  none_past l (o ∷ os) =
      let a = none_past l os in
      let b = past (home_of o) shards (worth o) (home_within shards o.0.effect.key l) in
      let t = sum_by-cons (from_on shards) o os in
      omega (arith, a, b, t)

  from_zero : (os : List Outcome) → sum_by (from_on 0) os ≡ sum_by f (all_noted os)
  from_zero [] = refl
  from_zero (o ∷ os) =
      let a = from_zero os in
      let b = from_first (home_of o) (worth o) in
      let t = sum_by-cons (from_on 0) o os in
      let u = sum_noted f o os in
      omega (arith, a, b, t, u)

  shards_from : 0 < shards → (os : List Outcome) (n : ℕ) (ts : List ShardState) → n + length ts ≡ shards
      → ((j : ℕ) (s : ShardState) → slice_get ts j ≡ Some s
      → s.folded.misfits ≡ all_noted (filter (λ o. nat_eq (home shards o.0.effect.key) (n + j)) os))
      → sum_by f (all_misfits ts) ≡ sum_by (from_on n) os
  shards_from l os n [] e h =
      let same : shards ≡ n = omega (arith, e) in
      sym (ap (λ m. sum_by (from_on m) os) (sym same) ∙ none_past l os)
  shards_from l os n (t ∷ ts) e h =
      let z : n + 0 ≡ n = omega arith in
      let first : sum_by f t.folded.misfits ≡ sum_by (λ o. cond (nat_eq (home_of o) n) (worth o) 0) os
      = ap (sum_by f) (h 0 t refl ∙ ap (λ m. all_noted (filter (λ o. nat_eq (home shards o.0.effect.key) m) os)) z)
      ∙ sum_share n os in
      let rest = shards_from l os (n + 1) ts (omega (arith, e)) (λ j s g. (let w : n + suc j ≡ (n + 1) + j = omega arith in
      h (suc j) s g ∙ ap (λ m. all_noted (filter (λ o. nat_eq (home shards o.0.effect.key) m) os)) w)) in
      let both = sum_by-append f t.folded.misfits (all_misfits ts) in
      let c = bands n os in
      omega (arith, first, rest, both, c)

-- ---- the places of a log's parts rise
abbrev place_of_part : Numbered → ℕ
place_of_part n = n.entry * 256 + n.part

abbrev place_of_outcome : Outcome → ℕ
place_of_outcome o = place_of_part o.0

above_outcomes : (n : ℕ) (t : Tables) (ns : List Numbered) → AtLeast place_of_part n ns
    → AtLeast place_of_outcome n (outcomes t ns)
above_outcomes n t [] h = tt
above_outcomes n t (x ∷ ns) h = (h.0, above_outcomes n (after_part t x.effect) ns h.1)

rising_outcomes : (t : Tables) (ns : List Numbered) → Rising place_of_part ns → Rising place_of_outcome (outcomes t ns)
rising_outcomes t [] h = tt
rising_outcomes t (x ∷ ns) h = (
  above_outcomes (place_of_part x + 1) (after_part t x.effect) ns h.0,
  rising_outcomes (after_part t
      x.effect) ns h.1,
)

above_noted : (n : ℕ) (os : List Outcome) → AtLeast place_of_outcome n os → AtLeast misfit_order n (all_noted os)
above_noted n [] h = tt
above_noted n (o ∷ os) h = rest (above_noted n os h.1) o.1
  where
    rest : AtLeast misfit_order n (all_noted os) → (k : Option MisfitKind) → AtLeast misfit_order n (noted o.0 k ++ all_noted os)
    rest r None = r
    rest r (Some k) = (h.0, r)

rising_noted : (os : List Outcome) → Rising place_of_outcome os → Rising misfit_order (all_noted os)
rising_noted [] h = tt
rising_noted (o ∷ os) h = rest (above_noted (place_of_outcome o + 1) os h.0) (rising_noted os h.1) o.1
  where
    rest : AtLeast misfit_order (place_of_outcome o + 1) (all_noted os) → Rising misfit_order (all_noted os)
        → (k : Option MisfitKind) → Rising misfit_order (noted o.0 k ++ all_noted os)
    rest u r None = r
    rest u r (Some k) = (u, r)

above_parts : (n entry part : ℕ) (id : Id) (es : List Effect) (rest : List Numbered) → n ≤ entry * 256 + part
    → AtLeast place_of_part n rest → AtLeast place_of_part n (number_parts entry part id es ++ rest)
above_parts n entry part id [] rest h r = r
above_parts n entry part id (e ∷ es) rest h r = (h, above_parts n entry (part + 1) id es rest (omega (arith, h)) r)

lower : (n m : ℕ) (ns : List Numbered) → m ≤ n → AtLeast place_of_part n ns → AtLeast place_of_part m ns
lower n m [] l h = tt
lower n m (x ∷ ns) l h = ((let z = h.0 in omega (arith, l, z)), lower n m ns l h.1)

rising_parts : (entry part : ℕ) (id : Id) (es : List Effect) (rest : List Numbered) → part + length es ≤ 4
    → AtLeast place_of_part (entry * 256 + 256) rest → Rising place_of_part rest
    → Rising place_of_part (number_parts entry part id es ++ rest)
rising_parts entry part id [] rest h a r = r
rising_parts entry part id (e ∷ es) rest h a r = (
  above_parts (entry * 256 + part + 1) entry (part + 1) id es rest (omega arith) (lower (entry * 256 + 256) (entry * 256 + part
      + 1) rest (omega (arith, h)) a),
  rising_parts entry (part + 1) id es rest (omega (arith, h)) a r,
)

above_numbered : (n first : ℕ) (ms : List Core) → n ≤ first * 256 + 1 → AtLeast place_of_part n (numbered_from first ms)
above_numbered n first [] h = tt
above_numbered n first (m ∷ ms) h = above_parts n first 1 m.id (parts_of m) (numbered_from (first + 1) ms) h (above_numbered n
    (first + 1) ms (omega (arith, h)))

rising_numbered : (first : ℕ) (ms : List Core) → Rising place_of_part (numbered_from first ms)
rising_numbered first [] = tt
rising_numbered first (m ∷ ms) =
    let l : length (parts m.id m.red m.shadow) ≤ 3 = few_parts m.id m.red m.shadow in
    rising_parts first 1 m.id (parts_of m) (numbered_from (first + 1) ms) (omega (arith, l)) (above_numbered (first * 256 +
    256) (first + 1) ms (omega arith)) (rising_numbered (first + 1) ms)

-- ---- from a clause of a sort

at_least_from : (n : ℕ) (xs : List Misfit) → ((j : ℕ) (d : Misfit) → j < length xs → n ≤ misfit_order (get_or xs j d))
    → AtLeast misfit_order n xs
at_least_from n [] h = tt
at_least_from n (x ∷ xs) h = (h 0 x (omega arith), at_least_from n xs (λ j d l. h (suc j) d (omega (arith, l))))

ordered_from : (xs : List Misfit) → IsNonDecreasingBy misfit_order xs → Ordered misfit_order xs
ordered_from [] h = tt
ordered_from (x ∷ xs) h = (
  at_least_from (misfit_order x) xs (λ j d l. h 0 (suc j) d (omega arith) (omega (arith, l))),
  ordered_from xs (λ i j d a l. h (suc i) (suc j) d (omega (arith, a)) (omega (arith, l))),
)

misfits_of_log : (shards : ℕ) (log : List Core) (k : ℕ)
    → (shard_of_log shards log k).folded.misfits ≡ all_noted (filter (λ o. nat_eq (home shards o.0.effect.key) k) (outcomes
    opening (numbered_from 1 log)))
misfits_of_log shards log k =
    ap (λ (f : Folded). f.misfits) (fold_on_is (part_of shards k opening) [] (share shards 1 log k))
    ∙ ap all_noted (share_outcomes shards k opening (numbered_from 1 log))

pub misfits_are : (shards : ℕ) (log : List Core) (ts : List ShardState) (ms : List Misfit) → 0 < shards → HoldsLog shards log ts
    → IsPermutation (all_misfits ts) ms → IsNonDecreasingBy misfit_order ms → ms ≡ (fold_of log).misfits
misfits_are shards log ts ms l h p o =
    same_order misfit_order tell_misfits ms (all_noted os) (ordered_from ms o) (rising_noted os (rising_outcomes opening
    (numbered_from 1 log) (rising_numbered 1 log))) sums
    ∙ sym (ap (λ (f : Folded). f.misfits) (fold_on_is opening [] (numbered_from 1 log)))
  where
    os : List Outcome
    os = outcomes opening (numbered_from 1 log)

    of_shard : (j : ℕ) (s : ShardState) → slice_get ts j ≡ Some s
        → s.folded.misfits ≡ all_noted (filter (λ o. nat_eq (home shards o.0.effect.key) (0 + j)) os)
    of_shard j s g =
        let inside : j < length ts = slice_get_within ts j s g in
        let m = h.many in
        let w = h.each j (omega (arith, inside, m)) in
        let is : shard_of_log shards log j ≡ s = cc in
        let z : j ≡ 0 + j = omega arith in
        ap (λ (x : ShardState). x.folded.misfits) (sym is) ∙ misfits_of_log shards log j
        ∙ ap (λ n. all_noted (filter (λ o. nat_eq (home shards o.0.effect.key) n) os)) z

    sums : SameSums misfit_order ms (all_noted os)
    sums f =
        sum_by-IsPermutation f (all_misfits ts) ms p
        ∙ shards_from shards f l os 0 ts (let m = h.many in omega (arith, m)) of_shard
        ∙ from_zero shards f os
