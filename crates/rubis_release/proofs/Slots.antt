-- What is found in slots, and a message that is taken out of its slot.
use Rattle.rubis_release.proofs.Common.{◌≡◌, ◌∙◌, List, [], ◌∷◌, ◌++◌, ap, refl, sym, ℕ, zero, suc, ◌+◌, ◌<◌, ◌≤◌, Bool, true, false, cond, length}
use Rattle.rubis_release.proofs.Common.{subst, inl, inr, ⊎_elim, arith, ◌-◌, ◌||◌, get_or, length-append, Option, None, map, Some, slice_get, ◌⊎◌}
use Rattle.rubis_release.proofs.Common.{◌↔◌, filter, is_some, take, Message, remove, list_any, cases_lt, same_id, Decides-same_id, Id, MessageCounts}
use Rattle.rubis_release.proofs.Common.{IsReady, Has, get_or_append_left, nil_from_length, insert_entry, set_value_at}
use Rattle.std.proofs.Common.{length-take}
use Rattle.std.specs.Prelude.{slice_index, min, IsTrue}
use Rattle.std.specs.Map.{values_of, keys_of, lookup, lookup_key}
use Rattle.std.specs.Borrow.{Bor}
use Rattle.std.specs.Bool.{MatchBool}
use Rattle.std.specs.List.{AllByRecursion, IsDistinct}
use Rattle.std.proofs.lemmas.Option.{slice_get_past}
use Rattle.rubis_schema.specs.declared.limits.TheConstants.{SEQ_MAX}
use Rattle.std.proofs.lemmas.List.{get_or_at}
use Rattle.rubis_release.specs.Waiting.{Slots, put_some, somes, IsItsSlot, HaveTheirIds, IsReadySlot, IsFirstOf, HasNoReady, NoSlotOf, lesser_place, AreApart}
use Rattle.rubis_release.specs.Waiting.{AreSlots, TakesFirstReady, is_there}
use mathlib.Core.Bool.{true≢false}
use Rattle.rubis_release.specs.Release.{AllAmong, IsFirst, NoneReady}
use Rattle.rubis_release.proofs.Keeping.{has_there}

abbrev pub messages_of : List (Option Message) → List Message
messages_of [] = []
messages_of (v ∷ vs) = put_some v (messages_of vs)

pub of_slots : (es : Slots) → messages_of (values_of es) ≡ somes es
of_slots [] = refl
of_slots (e ∷ es) = ap (put_some e.1) (of_slots es)

-- a slot without one
pub none_listed : (old : List (Bor Message)) (v : Option Message) (rest vs : List (Option Message)) (all : List Message)
    → map (λ m. m.now) old ++ messages_of vs ≡ all → vs ≡ v ∷ rest → v ≡ None → map (λ m. m.now) old ++ messages_of rest ≡ all
none_listed old v rest vs all listed next is =
    sym (ap (λ w. map (λ m. m.now) old ++ put_some w (messages_of rest)) is)
    ∙ sym (ap (λ ws. map (λ m. m.now) old ++ messages_of ws) next) ∙ listed

-- ---- what is found in slots, and where

itself : (k : Id) → same_id k k ≡ true
itself k = (Decides-same_id k k).1 refl

-- a key that stands in a slot is found
pub not_missing : (test : Id → Bool) (es : Slots) (i : ℕ) (k : Id) (v : Option Message) → lookup test es ≡ None → slice_get es i ≡ Some (k, v) → test k ≡ true →
    ⊥
not_missing test [] i k v none there passes = absurd cc
not_missing test (e ∷ es) i k v none there passes = at (test e.0) i refl none there (λ j. not_missing test es j k v)
  where
    at : (b : Bool) (i : ℕ) → test e.0 ≡ b → cond (test e.0) (Some e.1) (lookup test es) ≡ None → slice_get (e ∷ es) i ≡ Some (k, v)
        → ((j : ℕ) → lookup test es ≡ None → slice_get es j ≡ Some (k, v) → test k ≡ true → ⊥) → ⊥
    at true i is none there rest = let some : Some e.1 ≡ None = ap (λ b. cond b (Some e.1) (lookup test es)) (sym is) ∙ none in absurd cc
    at false zero is none there rest = let same : e ≡ (k, v) = cc in true≢false (sym passes ∙ ap (λ (x : Id × Option Message). test x.0) (sym same) ∙ is)
    at false (suc j) is none there rest = rest j (ap (λ b. cond b (Some e.1) (lookup test es)) (sym is) ∙ none) there passes

all_at : (x : Id) (es : Slots) (i : ℕ) (k : Id) (v : Option Message) → AllByRecursion (λ y. same_id x y ≡ false) (keys_of es) → slice_get es i ≡ Some (k, v) →
    same_id x k ≡ false
all_at x [] i k v h there = absurd cc
all_at x (e ∷ es) zero k v h there = let same : e ≡ (k, v) = cc in ap (λ (y : Id × Option Message). same_id x y.0) (sym same) ∙ h.0
all_at x (e ∷ es) (suc i) k v h there = all_at x es i k v h.1 there

-- a key stands in one slot
pub one_place : (es : Slots) (a b : ℕ) (k : Id) (v w : Option Message) → IsDistinct same_id (keys_of es) → slice_get es a ≡ Some (k, v) → slice_get es b
    ≡ Some (k, w) → a ≡ b
unfolding IsDistinct
one_place [] a b k v w d here there = absurd cc
one_place (e ∷ es) zero zero k v w d here there = refl
one_place (e ∷ es) zero (suc b) k v w d here there =
    let same : e ≡ (k, v) = cc in
    absurd (true≢false (sym (itself k) ∙ ap (λ (y : Id × Option Message). same_id y.0 k) (sym same) ∙ all_at e.0 es b k w d.0 there))
one_place (e ∷ es) (suc a) zero k v w d here there =
    let same : e ≡ (k, w) = cc in
    absurd (true≢false (sym (itself k) ∙ ap (λ (y : Id × Option Message). same_id y.0 k) (sym same) ∙ all_at e.0 es a k v d.0 here))
one_place (e ∷ es) (suc a) (suc b) k v w d here there = ap suc (one_place es a b k v w d.1 here there)

-- what is in a slot waits, at its own id
pub slot_has : (es : Slots) (i : ℕ) (k : Id) (m : Message) → slice_get es i ≡ Some (k, Some m) → Has m (somes es)
slot_has [] i k m there = absurd cc
slot_has (e ∷ es) zero k m there = let same : e ≡ (k, Some m) = cc in subst (λ (x : Id × Option Message). Has m (put_some x.1 (somes es))) (sym same) (inl refl)
slot_has (e ∷ es) (suc i) k m there = in_rest e.1 (slot_has es i k m there)
  where
    in_rest : (v : Option Message) → Has m (somes es) → Has m (put_some v (somes es))
    in_rest None h = h
    in_rest (Some x) h = inr h

pub slot_own : (es : Slots) (i : ℕ) (k : Id) (m : Message) → HaveTheirIds es → slice_get es i ≡ Some (k, Some m) → m.stamp.id ≡ k
slot_own [] i k m own there = absurd cc
slot_own (e ∷ es) zero k m own there = let same : e ≡ (k, Some m) = cc in subst (λ (x : Id × Option Message). IsItsSlot x.0 x.1) same own.0
slot_own (e ∷ es) (suc i) k m own there = slot_own es i k m own.1 there

-- ---- the first of more sites
below_or : (j site : ℕ) → j < site + 1 → (j < site) ⊎ (j ≡ site)
below_or j site l = ⊎_elim (λ b. inl b) (λ h. inr (omega (arith, l, h))) (cases_lt j site)

min_is : (a b : ℕ) → (min a b ≡ a) ⊎ (min a b ≡ b)
min_is a b = ⊎_elim (λ l. inl (omega (arith, l))) (λ l. inr (omega (arith, l))) (cases_lt a b)

module _ (clock : MessageCounts) (es : Slots) (site : ℕ) where
  one_of : (a b c : ℕ) → (c ≡ a) ⊎ (c ≡ b) → IsReadySlot clock es a → IsReadySlot clock es b → IsReadySlot clock es c
  one_of a b c (inl e) h g = subst (IsReadySlot clock es) (sym e) h
  one_of a b c (inr e) h g = subst (IsReadySlot clock es) (sym e) g

  pub first_joined : (a b : Option ℕ) → IsFirstOf clock es (λ j. j < site) a → IsFirstOf clock es (λ j. j ≡ site) b
      → IsFirstOf clock es (λ j. j < site + 1) (lesser_place a b)
  first_joined None None h g = λ i k m there ready pass. ⊎_elim (λ l. h i k m there ready l) (λ e. g i k m there ready e) (below_or m.stamp.id.site site pass)
  first_joined None (Some b) h g =
      (g.0, λ i k m there ready pass. ⊎_elim (λ l. absurd (h i k m there ready l)) (λ e. g.1 i k m there ready e) (below_or m.stamp.id.site site pass))
  first_joined (Some a) None h g =
      (h.0, λ i k m there ready pass. ⊎_elim (λ l. h.1 i k m there ready l) (λ e. absurd (g i k m there ready e)) (below_or m.stamp.id.site site pass))
  first_joined (Some a) (Some b) h g = (
    one_of a b (min a b) (min_is a b) h.0 g.0,
    λ i k m there ready pass. ⊎_elim
        (λ l. let w = h.1 i k m there ready l in omega (arith, w))
        (λ e. let w = g.1 i k m there ready e in omega (arith, w))
        (below_or m.stamp.id.site site pass),
  )

-- ---- what is looked up of one site
value_of : Option (Id × Option Message) → Option Message
value_of None = None
value_of (Some e) = e.1

pub same_value : (key k : Id) (v : Option Message) (m : Message) → ◌≡◌ {A = Option (Id × Option Message)} (Some (key, v)) (Some (k, Some m)) → v ≡ Some m
unfolding value_of
same_value key k v m e = ap value_of e

pub key_passes : (test : Id → Bool) (es : Slots) (k : Id) → Some k ≡ lookup_key test es → test k ≡ true
key_passes test [] k found = absurd cc
key_passes test (e ∷ es) k found = at (test e.0) refl found (key_passes test es k)
  where
    at : (b : Bool) → test e.0 ≡ b → Some k ≡ cond (test e.0) (Some e.0) (lookup_key test es) → (Some k ≡ lookup_key test es → test k ≡ true) → test k ≡ true
    at true is found rest =
        let one : Some k ≡ Some e.0 = found ∙ ap (λ b. cond b (Some e.0) (lookup_key test es)) is in
        let same : k ≡ e.0 = cc in
        ap test same ∙ is
    at false is found rest = rest (found ∙ ap (λ b. cond b (Some e.0) (lookup_key test es)) is)

module _ (clock : MessageCounts) (es : Slots) (id : Id) (own : HaveTheirIds es) (small : (m : Message) → Has m (somes es) → m.stamp.id.seq ≤ SEQ_MAX)
    (next : slice_index clock.counts id.site + 1 ≤ SEQ_MAX → id.seq ≡ slice_index clock.counts id.site + 1) where
  id_of_ready : (i : ℕ) (k : Id) (m : Message) → slice_get es i ≡ Some (k, Some m) → IsReady clock m.stamp → m.stamp.id.site ≡ id.site → k ≡ id
  id_of_ready i k m there ready pass =
      let count : m.stamp.id.seq ≡ slice_index clock.counts id.site + 1 = ready.next ∙ ap (λ j. slice_index clock.counts j + 1) pass in
      let few = small m (slot_has es i k m there) in
      let seq : m.stamp.id.seq ≡ id.seq = count ∙ sym (next (omega (arith, count, few))) in
      let same : m.stamp.id ≡ id = λ n. record { site = pass n; seq = seq n } in
      sym (slot_own es i k m own there) ∙ same

  pub missing_none : lookup (same_id id) es ≡ None → NoSlotOf clock es (λ j. j ≡ id.site)
  missing_none none = λ i k m there ready pass.
      not_missing (same_id id) es i k (Some m) none there ((Decides-same_id id k).1 (sym (id_of_ready i k m there ready pass)))

  module _ (at : ℕ) (key : Id) (v : Option Message) (distinct : IsDistinct same_id (keys_of es)) (here : slice_get es at ≡ Some (key, v))
      (passes : same_id id key ≡ true) where
    place_is : (i : ℕ) (k : Id) (m : Message) → slice_get es i ≡ Some (k, Some m) → IsReady clock m.stamp → m.stamp.id.site ≡ id.site → at ≡ i
    place_is i k m there ready pass =
        let same : k ≡ key = id_of_ready i k m there ready pass ∙ (Decides-same_id id key).0 passes in
        one_place es at i key v (Some m) distinct here (there ∙ ap (λ (x : Id). Some (x, Some m)) same)

    pub found_none : ((m : Message) → v ≡ Some m → IsReady clock m.stamp → ⊥) → NoSlotOf clock es (λ j. j ≡ id.site)
    found_none not = λ i k m there ready pass.
        let place = place_is i k m there ready pass in
        let both : ◌≡◌ {A = Option (Id × Option Message)} (Some (key, v)) (Some (k, Some m)) = sym here ∙ ap (slice_get es) place ∙ there in
        let is : v ≡ Some m = same_value key k v m both in
        not m is ready

    pub found_first : (m : Message) → v ≡ Some m → IsReady clock m.stamp → IsFirstOf clock es (λ j. j ≡ id.site) (Some at)
    found_first m is ready = (
      record { key = key; message = m; there = here ∙ ap (λ (x : Option Message). Some (key, x)) is; ready = ready },
      λ i k u there r pass. let place = place_is i k u there r pass in omega (arith, place),
    )

-- of all sites, where as many were looked at
pub first_wider : (clock : MessageCounts) (es : Slots) (n site : ℕ) → n ≤ site → (o : Option ℕ) → IsFirstOf clock es (λ j. j < site) o →
    IsFirstOf clock es (λ j. j < n) o
first_wider clock es n site l None h = λ i k m there ready pass. h i k m there ready (omega (arith, pass, l))
first_wider clock es n site l (Some at) h = (h.0, λ i k m there ready pass. h.1 i k m there ready (omega (arith, pass, l)))

-- ---- slots that are looked at one by one
pub by_test : {P : Type 0} (Yes No : Type 0) (b : Bool) → IsTrue b ↔ P → (P → Yes) → ((P → ⊥) → No) → MatchBool b Yes No
by_test Yes No true d f g = f (d.0 refl)
by_test Yes No false d f g = g (λ p. absurd (true≢false (sym (d.1 p))))

pub test_is : (Yes No : Type 0) (b : Bool) → b ≡ true → MatchBool b Yes No → Yes
test_is Yes No true is h = h
test_is Yes No false is h = absurd (true≢false (sym is))

pub test_is_not : (Yes No : Type 0) (b : Bool) → b ≡ false → MatchBool b Yes No → No
test_is_not Yes No true is h = absurd (true≢false is)
test_is_not Yes No false is h = h

module _ (clock : MessageCounts) (es : Slots) (at : ℕ) where
  pub one_more : ((i : ℕ) → i < at → HasNoReady clock es i) → HasNoReady clock es at → (i : ℕ) → i < at + 1 → HasNoReady clock es i
  one_more before here i l = ⊎_elim (λ b. before i b) (λ e. subst (HasNoReady clock es) (sym e) here) (below_or i at l)

  module _ (Passes : ℕ → Type 0) (before : (i : ℕ) → i < at → HasNoReady clock es i) where
    pub first_is : IsReadySlot clock es at → IsFirstOf clock es Passes (Some at)
    first_is here = (here, λ i k m there ready pass. ⊎_elim (λ l. absurd (before i l k m there ready)) (λ l. l) (cases_lt i at))

    pub none_is_ready : length es ≤ at → IsFirstOf clock es Passes None
    none_is_ready all = λ i k m there ready pass. ⊎_elim
        (λ l. before i l k m there ready)
        (λ l. let none : Some (k, Some m) ≡ None = sym there ∙ slice_get_past es i (omega (arith, l, all)) in absurd cc)
        (cases_lt i at)

-- ---- a message is taken out of its slot, and the slots that are left empty go

pub un_some : {X : Type 0} (a b : X) → Some a ≡ Some b → a ≡ b
un_some a b e = cc

pub no_some : {X : Type 0} (a : X) → None ≡ Some a → ⊥
no_some a e = cc

-- where there are no slots, nothing waits
pub nothing_waits : (es : Slots) (ms : List Message) → length es ≡ 0 → somes es ≡ ms → ms ≡ []
nothing_waits es ms none is = sym is ∙ ap somes (nil_from_length es none)

pub nothing_ready : (clock : MessageCounts) (ms : List Message) → ms ≡ [] → NoneReady clock ms
nothing_ready clock ms none = subst (NoneReady clock) (sym none) (λ i d less. absurd (omega (arith, less)))

pub values_at : (es : Slots) (i : ℕ) (k : Id) (v : Option Message) → slice_get es i ≡ Some (k, v) → slice_get (values_of es) i ≡ Some v
values_at [] i k v there = absurd cc
values_at (e ∷ es) zero k v there = let same : e ≡ (k, v) = cc in ap (λ (x : Id × Option Message). Some x.1) same
values_at (e ∷ es) (suc i) k v there = values_at es i k v there

-- a waiting message stands in a slot
pub slot_of : (es : Slots) (m : Message) → Has m (somes es) → (i : ℕ) × (k : Id) × (i < length es) × (slice_get es i ≡ Some (k, Some m))
slot_of [] m h = absurd h
slot_of (e ∷ es) m h = at e.1 refl h (slot_of es m)
  where
    at : (v : Option Message) → e.1 ≡ v → Has m (put_some e.1 (somes es))
        → (Has m (somes es) → (i : ℕ) × (k : Id) × (i < length es) × (slice_get es i ≡ Some (k, Some m)))
        → (i : ℕ) × (k : Id) × (i < length (e ∷ es)) × (slice_get (e ∷ es) i ≡ Some (k, Some m))
    at None is h rest =
        let f = rest (subst (λ (v : Option Message). Has m (put_some v (somes es))) is h) in
        (suc f.0, f.1, omega (arith, f.2), f.3)
    at (Some x) is h rest = one (subst (λ (v : Option Message). Has m (put_some v (somes es))) is h)
      where
        one : (m ≡ x) ⊎ Has m (somes es) → (i : ℕ) × (k : Id) × (i < length (e ∷ es)) × (slice_get (e ∷ es) i ≡ Some (k, Some m))
        one (inl same) = (0, e.0, omega arith, λ i. Some (e.0, (is ∙ ap Some (sym same)) i))
        one (inr h) = let f = rest h in (suc f.0, f.1, omega (arith, f.2), f.3)

pub somes_append : (es fs : Slots) → somes (es ++ fs) ≡ somes es ++ somes fs
somes_append [] fs = refl
somes_append (e ∷ es) fs = put e.1 (somes_append es fs)
  where
    put : (v : Option Message) → somes (es ++ fs) ≡ somes es ++ somes fs → put_some v (somes (es ++ fs)) ≡ put_some v (somes es) ++ somes fs
    put None h = h
    put (Some m) h = ap (λ ms. m ∷ ms) h

emptied : Id × Option Message → Slots → Slots
emptied x es = (x.0, None) ∷ es

-- the slots before and after one
pub record IsSplit (es : Slots) (at : ℕ) (k : Id) (m : Message) : Type 0 where
  pub front : Slots
  pub back : Slots
  pub before : es ≡ front ++ (k, Some m) ∷ back
  pub place : length front ≡ at
  pub after : set_value_at es at None ≡ front ++ (k, None) ∷ back

pub split_slots : (es : Slots) (at : ℕ) (k : Id) (m : Message) → slice_get es at ≡ Some (k, Some m) → IsSplit es at k m
unfolding emptied
split_slots [] at k m there = absurd cc
split_slots (e ∷ es) zero k m there =
    let same : e ≡ (k, Some m) = cc in
    record {
      front = [];
      back = es;
      before = ap (λ (x : Id × Option Message). x ∷ es) same;
      place = refl;
      after = ap (λ (x : Id × Option Message). emptied x es) same;
    }
split_slots (e ∷ es) (suc i) k m there =
    let h = split_slots es i k m there in
    record { front = e ∷ h.front; back = h.back; before = ap (λ xs. e ∷ xs) h.before; place = ap suc h.place; after = ap (λ xs. e ∷ xs) h.after }

-- ---- lists
at_middle : (xs ys : List Message) (m : Message) → slice_get (xs ++ m ∷ ys) (length xs) ≡ Some m
at_middle [] ys m = refl
at_middle (x ∷ xs) ys m = at_middle xs ys m

without_middle : (xs ys : List Message) (m : Message) → remove (xs ++ m ∷ ys) (length xs) ≡ xs ++ ys
without_middle [] ys m = refl
without_middle (x ∷ xs) ys m = ap (λ zs. x ∷ zs) (without_middle xs ys m)

slot_before : (es fs : Slots) (i : ℕ) → i < length es → slice_get (es ++ fs) i ≡ slice_get es i
slot_before [] fs i l = absurd (omega (arith, l))
slot_before (e ∷ es) fs zero l = refl
slot_before (e ∷ es) fs (suc i) l = slot_before es fs i (omega (arith, l))

-- ---- none is ready
pub none_of_slots : (clock : MessageCounts) (es : Slots) (n : ℕ) → AllAmong n (somes es) → NoSlotOf clock es (λ j. j < n) → NoneReady clock (somes es)
none_of_slots clock es n among none k d within ready =
    let h = has_there (somes es) k d within in
    let f = slot_of es (get_or (somes es) k d) h in
    none f.0 f.1 (get_or (somes es) k d) f.3 ready (among (get_or (somes es) k d) h).id.site

-- ---- the first that is ready is taken
pub taken_first : (clock : MessageCounts) (es : Slots) (n at : ℕ) (k : Id) (m : Message) → AllAmong n (somes es) → slice_get es at ≡ Some (k, Some m)
    → IsFirstOf clock es (λ j. j < n) (Some at) → TakesFirstReady clock (somes es) m (somes (set_value_at es at None))
taken_first clock es n at k m among there first =
    let h = split_slots es at k m there in
    let xs = somes h.front in
    let ys = somes h.back in
    let old : somes es ≡ xs ++ m ∷ ys = ap somes h.before ∙ somes_append h.front ((k, Some m) ∷ h.back) in
    let new : somes (set_value_at es at None) ≡ xs ++ ys = ap somes h.after ∙ somes_append h.front ((k, None) ∷ h.back) in
    let ready : IsReady clock m.stamp = ready_there clock es at k m there first.0 in
    record {
      at = length xs;
      first = subst (λ ms. IsFirst clock ms (length xs)) (sym old) (record {
        within = let more = length-append xs (m ∷ ys) in omega (arith, more);
        ready = λ d. subst (λ (x : Message). IsReady clock x.stamp) (sym (get_or_at xs m ys d (length xs) refl)) ready;
        first = λ j d l r.
            let x = get_or xs j d in
            let f = slot_of h.front x (has_there xs j d l) in
            let here : slice_get es f.0 ≡ Some (f.1, Some x) = ap (λ zs. slice_get zs f.0) h.before ∙ slot_before h.front ((k, Some m) ∷ h.back) f.0 f.2
            ∙ f.3 in
            let r' : IsReady clock x.stamp = subst (λ (y : Message). IsReady clock y.stamp) (get_or_append_left xs (m ∷ ys) d j l) r in
            let late = first.1 f.0 f.1 x here r' (among x (slot_has es f.0 f.1 x here)).id.site in
            omega (arith, late, f.2, h.place);
      });
      message = ap (λ ms. slice_get ms (length xs)) old ∙ at_middle xs ys m;
      rest = new ∙ sym (without_middle xs ys m) ∙ ap (λ ms. remove ms (length xs)) (sym old);
    }
  where
    one_message : (a b : Message) (i j : Id) → ◌≡◌ {A = Option (Id × Option Message)} (Some (i, Some a)) (Some (j, Some b)) → a ≡ b
    one_message a b i j e = un_some a b (same_value i j (Some a) b e)

    ready_there : (clock : MessageCounts) (es : Slots) (at : ℕ) (k : Id) (m : Message) → slice_get es at ≡ Some (k, Some m) → IsReadySlot clock es at →
        IsReady clock m.stamp
    ready_there clock es at k m there r = subst (λ (x : Message). IsReady clock x.stamp) (one_message r.message m r.key k (sym r.there ∙ there)) r.ready

-- ---- the slots stay right
ids_stay : (es : Slots) (at : ℕ) → HaveTheirIds es → HaveTheirIds (set_value_at es at None)
ids_stay [] at h = h
ids_stay (e ∷ es) zero h = (tt, h.1)
ids_stay (e ∷ es) (suc i) h = (h.0, ids_stay es i h.1)

keys_stay : (es : Slots) (at : ℕ) (v : Option Message) → keys_of (set_value_at es at v) ≡ keys_of es
keys_stay [] at v = refl
keys_stay (e ∷ es) zero v = refl
keys_stay (e ∷ es) (suc i) v = ap (λ ks. e.0 ∷ ks) (keys_stay es i v)

pub slots_stay : (es : Slots) (at gone : ℕ) (k : Id) (m : Message) → slice_get es at ≡ Some (k, Some m) → AreSlots es gone →
    AreSlots (set_value_at es at None) (gone + 1)
slots_stay es at gone k m there slots =
    let h = split_slots es at k m there in
    let old = ap (λ (zs : Slots). length (somes zs)) h.before ∙ ap length (somes_append h.front ((k, Some m) ∷ h.back))
    ∙ length-append (somes h.front) (m ∷ somes h.back) in
    let new = ap (λ (zs : Slots). length (somes zs)) h.after ∙ ap length (somes_append h.front ((k, None) ∷ h.back))
    ∙ length-append (somes h.front) (somes h.back) in
    let all = ap length h.before ∙ length-append h.front ((k, Some m) ∷ h.back) in
    let left = ap length h.after ∙ length-append h.front ((k, None) ∷ h.back) in
    record {
      own = ids_stay es at slots.own;
      apart = subst (IsDistinct same_id) (sym (keys_stay es at None)) slots.apart;
      gone = omega (arith, slots.gone, old, new, all, left);
    }

-- ---- empty slots go
pub somes_kept : (es : Slots) → somes (filter (λ e. is_some e.1) es) ≡ somes es
somes_kept [] = refl
somes_kept (e ∷ es) = by e.1 refl (somes_kept es)
  where
    by : (v : Option Message) → e.1 ≡ v → somes (filter (λ x. is_some x.1) es) ≡ somes es
        → somes (cond (is_some e.1) (e ∷ filter (λ x. is_some x.1) es) (filter (λ x. is_some x.1) es)) ≡ put_some e.1 (somes es)
    by None is h = ap (λ b. somes (cond b (e ∷ filter (λ x. is_some x.1) es) (filter (λ x. is_some x.1) es))) (ap is_some is) ∙ h
        ∙ ap (λ (v : Option Message). put_some v (somes es)) (sym is)
    by (Some m) is h = ap (λ b. somes (cond b (e ∷ filter (λ x. is_some x.1) es) (filter (λ x. is_some x.1) es))) (ap is_some is) ∙ ap (put_some e.1) h

pub own_kept : (es : Slots) → HaveTheirIds es → HaveTheirIds (filter (λ e. is_some e.1) es)
own_kept [] h = h
own_kept (e ∷ es) h =
    let rest = own_kept es h.1 in
    elim (is_some e.1) as (λ b. HaveTheirIds (cond b (e ∷ filter (λ x. is_some x.1) es) (filter (λ x. is_some x.1) es))) [
      | true ↦ (h.0, rest)
      | false ↦ rest
    ]

pub full_kept : (es : Slots) → length (somes (filter (λ e. is_some e.1) es)) ≡ length (filter (λ e. is_some e.1) es)
full_kept [] = refl
full_kept (e ∷ es) = by e.1 refl (full_kept es)
  where
    by : (v : Option Message) → e.1 ≡ v → length (somes (filter (λ x. is_some x.1) es)) ≡ length (filter (λ x. is_some x.1) es)
        → length (somes (cond (is_some e.1) (e ∷ filter (λ x. is_some x.1) es) (filter (λ x. is_some x.1) es)))
        ≡ length (cond (is_some e.1) (e ∷ filter (λ x. is_some x.1) es) (filter (λ x. is_some x.1) es))
    by None is h = subst (λ b. length (somes (cond b (e ∷ filter (λ x. is_some x.1) es) (filter (λ x. is_some x.1) es)))
        ≡ length (cond b (e ∷ filter (λ x. is_some x.1) es) (filter (λ x. is_some x.1) es))) (sym (ap is_some is)) h
    by (Some m) is h = subst
        (λ b. length (somes (cond b (e ∷ filter (λ x. is_some x.1) es) (filter (λ x. is_some x.1) es)))
        ≡ length (cond b (e ∷ filter (λ x. is_some x.1) es) (filter (λ x. is_some x.1) es))) (sym (ap is_some is))
        (ap (λ (v : Option Message). length (put_some v (somes (filter (λ x. is_some x.1) es)))) is ∙ ap suc h)

-- ---- what is looked up
none_other : (k : Id) (es : Slots) → HaveTheirIds es → AllByRecursion (λ y. same_id k y ≡ false) (keys_of es) →
    list_any (λ (m : Message). same_id k m.stamp.id) (somes es) ≡ false
none_other k [] own apart = refl
none_other k (e ∷ es) own apart = by e.1 own.0 (none_other k es own.1 apart.1) apart.0
  where
    by : (v : Option Message) → IsItsSlot e.0 v → list_any (λ (m : Message). same_id k m.stamp.id) (somes es) ≡ false → same_id k e.0 ≡ false →
        list_any (λ (m : Message). same_id k m.stamp.id) (put_some v (somes es)) ≡ false
    by None is h a = h
    by (Some m) is h a = ap (λ b. b || list_any (λ (m : Message). same_id k m.stamp.id) (somes es)) (ap (same_id k) is ∙ a) ∙ h

pub has_told : (es : Slots) (id : Id) → HaveTheirIds es → IsDistinct same_id (keys_of es) → is_there (lookup (same_id id) es)
    ≡ list_any (λ (m : Message). same_id id m.stamp.id) (somes es)
unfolding IsDistinct
has_told [] id own d = refl
has_told (e ∷ es) id own d = by (same_id id e.0) e.1 refl own.0 (has_told es id own.1 d.1) own.1 d.0
  where
    by : (b : Bool) (v : Option Message) → same_id id e.0 ≡ b → IsItsSlot e.0 v
        → is_there (lookup (same_id id) es) ≡ list_any (λ (m : Message). same_id id m.stamp.id) (somes es)
        → HaveTheirIds es → AllByRecursion (λ y. same_id e.0 y ≡ false) (keys_of es)
        → is_there (cond (same_id id e.0) (Some v) (lookup (same_id id) es)) ≡ list_any (λ (m : Message). same_id id m.stamp.id) (put_some v (somes es))
    by true None is own h rest apart = ap (λ b. is_there (cond b (Some None) (lookup (same_id id) es))) is
        ∙ sym (ap (λ k. list_any (λ (m : Message). same_id k m.stamp.id) (somes es)) ((Decides-same_id id e.0).0 is) ∙ none_other e.0 es rest apart)
    by true (Some m) is own h rest apart = ap (λ b. is_there (cond b (Some (Some m)) (lookup (same_id id) es))) is
        ∙ ap (λ b. b || list_any (λ (m : Message). same_id id m.stamp.id) (somes es)) (sym (ap (same_id id) own ∙ is))
    by false None is own h rest apart = ap (λ b. is_there (cond b (Some None) (lookup (same_id id) es))) is ∙ h
    by false (Some m) is own h rest apart = ap (λ b. is_there (cond b (Some (Some m)) (lookup (same_id id) es))) is ∙ h
        ∙ ap (λ b. b || list_any (λ (m : Message). same_id id m.stamp.id) (somes es)) (sym (ap (same_id id) own ∙ is))

few_somes : (es : Slots) → length (somes es) ≤ length es
few_somes [] = omega arith
few_somes (e ∷ es) = by e.1 (few_somes es)
  where
    by : (v : Option Message) → length (somes es) ≤ length es → length (put_some v (somes es)) ≤ suc (length es)
    by None l = omega (arith, l)
    by (Some m) l = omega (arith, l)

-- without its last slot, which is empty, a list of slots has the same messages
front_same : (es : Slots) (n : ℕ) (k : Id) → length es ≡ n + 1 → slice_get es n ≡ Some (k, None) → somes (take n es) ≡ somes es
front_same [] n k long there = absurd (omega (arith, long))
front_same (e ∷ []) zero k long there = let same : e ≡ (k, None) = cc in ap (λ (x : Id × Option Message). put_some x.1 []) (sym same)
front_same (e ∷ f ∷ es) zero k long there = absurd (omega (arith, long))
front_same (e ∷ es) (suc n) k long there = ap (put_some e.1) (front_same es n k (omega (arith, long)) there)

front_own : (es : Slots) (n : ℕ) → HaveTheirIds es → HaveTheirIds (take n es)
front_own es zero own = tt
front_own [] (suc n) own = tt
front_own (e ∷ es) (suc n) own = (own.0, front_own es n own.1)

-- and one that is empty less
pub without_last : (es fs : Slots) (n gone : ℕ) (k : Id) → length es ≡ n + 1 → slice_get es n ≡ Some (k, None) → fs ≡ take n es → AreApart fs
    → AreSlots es gone → (somes fs ≡ somes es) × (1 ≤ gone) × AreSlots fs (gone - 1)
without_last es fs n gone k long there front apart slots =
    let same = ap somes front ∙ front_same es n k long there in
    let many = ap length same in
    let few = few_somes fs in
    let left = ap length front ∙ length-take n es in
    let all = slots.gone in (
      same,
      omega (arith, many, few, left, long, all),
      record {
        own = subst HaveTheirIds (sym front) (front_own es n slots.own);
        apart = apart;
        gone = omega (arith, many, few, left, long, all);
      },
    )

pub full_lookup : (t : Id → Bool) (es : Slots) → length (somes es) ≡ length es → is_there (lookup t es) ≡ false → lookup t es ≡ None
full_lookup t [] full none = refl
full_lookup t (e ∷ es) full none = by (t e.0) e.1 refl full none (few_somes es) (full_lookup t es)
  where
    by : (b : Bool) (v : Option Message) → t e.0 ≡ b → length (put_some v (somes es)) ≡ suc (length es) → is_there (cond (t e.0) (Some v) (lookup t es)) ≡ false
        → length (somes es) ≤ length es → (length (somes es) ≡ length es → is_there (lookup t es) ≡ false → lookup t es ≡ None) →
        cond (t e.0) (Some v) (lookup t es) ≡ None
    by b None is full none few rest = absurd (omega (arith, full, few))
    by true (Some m) is full none few rest = absurd (true≢false (ap (λ b. is_there (cond b (Some (Some m)) (lookup t es))) (sym is) ∙ none))
    by false (Some m) is full none few rest = ap (λ b. cond b (Some (Some m)) (lookup t es)) is
        ∙ rest (omega (arith, full)) (ap (λ b. is_there (cond b (Some (Some m)) (lookup t es))) (sym is) ∙ none)

pub none_is : (o : Option (Option Message)) → is_some o ≡ false → o ≡ None
none_is None e = refl
none_is (Some v) e = absurd (true≢false e)

-- ---- one message more
pub new_last : (k : Id) (v : Option Message) (es : Slots) → lookup (same_id k) es ≡ None → insert_entry same_id es k v ≡ es ++ (k, v) ∷ []
new_last k v [] none = refl
new_last k v (e ∷ es) none = at (same_id k e.0) refl none (new_last k v es)
  where
    at : (b : Bool) → same_id k e.0 ≡ b → cond (same_id k e.0) (Some e.1) (lookup (same_id k) es) ≡ None
        → (lookup (same_id k) es ≡ None → insert_entry same_id es k v ≡ es ++ (k, v) ∷ [])
        → insert_entry same_id (e ∷ es) k v ≡ e ∷ (es ++ (k, v) ∷ [])
    at true is none rest = absurd (no_some e.1 (sym none ∙ ap (λ b. cond b (Some e.1) (lookup (same_id k) es)) is))
    at false is none rest = ap (λ b. cond b ((e.0, v) ∷ es) (e ∷ insert_entry same_id es k v)) is
        ∙ ap (λ xs. e ∷ xs) (rest (ap (λ b. cond b (Some e.1) (lookup (same_id k) es)) (sym is) ∙ none))

own_more : (es : Slots) (k : Id) (m : Message) → HaveTheirIds es → m.stamp.id ≡ k → HaveTheirIds (es ++ (k, Some m) ∷ [])
own_more [] k m h is = (is, tt)
own_more (e ∷ es) k m h is = (h.0, own_more es k m h.1 is)

pub slots_more : (es : Slots) (gone : ℕ) (k : Id) (m : Message) → AreSlots es gone → m.stamp.id ≡ k → AreApart (es ++ (k, Some m) ∷ [])
    → AreSlots (es ++ (k, Some m) ∷ []) gone
slots_more es gone k m slots is apart =
    let a = ap length (somes_append es ((k, Some m) ∷ [])) ∙ length-append (somes es) (m ∷ []) in
    let b = length-append es ((k, Some m) ∷ []) in
    record { own = own_more es k m slots.own is; apart = apart; gone = omega (arith, a, b, slots.gone) }
