-- Sets of messages, and what one message more changes of them.
use Rattle.rubis_laws.proofs.Common.{ℕ, Id, Shadow, Core, arith, ◌≡◌, ◌+◌, List, [], ◌∷◌, ◌++◌, Bool, true, false, cond, refl, sym, ap, ◌∙◌, subst, Option}
use Rattle.rubis_laws.proofs.Common.{Some, None, append_assoc, ℤ, pos, ◌+ℤ◌, ◌&&◌, option_or, fold_push, same_id, count, total, int_sum_by, choose, choice}
use Rattle.rubis_laws.proofs.Common.{when, at_id, ◌<◌, length, inl, inr, ⊎_elim, get_or, negsuc, ◌-ℤ◌, zero, suc, fold, ⊤, Contains, IsPermutation, ◌⊎◌, ◌↔◌}
use Rattle.rubis_laws.proofs.Common.{ints, sum_by-cons, IsPermutation-middle, true≢false, has_id, Decides-same_id}
use Rattle.std.proofs.lemmas.List.Sums.{sum_by_push}
use Rattle.rubis_model.specs.Meaning.{first}
use Rattle.std.specs.Prelude.{sum_by}
use Rattle.std.proofs.lemmas.List.Sorted.{IsPermutation-refl, IsPermutation-sym, IsPermutation-cons, IsPermutation-trans, sum_by-IsPermutation}

pub record Head : Type 0 where
  pub id : Id
  pub red : ℕ

abbrev pub head_of : Core → Head
head_of m = record { id = m.id; red = m.red }

abbrev pub msg : Head → Shadow → Core
msg s x = record { id = s.id; red = s.red; shadow = x }

-- ---- what one more message adds to sums, counts and choices

-- every list is built by pushes
pub by_pushes : {X : Type 0} (P : List X → Type 0) → P [] → ((xs : List X) (x : X) → P xs → P (xs ++ x ∷ [])) → (xs : List X) → P xs
by_pushes {X} P none more xs = go [] xs none
  where
    go : (front back : List X) → P front → P (front ++ back)
    go front [] h = subst P (search Rattle.std.proofs.Common.rules) h
    go front (x ∷ back) h = subst P (append_assoc front (x ∷ []) back) (go (front ++ x ∷ []) back (more front x h))

pub plus_none : (x : ℕ) → x ≡ x + 0
plus_none x = omega arith

pub count_push : (p : Shadow → Bool) (a : List Core) (m : Core) → count p (a ++ m ∷ []) ≡ count p a + cond (p m.shadow) 1 0
count_push p a m = sum_by_push _ a m

pub total_push : (f : Shadow → ℕ) (a : List Core) (m : Core) → total f (a ++ m ∷ []) ≡ total f a + f m.shadow
total_push f a m = sum_by_push _ a m

pub int_sum_push : (f : Core → ℤ) (a : List Core) (m : Core) → int_sum_by f (a ++ m ∷ []) ≡ int_sum_by f a +ℤ f m
int_sum_push f a m = fold_push _ (pos 0) a m

pub choose_push : (beats : Core → Core → Bool) (p : Core → Bool) (a : List Core) (m : Core)
    → choose beats p (a ++ m ∷ []) ≡ choice beats p (choose beats p a) m
choose_push beats p a m = fold_push (choice beats p) None a m

-- one that doesn't pass is never chosen
pub choice_not : (beats : Core → Core → Bool) (p : Core → Bool) (o : Option Core) (m : Core) → p m ≡ false → choice beats p o m ≡ o
choice_not beats p None m e = ap (λ b. cond b (Some m) None) e
choice_not beats p (Some x) m e = ap (λ b. cond (b && beats m x) (Some m) (Some x)) e

pub or_none : {X : Type 0} (o : Option X) → option_or o None ≡ o
or_none None = refl
or_none (Some x) = refl

or_assoc : {X : Type 0} (o p q : Option X) → option_or o (option_or p q) ≡ option_or (option_or o p) q
or_assoc None p q = refl
or_assoc (Some x) p q = refl

pub first_push : {X : Type 0} (f : Core → Option X) (a : List Core) (m : Core) → first f (a ++ m ∷ []) ≡ option_or (first f a) (f m)
first_push f [] m = or_none (f m)
first_push f (x ∷ a) m = ap (option_or (f x)) (first_push f a m) ∙ or_assoc (f x) (first f a) (f m)

pub when_none : {X : Type 0} (b : Bool) → when {X = X} b None ≡ None
when_none true = refl
when_none false = refl

-- a message of another kind adds no row
pub at_id_push_not : {X : Type 0} (f : Core → Option X) (i : Id) (a : List Core) (m : Core) → f m ≡ None → at_id f i (a ++ m ∷ []) ≡ at_id f i a
at_id_push_not f i a m e = first_push _ a m ∙ ap (λ o. option_or (at_id f i a) (when (same_id i m.id) o)) e ∙ ap (option_or (at_id f i a)) (when_none _)
    ∙ or_none _

pub at_id_push : {X : Type 0} (f : Core → Option X) (i : Id) (a : List Core) (m : Core)
    → at_id f i (a ++ m ∷ []) ≡ option_or (at_id f i a) (when (same_id i m.id) (f m))
at_id_push f i a m = first_push _ a m

-- where no message has the id, none of a kind has it
none_at_first : {X : Type 0} (f : Core → Option X) (i : Id) (m : Core) (a : List Core) → (at_id Some i a ≡ None → at_id f i a ≡ None) → (b : Bool)
    → same_id i m.id ≡ b → at_id Some i (m ∷ a) ≡ None → at_id f i (m ∷ a) ≡ None
none_at_first f i m a ih true h e = absurd (let k : Some m ≡ None = ap (λ b. option_or (when b (Some m)) (at_id Some i a)) (sym h) ∙ e in cc)
none_at_first f i m a ih false h e =
    ap (λ b. option_or (when b (f m)) (at_id f i a)) h ∙ ih (ap (λ b. option_or (when b (Some m)) (at_id Some i a)) (sym h) ∙ e)

pub none_at : {X : Type 0} (f : Core → Option X) (i : Id) (a : List Core) → at_id Some i a ≡ None → at_id f i a ≡ None
none_at f i [] e = refl
none_at f i (m ∷ a) e = none_at_first f i m a (none_at f i a) (same_id i m.id) refl e

-- ---- logs with the same set have the same meaning

-- ---- members

abbrev pub Member : List Core → Core → Type 0
Member [] m = ⊥
Member (x ∷ xs) m = (x ≡ m) ⊎ Member xs m

pub member_of : (xs : List Core) {m : Core} → Contains xs m → Member xs m
member_of xs {m} c = at xs c.0 c.1 c.2
  where
    at : (xs : List Core) (k : ℕ) → k < length xs → get_or xs k m ≡ m → Member xs m
    at [] k h e = absurd (omega (arith, h))
    at (x ∷ xs) zero h e = inl e
    at (x ∷ xs) (suc k) h e = inr (at xs k (omega (arith, h)) e)

pub contains_of : (xs : List Core) {m : Core} → Member xs m → Contains xs m
contains_of [] h = absurd h
contains_of (x ∷ xs) (inl e) = (0, omega arith, e)
contains_of (x ∷ xs) {m} (inr h) =
    let c = contains_of xs {m = m} h in
    (suc c.0, (let l = c.1 in omega (arith, l)), c.2)

pub member_append : (xs ys : List Core) (m : Core) → Member (xs ++ ys) m → Member xs m ⊎ Member ys m
member_append [] ys m h = inr h
member_append (x ∷ xs) ys m (inl e) = inl (inl e)
member_append (x ∷ xs) ys m (inr h) = elim (member_append xs ys m h) [ inl l ↦ inl (inr l) | inr r ↦ inr r ]

pub member_left : (xs ys : List Core) (m : Core) → Member xs m → Member (xs ++ ys) m
member_left [] ys m h = absurd h
member_left (x ∷ xs) ys m (inl e) = inl e
member_left (x ∷ xs) ys m (inr h) = inr (member_left xs ys m h)

pub member_right : (xs ys : List Core) (m : Core) → Member ys m → Member (xs ++ ys) m
member_right [] ys m h = h
member_right (x ∷ xs) ys m h = inr (member_right xs ys m h)

-- ---- each id once

abbrev pub OneEach : List Core → Type 0
OneEach [] = ⊤
OneEach (x ∷ xs) = (has_id x.id xs ≡ None) × OneEach xs

pub itself : (i : Id) → same_id i i ≡ true
itself i = (Decides-same_id i i).1 refl

pub or_first : {X : Type 0} (o p : Option X) → option_or o p ≡ None → (o ≡ None) × (p ≡ None)
or_first None p e = (refl, e)
or_first (Some x) p e = absurd cc

pub not_member : (xs : List Core) (i : Id) (m : Core) → has_id i xs ≡ None → Member xs m → same_id i m.id ≡ false
not_member [] i m e h = absurd h
not_member (x ∷ xs) i m e (inr h) = not_member xs i m (or_first (when (same_id i x.id) (Some x)) _ e).1 h
not_member (x ∷ xs) i m e (inl p) = subst (λ (n : Core). same_id i n.id ≡ false) p (at (same_id i x.id) refl)
  where
    at : (b : Bool) → same_id i x.id ≡ b → same_id i x.id ≡ false
    at true q = absurd (let z : Some x ≡ None = ap (λ b. when b (Some x)) (sym q) ∙ (or_first (when (same_id i x.id) (Some x)) _ e).0 in cc)
    at false q = q

pub apart : (xs : List Core) (x : Core) → has_id x.id xs ≡ None → ¬ (Member xs x)
apart xs x e h = true≢false (sym (itself x.id) ∙ not_member xs x.id x e h)

-- at an id, the row that its message gives
keep_first : {X : Type 0} (o : Option X) {p : Option X} → p ≡ None → option_or o p ≡ o
keep_first None e = e
keep_first (Some x) e = refl

pub turned : (i j : Id) → same_id i j ≡ false → same_id j i ≡ false
turned i j e = elim (same_id j i) as (λ b. same_id j i ≡ b → b ≡ false) [
  | true ↦ λ q. absurd (true≢false (sym ((Decides-same_id i j).1 (sym ((Decides-same_id j i).0 q))) ∙ e))
  | false ↦ λ q. refl
] refl

pub at_member : {X : Type 0} (f : Core → Option X) (xs : List Core) (m : Core) → OneEach xs → Member xs m → at_id f m.id xs ≡ f m
at_member f [] m u h = absurd h
at_member f (x ∷ xs) m u (inl p) =
    (λ i. option_or (when (same_id m.id (p i).id) (f (p i))) (at_id f m.id xs)) ∙ (λ i. option_or (when (itself m.id i) (f m)) (at_id f m.id xs))
    ∙ keep_first (f m) (none_at f m.id xs (subst (λ (n : Core). has_id n.id xs ≡ None) p u.0))
at_member f (x ∷ xs) m u (inr h) = ap (λ b. option_or (when b (f x)) (at_id f m.id xs)) (turned x.id m.id (not_member xs x.id m u.0 h)) ∙ at_member f xs m u.1 h

pub found_member : (i : Id) (xs : List Core) {m : Core} → has_id i xs ≡ Some m → Member xs m × (i ≡ m.id)
found_member i [] e = absurd cc
found_member i (x ∷ xs) {m} e = go (same_id i x.id) refl (found_member i xs)
  where
    go : (b : Bool) → same_id i x.id ≡ b → (has_id i xs ≡ Some m → Member xs m × (i ≡ m.id)) → Member (x ∷ xs) m × (i ≡ m.id)
    go true q ih =
        let z : Some x ≡ Some m = ap (λ b. option_or (when b (Some x)) (has_id i xs)) (sym q) ∙ e in
        let y : x ≡ m = cc in
        (inl y, (Decides-same_id i x.id).0 q ∙ ap (λ (n : Core). n.id) y)
    go false q ih =
        let z = ih (ap (λ b. option_or (when b (Some x)) (has_id i xs)) (sym q) ∙ e) in
        (inr z.0, z.1)

abbrev pub Same : List Core → List Core → Type 0
Same a b = (m : Core) → Member a m ↔ Member b m

pub same_at : {X : Type 0} (f : Core → Option X) (i : Id) (a b : List Core) → OneEach a → OneEach b → Same a b → at_id f i a ≡ at_id f i b
same_at f i a b u v s = go (has_id i a) refl (has_id i b) refl
  where
    go : (o : Option Core) → has_id i a ≡ o → (p : Option Core) → has_id i b ≡ p → at_id f i a ≡ at_id f i b
    go (Some m) e p q =
        let w = found_member i a e in
        subst (λ j. at_id f j a ≡ at_id f j b) (sym w.1) (at_member f a m u w.0 ∙ sym (at_member f b m v ((s m).0 w.0)))
    go None e None q = none_at f i a e ∙ sym (none_at f i b q)
    go None e (Some m) q =
        let w = found_member i b q in
        absurd (true≢false (sym ((Decides-same_id i m.id).1 w.1) ∙ not_member a i m e ((s m).1 w.0)))

-- ---- one is a permutation of the other

pub none_without : (i : Id) (xs ys : List Core) (x : Core) → has_id i (xs ++ x ∷ ys) ≡ None → has_id i (xs ++ ys) ≡ None
none_without i [] ys x e = (or_first (when (same_id i x.id) (Some x)) _ e).1
none_without i (z ∷ xs) ys x e =
    let w = or_first (when (same_id i z.id) (Some z)) _ e in
    ap (λ o. option_or o (has_id i (xs ++ ys))) w.0 ∙ none_without i xs ys x w.1

pub one_each_without : (xs ys : List Core) (x : Core) → OneEach (xs ++ x ∷ ys) → OneEach (xs ++ ys) × ¬ (Member (xs ++ ys) x)
one_each_without [] ys x u = (u.1, apart ys x u.0)
one_each_without (z ∷ xs) ys x u =
    let w = one_each_without xs ys x u.1 in (
      (none_without z.id xs ys x u.0, w.0),
      λ h. ⊎_elim (λ p. true≢false (sym (itself z.id) ∙ (λ i. same_id z.id (p i).id) ∙ not_member _ z.id x u.0 (member_right xs _ x (inl refl)))) w.1 h,
    )

pub split_at : (b : List Core) (x : Core) → Member b x → (xs : List Core) × (ys : List Core) × (b ≡ xs ++ x ∷ ys)
split_at [] x h = absurd h
split_at (y ∷ b) x (inl e) = ([], b, ap (λ z. z ∷ b) e)
split_at (y ∷ b) x (inr h) = let w = split_at b x h in (y ∷ w.0, w.1, ap (λ z. y ∷ z) w.2)

pub same_without : (a xs ys : List Core) (x : Core) → has_id x.id a ≡ None → ¬ (Member (xs ++ ys) x) → Same (x ∷ a) (xs ++ x ∷ ys) → Same a (xs ++ ys)
same_without a xs ys x e n s m = (
  λ h. ⊎_elim (λ l. member_left xs ys m l) (λ r. ⊎_elim (λ p. absurd (apart a x e (subst (Member a) (sym p) h))) (λ q. member_right xs ys m q) r)
      (member_append xs (x ∷ ys) m ((s m).0 (inr h))),
  λ h. ⊎_elim (λ p. absurd (n (subst (Member (xs ++ ys)) (sym p) h))) (λ r. r)
      ((s m).1 (⊎_elim (λ l. member_left xs (x ∷ ys) m l) (λ r. member_right xs (x ∷ ys) m (inr r)) (member_append xs ys m h))),
)

pub same_permutation : (a b : List Core) → OneEach a → OneEach b → Same a b → IsPermutation a b
same_permutation [] [] u v s = IsPermutation-refl []
same_permutation [] (y ∷ b) u v s = absurd ((s y).1 (inl refl))
same_permutation (x ∷ a) b u v s =
    let w = split_at b x ((s x).0 (inl refl)) in
    let o = one_each_without w.0 w.1 x (subst OneEach w.2 v) in
    let tail = same_permutation a (w.0 ++ w.1) u.1 o.0 (same_without a w.0 w.1 x u.0 o.1 (subst (Same (x ∷ a)) w.2 s)) in
    subst (IsPermutation (x ∷ a)) (sym w.2) (IsPermutation-trans _ _ _ (IsPermutation-cons x _ _ tail) (IsPermutation-sym _ _ (IsPermutation-middle w.0 x w.1)))

-- ---- sums

pub same_count : (p : Shadow → Bool) {a b : List Core} → IsPermutation a b → count p a ≡ count p b
same_count p {a} {b} h = sym (sum_by-IsPermutation _ a b h)

pub same_total : (f : Shadow → ℕ) {a b : List Core} → IsPermutation a b → total f a ≡ total f b
same_total f {a} {b} h = sym (sum_by-IsPermutation _ a b h)

abbrev above : ℤ → ℕ
above (pos n) = n
above (negsuc n) = 0

abbrev below : ℤ → ℕ
below (pos n) = 0
below (negsuc n) = suc n

one_int : (n m : ℕ) (z : ℤ) → pos n -ℤ pos m +ℤ z ≡ pos (n + above z) -ℤ pos (m + below z)
one_int n m (pos k) = omega (arith, ints)
one_int n m (negsuc k) = omega (arith, ints)

int_sum_split : (f : Core → ℤ) (n m : ℕ) (a : List Core) → fold (λ s x. s +ℤ f x) (pos n -ℤ pos m) a ≡ pos (n + sum_by (λ x. above (f x)) a) -ℤ pos
    (m + sum_by (λ x. below (f x)) a)
int_sum_split f n m [] = λ i. pos (plus_none n i) -ℤ pos (plus_none m i)
int_sum_split f n m (x ∷ a) =
    ap (λ s. fold (λ s y. s +ℤ f y) s a) (one_int n m (f x)) ∙ int_sum_split f (n + above (f x)) (m + below (f x)) a
    ∙ (λ i. pos (more n (above (f x)) _ _ (sum_by-cons (λ y. above (f y)) x a) i) -ℤ pos (more m (below (f x)) _ _ (sum_by-cons (λ y. below (f y)) x a) i))
  where
    more : (k j r t : ℕ) → t ≡ j + r → k + j + r ≡ k + t
    more k j r t e = omega (arith, e)

pub same_int_sum : (f : Core → ℤ) (a b : List Core) → IsPermutation a b → int_sum_by f a ≡ int_sum_by f b
same_int_sum f a b h =
    int_sum_split f 0 0 a ∙ (λ i. pos (0 + sum_by-IsPermutation (λ x. above (f x)) b a (IsPermutation-sym a b h) i) -ℤ pos
    (0 + sum_by-IsPermutation (λ x. below (f x)) b a (IsPermutation-sym a b h) i)) ∙ sym (int_sum_split f 0 0 b)
