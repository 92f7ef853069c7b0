-- Lists of packets, and one folder or stream that is put in the place of another.
use Rattle.std.proofs.Common.{◌≡◌, ◌≢◌, ◌≤◌, ◌+◌, ◌++◌, inl, inr, ◌∷◌, [], ℕ, Bool, true, false, cond, eqb, List, refl, sym, subst, arith, get_or, length, map}
use Rattle.std.proofs.Common.{◌<◌, ap, max}
use Rattle.std.specs.Prelude.{filter, take, zero, suc}
use Rattle.std.proofs.lemmas.Bool.{eqb-true}
use Rattle.std.proofs.lemmas.List.{get_or_append_left, get_or_push}
use Rattle.rubis_model.specs.Site.{Has}
use Rattle.rubis_carrier.specs.declared.values.ShopPacket.{ShopPacket}
use Rattle.rubis_carrier.specs.declared.values.ShopRequest.{ShopRequest}
use Rattle.rubis_carrier.specs.Events.{forgotten, opened_site, opening_folder}
use Rattle.rubis_carrier.specs.Shops.{Folder, Shop, empty, folder, folder_in, put, put_folder, put_stream, request_in, stream_in, there, IsReached, highest}
use Rattle.rubis_carrier.specs.Shops.{passed_turn, sender, taken_turn}
use Rattle.rubis_carrier.specs.declared.values.ShopPacket.TheVariants.{Message, Pass}

pub eqb_same : (k : ℕ) → eqb k k ≡ true
eqb_same k = grind arith

pub eqb_other : (j k : ℕ) → j ≢ k → eqb j k ≡ false
eqb_other j k n = elim (eqb j k) as (λ b. eqb j k ≡ b → b ≡ false) [
  | true ↦ λ e. absurd (n (eqb-true j k e))
  | false ↦ λ e. refl
] refl

-- ---- by number

-- what holds of x under its number, and of all else under theirs, holds of all once x is put there
put_at : {A : Type 0} (P : ℕ → A → Type 0) (nothing : ℕ → A) (k : ℕ) (x : A) (xs : List A) → P k x
    → ((j : ℕ) → j ≢ k → P j (get_or xs j (nothing j))) → (j : ℕ) → P j (get_or (put nothing k x xs) j (nothing j))
put_at P nothing zero x [] here there zero = here
put_at P nothing zero x [] here there (suc j) = there (suc j) (λ e. absurd (omega (arith, e)))
put_at P nothing zero x (y ∷ ys) here there zero = here
put_at P nothing zero x (y ∷ ys) here there (suc j) = there (suc j) (λ e. absurd (omega (arith, e)))
put_at P nothing (suc k) x [] here there zero = there zero (λ e. absurd (omega (arith, e)))
put_at P nothing (suc k) x [] here there (suc j) =
    put_at (λ j. P (suc j)) (λ j. nothing (suc j)) k x [] here (λ j n. there (suc j) (λ e. n (omega (arith, e)))) j
put_at P nothing (suc k) x (y ∷ ys) here there zero = there zero (λ e. absurd (omega (arith, e)))
put_at P nothing (suc k) x (y ∷ ys) here there (suc j) =
    put_at (λ j. P (suc j)) (λ j. nothing (suc j)) k x ys here (λ j n. there (suc j) (λ e. n (omega (arith, e)))) j

pub folder_cases : (P : ℕ → Folder → Type 0) (k : ℕ) (f : Folder) (folders : List Folder) → P k f → ((j : ℕ) → j ≢ k → P j (folder_in folders j))
    → (j : ℕ) → P j (folder_in (put_folder k f folders) j)
folder_cases P k f folders here there = put_at P empty k f folders here there

pub folder_here : (k : ℕ) (f : Folder) (folders : List Folder) → folder_in (put_folder k f folders) k ≡ f
folder_here k f folders = folder_cases (λ j g. j ≡ k → g ≡ f) k f folders (λ e. refl) (λ j n e. absurd (n e)) k refl

pub stream_cases : (P : ℕ → List ShopPacket → Type 0) (i : ℕ) (xs : List ShopPacket) (streams : List (List ShopPacket)) → P i xs
    → ((j : ℕ) → j ≢ i → P j (stream_in streams j)) → (j : ℕ) → P j (stream_in (put_stream i xs streams) j)
stream_cases P i xs streams here there = put_at P (λ j. []) i xs streams here there

pub stream_here : (i : ℕ) (xs : List ShopPacket) (streams : List (List ShopPacket)) → stream_in (put_stream i xs streams) i ≡ xs
stream_here i xs streams = stream_cases (λ j ys. j ≡ i → ys ≡ xs) i xs streams (λ e. refl) (λ j n e. absurd (n e)) i refl

-- the other folders of a site are forgotten
forget_from : (i : ℕ) (nothing : ℕ → Folder) → ((j : ℕ) → forgotten i (nothing j) ≡ nothing j) → (folders : List Folder) (k : ℕ)
    → get_or (map (forgotten i) folders) k (nothing k) ≡ forgotten i (get_or folders k (nothing k))
forget_from i nothing same [] k = sym (same k)
forget_from i nothing same (f ∷ folders) zero = refl
forget_from i nothing same (f ∷ folders) (suc k) = forget_from i (λ j. nothing (suc j)) (λ j. same (suc j)) folders k

pub forget_in : (i : ℕ) (folders : List Folder) (k : ℕ) → folder_in (map (forgotten i) folders) k ≡ forgotten i (folder_in folders k)
forget_in i folders k = forget_from i empty none folders k
  where
    none : (j : ℕ) → forgotten i (empty j) ≡ empty j
    none j = elim (eqb j i) as (λ b. record (empty j) { remembered = cond b false false } ≡ empty j) [ true ↦ refl | false ↦ refl ]

pub opened_cases : (P : ℕ → Folder → Type 0) (s : Shop) (k : ℕ) → P k (opened_site (folder s k))
    → ((j : ℕ) → j ≢ k → P j (forgotten (folder s k).site (folder s j))) → (j : ℕ) → P j (folder (opening_folder k s) j)
opened_cases P s k here there = folder_cases P k (opened_site (folder s k)) (map (forgotten (folder s k).site) s.folders) here
    (λ j n. subst (P j) (sym (forget_in (folder s k).site s.folders j)) (there j n))

-- asks are numbered from 1
pub request_old : (requests : List ShopRequest) (q : ShopRequest) (r : ℕ) → r ≤ length requests → request_in (requests ++ q ∷ []) r ≡ request_in requests r
request_old requests q zero l = refl
request_old requests q (suc r) l = get_or_append_left requests (q ∷ []) _ r (omega (arith, l))

pub request_new : (requests : List ShopRequest) (q : ShopRequest) (r : ℕ) → r ≡ length requests + 1 → request_in (requests ++ q ∷ []) r ≡ q
request_new requests q zero e = absurd (omega (arith, e))
request_new requests q (suc r) e = get_or_push requests q _ r (omega (arith, e))

-- ---- in a shorter list

pub has_take : {A : Type 0} (n : ℕ) (x : A) (xs : List A) → Has x (take n xs) → Has x xs
has_take zero x xs h = absurd h
has_take (suc n) x [] h = absurd h
has_take (suc n) x (y ∷ ys) (inl e) = inl e
has_take (suc n) x (y ∷ ys) (inr h) = inr (has_take n x ys h)

pub has_filter : {A : Type 0} (p : A → Bool) (x : A) (xs : List A) → Has x (filter p xs) → Has x xs
has_filter p x [] h = absurd h
has_filter p x (y ∷ ys) h = elim (p y) as (λ b. Has x (cond b (y ∷ filter p ys) (filter p ys)) → Has x (y ∷ ys)) [
  | true ↦ λ g. elim g [ inl e ↦ inl e | inr r ↦ inr (has_filter p x ys r) ]
  | false ↦ λ g. inr (has_filter p x ys g)
] h

-- it passes the test then
pub filter_holds : {A : Type 0} (p : A → Bool) (x : A) (xs : List A) → Has x (filter p xs) → p x ≡ true
filter_holds p x [] h = absurd h
filter_holds p x (y ∷ ys) h = elim (p y) as (λ b. p y ≡ b → Has x (cond b (y ∷ filter p ys) (filter p ys)) → p x ≡ true) [
  | true ↦ λ e g. elim g [ inl same ↦ subst (λ z. p z ≡ true) (sym same) e | inr r ↦ filter_holds p x ys r ]
  | false ↦ λ e g. filter_holds p x ys g
] refl h

pub filter_has : {A : Type 0} (p : A → Bool) (x : A) (xs : List A) → Has x xs → p x ≡ true → Has x (filter p xs)
filter_has p x [] h t = absurd h
filter_has p x (y ∷ ys) (inl e) t =
    subst (λ b. Has x (cond b (y ∷ filter p ys) (filter p ys))) (sym (subst (λ z. p z ≡ true) e t)) (inl e)
filter_has p x (y ∷ ys) (inr h) t = elim (p y) as (λ b. Has x (cond b (y ∷ filter p ys) (filter p ys))) [
  | true ↦ inr (filter_has p x ys h t)
  | false ↦ filter_has p x ys h t
]

-- ---- the greatest number, and the greatest turns, of a list of packets

first_in : (i n m : ℕ) → n ≤ cond (eqb i i) (max n m) m
first_in i n m = subst (λ b. n ≤ cond b (max n m) m) (sym (eqb_same i)) (omega arith)

later_in : (b : Bool) (n k m : ℕ) → n ≤ m → n ≤ cond b (max k m) m
later_in true n k m h = omega arith
later_in false n k m h = h

pub number_within : (i n r : ℕ) (kept : List ShopPacket) → Has (Message i n r) kept → n ≤ highest i kept
number_within i n r [] h = absurd h
number_within i n r (y ∷ ys) (inl e) = subst (λ z. n ≤ highest i (z ∷ ys)) e (first_in i n (highest i ys))
number_within i n r (Message j m q ∷ ys) (inr h) = later_in (eqb j i) n m (highest i ys) (number_within i n r ys h)
number_within i n r (Pass j t k a ∷ ys) (inr h) = number_within i n r ys h

pub passed_within : (i t j a : ℕ) (kept : List ShopPacket) → Has (Pass i t j a) kept → t ≤ passed_turn i kept
passed_within i t j a [] h = absurd h
passed_within i t j a (y ∷ ys) (inl e) = subst (λ z. t ≤ passed_turn i (z ∷ ys)) e (first_in i t (passed_turn i ys))
passed_within i t j a (Message k m q ∷ ys) (inr h) = passed_within i t j a ys h
passed_within i t j a (Pass k u l b ∷ ys) (inr h) = later_in (eqb k i) t u (passed_turn i ys) (passed_within i t j a ys h)

pub taken_within : (i t j a : ℕ) (kept : List ShopPacket) → Has (Pass i t j a) kept → t ≤ taken_turn j kept
taken_within i t j a [] h = absurd h
taken_within i t j a (y ∷ ys) (inl e) = subst (λ z. t ≤ taken_turn j (z ∷ ys)) e (first_in j t (taken_turn j ys))
taken_within i t j a (Message k m q ∷ ys) (inr h) = taken_within i t j a ys h
taken_within i t j a (Pass k u l b ∷ ys) (inr h) = later_in (eqb l j) t u (taken_turn j ys) (taken_within i t j a ys h)

-- ---- with more behind

by_test : (b : Bool) (n small great : ℕ) → small ≤ great → cond b (max n small) small ≤ cond b (max n great) great
by_test true n small great h = omega arith
by_test false n small great h = h

pub number_more : (i : ℕ) (kept more : List ShopPacket) → highest i kept ≤ highest i (kept ++ more)
number_more i [] more = omega arith
number_more i (Message j m q ∷ ys) more = by_test (eqb j i) m (highest i ys) (highest i (ys ++ more)) (number_more i ys more)
number_more i (Pass j t k a ∷ ys) more = number_more i ys more

passed_more : (i : ℕ) (kept more : List ShopPacket) → passed_turn i kept ≤ passed_turn i (kept ++ more)
passed_more i [] more = omega arith
passed_more i (Message j m q ∷ ys) more = passed_more i ys more
passed_more i (Pass j t k a ∷ ys) more = by_test (eqb j i) t (passed_turn i ys) (passed_turn i (ys ++ more)) (passed_more i ys more)

taken_more : (i : ℕ) (kept more : List ShopPacket) → taken_turn i kept ≤ taken_turn i (kept ++ more)
taken_more i [] more = omega arith
taken_more i (Message j m q ∷ ys) more = taken_more i ys more
taken_more i (Pass j t k a ∷ ys) more = by_test (eqb k i) t (taken_turn i ys) (taken_turn i (ys ++ more)) (taken_more i ys more)

-- the greater of two that each become no less
both_more : (t a b c d : ℕ) → t ≤ max a b → a ≤ c → b ≤ d → t ≤ max c d
both_more t a b c d h p q = omega (arith, h, p, q)

pub reached_more : (i : ℕ) (kept more : List ShopPacket) (x : ShopPacket) → IsReached i kept x → IsReached i (kept ++ more) x
reached_more i kept more (Message j n r) h = omega (arith, h, number_more i kept more)
reached_more i kept more (Pass j t k a) h =
    both_more t (passed_turn i kept) (taken_turn i kept) (passed_turn i (kept ++ more)) (taken_turn i (kept ++ more)) h (passed_more i kept more) (taken_more i kept more)

pub reached_within : (x : ShopPacket) (kept : List ShopPacket) → Has x kept → IsReached (sender x) kept x
reached_within (Message i n r) kept h = number_within i n r kept h
reached_within (Pass i t j a) kept h = either_more t (passed_turn i kept) (taken_turn i kept) (passed_within i t j a kept h)
  where
    either_more : (t a b : ℕ) → t ≤ a → t ≤ max a b
    either_more t a b h = omega (arith, h)

-- ---- with one packet more

-- a message of the site, under a greater number
pub highest_next : (i n r : ℕ) (kept : List ShopPacket) → highest i kept < n → highest i (kept ++ Message i n r ∷ []) ≡ n
highest_next i n r [] h = subst (λ b. cond b (max n 0) 0 ≡ n) (sym (eqb_same i)) (omega arith)
highest_next i n r (Message j m q ∷ rest) h =
    grows (eqb j i) m (highest i rest) (highest i (rest ++ Message i n r ∷ [])) n h (highest_next i n r rest)
  where
    grows : (b : Bool) (m old new n : ℕ) → cond b (max m old) old < n → (old < n → new ≡ n) → cond b (max m new) new ≡ n
    grows true m old new n h e =
        let below : old < n = omega (arith, h) in
        let is = e below in
        omega (arith, h, is)
    grows false m old new n h e = e h
highest_next i n r (Pass j t k a ∷ rest) h = highest_next i n r rest h

-- a message of another one
pub highest_other : (i j n r : ℕ) (kept : List ShopPacket) → eqb j i ≡ false → highest i (kept ++ Message j n r ∷ []) ≡ highest i kept
highest_other i j n r [] e = subst (λ b. cond b (max n 0) 0 ≡ 0) (sym e) refl
highest_other i j n r (Message k m q ∷ rest) e = ap (λ v. cond (eqb k i) (max m v) v) (highest_other i j n r rest e)
highest_other i j n r (Pass k t l a ∷ rest) e = highest_other i j n r rest e

-- a pass, for numbers
pub highest_pass : (i j t k a : ℕ) (kept : List ShopPacket) → highest i (kept ++ Pass j t k a ∷ []) ≡ highest i kept
highest_pass i j t k a [] = refl
highest_pass i j t k a (Message l m q ∷ rest) = ap (λ v. cond (eqb l i) (max m v) v) (highest_pass i j t k a rest)
highest_pass i j t k a (Pass l u o b ∷ rest) = highest_pass i j t k a rest

-- a message, for turns
pub taken_message : (i j n r : ℕ) (kept : List ShopPacket) → taken_turn i (kept ++ Message j n r ∷ []) ≡ taken_turn i kept
taken_message i j n r [] = refl
taken_message i j n r (Message k m q ∷ rest) = taken_message i j n r rest
taken_message i j n r (Pass k t l a ∷ rest) = ap (λ v. cond (eqb l i) (max t v) v) (taken_message i j n r rest)

pub passed_message : (i j n r : ℕ) (kept : List ShopPacket) → passed_turn i (kept ++ Message j n r ∷ []) ≡ passed_turn i kept
passed_message i j n r [] = refl
passed_message i j n r (Message k m q ∷ rest) = passed_message i j n r rest
passed_message i j n r (Pass k t l a ∷ rest) = ap (λ v. cond (eqb k i) (max t v) v) (passed_message i j n r rest)

-- a pass to the site, or to another one; by the site, or by another one
later : (b : Bool) (m old new n : ℕ) → cond b (max m old) old ≤ n → (old ≤ n → new ≡ n) → cond b (max m new) new ≡ n
later true m old new n h e =
    let below : old ≤ n = omega (arith, h) in
    let is = e below in
    omega (arith, h, is)
later false m old new n h e = e h

pub taken_next : (i j t k a : ℕ) (kept : List ShopPacket) → eqb k i ≡ true → taken_turn i kept ≤ t → taken_turn i (kept ++ Pass j t k a ∷ []) ≡ t
taken_next i j t k a [] e h = subst (λ b. cond b (max t 0) 0 ≡ t) (sym e) (omega arith)
taken_next i j t k a (Message l m q ∷ rest) e h = taken_next i j t k a rest e h
taken_next i j t k a (Pass l u o b ∷ rest) e h =
    later (eqb o i) u (taken_turn i rest) (taken_turn i (rest ++ Pass j t k a ∷ [])) t h (taken_next i j t k a rest e)

pub taken_other : (i j t k a : ℕ) (kept : List ShopPacket) → eqb k i ≡ false → taken_turn i (kept ++ Pass j t k a ∷ []) ≡ taken_turn i kept
taken_other i j t k a [] e = subst (λ b. cond b (max t 0) 0 ≡ 0) (sym e) refl
taken_other i j t k a (Message l m q ∷ rest) e = taken_other i j t k a rest e
taken_other i j t k a (Pass l u o b ∷ rest) e = ap (λ v. cond (eqb o i) (max u v) v) (taken_other i j t k a rest e)

pub passed_next : (i j t k a : ℕ) (kept : List ShopPacket) → eqb j i ≡ true → passed_turn i kept ≤ t → passed_turn i (kept ++ Pass j t k a ∷ []) ≡ t
passed_next i j t k a [] e h = subst (λ b. cond b (max t 0) 0 ≡ t) (sym e) (omega arith)
passed_next i j t k a (Message l m q ∷ rest) e h = passed_next i j t k a rest e h
passed_next i j t k a (Pass l u o b ∷ rest) e h =
    later (eqb l i) u (passed_turn i rest) (passed_turn i (rest ++ Pass j t k a ∷ [])) t h (passed_next i j t k a rest e)

pub passed_other : (i j t k a : ℕ) (kept : List ShopPacket) → eqb j i ≡ false → passed_turn i (kept ++ Pass j t k a ∷ []) ≡ passed_turn i kept
passed_other i j t k a [] e = subst (λ b. cond b (max t 0) 0 ≡ 0) (sym e) refl
passed_other i j t k a (Message l m q ∷ rest) e = passed_other i j t k a rest e
passed_other i j t k a (Pass l u o b ∷ rest) e = ap (λ v. cond (eqb l i) (max u v) v) (passed_other i j t k a rest e)
