-- Lists of asks and packets.
use Rattle.std.proofs.Common.{◌≡◌, ◌∙◌, ◌++◌, ◌∷◌, ◌+◌, ◌<◌, [], ℕ, Bool, true, false, cond, eqb, List, refl, sym, ap, subst, append_assoc, arith, max, drop}
use Rattle.std.proofs.Common.{get_or, length}
use Rattle.std.specs.Prelude.{zero, suc, Result, Ok, Err, OnOk}
use Rattle.std.proofs.lemmas.List.{at_drop_more}
use Rattle.rubis_carrier.specs.declared.values.ShopPacket.{ShopPacket}
use Rattle.rubis_carrier.specs.declared.values.ShopPacket.TheVariants.{Message, Pass}
use Rattle.rubis_carrier.specs.Shops.{highest, passed_turn, taken_turn}
use Rattle.rubis_carrier.specs.Events.{times}
use Rattle.rubis_steps.specs.Views.{number_in, passed_in, taken_seen}

-- what holds where a result is Ok
pub on_ok : {T E A B : Type 0} (r : Result T E) → (A → B) → OnOk r A → OnOk r B
on_ok (Ok v) f a = f a
on_ok (Err e) f a = a

-- once more, behind
pub times_more : (n r : ℕ) → times (n + 1) r ≡ times n r ++ r ∷ []
times_more n r = let e : suc n ≡ n + 1 = omega arith in subst (λ m. times m r ≡ times n r ++ r ∷ []) e (at_end n)
  where
    at_end : (n : ℕ) → times (suc n) r ≡ times n r ++ r ∷ []
    at_end zero = refl
    at_end (suc n) = ap (λ asks. r ∷ asks) (at_end n)

pub pushed_more : (n r : ℕ) {asks : List ℕ} (before : List ℕ) → asks ≡ before ++ times n r → asks ++ r ∷ [] ≡ before ++ times (n + 1) r
pushed_more n r before e = ap (λ a. a ++ r ∷ []) e ∙ append_assoc before (times n r) (r ∷ []) ∙ ap (λ a. before ++ a) (sym (times_more n r))

-- the greatest of them
by_test : (b : Bool) (n m : ℕ) → cond b (max n m) m ≡ max (cond b n 0) m
by_test true n m = refl
by_test false n m = omega arith

number_first : (i : ℕ) (x : ShopPacket) (xs : List ShopPacket) → highest i (x ∷ xs) ≡ max (number_in i x) (highest i xs)
number_first i (Message j n r) xs = by_test (eqb j i) n (highest i xs)
number_first i (Pass j t k a) xs = omega arith

taken_first : (i : ℕ) (x : ShopPacket) (xs : List ShopPacket) → taken_turn i (x ∷ xs) ≡ max (taken_seen i x) (taken_turn i xs)
taken_first i (Message j n r) xs = omega arith
taken_first i (Pass j t k a) xs = by_test (eqb k i) t (taken_turn i xs)

passed_first : (i : ℕ) (x : ShopPacket) (xs : List ShopPacket) → passed_turn i (x ∷ xs) ≡ max (passed_in i x) (passed_turn i xs)
passed_first i (Message j n r) xs = omega arith
passed_first i (Pass j t k a) xs = by_test (eqb j i) t (passed_turn i xs)

pub number_more : (i : ℕ) (xs : List ShopPacket) (k : ℕ) {x : ShopPacket} → x ≡ get_or xs k x → k < length xs
    → highest i (drop k xs) ≡ max (number_in i x) (highest i (drop (k + 1) xs))
number_more i xs k {x} e h = at_drop_more (highest i) xs k x h ∙ ap (λ y. highest i (y ∷ drop (k + 1) xs)) (sym e) ∙ number_first i x (drop (k + 1) xs)

pub taken_more : (i : ℕ) (xs : List ShopPacket) (k : ℕ) {x : ShopPacket} → x ≡ get_or xs k x → k < length xs
    → taken_turn i (drop k xs) ≡ max (taken_seen i x) (taken_turn i (drop (k + 1) xs))
taken_more i xs k {x} e h = at_drop_more (taken_turn i) xs k x h ∙ ap (λ y. taken_turn i (y ∷ drop (k + 1) xs)) (sym e) ∙ taken_first i x (drop (k + 1) xs)

pub passed_more : (i : ℕ) (xs : List ShopPacket) (k : ℕ) {x : ShopPacket} → x ≡ get_or xs k x → k < length xs
    → passed_turn i (drop k xs) ≡ max (passed_in i x) (passed_turn i (drop (k + 1) xs))
passed_more i xs k {x} e h = at_drop_more (passed_turn i) xs k x h ∙ ap (λ y. passed_turn i (y ∷ drop (k + 1) xs)) (sym e) ∙ passed_first i x (drop (k + 1) xs)
