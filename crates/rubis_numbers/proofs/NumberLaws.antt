-- What a number is read as: each from its own text, and from no other.
use Rattle.std.proofs.Common.{◌≡◌, ℕ, ◌<◌, ◌≤◌, ◌^◌, Bool, ◌&&◌, List, refl, sym, ap, subst, ◌∙◌, arith, decimal}
use Rattle.std.specs.Prelude.{nat_le, Option, Some, None, bytes_eq, Decides}
use Rattle.std.specs.Str.Parse.{digits_value}
use Rattle.std.specs.Cmp.Lexicographic.{bytes_decides}
use Rattle.std.proofs.lemmas.Bool.Decides.{nat_tests, Decides-and}
use Rattle.std.proofs.lemmas.Fmt.{decimal_is_IsNumeral}
use Rattle.std.proofs.lemmas.Option.{cond_some}
use Rattle.rubis_numbers.specs.Numbers.{IsField, number_of, only_if}

pub le_decides : (m n : ℕ) → Decides (nat_le m n) (m ≤ n)
le_decides m n = ((λ e. grind (arith, nat_tests)), (λ h. grind (arith, nat_tests)))

-- a value that passes the test is there
pub there : {A : Type 0} {P : Type 0} (test : Bool) (x : A) → Decides test P → P → only_if test x ≡ Some x
there test x decides h = ap (λ b. only_if b x) (decides.1 h)

-- and what is there passed it
pub passed : {A : Type 0} {P : Type 0} (test : Bool) (x y : A) → Decides test P → only_if test x ≡ Some y → P × (x ≡ y)
passed test x y decides e = let c = cond_some test x y e in (decides.0 c.0, c.1)

-- what is found where the field is the text of a value, and where it is that of none
pub found : {A : Type 0} {Fits : A → Type 0} {text : A → List ℕ} {read : List ℕ → Option A} → IsField Fits text read
    → (field : List ℕ) (x : A) → Fits x → field ≡ text x → Some x ≡ read field
found {read} law field x h is = sym (ap read is ∙ law.back x h)

none_by : {A : Type 0} (o : Option A) → ((x : A) → o ≡ Some x → ⊥) → None ≡ o
none_by None n = refl
none_by (Some x) n = absurd (n x refl)

pub refused : {A : Type 0} {Fits : A → Type 0} {text : A → List ℕ} {read : List ℕ → Option A} → IsField Fits text read
    → (field : List ℕ) → ((x : A) → Fits x → field ≡ text x → ⊥) → None ≡ read field
refused {read} law field none = none_by (read field) (λ x e. let w = law.only field x e in none x w.0 w.1)

number_decides : (high : ℕ) (field : List ℕ)
    → Decides (nat_le (digits_value 10 field) high && bytes_eq field (decimal (digits_value 10 field)))
    ((digits_value 10 field ≤ high) × (field ≡ decimal (digits_value 10 field)))
number_decides high field =
    Decides-and _ _ (le_decides (digits_value 10 field) high) (bytes_decides field (decimal (digits_value 10 field)))

pub number_back : (n : ℕ) → n < 2 ^ 64 → digits_value 10 (decimal n) ≡ n
number_back n h = (decimal_is_IsNumeral n h).1

pub number_is : (high : ℕ) → high < 2 ^ 64 → IsField (λ n. n ≤ high) decimal (number_of high)
unfolding number_of
number_is high fits = record {
  back = λ n h.
      let same = number_back n (omega (arith, h, fits)) in
      there _ _ (number_decides high (decimal n)) (subst (λ m. (m ≤ high) × (decimal n ≡ decimal m)) (sym same) (h, refl))
      ∙ ap Some same;
  only = λ field n e.
      let c = passed _ _ n (number_decides high field) e in
      subst (λ m. (m ≤ high) × (field ≡ decimal m)) c.1 c.0;
}
