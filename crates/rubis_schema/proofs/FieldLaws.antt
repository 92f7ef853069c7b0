-- What a single field is read as: each value from its own text, and from no other.
use Rattle.std.proofs.Common.{◌≢◌, ◌≤◌, ◌<◌, ◌^◌, ℕ, length, decimal, subst, arith, ◌≡◌, Bool, true, false, ◌&&◌, cond, List, ◌∷◌, ◌++◌, refl, ap, ◌∙◌}
use Rattle.std.specs.List.{All}
use Rattle.std.specs.Int.{IsInRange}
use Rattle.std.proofs.lemmas.List.Elements.{All-from_get_or}
use Rattle.std.proofs.lemmas.Fmt.{length-decimal-le, decimal_nonempty}
use Rattle.rubis_numbers.proofs.Decimals.{decimal_at}
use Rattle.std.specs.Prelude.{◌==◌, ◌+◌, ◌-◌, nat_lt, ℤ, pos, negsuc, unsigned_abs, IsTrue, slice_index, drop, [], option_map, Option, Some, None, Decides}
use Rattle.std.proofs.lemmas.Bool.Decides.{Decides-eqb, Decides-ltb, Decides-and}
use Rattle.std.proofs.lemmas.Option.{cond_some, same_Some}
use Rattle.std.proofs.lemmas.Bool.{ne_eqb}
use Rattle.rubis_numbers.specs.Numbers.{IsField, ◌>>=◌, below_zero_of, number_of, only_if, rating_of}
use Rattle.rubis_numbers.specs.declared.numbers.TheConstants.{RATING_MAX}
use Rattle.rubis_numbers.proofs.NumberLaws.{number_is, passed, there}
use Rattle.rubis_schema.specs.FieldForms.{cut_at, id_of, name_of, nick_of, text_of, IsName, IsNick, IsText, is_name, is_nick, is_text}
use Rattle.rubis_schema.specs.Ids.{IsId, id_text, int_text}
use Rattle.rubis_schema.specs.declared.ids.Id.{Id}
use Rattle.rubis_schema.specs.declared.limits.TheConstants.{SEQ_MAX}
use Rattle.rubis_schema.proofs.Marks.{cut_back, cut_only}

-- a number's text has no byte but digits
pub decimal_free : (n mark : ℕ) → n < 2 ^ 64 → ¬ (IsInRange 48 57 mark) → All (λ b. b ≢ mark) (decimal n)
decimal_free n mark h none = All-from_get_or (λ b. b ≢ mark) (decimal n) 0 (λ i lt e. none (subst (λ b. IsInRange 48 57 b) e (decimal_at n i h lt)))

pub decimal_short : (n : ℕ) → n < 2 ^ 32 → length (decimal n) ≤ 10
decimal_short n h = length-decimal-le 10 n (omega arith) (omega (arith, h)) (omega (arith, h))

-- ---- what a single field is read as: each value from its own text, and from no other

-- ---- what is read in steps

-- the first step gave a value, and the next went on from it
pub step_only : {A B P : Type 0} (o : Option A) (next : A → Option B) (y : B) → (o >>= next) ≡ Some y
    → ((x : A) → o ≡ Some x → next x ≡ Some y → P) → P
step_only None next y e k = absurd cc
step_only (Some x) next y e k = k x refl e

pub step_by : {A B : Type 0} {o : Option A} {x : A} → o ≡ Some x → (next : A → Option B) → (o >>= next) ≡ next x
step_by is next = ap (λ p. p >>= next) is

pub step_back : {A B : Type 0} {Fits : A → Type 0} {text : A → List ℕ} {read : List ℕ → Option A} → IsField Fits text read
    → (x : A) (next : A → Option B) → Fits x → (read (text x) >>= next) ≡ next x
step_back law x next h = step_by (law.back x h) next

-- ---- ids

id_decides : (sites : ℕ) (id : Id) → Decides (nat_lt id.site sites && nat_lt 0 id.seq) ((id.site < sites) × (0 < id.seq))
id_decides sites id = Decides-and _ _ (Decides-ltb id.site sites) (Decides-ltb 0 id.seq)

site_number : IsField (λ n. n ≤ 255) decimal (number_of 255)
site_number = number_is 255 (omega arith)

seq_number : IsField (λ n. n ≤ SEQ_MAX) decimal (number_of SEQ_MAX)
seq_number = number_is SEQ_MAX (omega arith)

pub id_is : (sites : ℕ) → sites < 2 ^ 8 → IsField (IsId sites) id_text (id_of sites)
unfolding id_of
id_is sites few = record {
  back = λ id h.
      step_by (cut_back 46 (decimal id.site) (decimal id.seq)
      (decimal_free id.site 46 (omega (arith, h.site, few)) (λ r. absurd (omega (arith, r.0))))) _
      ∙ step_back site_number id.site _ (omega (arith, h.site, few))
      ∙ step_back seq_number id.seq _ h.small
      ∙ there _ id (id_decides sites id) (h.site, omega (arith, h.positive));
  only = λ field id e.
      step_only (cut_at 46 field) _ id e (λ parts is e0.
      step_only (number_of 255 parts.0) _ id e0 (λ site is0 e1.
      step_only (number_of SEQ_MAX parts.1) _ id e1 (λ seq is1 e2.
      let c = passed _ (record { site = site; seq = seq }) id (id_decides sites (record { site = site; seq = seq })) e2 in
      let front = site_number.only parts.0 site is0 in
      let back = seq_number.only parts.1 seq is1 in
      subst (λ i. IsId sites i × (field ≡ id_text i)) c.1 (
        record { site = c.0.0; positive = omega (arith, c.0.1); small = back.0 },
        cut_only 46 field parts is ∙ (λ i. front.1 i ++ 46 ∷ back.1 i),
      ))));
}

-- ---- ratings

size_number : IsField (λ n. n ≤ RATING_MAX) decimal (number_of RATING_MAX)
size_number = number_is RATING_MAX (omega arith)

no_minus : (n : ℕ) → n < 2 ^ 64 → (slice_index (decimal n) 0 == 45) ≡ false
no_minus n h =
    let at = decimal_at n 0 h (decimal_nonempty n h) in
    ne_eqb (slice_index (decimal n) 0) 45 (λ e. absurd (omega (arith, at.0, at.1, e)))

rating_back : (z : ℤ) → unsigned_abs z ≤ RATING_MAX → rating_of (int_text z) ≡ Some z
unfolding rating_of below_zero_of
rating_back (pos n) h =
    ap (λ t. cond t (below_zero_of (drop 1 (decimal n))) (option_map pos (number_of RATING_MAX (decimal n))))
    (no_minus n (omega (arith, h)))
    ∙ ap (option_map pos) (size_number.back n (omega (arith, h)))
rating_back (negsuc n) h =
    let one_less : n + 1 - 1 ≡ n = omega arith in
    step_back size_number (n + 1) _ (omega (arith, h)) ∙ there _ _ (Decides-ltb 0 (n + 1)) (omega arith)
    ∙ ap (λ m. Some (negsuc m)) one_less

below_only : (digits : List ℕ) (z : ℤ) → below_zero_of digits ≡ Some z
    → (unsigned_abs z ≤ RATING_MAX) × (45 ∷ digits ≡ int_text z)
unfolding below_zero_of
below_only digits z e =
    step_only (number_of RATING_MAX digits) _ z e (λ size is e0.
    let c = passed _ (negsuc (size - 1)) z (Decides-ltb 0 size) e0 in
    let w = size_number.only digits size is in
    let same : size ≡ size - 1 + 1 = omega (arith, c.0) in
    subst (λ y. (unsigned_abs y ≤ RATING_MAX) × (45 ∷ digits ≡ int_text y)) c.1
    (omega (arith, w.0, c.0), ap (λ t. 45 ∷ t) w.1 ∙ ap (λ n. 45 ∷ decimal n) same))

above_only : (field : List ℕ) (z : ℤ) (o : Option ℕ) → number_of RATING_MAX field ≡ o → option_map pos o ≡ Some z
    → (unsigned_abs z ≤ RATING_MAX) × (field ≡ int_text z)
above_only field z None is e = absurd cc
above_only field z (Some n) is e =
    subst (λ y. (unsigned_abs y ≤ RATING_MAX) × (field ≡ int_text y)) (same_Some _ _ e) (size_number.only field n is)

rating_by : (field : List ℕ) (z : ℤ) (b : Bool) → (slice_index field 0 == 45) ≡ b
    → cond b (below_zero_of (drop 1 field)) (option_map pos (number_of RATING_MAX field)) ≡ Some z
    → (unsigned_abs z ≤ RATING_MAX) × (field ≡ int_text z)
rating_by [] z true minus e = absurd cc
rating_by (b ∷ digits) z true minus e =
    let w = below_only digits z e in
    (w.0, ap (λ c. c ∷ digits) ((Decides-eqb b 45).0 minus) ∙ w.1)
rating_by field z false minus e = above_only field z _ refl e

pub rating_is : IsField (λ z. unsigned_abs z ≤ RATING_MAX) int_text rating_of
unfolding rating_of
rating_is = record { back = rating_back; only = λ field z e. rating_by field z _ refl e }

-- ---- texts

by_test : (test : List ℕ → Bool) → IsField (λ text. IsTrue (test text)) (λ text. text) (λ text. only_if (test text) text)
by_test test = record {
  back = λ text h. ap (λ b. only_if b text) h;
  only = λ field text e. let c = cond_some (test field) field text e in (subst (λ t. IsTrue (test t)) c.1 c.0, c.1);
}

pub nick_is : IsField IsNick (λ text. text) nick_of
unfolding nick_of
nick_is = by_test is_nick

pub name_is : IsField IsName (λ text. text) name_of
unfolding name_of
name_is = by_test is_name

pub text_is : IsField IsText (λ text. text) text_of
unfolding text_of
text_is = by_test is_text
