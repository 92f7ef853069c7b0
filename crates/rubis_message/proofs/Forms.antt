-- The forms of records: each reads back what is written so, and takes nothing else.
use Rattle.std.proofs.Common.{◌≡◌, ℕ, ◌<◌, ◌≤◌, ◌^◌, Bool, true, false, cond, List, [], ◌∷◌, ◌++◌, refl, sym, ap, subst, ◌∙◌, arith, decimal, append-nil}
use Rattle.std.specs.Prelude.{⊤, nat_lt, Option, Some, None, option_map, bytes_eq, Decides}
use Rattle.std.specs.Cmp.Lexicographic.{bytes_decides}
use Rattle.std.proofs.lemmas.Option.{same_Some, some_pair_parts}
use Rattle.std.proofs.lemmas.Bool.Decides.{Decides-ltb}
use Rattle.rubis_schema.specs.NumberForms.{IsField}
use Rattle.rubis_schema.proofs.NumberForms.{number_is}
use Rattle.rubis_message.specs.Readings.{Form, ◌>>=◌, ◌>>◌, followed_by, beside, check, give, kept, mapped, at_end, no_more, one, take_number, take_positive}
use Rattle.rubis_message.specs.Readings.{take_site, whole, said}

-- what the form reads is within the limits and written so, and all that is written so is read
pub record IsForm {A : Type 0} (Fits : A → Type 0) (write : A → List (List ℕ)) (form : Form A) : Type 0 where
  pub back : (x : A) (rest : List (List ℕ)) → Fits x → form (write x ++ rest) ≡ Some (x, rest)
  pub only : (fields rest : List (List ℕ)) (x : A) → form fields ≡ Some (x, rest) → Fits x × (fields ≡ write x ++ rest)

one_only : {A : Type 0} {Fits : A → Type 0} {text : A → List ℕ} {read : List ℕ → Option A} → IsField Fits text read
    → (field : List ℕ) (behind rest : List (List ℕ)) (x : A) (o : Option A) → read field ≡ o
    → beside behind o ≡ Some (x, rest) → Fits x × (field ∷ behind ≡ text x ∷ rest)
one_only form field behind rest x None is e = absurd cc
one_only form field behind rest x (Some y) is e =
    let same = some_pair_parts y x behind rest e in
    let w = form.only field x (is ∙ ap Some same.0) in
    (w.0, (λ i. w.1 i ∷ same.1 i))

one_takes : {A : Type 0} {Fits : A → Type 0} {text : A → List ℕ} {read : List ℕ → Option A} → IsField Fits text read
    → (fields rest : List (List ℕ)) (x : A) → one read fields ≡ Some (x, rest) → Fits x × (fields ≡ text x ∷ rest)
one_takes form [] rest x e = absurd cc
one_takes {read} form (field ∷ behind) rest x e = one_only form field behind rest x (read field) refl e

pub one_is : {A : Type 0} {Fits : A → Type 0} {text : A → List ℕ} {read : List ℕ → Option A} → IsField Fits text read
    → IsForm Fits (λ x. text x ∷ []) (one read)
one_is form = record {
  back = λ x rest h. ap (beside rest) (form.back x h);
  only = λ fields rest x e. one_takes form fields rest x e;
}

-- ---- one form, and then the next

pub then_back : {A B : Type 0} {Fits : A → Type 0} {write : A → List (List ℕ)} {form : Form A} → IsForm Fits write form
    → (x : A) (rest : List (List ℕ)) (next : A → Form B) → Fits x → followed_by (form (write x ++ rest)) next ≡ next x rest
then_back form x rest next h = ap (λ o. followed_by o next) (form.back x rest h)

then_by : {A B P : Type 0} {Fits : A → Type 0} {write : A → List (List ℕ)} {form : Form A} → IsForm Fits write form
    → (next : A → Form B) (fields rest : List (List ℕ)) (y : B) (o : Option (A × List (List ℕ))) → form fields ≡ o
    → followed_by o next ≡ Some (y, rest)
    → ((x : A) (behind : List (List ℕ)) → Fits x → fields ≡ write x ++ behind → next x behind ≡ Some (y, rest) → P) → P
then_by law next fields rest y None is e k = absurd cc
then_by law next fields rest y (Some p) is e k = let w = law.only fields p.1 p.0 is in k p.0 p.1 w.0 w.1 e

-- the first form read a value, and the next one what follows it
pub then_only : {A B P : Type 0} {Fits : A → Type 0} {write : A → List (List ℕ)} {form : Form A} → IsForm Fits write form
    → (next : A → Form B) (fields rest : List (List ℕ)) (y : B) → followed_by (form fields) next ≡ Some (y, rest)
    → ((x : A) (behind : List (List ℕ)) → Fits x → fields ≡ write x ++ behind → next x behind ≡ Some (y, rest) → P) → P
then_only {form} law next fields rest y e k = then_by law next fields rest y (form fields) refl e k

pub given : {A : Type 0} (P : A → List (List ℕ) → Type 0) (x y : A) (behind rest : List (List ℕ))
    → give x behind ≡ give y rest → P x behind → P y rest
given {A} P x y behind rest e h =
    let same = some_pair_parts x y behind rest e in subst (λ (p : A × List (List ℕ)). P p.0 p.1) (λ i. (same.0 i, same.1 i)) h

-- what is made of what a form reads
pub made_back : {A B : Type 0} {Fits : A → Type 0} {write : A → List (List ℕ)} {form : Form A} → IsForm Fits write form
    → (make : A → B) (x : A) (rest : List (List ℕ)) → Fits x → mapped make form (write x ++ rest) ≡ Some (make x, rest)
made_back law make x rest h = then_back law x rest (λ y. give (make y)) h

pub made_only : {A B : Type 0} {Fits : A → Type 0} {write : A → List (List ℕ)} {form : Form A} → IsForm Fits write form
    → (make : A → B) (P : B → List (List ℕ) → Type 0) (fields rest : List (List ℕ)) (y : B)
    → mapped make form fields ≡ Some (y, rest)
    → ((x : A) (behind : List (List ℕ)) → Fits x → fields ≡ write x ++ behind → P (make x) behind) → P y rest
made_only law make P fields rest y e k =
    then_only law (λ x. give (make x)) fields rest y e
    (λ x behind h is more. given P (make x) y behind rest more (k x behind h is))

-- ---- tests

pub check_back : {A : Type 0} (test : Bool) (fields : List (List ℕ)) (next : Form A) → test ≡ true
    → followed_by (check test fields) (λ _. next) ≡ next fields
check_back test fields next h = ap (λ b. followed_by (check b fields) (λ _. next)) h

pub check_only : {A : Type 0} (test : Bool) (fields rest : List (List ℕ)) (next : Form A) (y : A)
    → followed_by (check test fields) (λ _. next) ≡ Some (y, rest) → (test ≡ true) × (next fields ≡ Some (y, rest))
check_only true fields rest next y e = (refl, e)
check_only false fields rest next y e = absurd cc

pub kept_is : {A : Type 0} {Fits : A → Type 0} {write : A → List (List ℕ)} {form : Form A} → IsForm Fits write form
    → (test : A → Bool) (Also : A → Type 0) → ((x : A) → Decides (test x) (Also x))
    → IsForm (λ x. Fits x × Also x) write (kept test form)
kept_is {Fits} {write} law test Also decides = record {
  back = λ x rest h.
      then_back law x rest (λ y. check (test y) >> give y) h.0
      ∙ check_back (test x) rest (give x) ((decides x).1 h.1);
  only = λ fields rest x e.
      then_only law (λ y. check (test y) >> give y) fields rest x e (λ first behind h is more.
      let c = check_only (test first) behind rest (give first) x more in
      given (λ y more. (Fits y × Also y) × (fields ≡ write y ++ more)) first x behind rest c.1 ((h, (decides first).0 c.0), is));
}

-- ---- words

said_by : {A : Type 0} (text : A → List ℕ) (field : List ℕ) (first : A) (more : Option A) (x : A) (b : Bool)
    → bytes_eq field (text first) ≡ b
    → (more ≡ Some x → field ≡ text x) → cond b (Some first) more ≡ Some x → field ≡ text x
said_by text field first more x true says k e = (bytes_decides field (text first)).0 says ∙ ap text (same_Some first x e)
said_by text field first more x false says k e = k e

said_only : {A : Type 0} (text : A → List ℕ) (all : List A) (field : List ℕ) (x : A) → said text all field ≡ Some x
    → field ≡ text x
said_only text [] field x e = absurd cc
said_only text (first ∷ rest) field x e = said_by text field first (said text rest field) x _ refl (said_only text rest field x) e

-- the words of these, each of which is found by its own
pub said_is : {A : Type 0} (text : A → List ℕ) (all : List A) → ((x : A) → said text all (text x) ≡ Some x)
    → IsField (λ _. ⊤) text (said text all)
said_is text all back = record { back = λ x _. back x; only = λ field x e. (tt, said_only text all field x e) }

-- what follows the word is read by this form
abbrev pub IsBehind : {A : Type 0} → (A → Type 0) → (A → List (List ℕ)) → List ℕ → Form A → Type 0
IsBehind {A} Fits write word form =
    (fields rest : List (List ℕ)) (x : A) → form fields ≡ Some (x, rest) → Fits x × (word ∷ fields ≡ write x ++ rest)

pub behind : {A B : Type 0} {FitsA : A → Type 0} {writeA : A → List (List ℕ)} {form : Form A} → IsForm FitsA writeA form
    → (make : A → B) (Fits : B → Type 0) (write : B → List (List ℕ)) (word : List ℕ) → ((x : A) → FitsA x → Fits (make x))
    → ((x : A) (more : List (List ℕ)) → word ∷ (writeA x ++ more) ≡ write (make x) ++ more)
    → IsBehind Fits write word (mapped make form)
behind law make Fits write word fits writes fields rest y e =
    made_only law make (λ z more. Fits z × (word ∷ fields ≡ write z ++ more)) fields rest y e
    (λ x more h is. (fits x h, ap (λ (t : List (List ℕ)). word ∷ t) is ∙ writes x more))

pub alone : {A : Type 0} (Fits : A → Type 0) (write : A → List (List ℕ)) (word : List ℕ) (x : A) → Fits x
    → ((more : List (List ℕ)) → word ∷ more ≡ write x ++ more) → IsBehind Fits write word (give x)
alone Fits write word x h writes fields rest y e =
    given (λ z more. Fits z × (word ∷ fields ≡ write z ++ more)) x y fields rest e (h, writes fields)

-- a word, and what follows that word
pub by_word : {A K : Type 0} (Fits : A → Type 0) (write : A → List (List ℕ)) (text : K → List ℕ) (word : Form K)
    (form : K → Form A) → IsForm (λ _. ⊤) (λ k. text k ∷ []) word → ((k : K) → IsBehind Fits write (text k) (form k))
    → ((x : A) (rest : List (List ℕ)) → Fits x → followed_by (word (write x ++ rest)) form ≡ Some (x, rest))
    → IsForm Fits write (word >>= form)
by_word Fits write text word form law each back = record {
  back = back;
  only = λ fields rest x e.
      then_only law form fields rest x e (λ k more h is e1. let w = each k more rest x e1 in (w.0, is ∙ w.1));
}

-- ---- whole records

whole_by : {A : Type 0} (x : A) (fields : List (List ℕ)) (o : Option (A × List (List ℕ))) → no_more o ≡ Some x → o ≡ give x []
whole_by x fields None e = absurd cc
whole_by x fields (Some p) e = whole_end p.0 x p.1 e where
  whole_end : {A : Type 0} (y x : A) (rest : List (List ℕ)) → option_map (λ _. y) (at_end rest) ≡ Some x → give y rest ≡ give x []
  whole_end y x [] e = let same : y ≡ x = cc in ap (λ z. give z []) same
  whole_end y x (field ∷ rest) e = absurd cc

pub whole_only : {A : Type 0} {Fits : A → Type 0} {write : A → List (List ℕ)} {form : Form A} → IsForm Fits write form
    → (fields : List (List ℕ)) (x : A) → whole form fields ≡ Some x → Fits x × (fields ≡ write x)
whole_only {write} {form} law fields x e =
    let w = law.only fields [] x (whole_by x fields (form fields) e) in
    (w.0, w.1 ∙ append-nil (write x))

pub whole_back : {A : Type 0} {Fits : A → Type 0} {write : A → List (List ℕ)} {form : Form A} → IsForm Fits write form
    → (fields : List (List ℕ)) (x : A) → Fits x → fields ≡ write x → whole form fields ≡ Some x
whole_back {write} {form} law fields x h is = ap no_more (ap form (is ∙ sym (append-nil (write x))) ∙ law.back x [] h)

-- what is written in one way is one value
pub one_value : {A : Type 0} (Fits : A → Type 0) (write : A → List (List ℕ)) (form : Form A)
    → ((x : A) (rest : List (List ℕ)) → Fits x → form (write x ++ rest) ≡ Some (x, rest))
    → (x y : A) → Fits x → Fits y → write x ≡ write y → x ≡ y
one_value Fits write form back x y hx hy e =
    let same : give x [] ≡ give y [] =
    sym (back x [] hx) ∙ ap (λ (fields : List (List ℕ)). form (fields ++ [])) e ∙ back y [] hy in
    (some_pair_parts x y [] [] same).0

-- ---- numbers

-- the limits, in other words
pub in_words : {A : Type 0} {Fits : A → Type 0} {write : A → List (List ℕ)} {form : Form A} → IsForm Fits write form
    → (Other : A → Type 0) → ((x : A) → Fits x → Other x) → ((x : A) → Other x → Fits x) → IsForm Other write form
in_words law Other to from = record {
  back = λ x rest h. law.back x rest (from x h);
  only = λ fields rest x e. let w = law.only fields rest x e in (to x w.0, w.1);
}

pub number_form : (high : ℕ) → high < 2 ^ 64 → IsForm (λ n. n ≤ high) (λ n. decimal n ∷ []) (take_number high)
number_form high fits = one_is (number_is high fits)

pub positive_form : (high : ℕ) → high < 2 ^ 64 → IsForm (λ n. (n ≤ high) × (0 < n)) (λ n. decimal n ∷ []) (take_positive high)
unfolding take_positive
positive_form high fits = kept_is (number_form high fits) (nat_lt 0) (λ n. 0 < n) (λ n. Decides-ltb 0 n)

pub site_form : (sites : ℕ) → sites < 2 ^ 8 → IsForm (λ n. n < sites) (λ n. decimal n ∷ []) (take_site sites)
unfolding take_site
site_form sites few =
    in_words (kept_is (number_form 255 (omega arith)) (λ n. nat_lt n sites) (λ n. n < sites) (λ n. Decides-ltb n sites)) _
    (λ n h. h.1) (λ n h. (omega (arith, h, few), h))
