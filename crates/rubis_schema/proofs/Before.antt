-- A number that is read up to a mark.
use Rattle.std.proofs.Common.{◌≡◌, ◌≢◌, ◌≤◌, ◌<◌, ◌+◌, ◌*◌, ◌-◌, ◌^◌, ◌&&◌, ℕ, zero, suc, Bool, true, false, ◌⊎◌, inl, inr, List, [], ◌∷◌, ◌++◌, length, get_or}
use Rattle.std.proofs.Common.{take, drop, decimal, refl, ap, sym, subst, ◌∙◌, arith, rules, tests}
use Rattle.std.specs.Prelude.{Option, Some, None, nat_lt}
use Rattle.std.specs.Str.{all_ascii_digits}
use Rattle.std.specs.Char.{is_ascii_digit}
use Rattle.std.specs.Int.{IsInRange}
use Rattle.std.proofs.lemmas.Bool.{cases_lt, false≢true, le-ltb, lt-ltb}
use Rattle.std.proofs.lemmas.Fmt.{decimal_digit, decimal_nonempty, length-decimal-le}
use Rattle.std.proofs.lemmas.List.{get_or_append_left, get_or_at, take_more, take_at, take-append-drop, drop_more, drop_all, length-take-le, get_or-take}
use Rattle.rubis_numbers.specs.Numbers.{IsField, ◌>>=◌, number_of, only_if}
use Rattle.rubis_numbers.proofs.Decimals.{decimal_at}
use Rattle.rubis_numbers.proofs.Digits.{read_on, no_zero_in_front, too_great, read_all, one_more_fits}
use Rattle.rubis_numbers.proofs.NumberLaws.{number_is}
use Rattle.rubis_schema.specs.FieldForms.{cut_at, id_of, number_before}
use Rattle.rubis_schema.specs.declared.ids.Id.{Id}
use Rattle.rubis_schema.specs.declared.limits.TheConstants.{SEQ_MAX}
use Rattle.rubis_schema.proofs.FieldLaws.{decimal_free}
use Rattle.rubis_schema.proofs.Marks.{cut_back, cut_only}

-- ---- what follows from a number before a mark
after_cut : {B : Type 0} (high : ℕ) (next : ℕ × List ℕ → Option B) (cut : Option (List ℕ × List ℕ))
    → (cut >>= (λ parts. number_of high parts.0 >>= (λ n. next (n, parts.1))))
    ≡ ((cut >>= (λ parts. number_of high parts.0 >>= (λ n. Some (n, parts.1)))) >>= next)
after_cut high next None = refl
after_cut high next (Some parts) = after_number (number_of high parts.0)
  where
    after_number : (o : Option ℕ) → (o >>= (λ n. next (n, parts.1))) ≡ ((o >>= (λ n. Some (n, parts.1))) >>= next)
    after_number None = refl
    after_number (Some n) = refl

pub before_then : {B : Type 0} (mark high : ℕ) (field : List ℕ) (next : ℕ × List ℕ → Option B)
    → (cut_at mark field >>= (λ parts. number_of high parts.0 >>= (λ n. next (n, parts.1)))) ≡ (number_before mark high field >>= next)
unfolding number_before
before_then mark high field next = after_cut high next (cut_at mark field)

-- ---- what stands there, and what doesn't
some_of : {A B P : Type 0} (o : Option A) (next : A → Option B) (y : B) → (o >>= next) ≡ Some y
    → ((x : A) → o ≡ Some x → next x ≡ Some y → P) → P
some_of None next y e k = absurd cc
some_of (Some x) next y e k = k x refl e

none_by : {A : Type 0} (o : Option A) → ((x : A) → o ≡ Some x → ⊥) → None ≡ o
none_by None never = refl
none_by (Some x) never = absurd (never x refl)

module _ (mark high : ℕ) (small : high < 10 ^ 19) where
  fits : (n : ℕ) → n ≤ high → n < 2 ^ 64
  fits n le = omega (arith, le, small)

  law : IsField (λ n. n ≤ high) decimal (number_of high)
  law = number_is high (omega (arith, small))

  pub not_before : (field : List ℕ) → ((n : ℕ) (back : List ℕ) → n ≤ high → field ≡ decimal n ++ mark ∷ back → ⊥)
      → None ≡ number_before mark high field
  unfolding number_before
  not_before field never = none_by _ (λ found e.
      some_of (cut_at mark field) _ found e (λ parts is e0.
      some_of (number_of high parts.0) _ found e0 (λ n is0 e1.
      let front = law.only parts.0 n is0 in
      never n parts.1 front.0 (cut_only mark field parts is ∙ ap (λ t. t ++ mark ∷ parts.1) front.1))))

  pub is_before : ¬ (IsInRange 48 57 mark) → (field : List ℕ) (n : ℕ) (back : List ℕ) → n ≤ high
      → field ≡ decimal n ++ mark ∷ back
      → Some (n, back) ≡ number_before mark high field
  unfolding number_before
  is_before no_digit field n back le is =
      sym (ap (λ f. cut_at mark f >>= (λ parts. number_of high parts.0 >>= (λ m. Some (m, parts.1)))) is
      ∙ ap (λ cut. cut >>= (λ parts. number_of high parts.0 >>= (λ m. Some (m, parts.1))))
      (cut_back mark (decimal n) back (decimal_free n mark (fits n le) no_digit))
      ∙ ap (λ o. o >>= (λ m. Some (m, back))) (law.back n le))

pub no_digit : (mark : ℕ) → (mark < 48) ⊎ (57 < mark) → ¬ (IsInRange 48 57 mark)
no_digit mark (inl low) r = absurd (omega (arith, low, r.0))
no_digit mark (inr high) r = absurd (omega (arith, high, r.1))

-- ---- the bytes so far
and_left : (a b : Bool) → a && b ≡ true → a ≡ true
and_left true b h = refl
and_left false b h = h

and_right : (a b : Bool) → a && b ≡ true → b ≡ true
and_right true b h = h
and_right false b h = absurd (false≢true h)

read_more : (n : ℕ) (xs : List ℕ) (c : ℕ) → read_on n (xs ++ c ∷ []) ≡ read_on n xs * 10 + (c - 48)
read_more n [] c = refl
read_more n (x ∷ xs) c = read_more (n * 10 + (x - 48)) xs c

digits_more : (xs : List ℕ) (c : ℕ) → all_ascii_digits xs ≡ true → is_ascii_digit c ≡ true
    → all_ascii_digits (xs ++ c ∷ []) ≡ true
digits_more [] c all one = ap (λ t. t && true) one
digits_more (x ∷ xs) c all one =
    let first = and_left (is_ascii_digit x) (all_ascii_digits xs) all in
    let rest = digits_more xs c (and_right (is_ascii_digit x) (all_ascii_digits xs) all) one in
    λ i. first i && rest i

digit_passes : (c : ℕ) → 48 ≤ c → c ≤ 57 → is_ascii_digit c ≡ true
digit_passes c low high = search (rules, tests)

-- the first bytes are the digits of that number, and none of them is the mark
pub record IsFront (mark : ℕ) (bytes : List ℕ) (at number : ℕ) : Type 0 where
  pub value : read_on 0 (take at bytes) ≡ number
  pub digits : all_ascii_digits (take at bytes) ≡ true
  pub free : (k : ℕ) → k < at → get_or bytes k 0 ≢ mark
  pub short : number < 10 ^ at

pub front_starts : (mark : ℕ) (bytes : List ℕ) → IsFront mark bytes 0 0
front_starts mark bytes = record { value = refl; digits = refl; free = λ k less. absurd (omega (arith, less)); short = omega arith }

pub front_more : (mark : ℕ) (bytes : List ℕ) (at number next : ℕ) → at < length bytes → at < 19 → IsFront mark bytes at number
    → get_or bytes at 0 ≢ mark
    → 48 ≤ get_or bytes at 0 → get_or bytes at 0 ≤ 57 → next ≡ number * 10 + (get_or bytes at 0 - 48)
    → IsFront mark bytes (at + 1) next
front_more mark bytes at number next within few h other low high is =
    let byte = get_or bytes at 0 in
    let more : take (at + 1) bytes ≡ take at bytes ++ byte ∷ [] = take_more bytes at 0 within in
    let fits = one_more_fits number at (byte - 48) h.short few (omega (arith, low, high)) in
    record {
      value =
          ap (read_on 0) more ∙ read_more 0 (take at bytes) byte ∙ ap (λ n. n * 10 + (byte - 48)) h.value ∙ sym is;
      digits = ap all_ascii_digits more ∙ digits_more (take at bytes) byte h.digits (digit_passes byte low high);
      free = λ k less e. elim (cases_lt k at) [
        | inl before ↦ h.free k before e
        | inr past ↦ other (subst (λ j. get_or bytes j 0 ≡ mark) (let here : k ≡ at = omega (arith, less, past) in here) e)
      ];
      short = omega (arith, fits.0, is);
    }

-- a byte of the number in front, or the mark
byte_of : (mark n : ℕ) (bytes back : List ℕ) (k : ℕ) → n < 2 ^ 64 → bytes ≡ decimal n ++ mark ∷ back → k < length (decimal n)
    → IsInRange 48 57 (get_or bytes k 0)
byte_of mark n bytes back k fits is less =
    subst (λ b. IsInRange 48 57 b) (sym (get_or_append_left (decimal n) (mark ∷ back) 0 k less) ∙ ap (λ l. get_or l k 0) (sym is))
    (decimal_at n k fits less)

mark_of : (mark n : ℕ) (bytes back : List ℕ) → bytes ≡ decimal n ++ mark ∷ back → get_or bytes (length (decimal n)) 0 ≡ mark
mark_of mark n bytes back is =
    ap (λ l. get_or l (length (decimal n)) 0) is ∙ get_or_at (decimal n) mark back 0 (length (decimal n)) refl

-- the number is as long as what is free of marks, or longer
as_long : (mark n : ℕ) (bytes back : List ℕ) (at number : ℕ) → IsFront mark bytes at number → bytes ≡ decimal n ++ mark ∷ back
    → at ≤ length (decimal n)
as_long mark n bytes back at number h is = elim (cases_lt (length (decimal n)) at) [
  | inl less ↦ absurd (h.free (length (decimal n)) less (mark_of mark n bytes back is))
  | inr past ↦ omega (arith, past)
]

pub no_mark : (mark n : ℕ) (bytes back : List ℕ) (at number : ℕ) → IsFront mark bytes at number → length bytes ≤ at
    → bytes ≡ decimal n ++ mark ∷ back → ⊥
no_mark mark n bytes back at number h past is =
    let long = as_long mark n bytes back at number h is in
    let whole = ap length is ∙ length_with (decimal n) back in
    absurd (omega (arith, long, past, whole))
  where
    length_with : (xs ys : List ℕ) → length (xs ++ mark ∷ ys) ≡ length xs + (1 + length ys)
    length_with [] ys = omega arith
    length_with (x ∷ xs) ys = let more = length_with xs ys in omega arith

-- a byte that is neither the mark nor a digit, or too many digits
pub stops : (mark n : ℕ) (bytes back : List ℕ) (at number : ℕ) → n < 10 ^ 19 → IsFront mark bytes at number
    → get_or bytes at 0 ≢ mark
    → (get_or bytes at 0 < 48) ⊎ (57 < get_or bytes at 0) ⊎ (19 ≤ at) → bytes ≡ decimal n ++ mark ∷ back → ⊥
stops mark n bytes back at number small h other why is =
    let long = as_long mark n bytes back at number h is in
    let longer : at < length (decimal n) = elim (cases_lt at (length (decimal n))) [
      | inl less ↦ less
      | inr past ↦ absurd (other (subst (λ k. get_or bytes k 0 ≡ mark) (let same : length (decimal n) ≡ at = omega (arith, long, past) in same)
          (mark_of mark n bytes back is)))
    ] in
    let digit = byte_of mark n bytes back at (omega (arith, small)) is longer in
    let few = length-decimal-le 19 n (omega arith) small (omega (arith, small)) in
    by why longer digit few
  where
    by : (get_or bytes at 0 < 48) ⊎ (57 < get_or bytes at 0) ⊎ (19 ≤ at) → at < length (decimal n)
        → IsInRange 48 57 (get_or bytes at 0) → length (decimal n) ≤ 19 → ⊥
    by (inl low) longer digit few = absurd (omega (arith, low, digit.0))
    by (inr (inl high)) longer digit few = absurd (omega (arith, high, digit.1))
    by (inr (inr many)) longer digit few = absurd (omega (arith, many, longer, few))

-- at the mark the number ends
pub ends : (mark n : ℕ) (bytes back : List ℕ) (at number : ℕ) → ¬ (IsInRange 48 57 mark) → n < 2 ^ 64
    → IsFront mark bytes at number → get_or bytes at 0 ≡ mark
    → bytes ≡ decimal n ++ mark ∷ back → at ≡ length (decimal n)
ends mark n bytes back at number no_digit fits h here is =
    let long = as_long mark n bytes back at number h is in
    elim (cases_lt at (length (decimal n))) [
      | inl less ↦ absurd (no_digit (subst (λ b. IsInRange 48 57 b) here (byte_of mark n bytes back at fits is less)))
      | inr past ↦ omega (arith, long, past)
    ]

pub ends_empty : (mark n : ℕ) (bytes back : List ℕ) (at number : ℕ) → ¬ (IsInRange 48 57 mark) → n < 2 ^ 64
    → IsFront mark bytes at number → get_or bytes at 0 ≡ mark → at ≡ 0
    → bytes ≡ decimal n ++ mark ∷ back → ⊥
ends_empty mark n bytes back at number no_digit fits h here none is =
    absurd (omega (arith, none, ends mark n bytes back at number no_digit fits h here is, decimal_nonempty n fits))

pub ends_zero : (mark n : ℕ) (bytes back : List ℕ) (at number : ℕ) → ¬ (IsInRange 48 57 mark) → n < 2 ^ 64
    → IsFront mark bytes at number → get_or bytes at 0 ≡ mark → 1 < at → get_or bytes 0 0 ≡ 48
    → bytes ≡ decimal n ++ mark ∷ back → ⊥
ends_zero mark n bytes back at number no_digit fits h here many zero_first is =
    let long = ends mark n bytes back at number no_digit fits h here is in
    no_zero_in_front (decimal n) n fits
    (sym (get_or_append_left (decimal n) (mark ∷ back) 0 0 (omega (arith, many, long))) ∙ ap (λ l. get_or l 0 0) (sym is) ∙ zero_first)
    (omega (arith, many, long)) refl

front_is : (mark n : ℕ) (bytes back : List ℕ) (at : ℕ) → at ≡ length (decimal n) → bytes ≡ decimal n ++ mark ∷ back
    → take at bytes ≡ decimal n
front_is mark n bytes back at long is = ap (take at) is ∙ take_at (decimal n) (mark ∷ back) at (sym long)

pub ends_great : (mark n high : ℕ) (bytes back : List ℕ) (at number : ℕ) → ¬ (IsInRange 48 57 mark) → n < 2 ^ 64 → n ≤ high
    → IsFront mark bytes at number → get_or bytes at 0 ≡ mark → high < number
    → bytes ≡ decimal n ++ mark ∷ back → ⊥
ends_great mark n high bytes back at number no_digit fits le h here great is =
    let long = ends mark n bytes back at number no_digit fits h here is in
    let same : read_on 0 (decimal n) ≡ number = ap (read_on 0) (sym (front_is mark n bytes back at long is)) ∙ h.value in
    too_great (decimal n) n number fits (omega (arith, same)) (omega (arith, le, great)) refl

-- the number that was read, with what follows the mark
pub found_at : (mark : ℕ) (bytes : List ℕ) (at number : ℕ) → at < length bytes → number < 2 ^ 64 → IsFront mark bytes at number
    → get_or bytes at 0 ≡ mark → 0 < at
    → (get_or bytes 0 0 ≡ 48 → at ≡ 1)
    → bytes ≡ decimal number ++ mark ∷ drop (at + 1) bytes
found_at mark bytes at number within fits h here some lone =
    let front = take at bytes in
    let long : length front ≡ at = length-take-le at bytes (omega (arith, within)) in
    let first : get_or front 0 0 ≡ get_or bytes 0 0 = get_or-take at bytes 0 0 some in
    let whole : front ≡ decimal number =
    read_all front (length front) number (omega (arith, long, some)) (λ z. long ∙ lone (sym first ∙ z)) fits (omega arith)
    (record {
      value = ap (read_on number) (drop_all (length front) front (omega arith)) ∙ sym h.value;
      digits = ap all_ascii_digits (drop_all (length front) front (omega arith)) ∙ sym h.digits;
    }) in
    sym (take-append-drop at bytes) ∙ (λ i. whole i ++ drop at bytes)
    ∙ ap (λ l. decimal number ++ l) (drop_more bytes at 0 within ∙ (λ i. here i ∷ drop (at + 1) bytes))

-- what begins with no digit has no number in front of the mark
pub no_first_digit : (mark n : ℕ) (bytes back : List ℕ) → n < 2 ^ 64 → (get_or bytes 0 0 < 48) ⊎ (57 < get_or bytes 0 0)
    → bytes ≡ decimal n ++ mark ∷ back → ⊥
no_first_digit mark n bytes back fits other is = by other (byte_of mark n bytes back 0 fits is (omega (arith, decimal_nonempty n fits)))
  where
    by : (get_or bytes 0 0 < 48) ⊎ (57 < get_or bytes 0 0) → IsInRange 48 57 (get_or bytes 0 0) → ⊥
    by (inl low) digit = absurd (omega (arith, low, digit.0))
    by (inr high) digit = absurd (omega (arith, high, digit.1))

-- the digit in front of a mark that is the second byte
pub one_digit : (mark number : ℕ) (bytes : List ℕ) → 1 < length bytes → get_or bytes 1 0 ≡ mark → (mark < 48) ⊎ (57 < mark)
    → 48 ≤ get_or bytes 0 0 → get_or bytes 0 0 ≤ 57 → number ≡ get_or bytes 0 0 - 48 → bytes ≡ decimal number ++ mark ∷ drop 2 bytes
one_digit mark number bytes many here other low high is =
    let free : get_or bytes 0 0 ≢ mark = λ same. no_digit mark other (subst (λ b. IsInRange 48 57 b) same (low, high)) in
    found_at mark bytes 1 number many (omega (arith, is, high))
    (front_more mark bytes 0 0 number (omega (arith, many)) (omega arith) (front_starts mark bytes) free low high (omega (arith, is)))
    here (omega arith) (λ zero. refl)

-- ---- a number of one digit before a point
pub digit_first : (bytes : List ℕ) → 1 < length bytes → get_or bytes 1 0 ≡ 46 → 48 ≤ get_or bytes 0 0 → get_or bytes 0 0 ≤ 57
    → Some (get_or bytes 0 0 - 48, drop 2 bytes) ≡ number_before 46 255 bytes
digit_first bytes many here low high =
    is_before 46 255 (omega arith) (no_digit 46 (inl (omega arith))) bytes (get_or bytes 0 0 - 48) (drop 2 bytes) (omega (arith, high))
    (one_digit 46 (get_or bytes 0 0 - 48) bytes many here (inl (omega arith)) low high refl)

pub no_digit_first : (bytes : List ℕ) → (get_or bytes 0 0 < 48) ⊎ (57 < get_or bytes 0 0) → None ≡ number_before 46 255 bytes
no_digit_first bytes other =
    not_before 46 255 (omega arith) bytes (λ n back le e. no_first_digit 46 n bytes back (omega (arith, le)) other e)

-- a number that doesn't begin with 0 isn't 0
pub above_zero : (high : ℕ) → high < 10 ^ 19 → (digits : List ℕ) (n : ℕ) → Some n ≡ number_of high digits → get_or digits 0 0 ≢ 48 → 0 < n
above_zero high small digits zero is first =
    absurd (first (ap (λ l. get_or l 0 0) (((law 0 high small).only digits 0 (sym is)).1 ∙ decimal_digit 0 (omega arith))))
above_zero high small digits (suc n) is first = omega arith

-- ---- ids
by_seq : ℕ → ℕ × List ℕ → Option Id
by_seq sites first =
    number_of SEQ_MAX first.1
    >>= (λ seq. only_if (nat_lt first.0 sites && nat_lt 0 seq) (record { site = first.0; seq = seq }))

id_by_site : (sites : ℕ) (field : List ℕ) (first : Option (ℕ × List ℕ)) → first ≡ number_before 46 255 field
    → (first >>= by_seq sites) ≡ id_of sites field
unfolding id_of by_seq
id_by_site sites field first is = ap (λ o. o >>= by_seq sites) is ∙ sym (before_then 46 255 field (by_seq sites))

pub id_no_site : (sites : ℕ) (field : List ℕ) → None ≡ number_before 46 255 field → None ≡ id_of sites field
id_no_site sites field none = id_by_site sites field None none

id_by_seq : (sites site : ℕ) (field back : List ℕ) (o : Option ℕ) → Some (site, back) ≡ number_before 46 255 field
    → o ≡ number_of SEQ_MAX back
    → (o >>= (λ seq. only_if (nat_lt site sites && nat_lt 0 seq) (record { site = site; seq = seq }))) ≡ id_of sites field
unfolding by_seq
id_by_seq sites site field back o first is =
    ap (λ p. p >>= (λ seq. only_if (nat_lt site sites && nat_lt 0 seq) (record { site = site; seq = seq }))) is
    ∙ id_by_site sites field (Some (site, back)) first

pub id_no_seq : (sites site : ℕ) (field back : List ℕ) → Some (site, back) ≡ number_before 46 255 field
    → None ≡ number_of SEQ_MAX back → None ≡ id_of sites field
id_no_seq sites site field back first none = id_by_seq sites site field back None first none

pub id_tested : (sites site seq : ℕ) (field back : List ℕ) (test : Bool) → Some (site, back) ≡ number_before 46 255 field
    → Some seq ≡ number_of SEQ_MAX back → test ≡ nat_lt site sites && nat_lt 0 seq
    → only_if test (record { site = site; seq = seq }) ≡ id_of sites field
id_tested sites site seq field back test first is tests =
    ap (λ b. only_if b (record { site = site; seq = seq })) tests ∙ id_by_seq sites site field back (Some seq) first is

not_both : (a b : Bool) → (a ≡ false) ⊎ (b ≡ false) → false ≡ a && b
not_both false b w = refl
not_both true b (inl e) = absurd (false≢true (sym e))
not_both true b (inr e) = sym e

pub fails : (sites site seq : ℕ) → (sites ≤ site) ⊎ (seq ≡ 0) → false ≡ nat_lt site sites && nat_lt 0 seq
fails sites site seq (inl past) = not_both _ _ (inl (le-ltb site sites past))
fails sites site seq (inr none) = not_both _ _ (inr (le-ltb 0 seq (omega (arith, none))))

pub passes : (sites site seq : ℕ) → site < sites → 0 < seq → true ≡ nat_lt site sites && nat_lt 0 seq
passes sites site seq below some = λ i. sym (lt-ltb site sites below) i && sym (lt-ltb 0 seq some) i
