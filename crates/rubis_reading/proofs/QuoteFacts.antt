-- How a text is read from one quote to the next.
use Rattle.rubis_reading.proofs.Common.{◌≡◌, ◌≤◌, ◌<◌, ◌+◌, ◌-◌, ◌∷◌, [], ◌++◌, ◌∙◌, ◌==◌, ◌||◌, inl, inr, ℕ, zero, suc, List, length, take, get_or}
use Rattle.rubis_reading.proofs.Common.{Bool, true, false, drop, sym, refl, ap, subst, arith, get_or-drop, length-drop, cases_Bool, eqb-true}
use Rattle.rubis_reading.proofs.Common.{take_more, IfNone, IfSome, None, Option, Some, if◌then◌else◌, after_end, in_field, start_record, step}
use Rattle.rubis_reading.proofs.Common.{default_config, State, Action}
use Rattle.memchr.specs.Find.{IsFirstByte, is_byte}
use Rattle.csv.specs.declared.parser.Terminator.TheVariants as term
use Rattle.csv.specs.declared.parser.State.TheVariants as st
use Rattle.rubis_reading.specs.Streams.{EndsFrom, HasNoQuote, IsBetween, IsLike, IsLineEnd, IsOutside, stands}
use Rattle.rubis_reading.proofs.CutFacts.{stands-more}

-- ---- states that are alike

or-true : (b : Bool) → (b || true) ≡ true
or-true true = refl
or-true false = refl

after-cr-step : (c : ℕ) → (step default_config st.AfterCr c).0 ≡ (start_record default_config c).0
after-cr-step c =
    elim (cases_Bool (c == 10)) [
      | inl e ↦ rw (e, or-true (c == 13)) refl
      | inr e ↦ rw e refl
    ]

-- where no record is begun, every next byte begins one
between-step : (s : State) (c : ℕ) → IsBetween s → (step default_config s c).0 ≡ (start_record default_config c).0
between-step st.StartRecord c h = refl
between-step st.AfterCr c h = after-cr-step c
between-step st.StartField c h = absurd h
between-step st.InField c h = absurd h
between-step st.InQuoted c h = absurd h
between-step st.AfterQuote c h = absurd h
between-step st.InEscape c h = absurd h
between-step st.InComment c h = absurd h

like-step : (s t : State) (c : ℕ) → IsLike s t → (step default_config s c).0 ≡ (step default_config t c).0
like-step s t c like =
    elim like [
      | inl e ↦ ap (λ u. (step default_config u c).0) e
      | inr both ↦ between-step s c both.0 ∙ sym (between-step t c both.1)
    ]

pub like-between : (s t : State) → IsLike s t → IsBetween s → IsBetween t
like-between s t like h =
    elim like [
      | inl e ↦ subst IsBetween e h
      | inr both ↦ both.1
    ]

pub like-back : (s t : State) → IsLike s t → IsLike t s
like-back s t like =
    elim like [
      | inl e ↦ inl (sym e)
      | inr both ↦ inr (both.1, both.0)
    ]

pub like-then : (s t u : State) → IsLike s t → IsLike t u → IsLike s u
like-then s t u like more =
    elim like [
      | inl e ↦ subst (λ x. IsLike x u) (sym e) more
      | inr both ↦ inr (both.0, like-between t u more both.1)
    ]

pub stands-like : (s t : State) (xs : List ℕ) → IsLike s t → IsLike (stands s xs) (stands t xs)
unfolding stands
stands-like s t [] like = like
stands-like s t (c ∷ xs) like = inl (ap (λ u. stands u xs) (like-step s t c like))

-- ---- no quote

-- a byte that is no quote ends a line or a field, or is one of a field, wherever the machine stood
start-like : (c : ℕ) → (c == 34) ≡ false → IsLike (start_record default_config c).0 (in_field default_config c).0
start-like c none =
    elim (cases_Bool (c == 13)) [
      | inl e ↦ subst (λ b. IsLike (start_record default_config b).0 (in_field default_config b).0) (sym (eqb-true c 13 e)) (inr (tt, tt))
      | inr e ↦ elim (cases_Bool (c == 10)) [
        | inl f ↦ subst (λ b. IsLike (start_record default_config b).0 (in_field default_config b).0) (sym (eqb-true c 10 f)) (inr (tt, tt))
        | inr f ↦ rw (e, f, none) (inl refl)
      ]
    ]

outside-next : (s : State) (c : ℕ) → IsOutside s → (c == 34) ≡ false → IsLike (step default_config s c).0 (in_field default_config c).0
outside-next st.StartRecord c out none = start-like c none
outside-next st.AfterCr c out none = subst (λ u. IsLike u (in_field default_config c).0) (sym (after-cr-step c)) (start-like c none)
outside-next st.StartField c out none = rw none (inl refl)
outside-next st.InField c out none = inl refl
outside-next st.InQuoted c out none = absurd out
outside-next st.AfterQuote c out none = rw none (inl refl)
outside-next st.InEscape c out none = absurd out
outside-next st.InComment c out none = absurd out

outside-if : (b : Bool) (x y : State × Action) → IsOutside x.0 → IsOutside y.0 → IsOutside (if b then x else y).0
outside-if true x y p q = p
outside-if false x y p q = q

ended-outside : (c : ℕ) → IsOutside (after_end term.CRLF c)
ended-outside c = elim (c == 13) as (λ b. IsOutside (if b then st.AfterCr else st.StartRecord)) [ true ↦ tt | false ↦ tt ]

in_field-outside : (c : ℕ) → IsOutside (in_field default_config c).0
in_field-outside c = outside-if (c == 44) _ _ tt (outside-if ((c == 13) || (c == 10)) _ _ (ended-outside c) tt)

between-outside : (s : State) → IsBetween s → IsOutside s
between-outside st.StartRecord h = tt
between-outside st.AfterCr h = tt
between-outside st.StartField h = tt
between-outside st.InField h = tt
between-outside st.InQuoted h = absurd h
between-outside st.AfterQuote h = tt
between-outside st.InEscape h = absurd h
between-outside st.InComment h = absurd h

like-outside : (s t : State) → IsLike s t → IsOutside s → IsOutside t
like-outside s t like out =
    elim like [
      | inl e ↦ subst IsOutside e out
      | inr both ↦ between-outside t both.1
    ]

outside-step : (s : State) (c : ℕ) → IsOutside s → (c == 34) ≡ false → IsOutside (step default_config s c).0
outside-step s c out none = like-outside (in_field default_config c).0 (step default_config s c).0 (like-back _ _ (outside-next s c out none))
    (in_field-outside c)

outside-run : (s : State) (xs : List ℕ) → IsOutside s → HasNoQuote xs → IsOutside (stands s xs)
unfolding stands HasNoQuote
outside-run s [] out none = out
outside-run s (c ∷ xs) out none = outside-run (step default_config s c).0 xs (outside-step s c out none.0) none.1

-- between quotes all bytes but quotes are copied
pub quoted-run : (xs : List ℕ) → HasNoQuote xs → stands st.InQuoted xs ≡ st.InQuoted
unfolding stands HasNoQuote
quoted-run [] none = refl
quoted-run (c ∷ xs) none =
    let here : (step default_config st.InQuoted c).0 ≡ st.InQuoted = rw none.0 refl in
    ap (λ s. stands s xs) here ∙ quoted-run xs none.1

no-quote-front : (front rest : List ℕ) → HasNoQuote (front ++ rest) → HasNoQuote front
unfolding HasNoQuote
no-quote-front [] rest h = tt
no-quote-front (c ∷ front) rest h = (h.0, no-quote-front front rest h.1)

no-quote-last : (front : List ℕ) (c : ℕ) → HasNoQuote (front ++ c ∷ []) → (c == 34) ≡ false
unfolding HasNoQuote
no-quote-last [] c h = h.0
no-quote-last (x ∷ front) c h = no-quote-last front c h.1

pub no-quote-take : (k : ℕ) (xs : List ℕ) → HasNoQuote xs → HasNoQuote (take k xs)
unfolding HasNoQuote
no-quote-take zero xs h = tt
no-quote-take (suc k) [] h = tt
no-quote-take (suc k) (x ∷ xs) h = (h.0, no-quote-take k xs h.1)

run-like : (s : State) (xs : List ℕ) (c : ℕ) → IsOutside s → HasNoQuote (xs ++ c ∷ []) → IsLike (in_field default_config c).0 (stands s (xs ++ c ∷ []))
run-like s xs c out none =
    subst (λ t. IsLike (in_field default_config c).0 t) (sym (stands-more s xs c))
    (like-back _ _ (outside-next (stands s xs) c (outside-run s xs out (no-quote-front xs (c ∷ []) none)) (no-quote-last xs c none)))

pub take-all : (xs : List ℕ) → take (length xs) xs ≡ xs
take-all [] = refl
take-all (x ∷ xs) = ap (λ t. x ∷ t) (take-all xs)

-- where the machine stands after some bytes with no quote, by the last of them
pub over-run : (s : State) (xs : List ℕ) → IsOutside s → HasNoQuote xs → 0 < length xs →
    IsLike (in_field default_config (get_or xs (length xs - 1) 0)).0 (stands s xs)
over-run s xs out none some =
    let last = get_or xs (length xs - 1) 0 in
    let more : (length xs - 1) + 1 ≡ length xs = omega (arith, some) in
    let parts : xs ≡ take (length xs - 1) xs ++ last ∷ [] =
    sym (take-all xs) ∙ ap (λ k. take k xs) (sym more) ∙ take_more xs (length xs - 1) 0 (omega (arith, some)) in
    subst (λ t. IsLike (in_field default_config last).0 (stands s t)) (sym parts) (run-like s (take (length xs - 1) xs) last out (subst HasNoQuote parts none))

line-between : (c : ℕ) → IsLineEnd c → IsBetween (in_field default_config c).0
line-between c ends =
    elim ends [
      | inl e ↦ subst (λ b. IsBetween (in_field default_config b).0) (sym e) tt
      | inr e ↦ subst (λ b. IsBetween (in_field default_config b).0) (sym e) tt
    ]

line-end : (b : ℕ) → ((b == 10) || (b == 13)) ≡ true → IsLineEnd b
line-end b e =
    elim (cases_Bool (b == 10)) [
      | inl f ↦ inl (eqb-true b 10 f)
      | inr f ↦ inr (eqb-true b 13 (rw f at e))
    ]

-- the end of a line among some bytes with no quote
pub ends-from : (s : State) (xs : List ℕ) (k : ℕ) → IsOutside s → HasNoQuote xs → k < length xs → ((get_or xs k 0 == 10) || (get_or xs k 0 == 13)) ≡ true →
    EndsFrom s xs (k + 1)
ends-from s xs k out none lt is =
    let c = get_or xs k 0 in
    let ends = line-end c is in
    let here : k + 1 - 1 ≡ k = omega arith in
    let parts : take (k + 1) xs ≡ take k xs ++ c ∷ [] = take_more xs k 0 lt in
    record {
      within = omega (arith, lt);
      line = (omega arith, subst (λ j. IsLineEnd (get_or xs j 0)) (sym here) ends);
      before = subst (λ t. IsBetween (stands s t)) (sym parts)
          (like-between _ _ (run-like s (take k xs) c out (subst HasNoQuote parts (no-quote-take (k + 1) xs none))) (line-between c ends));
    }

-- ---- the first quote

quote-not : (b : Bool) → (b ≡ true → ⊥) → b ≡ false
quote-not true h = absurd (h refl)
quote-not false h = refl

pub none-before : (k : ℕ) (xs : List ℕ) → k ≤ length xs → ((i : ℕ) → i < k → (get_or xs i 0 == 34) ≡ true → ⊥) → HasNoQuote (take k xs)
unfolding HasNoQuote
none-before zero xs within h = tt
none-before (suc k) [] within h = absurd (omega (arith, within))
none-before (suc k) (x ∷ xs) within h =
    (quote-not (x == 34) (h zero (omega arith)), none-before k xs (omega (arith, within)) (λ i lt. h (suc i) (omega (arith, lt))))

pub none-at-all : (xs : List ℕ) → ((i : ℕ) → i < length xs → (get_or xs i 0 == 34) ≡ true → ⊥) → HasNoQuote xs
none-at-all xs h = subst HasNoQuote (take-all xs) (none-before (length xs) xs (omega arith) h)

pub first-none : (r : Option ℕ) (xs : List ℕ) → IsFirstByte (is_byte 34) xs r → IfNone r (HasNoQuote xs)
first-none None xs h = none-at-all xs (λ i lt is. h i (omega arith) lt is)
first-none (Some k) xs h = tt

pub first-some : (r : Option ℕ) (xs : List ℕ) → IsFirstByte (is_byte 34) xs r → IfSome r (λ k. (k < length xs) × HasNoQuote (take k xs) × (get_or xs k 0 ≡ 34))
first-some None xs h = tt
first-some (Some k) xs h = (h.0.high, none-before k xs (omega (arith, h.0.high)) (λ i lt is. h.0.before i (omega arith) lt is), eqb-true (get_or xs k 0) 34 h.1)

-- ---- where the machine stands after some bytes with no quote

pub over-quoted : (s : State) (xs : List ℕ) → s ≡ st.InQuoted → HasNoQuote xs → IsLike s (stands s xs)
over-quoted s xs e none = rw e (inl (sym (quoted-run xs none)))

pub over-none : (s : State) (xs : List ℕ) → xs ≡ [] → IsLike s (stands s xs)
unfolding stands
over-none s xs none = rw none (inl refl)

-- ---- from one quote to the next

pub take-within : (cut room : ℕ) (xs : List ℕ) → cut ≤ length (take room xs) → take cut (take room xs) ≡ take cut xs
take-within zero room xs h = refl
take-within (suc cut) zero xs h = absurd (omega (arith, h))
take-within (suc cut) (suc room) [] h = absurd (omega (arith, h))
take-within (suc cut) (suc room) (x ∷ xs) h = ap (λ t. x ∷ t) (take-within cut room xs (omega (arith, h)))

pub within-take : (cut room : ℕ) (xs : List ℕ) → cut ≤ length (take room xs) → cut ≤ length xs
within-take zero room xs h = omega arith
within-take (suc cut) zero xs h = absurd (omega (arith, h))
within-take (suc cut) (suc room) [] h = absurd (omega (arith, h))
within-take (suc cut) (suc room) (x ∷ xs) h = let more = within-take cut room xs (omega (arith, h)) in omega (arith, more)

pub get-within : (i room : ℕ) (xs : List ℕ) → i < length (take room xs) → get_or (take room xs) i 0 ≡ get_or xs i 0
get-within i zero xs h = absurd (omega (arith, h))
get-within i (suc room) [] h = absurd (omega (arith, h))
get-within zero (suc room) (x ∷ xs) h = refl
get-within (suc i) (suc room) (x ∷ xs) h = get-within i room xs (omega (arith, h))

pub take-sum : (a b : ℕ) (xs : List ℕ) → take (a + b) xs ≡ take a xs ++ take b (drop a xs)
take-sum zero b xs = let e : 0 + b ≡ b = omega arith in rw e refl
take-sum (suc a) zero [] = let e : suc a + 0 ≡ suc a = omega arith in rw e refl
take-sum (suc a) (suc b) [] = let e : suc a + suc b ≡ suc (a + suc b) = omega arith in rw e refl
take-sum (suc a) b (x ∷ xs) = let e : suc a + b ≡ suc (a + b) = omega arith in rw e (ap (λ t. x ∷ t) (take-sum a b xs))

pub stands-append : (s : State) (xs ys : List ℕ) → stands s (xs ++ ys) ≡ stands (stands s xs) ys
unfolding stands
stands-append s [] ys = refl
stands-append s (x ∷ xs) ys = stands-append (step default_config s x).0 xs ys

pub front-ends : (s : State) (room n : ℕ) (xs : List ℕ) → EndsFrom s (take room xs) n → EndsFrom s xs n
front-ends s room n xs h = record {
  within = within-take n room xs h.within;
  line = (h.line.0, subst IsLineEnd (get-within (n - 1) room xs (omega (arith, h.within, h.line.0))) h.line.1);
  before = subst (λ t. IsBetween (stands s t)) (take-within n room xs h.within) h.before;
}

-- the end of a line after a place
pub rest-ends : (s : State) (text : List ℕ) (place n : ℕ) → place ≤ length text → IsLike s (stands st.StartRecord (take place text))
    → EndsFrom s (drop place text) n → EndsFrom st.StartRecord text (place + n)
rest-ends s text place n fits like h =
    let at : place + (n - 1) ≡ place + n - 1 = omega (arith, h.line.0) in
    let byte : get_or (drop place text) (n - 1) 0 ≡ get_or text (place + n - 1) 0 = get_or-drop place text (n - 1) 0 ∙ ap (λ k. get_or text k 0) at in
    let whole : stands st.StartRecord (take (place + n) text) ≡ stands (stands st.StartRecord (take place text)) (take n (drop place text)) =
    ap (stands st.StartRecord) (take-sum place n text) ∙ stands-append st.StartRecord (take place text) (take n (drop place text)) in
    record {
      within = omega (arith, h.within, length-drop place text, fits);
      line = (omega (arith, h.line.0), subst IsLineEnd byte h.line.1);
      before = subst IsBetween (sym whole) (like-between _ _ (stands-like s _ (take n (drop place text)) like) h.before);
    }

-- the machine after the next quote
pub after-quote : (s mid new : State) (text : List ℕ) (place quote : ℕ) → IsLike s (stands st.StartRecord (take place text))
    → quote < length (drop place text) → get_or (drop place text) quote 0 ≡ 34
    → IsLike mid (stands s (take quote (drop place text))) → new ≡ (step default_config mid 34).0
    → IsLike new (stands st.StartRecord (take (place + (quote + 1)) text))
after-quote s mid new text place quote like lt is over steps =
    let rest = drop place text in
    let run = take quote rest in
    let before = stands st.StartRecord (take place text) in
    let parts : take (quote + 1) rest ≡ run ++ 34 ∷ [] = take_more rest quote 0 lt ∙ ap (λ b. run ++ b ∷ []) is in
    let whole : stands st.StartRecord (take (place + (quote + 1)) text) ≡ (step default_config (stands before run) 34).0 =
    ap (stands st.StartRecord) (take-sum place (quote + 1) text) ∙ stands-append st.StartRecord (take place text) (take (quote + 1) rest)
    ∙ ap (stands before) parts ∙ stands-more before run 34 in
    let same : new ≡ (step default_config (stands before run) 34).0 =
    steps ∙ like-step mid (stands before run) 34 (like-then mid (stands s run) (stands before run) over (stands-like s before run like)) in
    inl (same ∙ sym whole)

pub some-length : (xs : List ℕ) → false ≡ (length xs == 0) → 0 < length xs
some-length [] e = absurd cc
some-length (x ∷ xs) e = omega arith

pub none-length : (xs : List ℕ) → true ≡ (length xs == 0) → xs ≡ []
none-length [] e = refl
none-length (x ∷ xs) e = absurd (omega (arith, eqb-true (length (x ∷ xs)) 0 (sym e)))
