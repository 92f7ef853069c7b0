-- How the lines of an input go on, and the questions among them.
use Rattle.rubis_keep.proofs.Common.{◌≡◌, ◌==◌, ◌∷◌, [], ℕ, Bool, true, false, List, not, refl, ap, rules, ◌&&◌, ◌∙◌, ◌++◌, ◌+◌, ◌≤◌, ◌<◌, cond, eqb}
use Rattle.rubis_keep.proofs.Common.{leb, get_or, length, take, sym, arith, append_assoc, length-append, step, default_config, State, length-take}
use Rattle.rubis_keep.proofs.Common.{length-take-le, take_all, take_more, take-append-le}
use Rattle.std.proofs.Common.{◌||◌}
use Rattle.std.specs.List.{list_any, starts_with}
use Rattle.std.specs.Prelude.{codes, nat_eq}
use Rattle.std.proofs.lemmas.Bool.{cond_both, le-leb, leb-true, leb-false, lt-leb}
use Rattle.csv.specs.declared.parser.State.TheVariants as st
use Rattle.rubis_keep.specs.Lines.{closes_quotes, is_quoted, state_after, begun_bytes, begun_after, is_question, is_sound, kept_after, kept_line, kept_record, line_limit}

-- a quote, and whether one is among these bytes
abbrev is_quote : ℕ → Bool
is_quote c = c == 34

abbrev pub has_quote : List ℕ → Bool
has_quote line = list_any is_quote line

-- the machine stands outside of quotes, and met none in the field
abbrev is_outside : State → Bool
is_outside st.StartRecord = true
is_outside st.StartField = true
is_outside st.InField = true
is_outside st.AfterCr = true
is_outside st.InQuoted = false
is_outside st.InEscape = false
is_outside st.AfterQuote = false
is_outside st.InComment = false

step-outside : (s : State) (c : ℕ) → is_outside s ≡ true → is_quote c ≡ false → is_outside (step default_config s c).0 ≡ true
step-outside st.StartRecord c p e = grind rules
step-outside st.StartField c p e = grind rules
step-outside st.InField c p e = grind rules
step-outside st.AfterCr c p e = grind rules
step-outside st.InQuoted c p e = absurd (cc p)
step-outside st.InEscape c p e = absurd (cc p)
step-outside st.AfterQuote c p e = absurd (cc p)
step-outside st.InComment c p e = absurd (cc p)

outside-closes : (s : State) → is_outside s ≡ true → is_quoted s ≡ false
outside-closes st.StartRecord p = refl
outside-closes st.StartField p = refl
outside-closes st.InField p = refl
outside-closes st.AfterCr p = refl
outside-closes st.InQuoted p = absurd (cc p)
outside-closes st.InEscape p = absurd (cc p)
outside-closes st.AfterQuote p = absurd (cc p)
outside-closes st.InComment p = absurd (cc p)

neither : (a b : Bool) → (a || b) ≡ false → (a ≡ false) × (b ≡ false)
neither true b e = absurd (cc e)
neither false b e = (refl, e)

line-outside : (s : State) (line : List ℕ) → is_outside s ≡ true → has_quote line ≡ false → is_outside (state_after s line) ≡ true
line-outside s [] p e = p
line-outside s (c ∷ line) p e =
    let parts = neither (is_quote c) (has_quote line) e in
    line-outside (step default_config s c).0 line (step-outside s c p parts.0) parts.1

pub plain_closes : (line : List ℕ) → has_quote line ≡ false → closes_quotes line ≡ true
plain_closes line e = ap not (outside-closes (state_after st.StartRecord line) (line-outside st.StartRecord line refl e))

-- ---- how the lines of an input go on

pub kept-append : (asks : Bool) (line xs ys : List ℕ) → kept_after asks line (xs ++ ys) ≡ kept_after asks line xs ++ kept_after asks (begun_after line xs) ys
kept-append asks line [] ys = refl
kept-append asks line (b ∷ xs) ys =
    elim (eqb b 10) as (λ t. cond t (kept_line asks line ++ kept_after asks [] (xs ++ ys)) (kept_after asks (line ++ b ∷ []) (xs ++ ys))
    ≡ cond t (kept_line asks line ++ kept_after asks [] xs) (kept_after asks (line ++ b ∷ []) xs)
    ++ kept_after asks (cond t (begun_after [] xs) (begun_after (line ++ b ∷ []) xs)) ys) [
      | true ↦ ap (λ r. kept_line asks line ++ r) (kept-append asks [] xs ys) ∙ sym
          (append_assoc (kept_line asks line) (kept_after asks [] xs) (kept_after asks (begun_after [] xs) ys))
      | false ↦ kept-append asks (line ++ b ∷ []) xs ys
    ]

pub begun-append : (line xs ys : List ℕ) → begun_after line (xs ++ ys) ≡ begun_after (begun_after line xs) ys
begun-append line [] ys = refl
begun-append line (b ∷ xs) ys =
    elim (eqb b 10) as (λ t. cond t (begun_after [] (xs ++ ys)) (begun_after (line ++ b ∷ []) (xs ++ ys))
    ≡ begun_after (cond t (begun_after [] xs) (begun_after (line ++ b ∷ []) xs)) ys) [
      | true ↦ begun-append [] xs ys
      | false ↦ begun-append (line ++ b ∷ []) xs ys
    ]

pub state-append : (s : State) (xs ys : List ℕ) → state_after s (xs ++ ys) ≡ state_after (state_after s xs) ys
state-append s [] ys = refl
state-append s (c ∷ xs) ys = state-append (step default_config s c).0 xs ys

-- ---- one byte more of a list that is read from its start

pub state_take_more : (s : State) (xs : List ℕ) (i : ℕ) → i < length xs → state_after s (take (i + 1) xs) ≡
    (step default_config (state_after s (take i xs)) (get_or xs i 0)).0
state_take_more s xs i h = ap (state_after s) (take_more xs i 0 h) ∙ state-append s (take i xs) (get_or xs i 0 ∷ [])

pub begun_take_more : (line xs : List ℕ) (i : ℕ) → i < length xs → begun_after line (take (i + 1) xs) ≡ begun_after (begun_after line (take i xs))
    (get_or xs i 0 ∷ [])
begun_take_more line xs i h = ap (begun_after line) (take_more xs i 0 h) ∙ begun-append line (take i xs) (get_or xs i 0 ∷ [])

-- ---- the first bytes of a line say what is kept of it

begun-short : (line : List ℕ) → length line ≤ 4613 → begun_bytes line ≡ line
begun-short line h = take_all 4614 line (omega arith)

-- how long a line may be, by whether it begins with `key,`
pub short_line : (b : Bool) (n : ℕ) → n ≤ 4096 → leb n (cond b 4613 4096) ≡ true
short_line true n h = le-leb n 4613 (omega (arith, h))
short_line false n h = le-leb n 4096 h

pub keyed_line : (b : Bool) (n : ℕ) → 4096 < n → n ≤ 4613 → leb n (cond b 4613 4096) ≡ b
keyed_line true n h k = le-leb n 4613 k
keyed_line false n h k = lt-leb n 4096 h

pub long_line : (b : Bool) (n : ℕ) → 4613 < n → leb n (cond b 4613 4096) ≡ false
long_line true n h = lt-leb n 4613 h
long_line false n h = lt-leb n 4096 (omega (arith, h))

limit-most : (line : List ℕ) → line_limit line ≤ 4613
limit-most line = cond_both (starts_with nat_eq line (codes "key,")) 4613 4096 (λ n. n ≤ 4613) (λ _. omega arith) (λ _. omega arith)

not-sound : (line : List ℕ) → 4613 < length line → is_sound line ≡ false
not-sound line h = let most = limit-most line in rw (lt-leb (length line) (line_limit line) (omega (arith, h, most))) refl

begun-length : (line : List ℕ) → 4613 < length line → length (begun_bytes line) ≡ 4614
begun-length line h = length-take-le 4614 line (omega arith)

pub record_begun : (line : List ℕ) → kept_record (begun_bytes line) ≡ kept_record line
record_begun line =
    elim (leb (length line) 4613) as (λ t. leb (length line) 4613 ≡ t → kept_record (begun_bytes line) ≡ kept_record line) [
      | true ↦ λ e. ap kept_record (begun-short line (leb-true (length line) 4613 e))
      | false ↦ λ e.
          let long = leb-false (length line) 4613 e in
          let size = begun-length line long in
          rw (not-sound (begun_bytes line) (omega (arith, size)), not-sound line long) refl
    ] refl

pub question_begun : (line : List ℕ) → is_question (begun_bytes line) ≡ is_question line
question_begun [] = refl
question_begun (c ∷ rest) = refl

pub kept_begun : (asks : Bool) (line : List ℕ) → kept_line asks (begun_bytes line) ≡ kept_line asks line
kept_begun asks line = rw (question_begun line, record_begun line) refl

pub sound_begun : (line : List ℕ) → is_sound (begun_bytes line) ≡ is_sound line
sound_begun line =
    elim (leb (length line) 4613) as (λ t. leb (length line) 4613 ≡ t → is_sound (begun_bytes line) ≡ is_sound line) [
      | true ↦ λ e. ap is_sound (begun-short line (leb-true (length line) 4613 e))
      | false ↦ λ e.
          let long = leb-false (length line) 4613 e in
          let size = begun-length line long in
          rw (not-sound (begun_bytes line) (omega (arith, size)), not-sound line long) refl
    ] refl

pub begun_more : (line : List ℕ) (b : ℕ) → length (begun_bytes line) ≤ 4613 → begun_bytes (line ++ b ∷ []) ≡ begun_bytes line ++ b ∷ []
begun_more line b h =
    let size = length-take 4614 line in
    let short : length line ≤ 4613 = omega (arith, size, h) in
    take_all 4614 (line ++ b ∷ []) (omega (arith, length-append line (b ∷ []), short)) ∙ ap (λ l. l ++ b ∷ []) (sym (begun-short line short))

pub begun_full : (line : List ℕ) (b : ℕ) → 4613 < length (begun_bytes line) → begun_bytes (line ++ b ∷ []) ≡ begun_bytes line
begun_full line b h =
    let size = length-take 4614 line in
    take-append-le 4614 line (b ∷ []) (omega (arith, size, h))

pub begun-pushed : (line : List ℕ) {begun new : List ℕ} (b : ℕ) → begun ≡ begun_bytes line → length begun ≤ 4613 → new ≡ begun ++ b ∷ []
    → new ≡ begun_bytes (line ++ b ∷ [])
begun-pushed line b h l e = e ∙ ap (λ t. t ++ b ∷ []) h ∙ sym (begun_more line b (rw h at l))

pub begun-stays : (line : List ℕ) {begun : List ℕ} (b : ℕ) → begun ≡ begun_bytes line → 4613 < length begun → begun ≡ begun_bytes (line ++ b ∷ [])
begun-stays line b h l = h ∙ sym (begun_full line b (rw h at l))

and_true : (b : Bool) → (b && true) ≡ b
and_true true = refl
and_true false = refl

pub sound-ended : (line : List ℕ) {begun : List ℕ} → begun ≡ begun_bytes line → is_sound begun ≡ (is_sound line && true)
sound-ended line h = ap is_sound h ∙ sound_begun line ∙ sym (and_true (is_sound line))
