-- How the last line of a text is found.
use Rattle.rubis_reading.proofs.Common.{◌≡◌, ◌≤◌, ◌<◌, ◌+◌, ◌∷◌, [], ◌++◌, ◌∙◌, ◌==◌, ◌||◌, ℕ, List, length, take, get_or, Bool, true, false, ◌&&◌}
use Rattle.rubis_reading.proofs.Common.{◌-◌, drop, sym, refl, ap, subst, arith, get_or-drop, length-append, length-drop, take-append-drop, take_more}
use Rattle.rubis_reading.proofs.Common.{eqb-true, take-append_seam, ⊤, if◌then◌else◌, MatchBool, after_end, field_after, fields_after, in_field}
use Rattle.rubis_reading.proofs.Common.{is_end, start_record, step, default_config, strip_bom, State, Action}
use Rattle.csv.specs.declared.parser.State.TheVariants as st
use Rattle.csv.specs.declared.parser.Action.TheVariants as act
use Rattle.csv.specs.declared.parser.Terminator.TheVariants as term
use Rattle.rubis_reading.specs.Streams.{Closes, EndsFrom, IsBetween, IsLineEnd, IsWhole, stands}
use Rattle.rubis_reading.proofs.ChunkFacts.{mark-within}

-- ---- a text with quotes

-- with no record begun, nothing is at hand
abbrev pub IsRested : State → List (List ℕ) → List ℕ → Type 0
IsRested st.StartRecord fields field = (fields ≡ []) × (field ≡ [])
IsRested st.AfterCr fields field = (fields ≡ []) × (field ≡ [])
IsRested st.StartField fields field = ⊤
IsRested st.InField fields field = ⊤
IsRested st.InQuoted fields field = ⊤
IsRested st.AfterQuote fields field = ⊤
IsRested st.InEscape fields field = ⊤
IsRested st.InComment fields field = ⊥

abbrev StaysRested : State × Action → ℕ → List (List ℕ) → List ℕ → Type 0
StaysRested p c fields field = MatchBool (is_end p.1) (IsRested p.0 [] []) (IsRested p.0 (fields_after p.1 fields field) (field_after p.1 c field))

rested-if : (b : Bool) (x y : State × Action) (c : ℕ) (fields : List (List ℕ)) (field : List ℕ) → StaysRested x c fields field → StaysRested y c fields field →
    StaysRested (if b then x else y) c fields field
rested-if true x y c fields field p q = p
rested-if false x y c fields field p q = q

ended-rested : (c d : ℕ) (fields : List (List ℕ)) (field : List ℕ) → StaysRested (after_end term.CRLF c, act.EndRecord) d fields field
ended-rested c d fields field =
    elim (c == 13) as (λ b. StaysRested ((if b then st.AfterCr else st.StartRecord), act.EndRecord) d fields field)
    [ true ↦ (refl, refl) | false ↦ (refl, refl) ]

in-field-rested : (c : ℕ) (fields : List (List ℕ)) (field : List ℕ) → StaysRested (in_field default_config c) c fields field
in-field-rested c fields field = rested-if (c == 44) _ _ c fields field tt
    (rested-if ((c == 13) || (c == 10)) _ _ c fields field (ended-rested c c fields field) tt)

start-rested : (c : ℕ) (fields : List (List ℕ)) (field : List ℕ) → (fields ≡ []) × (field ≡ []) → StaysRested (start_record default_config c) c fields field
start-rested c fields field rest =
    rested-if ((c == 13) || (c == 10)) _ _ c fields field rest (rested-if (c == 34) _ _ c fields field tt (in-field-rested c fields field))

step-rested : (s : State) (c : ℕ) (fields : List (List ℕ)) (field : List ℕ) → IsRested s fields field → StaysRested (step default_config s c) c fields field
step-rested st.StartRecord c fields field rest = start-rested c fields field rest
step-rested st.AfterCr c fields field rest = rested-if (c == 10) _ _ c fields field rest (start-rested c fields field rest)
step-rested st.StartField c fields field rest = rested-if (c == 34) _ _ c fields field tt (in-field-rested c fields field)
step-rested st.InField c fields field rest = in-field-rested c fields field
step-rested st.InQuoted c fields field rest = rested-if (c == 34) _ _ c fields field tt tt
step-rested st.AfterQuote c fields field rest = rested-if (c == 34) _ _ c fields field tt (in-field-rested c fields field)
step-rested st.InEscape c fields field rest = tt
step-rested st.InComment c fields field rest = absurd rest

between-rests : (s : State) (fields : List (List ℕ)) (field : List ℕ) → IsRested s fields field → IsBetween s → (fields ≡ []) × (field ≡ [])
between-rests st.StartRecord fields field rest h = rest
between-rests st.AfterCr fields field rest h = rest
between-rests st.StartField fields field rest h = absurd h
between-rests st.InField fields field rest h = absurd h
between-rests st.InQuoted fields field rest h = absurd h
between-rests st.AfterQuote fields field rest h = absurd h
between-rests st.InEscape fields field rest h = absurd h
between-rests st.InComment fields field rest h = absurd h

-- bytes after which no record is begun close the text
pub stands-closes : (s : State) (fields : List (List ℕ)) (field xs : List ℕ) → IsRested s fields field → IsBetween (stands s xs) → Closes s fields field xs
unfolding Closes stands
stands-closes s fields field [] rest e =
    let rested = between-rests s fields field rest e in
    (e, rested.0, rested.1)
stands-closes s fields field (c ∷ xs) rest e =
    let s2 = (step default_config s c).0 in
    let a = (step default_config s c).1 in
    let f2 = fields_after a fields field in
    let p2 = field_after a c field in
    elim (is_end a) as (λ b. MatchBool b (IsRested s2 [] []) (IsRested s2 f2 p2) → MatchBool b (Closes s2 [] [] xs) (Closes s2 f2 p2 xs)) [
      | true ↦ λ k. stands-closes s2 [] [] xs k e
      | false ↦ λ k. stands-closes s2 f2 p2 xs k e
    ] (step-rested s c fields field rest)

-- one more byte
pub stands-more : (s : State) (xs : List ℕ) (c : ℕ) → stands s (xs ++ c ∷ []) ≡ (step default_config (stands s xs) c).0
unfolding stands
stands-more s [] c = refl
stands-more s (x ∷ xs) c = stands-more (step default_config s x).0 xs c

-- ---- a byte order mark before it

pub marked : (text : List ℕ) → 3 ≤ length text → get_or text 0 0 ≡ 239 → get_or text 1 0 ≡ 187 → get_or text 2 0 ≡ 191 → strip_bom text ≡ drop 3 text
unfolding strip_bom
marked [] l a b c = absurd (omega arith)
marked (x ∷ []) l a b c = absurd (omega arith)
marked (x ∷ y ∷ []) l a b c = absurd (omega arith)
marked (x ∷ y ∷ z ∷ rest) l a b c = rw (a, b, c) refl

and-cases : (p q r : Bool) → (p ≡ true → q ≡ true → r ≡ true → ⊥) → (p && q && r) ≡ false
and-cases true true true h = absurd (h refl refl refl)
and-cases true true false h = refl
and-cases true false r h = refl
and-cases false q r h = refl

pub unmarked : (text : List ℕ) → (3 ≤ length text → get_or text 0 0 ≡ 239 → get_or text 1 0 ≡ 187 → get_or text 2 0 ≡ 191 → ⊥) → strip_bom text ≡ text
unfolding strip_bom
unmarked [] h = refl
unmarked (x ∷ []) h = refl
unmarked (x ∷ y ∷ []) h = refl
unmarked (x ∷ y ∷ z ∷ rest) h = rw (and-cases (x == 239) (y == 187) (z == 191) (λ a b c. h (omega arith) (eqb-true _ _ a) (eqb-true _ _ b) (eqb-true _ _ c)))
    refl

-- the records up to the end of a line, after the mark
pub marked-whole : (text : List ℕ) (mark end : ℕ) → mark ≤ length text → 0 < end → strip_bom text ≡ drop mark text →
    EndsFrom st.StartRecord (drop mark text) end → IsWhole (take (mark + end) text)
marked-whole text mark end fits some strip ends =
    let n = mark + end in
    let size = length-drop mark text in
    let within : n ≤ length text = omega (arith, ends.within, size, fits) in
    let at : mark + (end - 1) ≡ n - 1 = omega (arith, some) in
    let more : (n - 1) + 1 ≡ n = omega (arith, some) in
    let last = get_or text (n - 1) 0 in
    let byte : last ≡ get_or (drop mark text) (end - 1) 0 = ap (λ k. get_or text k 0) (sym at) ∙ sym (get_or-drop mark text (end - 1) 0) in
    let ended : IsLineEnd last = subst IsLineEnd (sym byte) ends.line.1 in
    let line : take n text ≡ take (n - 1) text ++ last ∷ [] =
    ap (λ k. take k text) (sym more) ∙ take_more text (n - 1) 0 (omega (arith, within, some)) in
    let left = strip_bom (take n text) in
    let rest = drop n text in
    let parts : drop mark text ≡ left ++ rest =
    sym strip ∙ ap strip_bom (sym (take-append-drop n text)) ∙ ap (λ t. strip_bom (t ++ rest)) line ∙ mark-within (take (n - 1) text) rest last ended
    ∙ ap (λ t. strip_bom t ++ rest) (sym line) in
    let lengths : length (drop mark text) ≡ length left + length rest = ap length parts ∙ length-append left rest in
    let long : length left ≡ end = omega (arith, lengths, size, length-drop n text, within, ends.within, fits) in
    let is : left ≡ take end (drop mark text) = sym (take-append_seam left rest) ∙ ap (λ k. take k (left ++ rest)) long ∙ ap (take end) (sym parts) in
    record {
      front = take (n - 1) text;
      last = last;
      ends = ended;
      is = line;
      closes = subst (Closes st.StartRecord [] []) (sym is) (stands-closes st.StartRecord [] [] (take end (drop mark text)) (refl, refl) ends.before);
    }
