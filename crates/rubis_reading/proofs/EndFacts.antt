-- That no later end of a record was passed over.
use Rattle.rubis_reading.proofs.Common.{◌≡◌, ◌≤◌, ◌<◌, ◌+◌, ◌-◌, ◌∷◌, [], ◌++◌, ◌∙◌, ◌==◌, ◌||◌, inl, inr, ℕ, List, length, take, get_or, drop, true}
use Rattle.rubis_reading.proofs.Common.{false, sym, refl, ap, subst, arith, get_or-drop, length-append, length-drop, take-append-drop, length-take-le}
use Rattle.rubis_reading.proofs.Common.{take-append_seam, if◌then◌else◌, MatchBool, field_after, fields_after, is_end, step, default_config, is_bom}
use Rattle.rubis_reading.proofs.Common.{strip_bom, State}
use Rattle.std.proofs.lemmas.Bool.{cases_lt}
use Rattle.memchr.specs.Find.{Nowhere, Passes, is_byte2}
use Rattle.csv.specs.declared.parser.State.TheVariants as st
use Rattle.rubis_reading.specs.Streams.{Closes, EndsFrom, HasNoQuote, IsBetween, IsLike, IsLineEnd, IsWhole, NoEndAfter, NoWholeAfter, stands}
use Rattle.rubis_reading.proofs.ChunkFacts.{feed-left, HasNoMark, mark-within, no-mark, no-mark-third}
use Rattle.rubis_reading.proofs.QuoteFacts.{get-within, like-back, like-between, no-quote-take, quoted-run, stands-append, stands-like, take-sum, take-within}

-- ---- some bytes with no quote

-- between quotes no record ends
pub quoted-none : (s : State) (xs : List ℕ) (n : ℕ) → s ≡ st.InQuoted → HasNoQuote xs → NoEndAfter s xs n
quoted-none s xs n quoted none k lt h =
    subst IsBetween (ap (λ t. stands t (take k xs)) quoted ∙ quoted-run (take k xs) (no-quote-take k xs none)) h.before

line-passes : (b : ℕ) → IsLineEnd b → ((b == 10) || (b == 13)) ≡ true
line-passes b ends =
    elim ends [
      | inl e ↦ rw e refl
      | inr e ↦ rw e refl
    ]

pub none-after : (s : State) (xs : List ℕ) (n : ℕ) → Nowhere (Passes (is_byte2 10 13) xs) n (length xs) → NoEndAfter s xs n
none-after s xs n nowhere k lt h = nowhere (k - 1) (omega (arith, lt)) (omega (arith, h.within, h.line.0)) (line-passes (get_or xs (k - 1) 0) h.line.1)

-- ---- from one quote to the next

pub front-back : (s : State) (room n : ℕ) (xs : List ℕ) → room ≤ length xs → n ≤ room → EndsFrom s xs n → EndsFrom s (take room xs) n
front-back s room n xs fits within h =
    let size : length (take room xs) ≡ room = length-take-le room xs fits in
    let inside : n ≤ length (take room xs) = omega (arith, size, within) in
    record {
      within = inside;
      line = (h.line.0, subst IsLineEnd (sym (get-within (n - 1) room xs (omega (arith, inside, h.line.0)))) h.line.1);
      before = subst (λ t. IsBetween (stands s t)) (sym (take-within n room xs inside)) h.before;
    }

rest-back : (s : State) (text : List ℕ) (place k : ℕ) → place ≤ length text → IsLike s (stands st.StartRecord (take place text)) → place < k
    → EndsFrom st.StartRecord text k → EndsFrom s (drop place text) (k - place)
rest-back s text place k fits like later h =
    let n = k - place in
    let here : place + n ≡ k = omega (arith, later) in
    let at : place + (n - 1) ≡ k - 1 = omega (arith, later) in
    let byte : get_or text (k - 1) 0 ≡ get_or (drop place text) (n - 1) 0 = ap (λ j. get_or text j 0) (sym at) ∙ sym (get_or-drop place text (n - 1) 0) in
    let whole : stands st.StartRecord (take k text) ≡ stands (stands st.StartRecord (take place text)) (take n (drop place text)) =
    ap (λ j. stands st.StartRecord (take j text)) (sym here) ∙ ap (stands st.StartRecord) (take-sum place n text)
    ∙ stands-append st.StartRecord (take place text) (take n (drop place text)) in
    record {
      within = omega (arith, h.within, length-drop place text, fits);
      line = (omega (arith, later), subst IsLineEnd byte h.line.1);
      before = like-between _ _ (like-back _ _ (stands-like s _ (take n (drop place text)) like)) (subst IsBetween whole h.before);
    }

-- after the last line of a text whose rest has no quote
pub none-later : (s : State) (text : List ℕ) (place line n : ℕ) → place ≤ length text → IsLike s (stands st.StartRecord (take place text))
    → NoEndAfter s (drop place text) line → ((k : ℕ) → n < k → k ≤ place → EndsFrom st.StartRecord text k → ⊥)
    → ((k : ℕ) → n < k → place < k → line < k - place) → NoEndAfter st.StartRecord text n
none-later s text place line n fits like after before more k lt h =
    elim (cases_lt place k) [
      | inr low ↦ before k lt low h
      | inl high ↦ after (k - place) (more k lt high) (rest-back s text place k fits like high h)
    ]

-- up to the next quote
pub none-between : (s : State) (text : List ℕ) (place quote line n : ℕ) → place ≤ length text → IsLike s (stands st.StartRecord (take place text))
    → quote < length (drop place text) → get_or (drop place text) quote 0 ≡ 34 → NoEndAfter s (take quote (drop place text)) line
    → ((k : ℕ) → n < k → k ≤ place → EndsFrom st.StartRecord text k → ⊥) → ((k : ℕ) → n < k → place < k → line < k - place)
    → (k : ℕ) → n < k → k ≤ place + quote + 1 → EndsFrom st.StartRecord text k → ⊥
none-between s text place quote line n fits like within is after before more k lt upto h =
    elim (cases_lt place k) [
      | inr low ↦ before k lt low h
      | inl high ↦
          let back = rest-back s text place k fits like high h in
          elim (cases_lt quote (k - place)) [
            | inr inside ↦ after (k - place) (more k lt high) (front-back s quote (k - place) (drop place text) (omega (arith, within)) inside back)
            | inl over ↦
                let last : k - place - 1 ≡ quote = omega (arith, over, upto) in
                no-line (get_or (drop place text) (k - place - 1) 0) (ap (λ j. get_or (drop place text) j 0) last ∙ is) back.line.1
          ]
    ]
  where
    no-line : (b : ℕ) → b ≡ 34 → IsLineEnd b → ⊥
    no-line b quoted ends =
        elim ends [
          | inl e ↦ absurd (omega (arith, e, quoted))
          | inr e ↦ absurd (omega (arith, e, quoted))
        ]

-- ---- whole records

closes-stands : (s : State) (fields : List (List ℕ)) (field xs : List ℕ) → Closes s fields field xs → IsBetween (stands s xs)
unfolding Closes stands
closes-stands s fields field [] h = h.0
closes-stands s fields field (c ∷ xs) h =
    let s2 = (step default_config s c).0 in
    let a = (step default_config s c).1 in
    let f2 = fields_after a fields field in
    let p2 = field_after a c field in
    elim (is_end a) as (λ b. MatchBool b (Closes s2 [] [] xs) (Closes s2 f2 p2 xs) → IsBetween (stands s2 xs)) [
      | true ↦ λ k. closes-stands s2 [] [] xs k
      | false ↦ λ k. closes-stands s2 f2 p2 xs k
    ] h

-- a text that ends a line has more than a byte order mark
strip-some : (front : List ℕ) (last : ℕ) → HasNoMark last → 0 < length (strip_bom (front ++ last ∷ []))
unfolding strip_bom
strip-some [] last apart = omega arith
strip-some (a ∷ []) last apart = omega arith
strip-some (a ∷ b ∷ []) last apart = rw (apart.2, no-mark-third (a == 239) (b == 187)) (omega arith)
strip-some (a ∷ b ∷ c ∷ front) last apart =
    elim (is_bom a b c) as (λ m. 0 < length (if m then front ++ last ∷ [] else a ∷ b ∷ c ∷ front ++ last ∷ [])) [
      | true ↦ omega (arith, length-append front (last ∷ []))
      | false ↦ omega arith
    ]

-- what is left after the mark of the first bytes
stripped : (text : List ℕ) (mark k : ℕ) → mark ≤ length text → strip_bom text ≡ drop mark text → k ≤ length text → (whole : IsWhole (take k text))
    → (drop mark text ≡ strip_bom (take k text) ++ drop k text) × (0 < length (strip_bom (take k text)))
stripped text mark k fits strip within whole =
    let rest = drop k text in (
      sym strip ∙ ap strip_bom (sym (take-append-drop k text)) ∙ ap (λ t. strip_bom (t ++ rest)) whole.is ∙ mark-within whole.front rest whole.last whole.ends
          ∙ ap (λ t. strip_bom t ++ rest) (sym whole.is),
      subst (λ t. 0 < length (strip_bom t)) (sym whole.is) (strip-some whole.front whole.last (no-mark whole.last whole.ends)),
    )

pub whole-ends : (text : List ℕ) (mark k : ℕ) → mark ≤ length text → strip_bom text ≡ drop mark text → k ≤ length text → IsWhole (take k text)
    → (mark < k) × EndsFrom st.StartRecord (drop mark text) (k - mark)
whole-ends text mark k fits strip within whole =
    let left = strip_bom (take k text) in
    let rest = drop k text in
    let (parts, some) = stripped text mark k fits strip within whole in
    let lengths : length (drop mark text) ≡ length left + length rest = ap length parts ∙ length-append left rest in
    let size = length-drop mark text in
    let tail = length-drop k text in
    let later : mark < k = omega (arith, lengths, size, tail, within, fits, some) in
    let long : length left ≡ k - mark = omega (arith, lengths, size, tail, within, fits, some) in
    let is : left ≡ take (k - mark) (drop mark text) = sym (take-append_seam left rest) ∙ ap (λ j. take j (left ++ rest)) long
    ∙ ap (take (k - mark)) (sym parts) in
    let at : mark + (k - mark - 1) ≡ k - 1 + 0 = omega (arith, later) in
    let byte : get_or (drop mark text) (k - mark - 1) 0 ≡ whole.last =
    get_or-drop mark text (k - mark - 1) 0 ∙ ap (λ j. get_or text j 0) at ∙ sym (get_or-drop (k - 1) text 0 0)
    ∙ ap (λ l. get_or l 0 0) (feed-left text k within (omega (arith, later)) whole) in (
      later,
      record {
        within = omega (arith, size, within, fits);
        line = (omega (arith, later), subst IsLineEnd (sym byte) whole.ends);
        before = subst (λ t. IsBetween (stands st.StartRecord t)) is (closes-stands st.StartRecord [] [] left whole.closes);
      },
    )

pub no-whole : (text : List ℕ) (mark end n : ℕ) → mark ≤ length text → strip_bom text ≡ drop mark text → NoEndAfter st.StartRecord (drop mark text) end
    → ((k : ℕ) → n < k → mark < k → end < k - mark) → NoWholeAfter text n
no-whole text mark end n fits strip none more k lt within whole =
    let (later, ends) = whole-ends text mark k fits strip within whole in
    none (k - mark) (more k lt later) ends
