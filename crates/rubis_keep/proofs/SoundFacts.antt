-- Texts of lines that are kept as they are, cut off anywhere and gone on with, and the records in them.
use Rattle.rubis_keep.proofs.Common.{◌≡◌, ◌∙◌, ◌&&◌, ◌++◌, ◌∷◌, [], ℕ, Bool, true, false, not, List, cond, length, leb, eqb, refl, ap, drop, get_or}
use Rattle.rubis_keep.proofs.Common.{take, ◌<◌, ◌+◌, Option, Some, None, IfSome, sym, subst, append_assoc, ◌≤◌, zero, suc, arith, rules, ◌-◌, ◌^◌}
use Rattle.rubis_keep.proofs.Common.{◌==◌, length-append, min, step, next_record, default_config, records_from, strip_bom, State, Consumes, IsAtEnd}
use Rattle.rubis_keep.proofs.Common.{IsTrue, MatchBool, append-nil, take-append-le, take_more, take-append-add, input_records, no_mark}
use Rattle.std.proofs.Common.{if◌then◌else◌}
use Rattle.std.proofs.lemmas.Bool.{and_parts, eqb-true}
use Rattle.csv.specs.Machine.{ends_at_end, field_after, fields_after, is_end}
use Rattle.csv.specs.Reading.{records_next}
use Rattle.std.proofs.lemmas.List.{take-append-drop}
use Rattle.csv.specs.declared.parser.Action.{Action}
use Rattle.csv.specs.declared.parser.State.TheVariants as st
use Rattle.rubis_keep.specs.Lines.{broken, closes_quotes, is_marked, is_question, is_quoted, is_sound, kept_after, kept_line, kept_record, line_limit, state_after}
use Rattle.rubis_keep.specs.Lines.{HasWholeRecords, HasSoundLines, HasNoEnd, are_sound, begun_after, kept_of_input, read_back, whole_after, whole_lines, is_usual, CutsLines}
use Rattle.rubis_keep.specs.Faults.{CountsLines, IsEdited, IsEditedAt, ends_in}
use Rattle.rubis_keep.specs.Outlets.{counts-both, ends-append}
use Rattle.rubis_keep.specs.Lines.{asked_by, begun_bytes, asked_after, asked_line, without_after}
use Rattle.rubis_keep.proofs.LineFacts.{state-append, begun-append, begun-pushed, begun-stays, kept-append, kept_begun, question_begun}
use Rattle.csv.specs.declared.parser.Action.TheVariants as act

end-closes : (s : State) → is_quoted s ≡ false → (step default_config s 10).0 ≡ st.StartRecord
end-closes st.InQuoted e = absurd (cc e)
end-closes st.InEscape e = absurd (cc e)
end-closes st.StartRecord e = refl
end-closes st.StartField e = refl
end-closes st.InField e = refl
end-closes st.AfterQuote e = refl
end-closes st.InComment e = refl
end-closes st.AfterCr e = refl

not-quoted : (b : Bool) → not b ≡ true → b ≡ false
not-quoted true e = cc e
not-quoted false e = refl

pub whole-append : {xs ys : List ℕ} → HasWholeRecords xs → HasWholeRecords ys → HasWholeRecords (xs ++ ys)
whole-append {xs} {ys} a b = record {
  closed = state-append st.StartRecord xs ys ∙ ap (λ s. state_after s ys) a.closed ∙ b.closed;
  unmarked = head xs a.unmarked;
}
  where
    head : (zs : List ℕ) → is_marked zs ≡ false → is_marked (zs ++ ys) ≡ false
    head [] e = b.unmarked
    head (z ∷ zs) e = e

unmarked-line : (line : List ℕ) → is_marked line ≡ false → is_marked (line ++ 10 ∷ []) ≡ false
unmarked-line [] e = refl
unmarked-line (x ∷ line) e = e

pub sound-whole : (line : List ℕ) → is_sound line ≡ true → HasWholeRecords (line ++ 10 ∷ [])
sound-whole line e =
    let parts = and_parts (leb (length line) (line_limit line)) (closes_quotes line && not (is_marked line)) e in
    let more = and_parts (closes_quotes line) (not (is_marked line)) parts.1 in
    record {
      closed = state-append st.StartRecord line (10 ∷ []) ∙ end-closes (state_after st.StartRecord line) (not-quoted _ more.0);
      unmarked = unmarked-line line (not-quoted _ more.1);
    }

kept-record-whole : (line : List ℕ) → HasWholeRecords (kept_record line)
kept-record-whole line =
    elim (is_sound line) as (λ b. is_sound line ≡ b → HasWholeRecords (cond b (line ++ 10 ∷ []) broken)) [
      | true ↦ λ e. sound-whole line e
      | false ↦ λ e. record { closed = refl; unmarked = refl }
    ] refl

pub kept-line-whole : (asks : Bool) (line : List ℕ) → HasWholeRecords (kept_line asks line)
kept-line-whole asks line =
    elim (asks && is_question line) as (λ v. HasWholeRecords (cond v [] (kept_record line))) [
      | true ↦ record { closed = refl; unmarked = refl }
      | false ↦ kept-record-whole line
    ]

pub kept-whole : (asks : Bool) (line bytes : List ℕ) → HasWholeRecords (kept_after asks line bytes)
kept-whole asks line [] = record { closed = refl; unmarked = refl }
kept-whole asks line (b ∷ rest) =
    elim (eqb b 10) as (λ t. HasWholeRecords (cond t (kept_line asks line ++ kept_after asks [] rest) (kept_after asks (line ++ b ∷ []) rest))) [
      | true ↦ whole-append (kept-line-whole asks line) (kept-whole asks [] rest)
      | false ↦ kept-whole asks (line ++ b ∷ []) rest
    ]

-- ---- texts of lines that are kept as they are, cut off anywhere and gone on with

-- the lines of the beginning of such a text
pub sound-front : (line p q : List ℕ) → HasSoundLines line (p ++ q) → HasSoundLines line p
sound-front line [] q h = tt
sound-front line (b ∷ p) q h =
    elim (eqb b 10) as (λ t. MatchBool t (IsTrue (is_sound line) × HasSoundLines [] (p ++ q)) (HasSoundLines (line ++ b ∷ []) (p ++ q))
    → MatchBool t (IsTrue (is_sound line) × HasSoundLines [] p) (HasSoundLines (line ++ b ∷ []) p)) [
      | true ↦ λ k. (k.0, sound-front [] p q k.1)
      | false ↦ λ k. sound-front (line ++ b ∷ []) p q k
    ] h

pub sound-append : (line p q : List ℕ) → HasSoundLines line p → HasSoundLines (begun_after line p) q → HasSoundLines line (p ++ q)
sound-append line [] q h k = k
sound-append line (b ∷ p) q h k =
    elim (eqb b 10) as (λ t. MatchBool t (IsTrue (is_sound line) × HasSoundLines [] p) (HasSoundLines (line ++ b ∷ []) p)
    → HasSoundLines (cond t (begun_after [] p) (begun_after (line ++ b ∷ []) p)) q
    → MatchBool t (IsTrue (is_sound line) × HasSoundLines [] (p ++ q)) (HasSoundLines (line ++ b ∷ []) (p ++ q))) [
      | true ↦ λ s r. (s.0, sound-append [] p q s.1 r)
      | false ↦ λ s r. sound-append (line ++ b ∷ []) p q s r
    ] h k

pub sound-back : (line p q : List ℕ) → HasSoundLines line (p ++ q) → HasSoundLines (begun_after line p) q
sound-back line [] q h = h
sound-back line (b ∷ p) q h =
    elim (eqb b 10) as (λ t. MatchBool t (IsTrue (is_sound line) × HasSoundLines [] (p ++ q)) (HasSoundLines (line ++ b ∷ []) (p ++ q))
    → HasSoundLines (cond t (begun_after [] p) (begun_after (line ++ b ∷ []) p)) q) [
      | true ↦ λ k. sound-back [] p q k.1
      | false ↦ λ k. sound-back (line ++ b ∷ []) p q k
    ] h

-- ---- the same, as it is decided

and_assoc : (a b c : Bool) → (a && (b && c)) ≡ ((a && b) && c)
and_assoc true b c = refl
and_assoc false b c = refl

are-sound-append : (line xs ys : List ℕ) → are_sound line (xs ++ ys) ≡ (are_sound line xs && are_sound (begun_after line xs) ys)
are-sound-append line [] ys = refl
are-sound-append line (b ∷ xs) ys =
    elim (eqb b 10) as (λ t. cond t (is_sound line && are_sound [] (xs ++ ys)) (are_sound (line ++ b ∷ []) (xs ++ ys))
    ≡ (cond t (is_sound line && are_sound [] xs) (are_sound (line ++ b ∷ []) xs) && are_sound
    (cond t (begun_after [] xs) (begun_after (line ++ b ∷ []) xs)) ys)) [
      | true ↦ ap (λ t. is_sound line && t) (are-sound-append [] xs ys) ∙ and_assoc (is_sound line) (are_sound [] xs) (are_sound (begun_after [] xs) ys)
      | false ↦ are-sound-append (line ++ b ∷ []) xs ys
    ]

pub sound_take_more : (line xs : List ℕ) (i : ℕ) → i < length xs → are_sound line (take (i + 1) xs) ≡
    (are_sound line (take i xs) && are_sound (begun_after line (take i xs)) (get_or xs i 0 ∷ []))
sound_take_more line xs i h = ap (are_sound line) (take_more xs i 0 h) ∙ are-sound-append line (take i xs) (get_or xs i 0 ∷ [])

pub sound_more : (line xs ys : List ℕ) → are_sound line xs ≡ true → are_sound (begun_after line xs) ys ≡ true → are_sound line (xs ++ ys) ≡ true
sound_more line xs ys e f = are-sound-append line xs ys ∙ ap (λ t. t && are_sound (begun_after line xs) ys) e ∙ f

-- a text is not sound whose beginning isn't
pub unsound-front : (line xs : List ℕ) (n : ℕ) → are_sound line (take n xs) ≡ false → are_sound line xs ≡ false
unsound-front line xs n e =
    ap (are_sound line) (sym (take-append-drop n xs)) ∙ are-sound-append line (take n xs) (drop n xs)
    ∙ ap (λ t. t && are_sound (begun_after line (take n xs)) (drop n xs)) e

pub are-sound : (line t : List ℕ) → are_sound line t ≡ true → HasSoundLines line t
are-sound line [] e = tt
are-sound line (b ∷ t) e =
    elim (eqb b 10) as (λ v. cond v (is_sound line && are_sound [] t) (are_sound (line ++ b ∷ []) t) ≡ true
    → MatchBool v (IsTrue (is_sound line) × HasSoundLines [] t) (HasSoundLines (line ++ b ∷ []) t)) [
      | true ↦ λ f. let parts = and_parts (is_sound line) (are_sound [] t) f in (parts.0, are-sound [] t parts.1)
      | false ↦ λ f. are-sound (line ++ b ∷ []) t f
    ] e

-- the line that ends at byte i is the first that isn't sound
pub edited-at : (line xs : List ℕ) (i : ℕ) {sound : Bool} {lines lines2 : ℕ} → i < length xs → are_sound line (take i xs) ≡ true
    → sound ≡ are_sound (begun_after line (take i xs)) (get_or xs i 0 ∷ []) → sound ≡ false → CountsLines lines lines2 (take i xs) → IsEdited line xs lines lines2
edited-at line xs i h before at no_more counted = record {
  at = i;
  inside = h;
  before = before;
  there = sound_take_more line xs i h ∙ ap (λ t. t && are_sound (begun_after line (take i xs)) (get_or xs i 0 ∷ [])) before ∙ sym at ∙ no_more;
  counted = counted;
}

pub unsound-at : {line xs : List ℕ} {lines lines2 : ℕ} → IsEdited line xs lines lines2 → false ≡ are_sound line xs
unsound-at {line} {xs} e = sym (unsound-front line xs (e.at + 1) e.there)

-- one byte more is counted, where it ends a line
pub counts-end : (lines lines2 : ℕ) (xs : List ℕ) (i : ℕ) {lines3 : ℕ} → i < length xs → get_or xs i 0 ≡ 10 → CountsLines lines lines2 (take i xs)
    → lines3 ≡ min (lines2 + 1) (2 ^ 64 - 1) → CountsLines lines lines3 (take (i + 1) xs)
counts-end lines lines2 xs i h ends counted e few =
    let more = ap ends_in (take_more xs i 0 h ∙ ap (λ b. take i xs ++ b ∷ []) ends) ∙ ends-append (take i xs) (10 ∷ []) in
    let before = counted (omega (arith, few, more)) in
    omega (arith, e, few, more, before)

pub counts-on : (lines lines2 : ℕ) (xs : List ℕ) (i : ℕ) → i < length xs → (get_or xs i 0 == 10) ≡ false → CountsLines lines lines2 (take i xs)
    → CountsLines lines lines2 (take (i + 1) xs)
counts-on lines lines2 xs i h ends counted few =
    let more = ap ends_in (take_more xs i 0 h) ∙ ends-append (take i xs) (get_or xs i 0 ∷ []) in
    let none = ap (λ t. length (if t then get_or xs i 0 ∷ [] else [])) ends in
    let before = counted (omega (arith, few, more, none)) in
    omega (arith, few, more, none, before)

-- all that a reader gave is sound
pub sound-end : (old mid new : Option (List ℕ)) (bytes : List ℕ) {more : List ℕ} → Consumes old mid bytes → are_sound [] bytes ≡ true → Consumes mid new more
    → more ≡ [] → IsAtEnd new → IfSome old (λ text. HasSoundLines [] text)
sound-end None mid new bytes f s g none end = tt
sound-end (Some x) None new bytes f s g none end = absurd f
sound-end (Some x) (Some y) None bytes f s g none end = absurd g
sound-end (Some x) (Some y) (Some z) bytes f s g none end =
    let rest : y ≡ [] = g ∙ ap (λ t. t ++ z) none ∙ end in
    let all : x ≡ bytes = f ∙ ap (λ t. bytes ++ t) rest ∙ append-nil bytes in
    are-sound [] x (ap (are_sound []) all ∙ s)

-- what a reader gave first is sound, and then a line isn't
edited-later : (bytes more rest : List ℕ) {lines lines2 : ℕ} → are_sound [] bytes ≡ true → CountsLines 0 lines bytes
    → IsEdited (begun_after [] bytes) more lines lines2 → IsEdited [] (bytes ++ (more ++ rest)) 0 lines2
edited-later bytes more rest {lines} {lines2} s counted e =
    let inside = e.inside in
    let size = length-append bytes (more ++ rest) in
    let size2 = length-append more rest in
    let after : length bytes + e.at + 1 ≡ length bytes + (e.at + 1) = omega arith in
    let front = take-append-add bytes (more ++ rest) e.at ∙ ap (λ t. bytes ++ t) (take-append-le e.at more rest (omega (arith, inside))) in
    let next = ap (λ n. take n (bytes ++ (more ++ rest))) after ∙ take-append-add bytes (more ++ rest) (e.at + 1)
    ∙ ap (λ t. bytes ++ t) (take-append-le (e.at + 1) more rest (omega (arith, inside))) in
    record {
      at = length bytes + e.at;
      inside = omega (arith, size, size2, inside);
      before = ap (are_sound []) front ∙ sound_more [] bytes (take e.at more) s e.before;
      there = ap (are_sound []) next ∙ are-sound-append [] bytes (take (e.at + 1) more)
          ∙ ap (λ t. t && are_sound (begun_after [] bytes) (take (e.at + 1) more)) s ∙ e.there;
      counted = subst (CountsLines 0 lines2) (sym front) (counts-both 0 lines lines2 bytes (take e.at more) counted e.counted);
    }

pub edited-read : (old mid new : Option (List ℕ)) (bytes more : List ℕ) {lines lines2 number : ℕ} → Consumes old mid bytes → are_sound [] bytes ≡ true
    → CountsLines 0 lines bytes → Consumes mid new more → IsEdited (begun_after [] bytes) more lines lines2 → number ≡ min (lines2 + 1) (2 ^ 64 - 1)
    → IfSome old (λ text. IsEditedAt text number)
edited-read None mid new bytes more f s counted g e told = tt
edited-read (Some x) None new bytes more f s counted g e told = absurd f
edited-read (Some x) (Some y) None bytes more f s counted g e told = absurd g
edited-read (Some x) (Some y) (Some z) bytes more {lines} {lines2} f s counted g e told =
    (lines2, subst (λ t. IsEdited [] t 0 lines2) (sym (f ∙ ap (λ t. bytes ++ t) g)) (edited-later bytes more z s counted e), told)

-- what is read of such a text is its whole lines
pub sound-kept : (line t : List ℕ) → HasSoundLines line t → kept_after false line t ≡ whole_after line t
sound-kept line [] h = refl
sound-kept line (b ∷ t) h =
    elim (eqb b 10) as (λ v. MatchBool v (IsTrue (is_sound line) × HasSoundLines [] t) (HasSoundLines (line ++ b ∷ []) t)
    → cond v (kept_record line ++ kept_after false [] t) (kept_after false (line ++ b ∷ []) t)
    ≡ cond v ((line ++ 10 ∷ []) ++ whole_after [] t) (whole_after (line ++ b ∷ []) t)) [
      | true ↦ λ s. ap (λ k. k ++ kept_after false [] t) (sound s.0) ∙ ap (λ k. (line ++ 10 ∷ []) ++ k) (sound-kept [] t s.1)
      | false ↦ λ s. sound-kept (line ++ b ∷ []) t s
    ] h
  where
    sound : IsTrue (is_sound line) → kept_record line ≡ line ++ 10 ∷ []
    sound e = rw e refl

-- a text is its whole lines, and a line that is begun
pub whole-rest : (line t : List ℕ) → whole_after line t ++ begun_after line t ≡ line ++ t
whole-rest line [] = sym (append-nil line)
whole-rest line (b ∷ t) =
    elim (eqb b 10) as (λ v. eqb b 10 ≡ v → cond v ((line ++ 10 ∷ []) ++ whole_after [] t) (whole_after (line ++ b ∷ []) t)
    ++ cond v (begun_after [] t) (begun_after (line ++ b ∷ []) t) ≡ line ++ b ∷ t) [
      | true ↦ λ e.
          append_assoc (line ++ 10 ∷ []) (whole_after [] t) (begun_after [] t) ∙ ap (λ k. (line ++ 10 ∷ []) ++ k) (whole-rest [] t)
          ∙ append_assoc line (10 ∷ []) t ∙ ap (λ c. line ++ c ∷ t) (sym (eqb-true b 10 e))
      | false ↦ λ e. whole-rest (line ++ b ∷ []) t ∙ append_assoc line (b ∷ []) t
    ] refl

pub no-end-more : (line : List ℕ) (b : ℕ) → HasNoEnd line → eqb b 10 ≡ false → HasNoEnd (line ++ b ∷ [])
no-end-more [] b h e = (e, tt)
no-end-more (c ∷ line) b h e = (h.0, no-end-more line b h.1 e)

pub begun-line : (start line : List ℕ) → HasNoEnd line → begun_after start (line ++ 10 ∷ []) ≡ []
begun-line start [] h = refl
begun-line start (b ∷ line) h = rw h.0 (begun-line (start ++ b ∷ []) line h.1)

pub sound-line : (start line rest : List ℕ) → HasNoEnd line → IsTrue (is_sound (start ++ line)) → HasSoundLines [] rest → HasSoundLines start (line ++ 10 ∷ rest)
sound-line start [] rest h s r = (subst (λ l. IsTrue (is_sound l)) (append-nil start) s, r)
sound-line start (b ∷ line) rest h s r =
    rw h.0 (sound-line (start ++ b ∷ []) line rest h.1 (subst (λ l. IsTrue (is_sound l)) (sym (append_assoc start (b ∷ []) line)) s) r)

pub begun-no-end : (line text : List ℕ) → HasNoEnd line → HasNoEnd (begun_after line text)
begun-no-end line [] h = h
begun-no-end line (b ∷ text) h =
    elim (eqb b 10) as (λ v. eqb b 10 ≡ v → HasNoEnd (cond v (begun_after [] text) (begun_after (line ++ b ∷ []) text))) [
      | true ↦ λ e. begun-no-end [] text tt
      | false ↦ λ e. begun-no-end (line ++ b ∷ []) text (no-end-more line b h e)
    ] refl

kept-record-sound : (line rest : List ℕ) → HasNoEnd line → HasSoundLines [] rest → HasSoundLines [] (kept_record line ++ rest)
kept-record-sound line rest h r =
    elim (is_sound line) as (λ v. is_sound line ≡ v → HasSoundLines [] (cond v (line ++ 10 ∷ []) broken ++ rest)) [
      | true ↦ λ e. subst (HasSoundLines []) (sym (append_assoc line (10 ∷ []) rest)) (sound-line [] line rest h e r)
      | false ↦ λ e. (refl, r)
    ] refl

kept-line-sound : (asks : Bool) (line rest : List ℕ) → HasNoEnd line → HasSoundLines [] rest → HasSoundLines [] (kept_line asks line ++ rest)
kept-line-sound asks line rest h r =
    elim (asks && is_question line) as (λ v. HasSoundLines [] (cond v [] (kept_record line) ++ rest)) [
      | true ↦ r
      | false ↦ kept-record-sound line rest h r
    ]

pub kept-sound-after : (asks : Bool) (line bytes : List ℕ) → HasNoEnd line → HasSoundLines [] (kept_after asks line bytes)
kept-sound-after asks line [] h = tt
kept-sound-after asks line (b ∷ rest) h =
    elim (eqb b 10) as (λ v. eqb b 10 ≡ v → HasSoundLines [] (cond v (kept_line asks line ++ kept_after asks [] rest) (kept_after asks (line ++ b ∷ []) rest))) [
      | true ↦ λ e. kept-line-sound asks line (kept_after asks [] rest) h (kept-sound-after asks [] rest tt)
      | false ↦ λ e. kept-sound-after asks (line ++ b ∷ []) rest (no-end-more line b h e)
    ] refl

-- what is kept is kept as it is
pub kept-sound : (bytes : List ℕ) → HasSoundLines [] (kept_of_input bytes)
kept-sound bytes = kept-sound-after true [] bytes tt

-- no line is begun after what is kept
kept-record-begun : (line : List ℕ) → HasNoEnd line → begun_after [] (kept_record line) ≡ []
kept-record-begun line h =
    elim (is_sound line) as (λ v. begun_after [] (cond v (line ++ 10 ∷ []) broken) ≡ []) [
      | true ↦ begun-line [] line h
      | false ↦ refl
    ]

kept-line-begun : (asks : Bool) (line : List ℕ) → HasNoEnd line → begun_after [] (kept_line asks line) ≡ []
kept-line-begun asks line h =
    elim (asks && is_question line) as (λ v. begun_after [] (cond v [] (kept_record line)) ≡ []) [
      | true ↦ refl
      | false ↦ kept-record-begun line h
    ]

pub kept-begun-after : (asks : Bool) (line bytes : List ℕ) → HasNoEnd line → begun_after [] (kept_after asks line bytes) ≡ []
kept-begun-after asks line [] h = refl
kept-begun-after asks line (b ∷ rest) h =
    elim (eqb b 10) as (λ v. eqb b 10 ≡ v → begun_after [] (cond v (kept_line asks line ++ kept_after asks [] rest) (kept_after asks (line ++ b ∷ []) rest)) ≡
    []) [
      | true ↦ λ e. begun-append [] (kept_line asks line) (kept_after asks [] rest) ∙ ap (λ s. begun_after s (kept_after asks [] rest))
          (kept-line-begun asks line h)
          ∙ kept-begun-after asks [] rest tt
      | false ↦ λ e. kept-begun-after asks (line ++ b ∷ []) rest (no-end-more line b h e)
    ] refl

pub kept-ends : (bytes : List ℕ) → begun_after [] (kept_of_input bytes) ≡ []
kept-ends bytes = kept-begun-after true [] bytes tt

-- ---- whole lines

pub whole-append-after : (line xs ys : List ℕ) → whole_after line (xs ++ ys) ≡ whole_after line xs ++ whole_after (begun_after line xs) ys
whole-append-after line [] ys = refl
whole-append-after line (b ∷ xs) ys =
    elim (eqb b 10) as (λ t. cond t ((line ++ 10 ∷ []) ++ whole_after [] (xs ++ ys)) (whole_after (line ++ b ∷ []) (xs ++ ys))
    ≡ cond t ((line ++ 10 ∷ []) ++ whole_after [] xs) (whole_after (line ++ b ∷ []) xs)
    ++ whole_after (cond t (begun_after [] xs) (begun_after (line ++ b ∷ []) xs)) ys) [
      | true ↦ ap (λ r. (line ++ 10 ∷ []) ++ r) (whole-append-after [] xs ys)
          ∙ sym (append_assoc (line ++ 10 ∷ []) (whole_after [] xs) (whole_after (begun_after [] xs) ys))
      | false ↦ whole-append-after (line ++ b ∷ []) xs ys
    ]

back-ends : (t : List ℕ) → begun_after [] (read_back t) ≡ []
back-ends t = kept-begun-after false [] t tt

-- what is read of whole lines is what they are
pub read-whole : (t : List ℕ) → HasSoundLines [] t → read_back (whole_lines t) ≡ whole_lines t
read-whole t h =
    let whole : whole_lines t ≡ read_back t = sym (sound-kept [] t h) in
    ap read_back whole ∙ sound-kept [] (read_back t) (kept-sound-after false [] t tt) ∙ sym (append-nil (whole_lines (read_back t)))
    ∙ ap (λ r. whole_lines (read_back t) ++ r) (sym (back-ends t)) ∙ whole-rest [] (read_back t) ∙ sym whole

-- whole lines are whole lines
pub whole-whole : (t : List ℕ) → HasSoundLines [] t → whole_lines (whole_lines t) ≡ whole_lines t
whole-whole t h =
    let whole : whole_lines t ≡ read_back t = sym (sound-kept [] t h) in
    ap whole_lines whole ∙ sym (sound-kept [] (read_back t) (kept-sound-after false [] t tt)) ∙ ap read_back (sym whole) ∙ read-whole t h

pub whole-sound : (t : List ℕ) → HasSoundLines [] t → HasSoundLines [] (whole_lines t)
whole-sound t h = subst (HasSoundLines []) (sound-kept [] t h) (kept-sound-after false [] t tt)

pub whole-ends : (t : List ℕ) → HasSoundLines [] t → begun_after [] (whole_lines t) ≡ []
whole-ends t h = ap (begun_after []) (sym (sound-kept [] t h)) ∙ back-ends t

-- ---- the records of a text that goes on after whole records

-- the records of a text, from within one
abbrev rows_of : State → List (List ℕ) → List ℕ → List ℕ → List (List (List ℕ))
rows_of s fs f [] = if ends_at_end s then (fs ++ f ∷ []) ∷ [] else []
rows_of s fs f (c ∷ rest) =
    if is_end (step default_config s c).1 then fields_after (step default_config s c).1 fs f ∷ rows_of (step default_config s c).0 [] [] rest
    else rows_of (step default_config s c).0 (fields_after (step default_config s c).1 fs f) (field_after (step default_config s c).1 c f) rest

none-left : (n : ℕ) → records_from default_config n st.StartRecord [] ≡ []
unfolding records_from next_record
none-left zero = refl
none-left (suc n) = refl

rows-are : (n : ℕ) (s : State) (fs : List (List ℕ)) (f xs : List ℕ) → length xs ≤ n
    → records_next (records_from default_config n) (next_record default_config s fs f xs) ≡ rows_of s fs f xs
unfolding records_from next_record
rows-are n s fs f [] l =
    elim (ends_at_end s) as (λ b. records_next (records_from default_config n) (if b then Some (fs ++ (f ∷ []), st.StartRecord, []) else None)
    ≡ (if b then (fs ++ f ∷ []) ∷ [] else [])) [
      | true ↦ ap (λ t. (fs ++ f ∷ []) ∷ t) (none-left n)
      | false ↦ refl
    ]
rows-are zero s fs f (c ∷ rest) l = absurd (omega (arith, l))
rows-are (suc m) s fs f (c ∷ rest) l =
    elim (is_end (step default_config s c).1) as (λ b. records_next (records_from default_config (suc m))
    (if b then Some (fields_after (step default_config s c).1 fs f, (step default_config s c).0, rest)
    else next_record default_config (step default_config s c).0 (fields_after (step default_config s c).1 fs f)
    (field_after (step default_config s c).1 c f) rest)
    ≡ (if b then fields_after (step default_config s c).1 fs f ∷ rows_of (step default_config s c).0 [] [] rest
    else rows_of (step default_config s c).0 (fields_after (step default_config s c).1 fs f) (field_after (step default_config s c).1 c f) rest)) [
      | true ↦ ap (λ t. fields_after (step default_config s c).1 fs f ∷ t) (rows-are m (step default_config s c).0 [] [] rest (omega (arith, l)))
      | false ↦ rows-are (suc m) (step default_config s c).0 (fields_after (step default_config s c).1 fs f) (field_after (step default_config s c).1 c f) rest
          (omega (arith, l))
    ]

records-are : (xs : List ℕ) → records_from default_config (length xs + 1) st.StartRecord xs ≡ rows_of st.StartRecord [] [] xs
unfolding records_from
records-are xs =
    let e : length xs + 1 ≡ suc (length xs) = omega arith in
    rw e (rows-are (length xs) st.StartRecord [] [] xs (omega arith))

-- ---- between records nothing is begun

stays-usual : (s : State) (c : ℕ) → is_usual s ≡ true → is_usual (step default_config s c).0 ≡ true
stays-usual st.StartRecord c u = grind rules
stays-usual st.StartField c u = grind rules
stays-usual st.InField c u = grind rules
stays-usual st.InQuoted c u = grind rules
stays-usual st.AfterQuote c u = grind rules
stays-usual st.AfterCr c u = grind rules
stays-usual st.InEscape c u = absurd (cc u)
stays-usual st.InComment c u = absurd (cc u)

abbrev StaysBetween : State → State × Action → Type 0
StaysBetween s p = is_end p.1 ≡ false → ends_at_end p.0 ≡ false → (ends_at_end s ≡ false) × (p.1 ≡ act.Skip)

stays-between : (s : State) (c : ℕ) → is_usual s ≡ true → StaysBetween s (step default_config s c)
stays-between st.StartRecord c u = grind rules
stays-between st.StartField c u = grind rules
stays-between st.InField c u = grind rules
stays-between st.InQuoted c u = grind rules
stays-between st.AfterQuote c u = grind rules
stays-between st.AfterCr c u = grind rules
stays-between st.InEscape c u = absurd (cc u)
stays-between st.InComment c u = absurd (cc u)

-- nothing is begun where the machine stands between records
abbrev NoneBegun : State → List (List ℕ) → List ℕ → Type 0
NoneBegun s fs f = ends_at_end s ≡ false → (fs ≡ []) × (f ≡ [])

none-begun : (s : State) (c : ℕ) (fs : List (List ℕ)) (f : List ℕ) → is_usual s ≡ true → NoneBegun s fs f → is_end (step default_config s c).1 ≡ false
    → NoneBegun (step default_config s c).0 (fields_after (step default_config s c).1 fs f) (field_after (step default_config s c).1 c f)
none-begun s c fs f u h e between =
    let stays = stays-between s c u e between in
    let none = h stays.0 in
    rw stays.1 none

rows-append : (s : State) (fs : List (List ℕ)) (f xs ys : List ℕ) → is_usual s ≡ true → NoneBegun s fs f → state_after s xs ≡ st.StartRecord
    → rows_of s fs f (xs ++ ys) ≡ rows_of s fs f xs ++ rows_of st.StartRecord [] [] ys
rows-append s fs f [] ys u h e =
    let none = h (ap ends_at_end e) in
    rw (e, none.0, none.1) refl
rows-append s fs f (c ∷ xs) ys u h e =
    elim (is_end (step default_config s c).1) as (λ b. is_end (step default_config s c).1 ≡ b →
    (if b then fields_after (step default_config s c).1 fs f ∷ rows_of (step default_config s c).0 [] [] (xs ++ ys)
    else rows_of (step default_config s c).0 (fields_after (step default_config s c).1 fs f) (field_after (step default_config s c).1 c f) (xs ++ ys))
    ≡ (if b then fields_after (step default_config s c).1 fs f ∷ rows_of (step default_config s c).0 [] [] xs
    else rows_of (step default_config s c).0 (fields_after (step default_config s c).1 fs f) (field_after (step default_config s c).1 c f) xs)
    ++ rows_of st.StartRecord [] [] ys) [
      | true ↦ λ end. ap (λ t. fields_after (step default_config s c).1 fs f ∷ t)
          (rows-append (step default_config s c).0 [] [] xs ys (stays-usual s c u) (λ b. (refl, refl)) e)
      | false ↦ λ end. rows-append (step default_config s c).0 (fields_after (step default_config s c).1 fs f)
          (field_after (step default_config s c).1 c f) xs ys (stays-usual s c u) (none-begun s c fs f u h end) e
    ] refl

-- ---- the records of a text

records-of : (bytes : List ℕ) → is_marked bytes ≡ false → input_records bytes ≡ rows_of st.StartRecord [] [] bytes
unfolding input_records
records-of bytes e = ap (λ t. records_from default_config (length t + 1) st.StartRecord t) (no_mark bytes e) ∙ records-are bytes

unmarked-append : (xs ys : List ℕ) → is_marked xs ≡ false → is_marked ys ≡ false → is_marked (xs ++ ys) ≡ false
unmarked-append [] ys e f = f
unmarked-append (x ∷ xs) ys e f = e

-- the records of a text after whole records
pub records-append : {xs : List ℕ} (ys : List ℕ) → HasWholeRecords xs → is_marked ys ≡ false → input_records (xs ++ ys) ≡ input_records xs ++ input_records ys
records-append {xs} ys w u =
    records-of (xs ++ ys) (unmarked-append xs ys w.unmarked u) ∙ rows-append st.StartRecord [] [] xs ys refl (λ b. (refl, refl)) w.closed
    ∙ ap (λ t. t ++ rows_of st.StartRecord [] [] ys) (sym (records-of xs w.unmarked)) ∙ ap (λ t. input_records xs ++ t) (sym (records-of ys u))

pub none-whole : HasWholeRecords []
none-whole = record { closed = refl; unmarked = refl }

pub none-read : input_records [] ≡ []
unfolding input_records records_from strip_bom next_record
none-read = refl

-- ---- questions among the lines of an input

pub asked-append : (asks : Bool) (kept line xs ys : List ℕ) → asked_after asks kept line (xs ++ ys) ≡ asked_after asks kept line xs ++ asked_after asks
    (kept ++ kept_after asks line xs) (begun_after line xs) ys
asked-append asks kept line [] ys = ap (λ k. asked_after asks k line ys) (sym (append-nil kept))
asked-append asks kept line (b ∷ xs) ys =
    let next = kept ++ kept_line asks line in
    elim (eqb b 10) as (λ t. cond t (asked_line asks kept line ++ asked_after asks next [] (xs ++ ys)) (asked_after asks kept (line ++ b ∷ []) (xs ++ ys))
    ≡ cond t (asked_line asks kept line ++ asked_after asks next [] xs) (asked_after asks kept (line ++ b ∷ []) xs)
    ++ asked_after asks (kept ++ cond t (kept_line asks line ++ kept_after asks [] xs) (kept_after asks (line ++ b ∷ []) xs))
    (cond t (begun_after [] xs) (begun_after (line ++ b ∷ []) xs)) ys) [
      | true ↦
          ap (λ r. asked_line asks kept line ++ r) (asked-append asks next [] xs ys)
          ∙ ap (λ k. asked_line asks kept line ++ (asked_after asks next [] xs ++ asked_after asks k (begun_after [] xs) ys))
          (append_assoc kept (kept_line asks line) (kept_after asks [] xs)) ∙ sym (append_assoc (asked_line asks kept line) (asked_after asks next [] xs)
          (asked_after asks (kept ++ (kept_line asks line ++ kept_after asks [] xs)) (begun_after [] xs) ys))
      | false ↦ asked-append asks kept (line ++ b ∷ []) xs ys
    ]

-- ---- the cutter

pub cut-none : (asks : Bool) (line : List ℕ) {begun : List ℕ} (kept question : List ℕ) → begun ≡ begun_bytes line
    → CutsLines asks line [] begun kept kept false question
cut-none asks line kept question e = record { begins = e; keeps = sym (append-nil kept); questions = λ done. refl }

-- bytes that ask nothing, and then more
pub cut-more : {asks : Bool} {line xs ys begun begun2 kept0 kept1 kept2 question question2 : List ℕ} {asked : Bool}
    → CutsLines asks line xs begun kept0 kept1 false question → CutsLines asks (begun_after line xs) ys begun2 kept1 kept2 asked question2
    → CutsLines asks line (xs ++ ys) begun2 kept0 kept2 asked question2
cut-more {asks} {line} {xs} {ys} {kept0} {question2} {asked} a b =
    let first = kept_after asks line xs in
    let second = kept_after asks (begun_after line xs) ys in
    record {
      begins = b.begins ∙ ap begun_bytes (sym (begun-append line xs ys));
      keeps = b.keeps ∙ ap (λ t. t ++ second) a.keeps ∙ append_assoc kept0 first second ∙ ap (λ t. kept0 ++ t) (sym (kept-append asks line xs ys));
      questions = λ done.
          asked-append asks done line xs ys ∙ ap (λ t. t ++ asked_after asks (done ++ first) (begun_after line xs) ys) (a.questions done)
          ∙ b.questions (done ++ first)
          ∙ ap (λ k. asked_by asked k question2) (append_assoc done first second ∙ ap (λ t. done ++ t) (sym (kept-append asks line xs ys)));
    }

pub cut-next : {asks : Bool} {line : List ℕ} (piece : List ℕ) {begun begun2 kept0 kept1 kept2 question question2 : List ℕ} {asked : Bool} (i : ℕ)
    → i < length piece → CutsLines asks line (take i piece) begun kept0 kept1 false question
    → CutsLines asks (begun_after line (take i piece)) (get_or piece i 0 ∷ []) begun2 kept1 kept2 asked question2
    → CutsLines asks line (take (i + 1) piece) begun2 kept0 kept2 asked question2
cut-next {asks} {line} piece {begun2} {kept0} {kept2} {question2} {asked} i h a b =
    subst (λ t. CutsLines asks line t begun2 kept0 kept2 asked question2) (sym (take_more piece i 0 h)) (cut-more a b)

-- a line ends
pub cut-ended : (asks : Bool) (line : List ℕ) {begun begun2 : List ℕ} (kept : List ℕ) {kept2 : List ℕ} (question : List ℕ) {asked : Bool}
    → begun ≡ begun_bytes line → begun2 ≡ [] → asked ≡ (asks && is_question begun) → (asked ≡ true → question ≡ begun) → kept2 ≡ kept ++ kept_line asks begun
    → CutsLines asks line (10 ∷ []) begun2 kept kept2 asked question
cut-ended asks line kept question {asked} h none is q k = record {
  begins = none;
  keeps = k ∙ ap (λ l. kept ++ l) (ap (kept_line asks) h ∙ kept_begun asks line ∙ sym (append-nil (kept_line asks line)));
  questions = λ done. go done (asks && is_question line) (is ∙ ap (λ l. asks && is_question l) h ∙ ap (λ t. asks && t) (question_begun line));
}
  where
    go : (done : List ℕ) (v : Bool) → asked ≡ v
        → cond v (record { kept = done; question = begun_bytes line } ∷ []) [] ++ []
        ≡ asked_by asked (done ++ (cond v [] (kept_record line) ++ [])) question
    go done true e = rw (e, q e, h, append-nil done) refl
    go done false e = rw e refl

-- or goes on
pub cut-pushed : (asks : Bool) (line : List ℕ) {begun begun2 : List ℕ} (kept question : List ℕ) (b : ℕ) → eqb b 10 ≡ false → begun ≡ begun_bytes line
    → length begun ≤ 4613 → begun2 ≡ begun ++ b ∷ [] → CutsLines asks line (b ∷ []) begun2 kept kept false question
cut-pushed asks line kept question b e h l new = record {
  begins = rw e (begun-pushed line b h l new);
  keeps = rw e (sym (append-nil kept));
  questions = λ done. rw e refl;
}

pub cut-stays : (asks : Bool) (line : List ℕ) {begun : List ℕ} (kept question : List ℕ) (b : ℕ) → eqb b 10 ≡ false → begun ≡ begun_bytes line
    → 4613 < length begun → CutsLines asks line (b ∷ []) begun kept kept false question
cut-stays asks line kept question b e h l = record {
  begins = rw e (begun-stays line b h l);
  keeps = rw e (sym (append-nil kept));
  questions = λ done. rw e refl;
}

-- ---- an input without its questions

line-kept : (start line rest : List ℕ) → HasNoEnd line → kept_after true start (line ++ 10 ∷ rest) ≡ kept_line true (start ++ line) ++ kept_after true [] rest
line-kept start [] rest h = ap (λ l. kept_line true l ++ kept_after true [] rest) (sym (append-nil start))
line-kept start (b ∷ line) rest h =
    rw h.0 (line-kept (start ++ b ∷ []) line rest h.1 ∙ ap (λ l. kept_line true l ++ kept_after true [] rest) (append_assoc start (b ∷ []) line))

nothing-kept : (start line : List ℕ) → HasNoEnd line → kept_after true start line ≡ []
nothing-kept start [] h = refl
nothing-kept start (b ∷ line) h = rw h.0 (nothing-kept (start ++ b ∷ []) line h.1)

kept-ended : (line rest : List ℕ) (v : Bool) → HasNoEnd line → is_question line ≡ v → kept_of_input (without_after [] rest) ≡ kept_after true [] rest
    → kept_of_input (cond v [] (line ++ 10 ∷ []) ++ without_after [] rest) ≡ kept_line true line ++ kept_after true [] rest
kept-ended line rest true h e rest_kept = rest_kept ∙ ap (λ t. cond t [] (kept_record line) ++ kept_after true [] rest) (sym e)
kept-ended line rest false h e rest_kept =
    ap kept_of_input (append_assoc line (10 ∷ []) (without_after [] rest)) ∙ line-kept [] line (without_after [] rest) h
    ∙ ap (λ t. kept_line true line ++ t) rest_kept

pub kept-without : (line bytes : List ℕ) → HasNoEnd line → kept_of_input (without_after line bytes) ≡ kept_after true line bytes
kept-without line [] h = nothing-kept [] line h
kept-without line (b ∷ rest) h =
    elim (eqb b 10) as (λ v. eqb b 10 ≡ v → kept_of_input
    (cond v (cond (is_question line) [] (line ++ 10 ∷ []) ++ without_after [] rest) (without_after (line ++ b ∷ []) rest))
    ≡ cond v (kept_line true line ++ kept_after true [] rest) (kept_after true (line ++ b ∷ []) rest)) [
      | true ↦ λ e. kept-ended line rest (is_question line) h refl (kept-without [] rest tt)
      | false ↦ λ e. kept-without (line ++ b ∷ []) rest (no-end-more line b h e)
    ] refl
