-- Where a text has its first line and its last one, and what is told of two texts that differ.
use Rattle.std.proofs.Common.{◌≡◌, ◌≢◌, ◌∙◌, ◌≤◌, ◌<◌, ◌+◌, ◌^◌, ◌-◌, ◌++◌, ◌∷◌, ◌==◌, [], ℕ, All, List, Option, Some, None, IfSome, drop, get_or, length, min}
use Rattle.std.proofs.Common.{not, take, refl, sym, ap, subst, take-append-drop, arith, length-append, Result, Ok, Err, true, false, zero, suc, cond}
use Rattle.std.specs.List.{after_last, before_first, suffix_len}
use Rattle.std.proofs.Math.Seq.{drop-append-add, take-append-add, take-length}
use lib.Seq.{take-nil}
use Rattle.std.specs.Prelude.{IfErr, string_bytes}
use Rattle.std.proofs.lemmas.Bool.{cond-true, eq-eqb, ne_eqb}
use Rattle.std.proofs.lemmas.Bool.Decides.{Decides-eqb}
use Rattle.std.proofs.lemmas.List.{get_or_append_left, length-drop, length-take-le, take-append-le}
use Rattle.std.proofs.lemmas.List.Elements.{All-get_or}
use Rattle.std.proofs.lemmas.List.Sums.{common_prefix_len-le, position_or_len_is, suffix_len_is}
use Rattle.rubis_keep.specs.Faults.{HasDifference, HasMore, IsDifference, MayDiffer, TellsLine, ends_in, last_line, same_in, shown_line, DiffersFrom, IsFailure}
use Rattle.rubis_keep.specs.Outlets.{ends-append, none-left}
use Rattle.rubis_keep.specs.History.{IsFrontOf}
use Rattle.rubis_keep.specs.declared.fault.Difference.{Difference}
use Rattle.rubis_keep.specs.declared.fault.KeepFault.{KeepFault}
use Rattle.rubis_keep.specs.declared.fault.KeepFault.TheVariants as fault

pub first-line-at : (text : List ℕ) (i : ℕ) → i < length text → get_or text i 0 ≡ 10 → ((k : ℕ) → k < i → get_or text k 0 ≢ 10)
    → take i text ≡ before_first (λ b. b == 10) text
first-line-at text i inside here before =
    ap (λ n. take n text) (sym (position_or_len_is (λ b. b == 10) text i 0 (omega (arith, inside)) (λ k l. ne_eqb _ _ (before k l)) (λ l. eq-eqb _ _ here)))

pub first-line-all : (text : List ℕ) → All (λ b. b ≢ 10) text → text ≡ before_first (λ b. b == 10) text
first-line-all text none =
    sym (ap (λ n. take n text)
    (position_or_len_is (λ b. b == 10) text (length text) 0 (omega arith) (λ k l. ne_eqb _ _ (All-get_or (λ b. b ≢ 10) text k 0 l none))
    (λ l. absurd (omega (arith, l)))) ∙ take-length text)

pub last-line-at : (text : List ℕ) (i : ℕ) → i < length text → get_or text i 0 ≡ 10 → ((k : ℕ) → i + 1 ≤ k → k < length text → get_or text k 0 ≢ 10)
    → drop (i + 1) text ≡ after_last (λ b. b == 10) text
last-line-at text i inside here after =
    let at : i + 1 - 1 ≡ i = omega arith in
    let size = suffix_len_is (λ b. not (b == 10)) text (i + 1) 0 (omega (arith, inside)) (λ k l m. ap not (ne_eqb _ _ (after k l m)))
    (λ l. ap not (eq-eqb _ _ (ap (λ n. get_or text n 0) at ∙ here))) in
    ap (λ n. drop n text) (omega (arith, inside, size))

pub last-line-all : (text : List ℕ) → All (λ b. b ≢ 10) text → text ≡ after_last (λ b. b == 10) text
last-line-all text none =
    let size = suffix_len_is (λ b. not (b == 10)) text 0 0 (omega arith) (λ k l m. ap not (ne_eqb _ _ (All-get_or (λ b. b ≢ 10) text k 0 m none)))
    (λ l. absurd (omega (arith, l))) in
    let whole : 0 ≡ length text - suffix_len (λ b. not (b == 10)) text = omega (arith, size) in
    ap (λ n. drop n text) whole

pub same-after : (front found more : List ℕ) → same_in (front ++ found) (front ++ more) ≡ length front + same_in found more
same-after [] found more = omega arith
same-after (x ∷ xs) found more =
    let later = same-after xs found more in
    cond-true _ _ _ (eq-eqb x x refl) ∙ omega (arith, later)

pub same-none : (n : ℕ) (found text : List ℕ) → min (length found) (length text) ≤ n → same_in (drop n found) (drop n text) ≡ 0
same-none n found text l =
    let within = common_prefix_len-le (λ x y. x == y) (drop n found) (drop n text) in
    let left = length-drop n found in
    let right = length-drop n text in
    omega (arith, l, within.0, within.1, left, right)

-- where the texts have `at` bytes in common, and then `same` more
pub is-difference : (at same : ℕ) (text found : List ℕ) (lines : ℕ) (d : Difference) → at ≤ length text → same ≡ same_in found (drop at text)
    → (let number = lines + ends_in (take (at + same) text) + 1 in number < 2 ^ 64 → d.line ≡ number)
    → string_bytes d.found ≡ shown_line (last_line (take (at + same) text)) (drop same found)
    → string_bytes d.answered ≡ shown_line (last_line (take (at + same) text)) (drop (at + same) text) → IsDifference (take at text ++ found) text lines d
is-difference at same text found lines d l e line shown answered =
    let size = length-take-le at text l in
    let here : same_in (take at text ++ found) text ≡ at + same =
    ap (same_in (take at text ++ found)) (sym (take-append-drop at text)) ∙ same-after (take at text) found (drop at text)
    ∙ ap (λ n. n + same_in found (drop at text)) size ∙ ap (λ n. at + n) (sym e) in
    let rest : drop (at + same) (take at text ++ found) ≡ drop same found =
    ap (λ n. drop (n + same) (take at text ++ found)) (sym size) ∙ drop-append-add (take at text) found same in
    record {
      line = subst (λ n. let number = lines + ends_in (take n text) + 1 in number < 2 ^ 64 → d.line ≡ number) (sym here) line;
      found = subst (λ n. string_bytes d.found ≡ shown_line (last_line (take n text)) (drop n (take at text ++ found))) (sym here)
          (shown ∙ ap (shown_line (last_line (take (at + same) text))) (sym rest));
      answered = subst (λ n. string_bytes d.answered ≡ shown_line (last_line (take n text)) (drop n text)) (sym here) answered;
    }

pub shown-of : {begun begun2 more more2 : List ℕ} → begun ≡ begun2 → more ≡ more2 → shown_line begun more ≡ shown_line begun2 more2
shown-of {begun} {begun2} {more} {more2} e f = ap (λ t. shown_line t more) e ∙ ap (shown_line begun2) f

pub has-difference : (o : Option (List ℕ)) {came text : List ℕ} {lines : ℕ} {d : Difference} → IfSome o (λ old. IsFrontOf came old) → DiffersFrom came text
    → IsDifference came text lines d → IfSome o (λ old. HasDifference old text lines d)
has-difference None f g h = tt
has-difference (Some old) {came} f g h = record { came = came; front = f; differs = g; tells = h }

pub more-left : {old : List ℕ} {lines : ℕ} {d : Difference} → HasMore old lines d → old ≢ []
more-left more none = more.some (none-left more.came more.front.0 (more.front.1 ∙ none))

-- what a text and some first bytes differ in, it and all bytes do
differs-all : (came old text : List ℕ) → IsFrontOf came old → DiffersFrom came text → DiffersFrom old text
differs-all came old text (rest, e) (k, inside, there, differ) =
    let size = length-append came rest in
    let whole = ap length e in
    (k, inside, omega (arith, there, size, whole), λ same. differ (sym (get_or_append_left came rest 0 k there) ∙ ap (λ t. get_or t k 0) e ∙ same))

pub differs-there : (o : Option (List ℕ)) (text : List ℕ) (lines : ℕ) (d : Difference) → IfSome o (λ old. HasDifference old text lines d)
    → IfSome o (λ old. DiffersFrom old text)
differs-there None text lines d h = tt
differs-there (Some old) text lines d h = differs-all h.came old text h.front h.differs

-- ---- faults

may-fail : (e : KeepFault) (P : Difference → Type 0) → IsFailure e → MayDiffer e P
may-fail (fault.Differs d) P h = absurd h
may-fail e P h = h

pub only-fails : {T : Type 0} (r : Result T KeepFault) (P : Difference → Type 0) → IfErr r IsFailure → IfErr r (λ e. MayDiffer e P)
only-fails (Ok x) P h = tt
only-fails (Err e) P h = may-fail e P h

pub may-differ-more : (e : KeepFault) (P Q : Difference → Type 0) → ((d : Difference) → P d → Q d) → MayDiffer e P → MayDiffer e Q
may-differ-more (fault.Differs d) P Q f p = f d p
may-differ-more e P Q f p = p

-- ---- the first line in which they differ

-- texts that differ are as much alike as any that they begin
same-longer : (xs ys more later : List ℕ) → DiffersFrom xs ys → same_in (xs ++ more) (ys ++ later) ≡ same_in xs ys
same-longer [] ys more later d = absurd (omega (arith, d.2))
same-longer (x ∷ xs) [] more later d = absurd (omega (arith, d.1))
same-longer (x ∷ xs) (y ∷ ys) more later d =
    elim (x == y) as (λ t. (x == y) ≡ t → cond t (1 + same_in (xs ++ more) (ys ++ later)) 0 ≡ cond t (1 + same_in xs ys) 0) [
      | true ↦ λ same. ap (λ n. 1 + n) (same-longer xs ys more later (behind d ((Decides-eqb x y).0 same)))
      | false ↦ λ differ. refl
    ] refl
  where
    behind : DiffersFrom (x ∷ xs) (y ∷ ys) → x ≡ y → DiffersFrom xs ys
    behind (zero, inside, there, differ) same = absurd (differ same)
    behind (suc k, inside, there, differ) same = (k, omega (arith, inside), omega (arith, there), differ)

line-longer : (came text : List ℕ) (more later : List ℕ) (lines : ℕ) (d : Difference) → DiffersFrom came text → TellsLine came text lines d
    → TellsLine (came ++ more) (text ++ later) lines d
line-longer came text more later lines d differs told =
    subst (λ t. let number = lines + ends_in t + 1 in number < 2 ^ 64 → d.line ≡ number)
    (sym (ap (λ n. take n (text ++ later)) (same-longer came text more later differs)
    ∙ take-append-le (same_in came text) text later (common_prefix_len-le (λ x y. x == y) came text).1)) told

pub line-there : (old text rest : List ℕ) (lines : ℕ) (d : Difference) → HasDifference old text lines d → TellsLine old (text ++ rest) lines d
line-there old text rest lines d h =
    subst (λ o. TellsLine o (text ++ rest) lines d) h.front.1 (line-longer h.came text h.front.0 rest lines d h.differs h.tells.line)

-- nothing was to come, whatever stands there
pub line-end : (came left : List ℕ) (lines : ℕ) (d : Difference) → TellsLine came [] lines d → TellsLine left [] lines d
line-end came left lines d told = subst (λ t. let number = lines + ends_in t + 1 in number < 2 ^ 64 → d.line ≡ number)
    (take-nil (same_in came []) ∙ sym (take-nil (same_in left []))) told

-- it is the same where what comes before both is counted
pub line-later : (text left rest : List ℕ) (lines lines2 : ℕ) (d : Difference) → (lines + ends_in text < 2 ^ 64 → lines2 ≡ lines + ends_in text)
    → TellsLine left rest lines2 d → TellsLine (text ++ left) (text ++ rest) lines d
line-later text left rest lines lines2 d counts told few =
    let ends = ap (λ n. ends_in (take n (text ++ rest))) (same-after text left rest) ∙ ap ends_in (take-append-add text rest (same_in left rest))
    ∙ ends-append text (take (same_in left rest) rest) in
    let first = counts (omega (arith, few, ends)) in
    let last = told (omega (arith, few, ends, first)) in
    omega (arith, last, first, ends)
