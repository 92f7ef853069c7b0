-- How a row goes on.
use Rattle.std.proofs.Common.{drop, ◌<◌, ◌≤◌, ◌≡◌, ◌==◌, ◌||◌, ◌&&◌, Bool, ◌∙◌, ◌+◌, ◌-◌, ◌^◌, ◌∷◌, [], ◌++◌, ℕ, zero, suc, List, length, Vec, Global, refl}
use Rattle.std.proofs.Common.{subst, sym, ap, true, false, append_assoc, arith, length-append}
use Rattle.std.specs.Prelude.{Err, IfSome, None, Ok, OnOk, Option, Result, Some, min, not, slice_index_or}
use Rattle.std.specs.Borrow.{Bor}
use Rattle.std.specs.Cmp.Derive.{both_true}
use Rattle.std.proofs.lemmas.List.Folds.{list_all-append}
use Rattle.std.proofs.Math.Seq.{drop-cons}
use Rattle.std.proofs.lemmas.Bool.{both_ways, ne_eqb, not-true}
use Rattle.std.proofs.lemmas.List.{append-nil}
use Rattle.csv.proofs.WriteFacts.{blank-more, row-more}
use Rattle.csv.specs.Machine.{line_feed}
use Rattle.csv.specs.Writing.{field_text, fields_text, fields_written, has_written, is_blank, needs_byte, needs_quotes, next_sep, row_body, row_text}
use Rattle.csv.specs.Writing.{writer_setup}
use Rattle.csv.specs.declared.writer.Writer.{Writer}
use Rattle.std.specs.List.{list_any}
use Rattle.rubis_schema.specs.FieldList.{all_plain, comma, is_mark, is_plain, joined}
use Rattle.rubis_engine.specs.Rows.{HasBegunRow, held, plain_row, prefix_text}
use Rattle.rubis_engine.specs.Text.{plain_writer}

-- a count that stops at the greatest number
abbrev capped : ℕ → ℕ
capped n = min n (2 ^ 64 - 1)

capped-more : (n : ℕ) → capped (capped n + 1) ≡ capped (n + 1)
capped-more n = omega arith

-- no more than whether it is none or one counts
capped-none : (n : ℕ) → (capped n == 0) ≡ (n == 0)
capped-none zero = refl
capped-none (suc n) = rw (ne_eqb (capped (suc n)) 0 (λ e. absurd (omega (arith, e))), ne_eqb (suc n) 0 (λ e. cc e)) refl

-- a row at its start
pub begun-start : (w : Writer (Vec ℕ Global)) → writer_setup w ≡ plain_writer → fields_written w ≡ 0 → has_written w ≡ false → HasBegunRow (held w) w []
unfolding is_blank
begun-start w setup none wrote = record {
  setup = setup;
  text = sym (append-nil (held w));
  count = none;
  blank = rw wrote refl;
}

-- a row with one more field
pub begun-more : (start : List ℕ) (a b : Writer (Vec ℕ Global)) (done : List (List ℕ)) (field : List ℕ) → HasBegunRow start a done
    → held b ≡ held a ++ (next_sep (writer_setup a) (fields_written a) ++ field_text (writer_setup a) field)
    → writer_setup b ≡ writer_setup a
    → fields_written b ≡ min (fields_written a + 1) (2 ^ 64 - 1)
    → (has_written a ≡ false → has_written b ≡ not (length (field_text (writer_setup a) field) == 0))
    → (has_written a ≡ true → has_written b ≡ true)
    → HasBegunRow start b (done ++ field ∷ [])
begun-more start a b done field h text setup count wrote stays =
    let one : length (done ++ field ∷ []) ≡ length done + 1 = length-append done (field ∷ []) in
    let sep : next_sep plain_writer (capped (length done)) ≡ next_sep plain_writer (length done) = rw (capped-none (length done)) refl in
    let more = rw (h.setup, h.count, sep, h.text) at text in
    record {
      setup = setup ∙ h.setup;
      text = more ∙ append_assoc start (row_body plain_writer done) _ ∙ ap (λ t. start ++ t) (sym (row-more plain_writer done field));
      count = count ∙ ap (λ n. min (n + 1) (2 ^ 64 - 1)) h.count ∙ capped-more (length done) ∙ ap capped (sym one);
      blank = rw one (blank-more plain_writer done field (has_written a) (has_written b) h.blank (rw h.setup at wrote) stays);
    }

-- both hold where both together do
both : (a b : Bool) → (a && b) ≡ true → (a ≡ true) × (b ≡ true)
both true b e = (refl, e)
both false b e = absurd (both_ways false refl e)

-- the bytes that call for quotes are the marks
same-marks : (a b c d : Bool) → (a || b || (c || d) || false || false) ≡ (a || b || c || d)
same-marks true b c d = refl
same-marks false true c d = refl
same-marks false false true d = refl
same-marks false false false true = refl
same-marks false false false false = refl

mark-needs : (b : ℕ) → needs_byte plain_writer b ≡ is_mark b
mark-needs b = same-marks (b == comma) (b == 34) (b == 13) (b == 10)

needs-none : (field : List ℕ) → needs_quotes plain_writer field ≡ list_any is_mark field
needs-none [] = refl
needs-none (b ∷ rest) = λ i. mark-needs b i || needs-none rest i

-- a plain field stands as it is
field-plain : (field : List ℕ) → is_plain field ≡ true → field_text plain_writer field ≡ field
field-plain field plain =
    let none : list_any is_mark field ≡ false = not-true (list_any is_mark field) plain in
    rw (needs-none field, none) refl

-- plain fields, each with a comma before it
fields-plain : (fields : List (List ℕ)) → all_plain fields ≡ true → fields_text plain_writer fields ≡ joined fields
unfolding fields_text
fields-plain [] all = refl
fields-plain (f ∷ rest) all =
    let first : is_plain f ≡ true = (both _ _ all).0 in
    let others : all_plain rest ≡ true = (both _ _ all).1 in
    λ i. comma ∷ (field-plain f first i ++ fields-plain rest others i)

-- a row of plain fields, of which there is more than one
pub row-plain : (fields : List (List ℕ)) → all_plain fields ≡ true → 2 ≤ length fields → row_text plain_writer fields ≡ drop 1 (joined fields) ++ line_feed ∷ []
unfolding is_blank
row-plain [] all some = absurd (omega (arith, some))
row-plain (f ∷ []) all some = absurd (omega (arith, some))
row-plain (f ∷ g ∷ rest) all some =
    let first : is_plain f ≡ true = (both _ _ all).0 in
    let others : all_plain (g ∷ rest) ≡ true = (both _ _ all).1 in
    λ i. (field-plain f first i ++ fields-plain (g ∷ rest) others i) ++ line_feed ∷ []

-- a comma stands before the first of some fields
comma-first : (fields : List (List ℕ)) → 0 < length fields → joined fields ≡ comma ∷ drop 1 (joined fields)
comma-first [] some = absurd (omega (arith, some))
comma-first (f ∷ rest) some = refl

-- fields with a comma after each, and then others
pub prefix-joined : (first fields : List (List ℕ)) → 0 < length fields → drop 1 (joined (first ++ fields)) ≡ prefix_text first ++ drop 1 (joined fields)
prefix-joined [] fields some = refl
prefix-joined (f ∷ rest) fields some =
    let more : 0 < length (rest ++ fields) = omega (arith, length-append rest fields, some) in
    let behind = comma-first (rest ++ fields) more ∙ ap (λ t. comma ∷ t) (prefix-joined rest fields some) in
    ap (λ t. f ++ t) behind ∙ sym (append_assoc f (comma ∷ []) (prefix_text rest ++ drop 1 (joined fields)))
    ∙ sym (append_assoc (f ++ comma ∷ []) (prefix_text rest) (drop 1 (joined fields)))

-- a text of plain fields, found after plain ones, makes a plain row with them
abbrev pub MakesRow : List (List ℕ) → List (List ℕ) → List ℕ → Type 0
MakesRow first fields text = (row_text plain_writer (first ++ fields) ≡ plain_row first text) × (0 < length text)

joined-makes : (first fields : List (List ℕ)) → all_plain first ≡ true → all_plain fields ≡ true → 2 ≤ length fields → MakesRow first fields (joined fields)
joined-makes first fields plain all some =
    let both-plain : all_plain (first ++ fields) ≡ true = list_all-append is_plain first fields ∙ both_true plain all in
    let row = row-plain (first ++ fields) both-plain (omega (arith, some, length-append first fields)) in
    let begins = prefix-joined first fields (omega (arith, some)) in
    let size = ap length (comma-first fields (omega (arith, some))) in
    (row ∙ ap (λ t. t ++ line_feed ∷ []) begins ∙ append_assoc (prefix_text first) (drop 1 (joined fields)) (line_feed ∷ []), omega (arith, size))

pub text-makes : (first fields : List (List ℕ)) (text : List ℕ) → text ≡ joined fields → all_plain first ≡ true → all_plain fields ≡ true → 2 ≤ length fields
    → MakesRow first fields text
text-makes first fields text is plain all some = subst (MakesRow first fields) (sym is) (joined-makes first fields plain all some)

pub found-makes : (first fields : List (List ℕ)) (found : Option (Bor (List ℕ))) → IfSome found (λ text. text.now ≡ joined fields)
    → IfSome found (λ text. all_plain fields ≡ true) → all_plain first ≡ true → 2 ≤ length fields → IfSome found (λ text. MakesRow first fields text.now)
found-makes first fields (Some text) is all plain some = text-makes first fields text.now is plain all some
found-makes first fields None is all plain some = tt

-- what holds of what was found
pub if-found : {X : Type 0} (found : Option (Bor X)) (P Q : X → Type 0) → ((x : X) → P x → Q x) → IfSome found (λ b. P b.now) → IfSome found (λ b. Q b.now)
if-found (Some b) P Q f h = f b.now h
if-found None P Q f h = tt

-- what follows from four facts of a call that went well
pub on_ok_four : {T E : Type 0} {P Q S U V : Type 0} (r : Result T E) → (P → Q → S → U → V) → OnOk r P → OnOk r Q → OnOk r S → OnOk r U → OnOk r V
on_ok_four (Ok v) f p q s u = f p q s u
on_ok_four (Err e) f p q s u = tt

-- what follows from a call that went well
pub on_ok : {T E : Type 0} {P Q : Type 0} (r : Result T E) → (P → Q) → OnOk r P → OnOk r Q
on_ok (Ok v) f p = f p
on_ok (Err e) f p = tt

-- the row at a place, and those after it
pub row_first : (at : ℕ) (rows : List (List (List ℕ))) (row : List (List ℕ)) → at < length rows → slice_index_or rows at row ≡ row
    → drop at rows ≡ (row ∷ []) ++ drop (at + 1) rows
row_first at rows row l is =
    let next : suc at ≡ at + 1 = omega arith in
    drop-cons rows at row l ∙ (λ i. is i ∷ drop (next i) rows)
