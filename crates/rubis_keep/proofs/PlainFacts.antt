-- A line that is written as a row is, without quotes, is read back.
use Rattle.std.proofs.Common.{◌≡◌, ◌≢◌, ◌≤◌, ◌∙◌, ◌++◌, ◌∷◌, [], ℕ, List, ap, arith, drop, false, inl, inr, length, refl, subst, sym, true}
use Rattle.std.proofs.lemmas.List.{append-nil}
use Rattle.csv.specs.Writing.{row_text}
use Rattle.rubis_schema.specs.FieldList.{all_plain, joined}
use Rattle.rubis_schema.specs.Tables.{Has}
use Rattle.rubis_engine.proofs.ReadBack.{no_mark, rows_back}
use Rattle.rubis_engine.proofs.RowFacts.{row-plain}
use Rattle.rubis_engine.specs.Text.{input_records, plain_writer, rows_text}
use Rattle.rubis_keep.specs.Lines.{is_marked}

-- the text of plain fields is that of their row, but for its first byte and its end
pub row-of : (fields : List (List ℕ)) {text line : List ℕ} → text ≡ joined fields → all_plain fields ≡ true → 2 ≤ length fields → drop 1 text ≡ line
    → row_text plain_writer fields ≡ line ++ 10 ∷ []
row-of fields is plain some same = row-plain fields plain some ∙ ap (λ t. t ++ 10 ∷ []) (ap (drop 1) (sym is) ∙ same)

only-row : (fields row : List (List ℕ)) → 2 ≤ length fields → Has row (fields ∷ []) → row ≢ []
only-row fields row some (inl same) none = absurd (few fields (sym same ∙ none) some)
  where
    few : (fields : List (List ℕ)) → fields ≡ [] → 2 ≤ length fields → ⊥
    few [] e some = omega (arith, some)
    few (f ∷ rest) e some = cc e
only-row fields row some (inr none) empty = absurd none

mark-first : (line : List ℕ) → is_marked line ≡ false → is_marked (line ++ 10 ∷ []) ≡ false
mark-first [] e = refl
mark-first (b ∷ rest) e = e

pub row-back : (fields : List (List ℕ)) (line : List ℕ) → is_marked line ≡ false → row_text plain_writer fields ≡ line ++ 10 ∷ [] → 2 ≤ length fields
    → input_records (line ++ 10 ∷ []) ≡ fields ∷ []
row-back fields line unmarked written some =
    let text : rows_text (fields ∷ []) ≡ line ++ 10 ∷ [] = append-nil (row_text plain_writer fields) ∙ written in
    ap input_records (sym text) ∙ rows_back (fields ∷ []) (λ row has. only-row fields row some has)
    (no_mark (rows_text (fields ∷ [])) (subst (λ t. is_marked t ≡ false) (sym text) (mark-first line unmarked)))
