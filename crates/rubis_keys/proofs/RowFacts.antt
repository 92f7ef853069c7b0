-- Rows behind rows.
use Rattle.std.proofs.Common.{◌≡◌, ◌∙◌, ◌++◌, ◌∷◌, [], ℕ, List, ap, append_assoc, sym}
use Rattle.std.proofs.lemmas.Grind.{flat_map-append}
use Rattle.rubis_engine.specs.Text.{plain_writer, row_text, rows_text}

pub text_more : (xs ys : List (List (List ℕ))) → rows_text (xs ++ ys) ≡ rows_text xs ++ rows_text ys
text_more xs ys = flat_map-append (row_text plain_writer) xs ys

pub two_rows : (sink sink2 sink3 : List ℕ) (one other : List (List ℕ)) → sink2 ≡ sink ++ rows_text (one ∷ []) → sink3 ≡ sink2 ++ rows_text (other ∷ [])
    → sink3 ≡ sink ++ rows_text (one ∷ other ∷ [])
two_rows sink sink2 sink3 one other e f =
    f ∙ ap (λ s. s ++ rows_text (other ∷ [])) e ∙ append_assoc sink (rows_text (one ∷ [])) (rows_text (other ∷ []))
    ∙ ap (λ t. sink ++ t) (sym (text_more (one ∷ []) (other ∷ [])))

-- what stands before rows that are told first
pub text_grows : (before after : List ℕ) (held rows left more : List (List (List ℕ))) → before ++ rows_text (held ++ rows) ≡ after ++ rows_text left
    → before ++ rows_text (held ++ (rows ++ more)) ≡ after ++ rows_text (left ++ more)
text_grows before after held rows left more e =
    ap (λ xs. before ++ rows_text xs) (sym (append_assoc held rows more)) ∙ ap (λ t. before ++ t) (text_more (held ++ rows) more)
    ∙ sym (append_assoc before (rows_text (held ++ rows)) (rows_text more)) ∙ ap (λ t. t ++ rows_text more) e
    ∙ append_assoc after (rows_text left) (rows_text more) ∙ ap (λ t. after ++ t) (sym (text_more left more))
