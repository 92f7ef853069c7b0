-- How the text of rows goes on, for the proofs of services.
use Rattle.std.proofs.Common.{◌≡◌, ◌∙◌, ◌++◌, ℕ, List, ap, append_assoc, sym}
use Rattle.std.proofs.lemmas.Grind.{flat_map-append}
use Rattle.rubis_engine.specs.Text.{plain_writer, row_text, rows_text}

-- rows, and then others
pub text-two : (rows more : List (List (List ℕ))) → rows_text (rows ++ more) ≡ rows_text rows ++ rows_text more
text-two rows more = flat_map-append (row_text plain_writer) rows more

-- rows were written, and then others
pub text-more : (sink sink2 sink3 : List ℕ) (rows more : List (List (List ℕ))) → sink2 ≡ sink ++ rows_text rows → sink3 ≡ sink2 ++ rows_text more
    → sink3 ≡ sink ++ rows_text (rows ++ more)
text-more sink sink2 sink3 rows more first then =
    then ∙ ap (λ t. t ++ rows_text more) first ∙ append_assoc sink (rows_text rows) (rows_text more) ∙ ap (λ t. sink ++ t) (sym (text-two rows more))

-- once the rows of a record are written, what is left is the text of the rows after them
pub text-goes : (sink sink2 : List ℕ) (rows rest : List (List (List ℕ))) → sink2 ≡ sink ++ rows_text rows
    → sink ++ rows_text (rows ++ rest) ≡ sink2 ++ rows_text rest
text-goes sink sink2 rows rest told =
    ap (λ t. sink ++ t) (text-two rows rest) ∙ sym (append_assoc sink (rows_text rows) (rows_text rest)) ∙ ap (λ t. t ++ rows_text rest) (sym told)
