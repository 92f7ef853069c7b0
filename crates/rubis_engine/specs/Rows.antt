-- A row on its way into a writer or a text.
use Rattle.std.proofs.Common.{◌≡◌, ℕ, List, [], ◌++◌, sym, ap, ◌∙◌, append_assoc, Vec, Global}
use Rattle.std.proofs.lemmas.Grind.{flat_map-append}
use Rattle.std.proofs.lemmas.List.{append-nil}
use Rattle.rubis_engine.specs.Text.{plain_writer, row_text, rows_text, input_records}
use Rattle.std.specs.Prelude.{◌≢◌, ◌≤◌, codes, ◌∷◌, length, ◌==◌, ◌||◌, ◌&&◌, ◌-◌, ◌^◌, drop, false, min, not}
use Rattle.csv.specs.Reading.{strip_bom}
use Rattle.rubis_schema.specs.Tables.{Has}
use Rattle.std.specs.List.{flat_map}
use Rattle.csv.specs.Writing.{fields_written, has_written, is_blank, row_body, writer_pending, writer_setup, writer_under}
use Rattle.csv.specs.declared.writer.Writer.{Writer}
use Rattle.csv.specs.Machine.{line_feed}
use Rattle.rubis_schema.specs.FieldList.{comma}

pub none_written : (text : List ℕ) → text ≡ text ++ rows_text []
none_written text = sym (append-nil text)

pub more_written : (xs ys : List (List (List ℕ))) (a b c : List ℕ) → b ≡ a ++ rows_text xs → c ≡ b ++ rows_text ys → c ≡ a ++ rows_text (xs ++ ys)
more_written xs ys a b c e f =
    f ∙ ap (λ t. t ++ rows_text ys) e ∙ append_assoc a (rows_text xs) (rows_text ys) ∙ ap (λ t. a ++ t) (sym (flat_map-append (row_text plain_writer) xs ys))

pub rows_held_more : (xs ys : List (List (List ℕ))) (a b : List ℕ) → a ≡ rows_text xs → b ≡ a ++ rows_text ys → b ≡ rows_text (xs ++ ys)
rows_held_more xs ys a b e f = f ∙ ap (λ t. t ++ rows_text ys) e ∙ sym (flat_map-append (row_text plain_writer) xs ys)

-- ---- the line of a row that is sent, and what it is read as

-- the line of fields that are sent is `send,` and then the line of the fields
abbrev pub SentLinesAreLines : Type 0
SentLinesAreLines = (fields : List (List ℕ)) → 2 ≤ length fields → row_text plain_writer (codes "send" ∷ fields) ≡ codes "send," ++ row_text plain_writer fields

-- the lines of rows, each with a field, are read as these rows, if the text begins with no byte order mark
abbrev pub RowsAreReadBack : Type 0
RowsAreReadBack =
    (rows : List (List (List ℕ))) → ((row : List (List ℕ)) → Has row rows → row ≢ []) → strip_bom (rows_text rows) ≡ rows_text rows
    → input_records (rows_text rows) ≡ rows

-- ---- a row on its way into a writer or a text

-- the text that a writer holds
abbrev pub held : Writer (Vec ℕ Global) → List ℕ
held w = (writer_under w).items ++ writer_pending w

-- after the text `start` the writer holds the first fields of a row
pub record HasBegunRow (start : List ℕ) (w : Writer (Vec ℕ Global)) (fields : List (List ℕ)) : Type 0 where
  pub setup : writer_setup w ≡ plain_writer
  pub text : held w ≡ start ++ row_body plain_writer fields
  pub count : fields_written w ≡ min (length fields) (2 ^ 64 - 1)
  pub blank : is_blank plain_writer fields ≡ (not (has_written w) && ((length fields == 0) || (length fields == 1)))

-- no row is begun, and the text underneath has all that was written
pub record IsBetweenRows (w : Writer (Vec ℕ Global)) : Type 0 where
  pub setup : writer_setup w ≡ plain_writer
  pub none : fields_written w ≡ 0
  pub blank : has_written w ≡ false
  pub written : writer_pending w ≡ []

-- fields with a comma after each
abbrev pub prefix_text : List (List ℕ) → List ℕ
prefix_text first = flat_map (λ field. field ++ comma ∷ []) first

-- the row of these fields and of those of a text, in which each has a comma before it
abbrev pub plain_row : List (List ℕ) → List ℕ → List ℕ
plain_row first text = prefix_text first ++ (drop 1 text ++ line_feed ∷ [])
