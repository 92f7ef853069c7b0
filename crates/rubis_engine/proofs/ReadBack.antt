-- Rows that are written as text are read back.
use Rattle.std.proofs.Common.{◌≡◌, ◌≢◌, ◌<◌, ◌≤◌, ◌+◌, ◌∷◌, [], ◌++◌, ◌∙◌, ◌==◌, ℕ, zero, suc, List, length, false, if◌then◌else◌, inl, inr, refl, ap, arith}
use Rattle.std.proofs.Common.{length-append}
use Rattle.std.specs.Prelude.{get_or}
use Rattle.csv.specs.Machine.{next_record}
use Rattle.csv.specs.Reading.{default_config, records_from, records_next, strip_bom}
use Rattle.csv.specs.Writing.{default_writer, escaped, field_text, fields_text, is_blank, needs_quotes, read_back, row_body, row_text}
use Rattle.csv.specs.declared.parser.State.TheVariants as st
use Rattle.csv.proofs.RoundTrip.{read-write}
use Rattle.rubis_schema.specs.Tables.{Has}
use Rattle.rubis_engine.specs.Rows.{SentLinesAreLines}
use Rattle.rubis_engine.specs.Text.{input_records, plain_writer, rows_text}

-- rows of any lengths are written as rows of one length
same_escaped : (field : List ℕ) → escaped plain_writer field ≡ escaped default_writer field
unfolding escaped
same_escaped [] = refl
same_escaped (b ∷ rest) = ap (λ text. if b == 34 then 34 ∷ b ∷ text else b ∷ text) (same_escaped rest)

same_field : (field : List ℕ) → field_text plain_writer field ≡ field_text default_writer field
same_field field = ap (λ text. if needs_quotes default_writer field then 34 ∷ (text ++ 34 ∷ []) else field) (same_escaped field)

same_fields : (fields : List (List ℕ)) → fields_text plain_writer fields ≡ fields_text default_writer fields
unfolding fields_text
same_fields [] = refl
same_fields (field ∷ rest) = λ i. 44 ∷ (same_field field i ++ same_fields rest i)

same_row : (row : List (List ℕ)) → row_text plain_writer row ≡ row_text default_writer row
unfolding is_blank fields_text
same_row [] = refl
same_row (field ∷ []) = λ i. (same_field field i ++ []) ++ ((if length (same_field field i) == 0 then 34 ∷ 34 ∷ [] else []) ++ 10 ∷ [])
same_row (field ∷ next ∷ rest) = λ i. (same_field field i ++ same_fields (next ∷ rest) i) ++ ([] ++ 10 ∷ [])

-- a row is a byte at least
ended : (text blank : List ℕ) → 0 < length (text ++ (blank ++ 10 ∷ []))
ended text blank = let e = length-append text (blank ++ 10 ∷ []) in let f = length-append blank (10 ∷ []) in omega (arith, e, f)

some_text : (row : List (List ℕ)) → 0 < length (row_text plain_writer row)
some_text row = ended (row_body plain_writer row) (if is_blank plain_writer row then 34 ∷ 34 ∷ [] else [])

-- each row has a field
abbrev pub HaveFields : List (List (List ℕ)) → Type 0
HaveFields rows = (row : List (List ℕ)) → Has row rows → row ≢ []

same_back : (row : List (List ℕ)) → row ≢ [] → read_back row ≡ row
same_back [] some = absurd (some refl)
same_back (field ∷ rest) some = refl

rows_from : (rows : List (List (List ℕ))) (n : ℕ) → length rows < n → HaveFields rows → records_from default_config n st.StartRecord (rows_text rows) ≡ rows
unfolding records_from next_record
rows_from rows zero few some = absurd (omega (arith, few))
rows_from [] (suc n) few some = refl
rows_from (row ∷ rows) (suc n) few some =
    ap (λ text. records_next (records_from default_config n) (next_record default_config st.StartRecord [] [] (text ++ rows_text rows))) (same_row row)
    ∙ ap (records_next (records_from default_config n)) (read-write row (rows_text rows))
    ∙ (λ i. same_back row (some row (inl refl)) i ∷ rows_from rows n (omega (arith, few)) (λ r h. some r (inr h)) i)

long_enough : (rows : List (List (List ℕ))) → length rows ≤ length (rows_text rows)
long_enough [] = omega arith
long_enough (row ∷ rows) = let more = long_enough rows in let one = some_text row in
    omega (arith, more, one, length-append (row_text plain_writer row) (rows_text rows))

-- a text that begins with no byte order mark
abbrev pub HasNoMark : List ℕ → Type 0
HasNoMark text = strip_bom text ≡ text

pub no_mark : (text : List ℕ) → (get_or text 0 0 == 0xEF) ≡ false → HasNoMark text
unfolding strip_bom
no_mark [] e = refl
no_mark (a ∷ []) e = refl
no_mark (a ∷ b ∷ []) e = refl
no_mark (a ∷ b ∷ c ∷ rest) e = rw e refl

-- rows with fields, written as a text that begins with no byte order mark, are read back
pub rows_back : (rows : List (List (List ℕ))) → HaveFields rows → HasNoMark (rows_text rows) → input_records (rows_text rows) ≡ rows
unfolding input_records
rows_back rows some mark =
    ap (λ text. records_from default_config (length text + 1) st.StartRecord text) mark
    ∙ rows_from rows (length (rows_text rows) + 1) (let long = long_enough rows in omega (arith, long)) some

-- the line of fields that are sent is `send,` and then their line
pub sent_line : SentLinesAreLines
unfolding is_blank fields_text
sent_line [] few = absurd (omega (arith, few))
sent_line (field ∷ []) few = absurd (omega (arith, few))
sent_line (field ∷ next ∷ rest) few = refl
