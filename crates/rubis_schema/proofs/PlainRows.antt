-- The fields of a text in which each has a comma before it, and which of them call for no quotes.
use Rattle.std.proofs.Common.{◌≡◌, ◌≤◌, ◌<◌, ◌-◌, ◌+◌, ◌∙◌, ℕ, zero, suc, Some, get_or, List, [], ◌∷◌, ◌++◌, take, drop, length, refl, ap, sym, subst, arith}
use Rattle.std.proofs.Common.{length-append, append_assoc, ◌^◌, ◌||◌, true, false, decimal, ◌==◌, ◌&&◌, Bool}
use Rattle.std.proofs.lemmas.Grind.{flat_map-append}
use Rattle.std.proofs.lemmas.List.{append-nil, drop-append-le, length-drop, length-take-le, take-append-le, take_all}
use Rattle.std.proofs.Math.Seq.{drop-append-add}
use Rattle.std.specs.List.{slice_get, list_any}
use Rattle.rubis_schema.specs.FieldList.{Fills, IsLaidOut, comma, joined, pieces, all_plain, is_mark, is_plain, IsPlainText, PlainRow, text_fields, fields_in}
use Rattle.rubis_schema.specs.FieldList.{row_of_text}
use Rattle.std.specs.Prelude.{not}
use Rattle.std.specs.Int.{IsInRange}
use Rattle.std.proofs.lemmas.Bool.{ne_eqb, not-true, both_ways, or_parts}
use Rattle.std.proofs.lemmas.List.Elements.{All-from_get_or}
use Rattle.std.proofs.lemmas.List.Folds.{list_all-append, list_any-append, list_any_none}
use Rattle.rubis_schema.specs.Ids.{id_text}
use Rattle.rubis_schema.specs.declared.ids.Id.{Id}
use Rattle.rubis_numbers.proofs.Decimals.{decimal_at}

-- one piece for each end
pub pieces-length : (before : ℕ) (ends bytes : List ℕ) → length (pieces before ends bytes) ≡ length ends
pieces-length before [] bytes = refl
pieces-length before (end ∷ ends) bytes = ap suc (pieces-length end ends bytes)

-- no piece starts past the end of the buffer
pub fills-start : (before : ℕ) (ends : List ℕ) (size : ℕ) → Fills before ends size → before ≤ size
fills-start before [] size h = omega (arith, h)
fills-start before (end ∷ ends) size h = omega (arith, h.0, fills-start end ends size h.1)

-- the ends with one more, of a longer buffer
pub fills-push : (before : ℕ) (ends : List ℕ) (size more : ℕ) → Fills before ends size → size < more → Fills before (ends ++ more ∷ []) more
fills-push before [] size more h up = (omega (arith, h, up), refl)
fills-push before (end ∷ ends) size more h up = (h.0, fills-push end ends size more h.1 up)

-- what is put at the end of the buffer, after a comma, is one more piece
pub pieces-push : (before : ℕ) (ends bytes field : List ℕ) (more : ℕ) → Fills before ends (length bytes) → more ≡ length bytes + 1 + length field
    → pieces before (ends ++ more ∷ []) (bytes ++ comma ∷ field) ≡ pieces before ends bytes ++ field ∷ []
pieces-push before [] bytes field more h size =
    let len : more - (length bytes + 1) ≡ length field = omega (arith, size) in
    rw (h, drop-append-add bytes (comma ∷ field) 1, len, take_all (length field) field (omega arith)) refl
pieces-push before (end ∷ ends) bytes field more h size =
    let up = fills-start end ends (length bytes) h.1 in
    let all = length-drop (before + 1) bytes in
    let at : before + 1 ≤ length bytes = omega (arith, h.0, up) in
    let fits : end - (before + 1) ≤ length (drop (before + 1) bytes) = omega (arith, all, up) in
    rw (
      drop-append-le (before + 1) bytes (comma ∷ field) at,
      take-append-le (end - (before + 1)) (drop (before + 1) bytes) (comma ∷ field) fits,
      pieces-push end ends bytes field more h.1 size,
    ) refl

-- the piece at a place
pub piece-at : (before : ℕ) (ends bytes : List ℕ) (i : ℕ) → i < length ends
    → slice_get (pieces before ends bytes) i ≡ Some (take (get_or ends i 0 - (get_or (before ∷ ends) i 0 + 1)) (drop (get_or (before ∷ ends) i 0 + 1) bytes))
piece-at before [] bytes i lt = absurd (omega (arith, lt))
piece-at before (end ∷ ends) bytes zero lt = refl
piece-at before (end ∷ ends) bytes (suc i) lt = piece-at end ends bytes i (omega (arith, lt))

-- its start and its end lie in order, within the buffer
pub piece-within : (before : ℕ) (ends : List ℕ) (size i : ℕ) → Fills before ends size → i < length ends
    → (get_or (before ∷ ends) i 0 < get_or ends i 0) × (get_or ends i 0 ≤ size)
piece-within before [] size i h lt = absurd (omega (arith, lt))
piece-within before (end ∷ ends) size zero h lt = (h.0, fills-start end ends size h.1)
piece-within before (end ∷ ends) size (suc i) h lt = piece-within end ends size i h.1 (omega (arith, lt))

-- the fields with one more, each with a comma before it
pub joined-push : (fields : List (List ℕ)) (field : List ℕ) → joined (fields ++ field ∷ []) ≡ joined fields ++ comma ∷ field
joined-push fields field = flat_map-append (λ f. comma ∷ f) fields (field ∷ []) ∙ ap (λ t. joined fields ++ comma ∷ t) (append-nil field)

-- a buffer with one more field is laid out, and has its pieces
pub laid-push : (ends bytes field : List ℕ) (more : ℕ) → IsLaidOut ends bytes → more ≡ length bytes + 1 + length field
    → IsLaidOut (ends ++ more ∷ []) (bytes ++ comma ∷ field) × (pieces 0 (ends ++ more ∷ []) (bytes ++ comma ∷ field) ≡ pieces 0 ends bytes ++ field ∷ [])
laid-push ends bytes field more laid size =
    let parts = pieces-push 0 ends bytes field more laid.fills size in
    let all : length (bytes ++ comma ∷ field) ≡ more = omega (arith, size, length-append bytes (comma ∷ field)) in (
      record {
        fills = rw all (fills-push 0 ends (length bytes) more laid.fills (omega (arith, size)));
        commas = rw parts (ap (λ t. t ++ comma ∷ field) laid.commas ∙ sym (joined-push (pieces 0 ends bytes) field));
      },
      parts,
    )

-- the same, said of the ends and the buffer that follow
pub laid-more : (ends bytes field new_ends new_bytes : List ℕ) (size : ℕ) → IsLaidOut ends bytes
    → new_bytes ≡ (bytes ++ comma ∷ []) ++ field → size ≡ length new_bytes → new_ends ≡ ends ++ size ∷ []
    → IsLaidOut new_ends new_bytes × (pieces 0 new_ends new_bytes ≡ pieces 0 ends bytes ++ field ∷ [])
laid-more ends bytes field new_ends new_bytes size laid text all more =
    let same : new_bytes ≡ bytes ++ comma ∷ field = text ∙ append_assoc bytes (comma ∷ []) field in
    let long : size ≡ length bytes + 1 + length field = omega (arith, all, ap length same, length-append bytes (comma ∷ field)) in
    rw (more, same) (laid-push ends bytes field size laid long)

-- a buffer has its pieces at one list of ends alone
ends-fixed : (before : ℕ) (ends others bytes : List ℕ) → Fills before ends (length bytes) → Fills before others (length bytes)
    → pieces before ends bytes ≡ pieces before others bytes → ends ≡ others
ends-fixed before [] [] bytes h g e = refl
ends-fixed before [] (other ∷ others) bytes h g e = absurd cc
ends-fixed before (end ∷ ends) [] bytes h g e = absurd cc
ends-fixed before (end ∷ ends) (other ∷ others) bytes h g e =
    let first : take (end - (before + 1)) (drop (before + 1) bytes) ≡ take (other - (before + 1)) (drop (before + 1) bytes) = cc in
    let rest : pieces end ends bytes ≡ pieces other others bytes = cc in
    let all = length-drop (before + 1) bytes in
    let up = fills-start end ends (length bytes) h.1 in
    let up_other = fills-start other others (length bytes) g.1 in
    let size = length-take-le (end - (before + 1)) (drop (before + 1) bytes) (omega (arith, all, up)) in
    let size_other = length-take-le (other - (before + 1)) (drop (before + 1) bytes) (omega (arith, all, up_other)) in
    let same : end ≡ other = omega (arith, ap length first, size, size_other, h.0, g.0) in
    let behind : ends ≡ others = ends-fixed end ends others bytes h.1 (rw same g.1) (rest ∙ ap (λ at. pieces at others bytes) (sym same)) in
    λ i. same i ∷ behind i

-- laid out buffers with the same fields are the same
pub laid-fixed : (ends bytes others text : List ℕ) → IsLaidOut ends bytes → IsLaidOut others text → pieces 0 ends bytes ≡ pieces 0 others text
    → (ends ≡ others) × (bytes ≡ text)
laid-fixed ends bytes others text laid other e =
    let same : bytes ≡ text = laid.commas ∙ ap joined e ∙ sym other.commas in (
      ends-fixed 0 ends others bytes laid.fills (subst (λ t. Fills 0 others (length t)) (sym same) other.fills) (e ∙ ap (pieces 0 others) (sym same)),
      same,
    )

-- ---- numbers and ids call for no quotes

no_mark : (b : ℕ) → IsInRange 48 57 b → is_mark b ≡ false
no_mark b h =
    rw (
      ne_eqb b comma (λ e. absurd (omega (arith, h.0, e))),
      ne_eqb b 34 (λ e. absurd (omega (arith, h.0, e))),
      ne_eqb b 13 (λ e. absurd (omega (arith, h.0, e))),
      ne_eqb b 10 (λ e. absurd (omega (arith, h.0, e))),
    ) refl

unmarked : (n : ℕ) → n < 2 ^ 64 → list_any is_mark (decimal n) ≡ false
unmarked n h = list_any_none is_mark (decimal n) (All-from_get_or (λ b. is_mark b ≡ false) (decimal n) 0 (λ i lt. no_mark _ (decimal_at n i h lt)))

pub decimal_plain : (n : ℕ) → n < 2 ^ 64 → is_plain (decimal n) ≡ true
decimal_plain n h = ap not (unmarked n h)

pub id_plain : (id : Id) → is_plain (decimal id.site) ≡ true → is_plain (decimal id.seq) ≡ true → is_plain (id_text id) ≡ true
id_plain id site seq = ap not (list_any-append is_mark (decimal id.site) _ ∙ (λ i. not-true _ site i || not-true _ seq i))

pub pair_plain : (first second : ℕ) → first < 2 ^ 64 → second < 2 ^ 64 → is_plain (decimal first ++ 46 ∷ decimal second) ≡ true
pair_plain first second a b =
    ap not (list_any-append is_mark (decimal first) _ ∙ (λ i. not-true _ (decimal_plain first a) i || not-true _ (decimal_plain second b) i))

-- one more field that calls for no quotes
pub plain_more : (fields : List (List ℕ)) (field : List ℕ) → all_plain fields ≡ true → is_plain field ≡ true → all_plain (fields ++ field ∷ []) ≡ true
plain_more fields field all one = rw (list_all-append is_plain fields (field ∷ []), all, one) refl

-- ---- the fields of a text in which each has a comma before it

-- a byte that calls for no quotes is no comma
no_comma : (b : ℕ) → is_mark b ≡ false → (b == comma) ≡ false
no_comma b h =
    let three = (or_parts ((b == comma) || (b == 34) || (b == 13)) (b == 10) h).0 in
    let two = (or_parts ((b == comma) || (b == 34)) (b == 13) three).0 in
    (or_parts (b == comma) (b == 34) two).0

plain_first : (b : ℕ) (f : List ℕ) → is_plain (b ∷ f) ≡ true → is_mark b ≡ false
plain_first b f h = (or_parts (is_mark b) (list_any is_mark f) (not-true _ h)).0

plain_rest : (b : ℕ) (f : List ℕ) → is_plain (b ∷ f) ≡ true → is_plain f ≡ true
plain_rest b f h = ap not (or_parts (is_mark b) (list_any is_mark f) (not-true _ h)).1

-- both hold where both together do
both_parts : (a b : Bool) → (a && b) ≡ true → (a ≡ true) × (b ≡ true)
both_parts true b h = (refl, h)
both_parts false b h = absurd (both_ways false refl h)

-- bytes that call for no quotes, in front of a text
fields_front : (f text : List ℕ) → is_plain f ≡ true → text_fields (f ++ text)
    ≡ record { front = f ++ (text_fields text).front; fields = (text_fields text).fields }
fields_front [] text h = refl
fields_front (b ∷ f) text h =
    rw (fields_front f text (plain_rest b f h), no_comma b (plain_first b f h)) refl

-- the text of fields has these fields
fields_joined : (fields : List (List ℕ)) → all_plain fields ≡ true → text_fields (joined fields) ≡ record { front = []; fields = fields }
fields_joined [] h = refl
fields_joined (f ∷ fs) h =
    let parts = both_parts (is_plain f) (all_plain fs) h in
    let rest = fields_front f (joined fs) parts.0 in
    rw (rest, fields_joined fs parts.1, append-nil f) refl

-- a text of such fields
plain_text : (size : ℕ) (text : List ℕ) (fields : List (List ℕ)) → text ≡ joined fields → all_plain fields ≡ true → length text ≤ size
    → IsPlainText size text × (fields_in text ≡ fields)
plain_text size text fields e plain fits =
    let same : fields_in text ≡ fields = ap fields_in e ∙ ap (λ c. c.fields) (fields_joined fields plain) in
    (record { fits = fits; text = e ∙ ap joined (sym same); plain = rw same plain }, same)

-- one more field in front
one_more : (size : ℕ) (text field : List ℕ) → IsPlainText size text → is_plain field ≡ true → length field + 1 + length text ≤ size
    → IsPlainText size (comma ∷ field ++ text) × (fields_in (comma ∷ field ++ text) ≡ field ∷ fields_in text)
one_more size text field h plain fits =
    plain_text size (comma ∷ field ++ text) (field ∷ fields_in text) (ap (λ t. comma ∷ field ++ t) h.text) (rw (plain, h.plain) refl)
    (omega (arith, length-append field text, fits))

-- the first field with more in front
more_in_first : (size : ℕ) (text more field : List ℕ) (fields : List (List ℕ)) → IsPlainText size text → fields_in text ≡ field ∷ fields
    → is_plain more ≡ true → length more + length text ≤ size
    → IsPlainText size (comma ∷ more ++ drop 1 text) × (fields_in (comma ∷ more ++ drop 1 text) ≡ (more ++ field) ∷ fields)
more_in_first size text more field fields h e plain fits =
    let old : text ≡ comma ∷ field ++ joined fields = h.text ∙ ap joined e in
    let new : comma ∷ more ++ drop 1 text ≡ joined ((more ++ field) ∷ fields) = ap (λ t. comma ∷ more ++ drop 1 t) old
    ∙ ap (λ t. comma ∷ t) (sym (append_assoc more field (joined fields))) in
    let parts = both_parts (is_plain field) (all_plain fields) (subst (λ fs. all_plain fs ≡ true) e h.plain) in
    let both : is_plain (more ++ field) ≡ true = ap not (list_any-append is_mark more field ∙ (λ i. not-true _ plain i || not-true _ parts.0 i)) in
    let size_of = ap length old in
    plain_text size (comma ∷ more ++ drop 1 text) ((more ++ field) ∷ fields) new (rw (both, parts.1) refl)
    (omega (arith, size_of, ap (λ t. length (drop 1 t)) old, length-append more (drop 1 text), fits))

-- a row with one more field in front
pub row_with_one_more : (size : ℕ) (row : PlainRow) (text new field : List ℕ) → row_of_text size text ≡ row → IsPlainText size text → is_plain field ≡ true
    → length field + 1 ≤ row.left → new ≡ comma ∷ field ++ text → IsPlainText size new × (fields_in new ≡ field ∷ row.fields)
row_with_one_more size row text new field is h plain room e =
    let left : size - length text ≡ row.left = ap (λ (r : PlainRow). r.left) is in
    let fields : fields_in text ≡ row.fields = ap (λ (r : PlainRow). r.fields) is in
    rw (e, ← fields) (one_more size text field h plain (omega (arith, left, room, h.fits)))

-- a row whose first field has more in front
pub row_with_more_in_first : (size : ℕ) (row : PlainRow) (text new more : List ℕ) → row_of_text size text ≡ row → IsPlainText size text → is_plain more ≡ true
    → length more ≤ row.left → new ≡ comma ∷ more ++ drop 1 text → (f : List ℕ) (fs : List (List ℕ)) → row.fields ≡ f ∷ fs
    → IsPlainText size new × (fields_in new ≡ (more ++ f) ∷ fs)
row_with_more_in_first size row text new more is h plain room e f fs first =
    let left : size - length text ≡ row.left = ap (λ (r : PlainRow). r.left) is in
    let fields : fields_in text ≡ row.fields = ap (λ (r : PlainRow). r.fields) is in
    rw e (more_in_first size text more f fs h (fields ∙ first) plain (omega (arith, left, room, h.fits)))

-- such a row, whichever its fields are
pub some_more_in_first : (size : ℕ) (row : PlainRow) (text new more : List ℕ) → row_of_text size text ≡ row → IsPlainText size text → is_plain more ≡ true
    → length more ≤ row.left → new ≡ comma ∷ more ++ drop 1 text → (fields : List (List ℕ)) → row.fields ≡ fields → 0 < length fields → IsPlainText size new
some_more_in_first size row text new more is h plain room e [] first some = absurd (omega (arith, some))
some_more_in_first size row text new more is h plain room e (f ∷ fs) first some = (row_with_more_in_first size row text new more is h plain room e f fs first).0

-- a mark that calls for no quotes, alone and behind other bytes
pub mark_plain : (mark : ℕ) → is_mark mark ≡ false → is_plain (mark ∷ []) ≡ true
mark_plain mark h = rw h refl

pub mark_behind_plain : (bytes : List ℕ) (mark : ℕ) → is_plain bytes ≡ true → is_mark mark ≡ false → is_plain (bytes ++ mark ∷ []) ≡ true
mark_behind_plain bytes mark plain h = ap not (list_any-append is_mark bytes (mark ∷ []) ∙ (λ i. not-true _ plain i || not-true _ (mark_plain mark h) i))
