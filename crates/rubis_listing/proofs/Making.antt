-- Rows and the records that they add, one after the other, by ranges and by sources.
use Rattle.rubis_listing.proofs.Common.{◌≡◌, ℕ, ◌+◌, ◌<◌, ◌≤◌, List, [], ◌∷◌, ◌++◌, drop, length, sym, ap, ◌∙◌, arith, ◌-◌, refl, ◌*◌, subst}
use Rattle.rubis_listing.proofs.Common.{length-append, AllZip, range_with_len, IfOk, slice_index_or, slice_range, Option, None, append-nil, Tables}
use Rattle.rubis_listing.proofs.Common.{Listing, RowKey, Table, Row, rows_of, records_of, log_from, log_record, misfit_rows, flat_map-append}
use Rattle.std.proofs.Common.{append_assoc, suc, take, zero, min}
use Rattle.std.specs.Prelude.{Err, MatchResult, Ok, map, Some}
use Rattle.std.specs.declared.alloc.AllocError.{AllocError}
use Rattle.std.specs.declared.result.Result.{Result}
use Rattle.std.proofs.lemmas.List.{drop_all, drop_more, length-drop, length-take-le}
use Rattle.rubis_model.specs.Listings.{misfit_record}
use Rattle.std.proofs.Math.Seq.{drop-cons}
use Rattle.rubis_message.specs.Message.{Message}
use Rattle.rubis_shadow.specs.declared.numbered.Misfit.{Misfit}
use Rattle.std.proofs.lemmas.List.Folds.{drop_split}
use Rattle.rubis_listing.proofs.ByTable.{rows_by_table}
use Rattle.rubis_listing.proofs.Selecting.{records_append}
use Rattle.rubis_listing.specs.Parts.{part_end, between, rows_of_part, size_of, AreParts, later_rows, rows_of_later, AreCountable, rows_from}
use Rattle.rubis_listing.specs.declared.sources.Source.{Source}
use Rattle.rubis_listing.specs.declared.sources.Source.TheVariants.{Rows, Log, Misfits}
use Rattle.rubis_listing.specs.declared.later.Later.{Later}

-- the records of the rows from a place on
pub rows_more : (l : Listing) (rows : List (RowKey × Row)) (i : ℕ) (d : RowKey × Row) → i < length rows
    → records_of l (drop i rows) ≡ records_of l (slice_index_or rows i d ∷ []) ++ records_of l (drop (i + 1) rows)
rows_more l rows i d lt = ap (records_of l) (drop_more rows i d lt) ∙ records_append l (slice_index_or rows i d ∷ []) (drop (i + 1) rows)

-- what the tables from a place on add
pub tables_more : (l : Listing) (m : Tables) (ts : List Table) (i : ℕ) (d : Table) → i < length ts
    → rows_by_table l m (drop i ts) ≡ records_of l (rows_of (slice_index_or ts i d) m) ++ rows_by_table l m (drop (i + 1) ts)
tables_more l m ts i d lt = ap (rows_by_table l m) (drop_more ts i d lt)

-- what holds of each result, by its place, holds of what the results have
pub each_made : {S : Type 0} (P : ℕ → S → Type 0) (ks : List ℕ) (parts : List S)
    → AllZip (λ k (r : Result S AllocError). IfOk r (P k)) ks (map Ok parts) → AllZip P ks parts
each_made P [] [] h = tt
each_made P [] (p ∷ ps) h = absurd h
each_made P (k ∷ ks) [] h = absurd h
each_made P (k ∷ ks) (p ∷ ps) h = (h.0, each_made P ks ps h.1)

-- what follows where there is no error
pub if_made : {T E : Type 0} (r : Result T E) (P Q : T → Type 0) (R : E → Type 0) → MatchResult r P R → ((v : T) → P v → Q v) → IfOk r Q
if_made (Ok v) P Q R h f = f v h
if_made (Err e) P Q R h f = tt

pub if_listed : {T E : Type 0} (r : Result T E) (P Q : T → Type 0) → IfOk r P → ((v : T) → P v → Q v) → IfOk r Q
if_listed (Ok v) P Q h f = f v h
if_listed (Err e) P Q h f = h

-- ---- the rows of all tables, as far as they were collected
abbrev pub AreCollected : Listing → Tables → List Table → List (RowKey × Row) → List Table → Type 0
AreCollected l m ts rows left = records_of l rows ++ rows_by_table l m left ≡ rows_by_table l m ts

pub collected_more : (l : Listing) (m : Tables) (ts : List Table) (i : ℕ) (d : Table) (rows others all : List (RowKey × Row))
    → i < length ts → all ≡ rows ++ others → records_of l others ≡ records_of l (rows_of (slice_index_or ts i d) m)
    → AreCollected l m ts rows (drop i ts) → AreCollected l m ts all (drop (i + 1) ts)
collected_more l m ts i d rows others all lt both same before =
    let rest = rows_by_table l m (drop (i + 1) ts) in
    ap (λ (es : List (RowKey × Row)). records_of l es ++ rest) both
    ∙ ap (λ rs. rs ++ rest) (records_append l rows others)
    ∙ append_assoc (records_of l rows) (records_of l others) rest
    ∙ ap (λ rs. records_of l rows ++ (rs ++ rest)) same
    ∙ ap (λ rs. records_of l rows ++ rs) (sym (tables_more l m ts i d lt))
    ∙ before

pub collected_all : (l : Listing) (m : Tables) (ts : List Table) (i : ℕ) (rows : List (RowKey × Row)) → length ts ≤ i
    → AreCollected l m ts rows (drop i ts) → records_of l rows ≡ rows_by_table l m ts
collected_all l m ts i rows part_end all =
    sym (append-nil (records_of l rows))
    ∙ ap (λ us. records_of l rows ++ rows_by_table l m us) (sym (drop_all i ts part_end)) ∙ all

-- ---- the entries of a log, one after the other

entry_by : (n : ℕ) (m : Message) (ms : List Message) → log_from n (m ∷ ms) ≡ (log_record n m ∷ []) ++ log_from (n + 1) ms
unfolding log_from
entry_by n m ms = refl

pub entry_more : (at upto : ℕ) (log : List Message) (d : Message) → at < upto → at < length log
    → log_from (at + 1) (slice_range log at upto)
    ≡ (log_record (at + 1) (slice_index_or log at d) ∷ []) ++ log_from (at + 1 + 1) (slice_range log (at + 1) upto)
entry_more at upto log d before l =
    let next : suc at ≡ at + 1 = omega arith in
    let many : upto - at ≡ suc (upto - (at + 1)) = omega arith in
    let first = slice_index_or log at d in
    ap (λ ms. log_from (at + 1) (take (upto - at) ms)) (drop-cons log at d l)
    ∙ ap (λ n. log_from (at + 1) (take n (first ∷ drop (suc at) log))) many
    ∙ entry_by (at + 1) first (take (upto - (at + 1)) (drop (suc at) log))
    ∙ ap (λ k. (log_record (at + 1) first ∷ []) ++ log_from (at + 1 + 1) (take (upto - (at + 1)) (drop k log))) next

pub none : (n : ℕ) → log_from n [] ≡ []
unfolding log_from
none n = refl

pub entries_end : (at upto : ℕ) (log : List Message) → upto ≤ at → log_from (at + 1) (slice_range log at upto) ≡ []
entries_end at upto log part_end =
    let many : upto - at ≡ 0 = omega arith in
    ap (λ n. log_from (at + 1) (take n (drop at log))) many ∙ none (at + 1)

pub misfit_more : (at : ℕ) (ms : List Misfit) (d : Misfit) → at < length ms
    → misfit_rows (drop at ms) ≡ (misfit_record (slice_index_or ms at d) ∷ []) ++ misfit_rows (drop (at + 1) ms)
misfit_more at ms d l =
    let next : suc at ≡ at + 1 = omega arith in
    let first = slice_index_or ms at d in
    ap misfit_rows (drop-cons ms at d l) ∙ ap (λ k. (misfit_record first ∷ []) ++ misfit_rows (drop k ms)) next

-- ---- the rows that are made of a range, and of the ranges that it is cut into

-- ---- ranges of a list
pub range_none : {X : Type 0} (xs : List X) (a : ℕ) → slice_range xs a a ≡ []
range_none xs a = let many : a - a ≡ 0 = omega arith in ap (λ n. take n (drop a xs)) many

take_beyond : {X : Type 0} (xs ys : List X) (n k : ℕ) → n ≡ length xs + k → take n (xs ++ ys) ≡ xs ++ take k ys
take_beyond [] ys n k is = let same : n ≡ k = omega (arith, is) in ap (λ m. take m ys) same
take_beyond (x ∷ xs) ys zero k is = absurd (omega (arith, is))
take_beyond (x ∷ xs) ys (suc n) k is = ap (λ zs. x ∷ zs) (take_beyond xs ys n k (omega (arith, is)))

range_length : {X : Type 0} (xs : List X) (a b : ℕ) → b ≤ length xs → length (slice_range xs a b) ≡ b - a
range_length xs a b within = length-take-le (b - a) (drop a xs) (omega (arith, length-drop a xs, within))

range_split : {X : Type 0} (xs : List X) (a b c : ℕ) → a ≤ b → b ≤ c → b ≤ length xs → slice_range xs a c ≡ slice_range xs a b ++ slice_range xs b c
range_split xs a b c first second within =
    ap (take (c - a)) (drop_split xs a b first)
    ∙ take_beyond (slice_range xs a b) (drop b xs) (c - a) (c - b) (omega (arith, range_length xs a b within))

-- ---- the rows of a range
log_append : (n : ℕ) (xs ys : List Message) → log_from n (xs ++ ys) ≡ log_from n xs ++ log_from (n + length xs) ys
unfolding log_from
log_append n [] ys = let same : n ≡ n + 0 = omega arith in ap (λ k. log_from k ys) same
log_append n (x ∷ xs) ys =
    let same : n + 1 + length xs ≡ n + suc (length xs) = omega arith in
    ap (λ rows. log_record n x ∷ rows) (log_append (n + 1) xs ys ∙ ap (λ k. log_from (n + 1) xs ++ log_from k ys) same)

pub between_none : (s : Source) (a : ℕ) → between s a a ≡ []
between_none (Rows l rows) a = ap (records_of l.now) (range_none rows.items a)
between_none (Log log) a = ap (log_from (a + 1)) (range_none log.now a) ∙ none (a + 1)
between_none (Misfits ms) a = ap misfit_rows (range_none ms.items a)

pub between_more : (s : Source) (a b c : ℕ) → a ≤ b → b ≤ c → b ≤ size_of s → between s a c ≡ between s a b ++ between s b c
between_more (Rows l rows) a b c first second within =
    ap (records_of l.now) (range_split rows.items a b c first second within)
    ∙ records_append l.now (slice_range rows.items a b) (slice_range rows.items b c)
between_more (Log log) a b c first second within =
    let next : a + 1 + length (slice_range log.now a b) ≡ b + 1 = omega (arith, range_length log.now a b within) in
    ap (log_from (a + 1)) (range_split log.now a b c first second within)
    ∙ log_append (a + 1) (slice_range log.now a b) (slice_range log.now b c)
    ∙ ap (λ k. log_from (a + 1) (slice_range log.now a b) ++ log_from k (slice_range log.now b c)) next
between_more (Misfits ms) a b c first second within =
    ap misfit_rows (range_split ms.items a b c first second within)
    ∙ flat_map-append (λ (m : Misfit). misfit_record m ∷ []) (slice_range ms.items a b) (slice_range ms.items b c)

-- ---- how many rows are made
log_length : (n : ℕ) (ms : List Message) → length (log_from n ms) ≡ length ms
unfolding log_from
log_length n [] = refl
log_length n (m ∷ ms) = ap suc (log_length (n + 1) ms)

misfits_length : (ms : List Misfit) → length (misfit_rows ms) ≡ length ms
misfits_length [] = refl
misfits_length (m ∷ ms) = ap suc (misfits_length ms)

pub log_count : (log : List Message) (from : ℕ) → from ≤ length log → length log - from ≡ length (log_from (from + 1) (slice_range log from (length log)))
log_count log from within = sym (log_length (from + 1) (slice_range log from (length log)) ∙ range_length log from (length log) (omega arith))

pub misfit_count : (ms : List Misfit) (from : ℕ) → from ≤ length ms → length ms - from ≡ length (misfit_rows (slice_range ms from (length ms)))
misfit_count ms from within = sym (misfits_length (slice_range ms from (length ms)) ∙ range_length ms from (length ms) (omega arith))

-- ---- parts
-- parts that were made by their numbers, from k on, are those of the rows from their place on
pub parts_from : {S : Type 0} (holds : List (List (List ℕ)) → S → Type 0) (s : Source) (from upto at k n : ℕ) (parts : List S)
    → from ≤ upto → at ≡ from + min (k * 512) (upto - from) → upto ≤ from + (k + n) * 512 → (k + n) * 512 ≤ upto - from + 512
    → AllZip (λ j part. holds (rows_of_part s from upto j) part) (range_with_len k n) parts → AreParts holds s at upto parts
parts_from holds s from upto at k zero [] within is enough few h = omega (arith, within, is, enough)
parts_from holds s from upto at k zero (p ∷ ps) within is enough few h = absurd h
parts_from holds s from upto at k (suc n) [] within is enough few h = absurd h
parts_from holds s from upto at k (suc n) (p ∷ ps) within is enough few h =
    let here : from + k * 512 ≡ at = omega (arith, within, is, few) in (
      subst (λ b. holds (between s b (part_end b upto)) p) here h.0,
      parts_from holds s from upto (part_end at upto) (k + 1) n ps within (omega (arith, within, is, few)) (omega (arith, enough)) (omega (arith, few)) h.1,
    )

-- ---- the rows of a source, and those of the tables that come later

abbrev pub Records : Type 0
Records = List (List (List ℕ))

-- some of a source's rows, and those that are left of all
pub next_rows : (s : Source) (at upto : ℕ) (more : Records) → at ≤ upto → upto ≤ size_of s
    → rows_from s at ++ more ≡ between s at upto ++ (rows_from s upto ++ more)
next_rows s at upto more first within =
    ap (λ rows. rows ++ more) (between_more s at upto (size_of s) first within within)
    ∙ append_assoc (between s at upto) (rows_from s upto) more

-- ---- they can be counted
pub countable_rest : (s : Source) (at upto : ℕ) (o : Option Later) → at ≤ upto → upto ≤ size_of s
    → AreCountable (rows_from s at) o → AreCountable (rows_from s upto) o
countable_rest s at upto None first within h = tt
countable_rest s at upto (Some l) first within h =
    let all = ap length (between_more s at upto (size_of s) first within within) in
    let sum = length-append (between s at upto) (rows_from s upto) in
    omega (arith, all, sum, h)

pub countable_none : (rows : Records) (o : Option Later) → AreCountable rows o → AreCountable [] o
countable_none rows None h = tt
countable_none rows (Some l) h = let none : length {A = List (List ℕ)} [] ≡ 0 = refl in omega (arith, none, h)

pub countable_some : (rows : Records) (o : Option Later) (l : Later) → o ≡ Some l → AreCountable rows o
    → length rows + length (rows_of_later l) ≤ 18446744073709551615
countable_some rows o l is h = subst (AreCountable rows) is h

-- ---- how many there are
pub length_some : (rows : Records) (o : Option Later) (l : Later) → o ≡ Some l
    → length (rows ++ later_rows o) ≡ length rows + length (rows_of_later l)
length_some rows o l is = ap (λ p. length (rows ++ later_rows p)) is ∙ length-append rows (rows_of_later l)

pub length_none : (rows : Records) (o : Option Later) → o ≡ None → length (rows ++ later_rows o) ≡ length rows
length_none rows o is = ap (λ p. length (rows ++ later_rows p)) is ∙ ap length (append-nil rows)
