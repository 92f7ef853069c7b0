-- How a widener goes on with the records that it reads.
use Rattle.rubis_audit.proofs.Common.{ℕ, ◌≡◌, ◌∙◌, ◌+◌, List, [], ◌∷◌, ◌++◌, length, Option, Some, None, refl, sym, ap, arith, ◌≢◌, ◌≤◌, map, subst}
use Rattle.rubis_audit.proofs.Common.{⊎_elim, option_and_then, option_map, Ok, Line, line_of, with_line, audit_of, logs_after, Begin, Claim, Log}
use Rattle.rubis_audit.proofs.Common.{AnswersRecord, rows_text, input_records, GoesOn, COUNTED_MAX, line_only, HasNoMark, no_mark, rows_back}
use Rattle.rubis_model.specs.AuditRecords.{line_record, IsLine}
use Rattle.rubis_model.specs.AuditRecords.Line.{Next}
use Rattle.rubis_model.specs.Widening.{widened_line, widened_record}
use Rattle.rubis_engine.specs.Rows.{more_written}
use Rattle.rubis_laws.proofs.Audits.AuditReadings.{after_line}
use Rattle.rubis_laws.proofs.Widening.WidenedRecords.{audit_stays}
use Rattle.rubis_engine.proofs.ReadBack.{HaveFields}
use Rattle.rubis_audit.specs.Forms.{logs_at, place_after, place_in, place_in_logs}
use Rattle.rubis_audit.specs.Running.{bad_record, widened_rows, widening_from, WidenedAuditStays, WidenedTextReadsBack}
use Rattle.rubis_audit.specs.declared.widener.LinePlace.{LinePlace}
use Rattle.rubis_audit.specs.declared.widener.LinePlace.TheVariants.{BeforeLogs, InMessages, InRows}

begins : (p : LinePlace) (site : ℕ) → place_after p (Begin site) ≡ Some InMessages
begins BeforeLogs site = refl
begins InMessages site = refl
begins InRows site = refl

-- where a record may stand, and where the next one then does
places : (logs : List Log) (x : Line) → option_map place_in_logs (with_line logs x) ≡ place_after (place_in_logs logs) x
places logs (Begin site) = sym (begins (place_in_logs logs) site)
places [] (Next m) = refl
places [] (Claim row) = refl
places (log ∷ logs) (Next m) = at log.rows
  where
    at : (o : Option (List (List (List ℕ)))) → option_map place_in_logs (with_line (record log { rows = o } ∷ logs) (Next m)) ≡ place_after (place_in o) (Next m)
    at None = refl
    at (Some rows) = refl
places (log ∷ logs) (Claim row) = at log.rows
  where
    at : (o : Option (List (List (List ℕ)))) → option_map place_in_logs (with_line (record log { rows = o } ∷ logs) (Claim row))
        ≡ place_after (place_in o) (Claim row)
    at None = refl
    at (Some rows) = refl

pub place_at : (p : LinePlace) → place_in_logs (logs_at p) ≡ p
place_at BeforeLogs = refl
place_at InMessages = refl
place_at InRows = refl

-- what is written for a record and those after it
abbrev pub rows_after : ℕ → ℕ → ℕ → List (List ℕ) → List (List (List ℕ)) → Option (List Log) → List (List (List ℕ))
rows_after from to n fields rest o =
    elim o as (λ _. List (List ℕ)) [ None ↦ bad_record n | Some more ↦ widened_record from to fields ]
    ∷ elim o as (λ _. List (List (List ℕ))) [ None ↦ [] | Some more ↦ widened_rows from to (n + 1) more rest ]

-- what is so of the records after a record
abbrev pub Alike : ℕ → ℕ → ℕ → List (List (List ℕ)) → Type 0
Alike from to n rest = (a b : List Log) → place_in_logs a ≡ place_in_logs b → widened_rows from to n a rest ≡ widened_rows from to n b rest

some_same : {X : Type 0} (x y : X) → Some x ≡ Some y → x ≡ y
some_same x y e = cc

after_alike : (from to n : ℕ) (fields : List (List ℕ)) (rest : List (List (List ℕ))) (p q : Option (List Log)) → option_map place_in_logs p ≡ option_map place_in_logs q →
    Alike from to (n + 1) rest
    → rows_after from to n fields rest p ≡ rows_after from to n fields rest q
after_alike from to n fields rest None None e ih = refl
after_alike from to n fields rest None (Some y) e ih = absurd cc
after_alike from to n fields rest (Some x) None e ih = absurd cc
after_alike from to n fields rest (Some x) (Some y) e ih = ap (λ rows. widened_record from to fields ∷ rows) (ih x y (some_same (place_in_logs x) (place_in_logs y) e))

pub alike : (from to : ℕ) (records : List (List (List ℕ))) (n : ℕ) → Alike from to n records
alike from to [] n a b e = refl
alike from to (fields ∷ rest) n a b e = line (line_of from fields) (alike from to rest (n + 1))
  where
    line : (o : Option Line) → Alike from to (n + 1) rest → rows_after from to n fields rest (option_and_then (with_line a) o)
        ≡ rows_after from to n fields rest (option_and_then (with_line b) o)
    line None ih = refl
    line (Some x) ih = after_alike from to n fields rest (with_line a x) (with_line b x) (places a x ∙ ap (λ p. place_after p x) e ∙ sym (places b x)) ih

-- ---- a record is answered
one_row : (row : List (List ℕ)) (rows : List (List (List ℕ))) (sink : List ℕ) → sink ++ rows_text (row ∷ rows) ≡ (sink ++ rows_text (row ∷ []))
    ++ rows_text rows
one_row row rows sink = sym (more_written (row ∷ []) rows sink (sink ++ rows_text (row ∷ [])) ((sink ++ rows_text (row ∷ [])) ++ rows_text rows) refl refl)

rows_go : (from to n : ℕ) (place next : LinePlace) (x : Line) (fields : List (List ℕ)) (rest : List (List (List ℕ))) → line_of from fields ≡ Some x →
    place_after place x ≡ Some next
    → widened_rows from to n (logs_at place) (fields ∷ rest) ≡ line_record (widened_line to x) ∷ widened_rows from to (n + 1) (logs_at next) rest
rows_go from to n place next x fields rest l a =
    ap (λ o. rows_after from to n fields rest (option_and_then (with_line (logs_at place)) o)) l ∙ more (with_line (logs_at place) x) refl
  where
    record_is : widened_record from to fields ≡ line_record (widened_line to x)
    record_is = search

    more : (o : Option (List Log)) → with_line (logs_at place) x ≡ o → rows_after from to n fields rest o
        ≡ line_record (widened_line to x) ∷ widened_rows from to (n + 1) (logs_at next) rest
    more None e = absurd (let p = sym (ap (option_map place_in_logs) e) ∙ places (logs_at place) x ∙ ap (λ p. place_after p x) (place_at place) ∙ a in cc)
    more (Some logs) e =
        let p = sym (ap (option_map place_in_logs) e) ∙ places (logs_at place) x ∙ ap (λ p. place_after p x) (place_at place) ∙ a in
        λ i. record_is i ∷ alike from to rest (n + 1) logs (logs_at next) (some_same (place_in_logs logs) next p ∙ sym (place_at next)) i

pub goes : (from to n : ℕ) (place next : LinePlace) (x : Line) (fields : List (List ℕ)) (sink sink2 : List ℕ) → line_of from fields ≡ Some x →
    place_after place x ≡ Some next
    → sink2 ≡ sink ++ rows_text (line_record (widened_line to x) ∷ [])
    → AnswersRecord GoesOn (widening_from from to n (logs_at place)) (widening_from from to (n + 1) (logs_at next)) sink sink2 fields
goes from to n place next x fields sink sink2 l a s rest = (
  λ ending. ap (λ rows. sink ++ rows_text rows) (rows_go from to n place next x fields rest l a)
      ∙ one_row (line_record (widened_line to x)) (widened_rows from to (n + 1) (logs_at next) rest) sink
      ∙ ap (λ text. text ++ rows_text (widened_rows from to (n + 1) (logs_at next) rest)) (sym s),
  ap length (rows_go from to n place next x fields rest l a)
      ∙ (let e : length (line_record (widened_line to x) ∷ widened_rows from to (n + 1) (logs_at next) rest)
      ≡ length (widened_rows from to (n + 1) (logs_at next) rest) + 1 = omega arith in e),
)

-- ---- an audit of what was widened

-- what follows a record that is in the grammar
Widens : ℕ → ℕ → ℕ → List Log → List (List (List ℕ)) → Type 0
Widens from to n logs records = (last : List Log) → logs_after from n logs records ≡ Ok last
    → (widened_rows from to n logs records ≡ map (widened_record from to) records) × HaveFields (map (widened_record from to) records)

some_fields : (from to : ℕ) → from ≤ COUNTED_MAX → (fields : List (List ℕ)) (x : Line) → line_of from fields ≡ Some x → widened_record from to fields ≢ []
some_fields from to few fields x p =
    let is : widened_record from to fields ≡ line_record (widened_line to x) = search in
    λ none. at x (line_only from few fields x p).0 (sym is ∙ none)
  where
    at : (x : Line) → IsLine from x → line_record (widened_line to x) ≢ []
    at (Begin site) h = λ e. cc
    at (Next m) h = λ e. cc
    at (Claim row) h = λ e. let q = sym h.1 ∙ e in cc

widens : (from to : ℕ) → from ≤ COUNTED_MAX → (records : List (List (List ℕ))) (n : ℕ) (logs : List Log) → Widens from to n logs records
unfolding Widens
widens from to few [] n logs last e = (refl, λ row h. absurd h)
widens from to few (fields ∷ rest) n logs last e = line (line_of from fields) refl e (λ more. widens from to few rest (n + 1) more)
  where
    step : (x : Line) (o : Option (List Log)) → line_of from fields ≡ Some x → with_line logs x ≡ o → after_line from n rest o ≡ Ok last →
        ((more : List Log) → Widens from to (n + 1) more rest)
        → (widened_rows from to n logs (fields ∷ rest) ≡ map (widened_record from to) (fields ∷ rest))
        × HaveFields (map (widened_record from to) (fields ∷ rest))
    step x None p q f ih = absurd cc
    step x (Some more) p q f ih =
        let r = ih more last f in
        let next : option_and_then (with_line logs) (line_of from fields) ≡ Some more = ap (option_and_then (with_line logs)) p ∙ q in (
          ap (rows_after from to n fields rest) next
              ∙ ap (λ rows. widened_record from to fields ∷ rows) r.0,
          λ row h. ⊎_elim (λ s. subst (λ (w : List (List ℕ)). w ≢ []) (sym s) (some_fields from to few fields x p)) (r.1 row) h,
        )

    line : (o : Option Line) → line_of from fields ≡ o → after_line from n rest (option_and_then (with_line logs) o) ≡ Ok last →
        ((more : List Log) → Widens from to (n + 1) more rest)
        → (widened_rows from to n logs (fields ∷ rest) ≡ map (widened_record from to) (fields ∷ rest))
        × HaveFields (map (widened_record from to) (fields ∷ rest))
    line None p f ih = absurd cc
    line (Some x) p f ih = step x (with_line logs x) p refl f ih

-- the first record names a site, so the text begins with no byte order mark
no_mark_first : (from to : ℕ) (records : List (List (List ℕ))) (last : List Log) → logs_after from 1 [] records ≡ Ok last →
    HasNoMark (rows_text (map (widened_record from to) records))
no_mark_first from to [] last e = no_mark [] refl
no_mark_first from to (fields ∷ rest) last e = line (line_of from fields) refl e
  where
    line : (o : Option Line) → line_of from fields ≡ o → after_line from 1 rest (option_and_then (with_line []) o) ≡ Ok last →
        HasNoMark (rows_text (map (widened_record from to) (fields ∷ rest)))
    line None p f = absurd cc
    line (Some (Next m)) p f = absurd cc
    line (Some (Claim row)) p f = absurd cc
    line (Some (Begin site)) p f =
        let is : widened_record from to fields ≡ line_record (Begin site) = search in
        subst (λ (row : List (List ℕ)). HasNoMark (rows_text (row ∷ map (widened_record from to) rest))) (sym is)
        (no_mark (rows_text (line_record (Begin site) ∷ map (widened_record from to) rest)) refl)

pub text_back : WidenedTextReadsBack
unfolding Widens
text_back from to input logs up few e =
    let records = input_records input in
    let all = widens from to (omega (arith, up, few)) records 1 [] logs e in
    subst (λ (rows : List (List (List ℕ))). input_records (rows_text rows) ≡ map (widened_record from to) records) (sym all.0)
    (rows_back (map (widened_record from to) records) all.1 (no_mark_first from to records logs e))

pub audit_text_stays : WidenedAuditStays
audit_text_stays from to input logs up few e =
    ap (λ records. rows_text (audit_of to records ∷ [])) (text_back from to input logs up few e)
    ∙ ap (λ row. rows_text (row ∷ [])) (audit_stays from to (input_records input) logs up few e)
