-- How a check goes on.
use Rattle.rubis_audit.proofs.Common.{◌≡◌, ◌∙◌, ◌+◌, ◌++◌, ◌∷◌, ◌<◌, ◌≤◌, [], ℕ, List, Option, true, false, ap, append-nil, append_assoc, arith, inl, inr}
use Rattle.rubis_audit.proofs.Common.{length, refl, subst, sym, take, IfSome, None, RECORDS_MAX, Some, Appends, ReadsNext, rows_text, text-goes}
use Rattle.csv.specs.declared.reader.Reader.{Reader}
use Rattle.csv.proofs.WriteFacts.{appends-more, appends-none}
use Rattle.std.specs.Prelude.{◌⊎◌, Err, IfErr, IsErr, IsErrAnd, Ok, Result}
use Rattle.std.proofs.Math.Seq.{take-append_seam}
use Rattle.std.proofs.lemmas.List.{length-append}
use Rattle.rubis_engine.specs.Progress.{AppendsFront}
use Rattle.rubis_engine.specs.Reading.{HasToGive}
use Rattle.rubis_engine.specs.declared.fault.RunFault.{RunFault}
use Rattle.rubis_engine.specs.declared.fault.RunFault.TheVariants.{Memory, Read, TooLong, Write}
use Rattle.rubis_audit.specs.Checking.{HasChecked, HasCheckedAll, HasRowOf, IsCheckedTo, StopsChecking, checked_row, checker_after, fault_for, none_so_far}
use Rattle.rubis_audit.specs.Checking.{place_for, recent, row_for, rows_in_lines, tally_for, tally_from}
use Rattle.rubis_audit.specs.declared.checker.Check.{Check}
use Rattle.rubis_audit.specs.declared.checker.Grammar.{Grammar}
use Rattle.rubis_audit.specs.declared.checker.Tally.{Tally}
use Rattle.rubis_audit.specs.declared.line_reader.Recent.{Recent}
use Rattle.rubis_audit.specs.declared.reasons.Lines.{Lines}
use Rattle.rubis_audit.specs.declared.record_faults.RecordFault.{RecordFault}
use Rattle.rubis_audit.specs.declared.widener.LinePlace.TheVariants.{BeforeLogs}

-- a record is counted, whatever is wrong with it
one_counted : (t : Tally) (fault : Option RecordFault) → (tally_for t fault).records ≡ t.records + 1
one_counted t None = refl
one_counted t (Some fault) = refl

module _ {R : Type 0} (rem : R → Option (List ℕ)) (grammar : Grammar) (sites : ℕ) (a b : Check R) (old now : Option (List ℕ)) (all : List (List (List ℕ)))
    (so_far : HasChecked rem grammar sites a old now all) where
  -- a record was checked
  pub row_goes : (reader : Reader (Recent R)) (fields : List (List ℕ)) → ReadsNext (recent rem) a.records.reader reader true fields → b.records.reader ≡ reader
      → b.checker ≡ checker_after a.checker fields → HasRowOf a.checker fields a.sink b.sink → HasChecked rem grammar sites b old now all
  row_goes reader fields takes same state row =
      let (more, first, gives) = takes so_far.rest so_far.gives in
      let was = a.checker.place in
      let fault = fault_for grammar sites was fields in
      let g = so_far.same_grammar in
      let s = so_far.same_sites in
      let place : b.checker.place ≡ place_for grammar was fields fault = ap (λ c. c.place) state
      ∙ (λ i. place_for (g i) was fields (fault_for (g i) (s i) was fields)) in
      let tally : b.checker.tally ≡ tally_for a.checker.tally fault = ap (λ c. c.tally) state
      ∙ (λ i. tally_for a.checker.tally (fault_for (g i) (s i) was fields)) in
      let wrote : b.sink ≡ a.sink ++ rows_text (row_for sites (a.checker.tally.records + 1) row.0 fields fault) =
      row.1 ∙ (λ i. a.sink ++ rows_text (row_for (s i) (a.checker.tally.records + 1) row.0 fields (fault_for (g i) (s i) was fields))) in
      record {
        same_grammar = ap (λ c. c.grammar) state ∙ g;
        same_sites = ap (λ c. c.sites) state ∙ s;
        before = so_far.before ++ fields ∷ [];
        rest = more;
        split = so_far.split ∙ ap (λ r. so_far.before ++ r) first ∙ sym (append_assoc so_far.before (fields ∷ []) more);
        number = ap (λ t. t.records) tally ∙ one_counted a.checker.tally fault ∙ ap (λ n. n + 1) so_far.number
            ∙ sym (length-append so_far.before (fields ∷ []));
        gives = subst (λ r. HasToGive (recent rem) r more) (sym same) gives;
        out = so_far.out;
        appended = so_far.appended;
        told = λ later lines.
            let t = so_far.told (fields ∷ later) (row.0 ∷ lines) in
            let step = text-goes a.sink b.sink (row_for sites (a.checker.tally.records + 1) row.0 fields fault)
            (rows_in_lines grammar sites (place_for grammar was fields fault) (tally_for a.checker.tally fault) lines later) wrote
            ∙ (λ i. b.sink ++ rows_text (rows_in_lines grammar sites (sym place i) (sym tally i) lines later)) in (
              t.0,
              ap (λ xs. rows_text (rows_in_lines grammar sites BeforeLogs none_so_far t.0 xs)) (append_assoc so_far.before (fields ∷ []) later)
                  ∙ t.1 ∙ ap (λ x. so_far.out ++ x) step,
            );
        counted = λ later. ap (tally_from grammar sites BeforeLogs none_so_far) (append_assoc so_far.before (fields ∷ []) later)
            ∙ so_far.counted (fields ∷ later) ∙ (λ i. tally_from grammar sites (sym place i) (sym tally i) later);
      }

  -- what was held is written out
  pub drained : (now2 : Option (List ℕ)) → Appends now now2 a.sink → b.records ≡ a.records → b.checker ≡ a.checker → b.sink ≡ []
      → HasChecked rem grammar sites b old now2 all
  drained now2 out same state empty = record {
    same_grammar = ap (λ c. c.grammar) state ∙ so_far.same_grammar;
    same_sites = ap (λ c. c.sites) state ∙ so_far.same_sites;
    before = so_far.before;
    rest = so_far.rest;
    split = so_far.split;
    number = ap (λ c. c.tally.records) state ∙ so_far.number;
    gives = subst (λ r. HasToGive (recent rem) r.reader so_far.rest) (sym same) so_far.gives;
    out = so_far.out ++ a.sink;
    appended = appends-more old now now2 so_far.out a.sink so_far.appended out;
    told = λ later lines.
        let t = so_far.told later lines in
        let left = rows_text (rows_in_lines grammar sites a.checker.place a.checker.tally lines later) in (
          t.0,
          t.1 ∙ sym (append_assoc so_far.out a.sink left)
              ∙ (λ i. (so_far.out ++ a.sink) ++ (sym empty i ++ rows_text (rows_in_lines grammar sites (sym state i).place (sym state i).tally lines later))),
        );
    counted = λ later. so_far.counted later ∙ (λ i. tally_from grammar sites (sym state i).place (sym state i).tally later);
  }

  -- no record is left
  pub through : (reader : Reader (Recent R)) (fields : List (List ℕ)) → ReadsNext (recent rem) a.records.reader reader false fields
      → HasCheckedAll grammar sites a.checker.tally a.sink old now all
  through reader fields takes =
      let none = takes so_far.rest so_far.gives in
      let t = so_far.told [] [] in
      let whole = so_far.split ∙ ap (λ r. so_far.before ++ r) none in
      record {
        out = so_far.out;
        appended = so_far.appended;
        lines = t.0;
        told = ap (λ xs. rows_text (rows_in_lines grammar sites BeforeLogs none_so_far t.0 xs)) whole ∙ t.1;
        counted = ap (tally_from grammar sites BeforeLogs none_so_far) whole ∙ so_far.counted [];
      }

  -- the records that came were checked, and their rows are written
  pub checked_to : (now2 : Option (List ℕ)) → Appends now now2 a.sink → IsCheckedTo (length so_far.before) grammar sites old now2 all
  checked_to now2 wrote =
      let t = so_far.told [] [] in
      let came = ap (take (length so_far.before)) so_far.split ∙ take-append_seam so_far.before so_far.rest ∙ sym (append-nil so_far.before) in
      let inside : length so_far.before ≤ length all =
      subst (λ n. length so_far.before ≤ n) (sym (ap length so_far.split ∙ length-append so_far.before so_far.rest)) (omega arith) in (
        inside,
        t.0,
        so_far.out ++ a.sink,
        appends-more old now now2 so_far.out a.sink so_far.appended wrote,
        ap (λ xs. rows_text (rows_in_lines grammar sites BeforeLogs none_so_far t.0 xs)) came ∙ t.1
            ∙ sym (append_assoc so_far.out a.sink (rows_text (checked_row a.checker.tally ∷ [])))
            ∙ ap (λ k. (so_far.out ++ a.sink) ++ rows_text (checked_row k ∷ []))
            (sym (ap (tally_from grammar sites BeforeLogs none_so_far) came ∙ so_far.counted [])),
      )

  -- a prefix of all rows is written
  pub written_front : (now2 : Option (List ℕ)) → AppendsFront now now2 a.sink
      → (lines : List Lines) × AppendsFront old now2 (rows_text (rows_in_lines grammar sites BeforeLogs none_so_far lines all))
  written_front now2 (written, left, wrote, parts) =
      let t = so_far.told so_far.rest [] in
      let later = rows_text (rows_in_lines grammar sites a.checker.place a.checker.tally [] so_far.rest) in
      let whole = append_assoc so_far.out written (left ++ later)
      ∙ ap (λ x. so_far.out ++ x) (sym (append_assoc written left later) ∙ ap (λ x. x ++ later) parts)
      ∙ sym (ap (λ xs. rows_text (rows_in_lines grammar sites BeforeLogs none_so_far t.0 xs)) so_far.split ∙ t.1) in
      (t.0, (so_far.out ++ written, left ++ later, appends-more old now now2 so_far.out written so_far.appended wrote, whole))

  -- no record could be read, and what was held is written out
  pub stops : (now2 : Option (List ℕ)) (fault : RunFault) → (fault ≡ Read) ⊎ (fault ≡ Memory) → Appends now now2 a.sink
      → StopsChecking grammar sites old now2 all fault
  stops now2 fault (inl is) wrote = subst (StopsChecking grammar sites old now2 all) (sym is) (length so_far.before, checked_to now2 wrote)
  stops now2 fault (inr is) wrote =
      subst (StopsChecking grammar sites old now2 all) (sym is) (written_front now2 (a.sink, [], wrote, append-nil a.sink))

  -- memory ran out, or the writer failed
  pub breaks : (now2 : Option (List ℕ)) (fault : RunFault) → (fault ≡ Memory) ⊎ (fault ≡ Write) → AppendsFront now now2 a.sink
      → StopsChecking grammar sites old now2 all fault
  breaks now2 fault (inl is) wrote = subst (StopsChecking grammar sites old now2 all) (sym is) (written_front now2 wrote)
  breaks now2 fault (inr is) wrote = subst (StopsChecking grammar sites old now2 all) (sym is) (written_front now2 wrote)

  -- as many records were checked as may be, and there is another one
  pub is_too_long : (now2 : Option (List ℕ)) (reader : Reader (Recent R)) (fields : List (List ℕ))
      → ReadsNext (recent rem) a.records.reader reader true fields → a.checker.tally.records ≡ RECORDS_MAX → Appends now now2 a.sink
      → StopsChecking grammar sites old now2 all TooLong
  is_too_long now2 reader fields takes full wrote =
      let (more, first, gives) = takes so_far.rest so_far.gives in
      let many = sym so_far.number ∙ full in
      let another = ap length first in (
        subst (λ n. RECORDS_MAX < n) (sym (ap length so_far.split ∙ length-append so_far.before so_far.rest)) (omega (arith, many, another)),
        subst (λ n. IsCheckedTo n grammar sites old now2 all) many (checked_to now2 wrote),
      )

-- a check before its first record
pub begun : {R : Type 0} (rem : R → Option (List ℕ)) (check : Check R) (old : Option (List ℕ)) (all : List (List (List ℕ)))
    → HasToGive (recent rem) check.records.reader all → check.checker.place ≡ BeforeLogs → check.checker.tally ≡ none_so_far → check.sink ≡ []
    → HasChecked rem check.checker.grammar check.checker.sites check old old all
begun rem check old all gives place tally empty = record {
  same_grammar = refl;
  same_sites = refl;
  before = [];
  rest = all;
  split = refl;
  number = ap (λ t. t.records) tally;
  gives = gives;
  out = [];
  appended = appends-none old;
  told = λ more lines.
      (lines, λ i. sym empty i ++ rows_text (rows_in_lines check.checker.grammar check.checker.sites (sym place i) (sym tally i) lines more));
  counted = λ more i. tally_from check.checker.grammar check.checker.sites (sym place i) (sym tally i) more;
}

-- a record was read and checked, with `m` between
pub one_more : {R : Type 0} (rem : R → Option (List ℕ)) (grammar : Grammar) (sites : ℕ) (a m b : Check R) (old now : Option (List ℕ))
    (all : List (List (List ℕ)))
    → HasChecked rem grammar sites a old now all → ReadsNext (recent rem) a.records.reader m.records.reader true m.records.row
    → m.checker ≡ a.checker → m.sink ≡ a.sink → b.records ≡ m.records → b.checker ≡ checker_after m.checker m.records.row
    → HasRowOf m.checker m.records.row m.sink b.sink → HasChecked rem grammar sites b old now all
one_more rem grammar sites a m b old now all h takes kept held same state row =
    row_goes rem grammar sites a b old now all h m.records.reader m.records.row takes (ap (λ r. r.reader) same)
    (state ∙ ap (λ c. checker_after c m.records.row) kept)
    (subst (λ s. HasRowOf a.checker m.records.row s b.sink) held (subst (λ c. HasRowOf c m.records.row m.sink b.sink) kept row))

-- no record was read, and `m` stands there after
pub none_more : {R : Type 0} (rem : R → Option (List ℕ)) (grammar : Grammar) (sites : ℕ) (a m : Check R) (old now : Option (List ℕ))
    (all : List (List (List ℕ)))
    → HasChecked rem grammar sites a old now all → ReadsNext (recent rem) a.records.reader m.records.reader false m.records.row
    → m.checker ≡ a.checker → m.sink ≡ a.sink → HasCheckedAll grammar sites m.checker.tally m.sink old now all
none_more rem grammar sites a m old now all h takes kept held =
    subst (λ s. HasCheckedAll grammar sites m.checker.tally s old now all) (sym held)
    (subst (λ k. HasCheckedAll grammar sites k.tally a.sink old now all) (sym kept)
    (through rem grammar sites a a old now all h m.records.reader m.records.row takes))

pub if_some_so : {A : Type 0} {P Q : A → Type 0} (o : Option A) → IfSome o P → ((x : A) → P x → Q x) → IfSome o Q
if_some_so None h k = tt
if_some_so (Some x) h k = k x h

-- what holds of a fault holds of a result that hands it on
pub handed_on : {T : Type 0} (P : RunFault → Type 0) (r : Result T RunFault) (e : RunFault) → IsErr r × IsErrAnd r (λ f. f ≡ e) → P e → IfErr r P
handed_on P (Ok v) e handed h = tt
handed_on P (Err x) e handed h = subst P (sym handed.1) h

pub if_err_so : {T E : Type 0} (P Q : E → Type 0) (r : Result T E) → ((e : E) → P e → Q e) → IfErr r P → IfErr r Q
if_err_so P Q (Ok v) goes h = tt
if_err_so P Q (Err e) goes h = goes e h

-- the last rows couldn't be written, or not all of them
last_front : (grammar : Grammar) (sites : ℕ) (tally : Tally) (sink : List ℕ) (old now now2 : Option (List ℕ)) (all : List (List (List ℕ)))
    → HasCheckedAll grammar sites tally sink old now all → AppendsFront now now2 (sink ++ rows_text (checked_row tally ∷ []))
    → (lines : List Lines) × AppendsFront old now2 (rows_text (rows_in_lines grammar sites BeforeLogs none_so_far lines all))
last_front grammar sites tally sink old now now2 all h (written, left, wrote, parts) =
    let whole = append_assoc h.out written left ∙ ap (λ x. h.out ++ x) parts ∙ sym h.told in
    (h.lines, (h.out ++ written, left, appends-more old now now2 h.out written h.appended wrote, whole))

pub last_broke : (grammar : Grammar) (sites : ℕ) (tally : Tally) (sink : List ℕ) (old now now2 : Option (List ℕ)) (all : List (List (List ℕ)))
    (fault : RunFault) → HasCheckedAll grammar sites tally sink old now all → fault ≡ Write
    → AppendsFront now now2 (sink ++ rows_text (checked_row tally ∷ [])) → StopsChecking grammar sites old now2 all fault
last_broke grammar sites tally sink old now now2 all fault h is front =
    subst (StopsChecking grammar sites old now2 all) (sym is) (last_front grammar sites tally sink old now now2 all h front)
