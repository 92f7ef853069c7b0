-- What is wrong with a record, the first rule that it breaks, and what is written of the records of an input.
use Rattle.std.specs.Prelude.{ℕ, Bool, true, false, List, None, ◌+◌, ◌==◌, ◌&&◌, ◌||◌, not, if◌then◌else◌, cond, bytes_eq, codes, length, nat_lt, slice_index}
use Rattle.std.specs.Prelude.{option_and_then, [], ◌∷◌, Option, Some, ◌≡◌, ◌<◌, ◌≤◌, ◌++◌, decimal, drop, get_or, take}
use Rattle.rubis_message.specs.Inputs.{input_of}
use Rattle.rubis_message.specs.WorldReadings.{world_input}
use Rattle.rubis_message.specs.declared.inputs.Input.{Input}
use Rattle.rubis_message.specs.declared.inputs.Input.TheVariants as input
use Rattle.rubis_message.specs.declared.world_inputs.WorldInput.{WorldInput}
use Rattle.rubis_message.specs.declared.world_inputs.WorldInput.TheVariants.{Asked, Neither}
use Rattle.rubis_audit.specs.declared.checker.Grammar.{Grammar}
use Rattle.rubis_audit.specs.declared.checker.Grammar.TheVariants.{Site, World, Audit}
use Rattle.std.specs.List.{list_any}
use Rattle.std.specs.Option.{option_or}
use Rattle.rubis_schema.specs.NumberForms.{number_of}
use Rattle.rubis_schema.specs.declared.limits.TheConstants.{SEQ_MAX, COUNTED_MAX, RECORDS_MAX}
use Rattle.rubis_message.specs.Counts.{deps_of}
use Rattle.rubis_audit.specs.Forms.{RecordForm, field_at, form_of, wanted, fits}
use Rattle.rubis_audit.specs.declared.forms.Section.{Section}
use Rattle.rubis_audit.specs.declared.forms.Section.TheVariants as section
use Rattle.rubis_audit.specs.declared.record_faults.RecordFault.{RecordFault}
use Rattle.rubis_audit.specs.declared.rules.Rule.{Rule}
use Rattle.rubis_audit.specs.declared.rules.Rule.TheVariants.{BeforeRows, Count, InGrammar, Log, NewNick, Next, OneLine, Record, Request}
use Rattle.rubis_audit.specs.declared.widener.LinePlace.{LinePlace}
use Rattle.rubis_audit.specs.declared.widener.LinePlace.TheVariants.{BeforeLogs, InMessages, InRows}
use Rattle.std.specs.Io.KnownBytes.{Appends}
use Rattle.rubis_engine.specs.Reading.{HasToGive}
use Rattle.rubis_engine.specs.Text.{rows_text}
use Rattle.rubis_engine.specs.Progress.{AppendsFront}
use Rattle.rubis_engine.specs.declared.fault.RunFault.{RunFault}
use Rattle.rubis_engine.specs.declared.fault.RunFault.TheVariants.{Read, TooLong}
use Rattle.rubis_audit.specs.Reasons.{reason_text}
use Rattle.rubis_audit.specs.declared.checker.Check.{Check}
use Rattle.rubis_audit.specs.declared.checker.Checker.{Checker}
use Rattle.rubis_audit.specs.declared.checker.Tally.{Tally}
use Rattle.rubis_audit.specs.declared.line_reader.Recent.{Recent}
use Rattle.rubis_audit.specs.declared.reasons.Lines.{Lines}

-- a packet or a request
abbrev pub is_input : Input → Bool
is_input input.Neither = false
is_input other = true

-- an event, with a request if it is one at a site
abbrev pub is_event : WorldInput → Bool
is_event (Asked i None) = false
is_event Neither = false
is_event other = true

-- a site reads it, or several in one run do
abbrev pub is_read : Grammar → ℕ → List (List ℕ) → Bool
is_read Site sites fields = is_input (input_of sites fields)
is_read World sites fields = is_event (world_input sites fields)
is_read Audit sites fields = false

-- ---- what is wrong with a record: the first rule that it breaks

-- the field with that number, or the whole record by 0, breaks the rule
abbrev pub fault : ℕ → Rule → Option RecordFault
fault n rule = Some (record { field = n; rule = rule })

-- the first of the fields from the number n on that isn't as its rule says
abbrev pub misfit : ℕ → List (List ℕ) → ℕ → List Rule → Option RecordFault
misfit sites fields n [] = None
misfit sites fields n (rule ∷ rules) = if fits sites rule (field_at fields n) then misfit sites fields (n + 1) rules else fault n rule

-- a record of the form whose first word is the field with the number `start` has its count of fields, each as its rule says
abbrev pub form_fault : ℕ → ℕ → List (List ℕ) → RecordForm → Option RecordFault
form_fault sites start fields form =
    let given = length fields in
    if nat_lt given (wanted start form) || (nat_lt (wanted start form) given && not form.is_open) then fault 0 (Count start)
    else misfit sites fields (start + 1) form.rules

abbrev pub next_by : Option ℕ → Option ℕ → Option (List ℕ) → Bool
next_by (Some site) (Some number) (Some counts) = nat_lt site (length counts) && (number == slice_index counts site + 1)
next_by site number counts = false

-- a message counts those of its own site before it
abbrev pub is_next : ℕ → List (List ℕ) → Bool
is_next sites fields = next_by (number_of 255 (field_at fields 3)) (number_of SEQ_MAX (field_at fields 4)) (deps_of sites (field_at fields 6))

-- the fields of a message together: it counts those of its own site before it, and a rename changes the nickname
abbrev pub discord : ℕ → List (List ℕ) → Option RecordFault
discord sites fields =
    if is_next sites fields
    then cond (bytes_eq (field_at fields 7) (codes "rename") && bytes_eq (field_at fields 9) (field_at fields 10)) (fault 10 NewNick) None
    else fault 6 Next

-- the request of a record of a world begins at its third field
abbrev pub request_fault : ℕ → List (List ℕ) → Option RecordFault
request_fault sites fields = elim (form_of 3 fields) [
  | None ↦ fault 3 Request
  | Some form ↦ elim form.section [ section.Request ↦ form_fault sites 3 fields form | _ ↦ fault 3 Request ]
]

-- what else is wrong, where each field is as its rule says
abbrev pub further : ℕ → List (List ℕ) → Section → Option RecordFault
further sites fields section.Message = discord sites fields
further sites fields section.At = request_fault sites fields
further sites fields s = None

-- where nothing else is wrong: in an audit the site of a log comes first, then its messages, and then its rows; and elsewhere it couldn't be read
abbrev pub misplaced : Grammar → LinePlace → Section → Option RecordFault
misplaced Audit place section.LogSite = None
misplaced Audit BeforeLogs s = fault 1 Log
misplaced Audit InRows section.Message = fault 1 BeforeRows
misplaced Audit place s = None
misplaced grammar place s = fault 0 InGrammar

-- the sections of a grammar
abbrev pub has_section : Grammar → Section → Bool
has_section Site s = elim s [ section.Request ↦ true | section.Message ↦ true | section.Token ↦ true | _ ↦ false ]
has_section World s = elim s [ section.At ↦ true | section.Event ↦ true | _ ↦ false ]
has_section Audit s = elim s [ section.Message ↦ true | section.LogSite ↦ true | section.LogRow ↦ true | _ ↦ false ]

abbrev pub fault_in : Grammar → ℕ → LinePlace → List (List ℕ) → Option RecordFault
fault_in grammar sites place fields = elim (form_of 1 fields) [
  | None ↦ fault 1 Record
  | Some form ↦ if has_section grammar form.section
      then option_or (option_or (form_fault sites 1 fields form) (further sites fields form.section)) (misplaced grammar place form.section)
      else fault 1 Record
]

-- only a field in quotes has a line end: if the field at fault has one, or any where there are too few fields or too many, a quote
-- was left open there
abbrev pub has_line_end : List ℕ → Bool
has_line_end field = list_any (λ b. b == 10) field

abbrev pub line_end_from : ℕ → List (List ℕ) → Option ℕ
line_end_from n [] = None
line_end_from n (field ∷ fields) = cond (has_line_end field) (Some n) (line_end_from (n + 1) fields)

abbrev pub line_end_at : List (List ℕ) → ℕ → Option ℕ
line_end_at fields number =
    if number == 0 then line_end_from 1 fields else cond (has_line_end (field_at fields number)) (Some number) None

abbrev pub in_quotes : List (List ℕ) → RecordFault → Option RecordFault
in_quotes fields f = elim (line_end_at fields f.field) [ None ↦ Some f | Some number ↦ fault number OneLine ]

-- what is wrong with a record of the grammar among `sites` sites that stands there
abbrev pub record_fault : Grammar → ℕ → LinePlace → List (List ℕ) → Option RecordFault
record_fault grammar sites place fields = option_and_then (in_quotes fields) (fault_in grammar sites place fields)

-- where the record after it stands
abbrev pub place_after : LinePlace → List (List ℕ) → LinePlace
place_after place fields = elim (form_of 1 fields) [
  | None ↦ place
  | Some form ↦ elim form.section [ section.LogSite ↦ InMessages | section.LogRow ↦ InRows | _ ↦ place ]
]

-- ---- what is written of the records of an input. A record of a site gets no row exactly when `input_of` says that it is a packet or a request, and one of a
-- world exactly when `world_input` is an event, with a request if it is one at a site. Not proved: that no row of a site or a world says `not in the grammar`,
-- that `record_fault` finds something exactly in what an audit calls BadRecord, and in which lines a record stands. Every conversation of the tests is
-- checked, and has to get rows for the records that were refused there, and for no others

-- the bytes that a reader has left which remembers some
abbrev pub recent : {R : Type 0} → (R → Option (List ℕ)) → Recent R → Option (List ℕ)
recent rem r = rem r.inner

-- what is wrong with a record of that grammar which stands there: nothing with what is read
abbrev pub fault_for : Grammar → ℕ → LinePlace → List (List ℕ) → Option RecordFault
fault_for grammar sites place fields = if is_read grammar sites fields then None else record_fault grammar sites place fields

-- where the next one stands, after one with that fault or none
abbrev pub place_for : Grammar → LinePlace → List (List ℕ) → Option RecordFault → LinePlace
place_for Audit place fields None = place_after place fields
place_for grammar place fields fault = place

-- the row of a record that is outside the grammar, and the last row
abbrev pub bad_row : ℕ → ℕ → Lines → RecordFault → List (List ℕ) → List (List ℕ)
bad_row sites number lines fault fields =
    codes "bad" ∷ decimal number ∷ decimal lines.first ∷ decimal fault.field ∷ reason_text sites lines fault fields ∷ []

abbrev pub checked_row : Tally → List (List ℕ)
checked_row tally = codes "checked" ∷ decimal tally.records ∷ decimal tally.bad ∷ []

abbrev pub no_lines : Lines
no_lines = record { first = 0; opened = 0; closed = 0 }

-- the count after one record more, with a fault or without
abbrev pub tally_for : Tally → Option RecordFault → Tally
tally_for t None = record { records = t.records + 1; bad = t.bad }
tally_for t (Some fault) = record { records = t.records + 1; bad = t.bad + 1 }

abbrev pub row_for : ℕ → ℕ → Lines → List (List ℕ) → Option RecordFault → List (List (List ℕ))
row_for sites number lines fields None = []
row_for sites number lines fields (Some fault) = bad_row sites number lines fault fields ∷ []

-- the rows of these records, each of which stands in its lines, after as many records as that
abbrev pub rows_in_lines : Grammar → ℕ → LinePlace → Tally → List Lines → List (List (List ℕ)) → List (List (List ℕ))
rows_in_lines grammar sites place tally lines [] = checked_row tally ∷ []
rows_in_lines grammar sites place tally lines (fields ∷ more) =
    let fault = fault_for grammar sites place fields in
    row_for sites (tally.records + 1) (get_or lines 0 no_lines) fields fault
    ++ rows_in_lines grammar sites (place_for grammar place fields fault) (tally_for tally fault) (drop 1 lines) more

-- how many of them there are, and how many are outside the grammar
abbrev pub tally_from : Grammar → ℕ → LinePlace → Tally → List (List (List ℕ)) → Tally
tally_from grammar sites place tally [] = tally
tally_from grammar sites place tally (fields ∷ more) =
    let fault = fault_for grammar sites place fields in tally_from grammar sites (place_for grammar place fields fault) (tally_for tally fault) more

abbrev pub none_so_far : Tally
none_so_far = record { records = 0; bad = 0 }

-- a checker that can check one record more
pub record CanCheckOneMore (c : Checker) : Type 0 where
  pub few : c.sites ≤ COUNTED_MAX
  pub room : c.tally.records < RECORDS_MAX
  pub fewer : c.tally.bad ≤ c.tally.records

-- what is known after one record more
abbrev pub checker_after : Checker → List (List ℕ) → Checker
checker_after c fields =
    let fault = fault_for c.grammar c.sites c.place fields in
    record { grammar = c.grammar; sites = c.sites; place = place_for c.grammar c.place fields fault; tally = tally_for c.tally fault }

-- the row of a record was written for some lines, if there is one
abbrev pub HasRowOf : Checker → List (List ℕ) → List ℕ → List ℕ → Type 0
HasRowOf c fields before after =
    (lines : Lines) × (after ≡ before ++ rows_text (row_for c.sites (c.tally.records + 1) lines fields (fault_for c.grammar c.sites c.place fields)))

-- the record that was read last was checked: it is counted, and its row is written, if there is one
pub record ChecksRow {R : Type 0} (old new : Check R) : Type 0 where
  pub checker : new.checker ≡ checker_after old.checker old.records.row
  pub rows : HasRowOf old.checker old.records.row old.sink new.sink

-- a record that was found is counted, and no more records are bad than there are
pub record CountsNext (found : Bool) (old new : Tally) : Type 0 where
  pub counted : found ≡ true → new.records ≡ old.records + 1
  pub fewer : new.bad ≤ new.records

-- a check of all these records stands there, with `old` in its writer before and `now` by now: of whatever records might have followed those
-- that it has checked, the rows for some lines are what was written and what is still to be
pub record HasChecked {R : Type 0} (rem : R → Option (List ℕ)) (grammar : Grammar) (sites : ℕ) (check : Check R) (old now : Option (List ℕ))
    (all : List (List (List ℕ))) : Type 0 where
  pub same_grammar : check.checker.grammar ≡ grammar
  pub same_sites : check.checker.sites ≡ sites
  pub before : List (List (List ℕ))
  pub rest : List (List (List ℕ))
  pub split : all ≡ before ++ rest
  pub number : check.checker.tally.records ≡ length before
  pub gives : HasToGive (recent rem) check.records.reader rest
  pub out : List ℕ
  pub appended : Appends old now out
  pub told : (more : List (List (List ℕ))) (lines : List Lines) → (earlier : List Lines)
      × (rows_text (rows_in_lines grammar sites BeforeLogs none_so_far earlier (before ++ more))
      ≡ out ++ (check.sink ++ rows_text (rows_in_lines grammar sites check.checker.place check.checker.tally lines more)))
  pub counted : (more : List (List (List ℕ))) → tally_from grammar sites BeforeLogs none_so_far (before ++ more)
      ≡ tally_from grammar sites check.checker.place check.checker.tally more

-- and no record is left
pub record HasCheckedAll (grammar : Grammar) (sites : ℕ) (tally : Tally) (sink : List ℕ) (old now : Option (List ℕ)) (all : List (List (List ℕ))) : Type 0 where
  pub out : List ℕ
  pub appended : Appends old now out
  pub lines : List Lines
  pub told : rows_text (rows_in_lines grammar sites BeforeLogs none_so_far lines all) ≡ out ++ (sink ++ rows_text (checked_row tally ∷ []))
  pub counted : tally_from grammar sites BeforeLogs none_so_far all ≡ tally

-- of every check that stands there this holds, of all its records and what stood in its writer
abbrev pub OfEachCheck : {R : Type 0} → (R → Option (List ℕ)) → Check R → Option (List ℕ) →
    (Grammar → ℕ → Option (List ℕ) → List (List (List ℕ)) → Type 0) → Type 0
OfEachCheck rem check now holds = (grammar : Grammar) (sites : ℕ) (old : Option (List ℕ)) (all : List (List (List ℕ)))
    → HasChecked rem grammar sites check old now all → holds grammar sites old all

-- all records of an input were checked: for some lines their rows were written
abbrev pub IsChecked : Grammar → ℕ → Option (List ℕ) → Option (List ℕ) → List (List (List ℕ)) → Tally → Type 0
IsChecked grammar sites old now records tally =
    ((lines : List Lines) × Appends old now (rows_text (rows_in_lines grammar sites BeforeLogs none_so_far lines records)))
    × (tally ≡ tally_from grammar sites BeforeLogs none_so_far records)

-- the first `many` records were checked, and no more: for some lines their rows were written, but for the last row, which counts
abbrev pub IsCheckedTo : ℕ → Grammar → ℕ → Option (List ℕ) → Option (List ℕ) → List (List (List ℕ)) → Type 0
IsCheckedTo many grammar sites old now records = (many ≤ length records) × (lines : List Lines) × (out : List ℕ) × Appends old now out
    × (rows_text (rows_in_lines grammar sites BeforeLogs none_so_far lines (take many records))
    ≡ out ++ rows_text (checked_row (tally_from grammar sites BeforeLogs none_so_far (take many records)) ∷ []))

-- what a check had written of the rows of these records when it broke off: those of as many as may be checked, where there are more; those of
-- the records that came, where the reader failed; and a prefix of all rows, where memory ran out or the writer failed
abbrev pub StopsChecking : Grammar → ℕ → Option (List ℕ) → Option (List ℕ) → List (List (List ℕ)) → RunFault → Type 0
StopsChecking grammar sites old now records TooLong = (RECORDS_MAX < length records) × IsCheckedTo RECORDS_MAX grammar sites old now records
StopsChecking grammar sites old now records Read = (many : ℕ) × IsCheckedTo many grammar sites old now records
StopsChecking grammar sites old now records fault =
    (lines : List Lines) × AppendsFront old now (rows_text (rows_in_lines grammar sites BeforeLogs none_so_far lines records))
