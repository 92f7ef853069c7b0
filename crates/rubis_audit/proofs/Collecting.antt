-- How an auditor goes on with the records that it reads.
use Rattle.rubis_audit.proofs.Common.{ℕ, ◌≡◌, ◌∙◌, List, [], ◌∷◌, Bool, true, false, cond, refl, ap, Option, Some, None, ◌+◌, ◌++◌, sym, subst}
use Rattle.rubis_audit.proofs.Common.{⊎_elim, arith, ◌≢◌, ◌≤◌, bytes_eq, nat_lt, option_and_then, option_map, Ok, reverse, suc, option_or}
use Rattle.rubis_audit.proofs.Common.{packet_of, Line, line_of, logs_after, with_line, audit_of, Begin, Claim, Message, sites_of, Log, verdict, Has}
use Rattle.rubis_audit.proofs.Common.{has_reverse, push_cases, AnswersRecord, rows_text, input_records, GoesOn, Ends, Appends, COUNTED_MAX, Agree}
use Rattle.rubis_audit.proofs.Common.{Found, HasNoMark, no_mark, rows_back}
use Rattle.std.specs.Prelude.{codes, OnErr, OnOk, Result, Err}
use Rattle.rubis_schema.specs.NumberForms.{number_of}
use Rattle.rubis_message.specs.Readings.{Form, followed_by, beside, check, give, mapped, no_more, take_site, whole}
use Rattle.rubis_message.specs.declared.tokens.Packet.{Packet}
use Rattle.rubis_model.specs.AuditRecords.{claim_of, next_of, take_begin, audit_record, verdict_record}
use Rattle.rubis_engine.specs.Accounts.Ending.{AtEnd}
use Rattle.std.proofs.lemmas.List.{append_cancel_left}
use Rattle.rubis_message.specs.declared.answers.Verdict.{Verdict}
use Rattle.rubis_laws.proofs.Audits.Verdicts.{agreed_audits_are_sound}
use Rattle.rubis_engine.specs.Progress.{IsDone}
use Rattle.rubis_audit.specs.Running.{begin_of, is_row, AreForAuditor, HasMessagesAmong, IsCurrentAmong, account_from, answer_text, logs_so_far, read_behind}
use Rattle.rubis_audit.specs.Running.{rows_for, AuditorState, AgreesOnSoundLogs, agreed_text}
use Rattle.rubis_audit.specs.Walks.{HaveMessagesAmong}
use Rattle.rubis_audit.specs.declared.auditor.LogQuestion.{LogQuestion}
use Rattle.rubis_audit.specs.declared.auditor.LogQuestion.TheVariants.{Agreement, Lacks}

-- what `site` is read as, once its tests are known
abbrev behind : Bool → Form Line → Form Line
behind b form fields = followed_by (check b fields) (λ _. form)

abbrev numbered : ℕ → Option ℕ → List (List ℕ) → Option (Line × List (List ℕ))
numbered sites o rest = followed_by (followed_by (beside rest o) (λ n. λ more. followed_by (check (nat_lt n sites) more) (λ _. give n))) (λ n. give (Begin n))

nothing_behind : (sites : ℕ) (b : Bool) → no_more (behind b (mapped Begin (take_site sites)) []) ≡ None
unfolding take_site
nothing_behind sites true = refl
nothing_behind sites false = refl

one_behind : (sites : ℕ) (o : Option ℕ) → no_more (numbered sites o []) ≡ option_map Begin (option_and_then (λ n. cond (nat_lt n sites) (Some n) None) o)
one_behind sites None = refl
one_behind sites (Some k) = at (nat_lt k sites)
  where
    at : (b : Bool) → no_more (followed_by (followed_by (check b []) (λ _. give k)) (λ n. give (Begin n))) ≡ option_map Begin (cond b (Some k) None)
    at true = refl
    at false = refl

more_behind : (sites : ℕ) (o : Option ℕ) (more : List ℕ) (rest : List (List ℕ)) → no_more (numbered sites o (more ∷ rest)) ≡ None
more_behind sites None more rest = refl
more_behind sites (Some k) more rest = at (nat_lt k sites)
  where
    at : (b : Bool) → no_more (followed_by (followed_by (check b (more ∷ rest)) (λ _. give k)) (λ n. give (Begin n))) ≡ None
    at true = refl
    at false = refl

begin_is : (sites : ℕ) (fields : List (List ℕ)) → whole (take_begin sites) fields ≡ option_map Begin (begin_of sites fields)
unfolding take_begin take_site
begin_is sites [] = refl
begin_is sites (word ∷ []) = nothing_behind sites (bytes_eq word (codes "site"))
begin_is sites (word ∷ site ∷ []) = at (bytes_eq word (codes "site"))
  where
    at : (b : Bool) → no_more (behind b (mapped Begin (take_site sites)) (site ∷ []))
        ≡ option_map Begin (cond b (option_and_then (λ n. cond (nat_lt n sites) (Some n) None) (number_of 255 site)) None)
    at true = one_behind sites (number_of 255 site)
    at false = refl
begin_is sites (word ∷ site ∷ more ∷ rest) = at (bytes_eq word (codes "site"))
  where
    at : (b : Bool) → no_more (behind b (mapped Begin (take_site sites)) (site ∷ more ∷ rest)) ≡ None
    at true = more_behind sites (number_of 255 site) more rest
    at false = refl

claim_is : (fields : List (List ℕ)) → claim_of fields ≡ cond (is_row fields) (Some (Claim fields)) None
claim_is [] = refl
claim_is (word ∷ rest) = refl

pub line_is : (sites : ℕ) (fields : List (List ℕ)) → line_of sites fields
    ≡ option_or (option_map Begin (begin_of sites fields))
    (option_or (cond (is_row fields) (Some (Claim fields)) None) (option_and_then next_of (packet_of sites fields)))
line_is sites fields = λ i. option_or (begin_is sites fields i) (option_or (claim_is fields i) (option_and_then next_of (packet_of sites fields)))

-- where no log begins
pub line_by : (sites : ℕ) (fields : List (List ℕ)) (row : Bool) (packet : Option Packet) → begin_of sites fields ≡ None → is_row fields ≡ row →
    packet_of sites fields ≡ packet
    → line_of sites fields ≡ option_or (cond row (Some (Claim fields)) None) (option_and_then next_of packet)
line_by sites fields row packet b r p =
    line_is sites fields ∙ (λ i. option_or (option_map Begin (b i)) (option_or (cond (r i) (Some (Claim fields)) None) (option_and_then next_of (p i))))

-- where one does
pub line_begins : (sites : ℕ) (fields : List (List ℕ)) (site : ℕ) → begin_of sites fields ≡ Some site → line_of sites fields ≡ Some (Begin site)
line_begins sites fields site b =
    line_is sites fields ∙ ap
    (λ o. option_or (option_map Begin o) (option_or (cond (is_row fields) (Some (Claim fields)) None) (option_and_then next_of (packet_of sites fields)))) b

-- ---- how an auditor goes on with the records that it reads

some_same : {X : Type 0} (a b : X) → Some a ≡ Some b → a ≡ b
some_same a b e = cc

pub pushed_among : (sites : ℕ) (current : Option Log) (log log2 : Log) (m : Message) → current ≡ Some log → log2
    ≡ record log { messages = log.messages ++ m ∷ [] }
    → sites_of m ≡ sites → IsCurrentAmong sites current → IsCurrentAmong sites (Some log2)
pushed_among sites current log log2 m c e s among other f u h =
    ⊎_elim (λ l. among log c u l) (λ r. ap sites_of r ∙ s)
    (push_cases u m log.messages (subst (Has u) (ap (λ (x : Log). x.messages) (sym (some_same log2 other f) ∙ e)) h))

all_among : (sites : ℕ) (ended : List Log) (current : Option Log) → AreForAuditor sites ended current → (log : Log) → Has log (reverse (logs_so_far ended current)) →
    HasMessagesAmong sites log
all_among sites ended None a log h = absurd (has_reverse log [] h)
all_among sites ended (Some x) a log h =
    ⊎_elim (λ e. a.current_among log (ap Some (sym e))) (λ r. a.ended_among log (has_reverse log ended r)) (has_reverse log (x ∷ reverse ended) h)

-- the log that was read is appended to those that ended, or all stay
ended_all : {E : Type 0} (r : Result (Unit {0}) E) (sites : ℕ) (ended ended2 : List Log) (current : Option Log) → AreForAuditor sites ended current
    → OnOk r (ended2 ≡ reverse (logs_so_far ended current)) → OnErr r (ended2 ≡ ended) → (log : Log) → Has log ended2 → HasMessagesAmong sites log
ended_all (Ok u) sites ended ended2 current a ok err log h = all_among sites ended current a log (subst (Has log) ok h)
ended_all (Err e) sites ended ended2 current a ok err log h = a.ended_among log (subst (Has log) err h)

-- a log begins
pub begun : {E : Type 0} (r : Result (Unit {0}) E) (sites : ℕ) (ended ended2 : List Log) (current current2 : Option Log) (log2 : Log) →
    AreForAuditor sites ended current
    → OnOk r (ended2 ≡ reverse (logs_so_far ended current)) → OnErr r (ended2 ≡ ended) → current2 ≡ Some log2 → log2.messages ≡ []
    → AreForAuditor sites ended2 current2
begun r sites ended ended2 current current2 log2 a ok err c none = record {
  few = a.few;
  ended_among = ended_all r sites ended ended2 current a ok err;
  current_among = λ log e m h. absurd (subst (Has m) (ap (λ (x : Log). x.messages) (some_same log log2 (sym e ∙ c)) ∙ none) h);
}

-- no log is read any more
pub all_ended : {E : Type 0} (r : Result (Unit {0}) E) (sites : ℕ) (ended ended2 : List Log) (current current2 : Option Log) → AreForAuditor sites ended current
    → OnOk r (ended2 ≡ reverse (logs_so_far ended current)) → OnErr r (ended2 ≡ ended) → current2 ≡ None
    → AreForAuditor sites ended2 current2
all_ended r sites ended ended2 current current2 a ok err c = record {
  few = a.few;
  ended_among = ended_all r sites ended ended2 current a ok err;
  current_among = λ log e. absurd (let q : None ≡ Some log = sym c ∙ e in cc);
}

-- the logs that ended are all that were read
pub read_among : (sites : ℕ) (ended logs : List Log) (current : Option Log) → AreForAuditor sites ended current → logs ≡ reverse (logs_so_far ended current) →
    HaveMessagesAmong sites logs
read_among sites ended logs current a e log h = all_among sites ended current a log (subst (Has log) e h)

-- ---- what is made of the records
read_next : (sites : ℕ) (logs : List Log) (fields : List (List ℕ)) (rest : List (List (List ℕ))) (o : Option (List Log)) →
    option_and_then (with_line logs) (line_of sites fields) ≡ o
    → read_behind sites logs (fields ∷ rest) ≡ suc (elim o [ None ↦ 0 | Some more ↦ read_behind sites more rest ])
read_next sites logs fields rest o e = ap (λ (p : Option (List Log)). suc (elim p as (λ _. ℕ) [ None ↦ 0 | Some more ↦ read_behind sites more rest ])) e

after_goes : (sites n : ℕ) (logs more : List Log) (line : Line) (fields : List (List ℕ)) (rest : List (List (List ℕ))) → line_of sites fields ≡ Some line →
    with_line logs line ≡ Some more
    → logs_after sites n logs (fields ∷ rest) ≡ logs_after sites (n + 1) more rest
after_goes sites n logs more line fields rest l w =
    ap (λ o. elim o as (λ _. Result (List Log) ℕ) [ None ↦ Err n | Some x ↦ logs_after sites (n + 1) x rest ]) (ap (option_and_then (with_line logs)) l ∙ w)

after_ends : (sites n : ℕ) (logs : List Log) (fields : List (List ℕ)) (rest : List (List (List ℕ))) → option_and_then (with_line logs) (line_of sites fields)
    ≡ None
    → logs_after sites n logs (fields ∷ rest) ≡ Err n
after_ends sites n logs fields rest e = ap (λ o. elim o as (λ _. Result (List Log) ℕ) [ None ↦ Err n | Some x ↦ logs_after sites (n + 1) x rest ]) e

pub goes : (asked : LogQuestion) (sites n : ℕ) (logs more : List Log) (line : Line) (fields : List (List ℕ)) (sink sink2 : List ℕ) → line_of sites fields
    ≡ Some line → with_line logs line ≡ Some more
    → sink2 ≡ sink → AnswersRecord GoesOn (account_from asked sites n logs) (account_from asked sites (n + 1) more) sink sink2 fields
goes asked sites n logs more line fields sink sink2 l w s rest = (
  λ ending i. sym s i ++ answer_text asked ending (after_goes sites n logs more line fields rest l w i),
  read_next sites logs fields rest (Some more) (ap (option_and_then (with_line logs)) l ∙ w)
      ∙ (let z : suc (read_behind sites more rest) ≡ read_behind sites more rest + 1 = omega arith in z),
)

-- a malformed record is answered alike, whatever is asked
malformed : (asked : LogQuestion) (n : ℕ) → rows_for asked (Err n) ≡ audit_record (Err n) ∷ []
malformed Agreement n = refl
malformed Lacks n = refl

pub ends : (asked : LogQuestion) (sites n : ℕ) (logs more : List Log) (fields : List (List ℕ)) (sink sink2 : List ℕ) →
    option_and_then (with_line logs) (line_of sites fields) ≡ None
    → sink2 ≡ sink ++ rows_text (audit_record (Err n) ∷ []) →
    AnswersRecord Ends (account_from asked sites n logs) (account_from asked sites (n + 1) more) sink sink2 fields
ends asked sites n logs more fields sink sink2 e s rest = (
  ap (λ r. sink ++ answer_text asked AtEnd r) (after_ends sites n logs fields rest e) ∙ ap (λ rows. sink ++ rows_text rows) (malformed asked n) ∙ sym s,
  read_next sites logs fields rest None e,
)

-- ---- an audit that wrote that the logs agree was given sound logs

-- each such record begins with `audit`
verdict_begins : (v : Verdict) → HasNoMark (rows_text (verdict_record v ∷ []))
verdict_begins Agree = no_mark (rows_text (verdict_record Agree ∷ [])) refl
verdict_begins (Found kind log entry) = no_mark (rows_text (verdict_record (Found kind log entry) ∷ [])) refl

begins : (read : Result (List Log) ℕ) → HasNoMark (rows_text (audit_record read ∷ []))
begins (Ok logs) = verdict_begins (verdict (reverse logs))
begins (Err n) = no_mark (rows_text (audit_record (Err n) ∷ [])) refl

some_verdict : (v : Verdict) → verdict_record v ≢ []
some_verdict Agree e = cc
some_verdict (Found kind log entry) e = cc

some_fields : (read : Result (List Log) ℕ) → audit_record read ≢ []
some_fields (Ok logs) = some_verdict (verdict (reverse logs))
some_fields (Err n) = λ e. cc

-- so it is read back
record_back : (read : Result (List Log) ℕ) → input_records (rows_text (audit_record read ∷ [])) ≡ audit_record read ∷ []
record_back read = rows_back (audit_record read ∷ [])
    (λ row h. ⊎_elim (λ s. subst (λ (r : List (List ℕ)). r ≢ []) (sym s) (some_fields read)) (λ no. absurd no) h) (begins read)

agree_back : input_records agreed_text ≡ verdict_record Agree ∷ []
agree_back = rows_back (verdict_record Agree ∷ [])
    (λ row h. ⊎_elim (λ s. subst (λ (r : List (List ℕ)). r ≢ []) (sym s) (some_verdict Agree)) (λ no. absurd no) h) (verdict_begins Agree)

same_front : (a b : List (List ℕ)) → a ∷ [] ≡ b ∷ [] → a ≡ b
same_front a b e = cc

pub agrees_on_sound : (sites : ℕ) (old now : Option (List ℕ)) (records : List (List (List ℕ))) → sites ≤ COUNTED_MAX
    → Appends old now (rows_text (audit_of sites records ∷ [])) → AgreesOnSoundLogs sites old now records
agrees_on_sound sites None now records few wrote before is agreed = absurd cc
agrees_on_sound sites (Some xs) None records few wrote before is agreed = absurd cc
agrees_on_sound sites (Some xs) (Some ys) records few wrote before is agreed =
    let read = logs_after sites 1 [] records in
    let text = rows_text (audit_record read ∷ []) in
    let front : xs ≡ before = cc in
    let whole : ys ≡ before ++ agreed_text = cc in
    let same : text ≡ agreed_text = append_cancel_left before text agreed_text (ap (λ (b : List ℕ). b ++ text) (sym front) ∙ sym wrote ∙ whole) in
    let rows : audit_record read ∷ [] ≡ verdict_record Agree ∷ [] = sym (record_back read) ∙ ap input_records same ∙ agree_back in
    agreed_audits_are_sound sites records few (same_front (audit_record read) (verdict_record Agree) rows)

-- the same of an auditor that had read nothing
pub agrees_fresh : (sites limit count : ℕ) (auditor : AuditorState) (well : Bool) (input : List ℕ) (old now : Option (List ℕ)) → sites ≤ COUNTED_MAX
    → auditor ≡ record { sites = sites; asked = Agreement; logs = []; well = well }
    → IsDone (account_from auditor.asked auditor.sites 1 auditor.logs) limit old now (input_records input) count
    → AgreesOnSoundLogs sites old now (input_records input)
agrees_fresh sites limit count auditor well input old now few fresh done =
    agrees_on_sound sites old now (input_records input) few
    (subst (λ (a : AuditorState). Appends old now ((account_from a.asked a.sites 1 a.logs).text AtEnd (input_records input))) fresh done.0)
