-- The records of several sites are a run of them.
use Rattle.rubis_laws.proofs.Common.{ℕ, ◌≡◌, ◌+◌, ◌^◌, ◌<◌, ◌≤◌, List, [], ◌∷◌, ◌++◌, length, refl, sym, ap, ◌∙◌, subst, arith, Option, Some, None, ⊎_elim}
use Rattle.rubis_laws.proofs.Common.{append_assoc, append-nil, IfSome, codes, map, option_and_then, unwrap_or, range_with_len, option_or, same_Some}
use Rattle.rubis_laws.proofs.Common.{COUNTED_MAX, followed_by, no_more, take_site, whole, request_of, Agree, Request, request_is, verdict_record, SameSet}
use Rattle.rubis_laws.proofs.Common.{InRun, WasLogOf, tables_at, Log, Has, Sound, AreEvents, Event, World, happens, run, site, start, At, Deliver, verdict}
use Rattle.std.specs.Prelude.{take}
use Rattle.rubis_schema.specs.declared.limits.TheConstants.{RECORDS_MAX}
use Rattle.rubis_message.specs.Readings.{Form, take_number}
use Rattle.rubis_message.specs.WorldReadings.{IsWorldInput, asked_with, request_at, take_at, take_audit, take_delivery, take_word, world_input}
use Rattle.rubis_message.specs.declared.world_inputs.WorldInput.{WorldInput}
use Rattle.rubis_message.specs.declared.world_inputs.WorldInput.TheVariants.{Asked, Delivered, Audit, Neither}
use Rattle.rubis_message.proofs.Forms.{given}
use Rattle.rubis_model.specs.Processes.{AnswersAreARun, AuditsAgree, RecordsAreARun, RecordsKeepInvariants, input_events, record_events, world_after, world_at}
use Rattle.rubis_model.specs.WorldRecords.{log_of, logs_of, world_answers, world_output_of, world_step}
use Rattle.rubis_laws.proofs.Audits.Verdicts.{run_faultless, run_formed, faultless_agree}
use Rattle.rubis_laws.proofs.Runs.SoundSteps.{run_sites, event_sites, start_sites}
use Rattle.rubis_laws.proofs.Runs.EveryRun.{equal_tables, every_run, sound_run}

-- ---- what is asked is within the limits

after_some : {A B : Type 0} (P : B → Type 0) (o : Option (A × List (List ℕ))) (next : A → Form B) (y : B) (rest : List (List ℕ))
    → ((x : A) (behind : List (List ℕ)) → next x behind ≡ Some (y, rest) → P y) → followed_by o next ≡ Some (y, rest) → P y
after_some P None next y rest k e = absurd cc
after_some P (Some p) next y rest k e = k p.0 p.1 e

none_left : {A : Type 0} (P : A → Type 0) {y : A} {x : A} (left : List (List ℕ)) → P y → no_more (Some (y, left)) ≡ Some x → P x
none_left P {y} {x} [] h e = subst P (same_Some y x e) h
none_left P (field ∷ rest) h e = absurd cc

read_whole : {A : Type 0} (P : A → Type 0) (o : Option (A × List (List ℕ))) {x : A} → ((y : A) (rest : List (List ℕ)) → o ≡ Some (y, rest) → P y)
    → no_more o ≡ Some x → P x
read_whole P None k e = absurd cc
read_whole P (Some p) k e = none_left P p.1 (k p.0 p.1 refl) e

delivery_limits : (sites : ℕ) (fields : List (List ℕ)) {rest : List (List ℕ)} (x : WorldInput) → take_delivery sites fields ≡ Some (x, rest) → IsWorldInput
    sites x
unfolding take_delivery
delivery_limits sites fields {rest} x e =
    let P = IsWorldInput sites in
    after_some P (take_word (codes "deliver") fields) _ x rest (λ _ a f. after_some P (take_site sites a) _ x rest
    (λ i b g. after_some P (take_number RECORDS_MAX b) _ x rest (λ k c h. given (λ y _. P y) (Delivered i k) x c rest h tt) g) f) e

audit_limits : (sites : ℕ) (fields : List (List ℕ)) {rest : List (List ℕ)} (x : WorldInput) → take_audit fields ≡ Some (x, rest) → IsWorldInput sites x
unfolding take_audit
audit_limits sites fields {rest} x e = after_some (IsWorldInput sites) _ _ x rest (λ _ a f. given (λ y _. IsWorldInput sites y) Audit x a rest f tt) e

request_limits : (sites : ℕ) → sites < 2 ^ 8 → (i : ℕ) (fields : List (List ℕ)) (o : Option Request) → request_of sites fields ≡ o
    → IsWorldInput sites (Asked i o)
request_limits sites few i fields None e = tt
request_limits sites few i fields (Some r) e = ((request_is sites few fields r).0 e).0

asked_limits : (sites : ℕ) → sites < 2 ^ 8 → (i : ℕ) (fields : List (List ℕ)) (x : WorldInput) → asked_with sites i fields ≡ Some x → IsWorldInput sites x
asked_limits sites few i [] x e = absurd cc
asked_limits sites few i (field ∷ rest) x e = subst (IsWorldInput sites) (same_Some _ x e) (request_limits sites few i _ _ refl)

some_limits : (sites : ℕ) → sites < 2 ^ 8 → (o : Option (ℕ × List (List ℕ))) (x : WorldInput) → option_and_then (λ p. asked_with sites p.0 p.1) o ≡ Some x
    → IsWorldInput sites x
some_limits sites few None x e = absurd cc
some_limits sites few (Some p) x e = asked_limits sites few p.0 p.1 x e

at_limits : {sites : ℕ} → sites < 2 ^ 8 → (fields : List (List ℕ)) (x : WorldInput) → request_at sites fields ≡ Some x → IsWorldInput sites x
unfolding request_at
at_limits {sites} few fields x e = some_limits sites few (take_at sites fields) x e

if_found : {A : Type 0} (P : A → Type 0) (o : Option A) → ((x : A) → o ≡ Some x → P x) → IfSome o P
if_found P None k = tt
if_found P (Some x) k = k x refl

first_limits : (sites : ℕ) (a b c : Option WorldInput) → IfSome a (IsWorldInput sites) → IfSome b (IsWorldInput sites) → IfSome c (IsWorldInput sites)
    → IsWorldInput sites (unwrap_or (option_or a (option_or b c)) Neither)
first_limits sites (Some x) b c f g h = f
first_limits sites None (Some x) c f g h = g
first_limits sites None None (Some x) f g h = h
first_limits sites None None None f g h = tt

input_limits : (sites : ℕ) → sites < 2 ^ 8 → (fields : List (List ℕ)) → IsWorldInput sites (world_input sites fields)
input_limits sites few fields =
    let P = IsWorldInput sites in
    first_limits sites (request_at sites fields) (whole (take_delivery sites) fields) (whole take_audit fields)
    (if_found P (request_at sites fields) (at_limits few fields))
    (if_found P (whole (take_delivery sites) fields) (λ x. read_whole P (take_delivery sites fields) (λ y rest. delivery_limits sites fields y)))
    (if_found P (whole take_audit fields) (λ x. read_whole P (take_audit fields) (λ y rest. audit_limits sites fields y)))

event_limits : (sites : ℕ) (input : WorldInput) (es : List Event) → IsWorldInput sites input → AreEvents sites es → AreEvents sites (input_events input ++ es)
event_limits sites (Asked i (Some (Request.Ask ask))) es h a = (h.0, a)
event_limits sites (Asked i (Some (Request.Pass to))) es h a = (tt, a)
event_limits sites (Asked i (Some (Request.List l))) es h a = (tt, a)
event_limits sites (Asked i None) es h a = a
event_limits sites (Delivered i k) es h a = (tt, a)
event_limits sites Audit es h a = a
event_limits sites Neither es h a = a

are_events : (sites : ℕ) → sites < 2 ^ 8 → (records : List (List (List ℕ))) → AreEvents sites (record_events sites records)
are_events sites few [] = tt
are_events sites few (fields ∷ rest) = event_limits sites _ _ (input_limits sites few _) (are_events sites few rest)

-- ---- the world after records is the run of their events

step_is : (keep : ℕ) (w : World) (n : ℕ) (rest : List (List (List ℕ))) (input : WorldInput)
    → ((v : World) → world_after keep v (n + 1) rest ≡ run keep (record_events (length v.sites) rest) v)
    → world_after keep (world_step keep w n input).0 (n + 1) rest ≡ run keep (input_events input ++ record_events (length w.sites) rest) w
step_is keep w n rest (Asked i (Some r)) more =
    let v = (happens keep w (At i r)).0 in more v ∙ ap (λ k. run keep (record_events k rest) v) (event_sites keep w (At i r))
step_is keep w n rest (Asked i None) more = more w
step_is keep w n rest (Delivered i k) more =
    let v = (happens keep w (Deliver i k)).0 in more v ∙ ap (λ j. run keep (record_events j rest) v) (event_sites keep w (Deliver i k))
step_is keep w n rest Audit more = more w
step_is keep w n rest Neither more = more w

run_is : (keep : ℕ) (records : List (List (List ℕ))) (w : World) (n : ℕ) → world_after keep w n records ≡ run keep (record_events (length w.sites) records) w
run_is keep [] w n = refl
run_is keep (fields ∷ rest) w n = step_is keep w n rest (world_input (length w.sites) fields) (λ v. run_is keep rest v (n + 1))

pub records_run : RecordsAreARun
records_run sites keep records few = (
  are_events sites (omega (arith, few)) records,
  run_is keep records (start sites) 1 ∙ ap (λ k. run keep (record_events k records) (start sites)) (start_sites sites),
)

pub records_keep : RecordsKeepInvariants
records_keep sites keep records some few small =
    let r = records_run sites keep records few in subst InRun (sym r.1) (every_run sites keep (record_events sites records) some small r.0)

-- ---- what is answered is the text of a run

answers_more : (keep : ℕ) (records more : List (List (List ℕ))) (w : World) (n : ℕ)
    → world_answers keep w n (records ++ more) ≡ world_answers keep w n records ++ world_answers keep (world_after keep w n records) (n + length records) more
unfolding world_answers
answers_more keep [] more w n = ap (λ k. world_answers keep w k more) (omega arith)
answers_more keep (fields ∷ rest) more w n =
    let step = world_step keep w n (world_input (length w.sites) fields) in
    ap (λ rows. step.1 ++ rows) (answers_more keep rest more step.0 (n + 1)) ∙ sym (append_assoc step.1 (world_answers keep step.0 (n + 1) rest) _)
    ∙ ap (λ k. (step.1 ++ world_answers keep step.0 (n + 1) rest) ++ world_answers keep (world_after keep step.0 (n + 1) rest) k more) (omega arith)

world_sites : (keep : ℕ) (records : List (List (List ℕ))) (sites : ℕ) → sites ≤ COUNTED_MAX → length (world_after keep (start sites) 1 records).sites ≡ sites
world_sites keep records sites few =
    ap (λ (v : World). length v.sites) (records_run sites keep records few).1 ∙ run_sites keep (record_events sites records) (start sites) ∙ start_sites sites

told_last : (keep : ℕ) (w : World) (n : ℕ) (fields : List (List ℕ)) → world_answers keep w n (fields ∷ []) ≡
    (world_step keep w n (world_input (length w.sites) fields)).1
unfolding world_answers
told_last keep w n fields = append-nil _

one_more : {sites : ℕ} (keep : ℕ) (before : List (List (List ℕ))) (fields : List (List ℕ)) → sites ≤ COUNTED_MAX → world_output_of sites keep (before ++ fields
    ∷ []) ≡ world_output_of sites keep before ++ (world_step keep (world_after keep (start sites) 1 before) (length before + 1) (world_input sites fields)).1
one_more {sites} keep before fields few =
    let w = world_after keep (start sites) 1 before in
    answers_more keep before (fields ∷ []) (start sites) 1 ∙ ap (λ rows. world_output_of sites keep before ++ rows) (told_last keep w (1 + length before) fields
    ∙ ap (λ k. (world_step keep w k (world_input (length w.sites) fields)).1) (omega arith)
    ∙ ap (λ k. (world_step keep w (length before + 1) (world_input k fields)).1) (world_sites keep before sites few))

pub answers_are_a_run : AnswersAreARun
answers_are_a_run sites keep records some few small = record {
  text = refl;
  events = λ k. records_run sites keep (take k records) few;
  told = λ before later fields is. one_more keep before fields few;
  claims = λ k. records_keep sites keep (take k records) some few small;
  agree = λ j k a b same.
      let e = records_run sites keep (take j records) few in
      let f = records_run sites keep (take k records) few in
      let same_runs = subst (λ (w : World). SameSet (site w a).log (site (world_at sites keep records k) b).log) e.1 same in
      let same_logs = subst (λ (v : World). SameSet (site (run keep (record_events sites (take j records)) (start sites)) a).log (site v b).log) f.1 same_runs
      in
      ap (λ (w : World). tables_at w a) e.1 ∙ equal_tables sites keep (record_events sites (take j records)) some small e.0 sites keep
      (record_events sites (take k records)) some small f.0 a b same_logs ∙ sym (ap (λ (v : World). tables_at v b) f.1);
}

-- ---- an audit is answered Agree

has_map : {A B : Type 0} (f : A → B) (xs : List A) (y : B) → Has y (map f xs) → (x : A) × (y ≡ f x)
has_map f [] y h = absurd h
has_map f (x ∷ xs) y h = ⊎_elim (λ e. (x, e)) (λ k. has_map f xs y k) h

pub are_logs : (w : World) (log : Log) → Has log (logs_of w) → WasLogOf w log
are_logs w log h =
    let found = has_map (log_of w) (range_with_len 0 (length w.sites)) log h in
    subst (WasLogOf w) (sym found.1) (record { later = []; messages = append-nil _; rows = refl })

-- the logs of all sites, each with its tables, agree
pub logs_agree : {w : World} → Sound w → verdict (logs_of w) ≡ Agree
logs_agree {w} s = faultless_agree (logs_of w) (run_faultless w s (logs_of w) (are_logs w)) (run_formed w s (logs_of w) (are_logs w))

audit_told : (keep : ℕ) {w : World} (n : ℕ) (fields : List (List ℕ)) → Sound w → world_input (length w.sites) fields ≡ Audit
    → world_answers keep w n (fields ∷ []) ≡ verdict_record Agree ∷ []
unfolding world_answers
audit_told keep {w} n fields s is = ap (λ (input : WorldInput). (world_step keep w n input).1 ++ []) is ∙ ap (λ v. verdict_record v ∷ []) (logs_agree s)

pub audits_agree : AuditsAgree
audits_agree sites keep records fields some few small is =
    let r = records_run sites keep records few in
    let w = world_after keep (start sites) 1 records in
    let sound : Sound w = subst Sound (sym r.1) (sound_run (record_events sites records) some small r.0) in
    let count : length w.sites ≡ sites = ap (λ (v : World). length v.sites) r.1 ∙ run_sites keep (record_events sites records) (start sites)
    ∙ start_sites sites in
    answers_more keep records (fields ∷ []) (start sites) 1
    ∙ ap (λ rows. world_output_of sites keep records ++ rows) (audit_told keep (1 + length records) fields sound (ap (λ k. world_input k fields) count ∙ is))
