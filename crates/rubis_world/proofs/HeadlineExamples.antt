-- What a run of several sites says of them, worked out on two records: site 0 passes the token to site 1, which then takes it.
use Rattle.rubis_world.proofs.Common.{◌≡◌, ◌∙◌, ◌≤◌, ◌<◌, ◌++◌, ◌∷◌, [], ℕ, zero, suc, List, Option, Some, None, ap, arith, length, refl, subst, sym}
use Rattle.rubis_world.proofs.Common.{take, map, Ok, Err, Result, RECORDS_MAX, world_input, Asked, Delivered, Replica, world_after, World, site}
use Rattle.rubis_world.proofs.Common.{world_answers, world_output_of, world_step, input_records, rows_text, Count, RunFault, answers_are_a_run}
use Rattle.std.proofs.Common.{◌^◌, inl, inr}
use Rattle.std.specs.Prelude.{codes, decimal, is_some, nat_lt, option_and_then, unwrap_or, IfOk, ⊤}
use Rattle.std.specs.Option.{option_or}
use Rattle.rubis_schema.specs.NumberForms.{number_of}
use Rattle.rubis_schema.specs.declared.refusals.Refusal.TheVariants.{BadTarget}
use Rattle.rubis_schema.proofs.NumberForms.{number_is}
use Rattle.rubis_message.specs.Readings.{◌>>=◌, ◌>>◌, give, kept, one, take_site, whole}
use Rattle.rubis_message.specs.Grammar.{request_record}
use Rattle.rubis_message.specs.WorldReadings.{asked_with, request_at, take_at, take_audit, take_delivery, take_word}
use Rattle.rubis_message.specs.declared.world_inputs.WorldInput.{WorldInput}
use Rattle.rubis_message.specs.declared.world_inputs.WorldInput.TheVariants.{Neither}
use Rattle.rubis_message.proofs.Records.{request_is}
use Rattle.rubis_model.specs.Site.{passed_rows, refused_row, took_rows}
use Rattle.rubis_model.specs.Processes.{IsTextOfARun}
use Rattle.rubis_model.specs.System.{start}
use Rattle.rubis_model.specs.WorldRecords.{site_row}
use Rattle.rubis_engine.specs.Progress.{IsDone}
use Rattle.rubis_engine.proofs.ReadBack.{HaveFields, HasNoMark, no_mark, rows_back}
use Rattle.rubis_engine.proofs.RunFacts.{if_ok_both}
use Rattle.rubis_engine.proofs.TextFacts.{text-two}
use Rattle.rubis_serving.specs.Serving.{AnswersAll, AnswersJust}
use mathlib.Core.Bool.{true≢false}
use Rattle.rubis_message.specs.declared.answers.Taken.TheVariants as taken
use Rattle.rubis_message.specs.declared.requests.Request.TheVariants as request
use Rattle.rubis_message.specs.declared.tokens.Packet.TheVariants as packet
use Rattle.rubis_engine.specs.declared.fault.RunFault.TheVariants as fault
use Rattle.rubis_world.specs.Headline.{AppendsARun, LeadWorld, TellsARun}
use Rattle.rubis_world.specs.Running.{LeadsWorld, told_by_world}
use Rattle.rubis_world.specs.Worlds.{WorldState, opening_world}

passes_on : List (List ℕ)
passes_on = codes "at" ∷ decimal 0 ∷ request_record (request.Pass 1)

is_delivered : List (List ℕ)
is_delivered = codes "deliver" ∷ decimal 1 ∷ decimal 1 ∷ []

abbrev both : List (List (List ℕ))
both = passes_on ∷ is_delivered ∷ []

-- a site with nothing released, and with the token or without
abbrev at_turn : Option ℕ → ℕ → Replica
at_turn held last = record { log = []; waiting = []; held = held; last = last }

abbrev in_state : List Replica → WorldState
in_state sites = record {
  keep = 1000000;
  world = record { sites = sites; sent = packet.Token (record { turn = 1; to = 1; issued = 0 }) ∷ [] };
  left = 0 ∷ 0 ∷ [];
}

-- the sites before the first record, between the two, and after them
abbrev opened : WorldState
opened = opening_world 1000000 2

abbrev passed : WorldState
passed = in_state (at_turn None 0 ∷ at_turn None 0 ∷ [])

abbrev ended : WorldState
ended = in_state (at_turn None 0 ∷ at_turn (Some 0) 1 ∷ [])

-- what is answered to the first record, to the second, and to both
abbrev first_rows : List (List (List ℕ))
first_rows = map (site_row 0) (passed_rows 1 (Ok (record { turn = 1; to = 1; issued = 0 })))

abbrev last_rows : List (List (List ℕ))
last_rows = map (site_row 1) (took_rows 2 (Ok taken.Holding))

abbrev all_rows : List (List (List ℕ))
all_rows = first_rows ++ last_rows

-- one site alone has no other to pass the token to
abbrev refused_rows : List (List (List ℕ))
refused_rows = site_row 0 (refused_row 1 BadTarget) ∷ []

-- ---- the records are read

number_back : (high n : ℕ) → high < 2 ^ 64 → n ≤ high → number_of high (decimal n) ≡ Some n
number_back high n top few = (number_is high top).back n few

-- a record that begins with `at` and a site, by what the site is read as
abbrev at_site : ℕ → Option ℕ → List (List ℕ) → WorldInput
at_site sites n fields =
    unwrap_or (option_or (option_and_then (λ p. asked_with sites p.0 p.1) ((take_word (codes "at") >> kept (λ k. nat_lt k sites) (one (λ _. n))) fields))
    (option_or (whole (take_delivery sites) fields) (whole take_audit fields))) Neither

passes_is : world_input 2 passes_on ≡ Asked 0 (Some (request.Pass 1))
unfolding passes_on request_at take_at take_site
passes_is =
    (λ i. at_site 2 (number_back 255 0 (omega arith) (omega arith) i) passes_on)
    ∙ ap (Asked 0) ((request_is 2 (omega arith) (request_record (request.Pass 1)) (request.Pass 1)).1 (omega arith, refl))

passes_alone_is : world_input 1 passes_on ≡ Asked 0 (Some (request.Pass 1))
unfolding passes_on request_at take_at take_site
passes_alone_is =
    (λ i. at_site 1 (number_back 255 0 (omega arith) (omega arith) i) passes_on)
    ∙ ap (Asked 0) ((request_is 1 (omega arith) (request_record (request.Pass 1)) (request.Pass 1)).1 (omega arith, refl))

-- one that begins with `deliver`, by what the site is read as, and how the packet is read
abbrev delivery : Option ℕ → (List ℕ → Option ℕ) → List (List ℕ) → WorldInput
delivery n read fields =
    unwrap_or (option_or (request_at 2 fields)
    (option_or (whole (take_word (codes "deliver") >> (kept (λ i. nat_lt i 2) (one (λ _. n)) >>= (λ i. one read >>= (λ k. give (Delivered i k))))) fields)
    (whole take_audit fields))) Neither

delivered_is : world_input 2 is_delivered ≡ Delivered 1 1
unfolding is_delivered request_at take_at take_site take_delivery
delivered_is =
    (λ i. delivery (number_back 255 1 (omega arith) (omega arith) i) (number_of RECORDS_MAX) is_delivered)
    ∙ (λ i. delivery (Some 1) (λ _. number_back RECORDS_MAX 1 (omega arith) (omega arith) i) is_delivered)

first_step : (world_step 1000000 (start 2) 1 (world_input 2 passes_on)).0 ≡ passed.world
first_step = λ i. (world_step 1000000 (start 2) 1 (passes_is i)).0

both_led : world_after 1000000 (start 2) 1 both ≡ ended.world
both_led = ap (λ (w : World). world_after 1000000 w 2 (is_delivered ∷ [])) first_step ∙ (λ i. (world_step 1000000 passed.world 2 (delivered_is i)).0)

first_told : world_output_of 2 1000000 (passes_on ∷ []) ≡ first_rows
unfolding world_answers
first_told = λ i. (world_step 1000000 (start 2) 1 (passes_is i)).1 ++ []

both_told : world_output_of 2 1000000 both ≡ all_rows
unfolding world_answers
both_told =
    (λ i. (world_step 1000000 (start 2) 1 (passes_is i)).1 ++ world_answers 1000000 (world_step 1000000 (start 2) 1 (passes_is i)).0 2 (is_delivered ∷ []))
    ∙ (λ i. first_rows ++ ((world_step 1000000 passed.world 2 (delivered_is i)).1 ++ []))

-- and then those to the records that follow
both_more : (to_come : List (List (List ℕ)))
    → world_answers 1000000 (start 2) 1 (both ++ to_come) ≡ all_rows ++ world_answers 1000000 ended.world 3 to_come
unfolding world_answers
both_more to_come =
    (λ i. (world_step 1000000 (start 2) 1 (passes_is i)).1
    ++ world_answers 1000000 (world_step 1000000 (start 2) 1 (passes_is i)).0 2 (is_delivered ∷ to_come))
    ∙ (λ i. first_rows ++ ((world_step 1000000 passed.world 2 (delivered_is i)).1
    ++ world_answers 1000000 (world_step 1000000 passed.world 2 (delivered_is i)).0 3 to_come))

alone_told : world_output_of 1 1000000 (passes_on ∷ []) ≡ refused_rows
unfolding world_answers
alone_told = λ i. (world_step 1000000 (start 1) 1 (passes_alone_is i)).1 ++ []

-- rows with the same text are the same
abbrev Readable : List (List (List ℕ)) → Type 0
Readable rows = HaveFields rows × HasNoMark (rows_text rows)

abbrev HaveFirst : List (List (List ℕ)) → Type 0
HaveFirst [] = ⊤
HaveFirst ([] ∷ rows) = ⊥
HaveFirst ((field ∷ fields) ∷ rows) = HaveFirst rows

have_fields : (rows : List (List (List ℕ))) → HaveFirst rows → HaveFields rows
have_fields [] h row is none = absurd is
have_fields ([] ∷ rows) h row is none = absurd h
have_fields ((field ∷ fields) ∷ rows) h row (inl e) none = absurd cc
have_fields ((field ∷ fields) ∷ rows) h row (inr is) none = have_fields rows h row is none

none_readable : Readable []
none_readable = (have_fields [] tt, no_mark [] refl)

first_readable : Readable first_rows
first_readable = (have_fields first_rows tt, no_mark (rows_text first_rows) refl)

last_readable : Readable last_rows
last_readable = (have_fields last_rows tt, no_mark (rows_text last_rows) refl)

all_readable : Readable all_rows
all_readable = (have_fields all_rows tt, no_mark (rows_text all_rows) refl)

same_rows : (rows others : List (List (List ℕ))) → Readable rows → Readable others → rows_text rows ≡ rows_text others → rows ≡ others
same_rows rows others (some, mark) (more, unmarked) e = sym (rows_back rows some mark) ∙ ap input_records e ∙ rows_back others more unmarked

-- ---- where records lead

both_lead : LeadWorld both opened ended
both_lead = (refl, sym both_led)

passed_is_too_early : LeadWorld both opened passed → ⊥
passed_is_too_early h = true≢false (sym (ap (λ (w : World). is_some (site w 1).held) (h.1 ∙ both_led)))

opened_is_fresh : LeadWorld both opened opened → ⊥
opened_is_fresh h = true≢false (sym (ap (λ (w : World). is_some (site w 1).held) (h.1 ∙ both_led)))

fewer_kept_since : LeadWorld both opened (record ended { keep = 2 }) → ⊥
fewer_kept_since h = let kept = h.0 in absurd (omega (arith, kept))

-- ---- what is answered where the reader failed

-- both records, where both came whole: the sites are where they lead, with what is still to be made of those to come
just_both : AnswersJust told_by_world LeadsWorld 2 opened ended (Some []) (Some (rows_text all_rows)) both
just_both = (
  record {
    within = omega arith;
    appended = ap rows_text (sym both_told);
    left = λ ending to_come.
        ap rows_text (both_more to_come) ∙ text-two all_rows (world_answers 1000000 ended.world 3 to_come)
        ∙ ap (λ rows. rows_text rows ++ rows_text (world_answers 1000000 ended.world 3 to_come)) (sym both_told);
    counted = λ to_come. omega arith;
  },
  both_lead,
)

-- not one less, nor one more
not_just_two : (before after : Option (List ℕ)) → AnswersJust told_by_world LeadsWorld 2 opened passed before after both → ⊥
not_just_two before after (cut, led) = passed_is_too_early led

not_just_one : (before after : Option (List ℕ)) → AnswersJust told_by_world LeadsWorld 1 opened ended before after both → ⊥
not_just_one before after (cut, led) = true≢false (ap (λ (w : World). is_some (site w 1).held) (led.1 ∙ first_step))

not_three : (before after : Option (List ℕ)) → AnswersJust told_by_world LeadsWorld 3 opened ended before after both → ⊥
not_three before after (cut, led) = let few = cut.within in absurd (omega (arith, few))

-- and with no other text
no_more_than_one : AnswersJust told_by_world LeadsWorld 1 opened passed (Some []) (Some (rows_text all_rows)) both → ⊥
no_more_than_one (cut, led) =
    let many = ap length (same_rows all_rows first_rows all_readable first_readable (cut.appended ∙ ap rows_text first_told)) in
    absurd (omega (arith, many))

no_less_than_one : AnswersJust told_by_world LeadsWorld 1 opened passed (Some []) (Some []) both → ⊥
no_less_than_one (cut, led) =
    let many = ap length (same_rows [] first_rows none_readable first_readable (cut.appended ∙ ap rows_text first_told)) in
    absurd (omega (arith, many))

-- where a run ends well, what is said of its text and of the sites is together what is said of chunks
all_in_two_clauses : (limit : ℕ) (first new : WorldState) (old now : Option (List ℕ)) (records : List (List (List ℕ))) (result : Result Count RunFault)
    → IfOk result (λ count. IsDone (told_by_world first 1) limit old now records count.records) → IfOk result (λ _. LeadWorld records first new)
    → IfOk result (λ count. AnswersAll told_by_world LeadsWorld limit first new old now records count.records)
all_in_two_clauses limit first new old now records result = if_ok_both result (λ count done led. (done, led))

-- ---- the text of a run

both_are_text : IsTextOfARun 2 1000000 both all_rows
both_are_text = subst (IsTextOfARun 2 1000000 both) both_told (answers_are_a_run 2 1000000 both (omega arith) (omega arith) (omega arith))

first_is_text : IsTextOfARun 2 1000000 (passes_on ∷ []) first_rows
first_is_text = subst (IsTextOfARun 2 1000000 (passes_on ∷ [])) first_told
    (answers_are_a_run 2 1000000 (passes_on ∷ []) (omega arith) (omega arith) (omega arith))

-- not with an answer too few or too many, nor that of another number of sites
too_few_are_no_text : IsTextOfARun 2 1000000 both first_rows → ⊥
too_few_are_no_text h = let many = ap length (h.text ∙ both_told) in absurd (omega (arith, many))

too_many_are_no_text : IsTextOfARun 2 1000000 (passes_on ∷ []) all_rows → ⊥
too_many_are_no_text h = let many = ap length (h.text ∙ first_told) in absurd (omega (arith, many))

alone_is_text : IsTextOfARun 1 1000000 (passes_on ∷ []) refused_rows
alone_is_text = subst (IsTextOfARun 1 1000000 (passes_on ∷ [])) alone_told
    (answers_are_a_run 1 1000000 (passes_on ∷ []) (omega arith) (omega arith) (omega arith))

other_sites_are_no_text : IsTextOfARun 1 1000000 (passes_on ∷ []) first_rows → ⊥
other_sites_are_no_text h = let many = ap length (h.text ∙ alone_told) in absurd (omega (arith, many))

-- ---- what was written, by how the run ends

all_told_at_end : (limit : ℕ) (bytes : List ℕ) (count : Count) → input_records bytes ≡ both
    → TellsARun 2 1000000 limit bytes (Some []) (Some (rows_text all_rows)) (Ok count)
all_told_at_end limit bytes count is = (all_rows, refl, subst (λ r. IsTextOfARun 2 1000000 r all_rows) (sym is) both_are_text)

first_told_where_too_long : (bytes : List ℕ) → input_records bytes ≡ both
    → TellsARun 2 1000000 1 bytes (Some []) (Some (rows_text first_rows)) (Err fault.TooLong)
first_told_where_too_long bytes is =
    (first_rows, refl, subst (λ r. IsTextOfARun 2 1000000 (take 1 r) first_rows) (sym is) first_is_text)

first_told_where_read_fails : (bytes : List ℕ) → input_records bytes ≡ both
    → TellsARun 2 1000000 5 bytes (Some []) (Some (rows_text first_rows)) (Err fault.Read)
first_told_where_read_fails bytes is =
    (1, (first_rows, refl, subst (λ r. IsTextOfARun 2 1000000 (take 1 r) first_rows) (sym is) first_is_text))

-- what was written are the rows of a run of the records
written : (records rows told : List (List (List ℕ))) → Readable rows → Readable told → world_output_of 2 1000000 records ≡ told
    → AppendsARun 2 1000000 (Some []) (Some (rows_text rows)) records → rows ≡ told
written records rows told one two is (others, appended, run) = same_rows rows told one two (appended ∙ ap rows_text (run.text ∙ is))

too_few_at_end : (bytes : List ℕ) (count : Count) → input_records bytes ≡ both
    → TellsARun 2 1000000 5 bytes (Some []) (Some (rows_text first_rows)) (Ok count) → ⊥
too_few_at_end bytes count is h =
    let many = ap length (written both first_rows all_rows first_readable all_readable both_told
    (subst (AppendsARun 2 1000000 (Some []) (Some (rows_text first_rows))) is h)) in
    absurd (omega (arith, many))

too_many_where_too_long : (bytes : List ℕ) → input_records bytes ≡ both
    → TellsARun 2 1000000 1 bytes (Some []) (Some (rows_text all_rows)) (Err fault.TooLong) → ⊥
too_many_where_too_long bytes is h =
    let one = subst (λ r. AppendsARun 2 1000000 (Some []) (Some (rows_text all_rows)) (take 1 r)) is h in
    let many = ap length (written (passes_on ∷ []) all_rows first_rows all_readable first_readable first_told one) in
    absurd (omega (arith, many))

take_none : (k : ℕ) → take {A = List (List ℕ)} k [] ≡ []
take_none zero = refl
take_none (suc k) = refl

none_told : world_output_of 2 1000000 [] ≡ []
unfolding world_answers
none_told = refl

-- the answers to the last record alone are those to no first records
last_alone_where_read_fails : (bytes : List ℕ) → input_records bytes ≡ both
    → TellsARun 2 1000000 5 bytes (Some []) (Some (rows_text last_rows)) (Err fault.Read) → ⊥
last_alone_where_read_fails bytes is (k, h) = at k (subst (λ r. AppendsARun 2 1000000 (Some []) (Some (rows_text last_rows)) (take k r)) is h)
  where
    at : (k : ℕ) → AppendsARun 2 1000000 (Some []) (Some (rows_text last_rows)) (take k both) → ⊥
    at zero h = let many = ap length (written [] last_rows [] last_readable none_readable none_told h) in absurd (omega (arith, many))
    at (suc zero) h = let many = ap length (written (passes_on ∷ []) last_rows first_rows last_readable first_readable first_told h) in
        absurd (omega (arith, many))
    at (suc (suc k)) h =
        let all = subst (λ r. AppendsARun 2 1000000 (Some []) (Some (rows_text last_rows)) (passes_on ∷ is_delivered ∷ r)) (take_none k) h in
        let many = ap length (written both last_rows all_rows last_readable all_readable both_told all) in
        absurd (omega (arith, many))
