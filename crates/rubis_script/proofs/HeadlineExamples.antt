-- What a run of one site says of it, worked out on two records: the token comes to site 1 of two sites, which then passes it back.
use Rattle.rubis_script.proofs.Common.{◌≡◌, ◌∙◌, ◌++◌, ◌∷◌, [], ℕ, List, Option, Some, None, ap, arith, inl, inr, length, refl, sym, take, Ok, Err}
use Rattle.rubis_script.proofs.Common.{codes, answers, input_step, Place, Replica, opening_at, site_after, input_of, Asked, Came, SiteState}
use Rattle.rubis_script.proofs.Common.{input_records, rows_text, Count}
use Rattle.std.specs.Prelude.{is_some, ⊤}
use Rattle.rubis_message.specs.Grammar.{IsPacket, packet_record, request_record}
use Rattle.rubis_message.specs.declared.tokens.Packet.{Packet}
use Rattle.rubis_message.proofs.Records.{packet_is, request_is}
use Rattle.rubis_model.specs.Site.{passed_rows, took_rows}
use Rattle.rubis_model.specs.Processes.{IsLogOfProcess, Reading, answers_of, state_of}
use Rattle.rubis_replica.specs.Follow.{resting_at}
use Rattle.rubis_engine.proofs.ReadBack.{HaveFields, HasNoMark, no_mark, rows_back}
use Rattle.rubis_message.proofs.FirstWords.{asked_is, token_is as token_read}
use mathlib.Core.Bool.{true≢false}
use Rattle.rubis_message.specs.declared.answers.Taken.TheVariants as taken
use Rattle.rubis_message.specs.declared.requests.Request.TheVariants as request
use Rattle.rubis_message.specs.declared.tokens.Packet.TheVariants as packet
use Rattle.rubis_engine.specs.declared.fault.RunFault.TheVariants as fault
use Rattle.rubis_script.specs.Headline.{AnswersJust, HasAnswered, HasReadJust, OfRead, StandsAsProcess, WritesAsProcess}
use Rattle.rubis_script.proofs.LeadFacts.{stands_as, writes_as}

abbrev token_to_one : Packet
token_to_one = packet.Token (record { turn = 1; to = 1; issued = 0 })

token_comes : List (List ℕ)
token_comes = packet_record token_to_one

passes_back : List (List ℕ)
passes_back = request_record (request.Pass 0)

abbrev both : List (List (List ℕ))
both = token_comes ∷ passes_back ∷ []

abbrev there : Place
there = record { site = 1; sites = 2; keep = 1000000 }

abbrev stands_at : Place → Replica → SiteState
stands_at p s = record { place = p; state = s; progress = resting_at 0; batch = 64 }

-- the site before the first record, between the two, and after them
abbrev opened : SiteState
opened = stands_at there (opening_at 1)

abbrev holding : SiteState
holding = stands_at there (record { log = []; waiting = []; held = Some 0; last = 1 })

abbrev ended : SiteState
ended = stands_at there (record { log = []; waiting = []; held = None; last = 1 })

-- what is answered to the first record, and to both
abbrev first_rows : List (List (List ℕ))
first_rows = took_rows 1 (Ok taken.Holding)

abbrev all_rows : List (List (List ℕ))
all_rows = first_rows ++ passed_rows 2 (Ok (record { turn = 2; to = 0; issued = 0 }))

token_is : input_of 2 token_comes ≡ Came token_to_one
unfolding token_comes
token_is =
    let within : IsPacket 2 token_to_one = record { turn = omega arith; to = omega arith; issued = omega arith } in
    let read = (packet_is 2 (omega arith) (omega arith) token_comes token_to_one).1 (within, refl) in
    (token_read 2 (codes "token") _ token_comes (Some token_to_one) (omega arith) refl refl read).means

pass_is : input_of 2 passes_back ≡ Asked (request.Pass 0)
unfolding passes_back
pass_is = (asked_is 2 passes_back (request.Pass 0) (omega arith) ((request_is 2 (omega arith) passes_back (request.Pass 0)).1 (omega arith, refl))).means

first_led : site_after there (opening_at 1) 1 (token_comes ∷ []) ≡ holding.state
first_led = λ i. (input_step there (opening_at 1) 1 (token_is i)).0

both_led : site_after there (opening_at 1) 1 both ≡ ended.state
both_led = λ i. (input_step there (input_step there (opening_at 1) 1 (token_is i)).0 2 (pass_is i)).0

both_told : answers there (opening_at 1) 1 both ≡ all_rows
unfolding answers
both_told = λ i. (input_step there (opening_at 1) 1 (token_is i)).1
    ++ ((input_step there (input_step there (opening_at 1) 1 (token_is i)).0 2 (pass_is i)).1 ++ [])

-- rows with the same text are the same
abbrev HaveFirst : List (List (List ℕ)) → Type 0
HaveFirst [] = ⊤
HaveFirst ([] ∷ rows) = ⊥
HaveFirst ((field ∷ fields) ∷ rows) = HaveFirst rows

have_fields : (rows : List (List (List ℕ))) → HaveFirst rows → HaveFields rows
have_fields [] h row is none = absurd is
have_fields ([] ∷ rows) h row is none = absurd h
have_fields ((field ∷ fields) ∷ rows) h row (inl e) none = absurd cc
have_fields ((field ∷ fields) ∷ rows) h row (inr is) none = have_fields rows h row is none

same_rows : (rows others : List (List (List ℕ))) → HaveFields rows → HasNoMark (rows_text rows) → HaveFields others → HasNoMark (rows_text others)
    → rows_text rows ≡ rows_text others → rows ≡ others
same_rows rows others some mark more unmarked e = sym (rows_back rows some mark) ∙ ap input_records e ∙ rows_back others more unmarked

first_is_not_all : rows_text first_rows ≡ rows_text all_rows → ⊥
first_is_not_all e =
    let same = same_rows first_rows all_rows (have_fields first_rows tt) (no_mark (rows_text first_rows) refl) (have_fields all_rows tt)
    (no_mark (rows_text all_rows) refl) e in
    let many = ap length same in
    absurd (omega (arith, many))

-- ---- what a run says of the site

both_answered : HasAnswered opened ended (Some []) (Some (rows_text all_rows)) both
both_answered = (ap rows_text (sym both_told), (refl, sym both_led))

-- not of a site in the state before the last record, nor in that before the first
holding_has_not : (before after : Option (List ℕ)) → HasAnswered opened holding before after both → ⊥
holding_has_not before after h = true≢false (ap (λ (s : Replica). is_some s.held) (h.1.1 ∙ both_led))

opened_has_not : (before after : Option (List ℕ)) → HasAnswered opened opened before after both → ⊥
opened_has_not before after h = let turns = ap (λ (s : Replica). s.last) (h.1.1 ∙ both_led) in absurd (omega (arith, turns))

-- nor of a site that keeps fewer messages since
fewer_kept_has_not : (before after : Option (List ℕ)) → HasAnswered opened (stands_at (record there { keep = 2 }) ended.state) before after both → ⊥
fewer_kept_has_not before after h = let kept = ap (λ (p : Place). p.keep) h.1.0 in absurd (omega (arith, kept))

-- nor where only the first record was answered
first_alone_has_not : HasAnswered opened ended (Some []) (Some (rows_text first_rows)) both → ⊥
first_alone_has_not h = first_is_not_all (h.0 ∙ ap rows_text both_told)

-- just both records are answered, and not the first alone, nor three
just_both : AnswersJust 2 opened ended (Some []) (Some (rows_text all_rows)) both
just_both = (both_answered, omega arith)

not_just_one : (before after : Option (List ℕ)) → AnswersJust 1 opened ended before after both → ⊥
not_just_one before after h = true≢false (sym (ap (λ (s : Replica). is_some s.held) (h.0.1.1 ∙ first_led)))

not_three : (before after : Option (List ℕ)) → AnswersJust 3 opened ended before after both → ⊥
not_three before after h = absurd (omega (arith, h.1))

-- ---- in the words of processes

most : ℕ → ℕ
most i = 1000000

-- site 0 reads something meanwhile
among_others : List Reading
among_others = record { site = 1; fields = token_comes } ∷ record { site = 0; fields = passes_back } ∷ record { site = 1; fields = passes_back } ∷ []

both_read : HasReadJust there most among_others both
unfolding among_others most
both_read = (refl, refl)

not_others_read : HasReadJust there most among_others (token_comes ∷ passes_back ∷ passes_back ∷ []) → ⊥
unfolding among_others most
not_others_read h = let many = ap length h.1 in absurd (omega (arith, many))

not_first_alone_read : HasReadJust there most among_others (token_comes ∷ []) → ⊥
unfolding among_others most
not_first_alone_read h = let many = ap length h.1 in absurd (omega (arith, many))

not_fewer_kept : HasReadJust there (λ i. 2) among_others both → ⊥
not_fewer_kept h = let kept = h.0 in absurd (omega (arith, kept))

-- so site 1 answers and stands as it does where it reads nothing else
others_told : answers_of 2 most among_others 1 ≡ all_rows
unfolding among_others most
others_told = both_told

others_led : state_of 2 most among_others 1 ≡ ended.state
unfolding among_others most
others_led = both_led

process_stands : StandsAsProcess there ended.state both
process_stands = stands_as opened ended (Some []) (Some (rows_text all_rows)) both refl both_answered

holding_stands_not : StandsAsProcess there holding.state both → ⊥
holding_stands_not h = true≢false (ap (λ (s : Replica). is_some s.held) ((h most among_others both_read).0 ∙ others_led))

-- its log is that of a process: nothing was released yet
process_log : StandsAsProcess there ended.state both → IsLogOfProcess 2 most among_others (record { site = 1; messages = []; rows = None })
process_log h = (h most among_others both_read).1 (omega arith)

process_writes : WritesAsProcess there (Some []) (Some (rows_text all_rows)) both
process_writes = writes_as opened ended (Some []) (Some (rows_text all_rows)) both refl both_answered

first_alone_writes_not : WritesAsProcess there (Some []) (Some (rows_text first_rows)) both → ⊥
first_alone_writes_not h = first_is_not_all (h most among_others both_read ∙ ap rows_text others_told)

-- ---- of which records it is said

-- all of them, neither more nor fewer, at the end of the input
all_at_end : (limit : ℕ) (bytes : List ℕ) (count : Count) → OfRead limit bytes (Ok count) (λ records. records ≡ input_records bytes)
all_at_end limit bytes count = refl

-- as many as the limit says where there are more
limit_where_too_long : (limit : ℕ) (bytes : List ℕ) → OfRead limit bytes (Err fault.TooLong) (λ records. records ≡ take limit (input_records bytes))
limit_where_too_long limit bytes = refl

-- any number of first ones where the reader failed, but some
some_where_read_fails : (limit k : ℕ) (bytes : List ℕ) → OfRead limit bytes (Err fault.Read) (λ records. records ≡ take k (input_records bytes))
some_where_read_fails limit k bytes = (k, refl)

nothing_else_where_read_fails : (limit : ℕ) (bytes : List ℕ) → OfRead limit bytes (Err fault.Read) (λ records. ⊥) → ⊥
nothing_else_where_read_fails limit bytes h = h.1

nothing_else_where_too_long : (limit : ℕ) (bytes : List ℕ) → OfRead limit bytes (Err fault.TooLong) (λ records. ⊥) → ⊥
nothing_else_where_too_long limit bytes h = h

nothing_else_at_end : (limit : ℕ) (bytes : List ℕ) (count : Count) → OfRead limit bytes (Ok count) (λ records. ⊥) → ⊥
nothing_else_at_end limit bytes count h = h
