-- Worked examples of processes, computed on the definitions.
use Rattle.rubis_laws.proofs.Common.{ℕ, ◌≡◌, ◌<◌, List, [], ◌∷◌, ◌++◌, length, length-append, refl, sym, ap, ◌∙◌, subst, arith, Option, Some, None, inl, inr}
use Rattle.rubis_laws.proofs.Common.{⊎_elim, append-nil, bytes_eq, codes, unwrap_or, digits, cases_eq, true≢false, number_of, nick_of, decision, Rows, deps_of}
use Rattle.rubis_laws.proofs.Common.{take_positive, take_site, packet_of, request_of, take_kind, take_message, take_packet, take_request, take_shadow}
use Rattle.rubis_laws.proofs.Common.{take_stamp, kind_of, Message, asked_rows, log_from, as_user, meaning_row, AreProcesses, Carried, Reading, WasSent}
use Rattle.rubis_laws.proofs.Common.{answers_of, process, site_after, state_of, answers, told, IsShortened, Moment, NeverStopped, has_read, recorded}
use Rattle.rubis_laws.proofs.Common.{without_restarts, Reads, Replays, Restarts, Has, Replica, generating, opening_at, rows_at, standing_of, OneToken}
use Rattle.rubis_laws.proofs.Common.{AreEvents, Event, run, site, start, Ask}
use Rattle.rubis_message.specs.Readings.{take_listing, take_shown}
use Rattle.rubis_message.specs.Readings.{take_token, shown_of}
use Rattle.rubis_laws.proofs.Rows.FoldIsMeaning.{fold_is_meaning}
use Rattle.rubis_laws.proofs.Processes.ProcessLaws.{state_grows}
use Rattle.rubis_laws.proofs.Processes.AreARun.{processes_run}
use Rattle.rubis_laws.proofs.Processes.Restarts.{readings_are_moments, recordings_replay, restarts_change_nothing}
use Rattle.rubis_laws.proofs.Runs.EveryRun.{sound_run}

-- ---- a message is carried from site 0 to site 1, which then lists its log

-- each of the two sites keeps as many messages as it may
abbrev pub most : ℕ → ℕ
most i = 1000000

abbrev pub reads : ℕ → List (List ℕ) → Reading
reads site fields = record { site = site; fields = fields }

abbrev pub ann_is_asked : List (List ℕ)
ann_is_asked = codes "user" ∷ codes "ann" ∷ []

abbrev pub ann_is_sent : List (List ℕ)
ann_is_sent = codes "msg" ∷ codes "1" ∷ codes "0" ∷ codes "1" ∷ codes "1" ∷ codes "0:0" ∷ codes "user" ∷ codes "ann" ∷ []

abbrev ann_comes : List Reading
ann_comes = reads 0 ann_is_asked ∷ reads 1 ann_is_sent ∷ reads 1 (codes "list" ∷ codes "log" ∷ []) ∷ []

-- the answer of site 0, from the rows of its tables
abbrev ann_by : Rows → List (List (List ℕ))
ann_by rows = (told (asked_rows 1)
    (generating (process 2 most 0) (opening_at 0) (decision rows (standing_of 1000000 (opening_at 0)) (Ask.User (codes "ann"))))).1 ++ []

abbrev pub ann_answers : List (List (List ℕ))
ann_answers = (codes "reply" ∷ codes "1" ∷ codes "ok" ∷ codes "0.1" ∷ []) ∷ (codes "send" ∷ ann_is_sent) ∷ []

ann_is_read : answers_of 2 most (reads 0 ann_is_asked ∷ []) 0 ≡ ann_by (rows_at [])
unfolding answers request_of take_request take_kind kind_of nick_of
ann_is_read = refl

ann_by_meaning : ann_by (meaning_row []) ≡ ann_answers
unfolding meaning_row digits
ann_by_meaning = refl

pub ann_is_answered : answers_of 2 most (reads 0 ann_is_asked ∷ []) 0 ≡ ann_answers
ann_is_answered = ann_is_read ∙ ap ann_by (λ i key. (fold_is_meaning [] tt (omega arith)).0.rows key i) ∙ ann_by_meaning

ann_is_shown : answers_of 2 most ann_comes 1 ≡ (codes "reply" ∷ codes "1" ∷ codes "released" ∷ codes "1" ∷ []) ∷
    (codes "reply" ∷ codes "2" ∷ codes "rows" ∷ codes "1" ∷ []) ∷ (codes "row" ∷ codes "log" ∷ codes "1" ∷ ann_is_sent) ∷ []
unfolding answers request_of take_request take_kind kind_of packet_of take_packet take_message take_stamp take_site take_positive number_of deps_of take_shadow
    nick_of take_listing take_shown shown_of log_from digits
ann_is_shown = refl

-- ---- it is carried unchanged

pub not_some : {A : Type 0} (o : Option A) {x : A} → o ≡ None → o ≡ Some x → ⊥
not_some None e f = absurd cc
not_some (Some y) e f = absurd cc

pub no_packet_asked : packet_of 2 ann_is_asked ≡ None
unfolding packet_of take_packet
no_packet_asked = refl

no_packet_listed : packet_of 2 (codes "list" ∷ codes "log" ∷ []) ≡ None
unfolding packet_of take_packet
no_packet_listed = refl

pub ann_was_sent : WasSent 2 most (reads 0 ann_is_asked ∷ []) ann_is_sent
ann_was_sent = (0, omega arith, subst (Has (codes "send" ∷ ann_is_sent)) (sym ann_is_answered) (inr (inl refl)))

ann_is_carried : Carried 2 most ann_comes
ann_is_carried [] later r p e is =
    let h : reads 0 ann_is_asked ≡ r = cc in
    absurd (not_some (packet_of 2 ann_is_asked) no_packet_asked (subst (λ (x : Reading). packet_of 2 x.fields ≡ Some p) (sym h) is))
ann_is_carried (x ∷ []) later r p e is =
    let h : reads 1 ann_is_sent ≡ r = cc in
    let k : reads 0 ann_is_asked ≡ x = cc in
    subst (λ (y : Reading). WasSent 2 most (x ∷ []) y.fields) h (subst (λ (y : Reading). WasSent 2 most (y ∷ []) ann_is_sent) k ann_was_sent)
ann_is_carried (x ∷ y ∷ []) later r p e is =
    let h : reads 1 (codes "list" ∷ codes "log" ∷ []) ≡ r = cc in
    absurd (not_some (packet_of 2 (codes "list" ∷ codes "log" ∷ [])) no_packet_listed (subst (λ (x : Reading). packet_of 2 x.fields ≡ Some p) (sym h) is))
ann_is_carried (x ∷ y ∷ z ∷ before) later r p e is = absurd (let l = ap length e in omega (arith, l, length-append before (r ∷ later)))

-- so it is a run
ann_is_in_a_run : (events : List Event) × AreEvents 2 events × AreProcesses 2 most ann_comes (run 1000000 events (start 2))
ann_is_in_a_run = processes_run 2 most ann_comes (omega arith) (omega arith) (λ i. omega arith) ann_is_carried

-- site 1 stops, and is restarted on its recording without the listing: as if it had never stopped
ann_comes_again : List Moment
ann_comes_again = Reads 0 ann_is_asked ∷ Reads 1 ann_is_sent ∷ Reads 1 (codes "list" ∷ codes "log" ∷ []) ∷ Restarts 1 ∷ Replays 1 ann_is_sent ∷ []

listing_left_out : IsShortened (process 2 most 1) (opening_at 1) (ann_is_sent ∷ []) (ann_is_sent ∷ (codes "list" ∷ codes "log" ∷ []) ∷ [])
unfolding request_of take_request take_kind kind_of take_listing take_shown shown_of
listing_left_out = inr ([], refl, inl (refl, refl))

ann_never_stopped : NeverStopped 2 most ann_comes_again
unfolding ann_comes_again
ann_never_stopped =
    let m = readings_are_moments 2 most ann_comes ann_is_carried in
    let r = recordings_replay 2 1 most (without_restarts ann_comes) (ann_is_sent ∷ []) m.0 m.1 listing_left_out in
    restarts_change_nothing 2 most ann_comes_again r.0 r.1

-- ---- a token that nobody sent

turn_one : List (List ℕ)
turn_one = codes "token" ∷ codes "1" ∷ codes "1" ∷ codes "1" ∷ codes "0" ∷ []

forged : List Reading
forged = reads 1 turn_one ∷ []

held_by_one : (state_of 2 most forged 1).held ≡ Some 0
unfolding forged turn_one request_of take_request take_kind kind_of packet_of take_packet take_token take_site number_of digits
held_by_one = refl

held_by_zero : (state_of 2 most forged 0).held ≡ Some 0
unfolding forged
held_by_zero = refl

-- then both sites hold the token, as in no run
forged_is_no_run : (events : List Event) → AreEvents 2 events → AreProcesses 2 most forged (run 1000000 events (start 2)) → ⊥
forged_is_no_run events among are = at (sound_run {n = 2} {keep = 1000000} events (omega arith) (omega arith) among).token
  where
    not_none : (i : ℕ) → i < 2 → (state_of 2 most forged i).held ≡ Some 0 → (site (run 1000000 events (start 2)) i).held ≡ None → ⊥
    not_none i l e f = not_some (site (run 1000000 events (start 2)) i).held f (ap (λ (s : Replica). s.held) (are.states i l) ∙ e)

    at : OneToken (length (run 1000000 events (start 2)).sites) (λ i. (site (run 1000000 events (start 2)) i).held)
        (λ i. (site (run 1000000 events (start 2)) i).last) (run 1000000 events (start 2)).sent → ⊥
    at (inr t) = not_none 0 (omega arith) held_by_zero (t.1.nowhere 0)
    at (inl h) = ⊎_elim (λ e. not_none 0 (omega arith) held_by_zero (h.1.alone 0 (λ q. absurd (omega (arith, e, q)))))
        (λ n. not_none 1 (omega arith) held_by_one (h.1.alone 1 n)) (cases_eq 1 h.0)

forged_is_not_carried : Carried 2 most forged → ⊥
forged_is_not_carried c =
    let r = processes_run 2 most forged (omega arith) (omega arith) (λ i. omega arith) c in forged_is_no_run r.0 r.1 r.2

-- ---- a process that forgets what it had read

abbrev pub bob_is_asked : List (List ℕ)
bob_is_asked = codes "user" ∷ codes "bob" ∷ []

forgetful : List Moment
forgetful = Reads 0 ann_is_asked ∷ Restarts 0 ∷ Reads 0 bob_is_asked ∷ []

-- the nickname that the first message of a log gives
abbrev first_nick : List Message → List ℕ
first_nick [] = []
first_nick (m ∷ log) = unwrap_or (as_user m.shadow) []

-- site 0 after its first ask, from the rows of its tables
abbrev asked_first : List ℕ → Rows → List ℕ
asked_first name rows = first_nick (generating (process 2 most 0) (opening_at 0) (decision rows (standing_of 1000000 (opening_at 0)) (Ask.User name))).0.log

by_meaning : (name : List ℕ) → asked_first name (rows_at []) ≡ asked_first name (meaning_row [])
by_meaning name = ap (asked_first name) (λ i key. (fold_is_meaning [] tt (omega arith)).0.rows key i)

ann_is_read_first : first_nick (state_of 2 most (reads 0 ann_is_asked ∷ []) 0).log ≡ asked_first (codes "ann") (rows_at [])
unfolding request_of take_request take_kind kind_of nick_of
ann_is_read_first = refl

ann_is_meant : asked_first (codes "ann") (meaning_row []) ≡ codes "ann"
unfolding meaning_row
ann_is_meant = refl

ann_is_first : first_nick (state_of 2 most (reads 0 ann_is_asked ∷ []) 0).log ≡ codes "ann"
ann_is_first = ann_is_read_first ∙ by_meaning (codes "ann") ∙ ann_is_meant

bob_is_read_first : first_nick (site_after (process 2 most 0) (opening_at 0) 1 (has_read 0 forgetful)).log ≡ asked_first (codes "bob") (rows_at [])
unfolding forgetful request_of take_request take_kind kind_of nick_of
bob_is_read_first = refl

bob_is_meant : asked_first (codes "bob") (meaning_row []) ≡ codes "bob"
unfolding meaning_row
bob_is_meant = refl

bob_is_first : first_nick (site_after (process 2 most 0) (opening_at 0) 1 (has_read 0 forgetful)).log ≡ codes "bob"
bob_is_first = bob_is_read_first ∙ by_meaning (codes "bob") ∙ bob_is_meant

still_first : (log later : List Message) (name : List ℕ) → first_nick log ≡ codes "ann" → first_nick (log ++ later) ≡ codes "ann"
still_first [] later name e = absurd (true≢false (sym (ap (λ n. bytes_eq n (codes "ann")) e)))
still_first (m ∷ log) later name e = e

-- its log begins with bob, and that of a process that never stopped with ann
other_log : (first rest : List Reading) → recorded forgetful ≡ first ++ rest → site_after (process 2 most 0) (opening_at 0) 1
    (has_read 0 forgetful) ≡ state_of 2 most first 0 → ⊥
unfolding forgetful
other_log [] rest e f = true≢false (ap (λ n. bytes_eq n (codes "bob")) (sym bob_is_first ∙ ap (λ (t : Replica). first_nick t.log) f))
other_log (r ∷ first) rest e f =
    let h : reads 0 ann_is_asked ≡ r = cc in
    let g = state_grows 2 most (reads 0 ann_is_asked ∷ []) first 0 in
    let ann : first_nick (state_of 2 most (r ∷ first) 0).log ≡ codes "ann" =
    ap (λ x. first_nick (state_of 2 most (x ∷ first) 0).log) (sym h) ∙ ap first_nick (sym g.1)
    ∙ still_first (state_of 2 most (reads 0 ann_is_asked ∷ []) 0).log g.0 [] ann_is_first in
    true≢false (ap (λ n. bytes_eq n (codes "bob")) (sym bob_is_first ∙ ap (λ (t : Replica). first_nick t.log) f ∙ ann))

forgetful_stopped : NeverStopped 2 most forgetful → ⊥
forgetful_stopped s = let w = s.states 0 forgetful [] (sym (append-nil forgetful)) in other_log w.0 w.1 w.2 w.3
