-- Worked examples of processes that read all messages, computed on the definitions.
use Rattle.rubis_laws.proofs.Common.{ℕ, ◌≡◌, ◌<◌, List, [], ◌∷◌, ◌++◌, refl, sym, ap, ◌∙◌, subst, arith, cond, Some, None, inl, inr, ⊎_elim, append-nil, ◌⊎◌}
use Rattle.rubis_laws.proofs.Common.{◌==◌, codes, digits, cases_eq, same_Some, number_of, nick_of, decision, Rows, deps_of, take_positive, take_site, Message}
use Rattle.rubis_laws.proofs.Common.{packet_of, request_of, take_kind, take_message, take_packet, take_request, take_shadow, take_stamp, kind_of, Packet}
use Rattle.rubis_laws.proofs.Common.{asked_rows, send_row, Checked, cores, fold_of, meaning_row, Carried, HasExactlySent, HasReadAll, IsSentMessage, KeepsAll}
use Rattle.rubis_laws.proofs.Common.{Reading, WasSent, answers_of, process, read_by, site_after, state_of, AreReplayed, CarriedWithRestarts, Moment, recorded}
use Rattle.rubis_laws.proofs.Common.{state_since_start, Reads, Replays, Restarts, input_of, answers, input_step, output_of, told, Has, Replica, generating}
use Rattle.rubis_laws.proofs.Common.{opening_at, rows_at, standing_of, Ask, Shadow}
use Rattle.rubis_laws.proofs.Rows.FoldIsMeaning.{fold_is_meaning}
use Rattle.rubis_laws.proofs.Processes.ProcessesConverging.{new_records_are_read, processes_converge, restarted_converge}
use Rattle.rubis_laws.proofs.Examples.ProcessExamples.{ann_answers, ann_is_answered, ann_is_asked, ann_is_sent, bob_is_asked, most, no_packet_asked, not_some}
use Rattle.rubis_laws.proofs.Examples.ProcessExamples.{reads}
use Rattle.rubis_laws.proofs.Processes.AreARun.{output_one}
use Rattle.rubis_laws.proofs.Processes.Restarts.{nothing_left_out, readings_are_moments, recordings_replay, split_append}

-- one reading more is carried, if it is no packet or one that was sent
pub carried_next : {sites : ℕ} (keep : ℕ → ℕ) {before : List Reading} (r : Reading) → Carried sites keep before
    → ((p : Packet) → packet_of sites r.fields ≡ Some p → WasSent sites keep before r.fields) → Carried sites keep (before ++ r ∷ [])
carried_next {sites} keep {before} r carried sent first later x p e is = ⊎_elim (λ k. earlier k.0 k.1 k.2) (λ k. now k.0 k.1 k.2) (split_append before first e)
  where
    this : first ≡ before → r ≡ x → WasSent sites keep first x.fields
    this f same = subst (λ l. WasSent sites keep l x.fields) (sym f) (subst (λ (y : Reading). WasSent sites keep before y.fields) same
        (sent p (subst (λ (y : Reading). packet_of sites y.fields ≡ Some p) (sym same) is)))

    earlier : (c : List Reading) → before ≡ first ++ c → x ∷ later ≡ c ++ r ∷ [] → WasSent sites keep first x.fields
    earlier [] f g = this (sym (f ∙ append-nil first)) (let h : r ≡ x = cc in h)
    earlier (z ∷ c) f g = let h : z ≡ x = cc in carried first c x p (f ∙ (λ k. first ++ h k ∷ c)) is

    now : (c : List Reading) → first ≡ before ++ c → r ∷ [] ≡ c ++ x ∷ later → WasSent sites keep first x.fields
    now [] f g = this (f ∙ append-nil before) (let h : r ≡ x = cc in h)
    now (z ∷ []) f g = absurd cc
    now (z ∷ y ∷ c) f g = absurd cc

pub none_carried : (sites : ℕ) (keep : ℕ → ℕ) → Carried sites keep []
none_carried sites keep [] later r p e is = absurd cc
none_carried sites keep (x ∷ before) later r p e is = absurd cc

-- ---- site 0 is asked for two users

abbrev pub ann : Message
ann = record { stamp = record { id = record { site = 0; seq = 1 }; red = 1; deps = 0 ∷ 0 ∷ [] }; shadow = Shadow.User (codes "ann") }

abbrev bob : Message
bob = record { stamp = record { id = record { site = 0; seq = 2 }; red = 2; deps = 1 ∷ 0 ∷ [] }; shadow = Shadow.User (codes "bob") }

abbrev bob_is_sent : List (List ℕ)
bob_is_sent = codes "msg" ∷ codes "1" ∷ codes "0" ∷ codes "2" ∷ codes "2" ∷ codes "1:0" ∷ codes "user" ∷ codes "bob" ∷ []

abbrev after_ann : Replica
after_ann = record { log = ann ∷ []; waiting = []; held = Some 1; last = 0 }

abbrev ann_by : Rows → Replica
ann_by rows = (generating (process 2 most 0) (opening_at 0) (decision rows (standing_of 1000000 (opening_at 0)) (Ask.User (codes "ann")))).0

ann_is_read : site_after (process 2 most 0) (opening_at 0) 1 (ann_is_asked ∷ []) ≡ ann_by (rows_at [])
unfolding request_of take_request take_kind kind_of nick_of
ann_is_read = refl

ann_by_meaning : ann_by (meaning_row []) ≡ after_ann
unfolding meaning_row
ann_by_meaning = refl

ann_is_logged : site_after (process 2 most 0) (opening_at 0) 1 (ann_is_asked ∷ []) ≡ after_ann
ann_is_logged = ann_is_read ∙ ap ann_by (λ i key. (fold_is_meaning [] tt (omega arith)).0.rows key i) ∙ ann_by_meaning

ann_is_checked : Checked (cores (ann ∷ []))
ann_is_checked = (
  record {
    new_id = refl;
    next_red = refl;
    fits = record { known = λ k d l. absurd (omega arith); category = refl; nick = refl; stock = refl; winner = refl };
    limits = (1, tt);
  },
  tt,
)

pub rows_of_ann : rows_at (ann ∷ []) ≡ meaning_row (cores (ann ∷ []))
rows_of_ann = λ i key. (fold_is_meaning (cores (ann ∷ [])) ann_is_checked (omega arith)).0.rows key i

abbrev bob_by : Rows → List (List (List ℕ))
bob_by rows = (told (asked_rows 2) (generating (process 2 most 0) after_ann (decision rows (standing_of 1000000 after_ann) (Ask.User (codes "bob"))))).1

bob_is_read : (input_step (process 2 most 0) after_ann 2 (input_of 2 bob_is_asked)).1 ≡ bob_by (rows_at (ann ∷ []))
unfolding request_of take_request take_kind kind_of nick_of
bob_is_read = refl

abbrev bob_answers : List (List (List ℕ))
bob_answers = (codes "reply" ∷ codes "2" ∷ codes "ok" ∷ codes "0.2" ∷ []) ∷ (codes "send" ∷ bob_is_sent) ∷ []

bob_by_meaning : bob_by (meaning_row (cores (ann ∷ []))) ≡ bob_answers
unfolding meaning_row digits
bob_by_meaning = refl

-- what site 0 answers to both
both_are_answered : output_of (process 2 most 0) (ann_is_asked ∷ bob_is_asked ∷ []) ≡ ann_answers ++ bob_answers
both_are_answered =
    output_one (process 2 most 0) (ann_is_asked ∷ []) bob_is_asked
    ∙ (λ i. ann_is_answered i ++ (input_step (process 2 most 0) (ann_is_logged i) 2 (input_of 2 bob_is_asked)).1)
    ∙ ap (λ rows. ann_answers ++ rows) (bob_is_read ∙ ap bob_by rows_of_ann ∙ bob_by_meaning)

-- ---- what both messages are read as

ann_is_it : packet_of 2 ann_is_sent ≡ Some (Packet.Msg ann)
unfolding packet_of take_packet take_message take_stamp take_site take_positive take_kind kind_of number_of deps_of take_shadow nick_of digits
ann_is_it = refl

bob_is_it : packet_of 2 bob_is_sent ≡ Some (Packet.Msg bob)
unfolding packet_of take_packet take_message take_stamp take_site take_positive take_kind kind_of number_of deps_of take_shadow nick_of digits
bob_is_it = refl

no_packet_bob : packet_of 2 bob_is_asked ≡ None
unfolding packet_of take_packet
no_packet_bob = refl

-- of any readings by which site 0 answers to both asks, and site 1, which reads both messages, sends nothing
module _ (readings : List Reading) (zero : answers_of 2 most readings 0 ≡ ann_answers ++ bob_answers)
    (one : (fields : List (List ℕ)) → Has (send_row fields) (answers_of 2 most readings 1) → ⊥)
    (reads_ann : Has ann_is_sent (read_by 1 readings)) (reads_bob : Has bob_is_sent (read_by 1 readings)) where
  two_sent : {fields : List (List ℕ)} → WasSent 2 most readings fields → (fields ≡ ann_is_sent) ⊎ (fields ≡ bob_is_sent)
  two_sent {fields} h = ⊎_elim (λ e. in_four (subst (Has (send_row fields)) zero (subst (λ i. Has (send_row fields) (answers_of 2 most readings i)) e h.2)))
      (λ n. absurd (one fields (subst (λ i. Has (send_row fields) (answers_of 2 most readings i)) (other h.0 h.1 n) h.2))) (cases_eq h.0 0)
    where
      other : (i : ℕ) → i < 2 → (i ≡ 0 → ⊥) → i ≡ 1
      other i l n = ⊎_elim (λ e. e) (λ q. absurd (small i l n q)) (cases_eq i 1)
        where
          small : (i : ℕ) → i < 2 → (i ≡ 0 → ⊥) → (i ≡ 1 → ⊥) → ⊥
          small i l n q = grind arith

      in_four : Has (send_row fields) (ann_answers ++ bob_answers) → (fields ≡ ann_is_sent) ⊎ (fields ≡ bob_is_sent)
      in_four (inl e) = absurd cc
      in_four (inr (inl e)) = inl (let q : fields ≡ ann_is_sent = cc in q)
      in_four (inr (inr (inl e))) = absurd cc
      in_four (inr (inr (inr (inl e)))) = inr (let q : fields ≡ bob_is_sent = cc in q)
      in_four (inr (inr (inr (inr k)))) = absurd k

  are_these : {fields : List (List ℕ)} (m : Message) → packet_of 2 fields ≡ Some (Packet.Msg m) → (fields ≡ ann_is_sent) ⊎ (fields ≡ bob_is_sent)
      → (m ≡ ann) ⊎ (m ≡ bob)
  are_these m is (inl e) =
      let q : Packet.Msg m ≡ Packet.Msg ann = same_Some (Packet.Msg m) (Packet.Msg ann) (sym is ∙ ap (packet_of 2) e ∙ ann_is_it) in
      inl (let z : m ≡ ann = cc in z)
  are_these m is (inr e) =
      let q : Packet.Msg m ≡ Packet.Msg bob = same_Some (Packet.Msg m) (Packet.Msg bob) (sym is ∙ ap (packet_of 2) e ∙ bob_is_it) in
      inr (let z : m ≡ bob = cc in z)

  zero_has_read : HasReadAll 2 most readings 0
  zero_has_read fields m h is =
      inr (⊎_elim (λ e. ap (λ (x : Message). x.stamp.id.site) e) (λ e. ap (λ (x : Message). x.stamp.id.site) e) (are_these m is (two_sent h)))

  one_has_read : HasReadAll 2 most readings 1
  one_has_read fields m h is = inl
      (⊎_elim (λ e. subst (λ x. Has x (read_by 1 readings)) (sym e) reads_ann) (λ e. subst (λ x. Has x (read_by 1 readings)) (sym e) reads_bob) (two_sent h))

  keep_them : (i : ℕ) → KeepsAll 2 most readings i
  keep_them i = (ann ∷ bob ∷ [], (λ m h. ⊎_elim (λ e. inl e) (λ e. inr (inl e)) (are_these m h.2 (two_sent h.1))), omega arith)

-- ---- the first message is lost, and is sent again

abbrev lost_and_again : List Reading
lost_and_again = reads 0 ann_is_asked ∷ reads 0 bob_is_asked ∷ reads 1 bob_is_sent ∷ reads 1 ann_is_sent ∷ []

-- site 1 holds the second, and releases both when the first comes
abbrev again_answers : List (List (List ℕ))
again_answers = (codes "reply" ∷ codes "1" ∷ codes "held" ∷ []) ∷ (codes "reply" ∷ codes "2" ∷ codes "released" ∷ codes "2" ∷ []) ∷ []

again_is_answered : answers_of 2 most lost_and_again 1 ≡ again_answers
unfolding answers request_of take_request take_kind kind_of packet_of take_packet take_message take_stamp take_site take_positive number_of deps_of take_shadow
    nick_of digits
again_is_answered = refl

again_is_carried : Carried 2 most lost_and_again
again_is_carried = carried_next most (reads 1 ann_is_sent) (carried_next most (reads 1 bob_is_sent) (carried_next most (reads 0 bob_is_asked)
    (carried_next most (reads 0 ann_is_asked) (none_carried 2 most) (λ p is. absurd (not_some (packet_of 2 ann_is_asked) no_packet_asked is)))
    (λ p is. absurd (not_some (packet_of 2 bob_is_asked) no_packet_bob is)))
    (λ p is. (0, omega arith, subst (Has (send_row bob_is_sent)) (sym both_are_answered) (inr (inr (inr (inl refl)))))))
    (λ p is. (0, omega arith, subst (Has (send_row ann_is_sent)) (sym both_are_answered) (inr (inl refl))))

pub two_replies : (n k : List ℕ) (a b : List (List ℕ)) {fields : List (List ℕ)} → Has (send_row fields) ((codes "reply" ∷ n ∷ a) ∷ (codes "reply" ∷ k ∷ b) ∷ [])
    → ⊥
two_replies n k a b (inl e) = absurd cc
two_replies n k a b (inr (inl e)) = absurd cc
two_replies n k a b (inr (inr h)) = h

again_sends_nothing : (fields : List (List ℕ)) → Has (send_row fields) (answers_of 2 most lost_and_again 1) → ⊥
again_sends_nothing fields h = two_replies _ _ _ _ (subst (Has (send_row fields)) again_is_answered h)

-- so both have the same tables
again_converges : (fold_of (cores (state_of 2 most lost_and_again 0).log)).tables ≡ (fold_of (cores (state_of 2 most lost_and_again 1).log)).tables
again_converges =
    (processes_converge 2 most lost_and_again (omega arith) (omega arith) (λ i. omega arith) again_is_carried 0 1 (omega arith) (omega arith)
    (zero_has_read lost_and_again both_are_answered again_sends_nothing (inr (inl refl)) (inl refl))
    (one_has_read lost_and_again both_are_answered again_sends_nothing (inr (inl refl)) (inl refl))
    (keep_them lost_and_again both_are_answered again_sends_nothing (inr (inl refl)) (inl refl) 0)
    (keep_them lost_and_again both_are_answered again_sends_nothing (inr (inl refl)) (inl refl) 1)).2

-- ---- a site that keeps too few

-- site 1 keeps one message
abbrev one_kept : ℕ → ℕ
one_kept i = cond (i == 1) 1 1000000

abbrev in_order : List Reading
in_order = reads 0 ann_is_asked ∷ reads 0 bob_is_asked ∷ reads 1 ann_is_sent ∷ reads 1 bob_is_sent ∷ []

too_few_is_answered : answers_of 2 one_kept in_order 1 ≡ (codes "reply" ∷ codes "1" ∷ codes "released" ∷ codes "1" ∷ []) ∷
    (codes "reply" ∷ codes "2" ∷ codes "refused" ∷ codes "2" ∷ codes "Full" ∷ []) ∷ []
unfolding answers request_of take_request take_kind kind_of packet_of take_packet take_message take_stamp take_site take_positive number_of deps_of take_shadow
    nick_of digits
too_few_is_answered = refl

too_few_are_logged : (state_of 2 one_kept in_order 1).log ≡ ann ∷ []
unfolding request_of take_request take_kind kind_of packet_of take_packet take_message take_stamp take_site take_positive number_of deps_of take_shadow nick_of
    digits
too_few_are_logged = refl

bob_is_sent_there : IsSentMessage 2 one_kept in_order bob
bob_is_sent_there = (bob_is_sent, (0, omega arith, subst (Has (send_row bob_is_sent)) (sym both_are_answered) (inr (inr (inr (inl refl))))), bob_is_it)

-- it has read all that was sent, and hasn't released it: so the law is false without `KeepsAll`
too_few_is_not_exact : HasExactlySent 2 one_kept in_order (state_of 2 one_kept in_order 1) → ⊥
too_few_is_not_exact h = none (subst (Has bob) too_few_are_logged ((h.released bob).0 bob_is_sent_there))
  where
    none : Has bob (ann ∷ []) → ⊥
    none (inl e) = let q = ap (λ (m : Message). m.stamp.id.seq) e in absurd (omega (arith, q))
    none (inr k) = k

-- ---- site 0 is killed after it sent, and restarted; meanwhile the message is on its way

abbrev first_life : List Moment
first_life = Reads 0 ann_is_asked ∷ []

abbrev second_life : List Moment
second_life = Reads 0 ann_is_asked ∷ Restarts 0 ∷ Replays 0 ann_is_asked ∷ []

-- site 1 reads what was sent before that, and site 0 goes on
abbrev other_goes_on : List Moment
other_goes_on = Reads 0 ann_is_asked ∷ Restarts 0 ∷ Replays 0 ann_is_asked ∷ Reads 1 ann_is_sent ∷ []

abbrev site_0_goes_on : List Moment
site_0_goes_on = Reads 0 ann_is_asked ∷ Restarts 0 ∷ Replays 0 ann_is_asked ∷ Reads 1 ann_is_sent ∷ Reads 0 bob_is_asked ∷ []

abbrev killed : List Moment
killed = Reads 0 ann_is_asked ∷ Restarts 0 ∷ Replays 0 ann_is_asked ∷ Reads 1 ann_is_sent ∷ Reads 0 bob_is_asked ∷ Reads 1 bob_is_sent ∷ []

abbrev Fine : List Moment → Type 0
Fine moments = AreReplayed 2 most moments × CarriedWithRestarts 2 most moments

first_is_fine : Fine first_life
first_is_fine = readings_are_moments 2 most (reads 0 ann_is_asked ∷ [])
    (carried_next most (reads 0 ann_is_asked) (none_carried 2 most) (λ p is. absurd (not_some (packet_of 2 ann_is_asked) no_packet_asked is)))

second_is_fine : Fine second_life
second_is_fine = recordings_replay 2 0 most first_life (ann_is_asked ∷ []) first_is_fine.0 first_is_fine.1
    (nothing_left_out (process 2 most 0) (opening_at 0) (ann_is_asked ∷ []))

other_is_fine : Fine other_goes_on
other_is_fine =
    let f = new_records_are_read 2 1 most second_life ann_is_sent second_is_fine.0 second_is_fine.1 (nothing_left_out (process 2 most 1) (opening_at 1) [])
    (λ p is. (
      0,
      omega arith,
      first_life,
      Restarts 0 ∷ Replays 0 ann_is_asked ∷ [],
      refl,
      subst (Has (send_row ann_is_sent)) (sym ann_is_answered) (inr (inl refl)),
    )) in
    (f.0, f.1)

site_0_is_fine : Fine site_0_goes_on
site_0_is_fine =
    let f = new_records_are_read 2 0 most other_goes_on bob_is_asked other_is_fine.0 other_is_fine.1
    (nothing_left_out (process 2 most 0) (opening_at 0) (ann_is_asked ∷ [])) (λ p is. absurd (not_some (packet_of 2 bob_is_asked) no_packet_bob is)) in
    (f.0, f.1)

killed_is_fine : Fine killed
killed_is_fine =
    let f = new_records_are_read 2 1 most site_0_goes_on bob_is_sent site_0_is_fine.0 site_0_is_fine.1
    (nothing_left_out (process 2 most 1) (opening_at 1) (ann_is_sent ∷ []))
    (λ p is. (0, omega arith, site_0_goes_on, [], refl, subst (Has (send_row bob_is_sent)) (sym both_are_answered) (inr (inr (inr (inl refl)))))) in
    (f.0, f.1)

killed_is_answered : answers_of 2 most (recorded killed) 1 ≡ (codes "reply" ∷ codes "1" ∷ codes "released" ∷ codes "1" ∷ []) ∷
    (codes "reply" ∷ codes "2" ∷ codes "released" ∷ codes "1" ∷ []) ∷ []
unfolding answers request_of take_request take_kind kind_of packet_of take_packet take_message take_stamp take_site take_positive number_of deps_of take_shadow
    nick_of digits
killed_is_answered = refl

killed_sends_nothing : (fields : List (List ℕ)) → Has (send_row fields) (answers_of 2 most (recorded killed) 1) → ⊥
killed_sends_nothing fields h = two_replies _ _ _ _ (subst (Has (send_row fields)) killed_is_answered h)

-- at the end both have the same tables, by what they have read since their last starts
killed_converges : (fold_of (cores (state_since_start 2 most killed 0).log)).tables ≡ (fold_of (cores (state_since_start 2 most killed 1).log)).tables
killed_converges =
    (restarted_converge 2 most killed (omega arith) (omega arith) (λ i. omega arith) killed_is_fine.0 killed_is_fine.1 0 1 (omega arith) (omega arith)
    (nothing_left_out (process 2 most 0) (opening_at 0) (ann_is_asked ∷ bob_is_asked ∷ []))
    (nothing_left_out (process 2 most 1) (opening_at 1) (ann_is_sent ∷ bob_is_sent ∷ []))
    (zero_has_read (recorded killed) both_are_answered killed_sends_nothing (inl refl) (inr (inl refl)))
    (one_has_read (recorded killed) both_are_answered killed_sends_nothing (inl refl) (inr (inl refl)))
    (keep_them (recorded killed) both_are_answered killed_sends_nothing (inl refl) (inr (inl refl)) 0)
    (keep_them (recorded killed) both_are_answered killed_sends_nothing (inl refl) (inr (inl refl)) 1)).2
