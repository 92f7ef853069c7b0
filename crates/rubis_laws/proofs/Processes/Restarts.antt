-- Processes that stop, and are restarted on their recordings, are processes that never stopped.
use Rattle.rubis_laws.proofs.Common.{ℕ, ◌≡◌, ◌+◌, ◌<◌, Bool, true, false, cond, List, [], ◌∷◌, ◌++◌, length, refl, sym, ap, ◌∙◌, subst, Some, inl, inr, ⊎_elim}
use Rattle.rubis_laws.proofs.Common.{append_assoc, append-nil, ◌⊎◌, ◌==◌, map, Result, Ok, Err, cases_eq, Refusal, Message, packet_of, Token, asked_rows}
use Rattle.rubis_laws.proofs.Common.{passed_rows, send_row, Carried, Reading, WasSent, process, read_by, site_after, state_of, AreReplayed, CarriedWithRestarts}
use Rattle.rubis_laws.proofs.Common.{IsShortened, Moment, NeverStopped, Replayed, WasEverSent, has_read, recorded, without_restarts, Reads, Replays, Restarts}
use Rattle.rubis_laws.proofs.Common.{input_of, Input, answers, input_step, output_of, Asked, Came, Neither, Has, Place, Replica, arrived, asked, opening_at}
use Rattle.rubis_laws.proofs.Common.{passed, took, has_append, has_left, has_right, Request, Packet}
use Rattle.rubis_model.specs.Processes.{NothingIsLeftOut, ReadingsAreMoments, RecordingsReplay, RestartedAgree, RestartsChangeNothing, read_on, restarted_on}
use Rattle.rubis_laws.proofs.Processes.ProcessLaws.{processes_agree}
use Rattle.rubis_laws.proofs.Processes.AreARun.{answers_stay, is_itself, is_other, none_arrived, none_replied, none_taken, number, output_one, read_more}
use Rattle.rubis_laws.proofs.Processes.AreARun.{sent_now, step}

-- ---- lists

nothing_in : {A : Type 0} (c : List A) {d : List A} → c ++ d ≡ [] → (c ≡ []) × (d ≡ [])
nothing_in [] e = (refl, e)
nothing_in (x ∷ c) e = absurd cc

pub split_append : {A : Type 0} (xs : List A) {ys : List A} (c : List A) {d : List A} → xs ++ ys ≡ c ++ d → ((e : List A) × (xs ≡ c ++ e) × (d ≡ e ++ ys)) ⊎
    ((e : List A) × (c ≡ xs ++ e) × (ys ≡ e ++ d))
split_append xs [] e = inl (xs, refl, sym e)
split_append [] (z ∷ c) e = inr (z ∷ c, refl, e)
split_append (x ∷ xs) {ys} (z ∷ c) {d} e =
    let q : xs ++ ys ≡ c ++ d = cc in
    let h : x ≡ z = cc in
    ⊎_elim (λ k. inl (k.0, (λ i. h i ∷ k.1 i), k.2)) (λ k. inr (k.0, (λ i. sym h i ∷ k.1 i), k.2)) (split_append xs c q)

split_map : {A B : Type 0} {f : A → B} (xs : List A) (c : List B) {d : List B} → map f xs ≡ c ++ d → (a b : List A) × (xs ≡ a ++ b) × (c ≡ map f a)
    × (d ≡ map f b)
split_map xs [] e = ([], xs, refl, refl, sym e)
split_map [] (z ∷ c) e = absurd cc
split_map {f} (x ∷ xs) (z ∷ c) {d} e =
    let q : map f xs ≡ c ++ d = cc in
    let h : f x ≡ z = cc in
    let w = split_map xs c q in
    (x ∷ w.0, w.1, (λ i. x ∷ w.2 i), (λ i. sym h i ∷ w.3 i), w.4)

-- ---- the number of a record shows in its answer alone, and not in what is sent

pub same_state : (p : Place) (s : Replica) (n m : ℕ) (x : Input) → (input_step p s n x).0 ≡ (input_step p s m x).0
same_state p s n m (Asked (Request.Ask a)) = refl
same_state p s n m (Asked (Request.Pass to)) = refl
same_state p s n m (Asked (Request.List l)) = refl
same_state p s n m (Came (Packet.Msg u)) = refl
same_state p s n m (Came (Packet.Token t)) = refl
same_state p s n m Neither = refl

asked_same : (n m : ℕ) (r : Result Message Refusal) (fields : List (List ℕ)) → Has (send_row fields) (asked_rows n r) → Has (send_row fields) (asked_rows m r)
asked_same n m (Ok u) fields (inl e) = absurd cc
asked_same n m (Ok u) fields (inr h) = inr h
asked_same n m (Err r) fields (inl e) = absurd cc
asked_same n m (Err r) fields (inr h) = absurd h

passed_same : (n m : ℕ) (r : Result Token Refusal) (fields : List (List ℕ)) → Has (send_row fields) (passed_rows n r) → Has (send_row fields) (passed_rows m r)
passed_same n m (Ok u) fields (inl e) = absurd cc
passed_same n m (Ok u) fields (inr h) = inr h
passed_same n m (Err r) fields (inl e) = absurd cc
passed_same n m (Err r) fields (inr h) = absurd h

same_sent : (p : Place) (s : Replica) (n m : ℕ) (x : Input) (fields : List (List ℕ)) → Has (send_row fields) (input_step p s n x).1
    → Has (send_row fields) (input_step p s m x).1
same_sent p s n m (Asked (Request.Ask a)) fields h = asked_same n m (asked p s a).1 fields h
same_sent p s n m (Asked (Request.Pass to)) fields h = passed_same n m (passed p s to).1 fields h
same_sent p s n m (Asked (Request.List l)) fields (inl e) = absurd cc
same_sent p s n m (Asked (Request.List l)) fields (inr h) = inr h
same_sent p s n m (Came (Packet.Msg u)) fields h = absurd (none_arrived n (arrived p s u).1 fields h)
same_sent p s n m (Came (Packet.Token t)) fields h = absurd (none_taken n (took p s t).1 fields h)
same_sent p s n m Neither fields h = absurd (none_replied n _ fields h)

-- ---- records without some that change nothing

module _ (p : Place) where
  -- what record n leads to
  abbrev next : Replica → ℕ → List (List ℕ) → Replica
  next s n fields = (input_step p s n (input_of p.sites fields)).0

  pub short_state : (full short : List (List (List ℕ))) (s : Replica) (n m : ℕ) → IsShortened p s short full → site_after p s n short ≡ site_after p s m full
  short_state [] short s n m e = ap (site_after p s n) e
  short_state (x ∷ full) short s n m (inl h) = short_state full short s n _ h.1 ∙ ap (λ t. site_after p t (m + 1) full) (sym h.0 ∙ same_state p s 1 m _)
  short_state (x ∷ full) short s n m (inr h) = ap (site_after p s n) h.1 ∙ ap (λ t. site_after p t (n + 1) h.0) (same_state p s n 1 _) ∙ short_state full h.0 _
      _ _ h.2 ∙ ap (λ t. site_after p t (m + 1) full) (same_state p s 1 m _)

  short_sent : (fields : List (List ℕ)) (full short : List (List (List ℕ))) (s : Replica) (n m : ℕ) → IsShortened p s short full →
      Has (send_row fields) (answers p s n short)
      → Has (send_row fields) (answers p s m full)
  unfolding answers
  short_sent fields [] short s n m e h = subst (λ l. Has (send_row fields) (answers p s n l)) e h
  short_sent fields (x ∷ full) short s n m (inl k) h = has_right _ _ _
      (subst (λ t. Has (send_row fields) (answers p t (m + 1) full)) (sym k.0 ∙ same_state p s 1 m _) (short_sent _ full short s n _ k.1 h))
  short_sent fields (x ∷ full) short s n m (inr k) h = ⊎_elim (λ l. has_left _ _ _ (same_sent p s n m _ _ l))
      (λ r. has_right _ _ _ (subst (λ t. Has (send_row fields) (answers p t (m + 1) full)) (same_state p s 1 m _)
      (short_sent _ full k.0 _ _ _ k.2 (subst (λ t. Has (send_row fields) (answers p t (n + 1) k.0)) (same_state p s n 1 _) r))))
      (has_append _ _ _ (subst (λ l. Has (send_row fields) (answers p s n l)) k.1 h))

  -- nothing has to be left out
  whole_short : (full : List (List (List ℕ))) (s : Replica) → IsShortened p s full full
  whole_short [] s = refl
  whole_short (x ∷ full) s = inr (full, refl, whole_short full (next s 1 x))

-- ---- what was read at some moment

-- the process of site i has read these records at some moment of the readings
abbrev WasRead : ℕ → List Reading → List (List (List ℕ)) → Type 0
WasRead i readings records = (before later : List Reading) × (readings ≡ before ++ later) × (read_by i before ≡ records)

own_first : (i : ℕ) (r : Reading) (rest : List Reading) {x : List (List ℕ)} (records : List (List (List ℕ))) → (r.site == i) ≡ true → x ≡ r.fields
    → WasRead i rest records → WasRead i (r ∷ rest) (x ∷ records)
own_first i r rest records is same w =
    (r ∷ w.0, w.1, ap (λ l. r ∷ l) w.2, ap (λ b. cond b (r.fields ∷ read_by i w.0) (read_by i w.0)) is ∙ (λ j. sym same j ∷ w.3 j))

other_first : (i : ℕ) (r : Reading) (rest : List Reading) (records : List (List (List ℕ))) → (r.site == i) ≡ false → WasRead i rest records
    → WasRead i (r ∷ rest) records
other_first i r rest records is w = (r ∷ w.0, w.1, ap (λ l. r ∷ l) w.2, ap (λ b. cond b (r.fields ∷ read_by i w.0) (read_by i w.0)) is ∙ w.3)

-- a prefix of all that it reads it has read at some moment
read_first : (i : ℕ) (readings : List Reading) (records more : List (List (List ℕ))) → records ++ more ≡ read_by i readings → WasRead i readings records
read_first i [] records more e = ([], [], refl, sym (nothing_in records e).0)
read_first i (r ∷ rest) [] more e = ([], r ∷ rest, refl, refl)
read_first i (r ∷ rest) (x ∷ records) more e = at (r.site == i) refl e (read_first i rest records more) (read_first i rest (x ∷ records) more)
  where
    at : (b : Bool) → (r.site == i) ≡ b → x ∷ records ++ more ≡ cond b (r.fields ∷ read_by i rest) (read_by i rest)
        → (records ++ more ≡ read_by i rest → WasRead i rest records) → (x ∷ records ++ more ≡ read_by i rest → WasRead i rest (x ∷ records))
        → WasRead i (r ∷ rest) (x ∷ records)
    at true is e own other = own_first i r rest records is (let h : x ≡ r.fields = cc in h) (own (let q : records ++ more ≡ read_by i rest = cc in q))
    at false is e own other = other_first i r rest (x ∷ records) is (other e)

pub read_on_more : (i : ℕ) (so_far : List (List (List ℕ))) (a b : List Moment) → read_on i so_far (a ++ b) ≡ read_on i (read_on i so_far a) b
read_on_more i so_far [] b = refl
read_on_more i so_far (Reads j fields ∷ a) b = read_on_more i (cond (j == i) (so_far ++ fields ∷ []) so_far) a b
read_on_more i so_far (Restarts j ∷ a) b = read_on_more i (cond (j == i) [] so_far) a b
read_on_more i so_far (Replays j fields ∷ a) b = read_on_more i (cond (j == i) (so_far ++ fields ∷ []) so_far) a b

pub recorded_more : (a b : List Moment) → recorded (a ++ b) ≡ recorded a ++ recorded b
recorded_more [] b = refl
recorded_more (Reads i fields ∷ a) b = ap (λ l. record { site = i; fields = fields } ∷ l) (recorded_more a b)
recorded_more (Restarts i ∷ a) b = recorded_more a b
recorded_more (Replays i fields ∷ a) b = recorded_more a b

-- when a reading was recorded
recorded_where : (moments : List Moment) (first : List Reading) (r : Reading) (rest : List Reading) → recorded moments ≡ first ++ r ∷ rest
    → (before later : List Moment) × (moments ≡ before ++ Reads r.site r.fields ∷ later) × (recorded before ≡ first)
recorded_where [] first r rest e = let z = (nothing_in first {d = r ∷ rest} (sym e)).1 in absurd cc
recorded_where (Reads i fields ∷ moments) [] r rest e =
    let h : record { site = i; fields = fields } ≡ r = cc in ([], moments, (λ k. Reads (h k).site (h k).fields ∷ moments), refl)
recorded_where (Reads i fields ∷ moments) (x ∷ first) r rest e =
    let h : record { site = i; fields = fields } ≡ x = cc in
    let q : recorded moments ≡ first ++ r ∷ rest = cc in
    let w = recorded_where moments first r rest q in
    (Reads i fields ∷ w.0, w.1, (λ k. Reads i fields ∷ w.2 k), (λ k. h k ∷ w.3 k))
recorded_where (Restarts i ∷ moments) first r rest e =
    let w = recorded_where moments first r rest e in (Restarts i ∷ w.0, w.1, ap (λ l. Restarts i ∷ l) w.2, w.3)
recorded_where (Replays i fields ∷ moments) first r rest e =
    let w = recorded_where moments first r rest e in (Replays i fields ∷ w.0, w.1, ap (λ l. Replays i fields ∷ l) w.2, w.3)

-- ---- what is recorded never stopped

module _ (sites : ℕ) (keep : ℕ → ℕ) (moments : List Moment) (replayed : AreReplayed sites keep moments) (carried : CarriedWithRestarts sites keep moments) where
  states : (i : ℕ) (before later : List Moment) → moments ≡ before ++ later
      → (first rest : List Reading) × (recorded moments ≡ first ++ rest)
      × (site_after (process sites keep i) (opening_at i) 1 (has_read i before) ≡ state_of sites keep first i)
  states i before later e =
      let r = replayed i before later e in
      let w = read_first i (recorded before) r.first r.rest (sym r.parts) in (
        w.0,
        w.1 ++ recorded later,
        ap recorded e ∙ recorded_more before later ∙ ap (λ l. l ++ recorded later) w.2 ∙ append_assoc w.0 w.1 (recorded later),
        short_state _ _ _ _ 1 1 r.again ∙ ap (site_after (process sites keep i) (opening_at i) 1) (sym w.3),
      )

  sent_before : {done : List Moment} (rest : List Moment) → moments ≡ done ++ rest → (fields : List (List ℕ)) → WasEverSent sites keep done fields
      → WasSent sites keep (recorded done) fields
  sent_before {done} rest e fields w =
      let p = process sites keep w.0 in
      let r = replayed w.0 w.2 (w.3 ++ rest) (e ∙ ap (λ l. l ++ rest) w.4 ∙ append_assoc w.2 w.3 rest) in
      let all : read_by w.0 (recorded done) ≡ r.first ++ (r.rest ++ read_by w.0 (recorded w.3)) =
      ap (λ l. read_by w.0 (recorded l)) w.4 ∙ ap (read_by w.0) (recorded_more w.2 w.3) ∙ read_more w.0 (recorded w.2) (recorded w.3)
      ∙ ap (λ l. l ++ read_by w.0 (recorded w.3)) r.parts ∙ append_assoc r.first r.rest (read_by w.0 (recorded w.3)) in (
        w.0,
        w.1,
        subst (Has (send_row fields)) (sym (ap (output_of p) all ∙ answers_stay p r.first (r.rest ++ read_by w.0 (recorded w.3))))
            (has_left (send_row fields) (output_of p r.first) _ (short_sent p fields r.first (has_read w.0 w.2) (opening_at w.0) 1 1 r.again w.5)),
      )

  all_carried : Carried sites keep (recorded moments)
  all_carried before later r p e is =
      let w = recorded_where moments before r later e in
      subst (λ l. WasSent sites keep l r.fields) w.3
      (sent_before (Reads r.site r.fields ∷ w.1) w.2 r.fields (carried w.0 w.1 r.site r.fields p w.2 is))

  sent_longer : (a b : List Moment) (fields : List (List ℕ)) → WasEverSent sites keep a fields → WasEverSent sites keep (a ++ b) fields
  sent_longer a b fields w = (w.0, w.1, w.2, w.3 ++ b, ap (λ l. l ++ b) w.4 ∙ append_assoc w.2 w.3 b, w.5)

  -- what the processes send there, these have sent
  abbrev AllSent : List Moment → Type 0
  AllSent done = (fields : List (List ℕ)) → WasSent sites keep (recorded done) fields → WasEverSent sites keep done fields

  sent_read : (done : List Moment) (j : ℕ) (x : List (List ℕ)) (rest : List Moment) → moments ≡ done ++ Reads j x ∷ rest → AllSent done →
      AllSent (done ++ Reads j x ∷ [])
  sent_read done j x rest e sent fields h = ⊎_elim (λ k. sent_longer done _ _ (sent fields k)) (λ k. new k.0 k.1)
      (sent_now sites keep _ r _ (subst (λ l. WasSent sites keep l fields) (recorded_more done (Reads j x ∷ [])) h))
    where
      r : Reading
      r = record { site = j; fields = x }

      new : j < sites → Has (send_row fields) (step sites keep (recorded done) (record { site = j; fields = x })).1 →
          WasEverSent sites keep (done ++ Reads j x ∷ []) fields
      new l k =
          let p = process sites keep j in
          let o = opening_at j in
          let q = replayed j done (Reads j x ∷ rest) e in
          let whole : read_by j (recorded done) ≡ q.first = q.parts ∙ ap (λ l. q.first ++ l) (q.whole x rest refl) ∙ append-nil q.first in
          let same : state_of sites keep (recorded done) j ≡ site_after p o 1 (has_read j done) =
          ap (site_after p o 1) whole ∙ sym (short_state p q.first (has_read j done) o 1 1 q.again) in
          let now : has_read j (done ++ Reads j x ∷ []) ≡ has_read j done ++ x ∷ [] =
          read_on_more j [] done (Reads j x ∷ []) ∙ ap (λ b. cond b (has_read j done ++ x ∷ []) (has_read j done)) (is_itself refl) in (
            j,
            l,
            done ++ Reads j x ∷ [],
            [],
            sym (append-nil (done ++ Reads j x ∷ [])),
            subst (Has (send_row fields)) (sym (ap (output_of p) now ∙ output_one p (has_read j done) x))
                (has_right (send_row fields) (output_of p (has_read j done))
                (input_step p (site_after p o 1 (has_read j done)) (1 + length (has_read j done)) (input_of sites x)).1
                (subst (λ t. Has (send_row fields) (input_step p t (1 + length (has_read j done)) (input_of sites x)).1) same
                (same_sent p (state_of sites keep (recorded done) j) (number sites keep (recorded done) (record { site = j; fields = x }))
                (1 + length (has_read j done)) (input_of sites x) fields k))),
          )

  -- a moment at which nothing is recorded
  sent_still : {done : List Moment} (m : Moment) → recorded (m ∷ []) ≡ [] → AllSent done → AllSent (done ++ m ∷ [])
  sent_still {done} m none sent fields h = sent_longer done (m ∷ []) fields
      (sent fields (subst (λ l. WasSent sites keep l fields) (recorded_more done (m ∷ []) ∙ ap (λ l. recorded done ++ l) none ∙ append-nil (recorded done)) h))

  all_sent : (rest : List Moment) {done : List Moment} → moments ≡ done ++ rest → AllSent done → AllSent moments
  all_sent [] {done} e sent = subst AllSent (sym (e ∙ append-nil done)) sent
  all_sent (Reads j x ∷ rest) {done} e sent = all_sent rest {done = done ++ Reads j x ∷ []} (e ∙ sym (append_assoc done (Reads j x ∷ []) rest))
      (sent_read done j x rest e sent)
  all_sent (Restarts j ∷ rest) {done} e sent = all_sent rest (e ∙ sym (append_assoc done (Restarts j ∷ []) rest)) (sent_still (Restarts j) refl sent)
  all_sent (Replays j x ∷ rest) {done} e sent = all_sent rest (e ∙ sym (append_assoc done (Replays j x ∷ []) rest)) (sent_still (Replays j x) refl sent)

  none_sent : AllSent []
  unfolding answers
  none_sent fields h = absurd h.2

  never_stopped : NeverStopped sites keep moments
  never_stopped = record {
    carried = all_carried;
    states = states;
    sent = λ fields. (sent_before [] (sym (append-nil moments)) fields, all_sent moments refl none_sent fields);
  }

pub restarts_change_nothing : RestartsChangeNothing
restarts_change_nothing sites keep moments replayed carried = never_stopped sites keep moments replayed carried

pub restarted_agree : RestartedAgree
restarted_agree sites keep moments some top small replayed carried logs were =
    let s = restarts_change_nothing sites keep moments replayed carried in
    processes_agree sites keep (recorded moments) some top small s.carried logs (λ log h.
    let m = were log h in
    let w = s.states log.site m.before m.later m.parts in
    (w.0, w.1, w.2, record { within = m.within; messages = m.messages ∙ ap (λ (t : Replica). t.log) w.3; rows = m.rows }))

pub nothing_left_out : NothingIsLeftOut
nothing_left_out p s records = whole_short p records s

-- ---- processes that never stop

recorded_readings : (readings : List Reading) → recorded (without_restarts readings) ≡ readings
recorded_readings [] = refl
recorded_readings (r ∷ rest) = ap (λ l. r ∷ l) (recorded_readings rest)

read_on_reads : (i : ℕ) (so_far : List (List (List ℕ))) (readings : List Reading) → read_on i so_far (without_restarts readings) ≡ so_far ++ read_by i readings
read_on_reads i so_far [] = sym (append-nil so_far)
read_on_reads i so_far (r ∷ rest) = read_on_reads i (cond (r.site == i) (so_far ++ r.fields ∷ []) so_far) rest ∙ at (r.site == i)
  where
    at : (b : Bool) → cond b (so_far ++ r.fields ∷ []) so_far ++ read_by i rest ≡ so_far ++ cond b (r.fields ∷ read_by i rest) (read_by i rest)
    at true = append_assoc so_far (r.fields ∷ []) (read_by i rest)
    at false = refl

abbrev as_moment : Reading → Moment
as_moment r = Reads r.site r.fields

pub readings_are_moments : ReadingsAreMoments
readings_are_moments sites keep readings carried = (replayed, carried_on)
  where
    replayed : AreReplayed sites keep (without_restarts readings)
    replayed i before later e =
        let w = split_map {f = as_moment} readings before {d = later} e in
        record {
          first = read_by i w.0;
          rest = [];
          parts = ap (λ l. read_by i (recorded l)) w.3 ∙ ap (read_by i) (recorded_readings w.0) ∙ sym (append-nil (read_by i w.0));
          again = subst (λ l. IsShortened (process sites keep i) (opening_at i) l (read_by i w.0)) (sym (ap (has_read i) w.3 ∙ read_on_reads i [] w.0))
              (whole_short (process sites keep i) (read_by i w.0) (opening_at i));
          whole = λ fields more q. refl;
        }

    carried_on : CarriedWithRestarts sites keep (without_restarts readings)
    carried_on before later i fields p e is =
        let w = split_map {f = as_moment} readings before {d = Reads i fields ∷ later} e in
        at w.0 w.1 w.2 w.3 w.4
      where
        at : (x y : List Reading) → readings ≡ x ++ y → before ≡ without_restarts x → Reads i fields ∷ later ≡ without_restarts y →
            WasEverSent sites keep before fields
        at x [] f g h = absurd cc
        at x (r ∷ y) f g h =
            let q : fields ≡ r.fields = cc in
            let s = carried x y r p f (subst (λ k. packet_of sites k ≡ Some p) q is) in (
              s.0,
              s.1,
              before,
              [],
              sym (append-nil before),
              subst (λ k. Has (send_row k) (output_of (process sites keep s.0) (has_read s.0 before))) (sym q)
                  (subst (λ l. Has (send_row r.fields) (output_of (process sites keep s.0) l)) (sym (ap (has_read s.0) g ∙ read_on_reads s.0 [] x)) s.2),
            )

-- ---- a recording that is read again

kept_first : (p : Place) {z : List (List ℕ)} {full : List (List (List ℕ))} (s : Replica) {a : List (List ℕ)} (x : List (List (List ℕ))) → z ≡ a
    → (f g : List (List (List ℕ))) × (full ≡ f ++ g) × IsShortened p (input_step p s 1 (input_of p.sites z)).0 x f
    → (f g : List (List (List ℕ))) × (z ∷ full ≡ f ++ g) × IsShortened p s (a ∷ x) f
kept_first p {z} s x same w = (z ∷ w.0, w.1, ap (λ l. z ∷ l) w.2, inr (x, (λ i. sym same i ∷ x), w.3))

-- a prefix of a shortened list is a prefix of the list, shortened
short_first : (p : Place) (full : List (List (List ℕ))) {short : List (List (List ℕ))} (s : Replica) (x y : List (List (List ℕ))) → IsShortened p s short full
    → short ≡ x ++ y → (f g : List (List (List ℕ))) × (full ≡ f ++ g) × IsShortened p s x f
short_first p [] s x y h e = ([], [], refl, (nothing_in x (sym e ∙ h)).0)
short_first p (z ∷ full) s x y (inl h) e =
    let w = short_first p full s x y h.1 e in (z ∷ w.0, w.1, ap (λ l. z ∷ l) w.2, inl (h.0, w.3))
short_first p (z ∷ full) s [] y (inr h) e = ([], z ∷ full, refl, refl)
short_first p (z ∷ full) s (a ∷ x) y (inr h) e =
    let k : z ∷ h.0 ≡ a ∷ x ++ y = sym h.1 ∙ e in
    kept_first p s x (let same : z ≡ a = cc in same) (short_first p full (input_step p s 1 (input_of p.sites z)).0 x y h.2 (let q : h.0 ≡ x ++ y = cc in q))

read_again : {i j : ℕ} → i ≡ j → (so_far records : List (List (List ℕ))) → read_on i so_far (map (Replays j) records) ≡ so_far ++ records
read_again e so_far [] = sym (append-nil so_far)
read_again {i} {j} e so_far (x ∷ records) =
    ap (λ b. read_on i (cond b (so_far ++ x ∷ []) so_far) (map (Replays j) records)) (is_itself (sym e))
    ∙ read_again e (so_far ++ x ∷ []) records ∙ append_assoc so_far (x ∷ []) records

read_elsewhere : (i j : ℕ) → (i ≡ j → ⊥) → (so_far records : List (List (List ℕ))) → read_on i so_far (map (Replays j) records) ≡ so_far
read_elsewhere i j n so_far [] = refl
read_elsewhere i j n so_far (x ∷ records) =
    ap (λ b. read_on i (cond b (so_far ++ x ∷ []) so_far) (map (Replays j) records)) (is_other j i n) ∙ read_elsewhere i j n so_far records

recorded_none : (j : ℕ) (records : List (List (List ℕ))) → recorded (map (Replays j) records) ≡ []
recorded_none j [] = refl
recorded_none j (x ∷ records) = recorded_none j records

no_new : {P : Type 0} (j : ℕ) (records : List (List (List ℕ))) {i : ℕ} {fields : List (List ℕ)} {more : List Moment}
    → map (Replays j) records ≡ Reads i fields ∷ more → P
no_new j [] e = absurd cc
no_new j (x ∷ records) e = absurd cc

module _ (sites : ℕ) (keep : ℕ → ℕ) (j : ℕ) (moments : List Moment) (records : List (List (List ℕ))) (replayed : AreReplayed sites keep moments)
    (carried : CarriedWithRestarts sites keep moments) (short : IsShortened (process sites keep j) (opening_at j) records (read_by j (recorded moments))) where
  -- nothing new is read then
  abbrev NothingNew : List Moment → Type 0
  NothingNew later = (i : ℕ) (fields : List (List ℕ)) (more : List Moment) → later ≡ Reads i fields ∷ more → ⊥

  -- at the end of the first moments, or where as much has been read and recorded
  at_the_end : (i : ℕ) (before later : List Moment) → has_read i before ≡ has_read i moments → recorded before ≡ recorded moments → NothingNew later
      → Replayed sites keep i before later
  at_the_end i before later e f none =
      let r = replayed i moments [] (sym (append-nil moments)) in
      record {
        first = r.first;
        rest = r.rest;
        parts = ap (read_by i) f ∙ r.parts;
        again = subst (λ l. IsShortened (process sites keep i) (opening_at i) l r.first) (sym e) r.again;
        whole = λ fields more q. absurd (none i fields more q);
      }

  while_read : (i : ℕ) (x y : List (List (List ℕ))) {later : List Moment} → records ≡ x ++ y → NothingNew later
      → Replayed sites keep i (moments ++ Restarts j ∷ map (Replays j) x) later
  while_read i x y {later} e none = ⊎_elim own other (cases_eq i j)
    where
      still : recorded (moments ++ Restarts j ∷ map (Replays j) x) ≡ recorded moments
      still = recorded_more moments (Restarts j ∷ map (Replays j) x) ∙ ap (λ l. recorded moments ++ l) (recorded_none j x) ∙ append-nil (recorded moments)

      own : i ≡ j → Replayed sites keep i (moments ++ Restarts j ∷ map (Replays j) x) later
      own q =
          let w = short_first (process sites keep j) (read_by j (recorded moments)) (opening_at j) x y short e in
          let now : has_read j (moments ++ Restarts j ∷ map (Replays j) x) ≡ x =
          read_on_more j [] moments (Restarts j ∷ map (Replays j) x)
          ∙ ap (λ b. read_on j (cond b [] (has_read j moments)) (map (Replays j) x)) (is_itself refl) ∙ read_again refl [] x in
          subst (λ k. Replayed sites keep k (moments ++ Restarts j ∷ map (Replays j) x) later) (sym q) (record {
            first = w.0;
            rest = w.1;
            parts = ap (read_by j) still ∙ w.2;
            again = subst (λ l. IsShortened (process sites keep j) (opening_at j) l w.0) (sym now) w.3;
            whole = λ fields more k. absurd (none j fields more k);
          })

      other : (i ≡ j → ⊥) → Replayed sites keep i (moments ++ Restarts j ∷ map (Replays j) x) later
      other n = at_the_end i _ later (read_on_more i [] moments (Restarts j ∷ map (Replays j) x)
          ∙ ap (λ b. read_on i (cond b [] (has_read i moments)) (map (Replays j) x)) (is_other j i n) ∙ read_elsewhere i j n (has_read i moments) x) still none

  all_replayed : AreReplayed sites keep (restarted_on j records moments)
  all_replayed i before later e = ⊎_elim (λ k. earlier k.0 k.1 k.2) (λ k. after k.0 k.1 k.2) (split_append moments before e)
    where
      earlier : (e : List Moment) → moments ≡ before ++ e → later ≡ e ++ Restarts j ∷ map (Replays j) records → Replayed sites keep i before later
      earlier e f g =
          let r = replayed i before e f in
          record { first = r.first; rest = r.rest; parts = r.parts; again = r.again; whole = λ fields more q. whole e fields more f (sym g ∙ q) }
        where
          whole : (e : List Moment) (fields : List (List ℕ)) (more : List Moment) (f : moments ≡ before ++ e) → e ++ Restarts j ∷ map (Replays j) records
              ≡ Reads i fields ∷ more
              → (replayed i before e f).rest ≡ []
          whole [] fields more f q = absurd cc
          whole (z ∷ e) fields more f q = (replayed i before (z ∷ e) f).whole fields e (let h : z ≡ Reads i fields = cc in ap (λ m. m ∷ e) h)

      after : (e : List Moment) → before ≡ moments ++ e → Restarts j ∷ map (Replays j) records ≡ e ++ later → Replayed sites keep i before later
      after [] f g =
          let same = f ∙ append-nil moments in
          at_the_end i before later (ap (has_read i) same) (ap recorded same)
          (λ k fields more q. let z : Restarts j ∷ map (Replays j) records ≡ Reads k fields ∷ more = g ∙ q in absurd cc)
      after (z ∷ e) f g =
          let h : z ≡ Restarts j = cc in
          let k : map (Replays j) records ≡ e ++ later = cc in
          let w = split_map records e k in
          subst (λ l. Replayed sites keep i l later) (sym (f ∙ (λ n. moments ++ h n ∷ w.3 n)))
          (while_read i w.0 w.1 w.2 (λ k fields more q. no_new j w.1 (sym w.4 ∙ q)))

  still_carried : CarriedWithRestarts sites keep (restarted_on j records moments)
  still_carried before later i fields p e is = ⊎_elim (λ k. earlier k.0 k.1 k.2) (λ k. after k.0 k.2) (split_append moments before e)
    where
      earlier : (e : List Moment) → moments ≡ before ++ e → Reads i fields ∷ later ≡ e ++ Restarts j ∷ map (Replays j) records →
          WasEverSent sites keep before fields
      earlier [] f g = absurd cc
      earlier (z ∷ e) f g = let h : z ≡ Reads i fields = cc in carried before e i fields p (f ∙ (λ k. before ++ h k ∷ e)) is

      after : (e : List Moment) → Restarts j ∷ map (Replays j) records ≡ e ++ Reads i fields ∷ later → WasEverSent sites keep before fields
      after [] g = absurd cc
      after (z ∷ e) g =
          let k : map (Replays j) records ≡ e ++ Reads i fields ∷ later = cc in
          let w = split_map records e k in
          no_new j w.1 (sym w.4)

pub recordings_replay : RecordingsReplay
recordings_replay sites j keep moments records replayed carried short =
    (all_replayed sites keep j moments records replayed carried short, still_carried sites keep j moments records replayed carried short)
