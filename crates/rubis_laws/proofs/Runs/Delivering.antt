-- Every message is delivered in the end, and sites that have the same come to the same tables.
use Rattle.rubis_laws.proofs.Common.{ℕ, ◌≡◌, ◌<◌, List, [], ◌∷◌, ◌++◌, length, refl, sym, ap, ◌∙◌, Option, Some, None, get_or, set, decision, Request, Packet}
use Rattle.rubis_laws.proofs.Common.{Replica, opening_at, rows_at, standing_of, World, Event, coming, happens, packet_at, place, requested, run, site, start}
use Rattle.rubis_laws.proofs.Common.{At, Deliver, ◌≤◌, subst, Result, Refusal, Ask, Message, Happened, cores, meaning_row, Place, generating, AreEvents, sends}
use Rattle.rubis_laws.proofs.Common.{at_site, Sound, Room, InRun, ◌+◌, inl, inr, ⊎_elim, arith, ◌⊎◌, reverse, cases_lt, dep, SameSet, HasAll, HasReleasedAll}
use Rattle.rubis_laws.proofs.Common.{Sent, tables_at, Released, Has, Ready, counted, reds, has_back, has_reverse, contained, contains, found, found_red}
use Rattle.rubis_laws.proofs.Common.{seq_within, red_within, counted_reverse, reds_reverse, true≢false, zero, suc, Bool, true, false, length-append, ◌≢◌, cond}
use Rattle.rubis_laws.proofs.Common.{not, ◌==◌, nat_le, nat_lt, slice_get, Ok, Err, list_any, cond_both, or_cases, or_parts, leb-true, length-reverse, same_id}
use Rattle.rubis_laws.proofs.Common.{Decides-same_id, Full, NotOurs, NotForMe, BadEvent, Arrival, Taken, Token, message_count, AreDeliveries, Settles, Rest}
use Rattle.rubis_laws.proofs.Common.{Release, settled, not_ours, is_repeat, is_full, after_came, arrival_of, arrived, took, with_site, has_left, has_right}
use Rattle.rubis_laws.proofs.Common.{has_append, has_last, settle_settles, clash}
use Rattle.rubis_model.specs.Laws.{LogsOnlyGrow, AllHadAreReleased, HavingAllConverges, DeliversAll, DeliveredAreHad, DeliveringAllConverges}
use Rattle.rubis_model.specs.Laws.{NoMessageIsRefused, AllCanBeDelivered, MomentsAreReleased}
use Rattle.rubis_laws.proofs.Runs.SoundSteps.{at_one, event_keeps, event_sites, room_event, start_sites, start_sound, run_sites, run_keeps, room_run}
use Rattle.rubis_laws.proofs.Order.Deciding.{set_at, log_checked}
use Rattle.rubis_laws.proofs.Processes.ProcessLaws.{Grows, arrived_grows, generating_grows, grows_not, grows_twice, passing_grows, took_grows}
use Rattle.rubis_laws.proofs.Runs.EveryRun.{in_run, is_log, log_at, short, sound_run, room_of}
use Rattle.rubis_laws.proofs.Rows.Cores.{same_cores}
use Rattle.rubis_laws.proofs.Rows.EqualSets.{equal_sets_equal_tables}
use Rattle.rubis_laws.proofs.Runs.Written.{AllRest, rests_at, rest_run, rest_start, Singly, rest_event, unlisted}
use Rattle.rubis_laws.proofs.Order.RunsInOrder.{unique, is_ours}
use Rattle.std.proofs.lemmas.Bool.{lt-ltb}

-- each site's log has grown, or is as it was
abbrev AllGrow : World → World → Type 0
AllGrow w v = (j : ℕ) → Grows (site w j) (site v j)

none_grows : (w : World) → AllGrow w w
none_grows w j = grows_not (site w j) (site w j) refl

one_grows : (w : World) (i : ℕ) (s : Replica) → i < length w.sites → Grows (site w i) s → (j : ℕ) → Grows (site w j) (get_or (set w.sites i s) j (opening_at 1))
one_grows w i s l g = set_at (λ j t. Grows (site w j) t) w.sites (opening_at 1) l g (λ j _. grows_not (site w j) (site w j) refl)

requested_all : (keep : ℕ) (w : World) (i : ℕ) (r : Request) → i < length w.sites → AllGrow w (requested keep w i r).0
requested_all keep w i (Request.Ask ask) l =
    one_grows w i _ l (generating_grows (place keep w i) (site w i) (decision (rows_at (site w i).log) (standing_of keep (site w i)) ask))
requested_all keep w i (Request.Pass to) l = one_grows w i _ l (passing_grows (place keep w i) (site w i) to (site w i).held)
requested_all keep w i (Request.List listing) l = none_grows w

coming_all : (keep : ℕ) (w : World) (i : ℕ) (o : Option Packet) → i < length w.sites → AllGrow w (coming keep w i o).0
coming_all keep w i None l = none_grows w
coming_all keep w i (Some (Packet.Msg m)) l = one_grows w i _ l (arrived_grows (place keep w i) (site w i) m)
coming_all keep w i (Some (Packet.Token t)) l = one_grows w i _ l (took_grows (place keep w i) (site w i) t)

event_all : (keep : ℕ) (w : World) (e : Event) → AllGrow w (happens keep w e).0
event_all keep w (At i r) = at_one (AllGrow w) w i (requested keep w i r) (none_grows w) (requested_all keep w i r)
event_all keep w (Deliver i k) = at_one (AllGrow w) w i (coming keep w i (packet_at w.sent k)) (none_grows w) (coming_all keep w i (packet_at w.sent k))

run_all : (keep : ℕ) (es : List Event) (w : World) → AllGrow w (run keep es w)
run_all keep [] w j = none_grows w j
run_all keep (e ∷ es) w j =
    let v = (happens keep w e).0 in
    grows_twice (site w j) (site v j) (site (run keep es v) j) (event_all keep w e j) (run_all keep es v j)

run_on : (keep : ℕ) (es more : List Event) (w : World) → run keep (es ++ more) w ≡ run keep more (run keep es w)
run_on keep [] more w = refl
run_on keep (e ∷ es) more w = run_on keep es more (happens keep w e).0

pub logs_only_grow : LogsOnlyGrow
logs_only_grow n keep events more i =
    let grown = run_all keep more (run keep events (start n)) i in
    (grown.0, grown.1 ∙ ap (λ (w : World). (site w i).log) (sym (run_on keep events more (start n))))

-- ---- runs and their answers may be computed with the meaning of each log in place of its fold

-- what is answered to events, one after the other
abbrev pub answers : ℕ → List Event → World → List (Result Happened Refusal)
answers keep [] w = []
answers keep (e ∷ es) w = (happens keep w e).1 ∷ answers keep es (happens keep w e).0

-- ---- the same by meaning

abbrev asked_by : Place → Replica → Ask → Replica × Result Message Refusal
asked_by p s ask = generating p s (decision (meaning_row (cores s.log)) (standing_of p.keep s) ask)

abbrev requested_by : ℕ → World → ℕ → Request → World × Result Happened Refusal
requested_by keep w i (Request.Ask ask) = sends Packet.Msg w i (asked_by (place keep w i) (site w i) ask)
requested_by keep w i (Request.Pass to) = requested keep w i (Request.Pass to)
requested_by keep w i (Request.List l) = requested keep w i (Request.List l)

abbrev pub happens_by : ℕ → World → Event → World × Result Happened Refusal
happens_by keep w (At i r) = at_site w i (requested_by keep w i r)
happens_by keep w (Deliver i k) = happens keep w (Deliver i k)

abbrev pub run_by : ℕ → List Event → World → World
run_by keep [] w = w
run_by keep (e ∷ es) w = run_by keep es (happens_by keep w e).0

abbrev pub answers_by : ℕ → List Event → World → List (Result Happened Refusal)
answers_by keep [] w = []
answers_by keep (e ∷ es) w = (happens_by keep w e).1 ∷ answers_by keep es (happens_by keep w e).0

same_request : (keep : ℕ) {w : World} (i : ℕ) (r : Request) → InRun w → requested keep w i r ≡ requested_by keep w i r
same_request keep {w} i (Request.Ask ask) h =
    λ k. sends Packet.Msg w i
    (generating (place keep w i) (site w i) (decision (λ q. (h.invariants.meaning (log_at w i) (is_log w i)).rows q k) (standing_of keep (site w i)) ask))
same_request keep i (Request.Pass to) h = refl
same_request keep i (Request.List l) h = refl

same_event : (keep : ℕ) {w : World} (e : Event) → InRun w → happens keep w e ≡ happens_by keep w e
same_event keep {w} (At i r) h = ap (at_site w i) (same_request keep i r h)
same_event keep (Deliver i k) h = refl

module _ (keep : ℕ) (few : keep ≤ 1000000) where
  pub same_run : (es : List Event) (w : World) → AreEvents (length w.sites) es → Sound w → Room keep w → run keep es w ≡ run_by keep es w
  same_run [] w a s r = refl
  same_run (e ∷ es) w a s r = same_run es _ (subst (λ n. AreEvents n es) (sym (event_sites keep w e)) a.1) (event_keeps keep few w e a.0 s)
      (room_event keep w e r) ∙ ap (λ p. run_by keep es p.0) (same_event keep e (in_run keep few r s))

  pub same_answers : (es : List Event) (w : World) → AreEvents (length w.sites) es → Sound w → Room keep w → answers keep es w ≡ answers_by keep es w
  same_answers [] w a s r = refl
  same_answers (e ∷ es) w a s r =
      let h = in_run keep few r s in
      (λ k. (same_event keep e h k).1 ∷
      (same_answers es (happens keep w e).0 (subst (λ n. AreEvents n es) (sym (event_sites keep w e)) a.1) (event_keeps keep few w e a.0 s)
      (room_event keep w e r)
      ∙ ap (λ p. answers_by keep es p.0) (same_event keep e h)) k)

-- ---- a site that has had every message has released it, and so such sites have the same tables

-- ---- of two lists, newest first, where one has all that the other has
pub counted_most : (a past : List Message) → Released a → Released past → ((x : Message) → Has x a → Has x past) → (j : ℕ) → counted j a ≤ counted j past
counted_most a past ra rp within j = ⊎_elim some (λ l. omega arith) (cases_lt 0 (counted j a))
  where
    some : 0 < counted j a → counted j a ≤ counted j past
    some l =
        let f = found a j (counted j a) ra l (omega arith) in
        let k = (seq_within past f.0 rp (within f.0 f.1)).1 in
        let c = ap (λ q. counted q past) f.2 in
        let d = f.3 in omega arith

pub reds_most : (a past : List Message) → Released a → Released past → ((x : Message) → Has x a → Has x past) → reds a ≤ reds past
reds_most a past ra rp within = ⊎_elim some (λ l. omega arith) (cases_lt 0 (reds a))
  where
    some : 0 < reds a → reds a ≤ reds past
    some l =
        let f = found_red a (reds a) ra l (omega arith) in
        let k = red_within past f.0 rp (within f.0 f.1) in
        let d = f.2 in omega arith

-- of messages of which an id and a red number is one's
module _ (all : Message → Type 0) (ids : (u v : Message) → all u → all v → u.stamp.id.site ≡ v.stamp.id.site → u.stamp.id.seq ≡ v.stamp.id.seq → u ≡ v)
    (red_once : (u v : Message) → all u → all v → 0 < u.stamp.red → u.stamp.red ≡ v.stamp.red → u ≡ v) where
  -- what was ready after some messages is ready after a log that has those, and not it
  pub ready_on : {past log : List Message} {m : Message} → Released (m ∷ past) → Released log → ((x : Message) → Has x log → all x) → all m
      → ((x : Message) → Has x past → Has x log) → (Has m log → ⊥) → Ready log m
  ready_on {past} {log} {m} r rl on a within new = record {
    next = ⊎_elim
        (λ l. let c = counted_most past log r.1 rl within m.stamp.id.site in let e = r.0.next in omega arith)
        (λ l. absurd (new (id_there l)))
        (cases_lt (counted m.stamp.id.site log) m.stamp.id.seq);
    released = λ j n. let c = counted_most past log r.1 rl within j in let d = r.0.released j n in omega arith;
    number = λ p. ⊎_elim
        (λ l. let c = reds_most past log r.1 rl within in let e = r.0.number p in omega arith)
        (λ l. absurd (new (red_there p l)))
        (cases_lt (reds log) m.stamp.red);
  }
    where
      id_there : m.stamp.id.seq ≤ counted m.stamp.id.site log → Has m log
      id_there l =
          let e = r.0.next in
          let f = found log m.stamp.id.site m.stamp.id.seq rl (omega arith) l in
          subst (λ x. Has x log) (ids f.0 m (on f.0 f.1) a f.2 f.3) f.1

      red_there : 0 < m.stamp.red → m.stamp.red ≤ reds log → Has m log
      red_there p l =
          let f = found_red log m.stamp.red rl p l in
          let e = f.2 in
          subst (λ x. Has x log) (red_once f.0 m (on f.0 f.1) a (omega arith) e) f.1

-- what was ready after some messages is ready after a log that has those, and not it
pub still_ready : {w : World} {past log : List Message} {m : Message} → Sound w → Released (m ∷ past) → Released log → ((x : Message) → Has x log → Sent w x)
    → Sent w m → ((x : Message) → Has x past → Has x log) → (Has m log → ⊥) → Ready log m
still_ready {w} s = ready_on (Sent w) (λ u v a b e f. unique s a b e f) (λ u v a b p e. s.reds.single u v a b p e)

pub ready_forth : (log : List Message) {m : Message} → Ready (reverse log) m → Ready log m
ready_forth log {m} r = record {
  next = r.next ∙ ap (λ k. k + 1) (counted_reverse m.stamp.id.site log);
  released = λ j n. subst (λ k. dep m j ≤ k) (counted_reverse j log) (r.released j n);
  number = λ l. r.number l ∙ ap (λ k. k + 1) (reds_reverse log);
}

pub empty : (xs : List Message) → ((x : Message) → Has x xs → ⊥) → xs ≡ []
empty [] n = refl
empty (x ∷ xs) n = absurd (n x (inl refl))

-- ---- a site that has some of the messages that were sent, and with each all that were released before it
module _ (w : World) (s : Sound w) (r : AllRest w) (i : ℕ) (These : Message → Type 0) (sent : (m : Message) → These m → Sent w m)
    (has : (m : Message) → These m → Has m (site w i).log ⊎ Has m (site w i).waiting) where
  -- one that was ready after messages that are in the log is there too
  one_there : (past : List Message) (m : Message) → Released (m ∷ past) → These m → ((x : Message) → Has x past → Has x (reverse (site w i).log))
      → Has m (reverse (site w i).log)
  one_there past m p a within = ⊎_elim (λ h. has_back m (site w i).log h) (λ h. absurd ((rests_at w i r).unready m h (ready_forth (site w i).log (still_ready s
      p (s.good i).released (s.good i).log_sent (sent m a) within (λ l. (rests_at w i r).apart.not_logged m h (has_reverse m (site w i).log l)))))) (has m a)

  -- so all are there that were released anywhere
  pub past_there : (past : List Message) → Released past → ((x : Message) → Has x past → These x) → (x : Message) → Has x past
      → Has x (reverse (site w i).log)
  past_there [] p all x h = absurd h
  past_there (m ∷ past) p all x (inl e) =
      subst (λ q. Has q (reverse (site w i).log)) (sym e) (one_there past m p (all m (inl refl)) (past_there past p.1 (λ y k. all y (inr k))))
  past_there (m ∷ past) p all x (inr h) = past_there past p.1 (λ y k. all y (inr k)) x h

-- ---- a site that has all messages
module _ (w : World) (s : Sound w) (r : AllRest w) (i : ℕ) (has : HasAll w i) where
  logged_all : (m : Message) → Sent w m → Has m (site w i).log
  logged_all m a = has_reverse m _
      (past_there w s r i _ (λ x h. h) has _ (s.good m.stamp.id.site).released (s.good m.stamp.id.site).log_sent m (s.home.home m a))

  pub released_all : HasReleasedAll w i
  released_all = record {
    none_waits = empty (site w i).waiting (λ x h. (rests_at w i r).apart.not_logged x h (logged_all x ((s.good i).waiting_sent x h)));
    released = λ m. (logged_all m, λ h. (s.good i).log_sent m (has_back m (site w i).log h));
  }

same_set : (w : World) (i j : ℕ) → HasReleasedAll w i → HasReleasedAll w j → SameSet (site w i).log (site w j).log
same_set w i j a b m = (
  λ c. contains (site w j).log m ((b.released m).0 ((a.released m).1 (contained (site w i).log m c))),
  λ c. contains (site w i).log m ((a.released m).0 ((b.released m).1 (contained (site w j).log m c))),
)

pub same_tables : {keep : ℕ} {w : World} (i j : ℕ) → keep ≤ 1000000 → Sound w → Room keep w → HasReleasedAll w i → HasReleasedAll w j
    → tables_at w i ≡ tables_at w j
same_tables {keep} {w} i j few s room a b = equal_sets_equal_tables (cores (site w i).log) (cores (site w j).log) (log_checked i s) (log_checked j s)
    (short {keep = keep} w i few room) (short {keep = keep} w j few room) (same_cores (site w i).log (site w j).log (same_set w i j a b))

-- ---- every run
pub rests_run : {n keep : ℕ} (events : List Event) → 1 ≤ n → keep ≤ 1000000 → AreEvents n events → AllRest (run keep events (start n))
rests_run {n} {keep} events some few a =
    rest_run {keep = keep} few events {w = start n} (subst (λ k. AreEvents k events) (sym (start_sites n)) a) (start_sound n some) (rest_start n)

pub all_had_are_released : AllHadAreReleased
all_had_are_released n keep events some few a i has = released_all (run keep events (start n)) (sound_run events some few a) (rests_run events some few a) i has

pub having_all_converges : HavingAllConverges
having_all_converges n keep events some few a i j hi hj = same_tables i j few (sound_run events some few a) (room_of n keep events)
    (all_had_are_released n keep events some few a i hi) (all_had_are_released n keep events some few a j hj)

-- ---- a site to which every message is delivered comes to have them all, if it keeps as many as were sent

-- ---- a list in which each stands once is no longer than one that has all of it
pub split_at : {A : Type 0} (x : A) (ys : List A) → Has x ys → (front : List A) × (back : List A) × (ys ≡ front ++ x ∷ back)
split_at x [] h = absurd h
split_at x (y ∷ ys) (inl e) = ([], ys, ap (λ q. q ∷ ys) (sym e))
split_at x (y ∷ ys) (inr h) = let k = split_at x ys h in (y ∷ k.0, k.1, ap (λ q. y ∷ q) k.2)

without : {A : Type 0} (x y : A) (front back : List A) → Has y (front ++ x ∷ back) → (y ≡ x → ⊥) → Has y (front ++ back)
without x y front back h n = ⊎_elim (λ l. has_left y front back l) (λ r. ⊎_elim (λ e. absurd (n e)) (λ k. has_right y front back k) r) (has_append y front _ h)

one_longer : {A : Type 0} (x : A) (front back : List A) → length (front ++ x ∷ back) ≡ length (front ++ back) + 1
one_longer x [] back = omega arith
one_longer x (y ∷ front) back = let e = one_longer x front back in omega arith

pub no_longer : {A : Type 0} (xs ys : List A) → Singly xs → ((x : A) → Has x xs → Has x ys) → length xs ≤ length ys
no_longer [] ys s within = omega arith
no_longer {A} (x ∷ xs) ys s within =
    let k = split_at x ys (within x (inl refl)) in
    let rest : (y : A) → Has y xs →
    Has y (k.0 ++ k.1) = λ y h. without x y k.0 k.1 (subst (Has y) k.2 (within y (inr h))) (λ e. s.0 (subst (λ q. Has q xs) e h)) in
    let l = no_longer xs (k.0 ++ k.1) s.1 rest in
    let c : length ys ≡ length (k.0 ++ k.1) + 1 = ap length k.2 ∙ one_longer x k.0 k.1 in
    omega arith

pub singly_both : {A : Type 0} (xs ys : List A) → Singly xs → Singly ys → ((x : A) → Has x xs → Has x ys → ⊥) → Singly (xs ++ ys)
singly_both [] ys s t n = t
singly_both (x ∷ xs) ys s t n = ((λ h. ⊎_elim (λ k. s.0 k) (λ k. n x (inl refl) k) (has_append x xs ys h)), singly_both xs ys s.1 t (λ y h k. n y (inr h) k))

pub singly_released : (past : List Message) → Released past → Singly past
singly_released [] r = tt
singly_released (m ∷ past) r = ((λ h. clash m past m r h refl refl), singly_released past r.1)

-- ---- the messages among packets
pub messages_of : List Packet → List Message
messages_of [] = []
messages_of (Packet.Msg m ∷ ps) = m ∷ messages_of ps
messages_of (Packet.Token t ∷ ps) = messages_of ps

pub messages_length : (ps : List Packet) → length (messages_of ps) ≡ message_count ps
unfolding messages_of
messages_length [] = refl
messages_length (Packet.Msg m ∷ ps) = let e = messages_length ps in omega arith
messages_length (Packet.Token t ∷ ps) = messages_length ps

pub message_in : (m : Message) (ps : List Packet) → Has (Packet.Msg m) ps → Has m (messages_of ps)
unfolding messages_of
message_in m [] h = absurd h
message_in m (Packet.Msg u ∷ ps) (inl e) = inl (cc)
message_in m (Packet.Msg u ∷ ps) (inr h) = inr (message_in m ps h)
message_in m (Packet.Token t ∷ ps) (inl e) = absurd (cc)
message_in m (Packet.Token t ∷ ps) (inr h) = message_in m ps h

-- the number of a packet that was sent
get_of : {A : Type 0} (x : A) (xs : List A) → Has x xs → (k : ℕ) × (slice_get xs k ≡ Some x)
get_of x [] h = absurd h
get_of x (y ∷ xs) (inl e) = (0, ap Some (sym e))
get_of x (y ∷ xs) (inr h) = let k = get_of x xs h in (suc k.0, k.1)

pub number_of : (x : Packet) (sent : List Packet) → Has x sent → (k : ℕ) × (packet_at sent k ≡ Some x)
number_of x sent h = let k = get_of x sent h in (suc k.0, k.1)

-- ---- a site that has the message, logged or waiting
abbrev pub Had : Replica → Message → Type 0
Had s m = Has m s.log ⊎ Has m s.waiting

settles_had : (m : Message) {log waiting log' waiting' : List Message} → Settles log waiting log' waiting' → Has m log ⊎ Has m waiting
    → Has m log' ⊎ Has m waiting'
settles_had m (Rest log waiting n) h = h
settles_had m (Release log front back log' waiting' u n r s) h = settles_had m s (⊎_elim (λ l. inl (has_left m log _ l)) waits h)
  where
    waits : Has m (front ++ u ∷ back) → Has m (log ++ u ∷ []) ⊎ Has m (front ++ back)
    waits k = ⊎_elim (λ l. inr (has_left m front back l))
        (λ q. ⊎_elim (λ e. inl (subst (λ x. Has x (log ++ u ∷ [])) (sym e) (has_last u log))) (λ b. inr (has_right m front back b)) q) (has_append m front _ k)

pub settled_had : (s : Replica) (m : Message) → Had s m → Had (settled s) m
settled_had s m h = settles_had m (settle_settles (length s.waiting) s.log s.waiting (omega arith)) h

pub came_had : (s : Replica) {m u : Message} → Had s u ⊎ (u ≡ m) → Had (after_came s m) u
came_had s {m} {u} h = settled_had (record s { waiting = s.waiting ++ m ∷ [] }) u
    (⊎_elim (λ k. ⊎_elim (λ l. inl l) (λ q. inr (has_left u s.waiting (m ∷ []) q)) k)
    (λ e. inr (subst (λ x. Has x (s.waiting ++ m ∷ [])) (sym e) (has_last m s.waiting))) h)

-- ---- what is had stays so
pub arrived_keeps : (p : Place) (s : Replica) (m u : Message) → Had s u → Had (arrived p s m).0 u
arrived_keeps p s m u h =
    cond_both (not_ours p s m) (s, Err NotOurs) _ (λ (q : Replica × Result Arrival Refusal). Had q.0 u) (λ _. h)
    (λ _. cond_both (is_repeat s m) (s, Ok Arrival.Repeat) _ (λ (q : Replica × Result Arrival Refusal). Had q.0 u) (λ _. h)
    (λ _. cond_both (is_full p.keep s) (s, Err Full) _ (λ (q : Replica × Result Arrival Refusal). Had q.0 u) (λ _. h) (λ _. came_had s (inl h))))

pub took_keeps : (p : Place) (s : Replica) (t : Token) (u : Message) → Had s u → Had (took p s t).0 u
took_keeps p s t u h =
    cond_both (not (t.to == p.site)) (s, Err NotForMe) _ (λ (q : Replica × Result Taken Refusal). Had q.0 u) (λ _. h)
    (λ _. cond_both (nat_le t.turn s.last) (s, Ok Taken.Repeat) _ (λ (q : Replica × Result Taken Refusal). Had q.0 u) (λ _. h) (λ _. h))

with_keeps : (w : World) (i j : ℕ) (x : Replica) (u : Message) → i < length w.sites → (Had (site w i) u → Had x u) → Had (site w j) u
    → Had (site (with_site w i x) j) u
with_keeps w i j x u l k = set_at (λ q y. Had (site w q) u → Had y u) w.sites {i = i} {x = x} (opening_at 1) l k (λ q _ h. h) j

coming_keeps_had : (keep : ℕ) (w : World) (i j : ℕ) (u : Message) → i < length w.sites → (o : Option Packet) → Had (site w j) u
    → Had (site (coming keep w i o).0 j) u
coming_keeps_had keep w i j u l None = λ h. h
coming_keeps_had keep w i j u l (Some (Packet.Msg m)) = with_keeps w i j _ u l (arrived_keeps (place keep w i) _ m u)
coming_keeps_had keep w i j u l (Some (Packet.Token t)) = with_keeps w i j _ u l (took_keeps (place keep w i) _ t u)

deliver_keeps : (keep : ℕ) (w : World) (i k j : ℕ) (u : Message) → Had (site w j) u → Had (site (happens keep w (Deliver i k)).0 j) u
deliver_keeps keep w i k j u = at_one (λ v. Had (site w j) u → Had (site v j) u) w i _ (λ h. h) (λ l. coming_keeps_had keep w i j u l _)

pub coming_sent : (keep : ℕ) (w : World) (i : ℕ) (o : Option Packet) → (coming keep w i o).0.sent ≡ w.sent
coming_sent keep w i None = refl
coming_sent keep w i (Some (Packet.Msg m)) = refl
coming_sent keep w i (Some (Packet.Token t)) = refl

pub deliver_sent : (keep : ℕ) (w : World) (i k : ℕ) → (happens keep w (Deliver i k)).0.sent ≡ w.sent
deliver_sent keep w i k = at_one (λ v. v.sent ≡ w.sent) w i (coming keep w i (packet_at w.sent k)) refl (λ _. coming_sent keep w i (packet_at w.sent k))

-- a site that has only messages of a list, and not m of it, has fewer
pub fewer_than : {v : World} (i : ℕ) (m : Message) (xs : List Message) → Sound v → AllRest v → ((u : Message) → Had (site v i) u → Has u xs) → Has m xs
    → is_repeat (site v i) m ≡ false → length (site v i).log + length (site v i).waiting < length xs
fewer_than {v} i m xs s r within h e =
    let q = or_parts (list_any (λ u. same_id m.stamp.id u.stamp.id) (site v i).log) (list_any (λ u. same_id m.stamp.id u.stamp.id) (site v i).waiting) e in
    let new : Has m (reverse (site v i).log ++ (site v i).waiting) →
    ⊥ = λ h. ⊎_elim (λ k. unlisted m (site v i).log q.0 (has_reverse m (site v i).log k)) (λ k. unlisted m (site v i).waiting q.1 k)
    (has_append m (reverse (site v i).log) (site v i).waiting h) in
    let each : Singly (reverse (site v i).log ++ (site v i).waiting) = singly_both (reverse (site v i).log) (site v i).waiting
    (singly_released (reverse (site v i).log) (s.good i).released) (rests_at v i r).apart.singly
    (λ x h k. (rests_at v i r).apart.not_logged x k (has_reverse x (site v i).log h)) in
    let l : length (m ∷ (reverse (site v i).log ++ (site v i).waiting)) ≤ length xs = no_longer (m ∷ (reverse (site v i).log ++ (site v i).waiting)) xs
    (new, each) inner in
    omega (arith, l, length-append (reverse (site v i).log) (site v i).waiting, length-reverse (site v i).log)
  where
    inner : (x : Message) → Has x (m ∷ (reverse (site v i).log ++ (site v i).waiting)) → Has x xs
    inner x (inl e) = subst (λ y. Has y xs) (sym e) h
    inner x (inr k) = ⊎_elim (λ a. within x (inl (has_reverse x _ a))) (λ a. within x (inr a)) (has_append x _ _ k)

-- ---- what is delivered is had
pub by_id : (m : Message) (xs : List Message) → list_any (λ u. same_id m.stamp.id u.stamp.id) xs ≡ true → (u : Message) × (Has u xs) × (m.stamp.id ≡ u.stamp.id)
by_id m [] e = absurd (cc)
by_id m (x ∷ xs) e = ⊎_elim (λ k. (x, inl refl, (Decides-same_id m.stamp.id x.stamp.id).0 k)) (λ k. let f = by_id m xs k in (f.0, inr f.1, f.2))
    (or_cases (same_id m.stamp.id x.stamp.id) (list_any (λ u. same_id m.stamp.id u.stamp.id) xs) e)

module _ (w : World) (s : Sound w) (r : AllRest w) (i : ℕ) (m : Message) (a : Sent w m) where
  -- none of its own is new to it
  same_message : {u : Message} → Sent w u → m.stamp.id ≡ u.stamp.id → u ≡ m
  same_message {u} b e = sym (unique s a b (ap (λ x. x.site) e) (ap (λ x. x.seq) e))

  pub repeat_had : is_repeat (site w i) m ≡ true → Had (site w i) m
  repeat_had e = ⊎_elim (λ k. let f = by_id m _ k in
      inl (subst (λ x. Has x (site w i).log) (same_message ((s.good i).log_sent f.0 (has_back f.0 (site w i).log f.1)) f.2) f.1))
      (λ k. let f = by_id m (site w i).waiting k in inr (subst (λ x. Has x (site w i).waiting) (same_message ((s.good i).waiting_sent f.0 f.1) f.2) f.1))
      (or_cases (list_any (λ u. same_id m.stamp.id u.stamp.id) (site w i).log) (list_any (λ u. same_id m.stamp.id u.stamp.id) (site w i).waiting) e)

  -- a site that misses one has fewer than any list that has all messages that were sent
  pub fewer_among : (all : List Message) → ((x : Message) → Sent w x → Has x all) → is_repeat (site w i) m ≡ false
      → length (site w i).log + length (site w i).waiting < length all
  fewer_among all has e = fewer_than i m all s r (λ u h. has u (⊎_elim (λ k. (s.good i).log_sent u (has_back u _ k)) ((s.good i).waiting_sent u) h)) (has m a) e

  pub fewer : is_repeat (site w i) m ≡ false → length (site w i).log + length (site w i).waiting < message_count w.sent
  fewer e = subst (λ n. length (site w i).log + length (site w i).waiting < n) (messages_length _) (fewer_among _ (λ x h. message_in x _ h) e)

  -- so it is taken in by a site that keeps as many as such a list has
  pub had_among : (keep : ℕ) (all : List Message) → ((x : Message) → Sent w x → Has x all) → length all ≤ keep → Had (arrived (place keep w i) (site w i) m).0 m
  had_among keep all has room =
      cond_both (not_ours (place keep w i) (site w i) m) (site w i, Err NotOurs) _ (λ (p : Replica × Result Arrival Refusal). Had p.0 m)
      (λ e. absurd (is_ours keep i m s a e))
      (λ _. cond_both (is_repeat (site w i) m) (site w i, Ok Arrival.Repeat) _ (λ (p : Replica × Result Arrival Refusal). Had p.0 m) (λ e. repeat_had e)
      (λ new. cond_both (is_full keep (site w i)) (site w i, Err Full) _ (λ (p : Replica × Result Arrival Refusal). Had p.0 m)
      (λ e. absurd (let k = leb-true keep (length (site w i).log + length (site w i).waiting) e in let f = fewer_among all has new in omega arith))
      (λ _. came_had (site w i) (inr refl))))

  pub arrived_had : {keep : ℕ} → message_count w.sent ≤ keep → Had (arrived (place keep w i) (site w i) m).0 m
  arrived_had {keep} room = had_among keep (messages_of w.sent) (λ x h. message_in x w.sent h) (subst (λ n. n ≤ keep) (sym (messages_length w.sent)) room)

  delivered_now : (keep k : ℕ) → message_count w.sent ≤ keep → i < length w.sites → packet_at w.sent k ≡ Some (Packet.Msg m)
      → Had (site (happens keep w (Deliver i k)).0 i) m
  delivered_now keep k room l e = cond_both (nat_lt i (length w.sites)) (coming keep w i (packet_at w.sent k)) (w, Err BadEvent)
      (λ (p : World × Result Happened Refusal). Had (site p.0 i) m) (λ _. subst (λ o. Had (site (coming keep w i o).0 i) m) (sym e)
      (set_at (λ q y. q ≡ i → Had y m) w.sites (opening_at 1) l (λ _. arrived_had room) (λ q n p. absurd (n p)) i refl))
      (λ b. absurd (true≢false (sym (lt-ltb i (length w.sites) l) ∙ b)))

-- ---- after any deliveries
pub delivered : (keep : ℕ) → keep ≤ 1000000 → (es : List Event) (w : World) (i k : ℕ) (m : Message) → AreDeliveries es → Sound w → AllRest w
    → message_count w.sent ≤ keep → i < length w.sites → packet_at w.sent k ≡ Some (Packet.Msg m) → Sent w m → Has (Deliver i k) es ⊎ Had (site w i) m
    → Had (site (run keep es w) i) m
delivered keep few [] w i k m d s r room l e a (inl h) = absurd h
delivered keep few [] w i k m d s r room l e a (inr h) = h
delivered keep few (At j q ∷ es) w i k m d s r room l e a h = absurd d
delivered keep few (Deliver j q ∷ es) w i k m d s r room l e a h =
    let same = deliver_sent keep w j q in
    delivered keep few es (happens keep w (Deliver j q)).0 i k m d (event_keeps keep few w (Deliver j q) tt s) (rest_event keep (Deliver j q) s r)
    (subst (λ ps. message_count ps ≤ keep) (sym same) room) (subst (λ n. i < n) (sym (event_sites keep w (Deliver j q))) l)
    (subst (λ ps. packet_at ps k ≡ Some (Packet.Msg m)) (sym same) e) (subst (λ ps. Has (Packet.Msg m) ps) (sym same) a)
    (⊎_elim (λ c. ⊎_elim (λ p. inr (subst (λ x. Had (site (happens keep w x).0 i) m) p (delivered_now w s r i m a keep k room l e))) (λ p. inl p) c)
    (λ p. inr (deliver_keeps keep w j q i m p)) h)

pub deliveries_sent : (keep : ℕ) (es : List Event) (w : World) → AreDeliveries es → (run keep es w).sent ≡ w.sent
deliveries_sent keep [] w d = refl
deliveries_sent keep (At j q ∷ es) w d = absurd d
deliveries_sent keep (Deliver j q ∷ es) w d = deliveries_sent keep es (happens keep w (Deliver j q)).0 d ∙ deliver_sent keep w j q

pub are_events : (n : ℕ) (es : List Event) → AreDeliveries es → AreEvents n es
are_events n [] d = tt
are_events n (At j q ∷ es) d = absurd d
are_events n (Deliver j q ∷ es) d = (tt, are_events n es d)

has_all : {keep : ℕ} → keep ≤ 1000000 → (es : List Event) {w : World} (i : ℕ) → AreDeliveries es → Sound w → AllRest w → message_count w.sent ≤ keep
    → i < length w.sites → DeliversAll w i es → HasAll (run keep es w) i
has_all {keep} few es {w} i d s r room l all m a =
    let b : Sent w m = subst (λ ps. Has (Packet.Msg m) ps) (deliveries_sent keep es w d) a in
    let k = number_of (Packet.Msg m) w.sent b in
    delivered keep few es w i k.0 m d s r room l k.1 b (inl (all k.0 m k.1))

pub delivered_are_had : DeliveredAreHad
delivered_are_had n keep events deliveries some few a d room i l all = has_all few deliveries i d (sound_run events some few a) (rests_run events some few a)
    room (subst (λ k. i < k) (sym (run_sites keep events (start n) ∙ start_sites n)) l) all

pub delivering_all_converges : DeliveringAllConverges
delivering_all_converges n keep events deliveries some few a d room i j li lj di dj =
    let w = run keep events (start n) in
    let v = run keep deliveries w in
    let s : Sound v = run_keeps few deliveries (are_events (length w.sites) deliveries d) (sound_run events some few a) in
    let r : AllRest v = rest_run few deliveries (are_events (length w.sites) deliveries d) (sound_run events some few a) (rests_run events some few a) in
    let hi = released_all v s r i (delivered_are_had n keep events deliveries some few a d room i li di) in
    let hj = released_all v s r j (delivered_are_had n keep events deliveries some few a d room j lj dj) in
    (hi, hj, same_tables i j few s (room_run deliveries w (room_of n keep events)) hi hj)

-- ---- none is refused
not_refused : (a b c : Bool) (s t : Replica) (n : ℕ) (r : Refusal) → (a ≡ true → ⊥) → (b ≡ false → c ≡ true → ⊥)
    → (cond {A = Replica × Result Arrival Refusal} a (s, Err NotOurs) (cond b (s, Ok Arrival.Repeat) (cond c (s, Err Full) (t, Ok (arrival_of n))))).1 ≢ Err r
not_refused true b c s t n r h k e = h refl
not_refused false true c s t n r h k e = absurd cc
not_refused false false true s t n r h k e = k refl refl
not_refused false false false s t n r h k e = absurd cc

none_refused : {keep : ℕ} {w : World} (i : ℕ) (m : Message) (r : Refusal) → Sound w → AllRest w → message_count w.sent ≤ keep → Sent w m
    → (arrived (place keep w i) (site w i) m).1 ≢ Err r
none_refused {keep} {w} i m x s r room a = not_refused _ _ _ _ _ _ x (is_ours keep i m s a)
    (λ new e. let k = leb-true keep (length (site w i).log + length (site w i).waiting) e in let f = fewer w s r i m a new in absurd (omega arith))

pub no_message_is_refused : NoMessageIsRefused
no_message_is_refused n keep events deliveries some few a d room i m x b =
    let w = run keep events (start n) in
    let v = run keep deliveries w in
    let same : v.sent ≡ w.sent = deliveries_sent keep deliveries w d in
    let s : Sound v = run_keeps few deliveries (are_events (length w.sites) deliveries d) (sound_run events some few a) in
    let r : AllRest v = rest_run few deliveries (are_events (length w.sites) deliveries d) (sound_run events some few a) (rests_run events some few a) in
    none_refused i m x s r (subst (λ ps. message_count ps ≤ keep) (sym same) room) (subst (λ ps. Has (Packet.Msg m) ps) (sym same) b)

-- ---- every packet to every site
each_to : ℕ → ℕ → List Event
each_to i zero = []
each_to i (suc k) = Deliver i (suc k) ∷ each_to i k

to_each : ℕ → ℕ → List Event
to_each zero count = []
to_each (suc i) count = each_to i count ++ to_each i count

each_are : (i count : ℕ) (es : List Event) → AreDeliveries es → AreDeliveries (each_to i count ++ es)
unfolding each_to
each_are i zero es d = d
each_are i (suc k) es d = each_are i k es d

to_each_are : (n count : ℕ) → AreDeliveries (to_each n count)
unfolding to_each
to_each_are zero count = tt
to_each_are (suc i) count = each_are i count (to_each i count) (to_each_are i count)

each_has : (i count k : ℕ) → k < count → Has (Deliver i (suc k)) (each_to i count)
unfolding each_to
each_has i zero k l = absurd (omega arith)
each_has i (suc c) k l = ⊎_elim (λ q. inr (each_has i c k q)) (λ q. inl (ap (λ x. Deliver i (suc x)) (same k c l q))) (cases_lt k c)
  where
    same : (k c : ℕ) → k < suc c → c ≤ k → k ≡ c
    same k c l q = omega arith

to_each_has : (n count i k : ℕ) → i < n → k < count → Has (Deliver i (suc k)) (to_each n count)
unfolding to_each
to_each_has zero count i k l h = absurd (omega arith)
to_each_has (suc j) count i k l h = ⊎_elim (λ q. has_right _ _ _ (to_each_has j count i k q h))
    (λ q. has_left _ _ _ (subst (λ x. Has (Deliver i (suc k)) (each_to x count)) (same i j l q) (each_has i count k h))) (cases_lt i j)
  where
    same : (k c : ℕ) → k < suc c → c ≤ k → k ≡ c
    same k c l q = omega arith

get_below : {A : Type 0} (xs : List A) (k : ℕ) {x : A} → slice_get xs k ≡ Some x → k < length xs
get_below [] k e = absurd (cc)
get_below (y ∷ xs) zero e = omega arith
get_below (y ∷ xs) (suc k) e = let l = get_below xs k e in omega arith

pub all_can_be_delivered : AllCanBeDelivered
all_can_be_delivered w = (to_each (length w.sites) (length w.sent), to_each_are (length w.sites) (length w.sent), λ i l k m e. at i l k m e)
  where
    at : (i : ℕ) → i < length w.sites → DeliversAll w i (to_each (length w.sites) (length w.sent))
    at i l zero m e = absurd (cc)
    at i l (suc k) m e = to_each_has (length w.sites) (length w.sent) i k l (get_below w.sent k e)

-- ---- what was sent stays sent; a site that has all that was sent up to some moment has released it

requested_stays : (keep : ℕ) (w : World) (i : ℕ) (q : Request) (x : Packet) → Has x w.sent → Has x (requested keep w i q).0.sent
requested_stays keep w i (Request.Ask a) x h = has_left x w.sent _ h
requested_stays keep w i (Request.Pass to) x h = has_left x w.sent _ h
requested_stays keep w i (Request.List l) x h = h

event_stays : (keep : ℕ) (w : World) (e : Event) (x : Packet) → Has x w.sent → Has x (happens keep w e).0.sent
event_stays keep w (At i q) x h = at_one (λ v. Has x v.sent) w i (requested keep w i q) h (λ _. requested_stays keep w i q x h)
event_stays keep w (Deliver i k) x h = at_one (λ v. Has x v.sent) w i _ h (λ _. subst (Has x) (sym (coming_sent keep w i _)) h)

pub run_keeps_sent : (keep : ℕ) (es : List Event) (w : World) (x : Packet) → Has x w.sent → Has x (run keep es w).sent
run_keeps_sent keep [] w x h = h
run_keeps_sent keep (e ∷ es) w x h = run_keeps_sent keep es (happens keep w e).0 x (event_stays keep w e x h)

pub moments_are_released : MomentsAreReleased
moments_are_released n keep events later some few a b i has m h =
    let w = run keep events (start n) in
    let v = run keep later w in
    let s = sound_run events some few a in
    let c = subst (λ k. AreEvents k later) (sym (run_sites keep events (start n) ∙ start_sites n)) b in
    has_reverse m (site v i).log
    (past_there v (run_keeps few later c s) (rest_run few later c s (rests_run events some few a)) i (Sent w)
    (λ x k. run_keeps_sent keep later w (Packet.Msg x) k) has (reverse (site w m.stamp.id.site).log) (s.good m.stamp.id.site).released
    (s.good m.stamp.id.site).log_sent m (s.home.home m h))
