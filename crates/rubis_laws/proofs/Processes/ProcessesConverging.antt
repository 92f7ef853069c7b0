-- Processes that read new records, and come to the same tables.
use Rattle.rubis_laws.proofs.Common.{ℕ, ◌≡◌, cond, List, [], ◌∷◌, ◌++◌, refl, sym, ap, ◌∙◌, subst, Some, inl, inr, ⊎_elim, append-nil, ◌==◌, cases_eq}
use Rattle.rubis_laws.proofs.Common.{packet_of, Packet, process, read_by, AreReplayed, CarriedWithRestarts, IsLevel, IsShortened, Moment, Replayed, WasEverSent}
use Rattle.rubis_laws.proofs.Common.{has_read, recorded, Reads, Restarts, Replays, Place, Replica, opening_at, ◌≤◌, ◌<◌, false, arith, Option, None}
use Rattle.rubis_laws.proofs.Common.{append_assoc, ◌||◌, bytes_eq, codes, nat_le, Result, Ok, Err, cond_both, true≢false, COUNTED_MAX, Refusal, BadTarget}
use Rattle.rubis_laws.proofs.Common.{LastTurn, Shadow, decision, request_record, Message, request_of, Request, Token, packet_is, request_is, HasAll, Sent}
use Rattle.rubis_laws.proofs.Common.{cores, fold_of, Carried, HasExactlySent, HasReadAll, KeepsAll, Reading, WasSent, answers_of, state_of, state_since_start}
use Rattle.rubis_laws.proofs.Common.{input_by, input_of, Input, input_step, output_of, Asked, Came, Neither, Has, arrived, generating, issued_after, made}
use Rattle.rubis_laws.proofs.Common.{passing, rows_at, standing_of, Sound, World, place, run, site, start, contained, contains, has_left, has_reverse}
use Rattle.rubis_laws.proofs.Common.{push_cases, Ask}
use Rattle.rubis_model.specs.Processes.{NewRecordsAreRead, ProcessesConverge, RestartedConverge}
use Rattle.rubis_laws.proofs.Processes.AreARun.{is_itself, is_other, read_more, answers_stay, number, processes_run, read_here, read_there, state_here}
use Rattle.rubis_laws.proofs.Processes.AreARun.{state_there, step}
use Rattle.rubis_laws.proofs.Processes.Restarts.{read_on_more, recorded_more, split_append, restarts_change_nothing, short_state}
use Rattle.rubis_laws.proofs.Runs.Delivering.{all_had_are_released, rests_run, Had, arrived_keeps, had_among, settled_had, took_keeps}
use Rattle.rubis_laws.proofs.Processes.ProcessLaws.{carried_before, processes_same_tables}
use Rattle.rubis_laws.proofs.Runs.EveryRun.{sound_run}

-- what is shortened stays so with one record more after both
short_more : (p : Place) (x : List (List ℕ)) (full short : List (List (List ℕ))) (s : Replica) → IsShortened p s short full
    → IsShortened p s (short ++ x ∷ []) (full ++ x ∷ [])
short_more p x [] short s e = inr ([], ap (λ l. l ++ x ∷ []) e, refl)
short_more p x (z ∷ full) short s (inl h) = inl (h.0, short_more p x full short s h.1)
short_more p x (z ∷ full) short s (inr h) = inr (h.0 ++ x ∷ [], ap (λ l. l ++ x ∷ []) h.1, short_more p x full h.0 _ h.2)

module _ (sites j : ℕ) (keep : ℕ → ℕ) (moments : List Moment) (fields : List (List ℕ)) (replayed : AreReplayed sites keep moments)
    (carried : CarriedWithRestarts sites keep moments) (level : IsLevel sites keep moments j)
    (sent : (p : Packet) → packet_of sites fields ≡ Some p → WasEverSent sites keep moments fields) where
  abbrev after : List Moment
  after = moments ++ Reads j fields ∷ []

  recorded_now : recorded after ≡ recorded moments ++ record { site = j; fields = fields } ∷ []
  recorded_now = recorded_more moments (Reads j fields ∷ [])

  -- what each process has read and recorded then
  read_now : (i : ℕ) → has_read i after ≡ cond (j == i) (has_read i moments ++ fields ∷ []) (has_read i moments)
  read_now i = read_on_more i [] moments (Reads j fields ∷ [])

  kept_now : (i : ℕ) → read_by i (recorded after) ≡ read_by i (recorded moments) ++ cond (j == i) (fields ∷ []) []
  kept_now i = ap (read_by i) recorded_now ∙ read_more i (recorded moments) (record { site = j; fields = fields } ∷ [])

  still_level : IsLevel sites keep after j
  still_level = subst (λ l. IsShortened (process sites keep j) (opening_at j) l (read_by j (recorded after)))
      (sym (read_now j ∙ ap (λ b. cond b (has_read j moments ++ fields ∷ []) (has_read j moments)) (is_itself refl)))
      (subst (λ l. IsShortened (process sites keep j) (opening_at j) (has_read j moments ++ fields ∷ []) l)
      (sym (kept_now j ∙ ap (λ b. read_by j (recorded moments) ++ cond b (fields ∷ []) []) (is_itself refl))) (short_more _ _ _ _ _ level))

  -- before it, where nobody but process j may read a new record
  before_it : (i : ℕ) {before later : List Moment} → before ≡ moments → later ≡ Reads j fields ∷ [] → Replayed sites keep i before later
  before_it i {before} {later} f g = ⊎_elim own other (cases_eq i j)
    where
      own : i ≡ j → Replayed sites keep i before later
      own e = record {
        first = read_by i (recorded before);
        rest = [];
        parts = sym (append-nil (read_by i (recorded before)));
        again = subst (λ l. IsShortened (process sites keep i) (opening_at i) (has_read i l) (read_by i (recorded l))) (sym f)
            (subst (λ k. IsLevel sites keep moments k) (sym e) level);
        whole = λ x more q. refl;
      }

      reader : Moment → ℕ
      reader (Reads k x) = k
      reader (Restarts k) = k
      reader (Replays k x) = k

      other : (i ≡ j → ⊥) → Replayed sites keep i before later
      other n = let r = replayed i before [] (sym (f) ∙ sym (append-nil before)) in record {
        first = r.first;
        rest = r.rest;
        parts = r.parts;
        again = r.again;
        whole = λ x more q. let e : Reads j fields ≡ Reads i x = (let z : Reads j fields ∷ [] ≡ Reads i x ∷ more = sym g ∙ q in cc) in
            absurd (n (sym (ap reader e)));
      }

  -- after it
  after_it : (i : ℕ) {before later : List Moment} → before ≡ after → later ≡ [] → Replayed sites keep i before later
  after_it i {before} {later} f g = ⊎_elim own other (cases_eq i j)
    where
      none : (x : List (List ℕ)) (more : List Moment) → later ≡ Reads i x ∷ more → {A : Type 0} → A
      none x more q = let z : [] ≡ Reads i x ∷ more = sym g ∙ q in absurd cc

      own : i ≡ j → Replayed sites keep i before later
      own e = record {
        first = read_by i (recorded before);
        rest = [];
        parts = sym (append-nil (read_by i (recorded before)));
        again = subst (λ l. IsShortened (process sites keep i) (opening_at i) (has_read i l) (read_by i (recorded l))) (sym f)
            (subst (λ k. IsLevel sites keep after k) (sym e) still_level);
        whole = λ x more q. refl;
      }

      other : (i ≡ j → ⊥) → Replayed sites keep i before later
      other n =
          let r = replayed i moments [] (sym (append-nil moments)) in
          let o = is_other j i n in record {
            first = r.first;
            rest = r.rest;
            parts = ap (λ l. read_by i (recorded l)) f ∙ kept_now i ∙ ap (λ b. read_by i (recorded moments) ++ cond b (fields ∷ []) []) o
                ∙ append-nil (read_by i (recorded moments)) ∙ r.parts;
            again = subst (λ l. IsShortened (process sites keep i) (opening_at i) l r.first)
                (sym (ap (has_read i) f ∙ read_now i ∙ ap (λ b. cond b (has_read i moments ++ fields ∷ []) (has_read i moments)) o)) r.again;
            whole = λ x more q. none x more q;
          }

  still_replayed : AreReplayed sites keep after
  still_replayed i before later e = ⊎_elim (λ k. earlier k.0 k.1 k.2) (λ k. at_it k.0 k.1 k.2) (split_append moments before e)
    where
      earlier : (c : List Moment) → moments ≡ before ++ c → later ≡ c ++ Reads j fields ∷ [] → Replayed sites keep i before later
      earlier [] f g = before_it i (sym (f ∙ append-nil before)) g
      earlier (z ∷ c) f g = let r = replayed i before (z ∷ c) f in record {
        first = r.first;
        rest = r.rest;
        parts = r.parts;
        again = r.again;
        whole = λ x more q. let h : z ≡ Reads i x = (let y : z ∷ (c ++ Reads j fields ∷ []) ≡ Reads i x ∷ more = sym g ∙ q in cc) in
            r.whole x c (ap (λ m. m ∷ c) h);
      }

      at_it : (c : List Moment) → before ≡ moments ++ c → Reads j fields ∷ [] ≡ c ++ later → Replayed sites keep i before later
      at_it [] f g = before_it i (f ∙ append-nil moments) (sym g)
      at_it (z ∷ []) f g =
          let h : z ≡ Reads j fields = cc in
          let k : later ≡ [] = cc in
          after_it i (f ∙ ap (λ m. moments ++ m ∷ []) h) k
      at_it (z ∷ y ∷ c) f g = absurd cc

  still_carried : CarriedWithRestarts sites keep after
  still_carried before later i x p e is = ⊎_elim (λ k. earlier k.0 k.1 k.2) (λ k. at_it k.0 k.1 k.2) (split_append moments before e)
    where
      now : (z : Moment) → z ≡ Reads i x → z ≡ Reads j fields → x ≡ fields
      now z e f = let q : Reads i x ≡ Reads j fields = sym e ∙ f in cc

      this : before ≡ moments → x ≡ fields → WasEverSent sites keep before x
      this f same = subst (λ l. WasEverSent sites keep l x) (sym f)
          (subst (WasEverSent sites keep moments) (sym same) (sent p (ap (packet_of sites) (sym same) ∙ is)))

      earlier : (c : List Moment) → moments ≡ before ++ c → Reads i x ∷ later ≡ c ++ Reads j fields ∷ [] → WasEverSent sites keep before x
      earlier [] f g = this (sym (f ∙ append-nil before)) (let q : Reads i x ≡ Reads j fields = cc in now (Reads i x) refl q)
      earlier (z ∷ c) f g = let h : z ≡ Reads i x = cc in carried before c i x p (f ∙ (λ k. before ++ h k ∷ c)) is

      at_it : (c : List Moment) → before ≡ moments ++ c → Reads j fields ∷ [] ≡ c ++ Reads i x ∷ later → WasEverSent sites keep before x
      at_it [] f g = this (f ∙ append-nil moments) (let q : Reads i x ≡ Reads j fields = cc in now (Reads i x) refl q)
      at_it (z ∷ []) f g = absurd cc
      at_it (z ∷ y ∷ c) f g = absurd cc

pub new_records_are_read : NewRecordsAreRead
new_records_are_read sites j keep moments fields replayed carried level sent = (
  still_replayed sites j keep moments fields replayed carried level sent,
  still_carried sites j keep moments fields replayed carried level sent,
  still_level sites j keep moments fields replayed carried level sent,
)

-- ---- processes that have read all messages have released all of them, and have equal tables

-- ---- a site keeps what it has, whatever comes

generating_keeps : (p : Place) (s : Replica) (r : Result Shadow Refusal) (u : Message) → Had s u → Had (generating p s r).0 u
generating_keeps p s (Err r) u h = h
generating_keeps p s (Ok x) u h =
    settled_had (record s { log = s.log ++ made p s x ∷ []; held = issued_after x s.held }) u
    (⊎_elim (λ k. inl (has_left u s.log (made p s x ∷ []) k)) (λ k. inr k) h)

passing_keeps : (p : Place) (s : Replica) (to : ℕ) (o : Option ℕ) (u : Message) → Had s u → Had (passing p s to o).0 u
passing_keeps p s to None u h = h
passing_keeps p s to (Some issued) u h =
    cond_both (nat_le p.sites to || (to == p.site)) (s, Err BadTarget) _ (λ (q : Replica × Result Token Refusal). Had q.0 u) (λ _. h)
    (λ _. cond_both (nat_le 1000000000 s.last) (s, Err LastTurn) _ (λ (q : Replica × Result Token Refusal). Had q.0 u) (λ _. h) (λ _. h))

input_keeps : (p : Place) (s : Replica) (n : ℕ) (x : Input) (u : Message) → Had s u → Had (input_step p s n x).0 u
input_keeps p s n (Asked (Request.Ask a)) u h = generating_keeps p s (decision (rows_at s.log) (standing_of p.keep s) a) u h
input_keeps p s n (Asked (Request.Pass to)) u h = passing_keeps p s to s.held u h
input_keeps p s n (Asked (Request.List l)) u h = h
input_keeps p s n (Came (Packet.Msg m)) u h = arrived_keeps p s m u h
input_keeps p s n (Came (Packet.Token t)) u h = took_keeps p s t u h
input_keeps p s n Neither u h = h

-- ---- no record is a message and a request

abbrev first_word : List (List ℕ) → List ℕ
first_word [] = []
first_word (word ∷ rest) = word

asked_otherwise : (q : Request) → bytes_eq (first_word (request_record q)) (codes "msg") ≡ false
asked_otherwise (Request.Ask (Ask.User n)) = refl
asked_otherwise q = refl

module _ (sites : ℕ) (top : sites ≤ COUNTED_MAX) where
  not_both : (fields : List (List ℕ)) (m : Message) (q : Request) → packet_of sites fields ≡ Some (Packet.Msg m) → request_of sites fields ≡ Some q → ⊥
  not_both fields m q is asked =
      let a = ((request_is sites (omega (arith, top)) fields q).0 asked).1 in
      let b = ((packet_is sites (omega (arith, top)) top fields (Packet.Msg m)).0 is).1 in
      true≢false (ap (λ f. bytes_eq (first_word f) (codes "msg")) (sym b ∙ a) ∙ asked_otherwise q)

  message_came : (fields : List (List ℕ)) (m : Message) → packet_of sites fields ≡ Some (Packet.Msg m) → input_of sites fields ≡ Came (Packet.Msg m)
  message_came fields m is = at (request_of sites fields) refl
    where
      at : (o : Option Request) → request_of sites fields ≡ o → input_of sites fields ≡ Came (Packet.Msg m)
      at (Some q) e = absurd (not_both fields m q is e)
      at None e = λ j. input_by (e j) (is j)

-- ---- what was sent stays sent

pub sent_later : (sites : ℕ) (keep : ℕ → ℕ) {all : List Reading} (before later : List Reading) (fields : List (List ℕ)) → all ≡ before ++ later
    → WasSent sites keep before fields → WasSent sites keep all fields
sent_later sites keep before later fields is h =
    let p = process sites keep h.0 in (
      h.0,
      h.1,
      subst (Has _) (sym (ap (λ l. output_of p (read_by h.0 l)) is ∙ ap (output_of p) (read_more h.0 before later)
          ∙ answers_stay p (read_by h.0 before) (read_by h.0 later))) (has_left _ (answers_of sites keep before h.0) _ h.2),
    )

-- ---- what a process has read it has

module _ (sites : ℕ) (keep : ℕ → ℕ) (some : 1 ≤ sites) (top : sites ≤ COUNTED_MAX) (small : (i : ℕ) → keep i ≤ 1000000) (all : List Reading)
    (carried : Carried sites keep all) (i : ℕ) (within : i < sites) (keeps : KeepsAll sites keep all i) where
  -- each message that the process has read is in its log or waits there
  abbrev HasWhatItRead : List Reading → Type 0
  HasWhatItRead before =
      (fields : List (List ℕ)) (m : Message) → packet_of sites fields ≡ Some (Packet.Msg m) → Has fields (read_by i before) →
      Had (state_of sites keep before i) m

  -- a message that it reads now
  has_now : (before later : List Reading) (r : Reading) → all ≡ before ++ r ∷ later → r.site ≡ i → (m : Message) → packet_of sites r.fields
      ≡ Some (Packet.Msg m)
      → Had (step sites keep before r).0 m
  has_now before later r is here m e =
      let q = processes_run sites keep before some top small (carried_before sites keep before (r ∷ later) is carried) in
      let w = run 1000000 q.0 (start sites) in
      let s = sound_run {n = sites} {keep = 1000000} q.0 some (omega arith) q.1 in
      let rest = rests_run {n = sites} {keep = 1000000} q.0 some (omega arith) q.1 in
      let a : Sent w m = (q.2.sent (Packet.Msg m)).1 (r.fields, carried before later r (Packet.Msg m) is e, e) in
      let covers : (x : Message) → Sent w x → Has x keeps.0 = λ x h. let k = (q.2.sent (Packet.Msg x)).0 h in
      keeps.1 x (k.0, sent_later sites keep before (r ∷ later) k.0 is k.1, k.2) in
      let had : Had (arrived (place (keep i) w i) (site w i) m).0 m = had_among w s rest i m a (keep i) keeps.0 covers keeps.2 in
      let same : (arrived (place (keep i) w i) (site w i) m).0 ≡ (step sites keep before r).0 =
      (λ j. (arrived (record { site = i; sites = q.2.count j; keep = keep i }) (q.2.states i within j) m).0) ∙ (λ j. (input_step
      (process sites keep (sym here j)) (state_of sites keep before (sym here j)) (number sites keep before r) (sym (message_came sites top _ m e) j)).0) in
      subst (λ (t : Replica). Had t m) same had

  has_next : (before later : List Reading) (r : Reading) → all ≡ before ++ r ∷ later → HasWhatItRead before → HasWhatItRead (before ++ r ∷ [])
  has_next before later r is has fields m e h = ⊎_elim here there (cases_eq i r.site)
    where
      here : i ≡ r.site → Had (state_of sites keep (before ++ r ∷ []) i) m
      here k =
          let now : state_of sites keep (before ++ r ∷ []) i ≡ (step sites keep before r).0 =
          ap (state_of sites keep (before ++ r ∷ [])) k ∙ state_here sites keep before r in
          let read : Has fields (read_by i before ++ r.fields ∷ []) =
          subst (Has fields) ((λ j. read_by (k j) (before ++ r ∷ [])) ∙ read_here before r ∙ (λ j. read_by (sym k j) before ++ r.fields ∷ [])) h in
          subst (λ (t : Replica). Had t m) (sym now)
          (⊎_elim
          (λ q. input_keeps (process sites keep r.site) (state_of sites keep before r.site) (number sites keep before r) (input_of sites r.fields) m
          (subst (λ x. Had (state_of sites keep before x) m) k (has fields m e q)))
          (λ q. has_now before later r is (sym k) m (ap (packet_of sites) (sym q) ∙ e))
          (push_cases fields r.fields (read_by i before) read))

      there : (i ≡ r.site → ⊥) → Had (state_of sites keep (before ++ r ∷ []) i) m
      there n = subst (λ (t : Replica). Had t m) (sym (state_there sites keep before r {i = i} n))
          (has fields m e (subst (Has fields) (read_there {i = i} before r n) h))

  has_all : (later before : List Reading) → all ≡ before ++ later → HasWhatItRead before → HasWhatItRead all
  has_all [] before is has = subst HasWhatItRead (sym (is ∙ append-nil before)) has
  has_all (r ∷ later) before is has = has_all later (before ++ r ∷ []) (is ∙ sym (append_assoc before (r ∷ []) later)) (has_next before later r is has)

  has_exactly : HasReadAll sites keep all i → HasExactlySent sites keep all (state_of sites keep all i)
  has_exactly read =
      let q = processes_run sites keep all some top small carried in
      let w = run 1000000 q.0 (start sites) in
      let s = sound_run {n = sites} {keep = 1000000} q.0 some (omega arith) q.1 in
      let has : HasAll w i = λ m a.
      let k = (q.2.sent (Packet.Msg m)).0 a in
      ⊎_elim (λ h. subst (λ (t : Replica). Had t m) (sym (q.2.states i within)) (has_all all [] refl (λ fields x e h. absurd h) k.0 m k.2 h))
      (λ e. inl (subst (λ j. Has m (site w j).log) e (own w s m a))) (read k.0 m k.1 k.2) in
      let done = all_had_are_released sites 1000000 q.0 some (omega arith) q.1 i has in
      let same = q.2.states i within in record {
        none_waits = ap (λ (t : Replica). t.waiting) (sym same) ∙ done.none_waits;
        released = λ m. (
          (λ a. subst (λ (t : Replica). Has m t.log) same ((done.released m).0 ((q.2.sent (Packet.Msg m)).1 a))),
          λ h. (q.2.sent (Packet.Msg m)).0 ((done.released m).1 (subst (λ (t : Replica). Has m t.log) (sym same) h)),
        );
      }
    where
      own : (w : World) → Sound w → (m : Message) → Sent w m → Has m (site w m.stamp.id.site).log
      own w s m a = has_reverse m (site w m.stamp.id.site).log (s.home.home m a)

pub processes_converge : ProcessesConverge
processes_converge sites keep readings some top small carried i j li lj ri rj ki kj =
    let a = has_exactly sites keep some top small readings carried i li ki ri in
    let b = has_exactly sites keep some top small readings carried j lj kj rj in (
      a,
      b,
      processes_same_tables sites keep readings some top small carried sites keep readings some top small carried i j li lj (λ m. (
        (λ h. contains (state_of sites keep readings j).log m ((b.released m).0 ((a.released m).1 (contained (state_of sites keep readings i).log m h)))),
        λ h. contains (state_of sites keep readings i).log m ((a.released m).0 ((b.released m).1 (contained (state_of sites keep readings j).log m h))),
      )),
    )

-- ---- however often they were restarted

level_state : (sites : ℕ) (keep : ℕ → ℕ) (moments : List Moment) (i : ℕ) → IsLevel sites keep moments i
    → state_since_start sites keep moments i ≡ state_of sites keep (recorded moments) i
level_state sites keep moments i e = short_state (process sites keep i) (read_by i (recorded moments)) (has_read i moments) (opening_at i) 1 1 e

-- what is shown of processes in these two states
abbrev Converged : ℕ → (ℕ → ℕ) → List Reading → Replica → Replica → Type 0
Converged sites keep readings s t = HasExactlySent sites keep readings s × HasExactlySent sites keep readings t
    × ((fold_of (cores s.log)).tables ≡ (fold_of (cores t.log)).tables)

pub restarted_converge : RestartedConverge
restarted_converge sites keep moments some top small replayed carried i j li lj ei ej ri rj ki kj =
    let s = restarts_change_nothing sites keep moments replayed carried in
    let c = processes_converge sites keep (recorded moments) some top small s.carried i j li lj ri rj ki kj in
    subst (λ t. Converged sites keep (recorded moments) t (state_since_start sites keep moments j)) (sym (level_state sites keep moments i ei))
    (subst (λ t. Converged sites keep (recorded moments) (state_of sites keep (recorded moments) i) t) (sym (level_state sites keep moments j ej)) c)
