-- What holds of sites that are processes of their own.
use Rattle.rubis_laws.proofs.Common.{ℕ, ◌≡◌, ◌≤◌, ◌<◌, Bool, true, false, cond, List, [], ◌∷◌, ◌++◌, refl, sym, ap, ◌∙◌, subst, arith, Option, Some, None, inl}
use Rattle.rubis_laws.proofs.Common.{inr, ⊎_elim, append_assoc, append-nil, ◌==◌, ◌||◌, bytes_eq, codes, find, nat_le, not, Result, Ok, Err, cases_eq}
use Rattle.rubis_laws.proofs.Common.{cond_both, true≢false, COUNTED_MAX, Listing, Refusal, BadRecord, BadTarget, LastTurn, NoToken, NotForMe, NotOurs, Ask}
use Rattle.rubis_laws.proofs.Common.{Shadow, decision, is_due, order_of, refused_or, shadow_of, Rows, Standing, packet_of, request_of, Arrival, Taken, Request}
use Rattle.rubis_laws.proofs.Common.{Packet, Token, arrived_rows, asked_rows, listed_rows, passed_rows, refused_row, took_rows, InOrder, cores, fold_of}
use Rattle.rubis_laws.proofs.Common.{AreProcesses, Carried, Reading, WasSent, answers_of, process, state_of, input_by, answers, input_step, listing_rows, Has}
use Rattle.rubis_laws.proofs.Common.{Place, Replica, arrived, generating, passing, rows_at, standing_of, took, token_for, World, run, start, has_append, ◌+◌}
use Rattle.rubis_laws.proofs.Common.{zero, suc, length, Contains, Id, Full, Message, IsHighestBid, KeepInvariants, SerializeOneOrder, Log, InRun, IsLogOf, Sent}
use Rattle.rubis_laws.proofs.Common.{WasLogOf, IsSentMessage, read_by, site_after, input_of, Input, Asked, Came, Neither, settle, is_full, is_repeat, made}
use Rattle.rubis_laws.proofs.Common.{not_ours, opening_at, settled}
use Rattle.rubis_model.specs.Processes.{ProcessesKnowTheirOwn, IsLogOfProcess, ProcessesAgree, ProcessesAgreeOnTables, ProcessesAreInRun}
use Rattle.rubis_model.specs.Processes.{ProcessesKeepInvariants, WasLogOfProcess}
use Rattle.rubis_laws.proofs.Processes.AreARun.{answers_here, answers_there, number, processes_run, rows_listed, step, after_more, read_more}
use Rattle.rubis_laws.proofs.Runs.EveryRun.{every_order, equal_tables, every_run, sound_run}
use Rattle.rubis_model.specs.Site.{first_ready}
use Rattle.rubis_laws.proofs.Audits.Verdicts.{refers_more, run_faultless, run_formed, faultless_agree}

-- ---- rows none of which is that refusal

abbrev NotRefused : List (List (List ℕ)) → Type 0
NotRefused rows = (k : ℕ) → Has (refused_row k NotOurs) rows → ⊥

-- the name that the row of a refusal shows
abbrev name_in : List (List ℕ) → List ℕ
name_in (_ ∷ _ ∷ _ ∷ _ ∷ name ∷ rest) = name
name_in row = []

same_refusal : (n k : ℕ) (r : Refusal) → refused_row k NotOurs ≡ refused_row n r → r ≡ NotOurs
same_refusal n k NotOurs e = refl
same_refusal n k r e = absurd (true≢false (ap (λ row. bytes_eq (name_in row) (codes "NotOurs")) e))

refused_other : (n : ℕ) (r : Refusal) → (r ≡ NotOurs → ⊥) → NotRefused (refused_row n r ∷ [])
refused_other n r other k (inl e) = other (same_refusal n k r e)
refused_other n r other k (inr h) = h

-- ---- an ask

find_is : {A : Type 0} (p : A → Bool) (xs : List A) {r : A} → find p xs ≡ Some r → p r ≡ true
find_is p [] e = absurd cc
find_is p (x ∷ xs) {r} e = at (p x) refl (find_is p xs) e
  where
    at : (b : Bool) → p x ≡ b → (find p xs ≡ Some r → p r ≡ true) → cond b (Some x) (find p xs) ≡ Some r → p r ≡ true
    at true is more e = subst (λ y. p y ≡ true) (let q : x ≡ r = cc in q) is
    at false is more e = more e

due_other : (t : Rows) (s : Standing) (ask : Ask) (r : Refusal) → decision t s ask ≡ Err r → r ≡ NotOurs → ⊥
due_other t s ask r e is = at (find (is_due t s ask) (order_of ask)) refl e
  where
    at : (o : Option Refusal) → find (is_due t s ask) (order_of ask) ≡ o → refused_or o (shadow_of t ask) ≡ Err r → ⊥
    at None f e = absurd cc
    at (Some q) f e =
        let same : q ≡ NotOurs = (let z : q ≡ r = cc in z) ∙ is in
        true≢false (sym (find_is (is_due t s ask) (order_of ask) f) ∙ ap (is_due t s ask) same)

asked_own : (p : Place) (s : Replica) (n : ℕ) (a : Result Shadow Refusal) → ((r : Refusal) → a ≡ Err r → r ≡ NotOurs → ⊥)
    → NotRefused (asked_rows n (generating p s a).1)
asked_own p s n (Err r) other k h = refused_other n r (other r refl) k h
asked_own p s n (Ok x) other k (inl e) = absurd cc
asked_own p s n (Ok x) other k (inr (inl e)) = absurd cc
asked_own p s n (Ok x) other k (inr (inr h)) = h

-- ---- the other inputs

passed_own : (p : Place) (s : Replica) (n to : ℕ) (o : Option ℕ) → NotRefused (passed_rows n (passing p s to o).1)
passed_own p s n to None = refused_other n NoToken (λ e. absurd cc)
passed_own p s n to (Some issued) =
    cond_both (nat_le p.sites to || (to == p.site)) (s, Err BadTarget) _ (λ (a : Replica × Result Token Refusal). NotRefused (passed_rows n a.1))
    (λ _. refused_other n BadTarget (λ e. absurd cc))
    (λ _. cond_both (nat_le 1000000000 s.last) (s, Err LastTurn) _ (λ (a : Replica × Result Token Refusal). NotRefused (passed_rows n a.1))
    (λ _. refused_other n LastTurn (λ e. absurd cc)) (λ _. sent))
  where
    sent : NotRefused (passed_rows n (Ok (token_for s to issued)))
    sent k (inl e) = absurd cc
    sent k (inr (inl e)) = absurd cc
    sent k (inr (inr h)) = h

listed_own : (s : Replica) (n : ℕ) (l : Listing) → NotRefused (listed_rows n (Ok (listing_rows s.log (fold_of (cores s.log)) l)))
listed_own s n l k (inl e) = absurd cc
listed_own s n l k (inr h) = let b = (rows_listed s.log (fold_of (cores s.log)) l (refused_row k NotOurs) h).1 in absurd cc

arrived_own : (n : ℕ) (a : Result Arrival Refusal) → (a ≡ Err NotOurs → ⊥) → NotRefused (arrived_rows n a)
arrived_own n (Err r) other k h = refused_other n r (λ e. other (ap Err e)) k h
arrived_own n (Ok (Arrival.Released j)) other k (inl e) = absurd cc
arrived_own n (Ok Arrival.Held) other k (inl e) = absurd cc
arrived_own n (Ok Arrival.Repeat) other k (inl e) = absurd cc
arrived_own n (Ok (Arrival.Released j)) other k (inr h) = h
arrived_own n (Ok Arrival.Held) other k (inr h) = h
arrived_own n (Ok Arrival.Repeat) other k (inr h) = h

took_own : (p : Place) (s : Replica) (n : ℕ) (t : Token) → NotRefused (took_rows n (took p s t).1)
took_own p s n t =
    cond_both (not (t.to == p.site)) (s, Err NotForMe) _ (λ (a : Replica × Result Taken Refusal). NotRefused (took_rows n a.1))
    (λ _. refused_other n NotForMe (λ e. absurd cc))
    (λ _. cond_both (nat_le t.turn s.last) (s, Ok Taken.Repeat) _ (λ (a : Replica × Result Taken Refusal). NotRefused (took_rows n a.1)) (λ _. again)
    (λ _. holding))
  where
    again : NotRefused (took_rows n (Ok Taken.Repeat))
    again k (inl e) = absurd cc
    again k (inr h) = h

    holding : NotRefused (took_rows n (Ok Taken.Holding))
    holding k (inl e) = absurd cc
    holding k (inr h) = h

-- ---- all readings

-- what holds of the packets of all readings holds of the first ones
pub carried_before : (sites : ℕ) (keep : ℕ → ℕ) {all : List Reading} (before later : List Reading) → all ≡ before ++ later → Carried sites keep all
    → Carried sites keep before
carried_before sites keep before later is carried first rest r p e =
    carried first (rest ++ later) r p (is ∙ ap (λ l. l ++ later) e ∙ append_assoc first (r ∷ rest) later)

module _ (sites : ℕ) (keep : ℕ → ℕ) (some : 1 ≤ sites) (top : sites ≤ COUNTED_MAX) (small : (i : ℕ) → keep i ≤ 1000000) where
  own_step : (before : List Reading) (r : Reading) (w : World) → r.site < sites → AreProcesses sites keep before w → InOrder w
      → ((p : Packet) → packet_of sites r.fields ≡ Some p → WasSent sites keep before r.fields) → NotRefused (step sites keep before r).1
  own_step before r w l are order carried = at (request_of sites r.fields) (packet_of sites r.fields) refl
    where
      at : (q : Option Request) (o : Option Packet) → packet_of sites r.fields ≡ o
          → NotRefused (input_step (process sites keep r.site) (state_of sites keep before r.site) (number sites keep before r) (input_by q o)).1
      at (Some (Request.Ask a)) o is = asked_own (process sites keep r.site) (state_of sites keep before r.site) _
          (decision (rows_at (state_of sites keep before r.site).log) (standing_of (keep r.site) (state_of sites keep before r.site)) a)
          (due_other (rows_at (state_of sites keep before r.site).log) (standing_of (keep r.site) (state_of sites keep before r.site)) a)
      at (Some (Request.Pass to)) o is = passed_own (process sites keep r.site) (state_of sites keep before r.site) _ to
          (state_of sites keep before r.site).held
      at (Some (Request.List l)) o is = listed_own (state_of sites keep before r.site) _ l
      at None (Some (Packet.Msg m)) is =
          let sent = (are.sent (Packet.Msg m)).1 (r.fields, carried (Packet.Msg m) is, is) in
          arrived_own _ (arrived (process sites keep r.site) (state_of sites keep before r.site) m).1
          (subst (λ (x : Place × Replica). (arrived x.0 x.1 m).1 ≡ Err NotOurs → ⊥)
          (λ i. (record { site = r.site; sites = are.count i; keep = keep r.site }, are.states r.site l i)) (order.ours (keep r.site) r.site m sent))
      at None (Some (Packet.Token t)) is = took_own (process sites keep r.site) (state_of sites keep before r.site) _ t
      at None None is = refused_other _ BadRecord (λ e. absurd cc)

  abbrev Own : List Reading → Type 0
  Own readings = (i k : ℕ) → i < sites → Has (refused_row k NotOurs) (answers_of sites keep readings i) → ⊥

  own_next : (before : List Reading) (r : Reading) → (r.site < sites → NotRefused (step sites keep before r).1) → Own before → Own (before ++ r ∷ [])
  own_next before r now own i k l h = ⊎_elim here there (cases_eq i r.site)
    where
      here : i ≡ r.site → ⊥
      here e =
          let m = subst (λ j. j < sites) e l in
          ⊎_elim (own r.site k m) (now m k)
          (has_append (refused_row k NotOurs) (answers_of sites keep before r.site) (step sites keep before r).1
          (subst (Has (refused_row k NotOurs)) (answers_here sites keep before r)
          (subst (λ j. Has (refused_row k NotOurs) (answers_of sites keep (before ++ r ∷ []) j)) e h)))

      there : (i ≡ r.site → ⊥) → ⊥
      there n = own i k l (subst (Has (refused_row k NotOurs)) (answers_there sites keep before r {i = i} n) h)

  own_all : (all : List Reading) → Carried sites keep all → (later before : List Reading) → all ≡ before ++ later → Own before → Own all
  own_all all carried [] before is own = subst Own (sym (is ∙ append-nil before)) own
  own_all all carried (r ∷ later) before is own =
      let first = processes_run sites keep before some top small (carried_before sites keep before (r ∷ later) is carried) in
      own_all all carried later (before ++ r ∷ []) (is ∙ sym (append_assoc before (r ∷ []) later))
      (own_next before r (λ l. own_step before r (run 1000000 first.0 (start sites)) l first.2 (every_order sites 1000000 first.0 some (omega arith) first.1)
      (λ p e. carried before later r p is e)) own)

  own_none : Own []
  unfolding answers
  own_none i k l h = h

pub processes_own : ProcessesKnowTheirOwn
processes_own sites keep readings some top small carried i n l h =
    own_all sites keep some top small readings carried readings [] refl (own_none sites keep some top small) i n l h

-- ---- what holds of processes whose packets are carried unchanged

-- ---- a log only grows

-- t has the log of s, and more
abbrev pub Grows : Replica → Replica → Type 0
Grows s t = (later : List Message) × (s.log ++ later ≡ t.log)

pub grows_not : (s t : Replica) → s.log ≡ t.log → Grows s t
grows_not s t e = ([], append-nil s.log ∙ e)

pub grows_twice : (s t u : Replica) → Grows s t → Grows t u → Grows s u
grows_twice s t u f g = (f.0 ++ g.0, sym (append_assoc s.log f.0 g.0) ∙ ap (λ l. l ++ g.0) f.1 ∙ g.1)

settle_more : (n : ℕ) (log waiting : List Message) → (later : List Message) × (log ++ later ≡ (settle n log waiting).0)
settle_more zero log waiting = ([], append-nil log)
settle_more (suc n) log waiting = at (first_ready log waiting) (λ p. settle_more n (log ++ p.0 ∷ []) p.1)
  where
    at : (o : Option (Message × List Message))
        → ((p : Message × List Message) → (later : List Message) × ((log ++ p.0 ∷ []) ++ later ≡ (settle n (log ++ p.0 ∷ []) p.1).0))
        → (later : List Message)
        × (log ++ later ≡ (elim o as (λ _. List Message × List Message) [ None ↦ (log, waiting) | Some p ↦ settle n (log ++ p.0 ∷ []) p.1 ]).0)
    at None more = ([], append-nil log)
    at (Some p) more = let r = more p in (p.0 ∷ r.0, sym (append_assoc log (p.0 ∷ []) r.0) ∙ r.1)

settled_grows : (s : Replica) → Grows s (settled s)
settled_grows s = settle_more (length s.waiting) s.log s.waiting

pub generating_grows : (p : Place) (s : Replica) (r : Result Shadow Refusal) → Grows s (generating p s r).0
generating_grows p s (Err r) = grows_not s s refl
generating_grows p s (Ok x) = let r = settled_grows (record s { log = s.log ++ made p s x ∷ []; held = (generating p s (Ok x)).0.held }) in
    (made p s x ∷ r.0, sym (append_assoc s.log (made p s x ∷ []) r.0) ∙ r.1)

pub arrived_grows : (p : Place) (s : Replica) (m : Message) → Grows s (arrived p s m).0
arrived_grows p s m =
    cond_both (not_ours p s m) (s, Err NotOurs) _ (λ (a : Replica × Result Arrival Refusal). Grows s a.0) (λ _. grows_not s s refl)
    (λ _. cond_both (is_repeat s m) (s, Ok Arrival.Repeat) _ (λ (a : Replica × Result Arrival Refusal). Grows s a.0) (λ _. grows_not s s refl)
    (λ _. cond_both (is_full p.keep s) (s, Err Full) _ (λ (a : Replica × Result Arrival Refusal). Grows s a.0) (λ _. grows_not s s refl)
    (λ _. settled_grows (record s { waiting = s.waiting ++ m ∷ [] }))))

pub took_grows : (p : Place) (s : Replica) (t : Token) → Grows s (took p s t).0
took_grows p s t =
    cond_both (not (t.to == p.site)) (s, Err NotForMe) _ (λ (a : Replica × Result Taken Refusal). Grows s a.0) (λ _. grows_not s s refl)
    (λ _. cond_both (nat_le t.turn s.last) (s, Ok Taken.Repeat) _ (λ (a : Replica × Result Taken Refusal). Grows s a.0) (λ _. grows_not s s refl)
    (λ _. grows_not s (record s { held = Some t.issued; last = t.turn }) refl))

pub passing_grows : (p : Place) (s : Replica) (to : ℕ) (o : Option ℕ) → Grows s (passing p s to o).0
passing_grows p s to None = grows_not s s refl
passing_grows p s to (Some issued) =
    cond_both (nat_le p.sites to || (to == p.site)) (s, Err BadTarget) _ (λ (a : Replica × Result Token Refusal). Grows s a.0) (λ _. grows_not s s refl)
    (λ _. cond_both (nat_le 1000000000 s.last) (s, Err LastTurn) _ (λ (a : Replica × Result Token Refusal). Grows s a.0) (λ _. grows_not s s refl)
    (λ _. grows_not s (record s { held = None }) refl))

input_grows : (p : Place) (s : Replica) (n : ℕ) (x : Input) → Grows s (input_step p s n x).0
input_grows p s n (Asked (Request.Ask a)) = generating_grows p s (decision (rows_at s.log) (standing_of p.keep s) a)
input_grows p s n (Asked (Request.Pass to)) = passing_grows p s to s.held
input_grows p s n (Asked (Request.List l)) = grows_not s s refl
input_grows p s n (Came (Packet.Msg m)) = arrived_grows p s m
input_grows p s n (Came (Packet.Token t)) = took_grows p s t
input_grows p s n Neither = grows_not s s refl

after_grows : (p : Place) (records : List (List (List ℕ))) (s : Replica) (n : ℕ) → Grows s (site_after p s n records)
after_grows p [] s n = grows_not s s refl
after_grows p (fields ∷ rest) s n =
    let t = (input_step p s n (input_of p.sites fields)).0 in
    grows_twice s t (site_after p t (n + 1) rest) (input_grows p s n (input_of p.sites fields)) (after_grows p rest t (n + 1))

pub state_grows : (sites : ℕ) (keep : ℕ → ℕ) (before later : List Reading) (i : ℕ) →
    Grows (state_of sites keep before i) (state_of sites keep (before ++ later) i)
state_grows sites keep before later i =
    let p = process sites keep i in
    let s = state_of sites keep before i in
    let r = after_grows p (read_by i later) s (1 + length (read_by i before)) in (
      r.0,
      r.1 ∙ ap (λ (t : Replica). t.log)
          (sym (ap (site_after p (opening_at i) 1) (read_more i before later) ∙ after_more p (read_by i before) (read_by i later) (opening_at i) 1)),
    )

-- ---- the claims, of the same messages and of some of the logs

module _ (all same : Message → Type 0) (L K : Log → Type 0) (on : (m : Message) → all m → same m) (back : (m : Message) → same m → all m)
    (some : (log : Log) → K log → L log) where
  same_order : SerializeOneOrder all L → SerializeOneOrder same K
  same_order s = record {
    ids = λ u v a b. s.ids u v (back u a) (back v b);
    order = record {
      irreflexive = λ u a. s.order.irreflexive u (back u a);
      transitive = λ u v x a b c. s.order.transitive u v x (back u a) (back v b) (back x c);
      reds = λ u v a b. s.order.reds u v (back u a) (back v b);
    };
    logs = λ log h. let k = s.logs log (some log h) in record {
      members = λ u x. on u (k.members u x);
      distinct = k.distinct;
      closed = λ u v a. k.closed u v (back u a);
      causal = k.causal;
    };
  }

  same_highest : (item : Id) (o : Option Id) → IsHighestBid all item o → IsHighestBid same item o
  same_highest item None h = λ b a. h b (back b a.0, a.1)
  same_highest item (Some id) h = (h.0, (on h.0 h.1.0, h.1.1), h.2, λ c a. h.3 c (back c a.0, a.1))

  same_invariants : KeepInvariants all L → KeepInvariants same K
  same_invariants k = record {
    checked = λ log h. k.checked log (some log h);
    meaning = λ log h. k.meaning log (some log h);
    clean = λ log h. k.clean log (some log h);
    refers = λ v a. refers_more all same v (λ m b p. on m b) v.shadow (k.refers v (back v a));
    holds = λ log h. k.holds log (some log h);
    stock = λ log h. k.stock log (some log h);
    closed_once = λ item u v a b. k.closed_once item u v (back u a) (back v b);
    winner = λ item c a e. same_highest item _ (k.winner item c (back c a) e);
    ended = λ log h item r winner e f. same_highest item winner (k.ended log (some log h) item r winner e f);
  }

module _ (sites : ℕ) (keep : ℕ → ℕ) (readings : List Reading) (w : World) (are : AreProcesses sites keep readings w) where
  log_of_site : (log : Log) → IsLogOfProcess sites keep readings log → IsLogOf w log
  log_of_site log h = record { messages = h.messages ∙ ap (λ (s : Replica). s.log) (sym (are.states log.site h.within)); rows = h.rows }

  pub claims_hold : InRun w → SerializeOneOrder (IsSentMessage sites keep readings) (IsLogOfProcess sites keep readings)
      × KeepInvariants (IsSentMessage sites keep readings) (IsLogOfProcess sites keep readings)
  claims_hold h =
      let on = λ (m : Message). (are.sent (Packet.Msg m)).0 in
      let back = λ (m : Message). (are.sent (Packet.Msg m)).1 in (
        same_order (Sent w) (IsSentMessage sites keep readings) (IsLogOf w) (IsLogOfProcess sites keep readings) on back log_of_site h.in_order.serial,
        same_invariants (Sent w) (IsSentMessage sites keep readings) (IsLogOf w) (IsLogOfProcess sites keep readings) on back log_of_site h.invariants,
      )

  pub was_log_of_site : (log : Log) → WasLogOfProcess sites keep readings log → WasLogOf w log
  was_log_of_site log h =
      let is = h.3 in
      let g = state_grows sites keep h.0 h.1 log.site in
      record {
        later = g.0;
        messages = ap (λ l. l ++ g.0) is.messages ∙ g.1 ∙ ap (λ rs. (state_of sites keep rs log.site).log) (sym h.2)
            ∙ ap (λ (s : Replica). s.log) (sym (are.states log.site is.within));
        rows = is.rows;
      }

pub processes_in_run : ProcessesAreInRun
processes_in_run sites keep readings some top small carried =
    let r = processes_run sites keep readings some top small carried in
    (run 1000000 r.0 (start sites), r.2, every_run sites 1000000 r.0 some (omega arith) r.1)

pub processes_keep : ProcessesKeepInvariants
processes_keep sites keep readings some top small carried =
    let r = processes_in_run sites keep readings some top small carried in claims_hold sites keep readings r.0 r.1 r.2

pub processes_agree : ProcessesAgree
processes_agree sites keep readings some top small carried logs were =
    let r = processes_run sites keep readings some top small carried in
    let w = run 1000000 r.0 (start sites) in
    let s = sound_run {n = sites} {keep = 1000000} r.0 some (omega arith) r.1 in
    let of = λ (log : Log) (h : Has log logs). was_log_of_site sites keep readings w r.2 log (were log h) in
    faultless_agree logs (run_faultless w s logs of) (run_formed w s logs of)

pub processes_same_tables : ProcessesAgreeOnTables
processes_same_tables sites keep readings some top small carried others kept later more less tiny borne i j l k same =
    let r = processes_run sites keep readings some top small carried in
    let q = processes_run others kept later more less tiny borne in
    let e = ap (λ (s : Replica). s.log) (r.2.states i l) in
    let f = ap (λ (s : Replica). s.log) (q.2.states j k) in
    ap (λ l. (fold_of (cores l)).tables) (sym e)
    ∙ equal_tables sites 1000000 r.0 some (omega arith) r.1 others 1000000 q.0 more (omega arith) q.1 i j
    (λ m. (
      (λ h. subst (λ l. Contains l m) (sym f) ((same m).0 (subst (λ l. Contains l m) e h))),
      (λ h. subst (λ l. Contains l m) (sym e) ((same m).1 (subst (λ l. Contains l m) f h))),
    ))
    ∙ ap (λ l. (fold_of (cores l)).tables) f
