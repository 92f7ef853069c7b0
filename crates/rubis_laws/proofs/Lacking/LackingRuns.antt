-- What a log lacks and what its waiting messages wait for, in every run.
use Rattle.rubis_laws.proofs.Common.{◌≡◌, ◌∙◌, ℕ, ◌+◌, ◌≤◌, ◌<◌, zero, suc, Bool, true, false, Option, Some, None, length, refl, sym, ap, subst, inl, inr}
use Rattle.rubis_laws.proofs.Common.{⊎_elim, arith, ◌⊎◌, cond, reverse, nat_lt, unwrap_or, cases_eq, cases_lt, ltb-true, get_or_past, Id, Message, dep, awaited}
use Rattle.rubis_laws.proofs.Common.{awaited_red, Sent, Released, Has, Ready, counted, reds, Sound, World, site, run, start, has_back, has_reverse, found}
use Rattle.rubis_laws.proofs.Common.{found_red, made_at, red_within, seq_within, counted_reverse, reds_reverse, ◌^◌, List, [], ◌∷◌, ◌++◌, append_assoc, ◌≢◌}
use Rattle.rubis_laws.proofs.Common.{length-reverse, reverse-reverse, is_red, AreFaultless, Logged, Checked, CheckedFrom, Follows, AreDeliveries, HasAll}
use Rattle.rubis_laws.proofs.Common.{message_count, is_among, merged, lacked, completed, Completes, WasLogOf, Core, core, cores, fold_of, Log, Event, place}
use Rattle.rubis_laws.proofs.Common.{cores_length, cores_push, contained, contains, has_left, reverse_push, Packet, true≢false, ◌-◌, Result, Ok, Err, list_any}
use Rattle.rubis_laws.proofs.Common.{cond_both, leb-true, or_parts, same_id, Refusal, Full, NotOurs, BadEvent, Arrival, Happened, after_all, answers_to, Place}
use Rattle.rubis_laws.proofs.Common.{Replica, opening_at, not_ours, is_repeat, is_full, after_came, arrival_of, arrived, packet_at, coming, happens, Deliver}
use Rattle.rubis_laws.proofs.Common.{has_right, push_cases, has_append, settle_grows}
use Rattle.std.proofs.lemmas.Bool.{cond-true, lt-ltb, ne_eqb}
use Rattle.rubis_model.specs.Lack.{WaitsFor, NamesWhatIsAwaited, WaitingIsExplained, AreLogsOfAll, BringsLack, CompletedTablesAreEqual, LackIsReleasedInRuns}
use Rattle.rubis_model.specs.Lack.{OneRoundConverges, IsTakenIn, LackNeverWaits}
use Rattle.rubis_laws.proofs.Runs.Delivering.{rests_run, released_all, same_tables, are_events, delivered, deliveries_sent, messages_of, messages_length}
use Rattle.rubis_laws.proofs.Runs.Delivering.{message_in, no_longer, number_of, singly_released, ready_on, ready_forth, arrived_had, deliver_sent, fewer}
use Rattle.rubis_laws.proofs.Runs.Written.{AllRest, rests_at, rest_run, unlisted, rest_event}
use Rattle.rubis_laws.proofs.Runs.EveryRun.{sound_run, logged, room_of}
use Rattle.rubis_laws.proofs.Order.RunsInOrder.{own, there, unique, is_ours}
use Rattle.rubis_laws.proofs.Audits.Verdicts.{message_formed, checked_from, run_faultless}
use Rattle.rubis_laws.proofs.Audits.AuditedOrder.{IsFormed}
use Rattle.rubis_laws.proofs.Rows.Cores.{same_cores}
use Rattle.rubis_laws.proofs.Rows.EqualSets.{OneRed, equal_sets_equal_tables}
use Rattle.rubis_laws.proofs.Order.Deciding.{fits_on, of_back, to_back, new_here, one_each_back, count_reds, number_is, checked_end, set_at}
use Rattle.rubis_laws.proofs.Runs.SoundSteps.{run_sites, run_keeps, start_sites, room_run, event_keeps, event_sites}
use Rattle.rubis_laws.proofs.Lacking.InOrder.{IsReleased, among_in, apart_front, completed_all, completed_released, completes, fill, go_logs, in_lacked}
use Rattle.rubis_laws.proofs.Lacking.InOrder.{log_released, of_lacked, of_merged, push_released, released_prefix, is_answer, released_front, released_on}
use Rattle.rubis_laws.proofs.Rows.Lengths.{log_short}
use Rattle.rubis_laws.proofs.Rows.Sets.{Member}

-- the test of such an answer held, and this is the answer
some_of : {A : Type 0} (b : Bool) (x : A) {y : A} → cond b (Some x) None ≡ Some y → (b ≡ true) × (x ≡ y)
some_of {A} true x e = (refl, ap (λ (o : Option A). unwrap_or o x) e)
some_of false x e = absurd cc

module _ (w : World) (s : Sound w) (r : AllRest w) (i : ℕ) (m : Message) (h : Has m (site w i).waiting) where
  m_sent : Sent w m
  m_sent = (s.good i).waiting_sent m h

  released : Released (reverse (site w i).log)
  released = (s.good i).released

  new : Has m (reverse (site w i).log) → ⊥
  new k = (rests_at w i r).apart.not_logged m h (has_reverse m (site w i).log k)

  -- the message of site j that has the next number
  of_site : (j : ℕ) → counted j (site w i).log < dep m j
      → (u : Message) × (u.stamp.id ≡ record { site = j; seq = counted j (site w i).log + 1 }) × WaitsFor w i m u
  of_site j l =
      let o = m.stamp.id.site in
      let k = made_at o (reverse (site w o).log) m (s.good o).made (s.good o).decided (s.good o).released (s.home.home m m_sent) refl in
      let c = k.2 j in
      let n = counted j (site w i).log + 1 in
      let f = found k.0 j n k.1 (omega arith) (omega (arith, c, l)) in (
        f.0,
        (λ q. record { site = f.2 q; seq = f.3 q }),
        record {
          sent = (s.good o).log_sent f.0 (k.3 f.0 f.1);
          missing = λ q. let g = (seq_within (reverse (site w i).log) f.0 released (has_back f.0 (site w i).log q)).1 in late j f.0 f.2 f.3 g;
          before = inl (subst (λ x. f.0.stamp.id.seq ≤ dep m x) (sym f.2) (let e = f.3 in omega (arith, e, l)));
        },
      )
    where
      late : (j : ℕ) (u : Message) → u.stamp.id.site ≡ j → u.stamp.id.seq ≡ counted j (site w i).log + 1
          → u.stamp.id.seq ≤ counted u.stamp.id.site (reverse (site w i).log) → ⊥
      late j u e f g =
          let a = ap (λ q. counted q (reverse (site w i).log)) e in
          let b = counted_reverse j (site w i).log in
          omega (arith, a, b, f, g)

  -- the message that has the next red number
  of_red : reds (site w i).log + 1 < m.stamp.red → (u : Message) × (u.stamp.red ≡ reds (site w i).log + 1) × WaitsFor w i m u
  of_red l =
      let n = reds (site w i).log + 1 in
      let top = s.reds.small m m_sent in
      let f = s.reds.each n (omega arith) (omega (arith, l, top)) in (
        f.0,
        f.2,
        record {
          sent = f.1;
          missing = λ q. let g = red_within (reverse (site w i).log) f.0 released (has_back f.0 (site w i).log q) in let b = reds_reverse (site w i).log in
              let e = f.2 in absurd (omega (arith, g, b, e));
          before = inr (let e = f.2 in (omega (arith, e), omega (arith, e, l)));
        },
      )

  -- among the first n sites
  search_sites : (n : ℕ) → ((j : ℕ) → j < n → dep m j ≤ counted j (site w i).log) ⊎ ((j : ℕ) × (counted j (site w i).log < dep m j))
  search_sites zero = inl (λ j l. absurd (omega arith))
  search_sites (suc n) = ⊎_elim
      (λ l. inr (n, l))
      (λ l. ⊎_elim (λ all. inl (λ j k. ⊎_elim (λ e. subst (λ q. dep m q ≤ counted q (site w i).log) (sym e) l) (λ d. all j (below j n k d)) (cases_eq j n)))
      (λ one. inr one) (search_sites n))
      (cases_lt (counted n (site w i).log) (dep m n))
    where
      below : (j n : ℕ) → j < suc n → (j ≡ n → ⊥) → j < n
      below j n k d = ⊎_elim (λ l. l) (λ l. absurd (d (omega arith))) (cases_lt j n)

  -- who counts nothing that isn't there, and no later red number, is ready
  would_be_ready : ((j : ℕ) → dep m j ≤ counted j (site w i).log) → m.stamp.red ≤ reds (site w i).log + 1 → Ready (site w i).log m
  would_be_ready all low = record {
    next = ⊎_elim
        (λ l. let o = own w m s m_sent in let c = all m.stamp.id.site in omega arith)
        (λ l. absurd (new (there w (reverse (site w i).log) m s released (s.good i).log_sent m_sent
        (let b = counted_reverse m.stamp.id.site (site w i).log in omega arith))))
        (cases_lt (counted m.stamp.id.site (site w i).log) m.stamp.id.seq);
    released = λ j n. all j;
    number = λ p. ⊎_elim (λ l. omega arith) (λ l. absurd (new (red_there p l))) (cases_lt (reds (site w i).log) m.stamp.red);
  }
    where
      red_there : 0 < m.stamp.red → m.stamp.red ≤ reds (site w i).log → Has m (reverse (site w i).log)
      red_there p l =
          let b = reds_reverse (site w i).log in
          let f = found_red (reverse (site w i).log) m.stamp.red released p (omega arith) in
          let e = f.2 in
          subst (λ x. Has x (reverse (site w i).log)) (s.reds.single f.0 m ((s.good i).log_sent f.0 f.1) m_sent (omega arith) e) f.1

  one : ((j : ℕ) × (id : Id) × (awaited (site w i).log m j ≡ Some id)) ⊎ ((n : ℕ) × (awaited_red (site w i).log m ≡ Some n))
  one = ⊎_elim
      (λ l. inr (
        reds (site w i).log + 1,
        cond-true (nat_lt (reds (site w i).log + 1) m.stamp.red) (Some (reds (site w i).log + 1)) None (lt-ltb _ _ l),
      ))
      (λ low. ⊎_elim
      (λ all. absurd ((rests_at w i r).unready m h
      (would_be_ready (λ j. ⊎_elim (λ k. all j k) (λ k. subst (λ q. q ≤ counted j (site w i).log) (sym (get_or_past m.stamp.deps j 0 k)) (omega arith))
      (cases_lt j (length m.stamp.deps))) low)))
      (λ k. inl (
        k.0,
        record { site = k.0; seq = counted k.0 (site w i).log + 1 },
        cond-true (nat_lt (counted k.0 (site w i).log) (dep m k.0)) (Some (record { site = k.0; seq = counted k.0 (site w i).log + 1 })) None (lt-ltb _ _ k.1),
      ))
      (search_sites (length m.stamp.deps)))
      (cases_lt (reds (site w i).log + 1) m.stamp.red)

  pub names : NamesWhatIsAwaited w i m
  names = record {
    some = one;
    ids = λ j id e.
        let a = some_of (nat_lt (counted j (site w i).log) (dep m j)) (record { site = j; seq = counted j (site w i).log + 1 }) e in
        let f = of_site j (ltb-true (counted j (site w i).log) (dep m j) a.0) in
        (f.0, f.1 ∙ a.1, f.2);
    red = λ n e.
        let a = some_of (nat_lt (reds (site w i).log + 1) m.stamp.red) (reds (site w i).log + 1) e in
        let f = of_red (ltb-true (reds (site w i).log + 1) m.stamp.red a.0) in
        (f.0, f.1 ∙ a.1, f.2);
  }

pub waiting_is_explained : WaitingIsExplained
waiting_is_explained n keep events some few a i m h = names (run keep events (start n)) (sound_run events some few a) (rests_run events some few a) i m h

-- ---- what sending what is lacking leads to: in a run, and of the tables

-- ---- lists that pass the checks
checked_take : (before : List Core) (xs ys : List Message) → CheckedFrom before (cores (xs ++ ys)) → CheckedFrom before (cores xs)
checked_take before [] ys c = tt
checked_take before (m ∷ xs) ys c = (c.0, checked_take (before ++ core m ∷ []) xs ys c.1)

last_follows : (before : List Core) (xs : List Message) (m : Message) → CheckedFrom before (cores (xs ++ m ∷ [])) → Follows (before ++ cores xs) (core m)
last_follows before [] m c = subst (λ q. Follows q (core m)) (search Rattle.std.proofs.Common.rules) c.0
last_follows before (x ∷ xs) m c = subst (λ q. Follows q (core m)) (append_assoc before (core x ∷ []) (cores xs)) (last_follows _ xs m c.1)

abbrev IsChecked : List Message → Type 0
IsChecked log = IsReleased log × Checked (cores log)

checked_prefix : (front rest : List Message) (m : Message) → IsChecked (front ++ m ∷ rest) → IsChecked (front ++ m ∷ [])
checked_prefix front rest m c = (
  released_prefix front rest m c.0,
  checked_take [] (front ++ m ∷ []) rest (subst (λ q. Checked (cores q)) (sym (append_assoc front (m ∷ []) rest)) c.1),
)

checked_apart : (front rest : List Message) (m : Message) → IsChecked (front ++ m ∷ rest) → Has m rest → ⊥
checked_apart front rest m c = apart_front front rest m c.0

module _ (all : Message → Type 0) (ids : (u v : Message) → all u → all v → u.stamp.id.site ≡ v.stamp.id.site → u.stamp.id.seq ≡ v.stamp.id.seq → u ≡ v)
    (red_once : (u v : Message) → all u → all v → 0 < u.stamp.red → u.stamp.red ≡ v.stamp.red → u ≡ v) (formed : (v : Message) → all v → IsFormed v) where
  positive : (m : Message) → all m → is_red m.shadow ≡ true → 0 < m.stamp.red
  positive m a e = ltb-true 0 m.stamp.red (sym (formed m a).colour ∙ e)

  one_red : (past : List Message) → ((x : Message) → Has x past → all x) → OneRed (cores (reverse past))
  one_red past on c d h k e f g =
      let u = of_back c past h in
      let v = of_back d past k in
      sym u.2 ∙ ap core (red_once u.0 v.0 (on u.0 u.1) (on v.0 v.1) (positive u.0 (on u.0 u.1) (ap (λ (x : Core). is_red x.shadow) u.2 ∙ e))
      (ap (λ (x : Core). x.red) u.2 ∙ g ∙ sym (ap (λ (x : Core). x.red) v.2))) ∙ v.2

  -- what follows some messages follows a list that has those, and not it; both newest first
  follows_on : {front past : List Message} (m : Message) → Released (m ∷ front) → Released (m ∷ past) → ((x : Message) → Has x past → all x) → all m
      → ((x : Message) → Has x front → Has x past) → Follows (cores (reverse front)) (core m) → Follows (cores (reverse past)) (core m)
  follows_on {front} {past} m rf rp on a within f = record {
    new_id = new_here rp.1 rp.0;
    next_red = number_is _ _ _ (formed m a).colour (λ l. rp.0.number l ∙ ap (λ n. n + 1) (sym (count_reds past (λ x h. (formed x (on x h)).colour))));
    fits = fits_on (cores (reverse front)) (cores (reverse past)) members (one_each_back front rf.1) (one_each_back past rp.1) (one_red past on) back f.fits;
    limits = f.limits;
  }
    where
      members : (c : Core) → Member (cores (reverse front)) c → Member (cores (reverse past)) c
      members c h = let u = of_back c front h in subst (Member (cores (reverse past))) u.2 (to_back u.0 past (within u.0 u.1))

      back : is_red m.shadow ≡ true → (c : Core) → Member (cores (reverse past)) c → is_red c.shadow ≡ true → Member (cores (reverse front)) c
      back e c h q =
          let u = of_back c past h in
          let p = positive u.0 (on u.0 u.1) (ap (λ (x : Core). is_red x.shadow) u.2 ∙ q) in
          let k = red_within past u.0 rp.1 u.1 in
          let pm = positive m a e in
          let nf = rf.0.number pm in
          let np = rp.0.number pm in
          let g = found_red front u.0.stamp.red rf.1 p (omega arith) in
          let same : g.0 ≡ u.0 = (let z = g.2 in red_once g.0 u.0 (on g.0 (within g.0 g.1)) (on u.0 u.1) (omega arith) z) in
          subst (Member (cores (reverse front))) (ap core same ∙ u.2) (to_back g.0 front g.1)

  push_checked : (front log : List Message) (m : Message) → IsChecked (front ++ m ∷ []) → IsChecked log → ((x : Message) → Has x log → all x) → all m
      → ((x : Message) → Has x front → Has x log) → (Has m log → ⊥) → IsChecked (log ++ m ∷ [])
  push_checked front log m cf cl on a within new =
      let r = push_released all ids red_once front log m cf.0 cl.0 on a within new in
      let f : Follows (cores (reverse (reverse front))) (core m) = subst (λ q. Follows (cores q) (core m)) (sym (reverse-reverse front))
      (last_follows [] front m cf.1) in
      let g = follows_on m (subst Released (reverse_push front m) cf.0) (subst Released (reverse_push log m) r) (λ x h. on x (has_reverse x log h)) a
      (λ x h. has_back x log (within x (has_reverse x front h))) f in
      (r, subst Checked (sym (cores_push log m)) (checked_end [] (cores log) cl.1 (subst (λ q. Follows (cores q) (core m)) (reverse-reverse log) g)))

module _ (logs : List Log) (f : AreFaultless logs) (formed : (v : Message) → Logged logs v → IsFormed v) where
  log_checked : (log : Log) → Has log logs → IsChecked log.messages
  log_checked log h = (
    log_released logs f log h,
    subst (λ l. Checked (cores l)) (reverse-reverse log.messages)
        (checked_from log.site (reverse log.messages) (f.ordered log h) (f.fitting log h) (λ v g. formed v ((log, h), has_reverse v log.messages g))),
  )

  merged_checked : IsChecked (merged logs)
  merged_checked = (go_logs (Logged logs) f.clash IsChecked checked_prefix checked_apart (push_checked (Logged logs) f.clash f.red_once formed) logs []
      (λ log h. (log_checked log h, λ x k. ((log, h), k))) (tt, tt) (λ x h. absurd h)).fine

  completed_checked : (log : Log) → Has log logs → IsChecked (completed logs log.messages)
  completed_checked log h = let on : (x : Message) → Has x log.messages → Logged logs x = λ x k. ((log, h), k) in
      fill (Logged logs) f.clash IsChecked checked_prefix checked_apart (push_checked (Logged logs) f.clash f.red_once formed) log.messages []
      (merged logs) merged_checked (of_merged logs f) (log_checked log h) on on (λ x k. k) (λ x k. absurd k) (λ x k l. l)

  completed_same : (a b : Log) → Has a logs → Has b logs → length (completed logs a.messages) ≤ 2 ^ 32 → length (completed logs b.messages) ≤ 2 ^ 32
      → (fold_of (cores (completed logs a.messages))).tables ≡ (fold_of (cores (completed logs b.messages))).tables
  completed_same a b ha hb la lb =
      let x = completed logs a.messages in
      let y = completed logs b.messages in
      let ca = cores_length x in
      let cb = cores_length y in
      equal_sets_equal_tables (cores x) (cores y) (completed_checked a ha).1 (completed_checked b hb).1 (omega (arith, la, ca)) (omega (arith, lb, cb))
      (same_cores x y (λ m. (
        λ c. contains y m ((at b hb m).1 ((at a ha m).0 (contained x m c))),
        λ c. contains x m ((at a ha m).1 ((at b hb m).0 (contained y m c))),
      )))
    where
      at : (log : Log) (h : Has log logs) (m : Message) → (Has m (completed logs log.messages) → Logged logs m)
          × (Logged logs m → Has m (completed logs log.messages))
      at log h m = completed_all logs f log.messages (log_released logs f log h) (λ x k. ((log, h), k)) m

pub completed_tables_are_equal : CompletedTablesAreEqual
completed_tables_are_equal sites logs among f a b ha hb =
    completed_same logs f (λ v g. message_formed (among v g).0) a b ha hb (short a ha) (short b hb)
  where
    short : (log : Log) → Has log logs → length (completed logs log.messages) ≤ 2 ^ 32
    short log h =
        let on : (x : Message) → Has x log.messages → Logged logs x = λ x k. ((log, h), k) in
        let r = log_released logs f log h in
        log_short (completed logs log.messages) (completed_released logs f log.messages r on)
        (λ v k. (among v ((completed_all logs f log.messages r on v).0 (has_reverse v (completed logs log.messages) k))).0)

-- ---- of a run
module _ (w : World) (s : Sound w) (logs : List Log) (of : (log : Log) → Has log logs → WasLogOf w log) where
  pub was_sent : (v : Message) → Logged logs v → Sent w v
  was_sent v a = logged w s a.0.0.site v (subst (Has v) (of a.0.0 a.0.1).messages (has_left v a.0.0.messages (of a.0.0 a.0.1).later a.1))

  faultless : AreFaultless logs
  faultless = run_faultless w s logs of

  -- none has more than were sent
  few : (own : List Message) → Released (reverse own) → ((x : Message) → Has x own → Logged logs x) → length (completed logs own) ≤ message_count w.sent
  few own r on =
      let all = completed logs own in
      let l : length (reverse all) ≤ length (messages_of w.sent) = no_longer _ _ (singly_released _ (completed_released logs faultless own r on))
      (λ x h. message_in x _ (was_sent x ((completed_all logs faultless own r on x).0 (has_reverse x all h)))) in
      let c = messages_length w.sent in
      let b = length-reverse all in
      omega arith

  completes_in_run : (log : Log) → Has log logs → log.messages ≡ (site w log.site).log → (site w log.site).waiting ≡ [] → (keep : ℕ) →
      message_count w.sent ≤ keep
      → Completes logs (place keep w log.site) (site w log.site)
  completes_in_run log h e wt keep room = completes logs faultless (s.good log.site).released on wt others
      (let l = few (site w log.site).log (s.good log.site).released on in omega arith)
    where
      on : (x : Message) → Has x (site w log.site).log → Logged logs x
      on x k = ((log, h), subst (Has x) (sym e) k)

      others : (m : Message) → Has m (lacked logs (site w log.site).log) → m.stamp.id.site ≢ log.site
      others m k o =
          let l = of_lacked logs faultless (site w log.site).log {m = m} k in
          l.1 (subst (λ i. Has m (site w i).log) o (has_reverse m (site w m.stamp.id.site).log (s.home.home m (was_sent m l.0))))

pub lack_is_released_in_runs : LackIsReleasedInRuns
lack_is_released_in_runs n keep events some few a logs of log h e wt kept room =
    completes_in_run (run keep events (start n)) (sound_run {n = n} {keep = keep} events some few a) logs of log h e wt kept room

-- ---- one round
module _ (n keep : ℕ) (few : keep ≤ 1000000) (w : World) (s : Sound w) (r : AllRest w) (size : length w.sites ≡ n) (room : message_count w.sent ≤ keep)
    (logs : List Log) (of : AreLogsOfAll n w logs) where
  logged_all : (i : ℕ) → i < n → (x : Message) → Has x (site w i).log → Logged logs x
  logged_all i l x h = let k = of.now i l in ((k.0, k.1), subst (Has x) (sym k.2) h)

  has_all : (es : List Event) (i : ℕ) → AreDeliveries es → i < n → BringsLack n w logs es → HasAll (run keep es w) i
  has_all es i d l brings m a = at (is_among (site w i).log m) refl
    where
      b : Sent w m
      b = subst (λ ps. Has (Packet.Msg m) ps) (deliveries_sent keep es w d) a

      at : (t : Bool) → is_among (site w i).log m ≡ t → Has m (site (run keep es w) i).log ⊎ Has m (site (run keep es w) i).waiting
      at true t =
          let k = number_of (Packet.Msg m) w.sent b in
          let h : Has m (site w i).log = among_in _ (λ u v. unique {u = u} {v = v} s) m _ b (λ x q. (s.good i).log_sent x (has_back x _ q)) t in
          delivered keep few es w i k.0 m d s r room (omega (arith, size, l)) k.1 b (inr (inl h))
      at false t =
          let o = s.home.origin m b in
          let here = logged_all m.stamp.id.site (omega (arith, size, o)) m (has_reverse m (site w m.stamp.id.site).log (s.home.home m b)) in
          let k = brings i l m (in_lacked logs (run_faultless w s logs of.were) (site w i).log (logged_all i l) {m = m} here (unlisted m (site w i).log t)) in
          delivered keep few es w i k.0 m d s r room (omega (arith, size, l)) k.1 b (inl k.2)

pub one_round_converges : OneRoundConverges
one_round_converges n keep events deliveries some few a d room logs of brings i j li lj =
    let w = run keep events (start n) in
    let v = run keep deliveries w in
    let sw : Sound w = sound_run {n = n} {keep = keep} events some few a in
    let rw : AllRest w = rests_run {n = n} {keep = keep} events some few a in
    let size : length w.sites ≡ n = run_sites keep events (start n) ∙ start_sites n in
    let es = are_events (length w.sites) deliveries d in
    let s : Sound v = run_keeps {keep = keep} few deliveries {w = w} es sw in
    let r : AllRest v = rest_run {keep = keep} few deliveries {w = w} es sw rw in
    let hi = released_all v s r i (has_all n keep few w sw rw size room logs of deliveries i d li brings) in
    let hj = released_all v s r j (has_all n keep few w sw rw size room logs of deliveries j d lj brings) in
    (hi, hj, same_tables {keep = keep} i j few s (room_run deliveries w (room_of n keep events)) hi hj)

-- ---- where messages wait, what is lacking is released too, as it arrives or before it

taken_of : {n : ℕ} → 1 ≤ n → IsTakenIn (Ok (arrival_of n))
taken_of {n} l = subst (λ b. IsTakenIn (Ok (cond b Arrival.Held (Arrival.Released n)))) (sym (ne_eqb n 0 (λ e. absurd (omega (arith, l, e))))) l

abbrev state : ℕ → World → ℕ → Message → Replica
state keep w i m = (arrived (place keep w i) (site w i) m).0

-- m is ready after the log of site i, which has what stood before m somewhere; newest first
module _ (keep : ℕ) (few : keep ≤ 1000000) (w : World) (s : Sound w) (r : AllRest w) (i : ℕ) (l : i < length w.sites) (room : message_count w.sent ≤ keep)
    (m : Message) (a : Sent w m) (front : List Message) (rm : Released (m ∷ front)) (within : (x : Message) → Has x front → Has x (site w i).log) where
  logged_of : {v : World} → Sound v → AllRest v → Sent v m → ((x : Message) → Has x front → Has x (site v i).log)
      → Has m (site v i).log ⊎ Has m (site v i).waiting → Has m (site v i).log
  logged_of {v} sv rv av on h = ⊎_elim (λ q. q) (λ q. absurd ((rests_at v i rv).unready m q (ready_forth _ (ready_on _ (λ x y. unique sv) sv.reds.single rm
      (sv.good i).released (sv.good i).log_sent av (λ x y. has_back x _ (on x y)) (λ y. (rests_at v i rv).apart.not_logged m q (has_reverse m _ y)))))) h

  -- the packet, and the world after its delivery
  number : (k : ℕ) × (packet_at w.sent k ≡ Some (Packet.Msg m))
  number = number_of (Packet.Msg m) w.sent a

  pub next : World
  next = (happens keep w (Deliver i number.0)).0

  pub next_sound : Sound next
  unfolding next
  next_sound = event_keeps keep few w (Deliver i number.0) tt s

  pub next_rest : AllRest next
  unfolding next
  next_rest = rest_event keep (Deliver i number.0) s r

  pub next_sent : next.sent ≡ w.sent
  unfolding next
  next_sent = deliver_sent keep w i number.0

  pub next_sites : length next.sites ≡ length w.sites
  unfolding next
  next_sites = event_sites keep w (Deliver i number.0)

  pub next_site : site next i ≡ state keep w i m
  unfolding next
  next_site = cond_both (nat_lt i (length w.sites)) (coming keep w i (packet_at w.sent number.0)) (w, Err BadEvent)
      (λ (p : World × Result Happened Refusal). site p.0 i ≡ state keep w i m) (λ _. subst (λ o. site (coming keep w i o).0 i ≡ state keep w i m) (sym number.1)
      (set_at (λ q y. q ≡ i → y ≡ state keep w i m) w.sites (opening_at 1) l (λ _. refl) (λ q n e. absurd (n e)) i refl))
      (λ b. absurd (true≢false (sym (lt-ltb i (length w.sites) l) ∙ b)))

  pub stays : (x : Message) → Has x (site w i).log → Has x (state keep w i m).log
  stays x h =
      cond_both (not_ours (place keep w i) (site w i) m) (site w i, Err NotOurs) _ (λ (p : Replica × Result Arrival Refusal). Has x p.0.log) (λ _. h)
      (λ _. cond_both (is_repeat (site w i) m) (site w i, Ok Arrival.Repeat) _ (λ (p : Replica × Result Arrival Refusal). Has x p.0.log) (λ _. h)
      (λ _. cond_both (is_full keep (site w i)) (site w i, Err Full) _ (λ (p : Replica × Result Arrival Refusal). Has x p.0.log) (λ _. h)
      (λ _. has_reverse x (after_came (site w i) m).log
      (settle_grows x (length ((site w i).waiting ++ m ∷ [])) (site w i).log ((site w i).waiting ++ m ∷ []) (has_back x (site w i).log h)))))

  pub comes : Has m (state keep w i m).log
  comes = subst (λ (q : Replica). Has m q.log) next_site (logged_of next_sound next_rest (subst (λ ps. Has (Packet.Msg m) ps) (sym next_sent) a)
      (λ x h. subst (λ (q : Replica). Has x q.log) (sym next_site) (stays x (within x h)))
      (subst (λ (q : Replica). Has m q.log ⊎ Has m q.waiting) (sym next_site) (arrived_had w s r i m a room)))

  too_many : is_repeat (site w i) m ≡ false → is_full keep (site w i) ≡ true → ⊥
  too_many new e =
      let k = leb-true keep (length (site w i).log + length (site w i).waiting) e in let f = fewer w s r i m a new in omega arith

  released_now : not_ours (place keep w i) (site w i) m ≡ false → is_repeat (site w i) m ≡ false → is_full keep (site w i) ≡ false
      → 1 ≤ length (after_came (site w i) m).log - length (site w i).log
  released_now ea eb ec =
      let t = (after_came (site w i) m).log in
      let same : state keep w i m ≡ after_came (site w i) m = ap (λ (p : Replica × Result Arrival Refusal). p.0)
      (is_answer (site w i) (after_came (site w i) m)
      (length t - length (site w i).log) ea eb ec) in
      let q = or_parts (list_any (λ u. same_id m.stamp.id u.stamp.id) (site w i).log) (list_any (λ u. same_id m.stamp.id u.stamp.id) (site w i).waiting) eb in
      let here : Has m t = subst (λ (y : Replica). Has m y.log) same comes in
      let n : length (m ∷ reverse (site w i).log) ≤ length t = no_longer (m ∷ reverse (site w i).log) t
      ((λ h. unlisted m (site w i).log q.0 (has_reverse m (site w i).log h)), singly_released (reverse (site w i).log) (s.good i).released)
      (λ x h. ⊎_elim (λ e. subst (λ y. Has y t) (sym e) here) (λ k. subst (λ (y : Replica). Has x y.log) same (stays x (has_reverse x (site w i).log k))) h) in
      let b = length-reverse (site w i).log in
      omega (arith, n, b)

  pub answer : IsTakenIn (arrived (place keep w i) (site w i) m).1
  answer = cond_both _ _ _ (λ (p : Replica × Result Arrival Refusal). IsTakenIn p.1) (λ e. absurd (is_ours keep i m s a e))
      (λ ea. cond_both _ _ _ (λ (p : Replica × Result Arrival Refusal). IsTakenIn p.1) (λ _. tt)
      (λ eb. cond_both _ _ _ (λ (p : Replica × Result Arrival Refusal). IsTakenIn p.1) (λ e. absurd (too_many eb e)) (λ ec. taken_of (released_now ea eb ec))))

abbrev Taken : Place → Replica → List Message → List Message → Type 0
Taken p s front more = ((a : Result Arrival Refusal) → Has a (answers_to p s more) → IsTakenIn a)
    × ((x : Message) → Has x front ⊎ Has x more → Has x (after_all p s more).log)

all_taken : (keep : ℕ) → keep ≤ 1000000 → (more front : List Message) (w : World) (i : ℕ) (p : Place) → Sound w → AllRest w → i < length w.sites
    → message_count w.sent ≤ keep → Released (reverse (front ++ more)) → ((x : Message) → Has x more → Sent w x)
    → ((x : Message) → Has x front → Has x (site w i).log) → place keep w i ≡ p → Taken p (site w i) front more
all_taken keep few [] front w i p s r l room rel on within e = ((λ a h. absurd h), (λ x h. ⊎_elim (λ k. within x k) (λ k. absurd k) h))
all_taken keep few (m ∷ more) front w i p s r l room rel on within e =
    let a : Sent w m = on m (inl refl) in
    let rm = released_front front more m rel in
    let inside : (x : Message) → Has x (reverse front) → Has x (site w i).log = λ x h. within x (has_reverse x front h) in
    let v = next keep few w s r i l room m a (reverse front) rm inside in
    let there = next_site keep few w s r i l room m a (reverse front) rm inside in
    let sent = next_sent keep few w s r i l room m a (reverse front) rm inside in
    let sites = next_sites keep few w s r i l room m a (reverse front) rm inside in
    let grown : (x : Message) → Has x (front ++ m ∷ []) → Has x (site v i).log = λ x h. subst (λ (q : Replica). Has x q.log) (sym there)
    (⊎_elim (λ k. stays keep few w s r i l room m a (reverse front) rm inside x (within x k))
    (λ k. subst (λ y. Has y (state keep w i m).log) (sym k) (comes keep few w s r i l room m a (reverse front) rm inside)) (push_cases x m front h)) in
    let rest = all_taken keep few more _ v i _ (next_sound keep few w s r i l room m a _ rm _) (next_rest keep few w s r i l room m a _ rm _)
    (subst (λ n. i < n) (sym sites) l) (subst (λ ps. message_count ps ≤ keep) (sym sent) room) (released_on front more m rel)
    (λ x h. subst (λ ps. Has (Packet.Msg x) ps) (sym sent) (on x (inr h))) grown (λ j. record { site = i; sites = sites j; keep = keep }) in
    let moved : Taken (place keep w i) (state keep w i m) (front ++ m ∷ []) more = subst (λ q. Taken (place keep w i) q (front ++ m ∷ []) more) there rest in
    subst (λ q. Taken q (site w i) front (m ∷ more)) e (
      (λ b h. ⊎_elim (λ k. subst IsTakenIn (sym k) (answer keep few w s r i l room m a (reverse front) rm inside)) (λ k. moved.0 b k) h),
      (λ x h. ⊎_elim (λ k. moved.1 x (inl (has_left x front _ k)))
          (λ k. ⊎_elim (λ q. moved.1 x (inl (subst (λ y. Has y (front ++ m ∷ [])) (sym q) (has_right m front _ (inl refl))))) (λ q. moved.1 x (inr q)) k) h),
    )

pub lack_never_waits : LackNeverWaits
lack_never_waits n keep events some few a logs of log h l e kept small room =
    let w = run keep events (start n) in
    let s : Sound w = sound_run events some few a in
    let f = run_faultless w s logs of in
    let on : (x : Message) → Has x (site w log.site).log → Logged logs x = λ x k. ((log, h), subst (Has x) (sym e) k) in
    let own = (site w log.site).log in
    let t = all_taken kept small (lacked logs own) own w log.site (place kept w log.site) s (rests_run events some few a) l room
    (completed_released logs f own (s.good log.site).released on) (λ x k. was_sent w s logs of x (of_lacked logs f own k).0) (λ x k. k) refl in (
      t.0,
      (λ m b. t.1 m (has_append m own (lacked logs own) ((completed_all logs f own (s.good log.site).released on m).1 b))),
    )
