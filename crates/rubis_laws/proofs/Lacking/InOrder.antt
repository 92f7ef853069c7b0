-- What a log lacks of others: going through these in order, each message is ready at once.
use Rattle.std.proofs.lemmas.Bool.{lt-leb}
use Rattle.rubis_laws.proofs.Common.{◌≡◌, ◌∙◌, ℕ, ◌≤◌, ◌<◌, Bool, true, false, List, [], ◌∷◌, ◌++◌, length, length-append, append_assoc, append-nil, refl, sym}
use Rattle.rubis_laws.proofs.Common.{ap, subst, inl, inr, ⊎_elim, arith, ◌≢◌, ◌⊎◌, ◌↔◌, cond, not, reverse, filter, map, ◌==◌, ◌-◌, ◌&&◌, nat_lt, Option}
use Rattle.rubis_laws.proofs.Common.{Result, Ok, Err, list_any, flat_map, cond_both, or_cases, false_from_ne_true, true≢false, nat_tests, reverse-append}
use Rattle.rubis_laws.proofs.Common.{same_id, Refusal, Full, NotOurs, Message, Arrival, AreFaultless, Logged, after_all, answers_to, is_among, merged, lacked}
use Rattle.rubis_laws.proofs.Common.{completed, Completes, Log, Released, StandsBefore, Has, Ready, counted, settle, Rest, Release, Place, Replica, is_repeat}
use Rattle.rubis_laws.proofs.Common.{after_came, arrival_of, arrived, has_left, has_right, has_append, has_last, has_back, has_reverse, push_cases, clash}
use Rattle.rubis_laws.proofs.Common.{reverse_push}
use Rattle.rubis_model.specs.Lack.{firsts, LacksTheRest, LackIsReleased}
use Rattle.rubis_model.proofs.OneOutcome.{settles_one}
use Rattle.rubis_laws.proofs.Runs.Delivering.{ready_on, ready_forth, by_id}
use Rattle.rubis_laws.proofs.Runs.Written.{unlisted}
use Rattle.rubis_laws.proofs.Order.RunsInOrder.{behind_from, distinct_back}
use Rattle.rubis_laws.proofs.Audits.AuditedOrder.{released_all}

-- ---- lists
pub released_drop : (newer older : List Message) → Released (newer ++ older) → Released older
released_drop [] older r = r
released_drop (m ∷ newer) older r = released_drop newer older r.1

pub released_apart : (newer older : List Message) (m : Message) → Released (newer ++ m ∷ older) → Has m newer → ⊥
released_apart [] older m r h = h
released_apart (y ∷ newer) older m r (inl e) = clash y _ m r (has_right m newer _ (inl refl)) (ap (λ (x : Message). x.stamp.id.site) (sym e))
    (ap (λ (x : Message). x.stamp.id.seq) (sym e))
released_apart (y ∷ newer) older m r (inr h) = released_apart newer older m r.1 h

pub released_on : (front rest : List Message) (m : Message) → Released (reverse (front ++ m ∷ rest)) → Released (reverse ((front ++ m ∷ []) ++ rest))
released_on front rest m r = subst (λ q. Released (reverse q)) (sym (append_assoc front (m ∷ []) rest)) r

-- around m, newest first
pub reverse_middle : (front back : List Message) (m : Message) → reverse (front ++ m ∷ back) ≡ reverse back ++ m ∷ reverse front
reverse_middle front back m =
    reverse-append front (m ∷ back) ∙ ap (λ q. q ++ reverse front) (reverse-append (m ∷ []) back) ∙ append_assoc (reverse back) (m ∷ []) (reverse front)

pub released_front : (front rest : List Message) (m : Message) → Released (reverse (front ++ m ∷ rest)) → Released (m ∷ reverse front)
released_front front rest m r = released_drop (reverse rest) (m ∷ reverse front) (subst Released (reverse_middle front rest m) r)

pub apart_front : (front rest : List Message) (m : Message) → Released (reverse (front ++ m ∷ rest)) → Has m rest → ⊥
apart_front front rest m r h = released_apart (reverse rest) (reverse front) m (subst Released (reverse_middle front rest m) r) (has_back m rest h)

pub filter_in : {A : Type 0} (test : A → Bool) (x : A) (xs : List A) → Has x (filter test xs) → Has x xs × (test x ≡ true)
filter_in test x [] h = absurd h
filter_in {A} test x (y ∷ xs) h = cond_both _ _ _ (λ (q : List A). Has x q → Has x (y ∷ xs) × (test x ≡ true)) (λ t k. ⊎_elim (λ e. (inl e, ap test e ∙ t))
    (λ k. let f = filter_in test x xs k in (inr f.0, f.1)) k) (λ _ k. let f = filter_in test x xs k in (inr f.0, f.1)) h

pub in_filter : {A : Type 0} (test : A → Bool) (x : A) (xs : List A) → Has x xs → test x ≡ true → Has x (filter test xs)
in_filter test x [] h t = absurd h
in_filter {A} test x (y ∷ xs) h t = cond_both _ _ _ (λ (q : List A). Has x q) (λ _. ⊎_elim (λ e. inl e) (λ k. inr (in_filter test x xs k t)) h)
    (λ f. ⊎_elim (λ e. absurd (true≢false (sym t ∙ ap test e ∙ f))) (λ k. in_filter test x xs k t) h)

pub before_right : (u v : Message) (xs ys : List Message) → StandsBefore u v ys → StandsBefore u v (xs ++ ys)
before_right u v [] ys h = h
before_right u v (x ∷ xs) ys h = inr (before_right u v xs ys h)

firsts_append : (before xs ys : List Message) → firsts before (xs ++ ys) ≡ firsts before xs ++ firsts (before ++ firsts before xs) ys
firsts_append before [] ys = ap (λ q. firsts q ys) (sym (append-nil before))
firsts_append before (m ∷ xs) ys = cond_both _ _ _ (λ (q : List Message). cond (is_among before m) (firsts before (xs ++ ys)) (m ∷ firsts (before ++ m ∷ [])
    (xs ++ ys)) ≡ q ++ firsts (before ++ q) ys) (λ t. ap (λ b. cond b (firsts before (xs ++ ys)) (m ∷ firsts (before ++ m ∷ []) (xs ++ ys))) t ∙ firsts_append _
    xs ys) (λ t. ap (λ b. cond b (firsts before (xs ++ ys)) (m ∷ firsts (before ++ m ∷ []) (xs ++ ys))) t ∙ ap (λ q. m ∷ q)
    (firsts_append _ xs ys ∙ ap (λ q. firsts (before ++ m ∷ []) xs ++ firsts q ys) (append_assoc before (m ∷ []) (firsts (before ++ m ∷ []) xs))))

-- ---- of messages of which an id and a red number is one's
module _ (all : Message → Type 0) (ids : (u v : Message) → all u → all v → u.stamp.id.site ≡ v.stamp.id.site → u.stamp.id.seq ≡ v.stamp.id.seq → u ≡ v)
    (red_once : (u v : Message) → all u → all v → 0 < u.stamp.red → u.stamp.red ≡ v.stamp.red → u ≡ v) where
  -- one message at the end
  pub released_push : (front log : List Message) (m : Message) → Released (m ∷ reverse front) → Released (reverse log)
      → ((x : Message) → Has x log → all x) → all m → ((x : Message) → Has x front → Has x log) → (Has m log → ⊥) → Released (reverse (log ++ m ∷ []))
  released_push front log m rm rl on a within new = subst Released (sym (reverse_push log m)) (
    ready_on all ids red_once rm rl (λ x h. on x (has_reverse x log h)) a (λ x h. has_back x log (within x (has_reverse x front h)))
        (λ h. new (has_reverse m log h)),
    rl,
  )

pub among_in : (all : Message → Type 0) → ((u v : Message) → all u → all v → u.stamp.id.site ≡ v.stamp.id.site → u.stamp.id.seq ≡ v.stamp.id.seq → u ≡ v)
    → (m : Message) (ms : List Message) → all m → ((x : Message) → Has x ms → all x) → is_among ms m ≡ true → Has m ms
among_in all ids m ms a on t =
    let f = by_id m ms t in
    subst (λ x. Has x ms) (sym (ids m f.0 a (on f.0 f.1) (ap (λ x. x.site) f.2) (ap (λ x. x.seq) f.2))) f.1

-- ---- lists that go on as others do: each message may stand at the end of every list that has all that stands before it
module _ (all : Message → Type 0) (ids : (u v : Message) → all u → all v → u.stamp.id.site ≡ v.stamp.id.site → u.stamp.id.seq ≡ v.stamp.id.seq → u ≡ v)
    (Fine : List Message → Type 0)
    (prefix : (front rest : List Message) (m : Message) → Fine (front ++ m ∷ rest) → Fine (front ++ m ∷ []))
    (apart : (front rest : List Message) (m : Message) → Fine (front ++ m ∷ rest) → Has m rest → ⊥)
    (push : (front log : List Message) (m : Message) → Fine (front ++ m ∷ []) → Fine log → ((x : Message) → Has x log → all x) → all m
    → ((x : Message) → Has x front → Has x log) → (Has m log → ⊥) → Fine (log ++ m ∷ [])) where
  fine_on : (front rest : List Message) (m : Message) → Fine (front ++ m ∷ rest) → Fine ((front ++ m ∷ []) ++ rest)
  fine_on front rest m r = subst Fine (sym (append_assoc front (m ∷ []) rest)) r

  -- the second list is what the first comes to with more messages
  pub record Grown (before more after : List Message) : Type 0 where
    pub fine : Fine after
    pub old : (x : Message) → Has x before → Has x after
    pub new : (x : Message) → Has x more → Has x after
    pub only : (x : Message) → Has x after → Has x before ⊎ Has x more

  abbrev Goes : List Message → List Message → Type 0
  Goes front rest = (b : List Message) → Fine b → ((x : Message) → Has x b → all x) → ((x : Message) → Has x front → Has x b)
      → Grown b rest (b ++ firsts b rest)

  -- the rest of a log, of which what stands in front is there
  go : (front rest before : List Message) → Fine (front ++ rest) → ((x : Message) → Has x rest → all x) → Fine before
      → ((x : Message) → Has x before → all x) → ((x : Message) → Has x front → Has x before) → Grown before rest (before ++ firsts before rest)
  go front [] before r on rb ob within = record {
    fine = subst Fine (sym (append-nil before)) rb;
    old = λ x h. has_left x before [] h;
    new = λ x h. absurd h;
    only = λ x h. ⊎_elim (λ l. inl l) (λ k. absurd k) (has_append x before [] h);
  }
  go front (m ∷ rest) before r on rb ob within = cond_both (is_among before m) (firsts before rest) (m ∷ firsts (before ++ m ∷ []) rest)
      (λ (q : List Message). Grown before (m ∷ rest) (before ++ q))
      (there (λ b rb ob within. go (front ++ m ∷ []) rest b (fine_on front rest m r) (λ x k. on x (inr k)) rb ob within))
      (fresh (λ b rb ob within. go (front ++ m ∷ []) rest b (fine_on front rest m r) (λ x k. on x (inr k)) rb ob within))
    where
      there : Goes (front ++ m ∷ []) rest → is_among before m ≡ true → Grown before (m ∷ rest) (before ++ firsts before rest)
      there next t =
          let h : Has m before = among_in all ids m before (on m (inl refl)) ob t in
          let g = next before rb ob (λ x k. ⊎_elim (λ l. within x l) (λ e. subst (λ y. Has y before) (sym e) h) (push_cases x m front k)) in record {
            fine = g.fine;
            old = g.old;
            new = λ x k. ⊎_elim (λ e. subst (λ y. Has y (before ++ firsts before rest)) (sym e) (g.old m h)) (λ l. g.new x l) k;
            only = λ x k. ⊎_elim (λ l. inl l) (λ l. inr (inr l)) (g.only x k);
          }

      fresh : Goes (front ++ m ∷ []) rest → is_among before m ≡ false → Grown before (m ∷ rest) (before ++ m ∷ firsts (before ++ m ∷ []) rest)
      fresh next t =
          let a = on m (inl refl) in
          let rp = push front before m (prefix front rest m r) rb ob a within (unlisted m before t) in
          let g = next (before ++ m ∷ []) rp
          (λ x k. ⊎_elim (λ l. ob x l) (λ e. subst all (sym e) a) (push_cases x m before k))
          (λ x k. ⊎_elim (λ l. has_left x before (m ∷ []) (within x l)) (λ e. subst (λ y. Has y (before ++ m ∷ [])) (sym e) (has_last m before))
          (push_cases x m front k)) in
          subst (Grown before (m ∷ rest)) (append_assoc before (m ∷ []) (firsts (before ++ m ∷ []) rest)) (record {
            fine = g.fine;
            old = λ x k. g.old x (has_left x before (m ∷ []) k);
            new = λ x k. ⊎_elim (λ e. subst (λ y. Has y ((before ++ m ∷ []) ++ firsts (before ++ m ∷ []) rest)) (sym e) (g.old m (has_last m before)))
                (λ l. g.new x l) k;
            only = λ x k. ⊎_elim (λ l. ⊎_elim (λ b. inl b) (λ e. inr (inl e)) (push_cases x m before l)) (λ l. inr (inr l)) (g.only x k);
          })

  -- one log after the other
  pub go_logs : (logs : List Log) (before : List Message) → ((log : Log) → Has log logs → Fine log.messages × ((x : Message) → Has x log.messages → all x))
      → Fine before → ((x : Message) → Has x before → all x)
      → Grown before (flat_map (λ (log : Log). log.messages) logs) (before ++ firsts before (flat_map (λ (log : Log). log.messages) logs))
  go_logs [] before each rb ob = record {
    fine = subst Fine (sym (append-nil before)) rb;
    old = λ x h. has_left x before [] h;
    new = λ x h. absurd h;
    only = λ x h. ⊎_elim (λ l. inl l) (λ k. absurd k) (has_append x before [] h);
  }
  go_logs (log ∷ logs) before each rb ob =
      let here = each log (inl refl) in
      let more = flat_map (λ (l : Log). l.messages) logs in
      let g = go [] log.messages before here.0 here.1 rb ob (λ x h. absurd h) in
      let mid = before ++ firsts before log.messages in
      let k = go_logs logs mid (λ l h. each l (inr h)) g.fine (λ x h. ⊎_elim (λ b. ob x b) (λ b. here.1 x b) (g.only x h)) in
      subst (Grown before (log.messages ++ more))
      (append_assoc before (firsts before log.messages) (firsts mid more) ∙ ap (λ q. before ++ q) (sym (firsts_append before log.messages more))) (record {
        fine = k.fine;
        old = λ x h. k.old x (g.old x h);
        new = λ x h. ⊎_elim (λ l. k.old x (g.new x l)) (λ l. k.new x l) (has_append x log.messages more h);
        only = λ x h. ⊎_elim (λ l. ⊎_elim (λ b. inl b) (λ b. inr (has_left x _ more b)) (g.only x l)) (λ l. inr (has_right x _ more l)) (k.only x h);
      })

  abbrev left : List Message → List Message → List Message
  left own rest = filter (λ m. not (is_among own m)) rest

  abbrev Fills : List Message → List Message → List Message → Type 0
  Fills own front rest = (log : List Message) → Fine log → ((x : Message) → Has x log → all x) → ((x : Message) → Has x own → Has x log)
      → ((x : Message) → Has x front → Has x log) → ((x : Message) → Has x rest → Has x log → Has x own) → Fine (log ++ left own rest)

  -- a log with those of a released list that it hasn't
  pub fill : (own front rest : List Message) {log : List Message} → Fine (front ++ rest) → ((x : Message) → Has x rest → all x) → Fine log
      → ((x : Message) → Has x log → all x) → ((x : Message) → Has x own → all x) → ((x : Message) → Has x own → Has x log)
      → ((x : Message) → Has x front → Has x log) → ((x : Message) → Has x rest → Has x log → Has x own) → Fine (log ++ filter (λ m. not (is_among own m)) rest)
  fill own front [] {log} r on rl ol oo keeps within new = subst Fine (sym (append-nil log)) rl
  fill own front (m ∷ rest) {log} r on rl ol oo keeps within new = at (λ log rl ol keeps within new. fill own (front ++ m ∷ []) rest {log = log}
      (fine_on front rest m r) (λ x k. on x (inr k)) rl ol oo keeps within new) (is_among own m) refl
    where
      at : Fills own (front ++ m ∷ []) rest → (b : Bool) → is_among own m ≡ b
          → Fine (log ++ cond (not (is_among own m)) (m ∷ left own rest) (left own rest))
      at next true t =
          let h : Has m log = keeps m (among_in all ids m own (on m (inl refl)) oo t) in
          subst (λ b. Fine (log ++ cond (not b) (m ∷ left own rest) (left own rest))) (sym t)
          (next log rl ol keeps (λ x k. ⊎_elim (λ l. within x l) (λ e. subst (λ y. Has y log) (sym e) h) (push_cases x m front k)) (λ x k. new x (inr k)))
      at next false t =
          let a = on m (inl refl) in
          let fresh : Has m log → ⊥ = λ h. unlisted m own t (new m (inl refl) h) in
          let rp = push front log m (prefix front rest m r) rl ol a within fresh in
          subst (λ b. Fine (log ++ cond (not b) (m ∷ left own rest) (left own rest))) (sym t)
          (subst Fine (append_assoc log (m ∷ []) (left own rest)) (next (log ++ m ∷ []) rp
          (λ x k. ⊎_elim (λ l. ol x l) (λ e. subst all (sym e) a) (push_cases x m log k))
          (λ x k. has_left x log (m ∷ []) (keeps x k))
          (λ x k. ⊎_elim (λ l. has_left x log (m ∷ []) (within x l)) (λ e. subst (λ y. Has y (log ++ m ∷ [])) (sym e) (has_last m log))
          (push_cases x m front k))
          (λ x k l. ⊎_elim (λ q. new x (inr k) q) (λ e. absurd (apart front rest m r (subst (λ y. Has y rest) e k))) (push_cases x m log l))))

-- ---- a site at which nothing waits, and messages that it can release one after the other
settle_one : {log : List Message} {m : Message} → Ready log m → settle 1 log (m ∷ []) ≡ (log ++ m ∷ [], [])
settle_one {log} {m} r = settles_one log _ _ [] (Release log [] [] (log ++ m ∷ []) [] m (λ x h. absurd h) r (Rest (log ++ m ∷ []) [] (λ x h. absurd h)))

abbrev quiet : List Message → Option ℕ → ℕ → Replica
quiet log held last = record { log = log; waiting = []; held = held; last = last }

-- the answer where none of the tests holds
pub is_answer : {a b c : Bool} (s t : Replica) (n : ℕ) → a ≡ false → b ≡ false → c ≡ false
    → cond {A = Replica × Result Arrival Refusal} a (s, Err NotOurs) (cond b (s, Ok Arrival.Repeat) (cond c (s, Err Full) (t, Ok (arrival_of n)))) ≡
    (t, Ok (arrival_of n))
is_answer s t n ea eb ec = λ i. cond {A = Replica × Result Arrival Refusal} (ea i) (s, Err NotOurs)
    (cond (eb i) (s, Ok Arrival.Repeat) (cond (ec i) (s, Err Full) (t, Ok (arrival_of n))))

came_quiet : {log : List Message} (held : Option ℕ) (last : ℕ) {m : Message} → Ready log m
    → after_came (quiet log held last) m ≡ quiet (log ++ m ∷ []) held last
came_quiet {log} held last r = ap (λ (p : List Message × List Message). record { log = p.0; waiting = p.1; held = held; last = last }) (settle_one r)

arrives : (p : Place) (log : List Message) (held : Option ℕ) (last : ℕ) (m : Message) → Released (m ∷ reverse log) → m.stamp.id.site ≢ p.site
    → length log < p.keep → arrived p (quiet log held last) m ≡ (quiet (log ++ m ∷ []) held last, Ok (Arrival.Released 1))
arrives p log held last m r other room = is_answer _ (after_came (quiet log held last) m) _
    (not_of m.stamp.id.site p.site (nat_lt (counted p.site log) m.stamp.id.seq) other) (false_from_ne_true _ (λ e. new (repeat_in e)))
    (lt-leb p.keep _ (omega (arith, room))) ∙ (λ j. (came j, Ok (arrival_of (longer (ap (λ (s : Replica). length s.log) came) j))))
  where
    came : after_came (quiet log held last) m ≡ quiet (log ++ m ∷ []) held last
    came = came_quiet held last (ready_forth log r.0)

    new : list_any (λ u. same_id m.stamp.id u.stamp.id) log ≡ true → ⊥
    new e =
        let f = by_id m log e in
        clash m (reverse log) f.0 r (has_back f.0 log f.1) (ap (λ x. x.site) f.2) (ap (λ x. x.seq) f.2)

    repeat_in : is_repeat (quiet log held last) m ≡ true → list_any (λ u. same_id m.stamp.id u.stamp.id) log ≡ true
    repeat_in e = ⊎_elim (λ k. k) (λ k. absurd (true≢false (sym k))) (or_cases (list_any (λ u. same_id m.stamp.id u.stamp.id) log) false e)

    not_of : (x y : ℕ) (b : Bool) → x ≢ y → ((x == y) && b) ≡ false
    not_of x y b n = grind (arith, nat_tests)

    longer : length (after_came (quiet log held last) m).log ≡ length (log ++ m ∷ []) → length (after_came (quiet log held last) m).log - length log ≡ 1
    longer e = let a = length-append log (m ∷ []) in omega (arith, e, a)

abbrev Ends : Place → List Message → Option ℕ → ℕ → List Message → Type 0
Ends p log held last more = (answers_to p (quiet log held last) more ≡ map (λ m. Ok (Arrival.Released 1)) more)
    × (after_all p (quiet log held last) more ≡ quiet (log ++ more) held last)

all_arrive : (p : Place) (log : List Message) (held : Option ℕ) (last : ℕ) (more : List Message) → Released (reverse (log ++ more))
    → ((m : Message) → Has m more → m.stamp.id.site ≢ p.site) → length (log ++ more) ≤ p.keep → Ends p log held last more
all_arrive p log held last [] r others room = (refl, ap (λ q. quiet q held last) (sym (append-nil log)))
all_arrive p log held last (m ∷ more) r others room =
    let one = arrives p log held last m (released_front log more m r) (others m (inl refl)) (let a = length-append log (m ∷ more) in omega (arith, a, room)) in
    let rest = all_arrive p (log ++ m ∷ []) held last more (released_on log more m r) (λ x h. others x (inr h))
    (subst (λ q. length q ≤ p.keep) (sym (append_assoc log (m ∷ []) more)) room) in (
      (λ i. (one i).1 ∷ answers_to p (one i).0 more) ∙ ap (λ q. Ok (Arrival.Released 1) ∷ q) rest.0,
      ap (λ (q : Replica × Result Arrival Refusal). after_all p q.0 more) one ∙ rest.1 ∙ ap (λ q. quiet q held last) (append_assoc log (m ∷ []) more),
    )

-- ---- logs that pass the checks
abbrev pub IsReleased : List Message → Type 0
IsReleased log = Released (reverse log)

pub released_prefix : (front rest : List Message) (m : Message) → IsReleased (front ++ m ∷ rest) → IsReleased (front ++ m ∷ [])
released_prefix front rest m r = subst Released (sym (reverse_push front m)) (released_front front rest m r)

pub push_released : (all : Message → Type 0) → ((u v : Message) → all u → all v → u.stamp.id.site ≡ v.stamp.id.site → u.stamp.id.seq ≡ v.stamp.id.seq → u ≡ v)
    → ((u v : Message) → all u → all v → 0 < u.stamp.red → u.stamp.red ≡ v.stamp.red → u ≡ v) → (front log : List Message) (m : Message)
    → IsReleased (front ++ m ∷ []) → IsReleased log → ((x : Message) → Has x log → all x) → all m → ((x : Message) → Has x front → Has x log) → (Has m log → ⊥)
    → IsReleased (log ++ m ∷ [])
push_released all ids red_once front log m r = released_push all ids red_once front log m (subst Released (reverse_push front m) r)

pub in_flat : (logs : List Log) (log : Log) (m : Message) → Has log logs → Has m log.messages → Has m (flat_map (λ (l : Log). l.messages) logs)
in_flat [] log m h k = absurd h
in_flat (x ∷ logs) log m (inl e) k = has_left m x.messages (flat_map (λ (l : Log). l.messages) logs) (subst (λ (l : Log). Has m l.messages) e k)
in_flat (x ∷ logs) log m (inr h) k = has_right m x.messages (flat_map (λ (l : Log). l.messages) logs) (in_flat logs log m h k)

pub of_flat : (logs : List Log) (m : Message) → Has m (flat_map (λ (l : Log). l.messages) logs) → Logged logs m
of_flat [] m h = absurd h
of_flat (x ∷ logs) m h = ⊎_elim (λ k. ((x, inl refl), k)) (λ k. let f = of_flat logs m k in ((f.0.0, inr f.0.1), f.1)) (has_append m _ _ h)

module _ (logs : List Log) (f : AreFaultless logs) where
  pub log_released : (log : Log) → Has log logs → Released (reverse log.messages)
  log_released log h = released_all log.site (reverse log.messages) (f.ordered log h)

  merged_grown : Grown (Logged logs) f.clash IsReleased released_prefix apart_front (push_released (Logged logs) f.clash f.red_once) []
      (flat_map (λ (l : Log). l.messages) logs) (merged logs)
  merged_grown = go_logs _ _ _ _ _ _ logs [] (λ log h. (log_released log h, λ x k. ((log, h), k))) tt (λ x h. absurd h)

  pub merged_released : Released (reverse (merged logs))
  merged_released = merged_grown.fine

  pub of_merged : (m : Message) → Has m (merged logs) → Logged logs m
  of_merged m h = of_flat logs m (⊎_elim (λ k. absurd k) (λ k. k) (merged_grown.only m h))

  pub in_merged : (m : Message) → Logged logs m → Has m (merged logs)
  in_merged m a = merged_grown.new m (in_flat logs a.0.0 m a.0.1 a.1)

  pub of_lacked : (own : List Message) {m : Message} → Has m (lacked logs own) → Logged logs m × (Has m own → ⊥)
  of_lacked own {m} h =
      let k = filter_in (λ u. not (is_among own u)) m (merged logs) h in
      (of_merged m k.0, unlisted m own (is_not (is_among own m) k.1))
    where
      is_not : (b : Bool) → not b ≡ true → b ≡ false
      is_not true e = sym e
      is_not false e = refl

  pub in_lacked : (own : List Message) → ((x : Message) → Has x own → Logged logs x) → {m : Message} → Logged logs m → (Has m own → ⊥) → Has m (lacked logs own)
  in_lacked own on {m} a n = in_filter (λ u. not (is_among own u)) m (merged logs) (in_merged m a)
      (ap not (false_from_ne_true (is_among own m) (λ e. n (among_in (Logged logs) f.clash m own a on e))))

  module _ (own : List Message) (r : Released (reverse own)) (on : (x : Message) → Has x own → Logged logs x) where
    pub completed_released : Released (reverse (completed logs own))
    completed_released = fill (Logged logs) f.clash IsReleased released_prefix apart_front (push_released (Logged logs) f.clash f.red_once) own []
        (merged logs) merged_released of_merged r on on (λ x h. h) (λ x h. absurd h) (λ x h k. k)

    pub completed_all : (m : Message) → Has m (completed logs own) ↔ Logged logs m
    completed_all m = (
      λ h. ⊎_elim (λ k. on m k) (λ k. (of_lacked own k).0) (has_append m own (lacked logs own) h),
      λ a. at (is_among own m) refl a,
    )
      where
        at : (b : Bool) → is_among own m ≡ b → Logged logs m → Has m (completed logs own)
        at true t a = has_left m own (lacked logs own) (among_in (Logged logs) f.clash m own a on t)
        at false t a = has_right m own (lacked logs own) (in_lacked own on a (unlisted m own t))

  pub completes : {p : Place} {s : Replica} → Released (reverse s.log) → ((x : Message) → Has x s.log → Logged logs x) → s.waiting ≡ []
      → ((m : Message) → Has m (lacked logs s.log) → m.stamp.id.site ≢ p.site) → length (completed logs s.log) ≤ p.keep → Completes logs p s
  completes {p} {s} r on w others room =
      let a = all_arrive p s.log s.held s.last (lacked logs s.log) (completed_released s.log r on) others room in record {
        answers = subst (λ q. answers_to p (record s { waiting = q }) (lacked logs s.log) ≡ map (λ m. Ok (Arrival.Released 1)) (lacked logs s.log)) (sym w) a.0;
        state = subst (λ q. after_all p (record s { waiting = q }) (lacked logs s.log) ≡ record s { log = completed logs s.log; waiting = q }) (sym w) a.1;
        all = completed_all s.log r on;
      }

pub lacks_the_rest : LacksTheRest
lacks_the_rest logs f log h = (
  λ m. ((λ k. of_lacked logs f log.messages k), (λ k. in_lacked logs f log.messages on k.0 k.1)),
  λ m k. distinct_back (reverse (completed logs log.messages)) m (completed_released logs f log.messages (log_released logs f log h) on)
      (behind_from m m (completed logs log.messages) (before_right m m log.messages (lacked logs log.messages) k)),
)
  where
    on : (x : Message) → Has x log.messages → Logged logs x
    on x k = ((log, h), k)

pub lack_is_released : LackIsReleased
lack_is_released logs f log h p s e w others room =
    completes logs f (subst (λ q. Released (reverse q)) (sym e) (log_released logs f log h)) (λ x k. ((log, h), subst (Has x) e k)) w others room
