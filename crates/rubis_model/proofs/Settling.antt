-- What settling keeps, and what is so of the messages that a site has released.
use Rattle.std.proofs.Common.{ℕ, ◌≡◌, ◌<◌, List, [], ◌∷◌, ◌++◌, length, get_or, refl, sym, subst, inl, inr, ⊎_elim, arith, ◌+◌, ◌≤◌, zero, suc, Bool, true}
use Rattle.std.proofs.Common.{◌&&◌, cond, Option, Some, None, ap, ◌∙◌}
use Rattle.std.specs.Prelude.{reverse, Contains, ◌⊎◌, ◌||◌, ◌==◌, nat_le, nat_lt}
use Rattle.std.proofs.lemmas.List.{reverse-append, get_or_past}
use Rattle.rubis_model.specs.Site.{Has, counted, reds, Ready, is_ready, first_ready, behind, settle}
use Rattle.std.specs.List.{list_all, range_with_len}
use Rattle.std.proofs.lemmas.Bool.{cases_lt, cond_both, and_parts, or_cases, eqb-true, leb-true, cases_eq}
use Rattle.std.proofs.lemmas.List.Sums.{AllPass-from_list_all}
use Rattle.std.proofs.lemmas.List.FromFn.{get_or-range_with_len, length-range_with_len}
use Rattle.rubis_message.specs.Message.{Message, dep}
use Rattle.rubis_model.specs.System.{Released, DecidedBy, CountedBy, Good, Decided}
use Rattle.rubis_message.specs.declared.tokens.Packet.{Packet}
use Rattle.rubis_message.specs.declared.tokens.Packet.TheVariants as packet
use Rattle.std.proofs.lemmas.Bool.Decides.{nat_tests}
use Rattle.rubis_model.specs.Log.{core, cores}

pub has_left : {A : Type 0} (x : A) (xs ys : List A) → Has x xs → Has x (xs ++ ys)
has_left x [] ys h = absurd h
has_left x (y ∷ xs) ys (inl e) = inl e
has_left x (y ∷ xs) ys (inr h) = inr (has_left x xs ys h)

pub has_right : {A : Type 0} (x : A) (xs ys : List A) → Has x ys → Has x (xs ++ ys)
has_right x [] ys h = h
has_right x (y ∷ xs) ys h = inr (has_right x xs ys h)

pub has_last : {A : Type 0} (x : A) (xs : List A) → Has x (xs ++ x ∷ [])
has_last x xs = has_right x xs (x ∷ []) (inl refl)

pub has_append : {A : Type 0} (x : A) (xs ys : List A) → Has x (xs ++ ys) → Has x xs ⊎ Has x ys
has_append x [] ys h = inr h
has_append x (y ∷ xs) ys (inl e) = inl (inl e)
has_append x (y ∷ xs) ys (inr h) = ⊎_elim (λ l. inl (inr l)) (λ r. inr r) (has_append x xs ys h)

pub push_cases : {A : Type 0} (x y : A) (xs : List A) → Has x (xs ++ y ∷ []) → Has x xs ⊎ (x ≡ y)
push_cases x y xs h = ⊎_elim (λ l. inl l) (λ r. ⊎_elim (λ e. inr e) (λ z. absurd z) r) (has_append x xs (y ∷ []) h)

-- ---- turned round
pub has_back : {A : Type 0} (x : A) (xs : List A) → Has x xs → Has x (reverse xs)
has_back x [] h = h
has_back x (y ∷ xs) (inl e) =
    subst (Has x) (sym (reverse-append (y ∷ []) xs)) (subst (λ q. Has q (reverse xs ++ y ∷ [])) (sym e) (has_last y (reverse xs)))
has_back x (y ∷ xs) (inr h) = subst (Has x) (sym (reverse-append (y ∷ []) xs)) (has_left x (reverse xs) (y ∷ []) (has_back x xs h))

pub has_reverse : {A : Type 0} (x : A) (xs : List A) → Has x (reverse xs) → Has x xs
has_reverse x [] h = h
has_reverse x (y ∷ xs) h =
    ⊎_elim (λ k. inr (has_reverse x xs k)) (λ e. inl e) (push_cases x y (reverse xs) (subst (Has x) (reverse-append (y ∷ []) xs) h))

-- ---- by a place in the list
pub contained : {A : Type 0} (xs : List A) (x : A) → Contains xs x → Has x xs
contained {A} xs x c = at xs c.0 c.1 c.2
  where
    at : (xs : List A) (k : ℕ) → k < length xs → get_or xs k x ≡ x → Has x xs
    at [] k h e = absurd (omega (arith, h))
    at (y ∷ xs) zero h e = inl (sym e)
    at (y ∷ xs) (suc k) h e = inr (at xs k (omega (arith, h)) e)

pub contains : {A : Type 0} (xs : List A) (x : A) → Has x xs → Contains xs x
contains [] x h = absurd h
contains (y ∷ xs) x (inl e) = (0, omega arith, sym e)
contains (y ∷ xs) x (inr h) =
    let c = contains xs x h in
    (suc c.0, (let l = c.1 in omega (arith, l)), c.2)

-- ---- what settling keeps

-- ---- counts and the order of the list
pub counted_push : (j : ℕ) (xs : List Message) (m : Message) → counted j (xs ++ m ∷ []) ≡ counted j (m ∷ xs)
counted_push j [] m = refl
counted_push j (x ∷ xs) m = let e = counted_push j xs m in omega arith

pub reds_push : (xs : List Message) (m : Message) → reds (xs ++ m ∷ []) ≡ reds (m ∷ xs)
reds_push [] m = refl
reds_push (x ∷ xs) m = let e = reds_push xs m in omega arith

pub reverse_push : (xs : List Message) (m : Message) → reverse (xs ++ m ∷ []) ≡ m ∷ reverse xs
reverse_push xs m = reverse-append xs (m ∷ [])

pub counted_reverse : (j : ℕ) (xs : List Message) → counted j (reverse xs) ≡ counted j xs
counted_reverse j [] = refl
counted_reverse j (x ∷ xs) =
    ap (counted j) (reverse-append (x ∷ []) xs) ∙ counted_push j (reverse xs) x ∙ ap (λ k. k + cond (x.stamp.id.site == j) 1 0) (counted_reverse j xs)

pub reds_reverse : (xs : List Message) → reds (reverse xs) ≡ reds xs
reds_reverse [] = refl
reds_reverse (x ∷ xs) =
    ap reds (reverse-append (x ∷ []) xs) ∙ reds_push (reverse xs) x ∙ ap (λ k. k + cond (nat_lt 0 x.stamp.red) 1 0) (reds_reverse xs)

-- ---- the test decides readiness
deps_test : List Message → Message → ℕ → Bool
deps_test log m j = (j == m.stamp.id.site) || nat_le (dep m j) (counted j log)

within_is : (log : List Message) (m : Message) (j : ℕ) → deps_test log m j ≡ true → (j ≡ m.stamp.id.site → ⊥) → dep m j ≤ counted j log
unfolding deps_test
within_is log m j h n =
    ⊎_elim (λ e. absurd (n (eqb-true j m.stamp.id.site e))) (λ e. leb-true (dep m j) (counted j log) e)
    (or_cases (j == m.stamp.id.site) (nat_le (dep m j) (counted j log)) h)

deps_is : (log : List Message) (m : Message) → list_all (deps_test log m) (range_with_len 0 (length m.stamp.deps)) ≡ true → (j : ℕ)
    → (j ≡ m.stamp.id.site → ⊥) → dep m j ≤ counted j log
deps_is log m h j n = ⊎_elim inside (λ k. subst (λ x. x ≤ counted j log) (sym (get_or_past m.stamp.deps j 0 k)) (omega arith))
    (cases_lt j (length m.stamp.deps))
  where
    inside : j < length m.stamp.deps → dep m j ≤ counted j log
    inside k =
        let e : get_or (range_with_len 0 (length m.stamp.deps)) j 0 ≡ j = get_or-range_with_len 0 (length m.stamp.deps) j 0 k ∙ omega arith in
        let t : deps_test log m (get_or (range_with_len 0 (length m.stamp.deps)) j 0)
        ≡ true = AllPass-from_list_all (deps_test log m) (range_with_len 0 (length m.stamp.deps)) h j 0
        (subst (λ x. j < x) (sym (length-range_with_len 0 (length m.stamp.deps))) k) in
        within_is log m j (subst (λ x. deps_test log m x ≡ true) e t) n

red_is : (log : List Message) (m : Message) → ((m.stamp.red == 0) || (m.stamp.red == reds log + 1)) ≡ true → 0 < m.stamp.red
    → m.stamp.red ≡ reds log + 1
red_is log m h l =
    ⊎_elim (λ e. let k = eqb-true m.stamp.red 0 e in absurd (omega arith)) (λ e. eqb-true m.stamp.red (reds log + 1) e)
    (or_cases (m.stamp.red == 0) (m.stamp.red == reds log + 1) h)

pub ready_is : (log : List Message) (m : Message) → is_ready log m ≡ true → Ready log m
unfolding deps_test
ready_is log m h =
    let a = and_parts ((m.stamp.id.seq == counted m.stamp.id.site log + 1) && list_all (deps_test log m) (range_with_len 0 (length m.stamp.deps)))
    ((m.stamp.red == 0) || (m.stamp.red == reds log + 1)) h in
    let b = and_parts (m.stamp.id.seq == counted m.stamp.id.site log + 1) (list_all (deps_test log m) (range_with_len 0 (length m.stamp.deps))) a.0 in
    record { next = eqb-true m.stamp.id.seq (counted m.stamp.id.site log + 1) b.0; released = deps_is log m b.1; number = red_is log m a.1 }

-- ---- what is released was ready and was waiting
abbrev pub Taken : List Message → List Message → Option (Message × List Message) → Type 0
Taken log waiting None = Unit {0}
Taken log waiting (Some p) = Ready log p.0 × Has p.0 waiting × ((x : Message) → Has x p.1 → Has x waiting) × (length waiting ≡ length p.1 + 1)

taken_behind : (log rest : List Message) (m : Message) (o : Option (Message × List Message)) → Taken log rest o → Taken log (m ∷ rest) (behind m o)
taken_behind log rest m None t = tt
taken_behind log rest m (Some p) t = (t.0, inr t.1, (λ x h. ⊎_elim (λ e. inl e) (λ k. inr (t.2 x k)) h), omega (arith, t.3))

taken_head : (log rest : List Message) (m : Message) → is_ready log m ≡ true → Taken log (m ∷ rest) (Some (m, rest))
taken_head log rest m e = (ready_is log m e, inl refl, (λ x k. inr k), omega arith)

pub first_taken : (log waiting : List Message) → Taken log waiting (first_ready log waiting)
first_taken log [] = tt
first_taken log (m ∷ rest) =
    cond_both (is_ready log m) (Some (m, rest)) (behind m (first_ready log rest)) (Taken log (m ∷ rest)) (taken_head log rest m)
    (λ e. taken_behind log rest m (first_ready log rest) (first_taken log rest))

-- ---- what each release keeps, settling keeps
next_keeps : (P : List Message → List Message → Type 0) (n : ℕ)
    → ((log waiting : List Message) → P log waiting → P (settle n log waiting).0 (settle n log waiting).1)
    → ((log waiting : List Message) (p : Message × List Message) → Taken log waiting (Some p) → P log waiting → P (log ++ p.0 ∷ []) p.1)
    → (log waiting : List Message) (o : Option (Message × List Message)) → Taken log waiting o → P log waiting
    → P (elim o as (λ _. List Message × List Message) [ None ↦ (log, waiting) | Some p ↦ settle n (log ++ p.0 ∷ []) p.1 ]).0
    (elim o as (λ _. List Message × List Message) [ None ↦ (log, waiting) | Some p ↦ settle n (log ++ p.0 ∷ []) p.1 ]).1
next_keeps P n rec step log waiting None t h = h
next_keeps P n rec step log waiting (Some p) t h = rec (log ++ p.0 ∷ []) p.1 (step log waiting p t h)

pub settle_keeps : (P : List Message → List Message → Type 0)
    → ((log waiting : List Message) (p : Message × List Message) → Taken log waiting (Some p) → P log waiting → P (log ++ p.0 ∷ []) p.1)
    → (n : ℕ) (log waiting : List Message) → P log waiting → P (settle n log waiting).0 (settle n log waiting).1
settle_keeps P step zero log waiting h = h
settle_keeps P step (suc n) log waiting h =
    next_keeps P n (settle_keeps P step n) step log waiting (first_ready log waiting) (first_taken log waiting) h

-- a message of the log stays there
pub settle_grows : (u : Message) (n : ℕ) (log waiting : List Message) → Has u (reverse log) → Has u (reverse (settle n log waiting).0)
settle_grows u n log waiting h =
    settle_keeps (λ l w. Has u (reverse l)) (λ l w p t k. subst (Has u) (sym (reverse_push l p.0)) (inr k)) n log waiting h

-- ---- a site stays good
ready_back : (log : List Message) (m : Message) → Ready log m → Ready (reverse log) m
ready_back log m r = record {
  next = r.next ∙ ap (λ k. k + 1) (sym (counted_reverse m.stamp.id.site log));
  released = λ j n. subst (λ k. dep m j ≤ k) (sym (counted_reverse j log)) (r.released j n);
  number = λ l. r.number l ∙ ap (λ k. k + 1) (sym (reds_reverse log));
}

-- a good site releases a message
pub good_release : (sent : List Packet) (i : ℕ) (log waiting : List Message) (p : Message × List Message) → Taken log waiting (Some p)
    → Good sent i log waiting → Good sent i (log ++ p.0 ∷ []) p.1
good_release sent i log waiting p t g = record {
  released = subst Released (sym (reverse_push log p.0)) (ready_back log p.0 t.0, g.released);
  made = subst (CountedBy i) (sym (reverse_push log p.0)) ((λ e. absurd (g.waiting_others p.0 t.1 e)), g.made);
  decided = subst (DecidedBy i) (sym (reverse_push log p.0)) ((λ e. absurd (g.waiting_others p.0 t.1 e)), g.decided);
  log_sent =
      λ m h. ⊎_elim (λ e. subst (λ x. Has (packet.Msg x) sent) (sym e) (g.waiting_sent p.0 t.1)) (λ k. g.log_sent m k) (subst (Has m) (reverse_push log p.0) h);
  waiting_sent = λ m h. g.waiting_sent m (t.2 m h);
  waiting_others = λ m h. g.waiting_others m (t.2 m h);
}

pub good_settle : (sent : List Packet) (i n : ℕ) (log waiting : List Message) → Good sent i log waiting
    → Good sent i (settle n log waiting).0 (settle n log waiting).1
good_settle sent i n log waiting g = settle_keeps (Good sent i) (good_release sent i) n log waiting g

-- ---- what is so of the messages that a site has released, newest first

-- one more at the front
pub counted_yes : (j : ℕ) (m : Message) (past : List Message) → m.stamp.id.site ≡ j → counted j (m ∷ past) ≡ counted j past + 1
counted_yes j m past e = grind (arith, nat_tests)

pub counted_no : (j : ℕ) (m : Message) (past : List Message) → (m.stamp.id.site ≡ j → ⊥) → counted j (m ∷ past) ≡ counted j past
counted_no j m past e = grind (arith, nat_tests)

pub counted_grows : (j : ℕ) (m : Message) (past : List Message) → counted j past ≤ counted j (m ∷ past)
counted_grows j m past = omega arith

pub reds_yes : (m : Message) (past : List Message) → 0 < m.stamp.red → reds (m ∷ past) ≡ reds past + 1
reds_yes m past e = grind (arith, nat_tests)

pub reds_no : (m : Message) (past : List Message) → m.stamp.red ≡ 0 → reds (m ∷ past) ≡ reds past
reds_no m past e = grind (arith, nat_tests)

-- a released one's number is at most the count of its origin
pub seq_within : (past : List Message) (v : Message) → Released past → Has v past
    → (1 ≤ v.stamp.id.seq) × (v.stamp.id.seq ≤ counted v.stamp.id.site past)
seq_within [] v r h = absurd h
seq_within (m ∷ past) v r (inl e) =
    subst (λ x. (1 ≤ x.stamp.id.seq) × (x.stamp.id.seq ≤ counted x.stamp.id.site (m ∷ past))) (sym e)
    (omega (arith, r.0.next, counted_yes m.stamp.id.site m past refl), omega (arith, r.0.next, counted_yes m.stamp.id.site m past refl))
seq_within (m ∷ past) v r (inr h) = let k = seq_within past v r.1 h in (k.0, omega (arith, k.1, counted_grows v.stamp.id.site m past))

-- who has the number s of the origin j, where s is no more than the count
Found : List Message → ℕ → ℕ → Type 0
Found past j s = (u : Message) × (Has u past) × (u.stamp.id.site ≡ j) × (u.stamp.id.seq ≡ s)

found_head : (m : Message) (past : List Message) (j s : ℕ) → Released (m ∷ past) → s ≤ counted j (m ∷ past) → counted j past < s
    → Found (m ∷ past) j s
unfolding Found
found_head m past j s r h k = ⊎_elim (λ e. (m, inl refl, e, here e)) (λ e. absurd (omega (arith, k, h, counted_no j m past e))) (cases_eq m.stamp.id.site j)
  where
    here : m.stamp.id.site ≡ j → m.stamp.id.seq ≡ s
    here e = let a : m.stamp.id.seq ≡ counted j past + 1 = r.0.next ∙ ap (λ i. counted i past + 1) e in omega (arith, counted_yes j m past e)

found_on : (m : Message) (past : List Message) (j s : ℕ) → Found past j s → Found (m ∷ past) j s
unfolding Found
found_on m past j s f = (f.0, inr f.1, f.2, f.3)

found_raw : (past : List Message) (j s : ℕ) → Released past → 1 ≤ s → s ≤ counted j past → Found past j s
found_raw [] j s r l h = absurd (omega arith)
found_raw (m ∷ past) j s r l h =
    ⊎_elim (found_head m past j s r h) (λ k. found_on m past j s (found_raw past j s r.1 l k)) (cases_lt (counted j past) s)

pub found : (past : List Message) (j s : ℕ) → Released past → 1 ≤ s → s ≤ counted j past
    → (u : Message) × (Has u past) × (u.stamp.id.site ≡ j) × (u.stamp.id.seq ≡ s)
unfolding Found
found past j s r l h = found_raw past j s r l h

-- the head's id is no other's
pub clash : (m : Message) (past : List Message) (v : Message) → Released (m ∷ past) → Has v past → m.stamp.id.site ≡ v.stamp.id.site
    → m.stamp.id.seq ≡ v.stamp.id.seq → ⊥
clash m past v r h e f =
    let k = seq_within past v r.1 h in
    let a : m.stamp.id.seq ≡ counted v.stamp.id.site past + 1 = r.0.next ∙ ap (λ i. counted i past + 1) e in
    omega (arith, k.1)

-- two of one id are one
pub once : (past : List Message) (u v : Message) → Released past → Has u past → Has v past → u.stamp.id.site ≡ v.stamp.id.site
    → u.stamp.id.seq ≡ v.stamp.id.seq → u ≡ v
once [] u v r hu hv e f = absurd hu
once (m ∷ past) u v r (inl a) (inl b) e f = a ∙ sym b
once (m ∷ past) u v r (inr a) (inr b) e f = once past u v r.1 a b e f
once (m ∷ past) u v r (inl a) (inr b) e f =
    absurd (clash m past v r b (ap (λ (x : Message). x.stamp.id.site) (sym a) ∙ e) (ap (λ (x : Message). x.stamp.id.seq) (sym a) ∙ f))
once (m ∷ past) u v r (inr a) (inl b) e f =
    absurd (clash m past u r a (ap (λ (x : Message). x.stamp.id.site) (sym b) ∙ sym e) (ap (λ (x : Message). x.stamp.id.seq) (sym b) ∙ sym f))

-- a released red one's number is at most the count of red ones
pub red_within : (past : List Message) (v : Message) → Released past → Has v past → v.stamp.red ≤ reds past
red_within [] v r h = absurd h
red_within (m ∷ past) v r (inl e) =
    subst (λ (x : Message). x.stamp.red ≤ reds (m ∷ past)) (sym e)
    (⊎_elim (λ k. omega (arith, r.0.number k, reds_yes m past k)) (λ k. omega arith) (cases_lt 0 m.stamp.red))
red_within (m ∷ past) v r (inr h) = omega (arith, red_within past v r.1 h)

-- who has the red number s
FoundRed : List Message → ℕ → Type 0
FoundRed past s = (u : Message) × (Has u past) × (u.stamp.red ≡ s)

red_head : (m : Message) (past : List Message) (s : ℕ) → Released (m ∷ past) → s ≤ reds (m ∷ past) → reds past < s → FoundRed (m ∷ past) s
unfolding FoundRed
red_head m past s r h k =
    ⊎_elim (λ e. (m, inl refl, omega (arith, r.0.number e, reds_yes m past e))) (λ e. absurd (omega (arith, reds_no m past (omega arith))))
    (cases_lt 0 m.stamp.red)

red_on : (m : Message) (past : List Message) (s : ℕ) → FoundRed past s → FoundRed (m ∷ past) s
unfolding FoundRed
red_on m past s f = (f.0, inr f.1, f.2)

red_raw : (past : List Message) (s : ℕ) → Released past → 1 ≤ s → s ≤ reds past → FoundRed past s
red_raw [] s r l h = absurd (omega arith)
red_raw (m ∷ past) s r l h = ⊎_elim (red_head m past s r h) (λ k. red_on m past s (red_raw past s r.1 l k)) (cases_lt (reds past) s)

pub found_red : (past : List Message) (s : ℕ) → Released past → 1 ≤ s → s ≤ reds past → (u : Message) × (Has u past) × (u.stamp.red ≡ s)
unfolding FoundRed
found_red past s r l h = red_raw past s r l h

-- what v saw of each other origin is among what is there
pub dep_within : (past : List Message) (v : Message) (j : ℕ) → Released past → Has v past → (j ≡ v.stamp.id.site → ⊥) → dep v j ≤ counted j past
dep_within [] v j r h n = absurd h
dep_within (m ∷ past) v j r (inl e) n =
    omega (arith, subst (λ (x : Message). (j ≡ x.stamp.id.site → ⊥) → dep x j ≤ counted j past) (sym e) (r.0.released j) n, counted_grows j m past)
dep_within (m ∷ past) v j r (inr h) n = omega (arith, dep_within past v j r.1 h n, counted_grows j m past)

-- the log when its site made v
pub made_at : (i : ℕ) (past : List Message) (v : Message) → CountedBy i past → DecidedBy i past → Released past → Has v past → v.stamp.id.site ≡ i
    → (before : List Message) × (Released before) × ((j : ℕ) → dep v j ≡ counted j before) × ((u : Message) → Has u before → Has u past)
    × (v.stamp.id.seq ≡ counted i before + 1) × Decided before v
made_at i [] v b d r h o = absurd h
made_at i (m ∷ past) v b d r (inl e) o = (
  past,
  r.1,
  subst (λ (x : Message). (j : ℕ) → dep x j ≡ counted j past) (sym e) (b.0 (ap (λ (x : Message). x.stamp.id.site) (sym e) ∙ o)),
  (λ u k. inr k),
  ap (λ (x : Message). x.stamp.id.seq) e ∙ r.0.next ∙ ap (λ k. counted k past + 1) (ap (λ (x : Message). x.stamp.id.site) (sym e) ∙ o),
  subst (Decided past) (sym e) (d.0 (ap (λ (x : Message). x.stamp.id.site) (sym e) ∙ o)),
)
made_at i (m ∷ past) v b d r (inr h) o =
    let f = made_at i past v b.1 d.1 r.1 h o in (f.0, f.1, f.2, (λ u k. inr (f.3 u k)), f.4, f.5)

-- ---- lists of messages as lists of what the tables know of them

pub cores_append : (a b : List Message) → cores (a ++ b) ≡ cores a ++ cores b
cores_append [] b = refl
cores_append (m ∷ a) b = ap (λ xs. core m ∷ xs) (cores_append a b)

pub cores_push : (a : List Message) (m : Message) → cores (a ++ m ∷ []) ≡ cores a ++ core m ∷ []
cores_push a m = cores_append a (m ∷ [])

pub cores_length : (a : List Message) → length (cores a) ≡ length a
cores_length [] = refl
cores_length (x ∷ a) = ap (λ n. ℕ.suc n) (cores_length a)
