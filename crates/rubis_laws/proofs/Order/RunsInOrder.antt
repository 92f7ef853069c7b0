-- In a sound world all logs causally serialize one RedBlue order.
use Rattle.rubis_laws.proofs.Common.{◌≡◌, ℕ, ◌+◌, ◌≤◌, true, List, [], ◌∷◌, ◌++◌, refl, sym, ap, ◌∙◌, subst, inl, inr, ⊎_elim, arith, Refusal, NotOurs, Full}
use Rattle.rubis_laws.proofs.Common.{Arrival, ◌≢◌, ◌-◌, Bool, false, cond, length, Result, Ok, Err, ◌⊎◌, reverse, ◌==◌, nat_lt, cases_eq, cases_order}
use Rattle.rubis_laws.proofs.Common.{and_parts, eqb-true, ltb-true, false_from_ne_true, true≢false, reverse-append, reverse-reverse, Message, dep, Decided}
use Rattle.rubis_laws.proofs.Common.{Precedes, Released, Foundation, StandsBefore, Serializes, counted, Ready, Has, CountedBy, Sound, World, site, place}
use Rattle.rubis_laws.proofs.Common.{Replica, not_ours, is_repeat, is_full, arrived, arrival_of, after_came, SerializeOneOrder, Sent, IsLogOf, InOrder}
use Rattle.rubis_laws.proofs.Common.{seq_within, found, made_at, dep_within, clash, counted_reverse, has_left, has_last, has_back}
use Rattle.rubis_model.proofs.Settling.{once}

-- ---- a log and the same, newest first
unfoldable pub Behind : Message → Message → List Message → Type 0
Behind u v [] = ⊥
Behind u v (x ∷ past) = ((v ≡ x) × Has u past) ⊎ Behind u v past

before_push : (u v x : Message) (xs : List Message) → StandsBefore u v xs → StandsBefore u v (xs ++ x ∷ [])
before_push u v x [] h = absurd h
before_push u v x (y ∷ xs) (inl e) = inl (e.0, has_left v xs (x ∷ []) e.1)
before_push u v x (y ∷ xs) (inr h) = inr (before_push u v x xs h)

before_last : (u v : Message) (xs : List Message) → Has u xs → StandsBefore u v (xs ++ v ∷ [])
before_last u v [] h = absurd h
before_last u v (y ∷ xs) (inl e) = inl (e, has_last v xs)
before_last u v (y ∷ xs) (inr h) = inr (before_last u v xs h)

pub before_from : (u v : Message) (past : List Message) → Behind u v past → StandsBefore u v (reverse past)
unfolding Behind
before_from u v [] h = absurd h
before_from u v (x ∷ past) (inl e) =
    subst (StandsBefore u v) (sym (reverse-append (x ∷ []) past))
    (subst (λ q. StandsBefore u v (reverse past ++ q ∷ [])) e.0 (before_last u v (reverse past) (has_back u past e.1)))
before_from u v (x ∷ past) (inr h) = subst (StandsBefore u v) (sym (reverse-append (x ∷ []) past)) (before_push u v x (reverse past) (before_from u v past h))

behind_end : (x v : Message) (ps : List Message) → Has v ps → Behind x v (ps ++ x ∷ [])
unfolding Behind
behind_end x v [] h = absurd h
behind_end x v (y ∷ ps) (inl e) = inl (e, has_last x ps)
behind_end x v (y ∷ ps) (inr h) = inr (behind_end x v ps h)

behind_more : (u v x : Message) (ps : List Message) → Behind u v ps → Behind u v (ps ++ x ∷ [])
unfolding Behind
behind_more u v x [] h = absurd h
behind_more u v x (y ∷ ps) (inl e) = inl (e.0, has_left u ps (x ∷ []) e.1)
behind_more u v x (y ∷ ps) (inr h) = inr (behind_more u v x ps h)

pub behind_from : (u v : Message) (log : List Message) → StandsBefore u v log → Behind u v (reverse log)
behind_from u v [] h = absurd h
behind_from u v (x ∷ log) (inl e) =
    subst (Behind u v) (sym (reverse-append (x ∷ []) log))
    (subst (λ q. Behind q v (reverse log ++ x ∷ [])) (sym e.0) (behind_end x v (reverse log) (has_back v log e.1)))
behind_from u v (x ∷ log) (inr h) = subst (Behind u v) (sym (reverse-append (x ∷ []) log)) (behind_more u v x (reverse log) (behind_from u v log h))

-- ---- ids
pub unique : {w : World} {u v : Message} → Sound w → Sent w u → Sent w v → u.stamp.id.site ≡ v.stamp.id.site → u.stamp.id.seq ≡ v.stamp.id.seq → u ≡ v
unique {w} {u} {v} s a b e f = once (reverse (site w v.stamp.id.site).log) u v (s.good v.stamp.id.site).released
    (subst (λ q. Has u (reverse (site w q).log)) e (s.home.home u a)) (s.home.home v b) e f

positive : {w : World} (u : Message) → Sound w → Sent w u → 1 ≤ u.stamp.id.seq
positive {w} u s a = (seq_within (reverse (site w u.stamp.id.site).log) u (s.good u.stamp.id.site).released (s.home.home u a)).0

-- its origin had released all before it
pub own : (w : World) (v : Message) → Sound w → Sent w v → v.stamp.id.seq ≡ dep v v.stamp.id.site + 1
own w v s b =
    let m = made_at v.stamp.id.site (reverse (site w v.stamp.id.site).log) v (s.good v.stamp.id.site).made (s.good v.stamp.id.site).decided
    (s.good v.stamp.id.site).released (s.home.home v b) refl in omega (arith, m.4, m.2 v.stamp.id.site)

-- what is within a count of a log is there
pub there : (w : World) (past : List Message) (u : Message) → Sound w → Released past → ((x : Message) → Has x past → Sent w x) → Sent w u
    → u.stamp.id.seq ≤ counted u.stamp.id.site past → Has u past
there w past u s r all a l =
    let f = found past u.stamp.id.site u.stamp.id.seq r (positive u s a) l in
    subst (λ x. Has x past) (unique s (all f.0 f.1) a f.2 f.3) f.1

-- a site saw all that precedes what it released
pub seen : {w : World} {past : List Message} (u : Message) {v : Message} → Sound w → Ready past v → Sent w v → Precedes u v
    → u.stamp.id.seq ≤ counted u.stamp.id.site past
seen {w} {past} u {v} s r b p = ⊎_elim (λ e. same e) (λ n. let k = r.released u.stamp.id.site n in omega arith) (cases_eq u.stamp.id.site v.stamp.id.site)
  where
    same : u.stamp.id.site ≡ v.stamp.id.site → u.stamp.id.seq ≤ counted u.stamp.id.site past
    same e = let k = own w v s b in let a = r.next in let c = ap (λ q. dep v q) e in let d = ap (λ q. counted q past) e in omega arith

behind_head : {w : World} {past : List Message} (u : Message) {v x : Message} → Sound w → Released (x ∷ past) → ((y : Message) → Has y (x ∷ past) → Sent w y)
    → Sent w u → v ≡ x → Precedes u v → Has u past
behind_head {w} {past} u {x} s r all a e p =
    let q : Precedes u x = subst (Precedes u) e p in
    there w past u s r.1 (λ y h. all y (inr h)) a (seen u s r.0 (all x (inl refl)) q)

behind_all : {w : World} (past : List Message) (u v : Message) → Sound w → Released past → ((y : Message) → Has y past → Sent w y) → Sent w u → Has v past
    → Precedes u v → Behind u v past
unfolding Behind
behind_all [] u v s r all a h p = absurd h
behind_all (x ∷ past) u v s r all a (inl e) p = inl (e, behind_head u s r all a e p)
behind_all (x ∷ past) u v s r all a (inr h) p = inr (behind_all past u v s r.1 (λ y k. all y (inr k)) a h p)

pub causal_back : {i : ℕ} (past : List Message) (u v : Message) → Released past → CountedBy i past → Behind u v past → v.stamp.id.site ≡ i → Precedes u v
unfolding Behind
causal_back [] u v r m h o = absurd h
causal_back (x ∷ past) u v r m (inl e) o =
    subst (Precedes u) (sym e.0) (omega (arith, (seq_within past u r.1 e.1).1, m.0 (ap (λ (q : Message). q.stamp.id.site) (sym e.0) ∙ o) u.stamp.id.site))
causal_back (x ∷ past) u v r m (inr h) o = causal_back past u v r.1 m.1 h o

pub distinct_back : (past : List Message) (u : Message) → Released past → Behind u u past → ⊥
unfolding Behind
distinct_back [] u r h = h
distinct_back (x ∷ past) u r (inl e) = clash x past u r e.1 (ap (λ (q : Message). q.stamp.id.site) (sym e.0)) (ap (λ (q : Message). q.stamp.id.seq) (sym e.0))
distinct_back (x ∷ past) u r (inr h) = distinct_back past u r.1 h

-- ---- the claims
transitive : (w : World) (u v x : Message) → Sound w → Sent w v → Sent w x → Precedes u v → Precedes v x → Precedes u x
transitive w u v x s b c p q =
    let m = made_at x.stamp.id.site (reverse (site w x.stamp.id.site).log) x (s.good x.stamp.id.site).made (s.good x.stamp.id.site).decided
    (s.good x.stamp.id.site).released (s.home.home x c) refl in
    let h : Has v m.0 = there w m.0 v s m.1 (λ y k. (s.good x.stamp.id.site).log_sent y (m.3 y k)) b (omega (arith, m.2 v.stamp.id.site)) in
    ⊎_elim (λ e. let d = ap (λ k. dep v k) e in let f = ap (λ k. dep x k) e in let o = own w v s b in omega arith)
    (λ n. omega (arith, dep_within m.0 v u.stamp.id.site m.1 h n, m.2 u.stamp.id.site)) (cases_eq u.stamp.id.site v.stamp.id.site)

serializes : {w : World} (i : ℕ) → Sound w → Serializes i (Sent w) (site w i).log
serializes {w} i s = record {
  members = λ u h. (s.good i).log_sent u (has_back u (site w i).log h);
  distinct = λ u h. distinct_back (reverse (site w i).log) u (s.good i).released (behind_from u u (site w i).log h);
  closed =
      λ u v a h p. subst (StandsBefore u v) (reverse-reverse (site w i).log) (before_from u v (reverse (site w i).log)
      (behind_all (reverse (site w i).log) u v s (s.good i).released (s.good i).log_sent a (has_back v (site w i).log h) p));
  causal = λ u v h o. causal_back (reverse (site w i).log) u v (s.good i).released (s.good i).made (behind_from u v (site w i).log h) o;
}

pub is_ours : (keep : ℕ) {w : World} (i : ℕ) (m : Message) → Sound w → Sent w m → not_ours (place keep w i) (site w i) m ≡ true → ⊥
is_ours keep {w} i m s a e =
    let p = and_parts (m.stamp.id.site == i) (nat_lt (counted i (site w i).log) m.stamp.id.seq) e in
    let o : m.stamp.id.site ≡ i = eqb-true m.stamp.id.site i p.0 in
    let l = ltb-true (counted i (site w i).log) m.stamp.id.seq p.1 in
    let k = (seq_within (reverse (site w m.stamp.id.site).log) m (s.good m.stamp.id.site).released (s.home.home m a)).1 in
    let c = counted_reverse m.stamp.id.site (site w m.stamp.id.site).log in
    let d = ap (λ q. counted q (site w q).log) o in
    omega arith

-- the answer to a message is NotOurs only where that is tested
answer_is : {b : Bool} (c d : Bool) (s t : Replica) (n : ℕ) → b ≡ false → (cond {A = Replica × Result Arrival Refusal} b (s, Err NotOurs)
    (cond c (s, Ok Arrival.Repeat) (cond d (s, Err Full) (t, Ok (arrival_of n))))).1 ≢ Err NotOurs
answer_is {b = true} c d s t n e = absurd (true≢false e)
answer_is true d s t n e = λ q. absurd cc
answer_is false true s t n e = λ q. absurd cc
answer_is false false s t n e = λ q. absurd cc

ours : (keep : ℕ) (w : World) (i : ℕ) (m : Message) → Sound w → Sent w m → (arrived (place keep w i) (site w i) m).1 ≢ Err NotOurs
ours keep w i m s a = answer_is (is_repeat (site w i) m) (is_full keep (site w i)) (site w i) (after_came (site w i) m)
    (length (after_came (site w i) m).log - length (site w i).log) (false_from_ne_true (not_ours (place keep w i) (site w i) m) (is_ours keep i m s a))

pub foundation : (w : World) (v : Message) → Sound w → Sent w v → Foundation (Sent w) v
foundation w v s b = record {
  past = m.0;
  released = m.1;
  exactly = λ u. ((λ h. (sent u h, saw u h)), (λ q. there w m.0 u s m.1 sent q.0 (counts u q.1)));
  decided = m.5;
}
  where
    m : (before : List Message) × (Released before) × ((j : ℕ) → dep v j ≡ counted j before)
        × ((u : Message) → Has u before → Has u (reverse (site w v.stamp.id.site).log)) × (v.stamp.id.seq ≡ counted v.stamp.id.site before + 1)
        × Decided before v
    m =
        made_at v.stamp.id.site (reverse (site w v.stamp.id.site).log) v (s.good v.stamp.id.site).made (s.good v.stamp.id.site).decided
        (s.good v.stamp.id.site).released (s.home.home v b) refl

    sent : (u : Message) → Has u m.0 → Sent w u
    sent u h = (s.good v.stamp.id.site).log_sent u (m.3 u h)

    saw : (u : Message) → Has u m.0 → Precedes u v
    saw u h = omega (arith, (seq_within m.0 u m.1 h).1, m.2 u.stamp.id.site)

    counts : (u : Message) → Precedes u v → u.stamp.id.seq ≤ counted u.stamp.id.site m.0
    counts u p = omega (arith, m.2 u.stamp.id.site)

serial : (w : World) → Sound w → SerializeOneOrder (Sent w) (IsLogOf w)
serial w s = record {
  ids = λ u v a b. unique s a b;
  order = record {
    irreflexive = λ u a p. let o = own w u s a in omega arith;
    transitive = λ u v x a b c p q. transitive w u v x s b c p q;
    reds =
        λ u v a b l k. ⊎_elim (λ e. inl (s.reds.single u v a b l e))
        (λ o. inr (⊎_elim (λ f. inl (s.reds.ordered u v a b l f)) (λ f. inr (s.reds.ordered v u b a k f)) o)) (cases_order u.stamp.red v.stamp.red);
  };
  logs = λ log of. subst (Serializes log.site (Sent w)) (sym of.messages) (serializes log.site s);
}

pub in_order : (w : World) → Sound w → InOrder w
in_order w s = record {
  serial = serial w s;
  smaller_first = s.reds.ordered;
  numbered = s.reds.each;
  numbered_once = s.reds.single;
  foundation = λ v b. foundation w v s b;
  token = s.token;
  numbers = s.reds.small;
  ours = λ keep i m a. ours keep w i m s a;
}
