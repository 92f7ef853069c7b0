-- Logs that pass the checks together causally serialize one RedBlue order; and those of a sound world pass.
use Rattle.rubis_laws.proofs.Common.{◌≡◌, ℕ, ◌+◌, ◌<◌, ◌≤◌, zero, suc, List, [], ◌∷◌, refl, sym, ap, ◌∙◌, subst, inl, inr, ⊎_elim, arith, reverse, ◌-◌, nat_lt}
use Rattle.rubis_laws.proofs.Common.{cases_eq, cases_order, reverse-reverse, is_red, Message, dep, IsLimited, Serializes, StandsBefore, Precedes, Released}
use Rattle.rubis_laws.proofs.Common.{counted, reds, Has, CountedBy, Sound, World, site, Sent, Log, IsOrdered, AllOrdered, Logged, AreFaultless, seq_within}
use Rattle.rubis_laws.proofs.Common.{found, found_red, red_within, made_at, dep_within, has_back, has_reverse}
use Rattle.rubis_model.specs.System.{IsRedBlueOrder}
use Rattle.rubis_model.specs.Audit.{OneOf}
use Rattle.rubis_laws.proofs.Order.RunsInOrder.{Behind, before_from, behind_from, own, there, causal_back, distinct_back}

-- what the type of a message guarantees: it counts all of its origin before it, it has a red number if and only if it
-- is red, and it is within the limits
pub record IsFormed (v : Message) : Type 0 where
  pub own : v.stamp.id.seq ≡ dep v v.stamp.id.site + 1
  pub colour : is_red v.shadow ≡ nat_lt 0 v.stamp.red
  pub limits : IsLimited v.shadow

-- ---- what the checks are
pub released_all : (i : ℕ) (past : List Message) → AllOrdered i past → Released past
released_all i [] c = tt
released_all i (v ∷ past) c = (c.0.ready, released_all i past c.1)

checked_made : (i : ℕ) (past : List Message) → AllOrdered i past → CountedBy i past
checked_made i [] c = tt
checked_made i (v ∷ past) c = (c.0.made, checked_made i past c.1)

-- the entry of a member
entry_of : (i : ℕ) (past : List Message) (v : Message) → AllOrdered i past → Has v past
    → (before : List Message) × (IsOrdered i before v) × (AllOrdered i before) × ((x : Message) → Has x before → Has x past)
entry_of i [] v c h = absurd h
entry_of i (x ∷ past) v c (inl e) = (past, subst (IsOrdered i past) (sym e) c.0, c.1, (λ q k. inr k))
entry_of i (x ∷ past) v c (inr h) = let f = entry_of i past v c.1 h in (f.0, f.1, f.2, (λ q k. inr (f.3 q k)))

-- the message stands in one of the logs, newest first
abbrev pub Back : {K : Type 0} → (K → List Message) → Message → Type 0
Back {K} log u = (k : K) × Has u (reverse (log k))

-- of logs k, each of a site
module _ {K : Type 0} (sites : K → ℕ) (log : K → List Message) (each : (k : K) → AllOrdered (sites k) (reverse (log k)))
    (clash : (u v : Message) → Back log u → Back log v → u.stamp.id.site ≡ v.stamp.id.site → u.stamp.id.seq ≡ v.stamp.id.seq → u ≡ v)
    (red_once : (u v : Message) → Back log u → Back log v → 0 < u.stamp.red → u.stamp.red ≡ v.stamp.red → u ≡ v)
    (o : (v : Message) → Back log v → v.stamp.id.seq ≡ dep v v.stamp.id.site + 1) where
  released : (k : K) → Released (reverse (log k))
  released k = released_all (sites k) (reverse (log k)) (each k)

  least : (u : Message) → Back log u → 1 ≤ u.stamp.id.seq
  least u a = (seq_within (reverse (log a.0)) u (released a.0) a.1).0

  -- what is within a count of part of a log is there
  counted_there : (k : K) (past : List Message) (u : Message) → Released past → ((x : Message) → Has x past → Has x (reverse (log k))) → Back log u
      → u.stamp.id.seq ≤ counted u.stamp.id.site past → Has u past
  counted_there k past u r on a l =
      let f = found past u.stamp.id.site u.stamp.id.seq r (least u a) l in
      subst (λ x. Has x past) (clash f.0 u (k, on f.0 f.1) a f.2 f.3) f.1

  -- what precedes v stands before it
  there_before : (k : K) (past : List Message) (u v : Message) → IsOrdered (sites k) past v → Released past
      → ((x : Message) → Has x past → Has x (reverse (log k))) → Back log u → Back log v → Precedes u v → Has u past
  there_before k past u v e r on a b q =
      counted_there k past u r on a (⊎_elim same (λ n. let d = e.ready.released u.stamp.id.site n in omega arith) (cases_eq u.stamp.id.site v.stamp.id.site))
    where
      same : u.stamp.id.site ≡ v.stamp.id.site → u.stamp.id.seq ≤ counted u.stamp.id.site past
      same f = let g = o v b in let h = e.ready.next in let c = ap (λ x. dep v x) f in let d = ap (λ x. counted x past) f in omega arith

  -- of one origin, a later one saw what an earlier one saw
  grows : (n : ℕ) (k : K) (v y : Message) → Has v (reverse (log k)) → Has y (reverse (log k)) → v.stamp.id.site ≡ y.stamp.id.site
      → y.stamp.id.seq ≡ v.stamp.id.seq + n → (j : ℕ) → dep v j ≤ dep y j
  grows zero k v y a b e f j = let g = ap (λ (x : Message). dep x j) (clash v y (k, a) (k, b) e (omega arith)) in omega arith
  grows (suc n) k v y a b e f j =
      let t = entry_of (sites k) (reverse (log k)) y (each k) b in
      let s = o y (k, b) in
      let m = v.stamp.id.seq + n in
      let r = released_all (sites k) t.0 t.2 in
      let l = (seq_within (reverse (log k)) v (released k) a).0 in
      let here : m ≤ counted y.stamp.id.site t.0 = omega (arith, t.1.ready.next) in
      let z = found t.0 y.stamp.id.site m r (omega arith) here in
      let c : z.0.stamp.id.seq ≡ dep y z.0.stamp.id.site = z.3 ∙ sym (ap (dep y) z.2 ∙ omega arith) in
      let g = grows n k v z.0 a (t.3 z.0 z.1) (e ∙ sym z.2) z.3 j in
      let h = t.1.carries z.0 z.1 c j in
      omega arith

  closed : (k : K) (past : List Message) (u v : Message) → AllOrdered (sites k) past → ((x : Message) → Has x past → Has x (reverse (log k)))
      → Back log u → Has v past → Precedes u v → Behind u v past
  unfolding Behind
  closed k [] u v c on a h q = absurd h
  closed k (x ∷ past) u v c on a (inl e) q =
      inl (e, there_before k past u x c.0 (released_all (sites k) past c.1) (λ y m. on y (inr m)) a (k, on x (inl refl)) (subst (Precedes u) e q))
  closed k (x ∷ past) u v c on a (inr h) q = inr (closed k past u v c.1 (λ y m. on y (inr m)) a h q)

  trans : (u v x : Message) → Back log u → Back log v → Back log x → Precedes u v → Precedes v x → Precedes u x
  trans u v x a b c q r =
      let t = entry_of (sites c.0) (reverse (log c.0)) x (each c.0) c.1 in
      let rel = released_all (sites c.0) t.0 t.2 in
      let v_in = there_before c.0 t.0 v x t.1 rel t.3 b c r in
      let l = least v b in
      let within : dep x v.stamp.id.site ≤ counted v.stamp.id.site t.0 =
      ⊎_elim (λ f. let g = o x c in let h = t.1.ready.next in let d = ap (λ y. dep x y) f in let m = ap (λ y. counted y t.0) f in omega arith)
      (λ n. t.1.ready.released v.stamp.id.site n) (cases_eq v.stamp.id.site x.stamp.id.site) in
      let y = found t.0 v.stamp.id.site (dep x v.stamp.id.site) rel (omega arith) within in
      let e : y.0.stamp.id.seq ≡ dep x y.0.stamp.id.site = y.3 ∙ ap (dep x) (sym y.2) in
      let g = grows (y.0.stamp.id.seq - v.stamp.id.seq) c.0 v y.0 (t.3 v v_in) (t.3 y.0 y.1) (sym y.2) (omega (arith, y.3)) u.stamp.id.site in
      let h = t.1.carries y.0 y.1 e u.stamp.id.site in
      omega arith

  -- red ones in one log
  red_last : (m : ℕ) (k : K) (v : Message) → Has v (reverse (log k)) → 1 ≤ m → v.stamp.red ≡ m + 1
      → (z : Message) × (Has z (reverse (log k))) × (z.stamp.red ≡ m) × (Precedes z v)
  red_last m k v b l e =
      let t = entry_of (sites k) (reverse (log k)) v (each k) b in
      let here : m ≤ reds t.0 = let q = t.1.ready.number (omega arith) in omega arith in
      let z = found_red t.0 m (released_all (sites k) t.0 t.2) l here in
      (z.0, t.3 z.0 z.1, z.2, t.1.red_before z.0 z.1 (omega (arith, z.2)) (e ∙ ap (λ x. x + 1) (sym z.2)))

  red_chain : (n : ℕ) (k : K) (u v : Message) → Has u (reverse (log k)) → Has v (reverse (log k)) → 0 < u.stamp.red → v.stamp.red ≡ u.stamp.red + suc n
      → Precedes u v
  red_chain zero k u v a b l e =
      let z = red_last u.stamp.red k v b l (omega arith) in
      subst (λ x. Precedes x v) (red_once z.0 u (k, z.1) (k, a) (omega (arith, z.2)) z.2) z.3
  red_chain (suc n) k u v a b l e =
      let z = red_last (u.stamp.red + suc n) k v b (omega arith) (omega arith) in
      trans u z.0 v (k, a) (k, z.1) (k, b) (red_chain n k u z.0 a z.1 l z.2) z.3

  red_cross : (u v : Message) → Back log u → Back log v → 0 < u.stamp.red → u.stamp.red < v.stamp.red → Precedes u v
  red_cross u v a b l e =
      let w = red_within (reverse (log b.0)) v (released b.0) b.1 in
      let f = found_red (reverse (log b.0)) u.stamp.red (released b.0) l (omega arith) in
      let s = red_once f.0 u (b.0, f.1) a (omega (arith, f.2)) f.2 in
      red_chain (v.stamp.red - u.stamp.red - 1) b.0 u v (subst (λ x. Has x (reverse (log b.0))) s f.1) b.1 l (omega arith)

  pub back_order : IsRedBlueOrder (Back log)
  back_order = record {
    irreflexive = λ u a q. let f = o u a in omega arith;
    transitive = λ u v x a b c q r. trans u v x a b c q r;
    reds =
        λ u v a b l m. ⊎_elim (λ e. inl (red_once u v a b l e)) (λ d. inr (⊎_elim (λ f. inl (red_cross u v a b l f)) (λ f. inr (red_cross v u b a m f)) d))
        (cases_order u.stamp.red v.stamp.red);
  }

  pub back_serializes : (k : K) → Serializes (sites k) (Back log) (log k)
  back_serializes k = record {
    members = λ u h. (k, has_back u (log k) h);
    distinct = λ u h. distinct_back (reverse (log k)) u (released k) (behind_from u u (log k) h);
    closed = λ u v a h q. subst (StandsBefore u v) (reverse-reverse (log k)) (before_from u v _ (closed k _ u v (each k) (λ x m. m) a (has_back v _ h) q));
    causal = λ u v h e. causal_back _ u v (released k) (checked_made _ _ (each k)) (behind_from u v _ h) e;
  }

-- ---- as they stand
module _ (logs : List Log) (f : AreFaultless logs) (formed : (v : Message) → Logged logs v → IsFormed v) where
  abbrev messages : OneOf logs → List Message
  messages k = k.0.messages

  to_back : {u : Message} → Logged logs u → Back messages u
  to_back {u} a = (a.0, has_back u a.0.0.messages a.1)

  of_back : {u : Message} → Back messages u → Logged logs u
  of_back {u} a = (a.0, has_reverse u a.0.0.messages a.1)

  back_clash : (u v : Message) → Back messages u → Back messages v → u.stamp.id.site ≡ v.stamp.id.site → u.stamp.id.seq ≡ v.stamp.id.seq → u ≡ v
  back_clash u v a b = f.clash u v (of_back a) (of_back b)

  back_once : (u v : Message) → Back messages u → Back messages v → 0 < u.stamp.red → u.stamp.red ≡ v.stamp.red → u ≡ v
  back_once u v a b = f.red_once u v (of_back a) (of_back b)

  back_own : (v : Message) → Back messages v → v.stamp.id.seq ≡ dep v v.stamp.id.site + 1
  back_own v a = (formed v (of_back a)).own

  pub sound_order : IsRedBlueOrder (Logged logs)
  sound_order = let r = back_order (λ k. k.0.site) messages (λ k. f.ordered k.0 k.1) back_clash back_once back_own in record {
    irreflexive = λ u a. r.irreflexive u (to_back a);
    transitive = λ u v x a b c. r.transitive u v x (to_back a) (to_back b) (to_back c);
    reds = λ u v a b. r.reds u v (to_back a) (to_back b);
  }

  pub sound_log : (log : Log) → Has log logs → Serializes log.site (Logged logs) log.messages
  sound_log log h = let r = back_serializes (λ k. k.0.site) messages (λ k. f.ordered k.0 k.1) back_clash back_once back_own (log, h) in record {
    members = λ u g. ((log, h), g);
    distinct = r.distinct;
    closed = λ u v a. r.closed u v (to_back a);
    causal = r.causal;
  }

-- ---- the logs of a run pass
is_ordered : {w : World} (i : ℕ) (past : List Message) (v : Message) → Sound w → Released (v ∷ past) → CountedBy i (v ∷ past)
    → ((x : Message) → Has x (v ∷ past) → Sent w x) → IsOrdered i past v
is_ordered {w} i past v s r m all = record {
  ready = r.0;
  made = m.0;
  carries = carry;
  red_before = λ u h l e. s.reds.ordered u v (all u (inr h)) (all v (inl refl)) l (omega arith);
}
  where
    carry : (u : Message) → Has u past → u.stamp.id.seq ≡ dep v u.stamp.id.site → (k : ℕ) → dep u k ≤ dep v k
    carry u h e k =
        let t = made_at v.stamp.id.site (reverse (site w v.stamp.id.site).log) v (s.good v.stamp.id.site).made (s.good v.stamp.id.site).decided
        (s.good v.stamp.id.site).released (s.home.home v (all v (inl refl))) refl in
        let u_in : Has u t.0 = there w t.0 u s t.1 (λ y q. (s.good v.stamp.id.site).log_sent y (t.3 y q)) (all u (inr h))
        (omega (arith, t.2 u.stamp.id.site)) in
        let f = own w u s (all u (inr h)) in
        ⊎_elim (λ q. let g = ap (dep u) q in let d = ap (dep v) q in omega arith) (λ q. omega (arith, dep_within t.0 u k t.1 u_in q, t.2 k))
        (cases_eq k u.stamp.id.site)

pub run_ordered : {w : World} (i : ℕ) (past : List Message) → Sound w → Released past → CountedBy i past → ((x : Message) → Has x past → Sent w x)
    → AllOrdered i past
run_ordered i [] s r m all = tt
run_ordered i (v ∷ past) s r m all = (is_ordered i past v s r m all, run_ordered i past s r.1 m.1 (λ x h. all x (inr h)))
