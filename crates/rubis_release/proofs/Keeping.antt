-- What a site's log, its clock and its waiting messages keep.
use Rattle.rubis_release.proofs.Common.{◌≡◌, ℕ, ◌+◌, ◌<◌, ◌≤◌, List, [], ◌∷◌, ◌++◌, length, get_or, sym, ap, ◌∙◌, subst, ⊎_elim, arith, ◌≢◌, ◌==◌}
use Rattle.rubis_release.proofs.Common.{Bool, true, false, ◌||◌, refl, inl, inr, zero, suc, take, length-append, ◌↔◌, nat_lt, nat_le, cases_lt}
use Rattle.rubis_release.proofs.Common.{eq-eqb, lt-ltb, le-leb, leb-false, get_or_past, length_push, append-nil, get_or_append_left, MessageCounts}
use Rattle.rubis_release.proofs.Common.{IsReady, Stamp, Message, dep, counted, Ready, counts, Has, Settles, Place, Replica, list_any, remove, Id}
use Rattle.rubis_release.proofs.Common.{same_id, Decides-same_id}
use Rattle.std.proofs.Common.{set, drop, add-one}
use Rattle.std.specs.Prelude.{replicate, vec_len, vec_capacity, reverse, Result, OnOk}
use Rattle.std.specs.Global.{Vec}
use Rattle.std.proofs.lemmas.Bool.{cases_eq, or_parts, or_cases, and_from, leb-true}
use Rattle.std.proofs.lemmas.List.{get_or-set_same, get_or-set_other, length-set, get_or-replicate, length-replicate, get_or_push, drop_more}
use Rattle.std.proofs.lemmas.List.{take-append-drop, length-take, get_or-take}
use Rattle.std.proofs.lemmas.List.FromFn.{get_or-map-range_with_len, length-map-range_with_len}
use Rattle.std.proofs.lemmas.Grind.{same_number_lists}
use Rattle.rubis_clock.specs.Clocks.{advanced, opening_clock}
use Rattle.rubis_model.proofs.Settling.{counted_yes, counted_no, counted_push, reds_push, seq_within, found, counted_reverse, reds_reverse}
use Rattle.rubis_model.proofs.Settling.{reverse_push, push_cases, has_reverse, has_back}
use Rattle.rubis_model.specs.Site.Settles.{Rest, Release}
use Rattle.rubis_model.specs.System.{Released}
use Rattle.std.proofs.lemmas.List.Edits.{length-remove}
use Rattle.std.proofs.lemmas.Option.{get_or_from_slice_get}
use Rattle.std.proofs.lemmas.Result.{on_ok_weaker}
use Rattle.rubis_release.specs.Release.{clock_of, IsAmong, AllAmong, AreCounted, message_id, HaveOwnIds, AreKept, IsAdmitted, IsFirst, NoneReady}
use mathlib.Core.Bool.{true≢false}
use Rattle.rubis_release.specs.Waiting.{TakesFirstReady}

pub length_counts : (n : ℕ) (log : List Message) → length (counts n log) ≡ n
length_counts n log = length-map-range_with_len (λ j. counted j log) 0 n

pub counts_at : (n : ℕ) (log : List Message) (j : ℕ) → j < n → get_or (counts n log) j 0 ≡ counted j log
counts_at n log j l = get_or-map-range_with_len (λ j. counted j log) 0 n j j 0 l (omega arith)

-- with nothing counted it is the clock of the empty log
pub opening_counts : (sites : ℕ) → opening_clock sites ≡ clock_of sites []
opening_counts sites = λ i. record { counts = same i; red = 0 }
  where
    same : replicate sites 0 ≡ counts sites []
    same = same_number_lists (replicate sites 0) (counts sites []) (length-replicate {A = ℕ} sites 0 ∙ sym (length_counts sites []))
        (λ j l. let k : j < sites = (let e = length-replicate {A = ℕ} sites 0 in omega (arith, e, l)) in
        get_or-replicate {A = ℕ} sites j 0 0 k ∙ sym (counts_at sites [] j k))

-- a message counts nothing of sites past its own ones
none_past : (n : ℕ) (m : Message) (j : ℕ) → IsAmong n m → n ≤ j → dep m j ≡ 0
none_past n m j a l = let e = a.counts in get_or_past m.stamp.deps j 0 (omega arith)

-- what a message counts of a site is within the clock where it is within the log
dep_within : (n : ℕ) (log : List Message) (m : Message) (j : ℕ) → IsAmong n m → (dep m j ≤ get_or (counts n log) j 0) ↔ (dep m j ≤ counted j log)
dep_within n log m j a = ⊎_elim
    (λ l. let e = counts_at n log j l in ((λ h. omega (arith, e, h)), (λ h. omega (arith, e, h))))
    (λ l. let e = none_past n m j a l in ((λ h. omega (arith, e)), (λ h. omega (arith, e))))
    (cases_lt j n)

-- what the clock takes for ready is ready after the log
pub ready_after : (n : ℕ) (log : List Message) (m : Message) → IsAmong n m → IsReady (clock_of n log) m.stamp → Ready log m
ready_after n log m a r = record {
  next = r.next ∙ ap (λ k. k + 1) (counts_at n log m.stamp.id.site a.id.site);
  released = λ j ne. (dep_within n log m j a).0 (r.released j ne);
  number = r.number;
}

-- and what is ready after the log the clock takes for ready
pub ready_by_clock : (n : ℕ) (log : List Message) (m : Message) → IsAmong n m → Ready log m → IsReady (clock_of n log) m.stamp
ready_by_clock n log m a r = record {
  next = r.next ∙ ap (λ k. k + 1) (sym (counts_at n log m.stamp.id.site a.id.site));
  released = λ j ne. (dep_within n log m j a).1 (r.released j ne);
  number = r.number;
}

counted_more : (n : ℕ) (log : List Message) (m : Message) (j : ℕ) → m.stamp.id.site < n → j < n
    → get_or (set (counts n log) m.stamp.id.site (get_or (counts n log) m.stamp.id.site 0 + 1)) j 0 ≡ counted j (log ++ m ∷ [])
counted_more n log m j l k = ⊎_elim here there (cases_eq m.stamp.id.site j)
  where
    within : m.stamp.id.site < length (counts n log)
    within = let e = length_counts n log in omega arith

    here : m.stamp.id.site ≡ j → get_or (set (counts n log) m.stamp.id.site (get_or (counts n log) m.stamp.id.site 0 + 1)) j 0 ≡ counted j (log ++ m ∷ [])
    here e =
        ap (λ i. get_or (set (counts n log) m.stamp.id.site (get_or (counts n log) m.stamp.id.site 0 + 1)) i 0) (sym e)
        ∙ get_or-set_same (counts n log) m.stamp.id.site (get_or (counts n log) m.stamp.id.site 0 + 1) 0 within
        ∙ ap (λ i. i + 1) (counts_at n log m.stamp.id.site l ∙ ap (λ i. counted i log) e)
        ∙ sym (counted_push j log m ∙ counted_yes j m log e)

    there : (m.stamp.id.site ≡ j → ⊥) → get_or (set (counts n log) m.stamp.id.site (get_or (counts n log) m.stamp.id.site 0 + 1)) j 0
        ≡ counted j (log ++ m ∷ [])
    there e =
        get_or-set_other (counts n log) m.stamp.id.site j (get_or (counts n log) m.stamp.id.site 0 + 1) 0 (λ q. e (sym q))
        ∙ counts_at n log j k
        ∙ sym (counted_push j log m ∙ counted_no j m log e)

-- with one message more, it is the clock of the longer log
pub clock_more : (n : ℕ) (log : List Message) (m : Message) → m.stamp.id.site < n → advanced (clock_of n log) m.stamp ≡ clock_of n (log ++ m ∷ [])
clock_more n log m l =
    let row : List ℕ = set (counts n log) m.stamp.id.site (get_or (counts n log) m.stamp.id.site 0 + 1) in
    let size : length row ≡ n = length-set (counts n log) m.stamp.id.site (get_or (counts n log) m.stamp.id.site 0 + 1) ∙ length_counts n log in
    let same : row ≡ counts n (log ++ m ∷ []) =
    same_number_lists row (counts n (log ++ m ∷ [])) (size ∙ sym (length_counts n (log ++ m ∷ [])))
    (λ j k. counted_more n log m j l (subst (λ x. j < x) size k) ∙ sym (counts_at n (log ++ m ∷ []) j (subst (λ x. j < x) size k))) in
    λ i. record { counts = same i; red = sym (reds_push log m) i }

-- ---- the messages of a site
-- none yet
pub none_counted : (sites : ℕ) (log : Vec Message) (waiting : List Message) (k : MessageCounts) → log.items ≡ [] → vec_len log ≡ 0 → waiting ≡ [] → k
    ≡ opening_clock sites → AreCounted log waiting k
none_counted sites log waiting k empty size none e =
    let is : k ≡ clock_of sites [] = e ∙ opening_counts sites in
    let same : length k.counts ≡ sites = ap (λ (x : MessageCounts). length x.counts) is ∙ length_counts sites [] in
    record {
      room = let z = ap length none in omega (arith, size, z);
      sites = subst (AllAmong (length k.counts)) (sym none) (λ m h. absurd h);
      counts = is ∙ (λ i. clock_of (sym same i) (sym empty i));
    }

pub sites_stay : (k k' : MessageCounts) (s : Stamp) → k' ≡ advanced k s → length k'.counts ≡ length k.counts
sites_stay k k' s e = ap (λ (x : MessageCounts). length x.counts) e ∙ length-set k.counts s.id.site (get_or k.counts s.id.site 0 + 1)

-- one is released
pub counted_on : (log : List Message) (log' : Vec Message) (waiting : List Message) (k k' : MessageCounts) (m : Message) (s : Stamp) → k
    ≡ clock_of (length k.counts) log → AllAmong (length k.counts) waiting → IsAmong (length k.counts) m
    → s ≡ m.stamp → k' ≡ advanced k s → log'.items ≡ log ++ m ∷ [] → vec_len log' + length waiting ≤ vec_capacity log' → AreCounted log' waiting k'
counted_on log log' waiting k k' m s c all a is next more room =
    let same : length k'.counts ≡ length k.counts = sites_stay k k' s next in
    record {
      room = room;
      sites = subst (λ n. AllAmong n waiting) (sym same) all;
      counts = next ∙ ap (advanced k) is ∙ ap (λ x. advanced x m.stamp) c ∙ clock_more (length k.counts) log m a.id.site
          ∙ (λ i. clock_of (sym same i) (sym more i));
    }

-- ---- what a site's log and waiting messages keep

-- ---- ids
same_ids : (u m : Message) → u.stamp.id.site ≡ m.stamp.id.site → u.stamp.id.seq ≡ m.stamp.id.seq → message_id u ≡ message_id m
same_ids u m a b = λ i. record { site = a i; seq = b i }

has_more : (x m : Message) (front back : List Message) → Has x (front ++ back) → Has x (front ++ m ∷ back)
has_more x m [] back h = inr h
has_more x m (y ∷ front) back (inl e) = inl e
has_more x m (y ∷ front) back (inr h) = inr (has_more x m front back h)

has_middle : (m : Message) (front back : List Message) → Has m (front ++ m ∷ back)
has_middle m [] back = inl refl
has_middle m (y ∷ front) back = inr (has_middle m front back)

-- one of the messages has no other's id
pub other_ids : (m : Message) (front back : List Message) → HaveOwnIds (front ++ m ∷ back) → (u : Message) → Has u (front ++ back) → message_id u ≢ message_id m
other_ids m [] back h u k = h.0 u k
other_ids m (y ∷ front) back h u (inl e) = λ q. h.0 m (has_middle m front back) (sym q ∙ ap message_id e)
other_ids m (y ∷ front) back h u (inr k) = other_ids m front back h.1 u k

pub own_less : (m : Message) (front back : List Message) → HaveOwnIds (front ++ m ∷ back) → HaveOwnIds (front ++ back)
own_less m [] back h = h.1
own_less m (y ∷ front) back h = ((λ u k. h.0 u (has_more u m front back k)), own_less m front back h.1)

pub own_more : (m : Message) (xs : List Message) → HaveOwnIds xs → ((u : Message) → Has u xs → message_id m ≢ message_id u) → HaveOwnIds (xs ++ m ∷ [])
own_more m [] h n = ((λ u k. absurd k), tt)
own_more m (y ∷ xs) h n = (
  (λ u k. ⊎_elim (λ l. h.0 u l) (λ e q. n y (inl refl) (ap message_id (sym e) ∙ q)) (push_cases u m xs k)),
  own_more m xs h.1 (λ u k. n u (inr k)),
)

-- ---- the log with one message more
ready_newest_first : (log : List Message) (m : Message) → Ready log m → Ready (reverse log) m
ready_newest_first log m r = record {
  next = r.next ∙ ap (λ k. k + 1) (sym (counted_reverse m.stamp.id.site log));
  released = λ j n. subst (λ k. dep m j ≤ k) (sym (counted_reverse j log)) (r.released j n);
  number = λ l. r.number l ∙ ap (λ k. k + 1) (sym (reds_reverse log));
}

released_more : (log : List Message) (m : Message) → Released (reverse log) → Ready log m → Released (reverse (log ++ m ∷ []))
released_more log m h r = subst Released (sym (reverse_push log m)) (ready_newest_first log m r, h)

pub among_more : (n : ℕ) (xs : List Message) (m : Message) → AllAmong n xs → IsAmong n m → AllAmong n (xs ++ m ∷ [])
among_more n xs m all a x h = ⊎_elim (λ k. all x k) (λ e. subst (IsAmong n) (sym e) a) (push_cases x m xs h)

still_unreleased : (log : List Message) (m u : Message) → Ready log m → counted u.stamp.id.site log < u.stamp.id.seq → message_id u ≢ message_id m →
    counted u.stamp.id.site (log ++ m ∷ []) < u.stamp.id.seq
still_unreleased log m u r l n = ⊎_elim
    (λ e.
    let more = counted_push u.stamp.id.site log m ∙ counted_yes u.stamp.id.site m log e in
    let next : m.stamp.id.seq ≡ counted u.stamp.id.site log + 1 = r.next ∙ ap (λ j. counted j log + 1) e in
    ⊎_elim (λ q. absurd (n (same_ids u m (sym e) q))) (λ q. omega (arith, more, next, l, q)) (cases_eq u.stamp.id.seq m.stamp.id.seq))
    (λ e. let more = counted_push u.stamp.id.site log m ∙ counted_no u.stamp.id.site m log e in omega (arith, more, l))
    (cases_eq m.stamp.id.site u.stamp.id.site)

-- ---- a waiting message is released
release_keeps : (p : Place) (log front back : List Message) (m : Message) → AreKept p log (front ++ m ∷ back) → Ready log m →
    AreKept p (log ++ m ∷ []) (front ++ back)
release_keeps p log front back m k r = record {
  few = omega (arith, k.few, length_push log m, length-append front (m ∷ back), length-append front back);
  log_sites = among_more p.sites log m k.log_sites (k.waiting_sites m (has_middle m front back));
  waiting_sites = λ x h. k.waiting_sites x (has_more x m front back h);
  released = released_more log m k.released r;
  others = λ x h. k.others x (has_more x m front back h);
  unreleased = λ x h. still_unreleased log m x r (k.unreleased x (has_more x m front back h)) (other_ids m front back k.own_ids x h);
  own_ids = own_less m front back k.own_ids;
}

pub settling_keeps : (p : Place) (log waiting log' waiting' : List Message) → AreKept p log waiting → Settles log waiting log' waiting' →
    AreKept p log' waiting'
settling_keeps p _ _ _ _ k (Rest log waiting h) = k
settling_keeps p _ _ _ _ k (Release log front back log' waiting' m h r s) = settling_keeps p (log ++ m ∷ []) (front ++ back) log' waiting'
    (release_keeps p log front back m k r) s

pub settling_longer : (log waiting log' waiting' : List Message) → Settles log waiting log' waiting' → length log ≤ length log'
settling_longer _ _ _ _ (Rest log waiting h) = omega arith
settling_longer _ _ _ _ (Release log front back log' waiting' m h r s) = let e = settling_longer (log ++ m ∷ []) (front ++ back) log' waiting' s in
    omega (arith, e, length_push log m)

-- ---- a message of the site itself is released
pub making_keeps : (p : Place) (log waiting : List Message) (m : Message) → AreKept p log waiting → length log + length waiting < p.keep → m.stamp.id.site
    ≡ p.site → IsAmong p.sites m → Ready log m → AreKept p (log ++ m ∷ []) waiting
making_keeps p log waiting m k l e a r = record {
  few = omega (arith, l, length_push log m);
  log_sites = among_more p.sites log m k.log_sites a;
  waiting_sites = k.waiting_sites;
  released = released_more log m k.released r;
  others = k.others;
  unreleased = λ x h. still_unreleased log m x r (k.unreleased x h) (λ q. k.others x h (ap (λ (i : Id). i.site) q ∙ e));
  own_ids = k.own_ids;
}

-- ---- a message comes
pub has_any : (test : Message → Bool) (xs : List Message) → list_any test xs ≡ true → (u : Message) × (Has u xs) × (test u ≡ true)
has_any test [] e = absurd (true≢false (sym e))
has_any test (x ∷ xs) e = ⊎_elim (λ h. (x, inl refl, h)) (λ h. let f = has_any test xs h in (f.0, inr f.1, f.2)) (or_cases (test x) (list_any test xs) e)

pub any_has : (test : Message → Bool) (xs : List Message) (u : Message) → Has u xs → test u ≡ true → list_any test xs ≡ true
any_has test [] u h e = absurd h
any_has test (x ∷ xs) u (inl e) h = ap (λ b. b || list_any test xs) (ap test (sym e) ∙ h)
any_has test (x ∷ xs) u (inr k) h = or_right (test x) (list_any test xs) (any_has test xs u k h)
  where
    or_right : (a b : Bool) → b ≡ true → (a || b) ≡ true
    or_right true b e = refl
    or_right false b e = e

same_tests : (a b : Bool) → (a ≡ true → b ≡ true) → (b ≡ true → a ≡ true) → a ≡ b
same_tests true b f g = sym (f refl)
same_tests false true f g = g refl
same_tests false false f g = refl

-- the log has the id if and only if the number is within the count
pub is_released : (log : List Message) (m : Message) → Released (reverse log) → 1 ≤ m.stamp.id.seq →
    list_any (λ (u : Message). same_id m.stamp.id u.stamp.id) log ≡ nat_le m.stamp.id.seq (counted m.stamp.id.site log)
is_released log m r one = same_tests _ _ forth back
  where
    forth : list_any (λ (u : Message). same_id m.stamp.id u.stamp.id) log ≡ true → nat_le m.stamp.id.seq (counted m.stamp.id.site log) ≡ true
    forth e =
        let f = has_any (λ (u : Message). same_id m.stamp.id u.stamp.id) log e in
        let same : m.stamp.id ≡ f.0.stamp.id = (Decides-same_id m.stamp.id f.0.stamp.id).0 f.2 in
        let w = seq_within (reverse log) f.0 r (has_back f.0 log f.1) in
        le-leb m.stamp.id.seq (counted m.stamp.id.site log)
        (subst (λ (i : Id). i.seq ≤ counted i.site log) (sym same) (let c = counted_reverse f.0.stamp.id.site log in omega (arith, w.1, c)))

    back : nat_le m.stamp.id.seq (counted m.stamp.id.site log) ≡ true → list_any (λ (u : Message). same_id m.stamp.id u.stamp.id) log ≡ true
    back e =
        let l : m.stamp.id.seq ≤ counted m.stamp.id.site (reverse log) =
        (let c = counted_reverse m.stamp.id.site log in let k = leb-true m.stamp.id.seq (counted m.stamp.id.site log) e in omega (arith, c, k)) in
        let f = found (reverse log) m.stamp.id.site m.stamp.id.seq r one l in
        any_has (λ (u : Message). same_id m.stamp.id u.stamp.id) log f.0 (has_reverse f.0 log f.1)
        ((Decides-same_id m.stamp.id f.0.stamp.id).1 (same_ids m f.0 (sym f.2) (sym f.3)))

pub coming_keeps : (p : Place) (s : Replica) (m : Message) → AreKept p s.log s.waiting → IsAmong p.sites m → IsAdmitted p s m →
    AreKept p s.log (s.waiting ++ m ∷ [])
coming_keeps p s m k a t = record {
  few = omega (arith, room, length_push s.waiting m);
  log_sites = k.log_sites;
  waiting_sites = among_more p.sites s.waiting m k.waiting_sites a;
  released = k.released;
  others = λ x h. ⊎_elim (λ l. k.others x l) (λ e. subst (λ (u : Message). u.stamp.id.site ≢ p.site) (sym e) other) (push_cases x m s.waiting h);
  unreleased = λ x h. ⊎_elim (λ l. k.unreleased x l) (λ e. subst (λ (u : Message). counted u.stamp.id.site s.log < u.stamp.id.seq) (sym e) new)
      (push_cases x m s.waiting h);
  own_ids = own_more m s.waiting k.own_ids
      (λ u h q. true≢false (sym (any_has (λ (x : Message). same_id m.stamp.id x.stamp.id) s.waiting u h ((Decides-same_id m.stamp.id u.stamp.id).1 q))
      ∙ parts.1));
}
  where
    parts : (list_any (λ (u : Message). same_id m.stamp.id u.stamp.id) s.log ≡ false)
        × (list_any (λ (u : Message). same_id m.stamp.id u.stamp.id) s.waiting ≡ false)
    parts = or_parts (list_any (λ (u : Message). same_id m.stamp.id u.stamp.id) s.log)
        (list_any (λ (u : Message). same_id m.stamp.id u.stamp.id) s.waiting) t.new

    room : length s.log + length s.waiting < p.keep
    room = leb-false p.keep (length s.log + length s.waiting) t.room

    new : counted m.stamp.id.site s.log < m.stamp.id.seq
    new = leb-false m.stamp.id.seq (counted m.stamp.id.site s.log) (sym (is_released s.log m k.released a.id.positive) ∙ parts.0)

    other : m.stamp.id.site ≢ p.site
    other e = true≢false (sym
        (and_from (m.stamp.id.site == p.site) (nat_lt (counted p.site s.log) m.stamp.id.seq) (eq-eqb m.stamp.id.site p.site e)
        (lt-ltb (counted p.site s.log) m.stamp.id.seq (subst (λ j. counted j s.log < m.stamp.id.seq) e new))) ∙ t.not_ours)

-- ---- messages of a list

-- what stands at a place is in the list
pub has_there : (xs : List Message) (i : ℕ) (d : Message) → i < length xs → Has (get_or xs i d) xs
has_there [] i d l = absurd (omega arith)
has_there (x ∷ xs) zero d l = inl refl
has_there (x ∷ xs) (suc i) d l = inr (has_there xs i d (omega arith))

-- ---- what is released by its place among the waiting ones

place_of : (xs : List Message) (x : Message) → Has x xs → (k : ℕ) × (k < length xs) × ((d : Message) → get_or xs k d ≡ x)
place_of [] x h = absurd h
place_of (y ∷ xs) x (inl e) = (0, omega arith, (λ d. sym e))
place_of (y ∷ xs) x (inr h) = let f = place_of xs x h in (suc f.0, omega (arith, f.1), f.2)

-- what the clock doesn't take for ready isn't ready after the log
not_ready : (n : ℕ) (log waiting : List Message) (k : ℕ) (x : Message) → AllAmong n waiting → k < length waiting → get_or waiting k x ≡ x →
    (IsReady (clock_of n log) (get_or waiting k x).stamp → ⊥) → Ready log x → ⊥
not_ready n log waiting k x all l here not r =
    not (ready_by_clock n log (get_or waiting k x) (all (get_or waiting k x) (has_there waiting k x l)) (subst (Ready log) (sym here) r))

none_after : (n : ℕ) (log waiting : List Message) → AllAmong n waiting → NoneReady (clock_of n log) waiting → (x : Message) → Has x waiting → Ready log x → ⊥
none_after n log waiting all none x h = let f = place_of waiting x h in not_ready n log waiting f.0 x all f.1 (f.2 x) (none f.0 x f.1)

-- nothing is ready, so it has settled
pub at_rest : (n : ℕ) (log waiting : List Message) → AllAmong n waiting → NoneReady (clock_of n log) waiting → Settles log waiting log waiting
at_rest n log waiting all none = Rest log waiting (none_after n log waiting all none)

-- a message that comes is released where it is ready and none that waits is
comes_first : (n : ℕ) (log waiting log_after left : List Message) (m : Message) → AllAmong n waiting → IsAmong n m → NoneReady (clock_of n log) waiting
    → IsReady (clock_of n log) m.stamp → Settles (log ++ m ∷ []) waiting log_after left → Settles log (waiting ++ m ∷ []) log_after left
comes_first n log waiting log_after left m all among none ready s =
    Release log waiting [] log_after left m (none_after n log waiting all none) (ready_after n log m among ready)
    (subst (λ q. Settles (log ++ m ∷ []) q log_after left) (sym (append-nil waiting)) s)

pub comes_first_ok : {E : Type 0} (r : Result (Unit {0}) E) (n : ℕ) (log waiting log_after left : List Message) (m : Message) → AllAmong n waiting →
    IsAmong n m → NoneReady (clock_of n log) waiting → IsReady (clock_of n log) m.stamp
    → OnOk r (Settles (log ++ m ∷ []) waiting log_after left) → OnOk r (Settles log (waiting ++ m ∷ []) log_after left)
comes_first_ok r n log waiting log_after left m all among none ready s = on_ok_weaker r (comes_first n log waiting log_after left m all among none ready) s

-- a message that isn't ready waits after others that aren't
none_more : (clock : MessageCounts) (waiting : List Message) (m : Message) → NoneReady clock waiting → (IsReady clock m.stamp → ⊥)
    → NoneReady clock (waiting ++ m ∷ [])
none_more clock waiting m none waits k d within r = elim (cases_lt k (length waiting)) [
  | inl low ↦ none k d low (subst (λ (x : Message). IsReady clock x.stamp) (get_or_append_left waiting (m ∷ []) d k low) r)
  | inr high ↦
      let here : k ≡ length waiting = let more = length-append waiting (m ∷ []) in omega (arith, more, within, high) in
      waits (subst (λ (x : Message). IsReady clock x.stamp) (get_or_push waiting m d k (sym here)) r)
]

pub waits_on : (n : ℕ) (log waiting : List Message) (m : Message) → AllAmong n waiting → IsAmong n m → NoneReady (clock_of n log) waiting →
    (IsReady (clock_of n log) m.stamp → ⊥)
    → NoneReady (clock_of n log) (waiting ++ m ∷ []) × Settles log (waiting ++ m ∷ []) log (waiting ++ m ∷ [])
waits_on n log waiting m all among none waits =
    let still : NoneReady (clock_of n log) (waiting ++ m ∷ []) = none_more (clock_of n log) waiting m none waits in
    (still, at_rest n log (waiting ++ m ∷ []) (among_more n waiting m all among) still)

-- what is left was there
has_left_over : (xs : List Message) (i : ℕ) (x : Message) → Has x (remove xs i) → Has x xs
has_left_over [] zero x h = h
has_left_over [] (suc i) x h = h
has_left_over (y ∷ xs) zero x h = inr h
has_left_over (y ∷ xs) (suc i) x (inl e) = inl e
has_left_over (y ∷ xs) (suc i) x (inr h) = inr (has_left_over xs i x h)

-- the first that is ready goes over
goes_over : (n : ℕ) (log waiting log_after left : List Message) (i : ℕ) (m : Message) → AllAmong n waiting → IsFirst (clock_of n log) waiting i →
    get_or waiting i m ≡ m → Ready log m
    → Settles (log ++ m ∷ []) (remove waiting i) log_after left → Settles log waiting log_after left
goes_over n log waiting log_after left i m all f at ready s =
    let w : take i waiting ++ m ∷ drop (i + 1) waiting
    ≡ waiting = ap (λ q. take i waiting ++ q) (ap (λ q. q ∷ drop (i + 1) waiting) (sym at) ∙ sym (drop_more waiting i m f.within))
    ∙ take-append-drop i waiting in
    let t : Settles (log ++ m ∷ []) (take i waiting ++ drop (i + 1) waiting) log_after left = rw add-one s in
    subst (λ q. Settles log q log_after left) w
    (Release log (take i waiting) (drop (i + 1) waiting) log_after left m (λ x k. front x (place_of (take i waiting) x k)) ready t)
  where
    front : (x : Message) → ((k : ℕ) × (k < length (take i waiting)) × ((d : Message) → get_or (take i waiting) k d ≡ x)) → Ready log x → ⊥
    front x h =
        let l : h.0 < i = omega (arith, h.1, length-take i waiting) in
        not_ready n log waiting h.0 x all (omega (arith, l, f.within)) (sym (get_or-take i waiting h.0 x l) ∙ h.2 x) (f.first h.0 x l)

-- the first that is ready is released, and the others wait on
pub record IsTurn (clock : MessageCounts) (log waiting left : List Message) (m : Message) : Type 0 where
  pub among : IsAmong (length clock.counts) m
  pub ready : IsReady clock m.stamp
  pub sites : AllAmong (length clock.counts) left
  pub shorter : length left + 1 ≡ length waiting
  pub settles : (log' left' : List Message) → Settles (log ++ m ∷ []) left log' left' → Settles log waiting log' left'

pub turn : (clock : MessageCounts) (log : Vec Message) (waiting left : List Message) (m : Message) → AreCounted log waiting clock →
    TakesFirstReady clock waiting m left → IsTurn clock log.items waiting left m
turn clock log waiting left m counted t = subst (λ w. IsTurn clock log.items waiting w m) (sym t.rest) (record {
  among = among;
  ready = ready;
  sites = λ x h. counted.sites x (has_left_over waiting t.at x h);
  shorter = length-remove waiting t.at t.first.within;
  settles = λ a b s. goes_over (length clock.counts) log.items waiting a b t.at m counted.sites
      (subst (λ k. IsFirst k waiting t.at) counted.counts t.first) here
      (ready_after (length clock.counts) log.items m among (subst (λ k. IsReady k m.stamp) counted.counts ready)) s;
})
  where
    here : get_or waiting t.at m ≡ m
    here = get_or_from_slice_get waiting t.at m m t.message

    among : IsAmong (length clock.counts) m
    among = counted.sites m (subst (λ x. Has x waiting) here (has_there waiting t.at m t.first.within))

    ready : IsReady clock m.stamp
    ready = subst (λ (x : Message). IsReady clock x.stamp) here (t.first.ready m)
