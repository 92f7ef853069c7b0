-- How logs are merged, and what a log lacks: what is new is what its clock doesn't count.
use Rattle.rubis_audit.proofs.Common.{ℕ, ◌≡◌, ◌+◌, ◌<◌, ◌≤◌, zero, suc, List, [], ◌∷◌, ◌++◌, length, get_or, take, drop, Bool, true, false, cond}
use Rattle.rubis_audit.proofs.Common.{refl, sym, ap, ◌∙◌, subst, arith, inl, inr, ⊎_elim, drop-cons, add-one, append_assoc, ◌&&◌, ◌==◌, ◌-◌, Option}
use Rattle.rubis_audit.proofs.Common.{Some, None, filter, map, not, nat_lt, reverse, slice_index, Bor, cases_lt, nat_tests, drop_all, take_all}
use Rattle.rubis_audit.proofs.Common.{take_more, append-nil, MessageCounts, IsReady, advanced, opening_clock, IsMessage, Message, dep, sites_of}
use Rattle.rubis_audit.proofs.Common.{AreFaultless, lack_rows, lack_rows_from, made_at, red_rows, waits_rows, Log, Released, Has, counted, contained}
use Rattle.rubis_audit.proofs.Common.{has_back, has_left, has_reverse, push_cases, found, counted_reverse, reverse_push, log_released, AllAmong}
use Rattle.rubis_audit.proofs.Common.{IsAmong, clock_of, clock_more, counts_at, length_counts, opening_counts, ready_by_clock, rows_text, text-goes}
use Rattle.rubis_audit.proofs.Common.{flat_map, range_with_len, Id}
use Rattle.std.proofs.lemmas.Bool.{cond-true, cond-false, true≢false}
use Rattle.std.proofs.lemmas.List.{take-append-drop}
use Rattle.std.proofs.lemmas.List.Elements.{filter-append}
use Rattle.rubis_model.specs.Audit.{Logged}
use Rattle.rubis_model.specs.Lack.{awaited, firsts, is_among, lacked, merged, awaited_red}
use Rattle.rubis_model.proofs.Settling.{has_last, seq_within}
use Rattle.rubis_laws.proofs.Runs.Delivering.{ready_forth}
use Rattle.rubis_laws.proofs.Lacking.InOrder.{among_in, of_merged, released_front, released_push, in_merged}
use Rattle.rubis_laws.proofs.Runs.Written.{listed}
use Rattle.rubis_engine.proofs.TextFacts.{text-more}
use Rattle.std.specs.List.{cons_option, filter_map}
use Rattle.rubis_audit.specs.Walks.{IsMerged, HaveMessagesAmong, messages_of_logs}
use Rattle.rubis_audit.proofs.Walking.{among_at, sites_at}
use Rattle.rubis_audit.specs.Running.{none_lost, for_row, for_rows, for_rows_from}

pub drop_at : {X : Type 0} (xs : List X) (n : ℕ) (x : X) → n < length xs → x ≡ get_or xs n x → drop n xs ≡ x ∷ drop (n + 1) xs
drop_at xs n x l e = drop-cons xs n x l ∙ (λ i. sym e i ∷ drop (sym (add-one n) i) xs)

take_at : {X : Type 0} (xs : List X) (n : ℕ) (x : X) → n < length xs → x ≡ get_or xs n x → take (n + 1) xs ≡ take n xs ++ x ∷ []
take_at xs n x l e = take_more xs n x l ∙ ap (λ y. take n xs ++ y ∷ []) (sym e)

parted : {X : Type 0} (xs : List X) (n : ℕ) (x : X) → n < length xs → x ≡ get_or xs n x → xs ≡ take n xs ++ x ∷ drop (n + 1) xs
parted xs n x l e = sym (take-append-drop n xs) ∙ ap (λ q. take n xs ++ q) (drop_at xs n x l e)

-- what stands at a place is one
pub one_at : {A : Type 0} (xs : List A) (n : ℕ) (x y : A) → n < length xs → x ≡ get_or xs n x → y ≡ get_or xs n y → x ≡ y
one_at [] n x y l e f = absurd (omega arith)
one_at (z ∷ xs) zero x y l e f = e ∙ sym f
one_at (z ∷ xs) (suc n) x y l e f = one_at xs n x y (omega arith) e f

map_length : {A B : Type 0} (f : A → B) (xs : List A) → length (map f xs) ≡ length xs
map_length f [] = refl
map_length f (x ∷ xs) = ap suc (map_length f xs)

map_at : {A B : Type 0} (f : A → B) (xs : List A) (n : ℕ) (x : A) → n < length xs → x ≡ get_or xs n x → f x ≡ get_or (map f xs) n (f x)
map_at f [] n x l e = absurd (omega arith)
map_at f (y ∷ xs) zero x l e = ap f e
map_at f (y ∷ xs) (suc n) x l e = map_at f xs n x (omega arith) e

-- a message that is lent stands at its place among all of them
pub lent_at : (messages : List (Bor Message)) (n : ℕ) (m : Bor Message) → n < length messages → m ≡ get_or messages n m
    → (n < length (map (λ (x : Bor Message). x.now) messages)) × (m.now ≡ get_or (map (λ (x : Bor Message). x.now) messages) n m.now)
lent_at messages n m l e = let size = map_length (λ (x : Bor Message). x.now) messages in
    (omega (arith, size, l), map_at (λ (x : Bor Message). x.now) messages n m l e)

-- and is one of them
pub lent : (messages : List (Bor Message)) (n : ℕ) (m : Bor Message) → n < length messages → m ≡ get_or messages n m
    → Has m.now (map (λ (x : Bor Message). x.now) messages)
lent messages n m l e = let p = lent_at messages n m l e in contained (map (λ (x : Bor Message). x.now) messages) m.now (n, p.0, sym p.1)

-- a place behind all that are lent is one behind all of them
pub lent_all : (messages : List (Bor Message)) (n : ℕ) → length messages ≤ n → length (map (λ (x : Bor Message). x.now) messages) ≤ n
lent_all messages n l = let size = map_length (λ (x : Bor Message). x.now) messages in omega (arith, size, l)

-- a log at index `at` is merged up to its entry n
pub record Merges (sites : ℕ) (logs : List Log) (at : ℕ) (log : Log) (n : ℕ) (messages : List Message) (clock : MessageCounts) : Type 0 where
  pub rest : messages ++ firsts messages (drop n log.messages ++ messages_of_logs (drop (at + 1) logs)) ≡ merged logs
  pub released : Released (reverse messages)
  pub members : (m : Message) → Has m messages → Logged logs m
  pub within : (m : Message) → Has m (take n log.messages) → Has m messages
  pub among : AllAmong sites messages
  pub counts : clock ≡ clock_of sites messages

pub merges_start : (sites : ℕ) (logs : List Log) (at : ℕ) (log : Log) (messages : List Message) (clock : MessageCounts) → at < length logs
    → log ≡ get_or logs at log → IsMerged sites logs at messages clock → Merges sites logs at log 0 messages clock
merges_start sites logs at log messages clock l e m = record {
  rest = ap (λ q. messages ++ firsts messages (messages_of_logs q)) (sym (drop_at logs at log l e)) ∙ m.rest;
  released = m.released;
  members = m.members;
  within = λ x h. absurd h;
  among = m.among;
  counts = m.counts;
}

pub merges_end : (sites : ℕ) (logs : List Log) (at : ℕ) (log : Log) (n : ℕ) (messages : List Message) (clock : MessageCounts) → length log.messages ≤ n
    → Merges sites logs at log n messages clock → IsMerged sites logs (at + 1) messages clock
merges_end sites logs at log n messages clock l m = record {
  rest = ap (λ q. messages ++ firsts messages (q ++ messages_of_logs (drop (at + 1) logs))) (sym (drop_all n log.messages l)) ∙ m.rest;
  released = m.released;
  members = m.members;
  among = m.among;
  counts = m.counts;
}

pub merged_start : (sites : ℕ) (logs : List Log) (clock : MessageCounts) → clock ≡ opening_clock sites → IsMerged sites logs 0 [] clock
merged_start sites logs clock e = record { rest = refl; released = tt; members = λ x h. absurd h; among = λ x h. absurd h; counts = e ∙ opening_counts sites }

-- ---- what the clock doesn't count
pub counts_length : (sites : ℕ) (messages : List Message) (clock : MessageCounts) → clock ≡ clock_of sites messages → length clock.counts ≡ sites
counts_length sites messages clock e = ap (λ (k : MessageCounts). length k.counts) e ∙ length_counts sites messages

-- of messages of which an id is one's: a released list has what it counts
pub is_new_where : (all : Message → Type 0) → ((u v : Message) → all u → all v → u.stamp.id.site ≡ v.stamp.id.site → u.stamp.id.seq ≡ v.stamp.id.seq → u ≡ v)
    → (sites : ℕ) (messages : List Message) (v : Message) → IsAmong sites v → 1 ≤ v.stamp.id.seq → Released (reverse messages)
    → ((m : Message) → Has m messages → all m) → all v → nat_lt (slice_index (clock_of sites messages).counts v.stamp.id.site) v.stamp.id.seq ≡ not
    (is_among messages v)
is_new_where all ids sites messages v a some r on av =
    ap (λ n. nat_lt n v.stamp.id.seq) (counts_at sites messages v.stamp.id.site a.id.site) ∙ at (is_among messages v) refl
  where
    not_below : (x y : ℕ) → y ≤ x → nat_lt x y ≡ false
    not_below x y l = grind (arith, nat_tests)

    there : is_among messages v ≡ true → nat_lt (counted v.stamp.id.site messages) v.stamp.id.seq ≡ false
    there t =
        let h = among_in all ids v messages av on t in
        let k = (seq_within (reverse messages) v r (has_back v messages h)).1 in
        let c = counted_reverse v.stamp.id.site messages in
        not_below (counted v.stamp.id.site messages) v.stamp.id.seq (omega arith)

    below : (x y : ℕ) → x < y → nat_lt x y ≡ true
    below x y l = grind (arith, nat_tests)

    missing : is_among messages v ≡ false → nat_lt (counted v.stamp.id.site messages) v.stamp.id.seq ≡ true
    missing t = ⊎_elim (λ l. below (counted v.stamp.id.site messages) v.stamp.id.seq l) (λ l. absurd (
        let c = counted_reverse v.stamp.id.site messages in
        let f = found (reverse messages) v.stamp.id.site v.stamp.id.seq r some (omega arith) in
        let h = has_reverse f.0 messages f.1 in
        true≢false (sym (listed v messages (subst (λ x. Has x messages) (ids f.0 v (on f.0 h) av f.2 f.3) h)) ∙ t)))
        (cases_lt (counted v.stamp.id.site messages) v.stamp.id.seq)

    at : (b : Bool) → is_among messages v ≡ b → nat_lt (counted v.stamp.id.site messages) v.stamp.id.seq ≡ not (is_among messages v)
    at true t = there t ∙ ap not (sym t)
    at false t = missing t ∙ ap not (sym t)

pub counts_same : (sites : ℕ) (logs : List Log) (at : ℕ) (log : Log) (n : ℕ) (v : Message) (messages : List Message) (clock : MessageCounts)
    → HaveMessagesAmong sites logs → at < length logs → log ≡ get_or logs at log → n < length log.messages → v ≡ get_or log.messages n v
    → Merges sites logs at log n messages clock → sites_of v ≡ length clock.counts
counts_same sites logs at log n v messages clock among l e k i m = sites_at sites logs at log n v among l e k i
    ∙ sym (counts_length sites messages clock m.counts)

-- ---- one entry
module _ (sites : ℕ) (logs : List Log) (at : ℕ) (log : Log) (n : ℕ) (v : Message) (messages : List Message) (clock : MessageCounts)
    (f : AreFaultless logs) (among : HaveMessagesAmong sites logs) (l : at < length logs) (e : log ≡ get_or logs at log) (k : n < length log.messages)
    (i : v ≡ get_or log.messages n v)
    (formed : IsMessage v) (m : Merges sites logs at log n messages clock) where
  here : Has log logs
  here = contained logs log (at, l, sym e)

  in_it : Has v log.messages
  in_it = contained log.messages v (n, k, sym i)

  in_log : Logged logs v
  in_log = ((log, here), in_it)

  whose : IsAmong sites v
  whose = among_at sites logs at log n v among l e k i formed

  some : 1 ≤ v.stamp.id.seq
  some = (seq_within (reverse log.messages) v (log_released logs f log here) (has_back v log.messages in_it)).0

  is_new : (b : Bool) → b ≡ nat_lt (slice_index clock.counts v.stamp.id.site) v.stamp.id.seq → b ≡ not (is_among messages v)
  is_new b q =
      q ∙ ap (λ (c : MessageCounts). nat_lt (slice_index c.counts v.stamp.id.site) v.stamp.id.seq) m.counts
      ∙ is_new_where (Logged logs) f.clash sites messages v whose some m.released m.members in_log

  abbrev later : List Message
  later = drop (n + 1) log.messages ++ messages_of_logs (drop (at + 1) logs)

  same_rest : messages ++ firsts messages (v ∷ later) ≡ merged logs
  same_rest = ap (λ q. messages ++ firsts messages (q ++ messages_of_logs (drop (at + 1) logs))) (sym (drop_at log.messages n v k i)) ∙ m.rest

  pub origin_within : v.stamp.id.site < length clock.counts
  origin_within = subst (λ q. v.stamp.id.site < q) (sym (counts_length sites messages clock m.counts)) whose.id.site

  pub merges_skip : false ≡ nat_lt (slice_index clock.counts v.stamp.id.site) v.stamp.id.seq → Merges sites logs at log (n + 1) messages clock
  merges_skip q = record {
    rest = ap (λ x. messages ++ x) (sym (cond-true (is_among messages v) (firsts messages later) (v ∷ firsts (messages ++ v ∷ []) later) old)) ∙ same_rest;
    released = m.released;
    members = m.members;
    within = λ x h. ⊎_elim (λ p. m.within x p) (λ p. subst (λ y. Has y messages) (sym p) there)
        (push_cases x v (take n log.messages) (subst (Has x) (take_at log.messages n v k i) h));
    among = m.among;
    counts = m.counts;
  }
    where
      turn : (b : Bool) → false ≡ not b → b ≡ true
      turn true z = refl
      turn false z = absurd (true≢false (sym z))

      old : is_among messages v ≡ true
      old = turn (is_among messages v) (is_new false q)

      there : Has v messages
      there = among_in (Logged logs) f.clash v messages in_log m.members old

  module _ (q : true ≡ nat_lt (slice_index clock.counts v.stamp.id.site) v.stamp.id.seq) where
    fresh : is_among messages v ≡ false
    fresh = turn (is_among messages v) (is_new true q)
      where
        turn : (b : Bool) → true ≡ not b → b ≡ false
        turn true z = absurd (true≢false z)
        turn false z = refl

    new : Has v messages → ⊥
    new h = true≢false (sym (listed v messages h) ∙ fresh)

    pushed : Released (reverse (messages ++ v ∷ []))
    pushed = released_push (Logged logs) f.clash f.red_once (take n log.messages) messages v
        (released_front (take n log.messages) (drop (n + 1) log.messages) v
        (subst (λ x. Released (reverse x)) (parted log.messages n v k i) (log_released logs f log here)))
        m.released m.members in_log m.within new

    pub is_ready : IsReady clock v.stamp
    is_ready = subst (λ c. IsReady c v.stamp) (sym m.counts)
        (ready_by_clock sites messages v whose (ready_forth messages (subst Released (reverse_push messages v) pushed).0))

    pub merges_take : (after : MessageCounts) → after ≡ advanced clock v.stamp → Merges sites logs at log (n + 1) (messages ++ v ∷ []) after
    merges_take after c = record {
      rest =
          append_assoc messages (v ∷ []) (firsts (messages ++ v ∷ []) later)
          ∙ ap (λ x. messages ++ x) (sym (cond-false (is_among messages v) (firsts messages later) (v ∷ firsts (messages ++ v ∷ []) later) fresh)) ∙ same_rest;
      released = pushed;
      members = λ x h. ⊎_elim (λ p. m.members x p) (λ p. subst (Logged logs) (sym p) in_log) (push_cases x v messages h);
      within =
          λ x h. ⊎_elim (λ p. has_left x messages (v ∷ []) (m.within x p)) (λ p. subst (λ y. Has y (messages ++ v ∷ [])) (sym p) (has_last v messages))
          (push_cases x v (take n log.messages) (subst (Has x) (take_at log.messages n v k i) h));
      among = λ x h. ⊎_elim (λ p. m.among x p) (λ p. subst (IsAmong sites) (sym p) whose) (push_cases x v messages h);
      counts = c ∙ ap (λ x. advanced x v.stamp) m.counts ∙ clock_more sites messages v whose.id.site;
    }

-- ---- the clock of a log
pub clock_ready : (sites : ℕ) (log : List Message) (n : ℕ) (v : Message) → AllAmong sites log → Released (reverse log) → n < length log → v ≡ get_or log n v
    → IsReady (clock_of sites (take n log)) v.stamp
clock_ready sites log n v among r k i =
    ready_by_clock sites (take n log) v (among v (contained log v (n, k, sym i)))
    (ready_forth (take n log) (released_front (take n log) (drop (n + 1) log) v (subst (λ x. Released (reverse x)) (parted log n v k i) r)).0)

pub clock_next : (sites : ℕ) (log : List Message) (n : ℕ) (v : Message) (after : MessageCounts) → AllAmong sites log → n < length log → v ≡ get_or log n v
    → after ≡ advanced (clock_of sites (take n log)) v.stamp → after ≡ clock_of sites (take (n + 1) log)
clock_next sites log n v after among k i e =
    e ∙ clock_more sites (take n log) v (among v (contained log v (n, k, sym i))).id.site ∙ ap (clock_of sites) (sym (take_at log n v k i))

-- ---- what a log lacks
abbrev pub uncounted : List ℕ → Message → Bool
uncounted counts m = nat_lt (slice_index counts m.stamp.id.site) m.stamp.id.seq

filter_same : {X : Type 0} (p q : X → Bool) (xs : List X) → ((x : X) → Has x xs → p x ≡ q x) → filter p xs ≡ filter q xs
filter_same p q [] h = refl
filter_same p q (x ∷ xs) h =
    (λ i. cond (h x (inl refl) i) (x ∷ filter p xs) (filter p xs)) ∙ ap (λ ys. cond (q x) (x ∷ ys) ys) (filter_same p q xs (λ y k. h y (inr k)))

pub uncounted_next : (counts : List ℕ) (all : List Message) (n : ℕ) (v : Message) (b : Bool) → n < length all → v ≡ get_or all n v → b ≡ uncounted counts v
    → filter (uncounted counts) (take n all) ++ cond b (v ∷ []) [] ≡ filter (uncounted counts) (take (n + 1) all)
uncounted_next counts all n v b l e q =
    ap (λ t. filter (uncounted counts) (take n all) ++ cond t (v ∷ []) []) q
    ∙ sym (ap (filter (uncounted counts)) (take_at all n v l e) ∙ filter-append (uncounted counts) (take n all) (v ∷ []))

pub uncounted_all : (sites : ℕ) (log : Log) (all : List Message) (counts : List ℕ) (n : ℕ) (logs : List Log) → counts ≡ (clock_of sites log.messages).counts
    → AllAmong sites all → length all ≤ n → AreFaultless logs → Has log logs → all ≡ merged logs
    → filter (uncounted counts) (take n all) ≡ lacked logs log.messages
uncounted_all sites log all counts n logs e among l f h same =
    ap (filter (uncounted counts)) (take_all n all l) ∙ filter_same (uncounted counts) (λ m. not (is_among log.messages m)) all each
    ∙ ap (filter (λ m. not (is_among log.messages m))) same
  where
    each : (v : Message) → Has v all → uncounted counts v ≡ not (is_among log.messages v)
    each v k =
        let a = of_merged logs f v (subst (Has v) same k) in
        let some = (seq_within (reverse a.0.0.messages) v (log_released logs f a.0.0 a.0.1) (has_back v a.0.0.messages a.1)).0 in
        ap (λ c. uncounted c v) e
        ∙ is_new_where (Logged logs) f.clash sites log.messages v (among v k) some (log_released logs f log h) (λ x q. ((log, h), q)) a

-- ---- what a message waits for
pub awaited_some : (log : List Message) (m : Message) (site count : ℕ) → site < sites_of m → count ≡ slice_index (clock_of (sites_of m) log).counts site
    → count < dep m site → Some (record { site = site; seq = count + 1 }) ≡ awaited log m site
awaited_some log m site count l e h =
    let q : count ≡ counted site log = e ∙ counts_at (sites_of m) log site l in
    sym (cond-true (nat_lt (counted site log) (dep m site)) (Some (record { site = site; seq = counted site log + 1 })) None
    (below (counted site log) (dep m site) (subst (λ k. k < dep m site) q h)) ∙ ap (λ k. Some (record { site = site; seq = k + 1 })) (sym q))
  where
    below : (x y : ℕ) → x < y → nat_lt x y ≡ true
    below x y l = grind (arith, nat_tests)

pub awaited_none : (log : List Message) (m : Message) (site count : ℕ) → site < sites_of m → count ≡ slice_index (clock_of (sites_of m) log).counts site
    → dep m site ≤ count → None ≡ awaited log m site
awaited_none log m site count l e h =
    let q : count ≡ counted site log = e ∙ counts_at (sites_of m) log site l in
    sym (cond-false (nat_lt (counted site log) (dep m site)) (Some (record { site = site; seq = counted site log + 1 })) None
    (not_below (counted site log) (dep m site) (subst (λ k. dep m site ≤ k) q h)))
  where
    not_below : (x y : ℕ) → y ≤ x → nat_lt x y ≡ false
    not_below x y l = grind (arith, nat_tests)

-- ---- how the records of what logs lack go on with the logs

-- the log at an index is one of the logs
pub log_at : (logs : List Log) (at : ℕ) (log : Log) → at < length logs → log ≡ get_or logs at log → Has log logs
log_at logs at log l e = contained logs log (at, l, sym e)

-- where the merged messages are of these sites, so are those of each log
pub log_among : (sites : ℕ) (logs : List Log) (log : Log) → AreFaultless logs → AllAmong sites (merged logs) → Has log logs → AllAmong sites log.messages
log_among sites logs log f among h m k = among m (in_merged logs f m ((log, h), k))

-- the rows of one log were written
pub log_told : (logs : List Log) (at : ℕ) (log : Log) (base sink sink2 : List ℕ) → at < length logs → log ≡ get_or logs at log
    → sink ++ rows_text (lack_rows_from (1 + at) logs (drop at logs)) ≡ base
    → sink2 ≡ sink ++ rows_text (lack_rows (at + 1) log.site (lacked logs log.messages))
    → sink2 ++ rows_text (lack_rows_from (1 + (at + 1)) logs (drop (at + 1) logs)) ≡ base
log_told logs at log base sink sink2 l e told wrote =
    sym (text-goes sink sink2 (lack_rows (at + 1) log.site (lacked logs log.messages)) (lack_rows_from (1 + (at + 1)) logs (drop (at + 1) logs)) wrote)
    ∙ sym (ap (λ rows. sink ++ rows_text rows) next) ∙ told
  where
    this : 1 + at ≡ at + 1
    this = omega arith

    after : 1 + at + 1 ≡ 1 + (at + 1)
    after = omega arith

    next : lack_rows_from (1 + at) logs (drop at logs) ≡ lack_rows (at + 1) log.site (lacked logs log.messages)
        ++ lack_rows_from (1 + (at + 1)) logs (drop (at + 1) logs)
    next =
        ap (lack_rows_from (1 + at) logs) (drop_at logs at log l e)
        ∙ (λ i. lack_rows (this i) log.site (lacked logs log.messages) ++ lack_rows_from (after i) logs (drop (at + 1) logs))

-- whether a message is lost goes on with the logs
pub lost_told : (logs : List Log) (at : ℕ) (log : Log) (well kept : Bool) → at < length logs → log ≡ get_or logs at log
    → (well && none_lost logs (drop at logs)) ≡ none_lost logs logs → kept ≡ (length (made_at log.site (lacked logs log.messages)) == 0)
    → ((well && kept) && none_lost logs (drop (at + 1) logs)) ≡ none_lost logs logs
lost_told logs at log well kept l e told is =
    regrouped well kept ∙ ap (λ k. well && (k && none_lost logs (drop (at + 1) logs))) is
    ∙ sym (ap (λ rest. well && none_lost logs rest) (drop_at logs at log l e)) ∙ told
  where
    regrouped : (a b : Bool) → ((a && b) && none_lost logs (drop (at + 1) logs)) ≡ (a && (b && none_lost logs (drop (at + 1) logs)))
    regrouped true b = refl
    regrouped false b = refl

-- ---- how the records of what messages wait for go on

for_next : (log : List Message) (m : Message) (site : ℕ) → site < sites_of m
    → for_rows_from log m site ≡ for_rows m (awaited log m site) ++ for_rows_from log m (site + 1)
for_next log m site l = ap (λ n. map (for_row m) (filter_map (awaited log m) (range_with_len site n))) less ∙ first (awaited log m site)
  where
    rest : List Id
    rest = filter_map (awaited log m) (range_with_len (site + 1) (sites_of m - (site + 1)))

    less : sites_of m - site ≡ suc (sites_of m - (site + 1))
    less = omega (arith, l)

    first : (o : Option Id) → map (for_row m) (cons_option o rest) ≡ for_rows m o ++ map (for_row m) rest
    first None = refl
    first (Some id) = refl

for_last : (log : List Message) (m : Message) (site : ℕ) → sites_of m ≤ site → for_rows_from log m site ≡ []
for_last log m site l = ap (λ n. map (for_row m) (filter_map (awaited log m) (range_with_len site n)))
    (let none : sites_of m - site ≡ 0 = omega (arith, l) in none)

-- what the message waits for of one site was written
pub for_told : (log : List Message) (m : Message) (site : ℕ) (base sink sink2 : List ℕ) → site < sites_of m
    → sink ++ rows_text (for_rows_from log m site) ≡ base → sink2 ≡ sink ++ rows_text (for_rows m (awaited log m site))
    → sink2 ++ rows_text (for_rows_from log m (site + 1)) ≡ base
for_told log m site base sink sink2 l told wrote =
    sym (text-goes sink sink2 (for_rows m (awaited log m site)) (for_rows_from log m (site + 1)) wrote)
    ∙ sym (ap (λ rows. sink ++ rows_text rows) (for_next log m site l)) ∙ told

-- that of all sites, and then the red number
pub waits_told : (log : List Message) (m : Message) (site : ℕ) (base sink sink2 : List ℕ) → sites_of m ≤ site
    → sink ++ rows_text (for_rows_from log m site) ≡ base ++ rows_text (for_rows_from log m 0) → sink2 ≡ sink ++ rows_text (red_rows m (awaited_red log m))
    → sink2 ≡ base ++ rows_text (waits_rows log m)
waits_told log m site base sink sink2 l told wrote =
    text-more base sink sink2 (for_rows_from log m 0) (red_rows m (awaited_red log m)) first wrote
    ∙ ap (λ n. base ++ rows_text (map (for_row m) (filter_map (awaited log m) (range_with_len 0 n)) ++ red_rows m (awaited_red log m))) all
  where
    all : sites_of m - 0 ≡ sites_of m
    all = omega arith

    first : sink ≡ base ++ rows_text (for_rows_from log m 0)
    first = sym (append-nil sink) ∙ sym (ap (λ rows. sink ++ rows_text rows) (for_last log m site l)) ∙ told

-- what one message waits for was written
pub message_told : (log : List Message) (messages : List (Bor Message)) (at : ℕ) (message : Bor Message) (base sink sink2 : List ℕ) → at < length messages
    → message ≡ get_or messages at message
    → sink ++ rows_text (flat_map (waits_rows log) (map (λ m. m.now) (drop at messages))) ≡ base
    → sink2 ≡ sink ++ rows_text (waits_rows log message.now)
    → sink2 ++ rows_text (flat_map (waits_rows log) (map (λ m. m.now) (drop (at + 1) messages))) ≡ base
message_told log messages at message base sink sink2 l e told wrote =
    sym (text-goes sink sink2 (waits_rows log message.now) (flat_map (waits_rows log) (map (λ m. m.now) (drop (at + 1) messages))) wrote)
    ∙ sym (ap (λ rest. sink ++ rows_text (flat_map (waits_rows log) (map (λ m. m.now) rest))) (drop_at messages at message l e)) ∙ told
