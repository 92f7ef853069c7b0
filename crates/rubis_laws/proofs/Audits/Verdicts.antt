-- What the verdict of an audit says of the logs.
use Rattle.rubis_laws.proofs.Common.{ℕ, ◌≡◌, ◌+◌, ◌≤◌, List, [], ◌∷◌, ◌++◌, Bool, true, false, cond, refl, sym, ap, ◌∙◌, subst, arith, inl, inr, ⊎_elim}
use Rattle.rubis_laws.proofs.Common.{append_assoc, cases_lt, is_red, Message, core, cores, count, Follows, CheckedFrom, Checked, Has, Log, Logged, cores_push}
use Rattle.rubis_laws.proofs.Common.{has_left, has_last, ◌^◌, ◌<◌, length, Option, Some, None, reverse, IfSome, ltb-true, reverse-append, reverse-reverse}
use Rattle.rubis_laws.proofs.Common.{All-weaker, Id, refers_of, Shadow, Close, IsMessage, sites_of, Tables, fold_of, IsMeaning, bids_on, Precedes, Released}
use Rattle.rubis_laws.proofs.Common.{HasBidOnItem, IsMadeBy, Preceded, RefersToPast, World, site, Sound, Sent, WasLogOf, table_rows, shown_rows, KeepInvariants}
use Rattle.rubis_laws.proofs.Common.{AreAmong, AllOrdered, AllFitting, AreFaultless, AreSound, cores_length, has_back, has_reverse, RowKey, Listing, ◌↔◌, not}
use Rattle.rubis_laws.proofs.Common.{option_map, bytes_decides, option_map_or, option_or, not-false, not_from_true, or_from, or_parts, append-nil, dep, Verdict}
use Rattle.rubis_laws.proofs.Common.{Agree, IsOrdered, Fits, nick_taken, stock_short, wrong_category, wrong_winner, Ready, checks, first_fault, first_of}
use Rattle.rubis_laws.proofs.Common.{found_or, out_of_order, red_gap, same_rows, verdict, verdict_from, wrong_reference, wrong_rows, has_append, has_right}
use Rattle.rubis_laws.proofs.Common.{push_cases, red_within, counted_reverse, reds_reverse, reverse_push, Result, Ok, Err, COUNTED_MAX, Found, audit_record}
use Rattle.rubis_laws.proofs.Common.{logs_after, verdict_record}
use Rattle.rubis_laws.proofs.Rows.Sets.{count_push, or_first}
use Rattle.rubis_laws.proofs.Rows.EqualSets.{Apart, apart_push, no_apart}
use Rattle.rubis_laws.proofs.Order.Winners.{Ground, one_close, winner_is, row_winner, stock_left}
use Rattle.rubis_laws.proofs.Rows.FoldIsMeaning.{fold_is_meaning, meaning_is_one}
use Rattle.rubis_laws.proofs.Runs.Invariants.{checked_holds}
use Rattle.rubis_laws.proofs.Order.RunsInOrder.{own, there, seen, unique, foundation}
use Rattle.rubis_laws.proofs.Rows.Cores.{back_push}
use Rattle.rubis_laws.proofs.Order.Deciding.{new_here, count_reds, checked_end, number_is, follows, colour}
use Rattle.rubis_laws.proofs.Runs.EveryRun.{refers, logged}
use Rattle.rubis_laws.proofs.Rows.Lengths.{log_short}
use Rattle.rubis_laws.proofs.Audits.AuditedOrder.{released_all, IsFormed, sound_order, sound_log, run_ordered}
use Rattle.std.specs.Cmp.Lexicographic.{pointwise_decides}
use Rattle.rubis_message.specs.declared.answers.Kind.{Kind}
use Rattle.rubis_model.specs.Verdict.{clash, log_fault}
use Rattle.rubis_laws.proofs.Audits.AuditReadings.{Passes, fits, passes, logs_are}
use Rattle.rubis_laws.proofs.Audits.EntryOrder.{Same, carries, made, next, no_clash, no_gap, number, one_content, orderly, red_before, released, untaken}
use Rattle.rubis_model.specs.AuditRecords.{AgreedAuditsAreSound}

-- each red number so far is somebody's
abbrev Numbered : List Message → Type 0
Numbered a = (r : ℕ) → 1 ≤ r → r ≤ count is_red (cores a) → (m : Message) × (Has m a) × (is_red m.shadow ≡ true) × (m.stamp.red ≡ r)

numbered_push : (a : List Message) (m : Message) → Numbered a → Follows (cores a) (core m) → Numbered (a ++ m ∷ [])
numbered_push a m n f r l h = go (is_red m.shadow) refl
  where
    more : (b : Bool) → is_red m.shadow ≡ b → count is_red (cores (a ++ m ∷ [])) ≡ count is_red (cores a) + cond b 1 0
    more b e = ap (count is_red) (cores_push a m) ∙ count_push is_red (cores a) (core m) ∙ ap (λ b. count is_red (cores a) + cond b 1 0) e

    old : r ≤ count is_red (cores a) → (x : Message) × (Has x (a ++ m ∷ [])) × (is_red x.shadow ≡ true) × (x.stamp.red ≡ r)
    old k = let g = n r l k in (g.0, has_left g.0 a (m ∷ []) g.1, g.2, g.3)

    go : (t : Bool) → is_red m.shadow ≡ t → (x : Message) × (Has x (a ++ m ∷ [])) × (is_red x.shadow ≡ true) × (x.stamp.red ≡ r)
    go false e = old (let c = more false e in omega (arith, c, h))
    go true e = ⊎_elim
        (λ k. (
          m,
          has_last m a,
          e,
          (let c = more true e in let d = f.next_red ∙ ap (λ b. cond b (count is_red (cores a) + 1) 0) e in omega (arith, c, d, h, k)),
        ))
        (λ k. old k) (cases_lt (count is_red (cores a)) r)

-- what stands before a message of a log
abbrev Place : List Message → Message → Type 0
Place a v = (p : List Message) × ((u : Message) → Has u p → Has u a) × (Numbered p) × (Apart (cores p)) × (Follows (cores p) (core v))

place : (before rest : List Message) (v : Message) → Numbered before → Apart (cores before) → CheckedFrom (cores before) (cores rest) → Has v rest
    → Place (before ++ rest) v
place before [] v n u c h = absurd h
place before (x ∷ rest) v n u c (inl e) = (before, (λ y k. has_left y _ _ k), n, u, subst (λ (y : Message). Follows (cores before) (core y)) (sym e) c.0)
place before (x ∷ rest) v n u c (inr h) =
    let on = sym (cores_push before x) in
    subst (λ l. Place l v) (append_assoc before (x ∷ []) rest)
    (place (before ++ x ∷ []) rest v (numbered_push before x n c.0) (subst Apart on (apart_push u c.0)) (subst (λ l. CheckedFrom l (cores rest)) on c.1) h)

module _ (logs : List Log) (each : (log : Log) → Has log logs → Checked (cores log.messages))
    (once : (u v : Message) → Logged logs u → Logged logs v → is_red u.shadow ≡ true → is_red v.shadow ≡ true → u.stamp.red ≡ v.stamp.red → u ≡ v) where
  placed : (v : Message) (a : Logged logs v) → Place a.0.0.messages v
  placed v a = place [] a.0.0.messages v (λ r l q. absurd (omega (arith, l, q))) no_apart (each a.0.0 a.0.1) a.1

  red_is : (p : List Message) (v : Message) → Follows (cores p) (core v) → is_red v.shadow ≡ true → v.stamp.red ≡ count is_red (cores p) + 1
  red_is p v f e = f.next_red ∙ ap (λ b. cond b (count is_red (cores p) + 1) 0) e

  pub ground : (v : Message) → Logged logs v → Ground (Logged logs) v
  ground v b = record {
    past = (placed v b).0;
    members = λ u g. (b.0, (placed v b).1 u g);
    ids = (placed v b).3.ids;
    fits = (placed v b).4.fits;
    reds = λ u a e f l.
        let q = placed u a in
        let lower = red_is q.0 u q.4 e in
        let upper = red_is (placed v b).0 v (placed v b).4 f in
        let n = (placed v b).2 u.stamp.red (omega (arith, lower)) (omega (arith, upper, l)) in
        subst (λ x. Has x (placed v b).0) (once n.0 u (b.0, (placed v b).1 n.0 n.1) a n.2 e n.3) n.1;
  }

-- ---- logs that pass the checks together are sound, and those of a run pass them

-- a message that meets the conditions of its type
pub message_formed : {m : Message} → IsMessage m → IsFormed m
message_formed {m} h = record { own = h.own; colour = h.colour; limits = (sites_of m, h.shadow) }

-- ---- each log by itself passes the checks
pub checked_from : (i : ℕ) (past : List Message) → AllOrdered i past → AllFitting past → ((v : Message) → Has v past → IsFormed v)
    → Checked (cores (reverse past))
checked_from i [] c h f = tt
checked_from i (v ∷ past) c h f =
    let older : (u : Message) → Has u past → IsFormed u = λ u k. f u (inr k) in
    let here = f v (inl refl) in
    let r = released_all i past c.1 in
    subst Checked (sym (back_push v past)) (checked_end [] (cores (reverse past)) (checked_from i past c.1 h.1 older) (record {
      new_id = new_here r c.0.ready;
      next_red = number_is _ _ _ here.colour (λ l. c.0.ready.number l ∙ ap (λ n. n + 1) (sym (count_reds past (λ u k. (older u k).colour))));
      fits = h.0.0;
      limits = here.limits;
    }))

-- ---- references, among more messages
more_precede : (all wide : Message → Type 0) (v : Message) → ((m : Message) → all m → Precedes m v → wide m) → (kind : Message → Type 0) → Preceded all v kind
    → Preceded wide v kind
more_precede all wide v f kind r = (r.0, f r.0 r.1 r.3, r.2, r.3)

winner_more : (all wide : Message → Type 0) (v : Message) → ((m : Message) → all m → Precedes m v → wide m) → (x : Shadow) → HasBidOnItem all v x
    → HasBidOnItem wide v x
winner_more all wide v f (Close c) r = at c.winner r
  where
    at : (o : Option Id) → IfSome o (λ i. Preceded all v (λ m. (i ≡ m.stamp.id) × (bids_on c.item m.shadow ≡ true)))
        → IfSome o (λ i. Preceded wide v (λ m. (i ≡ m.stamp.id) × (bids_on c.item m.shadow ≡ true)))
    at None r = tt
    at (Some i) r = more_precede all wide v f _ r
winner_more all wide v f x r = tt

pub refers_more : (all wide : Message → Type 0) (v : Message) → ((m : Message) → all m → Precedes m v → wide m) → (x : Shadow) → RefersToPast all v x
    → RefersToPast wide v x
refers_more all wide v f x r = (
  All-weaker (λ k. Preceded all v (IsMadeBy k)) (λ k. Preceded wide v (IsMadeBy k)) (λ k. more_precede all wide v f (IsMadeBy k)) (refers_of x) r.0,
  winner_more all wide v f x r.1,
)

refers_in : (past : List Message) → AllFitting past → (v : Message) → Has v past → RefersToPast (λ u. Has u past) v v.shadow
refers_in [] h v k = absurd k
refers_in (x ∷ past) h v (inl e) = subst (λ (y : Message). RefersToPast (λ u. Has u (x ∷ past)) y y.shadow) (sym e)
    (refers_more (λ u. Has u past) (λ u. Has u (x ∷ past)) x (λ m g p. inr g) _ h.0.1)
refers_in (x ∷ past) h v (inr k) = refers_more (λ u. Has u past) (λ u. Has u (x ∷ past)) v (λ m g p. inr g) v.shadow (refers_in past h.1 v k)

-- ---- what passes is sound
module _ (sites : ℕ) (logs : List Log) (among : AreAmong sites logs) (f : AreFaultless logs) where
  formed : (v : Message) → Logged logs v → IsFormed v
  formed v a = message_formed (among v a).0

  each : (log : Log) → Has log logs → Checked (cores log.messages)
  each log h = subst (λ l. Checked (cores l)) (reverse-reverse log.messages)
      (checked_from _ _ (f.ordered log h) (f.fitting log h) (λ v g. formed v ((log, h), has_reverse v _ g)))

  red_positive : (v : Message) → Logged logs v → is_red v.shadow ≡ true → 0 < v.stamp.red
  red_positive v a e = ltb-true 0 v.stamp.red (sym (formed v a).colour ∙ e)

  once : (u v : Message) → Logged logs u → Logged logs v → is_red u.shadow ≡ true → is_red v.shadow ≡ true → u.stamp.red ≡ v.stamp.red → u ≡ v
  once u v a b c d e = f.red_once u v a b (red_positive u a c) e

  -- logs of messages that meet the conditions of their type are short enough to be folded
  few : (log : Log) → Has log logs → length (cores log.messages) ≤ 2 ^ 32
  few log h =
      let l = log_short log.messages (released_all log.site (reverse log.messages) (f.ordered log h))
      (λ v b. (among v ((log, h), has_reverse v log.messages b)).0) in
      let c = cores_length log.messages in
      omega (arith, l, c)

  is_meaning : (log : Log) → Has log logs → IsMeaning (cores log.messages) (fold_of (cores log.messages)).tables
  is_meaning log h = (fold_is_meaning (cores log.messages) (each log h) (few log h)).0

  invariants : KeepInvariants (Logged logs) (λ log. Has log logs)
  invariants = record {
    checked = each;
    meaning = is_meaning;
    clean = λ log h. (fold_is_meaning (cores log.messages) (each log h) (few log h)).1;
    refers = λ v a. refers_more (λ u. Has u (reverse a.0.0.messages)) _ v (λ m h p. (a.0, has_reverse m _ h)) _
        (refers_in _ (f.fitting a.0.0 a.0.1) v (has_back v _ a.1));
    holds = λ log h. checked_holds (cores log.messages) (each log h);
    stock = λ log h j n r e g. stock_left j r (checked_holds _ (each log h)) e (sym ((is_meaning log h).rows (RowKey.Item j)) ∙ g);
    ended = λ log h j r o e g. row_winner _ (ground logs each once) once _ j r o (λ m x. ((log, h), x)) (sym ((is_meaning log h).rows (RowKey.Item j)) ∙ e) g;
    closed_once = one_close (Logged logs) (ground logs each once) once;
    winner = winner_is (Logged logs) (ground logs each once) once;
  }

  claimed : (log : Log) → Has log logs → (o : Option (List (List (List ℕ)))) → IfSome o (λ rows. rows ≡ shown_rows log.messages)
      → IfSome o (λ rows. (t : Tables) → IsMeaning (cores log.messages) t → rows ≡ table_rows Listing.Tables t)
  claimed log h None e = tt
  claimed log h (Some rows) e = λ t m. e ∙ ap (table_rows Listing.Tables) (meaning_is_one _ _ t (is_meaning log h) m)

  pub faultless_sound : AreSound logs
  faultless_sound = record {
    serial = record { ids = f.clash; order = sound_order logs f formed; logs = sound_log logs f formed };
    invariants = invariants;
    rows = λ log h. claimed log h log.rows (f.rows log h);
  }

-- ---- a run passes
run_fitting : {w : World} (past : List Message) → Sound w → Released past → ((x : Message) → Has x past → Sent w x) → AllFitting past
run_fitting [] s r all = tt
run_fitting {w} (v ∷ past) s r all =
    let b = all v (inl refl) in
    let older : (x : Message) → Has x past → Sent w x = λ x h. all x (inr h) in (
      (
        (follows s r.1 older b r.0).fits,
        refers_more (Sent w) (λ u. Has u past) v (λ m a p. there w past m s r.1 older a (seen m s r.0 b p)) v.shadow (refers w s v b),
      ),
      run_fitting past s r.1 older,
    )

-- what holds of entries newest first holds of the older ones among them
pub ordered_before : (i : ℕ) (newer older : List Message) → AllOrdered i (newer ++ older) → AllOrdered i older
ordered_before i [] older c = c
ordered_before i (v ∷ newer) older c = ordered_before i newer older c.1

pub fitting_before : (newer older : List Message) → AllFitting (newer ++ older) → AllFitting older
fitting_before [] older h = h
fitting_before (v ∷ newer) older h = fitting_before newer older h.1

-- logs of a run, each as it was at some moment, with its tables then or without
module _ (w : World) (s : Sound w) (logs : List Log) (of : (log : Log) → Has log logs → WasLogOf w log) where
  -- the whole log of the site, newest first
  newest : (log : Log) (h : Has log logs) → reverse (site w log.site).log ≡ reverse (of log h).later ++ reverse log.messages
  newest log h = ap reverse (sym (of log h).messages) ∙ reverse-append log.messages (of log h).later

  sent : {v : Message} → Logged logs v → Sent w v
  sent {v} a = logged w s a.0.0.site v (subst (Has v) (of a.0.0 a.0.1).messages (has_left v a.0.0.messages (of a.0.0 a.0.1).later a.1))

  pub run_faultless : AreFaultless logs
  run_faultless = record {
    clash = λ u v a b e f. unique s (sent a) (sent b) e f;
    ordered = λ log h. ordered_before _ _ _
        (subst (AllOrdered log.site) (newest log h) (run_ordered _ _ s (s.good log.site).released (s.good log.site).made (s.good log.site).log_sent));
    red_once = λ u v a b l e. s.reds.single u v (sent a) (sent b) l e;
    fitting = λ log h. fitting_before _ _ (subst AllFitting (newest log h) (run_fitting _ s (s.good log.site).released (s.good log.site).log_sent));
    rows = λ log h. (of log h).rows;
  }

  pub run_formed : (v : Message) → Logged logs v → IsFormed v
  run_formed v a = let b = sent a in record { own = own w v s b; colour = colour w v s b; limits = (foundation w v s b).decided.limits }

-- ---- the verdict is Agree if and only if the logs pass every check

-- ---- one entry

cut : (b : Bool) (k : Kind) (rest : Option Kind) → cond b (Some k) rest ≡ None → (b ≡ false) × (rest ≡ None)
cut true k rest e = absurd cc
cut false k rest e = (refl, e)

-- each check finds nothing
pub record AreClean (others : List Message) (site : ℕ) (own : List Message) (v : Message) : Type 0 where
  pub clash : clash others own v ≡ false
  pub order : out_of_order site own v ≡ false
  pub red_gap : red_gap others own v ≡ false
  pub content : Passes own v v.shadow

pub clean : (others : List Message) (site : ℕ) (own : List Message) (v : Message) → first_of (checks others site own v) ≡ None → AreClean others site own v
clean others site own v e =
    let a = cut (clash others own v) Kind.Clash _ e in
    let b = cut (out_of_order site own v) Kind.Order _ a.1 in
    let c = cut (red_gap others own v) Kind.RedGap _ b.1 in
    let d = cut (wrong_reference own v) Kind.Refers _ c.1 in
    let f = cut (nick_taken (cores own) v.shadow) Kind.Nick _ d.1 in
    let g = cut (stock_short (cores own) v.shadow) Kind.Stock _ f.1 in
    let h = cut (wrong_winner (cores own) v.shadow) Kind.Winner None g.1 in
    let r = or_parts _ (wrong_category (cores own) v.shadow) d.0 in
    record { clash = a.0; order = b.0; red_gap = c.0; content = record { known = r.0; category = r.1; nick = f.0; stock = g.0; winner = h.0 } }

none_found : {others : List Message} {site : ℕ} {own : List Message} {v : Message} → AreClean others site own v → first_of (checks others site own v) ≡ None
none_found {own} {v} c =
    let r = or_from _ (wrong_category (cores own) v.shadow) c.content.known c.content.category in
    λ i. first_of (
    (Kind.Clash, c.clash i) ∷ (Kind.Order, c.order i) ∷ (Kind.RedGap, c.red_gap i) ∷ (Kind.Refers, r i)
    ∷ (Kind.Nick, c.content.nick i) ∷ (Kind.Stock, c.content.stock i) ∷ (Kind.Winner, c.content.winner i) ∷ []
    )

-- ---- messages that are one where their ids or their red numbers are
record AreOne (all : List Message) : Type 0 where
  ids : (u w : Message) → Has u all → Has w all → Same u w
  reds : (u w : Message) → Has u all → Has w all → 0 < u.stamp.red → u.stamp.red ≡ w.stamp.red → u ≡ w

one_push : {all : List Message} (v : Message) → AreOne all → ((u : Message) → Has u all → Same u v)
    → ((u : Message) → Has u all → 0 < u.stamp.red → u.stamp.red ≡ v.stamp.red → u ≡ v) → AreOne (all ++ v ∷ [])
one_push {all} v o id red = record {
  ids = λ u w h k. ⊎_elim (λ a. ⊎_elim (λ b. o.ids u w a b) (λ b. subst (Same u) (sym b) (id u a)) (push_cases w v all k)) (λ a. ⊎_elim (λ b s q. sym
      (subst (λ x. w ≡ x) (sym a) (id w b (sym s ∙ ap (λ (x : Message). x.stamp.id.site) a) (sym q ∙ ap (λ (x : Message). x.stamp.id.seq) a))))
      (λ b s q. a ∙ sym b) (push_cases w v all k)) (push_cases u v all h);
  reds = λ u w h k. ⊎_elim (λ a. ⊎_elim (λ b. o.reds u w a b) (λ b l q. red u a l (q ∙ ap (λ (x : Message). x.stamp.red) b) ∙ sym b) (push_cases w v all k))
      (λ a. ⊎_elim (λ b l q. a ∙ sym (red w b (subst (λ n. 0 < n) q l) (sym q ∙ ap (λ (x : Message). x.stamp.red) a))) (λ b l q. a ∙ sym b)
      (push_cases w v all k)) (push_cases u v all h);
}

-- a message that counts `sites` sites and belongs to one of them
record IsOf (sites : ℕ) (v : Message) : Type 0 where
  formed : IsFormed v
  counts : sites_of v ≡ sites
  site : v.stamp.id.site < sites

-- ---- one log, of which no fault was found so far
record Walked (others : List Message) (site : ℕ) (own : List Message) : Type 0 where
  one : AreOne (others ++ own)
  ordered : AllOrdered site (reverse own)
  fitting : AllFitting (reverse own)

module _ (sites site : ℕ) (others own : List Message) (v : Message) (w : Walked others site own)
    (typed : (u : Message) → Has u own → IsOf sites u) (t : IsOf sites v) (c : AreClean others site own v) where
  past : Released (reverse own)
  past = released_all site (reverse own) w.ordered

  like : (u : Message) → Has u own → (sites_of u ≡ sites_of v) × (u.stamp.id.site < sites_of v)
  like u h = ((typed u h).counts ∙ sym t.counts, subst (λ n. u.stamp.id.site < n) (sym t.counts) (typed u h).site)

  ready : Ready (reverse own) v
  ready = record {
    next = next site own v c.order like ∙ ap (λ n. n + 1) (sym (counted_reverse v.stamp.id.site own));
    released = λ j n. subst (λ k. dep v j ≤ k) (sym (counted_reverse j own)) (released site own v c.order like j n);
    number = λ l. number others own v c.red_gap t.formed.colour l ∙ ap (λ n. n + 1) (sym (reds_reverse own));
  }

  ordered : IsOrdered site (reverse own) v
  ordered = record {
    ready = ready;
    made = λ o j. made site own v c.order like o j ∙ sym (counted_reverse j own);
    carries = λ u h. carries site own v c.order like u (has_reverse u own h);
    red_before = λ u h. red_before others own v c.red_gap t.formed.colour past (λ x k. (typed x k).formed.colour) u (has_reverse u own h);
  }

  content : Fits (cores own) v.shadow × RefersToPast (λ u. Has u own) v v.shadow
  content = fits own v v.shadow c.content

  one_number : (u : Message) → Has u (others ++ own) → 0 < u.stamp.red → u.stamp.red ≡ v.stamp.red → u ≡ v
  one_number u h l q = ⊎_elim
      (λ a.
      let i = untaken others own v c.red_gap t.formed.colour (omega (arith, l, q)) u a q in
      one_content others own v c.clash u h (λ k. (i k).site) (λ k. (i k).seq))
      (λ a.
      let n = number others own v c.red_gap t.formed.colour (omega (arith, l, q)) in
      let m = red_within (reverse own) u past (has_back u own a) in
      let r = reds_reverse own in
      absurd (omega (arith, n, m, r, q)))
      (has_append u others own h)

  step : Walked others site (own ++ v ∷ [])
  step = record {
    one = subst AreOne (append_assoc others own (v ∷ [])) (one_push v w.one (one_content others own v c.clash) one_number);
    ordered = subst (AllOrdered site) (sym (reverse_push own v)) (ordered, w.ordered);
    fitting = subst AllFitting (sym (reverse_push own v)) (
      (
        subst (λ l. Fits (cores l) v.shadow) (sym (reverse-reverse own)) content.0,
        refers_more (λ u. Has u own) (λ u. Has u (reverse own)) v (λ m h p. has_back m own h) v.shadow content.1,
      ),
      w.fitting,
    );
  }

none_map : {X Y : Type 0} (f : X → Y) (o : Option X) → option_map f o ≡ None → o ≡ None
none_map f None e = refl
none_map f (Some x) e = absurd cc

walk_log : (sites : ℕ) {site : ℕ} {others own : List Message} (rest : List Message) → Walked others site own
    → ((u : Message) → Has u (own ++ rest) → IsOf sites u) → first_fault others site own rest ≡ None → Walked others site (own ++ rest)
walk_log sites {site} {others} [] w t e = subst (Walked others site) (search Rattle.std.proofs.Common.rules) w
walk_log sites {site} {others} {own} (v ∷ rest) w t e =
    let n = or_first (option_map (λ k. (k, length own + 1)) (first_of (checks others site own v))) (first_fault others site (own ++ v ∷ []) rest) e in
    let c = clean others site own v (none_map (λ k. (k, length own + 1)) (first_of (checks others site own v)) n.0) in
    let s = step sites site others own v w (λ u h. t u (has_left u own (v ∷ rest) h)) (t v (has_right v own (v ∷ rest) (inl refl))) c in
    subst (Walked others site) (append_assoc own (v ∷ []) rest) (walk_log sites rest s (λ u h. t u (subst (Has u) (append_assoc own (v ∷ []) rest) h)) n.1)

-- ---- rows
pub same_rows_decides : (a b : List (List (List ℕ))) → (same_rows a b ≡ true → a ≡ b) × (a ≡ b → same_rows a b ≡ true)
same_rows_decides = pointwise_decides (pointwise_decides bytes_decides)

right_rows : (messages : List Message) (o : Option (List (List (List ℕ)))) → option_map_or (λ rows. not (same_rows rows (shown_rows messages))) o false ≡ false
    → IfSome o (λ rows. rows ≡ shown_rows messages)
right_rows messages None e = tt
right_rows messages (Some rows) e = (same_rows_decides rows (shown_rows messages)).0 (not-false (same_rows rows (shown_rows messages)) e)

rows_right : (messages : List Message) (o : Option (List (List (List ℕ)))) → IfSome o (λ rows. rows ≡ shown_rows messages)
    → option_map_or (λ rows. not (same_rows rows (shown_rows messages))) o false ≡ false
rows_right messages None e = refl
rows_right messages (Some rows) e = not_from_true (same_rows rows (shown_rows messages)) ((same_rows_decides rows (shown_rows messages)).1 e)

-- ---- all logs
said : List Log → List Message
said [] = []
said (log ∷ logs) = log.messages ++ said logs

logged_said : (logs : List Log) {u : Message} → Logged logs u → Has u (said logs)
unfolding said
logged_said logs {u} a = at logs a.0.1
  where
    at : (logs : List Log) → Has a.0.0 logs → Has u (said logs)
    at [] h = absurd h
    at (log ∷ logs) (inl e) = has_left u log.messages (said logs) (subst (λ (l : Log). Has u l.messages) e a.1)
    at (log ∷ logs) (inr h) = has_right u log.messages (said logs) (at logs h)

record IsFine (log : Log) : Type 0 where
  ordered : AllOrdered log.site (reverse log.messages)
  fitting : AllFitting (reverse log.messages)
  rows : IfSome log.rows (λ rows. rows ≡ shown_rows log.messages)

agrees : (k : ℕ) (o : Option (Kind × ℕ)) (rest : Verdict) → found_or k o rest ≡ Agree → (o ≡ None) × (rest ≡ Agree)
agrees k None rest e = (refl, e)
agrees k (Some p) rest e = absurd cc

no_rows : (b : Bool) → cond {A = Option (Kind × ℕ)} b (Some (Kind.Rows, 0)) None ≡ None → b ≡ false
no_rows true e = absurd cc
no_rows false e = refl

begin : (site : ℕ) {others : List Message} → AreOne others → Walked others site []
begin site {others} o = record { one = subst AreOne (sym (append-nil others)) o; ordered = tt; fitting = tt }

walk : (sites k : ℕ) {others : List Message} (logs : List Log) → AreOne others →
    ((log : Log) → Has log logs → (u : Message) → Has u log.messages → IsOf sites u) → verdict_from k others logs ≡ Agree
    → AreOne (others ++ said logs) × ((log : Log) → Has log logs → IsFine log)
unfolding said
walk sites k {others} [] o t e = (subst AreOne (sym (append-nil others)) o, (λ log h. absurd h))
walk sites k {others} (log ∷ logs) o t e =
    let a = agrees k (log_fault others log) (verdict_from (k + 1) (others ++ log.messages) logs) e in
    let n = or_first (first_fault others log.site [] log.messages) (cond (wrong_rows log) (Some (Kind.Rows, 0)) None) a.0 in
    let w = walk_log sites log.messages (begin log.site o) (t log (inl refl)) n.0 in
    let r = walk sites (k + 1) logs w.one (λ l h. t l (inr h)) a.1 in
    let here : IsFine log = record { ordered = w.ordered; fitting = w.fitting; rows = right_rows log.messages log.rows (no_rows (wrong_rows log) n.1) } in
    (subst AreOne (append_assoc others log.messages (said logs)) r.0, (λ l h. ⊎_elim (λ q. subst IsFine (sym q) here) (λ m. r.1 l m) h))

pub agree_faultless : (sites : ℕ) (logs : List Log) → AreAmong sites logs → verdict logs ≡ Agree → AreFaultless logs
agree_faultless sites logs among e = record {
  clash = λ u v a b. w.0.ids u v (logged_said logs a) (logged_said logs b);
  ordered = λ log h. (w.1 log h).ordered;
  red_once = λ u v a b. w.0.reds u v (logged_said logs a) (logged_said logs b);
  fitting = λ log h. (w.1 log h).fitting;
  rows = λ log h. (w.1 log h).rows;
}
  where
    typed : (log : Log) → Has log logs → (u : Message) → Has u log.messages → IsOf sites u
    typed log h u k =
        let m = among u ((log, h), k) in
        record { formed = message_formed m.0; counts = m.1; site = subst (λ n. u.stamp.id.site < n) m.1 m.0.id.site }

    w : AreOne ([] ++ said logs) × ((log : Log) → Has log logs → IsFine log)
    w = walk sites 1 logs (record { ids = λ u w h k. absurd h; reds = λ u w h k. absurd h }) typed e

-- ---- and back: what is faultless has no fault
module _ (logs : List Log) (f : AreFaultless logs) (formed : (v : Message) → Logged logs v → IsFormed v) where
  -- the entry after `own`
  entry_clean : (site : ℕ) (others own : List Message) (v : Message) → AllOrdered site (v ∷ reverse own) → AllFitting (v ∷ reverse own)
      → ((u : Message) → Has u others → Logged logs u) → ((u : Message) → Has u own → Logged logs u) → Logged logs v → AreClean others site own v
  entry_clean site others own v o g there here a = record {
    clash = no_clash others own v (λ u h. f.clash u v (⊎_elim (there u) (here u) (has_append u others own h)) a);
    order = orderly own o.0;
    red_gap = no_gap others own (formed v a).colour (released_all site (reverse own) o.1) (λ u h. (formed u (here u h)).colour) o.0
        (λ u h l q. f.red_once u v (there u h) a (subst (λ n. 0 < n) (sym q) l) q);
    content = passes own v (subst (λ l. Fits (cores l) v.shadow) (reverse-reverse own) g.0.0)
        (refers_more (λ u. Has u (reverse own)) (λ u. Has u own) v (λ m h p. has_reverse m own h) v.shadow g.0.1);
  }

  log_clean : (site : ℕ) (others own rest : List Message) → AllOrdered site (reverse (own ++ rest)) → AllFitting (reverse (own ++ rest))
      → ((u : Message) → Has u others → Logged logs u) → ((u : Message) → Has u (own ++ rest) → Logged logs u)
      → first_fault others site own rest ≡ None
  log_clean site others own [] o g there here = refl
  log_clean site others own (v ∷ rest) o g there here =
      let push = append_assoc own (v ∷ []) rest in
      let behind : reverse (own ++ v ∷ rest) ≡ reverse rest ++ (v ∷ reverse own) = ap reverse (sym push) ∙ reverse-append (own ++ v ∷ []) rest
      ∙ ap (λ l. reverse rest ++ l) (reverse_push own v) in
      let c = entry_clean site others own v (ordered_before site (reverse rest) (v ∷ reverse own) (subst (AllOrdered site) behind o))
      (fitting_before (reverse rest) (v ∷ reverse own) (subst AllFitting behind g))
      there (λ u h. here u (has_left u own (v ∷ rest) h)) (here v (has_right v own (v ∷ rest) (inl refl))) in
      let n = log_clean site others (own ++ v ∷ []) rest (subst (λ l. AllOrdered site (reverse l)) (sym push) o)
      (subst (λ l. AllFitting (reverse l)) (sym push) g) there (λ u h. here u (subst (Has u) push h)) in
      ap (λ k. option_or (option_map (λ x. (x, length own + 1)) k) (first_fault others site (own ++ v ∷ []) rest)) (none_found c) ∙ n

  logs_clean : (k : ℕ) (others : List Message) (rest : List Log) → ((u : Message) → Has u others → Logged logs u) → ((log : Log) → Has log rest → Has log logs)
      → verdict_from k others rest ≡ Agree
  logs_clean k others [] there inside = refl
  logs_clean k others (log ∷ rest) there inside =
      let in_logs = inside log (inl refl) in
      let here : (u : Message) → Has u log.messages → Logged logs u = λ u h. ((log, in_logs), h) in
      let n = log_clean log.site others [] log.messages (f.ordered log in_logs) (f.fitting log in_logs) there here in
      let r = rows_right log.messages log.rows (f.rows log in_logs) in
      (λ i. found_or k (option_or (n i) (cond (r i) (Some (Kind.Rows, 0)) None)) (verdict_from (k + 1) (others ++ log.messages) rest))
      ∙ logs_clean (k + 1) (others ++ log.messages) rest (λ u h. ⊎_elim (there u) (here u) (has_append u others log.messages h)) (λ l h. inside l (inr h))

  pub faultless_agree : verdict logs ≡ Agree
  faultless_agree = logs_clean 1 [] logs (λ u h. absurd h) (λ l h. h)

pub agrees_where_faultless : (sites : ℕ) (logs : List Log) → AreAmong sites logs → (verdict logs ≡ Agree) ↔ AreFaultless logs
agrees_where_faultless sites logs among = (agree_faultless sites logs among, (λ f. faultless_agree logs f (λ v a. message_formed (among v a).0)))

-- ---- an audit that is answered Agree was given sound logs

-- records of different lengths differ
pub is_agree : (v : Verdict) → verdict_record v ≡ verdict_record Agree → v ≡ Agree
is_agree Agree e = refl
is_agree (Found kind log entry) e = let l = ap length e in absurd cc

-- records that are answered Agree are those of faultless logs
pub agreed_logs : {sites : ℕ} (records : List (List (List ℕ))) (read : Result (List Log) ℕ) → sites ≤ COUNTED_MAX → logs_after sites 1 [] records ≡ read
    → audit_record read ≡ verdict_record Agree → (logs : List Log) × (logs_after sites 1 [] records ≡ Ok (reverse logs)) × AreAmong sites logs
    × (verdict logs ≡ Agree) × (read ≡ Ok (reverse logs))
agreed_logs records (Err n) few is e = let l = ap length e in absurd cc
agreed_logs {sites} records (Ok found) few is e =
    let logs = reverse found in
    let again = ap Ok (sym (reverse-reverse found)) in
    let read = (logs_are sites few records logs).0 (is ∙ again) in
    (logs, is ∙ again, (λ v a. let m = (read.0 a.0.0 a.0.1).messages v a.1 in (m.0, m.1)), is_agree (verdict logs) e, again)

pub agreed_audits_are_sound : AgreedAuditsAreSound
agreed_audits_are_sound sites records few e =
    let g = agreed_logs records (logs_after sites 1 [] records) few refl e in
    (g.0, g.1, faultless_sound sites g.0 g.2 (agree_faultless sites g.0 g.2 g.3))
