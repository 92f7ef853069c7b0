-- How a walk goes on: over a log, and from log to log.
use Rattle.rubis_audit.proofs.Common.{ℕ, ◌≡◌, ◌+◌, ◌≤◌, ◌<◌, zero, suc, List, [], ◌∷◌, ◌++◌, length, get_or, take, drop, Bool, true, false, cond}
use Rattle.rubis_audit.proofs.Common.{refl, sym, ap, ◌∙◌, subst, arith, Option, Some, None, inl, inr, drop-cons, add-one, append_assoc, option_map}
use Rattle.rubis_audit.proofs.Common.{reverse, not, slice_get, find, option_or, option_map_or, append-nil, drop_all, take_all, take_more, Tables}
use Rattle.rubis_audit.proofs.Common.{is_red, MessageCounts, IsReady, advanced, opening_clock, IsMessage, Message, sites_of, Kind, Agree, Found, core}
use Rattle.rubis_audit.proofs.Common.{cores, Log, shown_rows, checks, first_of, last_red, verdict, same_rows, table_rows, AreFaultless, Has, Ready}
use Rattle.rubis_audit.proofs.Common.{counts, cores_push, contained, has_left, has_reverse, has_right, counted_reverse, reds_reverse, reverse_push}
use Rattle.rubis_audit.proofs.Common.{union, IsAmong, clock_of, clock_more, counts_at, length_counts, ready_by_clock}
use Rattle.std.proofs.Common.{◌*◌, ◌^◌, replicate}
use Rattle.std.specs.Prelude.{unwrap_or}
use Rattle.std.proofs.lemmas.List.{get_or-replicate, length-replicate, length-take-le}
use Rattle.std.proofs.lemmas.Grind.{flat_map-append, same_number_lists}
use Rattle.std.proofs.lemmas.Option.{get_or_from_slice_get}
use Rattle.rubis_schema.specs.Ids.{IsId}
use Rattle.rubis_model.specs.Verdict.{first_fault, found_or, log_fault, verdict_from, wrong_rows}
use Rattle.rubis_model.specs.Audit.{AreAmong, AreSound}
use Rattle.rubis_model.proofs.Settling.{cores_length}
use Rattle.rubis_laws.proofs.Rows.FoldIsMeaning.{fold_is_meaning}
use Rattle.rubis_laws.proofs.Runs.Invariants.{checked_holds}
use Rattle.rubis_laws.proofs.Rows.Lengths.{log_small}
use Rattle.rubis_laws.proofs.Audits.Verdicts.{faultless_sound, agree_faultless, clean}
use Rattle.rubis_shard.specs.Holdings.{HoldsLog, TakesOn}
use Rattle.rubis_shard.specs.States.{ShardState}
use Rattle.rubis_shard.proofs.Unions.{union_of_log}
use Rattle.std.specs.FinMap as map
use Rattle.rubis_schema.specs.declared.listings.Listing.TheVariants as listing
use Rattle.rubis_message.specs.declared.answers.Kind.TheVariants as kind
use Rattle.rubis_audit.specs.Walks.{clash_by_id, IsFaultless, Remembers, Shows, checks_by, Sees, HaveMessagesAmong, IsWalked, Walked, messages_of_logs}
use Rattle.rubis_audit.specs.declared.seen.Seen.{Seen}
use Rattle.rubis_audit.proofs.Judging.{nothing_shown, checks_are, known_log, known_push, ready}

-- ---- what stands before an entry

short : (others own : List Message) → IsFaultless others own → length own ≤ 16 * 1000000
short others own k = log_small own k.released (λ v h. k.formed v (has_right v others own (has_reverse v own h)))

pub shows_of : (others own : List Message) (shards : List ShardState) → IsFaultless others own → HoldsLog 1 (cores own) shards →
    Shows (union shards) (cores own)
shows_of others own shards k h =
    let few = short others own k in
    let same = cores_length own in
    let meant = fold_is_meaning (cores own) k.checked (omega (arith, few, same)) in
    record {
      rows = λ q. ap (λ t. map.get t q) (union_of_log 1 (cores own) shards (omega arith) h) ∙ meant.0.rows q;
      holds = checked_holds (cores own) k.checked;
    }

-- the checks by look-ups are those of the definition
pub fault_is : (sites site : ℕ) (seen : Seen) (clock : MessageCounts) (last : Option Message) (shards : List ShardState) (others own : List Message)
    (v : Message)
    → Remembers sites seen clock last shards others own → IsAmong sites v → IsMessage v
    → first_of (checks_by site clock last (union shards) (others ++ own) v) ≡ first_of (checks others site own v)
fault_is sites site seen clock last shards others own v s a f =
    (λ i. first_of (checks_by site (s.clock_is i) (s.last_is i) (union shards) (others ++ own) v))
    ∙ sym (checks_are sites site (union shards) others own v s.known (shows_of others own shards s.known s.holds) a f)

-- ready after the messages of a log, in whatever order they are counted
ready_forth : (own : List Message) (v : Message) → Ready (reverse own) v → Ready own v
ready_forth own v r = record {
  next = r.next ∙ ap (λ n. n + 1) (counted_reverse v.stamp.id.site own);
  released = λ j n. let a = r.released j n in let c = counted_reverse j own in omega (arith, a, c);
  number = λ p. r.number p ∙ ap (λ n. n + 1) (reds_reverse own);
}

pub ready_now : (sites site : ℕ) (seen : Seen) (clock : MessageCounts) (last : Option Message) (shards : List ShardState) (others own : List Message)
    (v : Message)
    → Remembers sites seen clock last shards others own → IsAmong sites v → IsMessage v → first_of (checks others site own v) ≡ None → IsReady clock v.stamp
ready_now sites site seen clock last shards others own v s a f e =
    subst (λ k. IsReady k v.stamp) (sym s.clock_is) (ready_by_clock sites own v a (ready_forth own v (ready others site own v f (clean others site own v e))))

last_push : (own : List Message) (v : Message) → last_red (own ++ v ∷ []) ≡ cond (is_red v.shadow) (Some v) (last_red own)
last_push own v = ap (find (λ u. is_red u.shadow)) (reverse_push own v)

stands_push : (sites site : ℕ) (seen after : Seen) (clock clock2 : MessageCounts) (last last2 : Option Message) (shards shards2 : List ShardState)
    (others own : List Message) (v : Message)
    → Remembers sites seen clock last shards others own → IsAmong sites v → IsMessage v → first_of (checks others site own v) ≡ None
    → ((all : List Message) → Sees seen all → Sees after (all ++ v ∷ [])) → clock2 ≡ advanced clock v.stamp → last2 ≡ cond (is_red v.shadow) (Some v) last
    → TakesOn (core v) (length own + 1) shards shards2
    → Remembers sites after clock2 last2 shards2 others (own ++ v ∷ [])
stands_push sites site seen after clock clock2 last last2 shards shards2 others own v s a f e more next red takes = record {
  known = known_push others site own v s.known f (clean others site own v e);
  sees = subst (Sees after) (append_assoc others own (v ∷ [])) (more (others ++ own) s.sees);
  clock_is = next ∙ ap (λ k. advanced k v.stamp) s.clock_is ∙ clock_more sites own v a.id.site;
  last_is = red ∙ ap (cond (is_red v.shadow) (Some v)) s.last_is ∙ sym (last_push own v);
  holds = subst (λ xs. HoldsLog 1 xs shards2) (sym (cores_push own v)) (takes 1 (cores own) (ap (λ n. n + 1) (sym (cores_length own))) s.holds);
}

opening_counts : (sites : ℕ) → opening_clock sites ≡ clock_of sites []
opening_counts sites = λ i. record { counts = same i; red = 0 }
  where
    same : replicate sites 0 ≡ counts sites []
    same = same_number_lists (replicate sites 0) (counts sites []) (length-replicate {A = ℕ} sites 0 ∙ sym (length_counts sites []))
        (λ j l. let k : j < sites = (let e = length-replicate {A = ℕ} sites 0 in omega (arith, e, l)) in
        get_or-replicate {A = ℕ} sites j 0 0 k ∙ sym (counts_at sites [] j k))

-- ---- over one log
pub record Walks (sites : ℕ) (seen : Seen) (clock : MessageCounts) (last : Option Message) (shards : List ShardState) (others : List Message) (log : Log)
    (n : ℕ) : Type 0 where
  pub stands : Remembers sites seen clock last shards others (take n log.messages)
  pub rest : first_fault others log.site [] log.messages ≡ first_fault others log.site (take n log.messages) (drop n log.messages)

pub walks_none : (sites : ℕ) (seen : Seen) (clock : MessageCounts) (last : Option Message) (shards : List ShardState) (others : List Message) (log : Log)
    → IsFaultless others [] → Sees seen others → clock ≡ opening_clock sites → last ≡ None → HoldsLog 1 [] shards →
    Walks sites seen clock last shards others log 0
walks_none sites seen clock last shards others log k s c l h = record {
  stands = record { known = k; sees = subst (Sees seen) (sym (append-nil others)) s; clock_is = c ∙ opening_counts sites; last_is = l; holds = h };
  rest = refl;
}

take_next : (ms : List Message) (n : ℕ) (v : Message) → n < length ms → v ≡ get_or ms n v → take (n + 1) ms ≡ take n ms ++ v ∷ []
take_next ms n v l e = take_more ms n v l ∙ ap (λ x. take n ms ++ x ∷ []) (sym e)

drop_next : (ms : List Message) (n : ℕ) (v : Message) → n < length ms → v ≡ get_or ms n v → drop n ms ≡ v ∷ drop (n + 1) ms
drop_next ms n v l e = drop-cons ms n v l ∙ (λ i. sym e i ∷ drop (sym (add-one n) i) ms)

-- its next entry has that fault, or none
step_is : (others : List Message) (log : Log) (n : ℕ) (v : Message) (o : Option Kind) → n < length log.messages → v ≡ get_or log.messages n v
    → first_of (checks others log.site (take n log.messages) v) ≡ o
    → first_fault others log.site (take n log.messages) (drop n log.messages)
    ≡ option_or (option_map (λ k. (k, n + 1)) o) (first_fault others log.site (take (n + 1) log.messages) (drop (n + 1) log.messages))
step_is others log n v o l e f =
    ap (first_fault others log.site (take n log.messages)) (drop_next log.messages n v l e)
    ∙ (λ i. option_or (option_map (λ k. (k, length-take-le n log.messages (omega arith) i + 1)) (f i))
    (first_fault others log.site (sym (take_next log.messages n v l e) i) (drop (n + 1) log.messages)))

pub walks_more : (sites : ℕ) (seen after : Seen) (clock clock2 : MessageCounts) (last last2 : Option Message) (shards shards2 : List ShardState)
    (others : List Message) (log : Log) (n : ℕ) (v : Message)
    → n < length log.messages → v ≡ get_or log.messages n v → Walks sites seen clock last shards others log n → IsAmong sites v → IsMessage v
    → first_of (checks others log.site (take n log.messages) v) ≡ None
    → ((all : List Message) → Sees seen all → Sees after (all ++ v ∷ [])) → clock2 ≡ advanced clock v.stamp → last2 ≡ cond (is_red v.shadow) (Some v) last
    → TakesOn (core v) (n + 1) shards shards2
    → Walks sites after clock2 last2 shards2 others log (n + 1)
walks_more sites seen after clock clock2 last last2 shards shards2 others log n v l e w a f none more next red takes = record {
  stands = subst (Remembers sites after clock2 last2 shards2 others) (sym (take_next log.messages n v l e))
      (stands_push sites log.site seen after clock clock2 last last2 shards shards2 others (take n log.messages) v w.stands a f none more next red
      (subst (λ k. TakesOn (core v) (k + 1) shards shards2) (sym (length-take-le n log.messages (omega arith))) takes));
  rest = w.rest ∙ step_is others log n v None l e none;
}

-- ---- from log to log
pub record Over (seen : Seen) (k : ℕ) (logs : List Log) : Type 0 where
  pub walked : Walked seen (take k logs)
  pub rest : verdict logs ≡ verdict_from (k + 1) (messages_of_logs (take k logs)) (drop k logs)

log_at : (logs : List Log) (k : ℕ) → k < length logs → (log : Log) × (slice_get logs k ≡ Some log)
log_at [] k l = absurd (omega (arith, l))
log_at (x ∷ logs) zero l = (x, refl)
log_at (x ∷ logs) (suc k) l = log_at logs k (omega (arith, l))

at_is : (logs : List Log) (k : ℕ) (log : Log) → slice_get logs k ≡ Some log → log ≡ get_or logs k log
at_is logs k log e = sym (get_or_from_slice_get logs k log log e)

next_said : (k : ℕ) (logs : List Log) (log : Log) → k < length logs → slice_get logs k ≡ Some log → messages_of_logs (take (k + 1) logs)
    ≡ messages_of_logs (take k logs) ++ log.messages
next_said k logs log l e =
    ap messages_of_logs (take_more logs k log l ∙ ap (λ x. take k logs ++ x ∷ []) (sym (at_is logs k log e)))
    ∙ flat_map-append (λ (x : Log). x.messages) (take k logs) (log ∷ []) ∙ ap (λ xs. messages_of_logs (take k logs) ++ xs) (append-nil log.messages)

next_logs : (k : ℕ) (logs : List Log) (log : Log) → k < length logs → slice_get logs k ≡ Some log → drop k logs ≡ log ∷ drop (k + 1) logs
next_logs k logs log l e = drop-cons logs k log l ∙ (λ i. sym (at_is logs k log e) i ∷ drop (sym (add-one k) i) logs)

log_step : (k : ℕ) (logs : List Log) (log : Log) (found : Option (Kind × ℕ)) → k < length logs → slice_get logs k ≡ Some log → found
    ≡ log_fault (messages_of_logs (take k logs)) log
    → verdict_from (k + 1) (messages_of_logs (take k logs)) (drop k logs)
    ≡ found_or (k + 1) found (verdict_from (k + 1 + 1) (messages_of_logs (take (k + 1) logs)) (drop (k + 1) logs))
log_step k logs log found l e f =
    ap (verdict_from (k + 1) (messages_of_logs (take k logs))) (next_logs k logs log l e)
    ∙ (λ i. found_or (k + 1) (sym f i) (verdict_from (k + 1 + 1) (sym (next_said k logs log l e) i) (drop (k + 1) logs)))

pub over_more : (before after : Seen) (k : ℕ) (logs : List Log) → k < length logs → Over before k logs → IsWalked after logs k None → Over after (k + 1) logs
over_more before after k logs l o w =
    let there = log_at logs k l in
    let r = w there.0 there.1 in
    record { walked = r.1 refl; rest = o.rest ∙ log_step k logs there.0 None l there.1 r.0 }

pub over_found : (before after : Seen) (k : ℕ) (logs : List Log) (p : Kind × ℕ) → k < length logs → Over before k logs → IsWalked after logs k (Some p) →
    Found p.0 (k + 1) p.1 ≡ verdict logs
over_found before after k logs p l o w =
    let there = log_at logs k l in
    sym (o.rest ∙ log_step k logs there.0 (Some p) l there.1 (w there.0 there.1).0)

pub over_done : (seen : Seen) (k : ℕ) (logs : List Log) → length logs ≤ k → Over seen k logs → Agree ≡ verdict logs
over_done seen k logs l o = sym (o.rest ∙ ap (verdict_from (k + 1) (messages_of_logs (take k logs))) (drop_all k logs l))

-- a message of a log is among those of all
logged_in : (logs : List Log) (log : Log) (m : Message) → Has log logs → Has m log.messages → Has m (messages_of_logs logs)
logged_in [] log m h k = absurd h
logged_in (x ∷ logs) log m (inl e) k = has_left m x.messages (messages_of_logs logs) (subst (λ (l : Log). Has m l.messages) e k)
logged_in (x ∷ logs) log m (inr h) k = has_right m x.messages (messages_of_logs logs) (logged_in logs log m h k)

-- the walk saw that each message meets the conditions of its type
over_among : (sites : ℕ) (seen : Seen) (k : ℕ) (logs : List Log) → length logs ≤ k → HaveMessagesAmong sites logs → Over seen k logs → AreAmong sites logs
over_among sites seen k logs l among o v a = (
  o.walked.known.formed v
      (has_left v (messages_of_logs (take k logs)) []
      (subst (λ (ls : List Log). Has v (messages_of_logs ls)) (sym (take_all k logs l)) (logged_in logs a.0.0 v a.0.1 a.1))),
  among a.0.0 a.0.1 v a.1,
)

pub over_faultless : (sites : ℕ) (seen : Seen) (k : ℕ) (logs : List Log) → length logs ≤ k → HaveMessagesAmong sites logs → Over seen k logs → AreFaultless logs
over_faultless sites seen k logs l among o = agree_faultless sites logs (over_among sites seen k logs l among o) (sym (over_done seen k logs l o))

pub over_sound : (sites : ℕ) (seen : Seen) (k : ℕ) (logs : List Log) → length logs ≤ k → HaveMessagesAmong sites logs → Over seen k logs → AreSound logs
over_sound sites seen k logs l among o = faultless_sound sites logs (over_among sites seen k logs l among o) (over_faultless sites seen k logs l among o)

-- ---- what a walk over one log answers
same_log : (logs : List Log) (at : ℕ) (log other : Log) → at < length logs → log ≡ get_or logs at log → slice_get logs at ≡ Some other → log ≡ other
same_log logs at log other l e f = e ∙ get_or_from_slice_get logs at other log f

pub walked_found : (sites : ℕ) (seen after : Seen) (clock : MessageCounts) (last : Option Message) (shards : List ShardState) (logs : List Log) (at : ℕ)
    (log : Log) (n : ℕ) (v : Message) (k : Kind)
    → at < length logs → log ≡ get_or logs at log → Walks sites seen clock last shards (messages_of_logs (take at logs)) log n → n < length log.messages → v
    ≡ get_or log.messages n v
    → first_of (checks (messages_of_logs (take at logs)) log.site (take n log.messages) v) ≡ Some k → IsWalked after logs at (Some (k, n + 1))
walked_found sites seen after clock last shards logs at log n v k l e w m i f other g = (
  subst (λ x. Some (k, n + 1) ≡ log_fault (messages_of_logs (take at logs)) x) (same_log logs at log other l e g)
      (sym (ap (λ o. option_or o (cond (wrong_rows log) (Some (kind.Rows, 0)) None))
      (w.rest ∙ step_is (messages_of_logs (take at logs)) log n v (Some k) m i f))),
  λ q. absurd cc,
)

-- no message and no row: the tables show none either
claims_none : (o : Option (List (List (List ℕ)))) → unwrap_or o [] ≡ [] → option_map_or (λ rows. not (same_rows rows (shown_rows []))) o false ≡ false
claims_none None e = refl
claims_none (Some rows) e = (λ i. not (same_rows (e i) (nothing_shown i)))

-- of a log of nothing
pub walked_nothing : (seen : Seen) (logs : List Log) (at : ℕ) (log : Log) → at < length logs → log ≡ get_or logs at log → log.messages ≡ [] →
    unwrap_or log.rows [] ≡ []
    → Walked seen (take at logs) → IsWalked seen logs at None
walked_nothing seen logs at log l e m r w other g = (
  subst (λ (x : Log). None ≡ log_fault (messages_of_logs (take at logs)) x) same
      (λ i. option_or (first_fault (messages_of_logs (take at logs)) log.site [] (sym m i)) (cond (none_wrong i) (Some (kind.Rows, 0)) None)),
  λ q. record { known = subst (λ xs. IsFaultless xs []) (sym said) w.known; sees = subst (Sees seen) (sym said) w.sees },
)
  where
    same : log ≡ other
    same = same_log logs at log other l e g

    none_wrong : false ≡ wrong_rows log
    none_wrong = sym (claims_none log.rows r) ∙ (λ i. option_map_or (λ rows. not (same_rows rows (shown_rows (sym m i)))) log.rows false)

    said : messages_of_logs (take (at + 1) logs) ≡ messages_of_logs (take at logs)
    said = next_said at logs other l g ∙ ap (λ xs. messages_of_logs (take at logs) ++ xs) (ap (λ (x : Log). x.messages) (sym same) ∙ m)
        ∙ append-nil (messages_of_logs (take at logs))

rows_are : (others own : List Message) (shards : List ShardState) → HoldsLog 1 (cores own) shards → table_rows listing.Tables (union shards) ≡ shown_rows own
rows_are others own shards h = ap (table_rows listing.Tables) (union_of_log 1 (cores own) shards (omega arith) h)

pub walked_end : (sites : ℕ) (after : Seen) (clock : MessageCounts) (last : Option Message) (shards : List ShardState) (logs : List Log) (at : ℕ) (log : Log)
    (n : ℕ) (wrong : Bool)
    → at < length logs → log ≡ get_or logs at log → Walks sites after clock last shards (messages_of_logs (take at logs)) log n → length log.messages ≤ n
    → wrong ≡ option_map_or (λ rows. not (same_rows rows (table_rows listing.Tables (union shards)))) log.rows false
    → IsWalked after logs at (cond wrong (Some (kind.Rows, 0)) None)
walked_end sites after clock last shards logs at log n wrong l e w m r other g = (
  subst (λ x. cond wrong (Some (kind.Rows, 0)) None ≡ log_fault (messages_of_logs (take at logs)) x) same
      (sym (ap (λ o. option_or o (cond (wrong_rows log) (Some (kind.Rows, 0)) None)) none ∙ ap (λ b. cond b (Some (kind.Rows, 0)) None) (sym rows))),
  λ q. record {
    known = subst (λ xs. IsFaultless xs []) (sym said_more)
        (known_log (messages_of_logs (take at logs)) log.messages (subst (IsFaultless (messages_of_logs (take at logs))) whole w.stands.known));
    sees = subst (Sees after) (sym said_more) (subst (λ xs. Sees after (messages_of_logs (take at logs) ++ xs)) whole w.stands.sees);
  },
)
  where
    same : log ≡ other
    same = same_log logs at log other l e g

    whole : take n log.messages ≡ log.messages
    whole = take_all n log.messages m

    none : first_fault (messages_of_logs (take at logs)) log.site [] log.messages ≡ None
    none = w.rest ∙ ap (first_fault (messages_of_logs (take at logs)) log.site (take n log.messages)) (drop_all n log.messages m)

    rows : wrong ≡ wrong_rows log
    rows = r ∙ ap (λ rs. option_map_or (λ rows. not (same_rows rows rs)) log.rows false)
        (rows_are (messages_of_logs (take at logs)) log.messages shards (subst (λ xs. HoldsLog 1 (cores xs) shards) whole w.stands.holds))

    said_more : messages_of_logs (take (at + 1) logs) ≡ messages_of_logs (take at logs) ++ log.messages
    said_more = next_said at logs log l (g ∙ ap Some (sym same))

first_clear : (b : Bool) (k : Kind) (o : Option Kind) → cond b (Some k) o ≡ None → b ≡ false
first_clear true k o e = absurd cc
first_clear false k o e = refl

-- where no check finds a fault, no other message has the id
pub no_clash : (site : ℕ) (clock : MessageCounts) (last : Option Message) (t : Tables) (all : List Message) (v : Message) →
    first_of (checks_by site clock last t all v) ≡ None → clash_by_id all v ≡ false
no_clash site clock last t all v e = first_clear (clash_by_id all v) kind.Clash _ e

-- the value of a shared entry of a log
pub entry_is : (items messages : List Message) (n : ℕ) (shared v : Message) → items ≡ messages → shared ≡ get_or items n shared → v ≡ shared → v
    ≡ get_or messages n v
entry_is items messages n shared v same is e = subst (λ xs. v ≡ get_or xs n v) same (subst (λ u. u ≡ get_or items n u) (sym e) is)

-- a message of a log counts `sites` sites and belongs to one of them
pub among_at : (sites : ℕ) (logs : List Log) (at : ℕ) (log : Log) (n : ℕ) (v : Message) → HaveMessagesAmong sites logs → at < length logs → log
    ≡ get_or logs at log
    → n < length log.messages → v ≡ get_or log.messages n v → IsMessage v → IsAmong sites v
among_at sites logs at log n v all l e m i f =
    let many : sites_of v ≡ sites = all log (contained logs log (at, l, sym e)) v (contained log.messages v (n, m, sym i)) in
    record { conditions = f; counts = many; id = subst (λ k. IsId k v.stamp.id) many f.id }

pub sites_at : (sites : ℕ) (logs : List Log) (at : ℕ) (log : Log) (n : ℕ) (v : Message) → HaveMessagesAmong sites logs → at < length logs → log
    ≡ get_or logs at log
    → n < length log.messages → v ≡ get_or log.messages n v → sites_of v ≡ sites
sites_at sites logs at log n v all l e m i = all log (contained logs log (at, l, sym e)) v (contained log.messages v (n, m, sym i))

pub counts_of : (sites : ℕ) (seen : Seen) (clock : MessageCounts) (last : Option Message) (shards : List ShardState) (others : List Message) (log : Log) (n : ℕ)
    → Walks sites seen clock last shards others log n → length clock.counts ≡ sites
counts_of sites seen clock last shards others log n w = ap (λ (k : MessageCounts). length k.counts) w.stands.clock_is
    ∙ length_counts sites (take n log.messages)

-- what was found by look-ups is what the checks find
pub found_is : (sites : ℕ) (seen : Seen) (clock : MessageCounts) (last : Option Message) (shards : List ShardState) (others : List Message) (log : Log) (n : ℕ)
    (v : Message) (o : Option Kind)
    → Walks sites seen clock last shards others log n → IsAmong sites v → IsMessage v
    → ((all : List Message) → Sees seen all → o ≡ first_of (checks_by log.site clock last (union shards) all v))
    → first_of (checks others log.site (take n log.messages) v) ≡ o
found_is sites seen clock last shards others log n v o w a f found =
    sym (found (others ++ take n log.messages) w.stands.sees ∙ fault_is sites log.site seen clock last shards others (take n log.messages) v w.stands a f)

-- the number of an entry has room
pub few_entries : (sites : ℕ) (seen : Seen) (clock : MessageCounts) (last : Option Message) (shards : List ShardState) (others : List Message) (log : Log)
    (n : ℕ)
    → n < length log.messages → Walks sites seen clock last shards others log n → n + 1 < 2 ^ 32
few_entries sites seen clock last shards others log n m w =
    let few = short others (take n log.messages) w.stands.known in
    let size = length-take-le n log.messages (omega arith) in
    omega (arith, few, size)

pub ready_at : (sites : ℕ) (seen : Seen) (clock : MessageCounts) (last : Option Message) (shards : List ShardState) (others : List Message) (log : Log) (n : ℕ)
    (v : Message)
    → Walks sites seen clock last shards others log n → IsAmong sites v → IsMessage v → first_of (checks others log.site (take n log.messages) v) ≡ None →
    IsReady clock v.stamp
ready_at sites seen clock last shards others log n v w a f e = ready_now sites log.site seen clock last shards others (take n log.messages) v w.stands a f e
