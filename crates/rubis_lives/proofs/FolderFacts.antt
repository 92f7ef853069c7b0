-- What the calls of a site promise makes lives, and folders with their lives are a run that keeps its promises.
use Rattle.rubis_lives.proofs.Common.{◌≡◌, ◌∙◌, ◌⊎◌, inl, inr, ◌≤◌, ◌++◌, ◌∷◌, [], ℕ, List, Option, Some, None, refl, sym, ap, subst, append-nil, ◌<◌}
use Rattle.rubis_lives.proofs.Common.{◌+◌, true, arith, append_cancel_left, Consumes, KEEP_MAX, IsShortened, process, read_by, site_after, recorded, Place}
use Rattle.rubis_lives.proofs.Common.{opening_at, input_step, Replica, AtEnd, input_records, AreSafe, FileState, records_in, IsFrontOf, Lived}
use Rattle.rubis_lives.proofs.Common.{HasSoundLines, begun_after, kept_of_input, whole_lines, whole-rest, whole-whole, map, input_of, Message}
use Rattle.rubis_lives.proofs.Common.{Token, sent_on_inputs, World, run, site, start, processes_run, restarts_change_nothing}
use Rattle.rubis_lives.proofs.Common.{short_state}
use Rattle.rubis_keys.proofs.BareFacts.{bare_same, same_input}
use Rattle.rubis_keys.specs.Keys.{keyed_opening}
use Rattle.rubis_keep.specs.Shortened.{LeavesOut}
use Rattle.rubis_keep.specs.History.{History, now}
use Rattle.rubis_model.specs.Laws.{IsLogOf}
use Rattle.rubis_model.specs.Verdict.{Log}
use Rattle.rubis_model.specs.Rebuild.{after_inputs, inputs_to_rebuild, sent_by}
use Rattle.rubis_model.specs.System.{AreEvents, Event}
use Rattle.rubis_laws.proofs.Rebuilding.RebuildRecords.{inputs_rebuild}
use Rattle.rubis_laws.proofs.Rebuilding.RebuiltSites.{sites_are_rebuilt}
use Rattle.rubis_laws.proofs.Runs.EveryRun.{every_run}
use Rattle.rubis_laws.proofs.Runs.Nicknames.{nicknames_are_unique}
use Rattle.rubis_lives.specs.Calls.{CallsAreLives, RaisedCallsRaise, ShortenedMayReplace, kept_account}
use Rattle.rubis_lives.specs.Histories.{RaisesKeep, keeping_at_most, keeps, moments_in, most_kept, site_keeping, is_placed_at, kept_takes}
use Rattle.rubis_lives.specs.Shops.{bare_in, process_text, process_words}
use Rattle.rubis_message.specs.declared.requests.Request.TheVariants as request
use Rattle.rubis_message.specs.declared.tokens.Packet.TheVariants as packet
use Rattle.rubis_lives.specs.Folders.{AreOfSite, FoldersAreARun, IsRebuiltFolder, KeepsItsPromises}
use Rattle.rubis_lives.proofs.HistoriesFacts.{come, histories-are-replayed, history-at}
use Rattle.rubis_lives.proofs.RoomFacts.{taken-state}
use Rattle.rubis_lives.proofs.KeyFacts.{Records}
use Rattle.rubis_lives.proofs.RewritingFacts.{prefix-same}
use Rattle.rubis_lives.proofs.SiteLivesFacts.{shop-histories}

pub calls-are-lives : CallsAreLives
calls-are-lives p h h2 first later safe grown = (
  later,
  λ opened.
      let s = safe opened in
      let same : s.0 ≡ first ++ later =
      append_cancel_left h.events s.0 (first ++ later) (sym (ap (λ (t : History). t.events) s.1) ∙ grown) in
      subst (AreSafe (process_words p) (now h)) same s.2,
)

-- a text that ends with a line is its whole lines
ended-whole : (text : List ℕ) → begun_after [] text ≡ [] → whole_lines text ≡ text
ended-whole text e = sym (append-nil (whole_lines text)) ∙ ap (λ t. whole_lines text ++ t) (sym e) ∙ whole-rest [] text

pub shortened-may-replace : ShortenedMayReplace
shortened-may-replace p kept written sound h =
    let w = h kept refl sound in
    let same : written ≡ w.0 = w.1 in
    let whole : whole_lines written ≡ w.0 = ap whole_lines same ∙ ended-whole w.0 w.4 in
    record {
      sound = subst (HasSoundLines []) (sym same) w.3;
      without = subst (λ t. LeavesOut true p (keyed_opening p.site) (input_records t) (records_in kept)) (sym whole) w.2;
    }

some-same : {a b : List ℕ} → Some a ≡ Some b → a ≡ b
some-same e = cc e

none-read : (bytes : List ℕ) (later : Option (List ℕ)) → Consumes (Some []) later bytes → bytes ≡ []
none-read [] later c = refl
none-read (b ∷ bytes) None c = absurd c
none-read (b ∷ bytes) (Some rest) c = absurd (cc c)

module _ (p : Place) (keep : ℕ) (kept old : List ℕ) (done : Option (List ℕ)) (s : FileState) (more : p.keep ≤ keep) (most_kept : keep ≤ KEEP_MAX)
    (flushed : s.flushed ≡ s.kept) (l : Lived (kept_account p) kept old (Some []) done (Some s.kept) (Some s.out)) where
  read : whole_lines kept ++ kept_of_input l.bytes ≡ whole_lines kept
  read = ap (λ b. whole_lines kept ++ kept_of_input b) (none-read l.bytes done l.taken) ∙ append-nil (whole_lines kept)

  kept-is : s.kept ≡ whole_lines kept
  kept-is = some-same l.log_is ∙ read

  whole : whole_lines s.kept ≡ s.kept
  whole = ap whole_lines kept-is ∙ whole-whole kept l.sound ∙ sym kept-is

  answered : s.out ≡ process_text p (records_in s.kept)
  answered =
      some-same l.out_is
      ∙ ap (λ t. process_text p (input_records t)) (read ∙ sym kept-is ∙ sym whole)

  raised : IsFrontOf s.out (process_text (keeping_at_most p keep) (records_in s.kept)) → RaisesKeep p s keep
  raised told = record { more = more; most = most_kept; flushed = flushed; answered = answered; told = told }

  ends : {log out : Option (List ℕ)} (k t : List ℕ) → log ≡ Some k → out ≡ Some t
      → ((k ≡ s.kept) × (t ≡ s.out))
      ⊎ (HasSoundLines [] s.kept × IsFrontOf s.out ((kept_account (keeping_at_most p keep)).text AtEnd (input_records (whole_lines s.kept)))
      × ((rest : List (List (List ℕ))) → IsFrontOf t ((kept_account (keeping_at_most p keep)).text AtEnd (input_records (whole_lines k) ++ rest))))
      → ((log ≡ Some s.kept) × (out ≡ Some s.out)) ⊎ RaisesKeep p s keep
  ends k t e f (inl is) = inl (e ∙ ap (λ x. Some x) is.0, f ∙ ap (λ x. Some x) is.1)
  ends k t e f (inr found) = inr (raised found.1)

pub raised-calls-raise : RaisedCallsRaise
raised-calls-raise p keep kept old done s input later log out more most_kept flushed l = (
  λ lived. raised p keep kept old done s more most_kept flushed l lived.found,
  λ ended. ends p keep kept old done s more most_kept flushed l ended.kept ended.told ended.log_is ended.out_is ended.answers,
)

-- ---- folders with their lives are a run, which keeps its promises

-- ---- every run keeps the promises

-- the log of a site, without its tables
abbrev log-at : World → ℕ → Log
log-at w i = record { site = i; messages = (site w i).log; rows = None }

pub promises-kept : (n : ℕ) (events : List Event) → 1 ≤ n → AreEvents n events → KeepsItsPromises (run KEEP_MAX events (start n))
promises-kept n events some are =
    let w = run KEEP_MAX events (start n) in
    let in_run = every_run n KEEP_MAX events some (omega arith) are in
    let is : (i : ℕ) → IsLogOf w (log-at w i) = λ i. record { messages = refl; rows = tt } in
    record {
      tables = in_run.agree;
      nicknames = nicknames_are_unique n KEEP_MAX events some (omega arith) are;
      nicknames_at = λ i. (in_run.invariants.holds (log-at w i) (is i)).nicks;
      sold = λ i item. (in_run.invariants.holds (log-at w i) (is i)).stock item;
      stock = λ i. in_run.invariants.stock (log-at w i) (is i);
      winner = in_run.invariants.winner;
      winner_at = λ i. in_run.invariants.ended (log-at w i) (is i);
    }

-- ---- a folder that is rebuilt

-- the number of a record shows in its answer alone
same-inputs : (p : Place) (s : Replica) (n : ℕ) (records : Records) → site_after p s n records ≡ after_inputs p s (map (input_of p.sites) records)
same-inputs p s n [] = refl
same-inputs p s n (fields ∷ records) =
    ap (λ t. site_after p t (n + 1) records) (same_input p s n 1 (input_of p.sites fields))
    ∙ same-inputs p (input_step p s 1 (input_of p.sites fields)).0 (n + 1) records

rebuilds : (sites : ℕ) (events : List Event) (i : ℕ) (all : List Message) (tokens : List Token) (bytes : List ℕ) → 1 ≤ sites → AreEvents sites events
    → i < sites → AreOfSite i (run KEEP_MAX events (start sites)) all tokens → map (input_of sites) (bare_in (site_keeping sites i KEEP_MAX) bytes) ≡ inputs_to_rebuild
    (site_keeping sites i KEEP_MAX) tokens all (opening_at i) (sent_by i KEEP_MAX events (start sites)) → IsRebuiltFolder sites i events all tokens bytes
rebuilds sites events i all tokens bytes some are within of read =
    let p = site_keeping sites i KEEP_MAX in
    let packets = sent_by i KEEP_MAX events (start sites) in
    let r = sites_are_rebuilt sites KEEP_MAX i events all tokens (omega arith) within are of.sent of.whole of.tokens_sent of.tokens_whole in
    let inputs = inputs_rebuild p (run KEEP_MAX events (start sites)).sent all tokens (opening_at i) packets of.sent of.tokens_sent in
    record {
      again = ap (sent_on_inputs p (opening_at i)) read ∙ inputs.1 ∙ r.again;
      later = r.events;
      are_events = r.are_events;
      in_place = r.in_place;
      here = r.here ∙ sym inputs.0 ∙ ap (after_inputs p (opening_at i)) (sym read) ∙ sym (same-inputs p (opening_at i) 1 (bare_in p bytes))
          ∙ sym (bare_same p (keyed_opening i) 1 1 (records_in bytes));
      promises = promises-kept sites r.events some r.are_events;
    }

-- ---- folders with their lives

pub folders-are-a-run : FoldersAreARun
folders-are-a-run sites keep first lives running steps some top small shop carried =
    let histories = shop-histories first shop in
    let again = histories-are-replayed first small histories in
    let never = restarts_change_nothing sites most_kept (moments_in steps) again carried in
    let a_run = processes_run sites most_kept (recorded (moments_in steps)) some top (λ i. omega arith) never.carried in
    record {
      events = a_run.0;
      are_events = a_run.1;
      processes = a_run.2;
      kept = λ i within answered.
          let room = keeps i (keep i) steps in
          let taken = kept_takes sites i (keep i) (first i) steps in
          let all = read_by i (recorded (moments_in steps)) in
          let c = come sites keep first steps histories i (small i) steps [] (sym (append-nil steps)) in
          let is : c.recording ≡ taken = prefix-same c.recording taken taken c.kept ([], append-nil taken) (c.count ∙ answered) in
          let flushed = (is_placed_at i (first i) steps).flushed in
          let p = site_keeping sites i room in
          bare_same p (keyed_opening i) 1 1 (records_in flushed) ∙ taken-state p KEEP_MAX c.small (opening_at i) 1 1 (bare_in p flushed)
          ∙ short_state (process sites most_kept i) all taken (opening_at i) 1 1 (subst (λ t. IsShortened (process sites most_kept i) (opening_at i) t all) is c.short)
          ∙ sym (a_run.2.states i within);
      told = λ i. (history-at sites keep first steps histories i (small i)).told;
      promises = promises-kept sites a_run.0 some a_run.1;
      rebuilt = λ i all tokens bytes within of read. rebuilds sites a_run.0 i all tokens bytes some a_run.1 within of read;
    }
