-- How a run goes from its start to its end, and what follows for whoever calls it.
use Rattle.rubis_keep.proofs.Common.{◌≡◌, ◌⊎◌, inl, inr, ◌++◌, ◌∷◌, [], ℕ, Bool, true, false, List, Option, Some, None, IfSome, Result, Ok, Err, ap}
use Rattle.rubis_keep.proofs.Common.{refl, subst, ◌∙◌, ◌≤◌, map, ◌+◌, length, suc, take, zero, sym, arith, IfErr, MatchResult, OnOk, OnErr, IsAtEnd}
use Rattle.rubis_keep.proofs.Common.{Keeps, Consumes, counts, Place, KeyedSite, append-nil, Account, AtEnd, input_records, keyed_account}
use Rattle.rubis_keep.specs.Telling.{grows-more, grows-none}
use Rattle.rubis_keep.specs.Turns.{Answering, HoldsNothing, Breaks, Ends, IsAtRest, Standing, left_to_read, clerk_at, last}
use Rattle.rubis_keep.specs.Faults.{HasMore, MayDiffer, IsEditedAt, IsFailure, MayBeEdited, EndsTruly, IsTrueFault}
use Rattle.rubis_keep.specs.History.{Grows, History, FolderEvent, FileState, IsShown, StaysSafe, Tells, after_file_events, kept_in, now, out_in, records_in, Ended, IsFrontOf}
use Rattle.rubis_keep.specs.History.{Lived, Opens}
use Rattle.rubis_keep.specs.History.FolderEvent.{Began, CutTo, Flushed, Settled}
use Rattle.rubis_keep.specs.Lines.{HasSoundLines, asked_after, begun_after, kept_after, kept_of_input, whole_lines}
use Rattle.rubis_keep.specs.Runs.{Begun, Fails, GoesOn, IsKeptFailure, Replays, Runs, RunsInto, Starts, Unreplayed, starting, beginning}
use Rattle.rubis_keep.specs.declared.fault.KeepFault.{KeepFault}
use Rattle.rubis_keep.specs.declared.fault.KeepFault.TheVariants as fault
use Rattle.rubis_keep.specs.declared.pages.Listed.{Listed}
use Rattle.rubis_keep.proofs.HistoryFacts.{grows-still, consumes-none, some-is, now-more, stays-more, still-flushed, still-none, tells-log, tells-out}
use lib.Seq.{take-nil}
use Rattle.rubis_keep.specs.Questions.{AreFirst, RepliesTo, replied_in, replies, reply_to}
use Rattle.rubis_keep.specs.Lives.{Found, HasReplayed, IsAtStart, Rested}
use Rattle.rubis_keep.specs.Saying.{says_by, says_of}
use Rattle.rubis_keep.specs.declared.answers.Answers.{Answers}
use Rattle.rubis_keep.specs.declared.site.Clerk.{Clerk}
use Rattle.rubis_keep.proofs.AskFacts.{IsSilent, replied-append, silent-more, tells-silent}
use Rattle.rubis_keep.proofs.LifeFacts.{IsFresh, IsReady, account_of, answered-front, answered-more, answered-text, ended-live, ended-replay, ended-same}
use Rattle.rubis_keep.proofs.LifeFacts.{ended-unread, lived, read-all, read-too, replay-begins, replayed, same-known, true-left, true-live, true-replay}
use Rattle.rubis_keep.proofs.ReplyFacts.{Asks, Stood, asks-both, first-more, turns-ask, turns-ask-first}
use Rattle.rubis_keep.proofs.SafeFacts.{broke-safe, turns-safe, cut-kept, flushed-found, flushed-safe, replay-found, safe-take, starts-safe, told-within}
use Rattle.rubis_keep.proofs.SoundFacts.{whole-sound, whole-whole}
use Rattle.rubis_keep.proofs.TurnFacts.{Fell, Went, turns-fell, turns-went, went-fell}

none-unread : {unread : List ℕ} (input : Option (List ℕ)) → unread ≡ [] → left_to_read unread input ≡ input
none-unread None e = refl
none-unread (Some xs) e = ap (λ t. Some (t ++ xs)) e

-- ---- what was kept is answered again

pub replay-ends : {T : Type 0} {x : Standing} (z : Standing) (before : Option (List ℕ)) {live : Bool} {lines : ℕ} {history2 : Option History}
    (r : Result T KeepFault) → Ends false x z → OnOk r (IsAtEnd before × Keeps z.at.before before) → history2 ≡ z.history
    → (live ≡ z.at.is_live) × (lines ≡ z.at.lines) → IfErr r (λ e. MayDiffer e (λ d. IfSome z.at.before (λ left. HasMore left z.at.lines d)))
    → MatchResult r (λ _. Replays x (record z { at = record z.at { is_live = live; before = before; lines = lines }; history = history2 })) (Unreplayed x history2)
replay-ends z before (Ok u) e (none_left, same) still (live, lines) differs = record {
  end = z;
  ends = e;
  before = before;
  same = same;
  none_left = none_left;
  is = λ i. record z { at = record z.at { is_live = live i; before = before; lines = lines i }; history = still i };
}
replay-ends z before (Err met) e end still same differs = inr (z, e, still, differs)

-- ---- and new records come

pub fails-cut : (y : Standing) (input : Option (List ℕ)) (history2 : Option History) (e : KeepFault)
    → Grows y.history history2 [] ⊎ Grows y.history history2 (CutTo y.kept ∷ []) → IsFailure e → Fails y input input history2 e
fails-cut y input history2 e (inl g) fails = inl (0, g, refl, fails)
fails-cut y input history2 e (inr g) fails = inl (1, g, refl, fails)

pub fails-untold : (y : Standing) (input : Option (List ℕ)) (mid history2 : Option History) (e : KeepFault) → Grows y.history mid (CutTo y.kept ∷ Flushed ∷ [])
    → Grows mid history2 [] ⊎ Grows mid history2 (Settled ∷ []) → IsFailure e → Fails y input input history2 e
fails-untold y input mid history2 e cut (inl g) fails = inl (2, grows-still y.history mid history2 (CutTo y.kept ∷ Flushed ∷ []) cut g, refl, fails)
fails-untold y input mid history2 e cut (inr g) fails =
    inl (3, grows-more y.history mid history2 (CutTo y.kept ∷ Flushed ∷ []) (Settled ∷ []) cut g, refl, fails)

pub begun-again : (y : Standing) (input : Option (List ℕ)) (mid history : Option History) {unread begun : List ℕ} → IsAtRest y
    → Grows y.history mid (CutTo y.kept ∷ Flushed ∷ []) → Grows mid history (Settled ∷ Began y.at.answered (counts y.at.place.sites y.at.state.site.log) ∷ [])
    → unread ≡ [] → begun ≡ []
    → Begun y input (record y { at = record y.at { is_live = true }; input = left_to_read unread input; history = history; begun = begun })
begun-again y input mid history {unread} rests cut told none fresh = record {
  history = history;
  happened = grows-more y.history mid history (CutTo y.kept ∷ Flushed ∷ []) (Settled ∷ Began y.at.answered (counts y.at.place.sites y.at.state.site.log) ∷ []) cut told;
  is = λ i. record y { at = record y.at { is_live = true }; input = none-unread input none i; history = history; begun = fresh i };
  rests = record {
    idle = record { window = rests.idle.window; empty = rests.idle.empty; within = rests.idle.within };
    begun = ([], tt, fresh);
    listed = rests.listed;
  };
}

pub goes-on : {T : Type 0} (y : Standing) {z : Standing} (end : Standing) (input input2 : Option (List ℕ)) (unread : List ℕ) (r : Result T KeepFault) → Begun y input z
    → end.input ≡ left_to_read unread input2 → MatchResult r (λ _. Ends true z end) (Breaks true z end.input end.history)
    → MatchResult r (λ _. GoesOn y input input2 end.history) (Fails y input input2 end.history)
goes-on y {z} end input input2 unread (Ok u) b is e = (z, end, unread, b, e, is, refl)
goes-on y {z} end input input2 unread (Err met) b is e = inr (z, unread, b, subst (λ i. Breaks true z i end.history met) is e)

-- what is left of what was kept doesn't matter
begun-with : (past : Option (List ℕ)) {y z : Standing} {input : Option (List ℕ)} → Begun y input z → Begun (record y { input = past }) input z
begun-with past b = record { history = b.history; happened = b.happened; is = b.is; rests = b.rests }

-- ---- the run

-- no line came yet
pub none-came : (past : Option (List ℕ)) (a : Answering) (mid : Option History) {unread begun : List ℕ} {kept : ℕ} {listed : Option Listed}
    → (begun ≡ []) × (unread ≡ []) × (kept ≡ 0) × (listed ≡ None)
    → record { at = a; input = left_to_read unread past; history = mid; begun = begun; kept = kept; listed = listed } ≡ starting a past mid
none-came past a mid (fresh, none, len, unlisted) = λ i.
    record { at = a; input = none-unread past none i; history = mid; begun = fresh i; kept = len i; listed = unlisted i }

pub starting-rests : (a : Answering) (past : Option (List ℕ)) (mid : Option History) → HoldsNothing a → IsAtRest (starting a past mid)
starting-rests a past mid idle = record { idle = idle; begun = ([], tt, refl); listed = tt }

pub kept-fails : (e : KeepFault) → IsKeptFailure e → IsFailure e
kept-fails (fault.WriteKept e) h = tt
kept-fails e h = absurd h

failure-edited : (e : KeepFault) (P : ℕ → Type 0) → IsFailure e → MayBeEdited e P
failure-edited (fault.Edited n) P h = absurd h
failure-edited (fault.Differs d) P h = h
failure-edited fault.TooLong P h = h
failure-edited e P h = h

-- nothing has happened yet
pub runs-unstarted : (first past : Option (List ℕ)) (a : Answering) (input : Option (List ℕ)) (old new : Option History) (e : KeepFault) → Grows old new []
    → IsFailure e → RunsInto first past a input input old new e
runs-unstarted first past a input old new e g fails = inl (g, refl, failure-edited e (λ n. IfSome first (λ text. IsEditedAt text n)) fails)

pub runs-unreplayed : {first past : Option (List ℕ)} {a : Answering} (input : Option (List ℕ)) {old mid new : Option History} {x : Standing} (e : KeepFault)
    → Starts first old mid → x ≡ starting a past mid → Unreplayed x new e → RunsInto first past a input input old new e
runs-unreplayed input {mid = mid} {new = new} e s is u = inr (mid, s, inl (refl, subst (λ (w : Standing). Unreplayed w new e) is u))

pub runs-end : {T : Type 0} {first past : Option (List ℕ)} {a : Answering} (input input2 : Option (List ℕ)) {old mid : Option History} (new : Option History) {x : Standing}
    (y : Standing) (left : Option (List ℕ)) (r : Result T KeepFault) → Starts first old mid → x ≡ starting a past mid → Replays x (record y { input = left })
    → MatchResult r (λ _. GoesOn y input input2 new) (Fails y input input2 new) → Runs first past a input input2 old new r
runs-end input input2 {mid = mid} new y left (Ok u) s is p (z, end, unread, b, e, at_end, happened) = (
  mid,
  record y { input = left },
  s,
  subst (λ (w : Standing). Replays w (record y { input = left })) is p,
  (z, end, unread, begun-with left b, e, at_end, happened),
)
runs-end input input2 {mid = mid} new y left (Err e) s is p (inl fails) =
    inr (mid, s, inr (record y { input = left }, subst (λ (w : Standing). Replays w (record y { input = left })) is p, inl fails))
runs-end input input2 {mid = mid} new y left (Err e) s is p (inr (z, unread, b, f)) = inr (
  mid,
  s,
  inr (record y { input = left }, subst (λ (w : Standing). Replays w (record y { input = left })) is p, inr (z, unread, begun-with left b, f)),
)

-- ---- what follows of a run, from its start to its end, for whoever calls it

-- ---- a history that is known

known : {kept : List ℕ} (a : Option History) → kept_in a ≡ Some kept → (h : History) × (a ≡ Some h) × ((now h).kept ≡ kept)
known None e = absurd (cc e)
known (Some h) e = (h, refl, cc e)

grown : (h : History) (b : Option History) (es : List FolderEvent) → Grows (Some h) b es → (h2 : History) × (b ≡ Some h2) × (now h2 ≡ after_file_events (now h) es)
grown h None es g = absurd g
grown h (Some h2) es g = (h2, refl, now-more h es g)

-- ---- its start

-- the site begins with nothing done
pub record IsNew (a : Answering) : Type 0 where
  pub idle : HoldsNothing a
  pub none : a.answered ≡ 0
  pub uncounted : a.lines ≡ 0

fresh-start : {kept old : List ℕ} {first past : Option (List ℕ)} {a : Answering} (h mid : Option History) → IsNew a
    → Opens kept old first past (kept_in h) a.before (out_in h) → Starts first h mid → IsFresh kept old (starting a past mid)
fresh-start h mid fresh o s = record {
  input = o.past_is;
  before = o.before_is;
  out = same-known (out_in h) (out_in mid) o.out_is (still-flushed h mid s.flushed).1;
  begun = refl;
  len = refl;
  answered = fresh.none;
  uncounted = fresh.uncounted;
  idle = fresh.idle;
  sound = rw o.first_is at s.sound;
}

log-start : {kept old : List ℕ} {first past before : Option (List ℕ)} (h mid : Option History) → Opens kept old first past (kept_in h) before (out_in h)
    → Starts first h mid → kept_in mid ≡ Some kept
log-start h mid o s = same-known (kept_in h) (kept_in mid) o.log_is (still-flushed h mid s.flushed).0

-- ---- what was kept is answered again

-- a run that answered it has come to stand there
record Again (x : Standing) (kept old : List ℕ) (y : Standing) : Type 0 where
  replayed : HasReplayed (account_of x) x.at.place x.at.state y.at kept old (out_in y.history) y.kept
  log : kept_in y.history ≡ Some kept
  sound : HasSoundLines [] kept
  added : List ℕ
  told : Tells x.at.is_live x.history y.history added []
  limit : y.at.limit ≡ x.at.limit

again : {x y : Standing} {kept old : List ℕ} → IsAtRest x → IsFresh kept old x → kept_in x.history ≡ Some kept → Replays x y → Again x kept old y
again {x} {y} {kept} {old} rests fresh log r =
    let e = r.ends in
    let w = subst (λ (s : Standing). Went false x s) (sym e.last_is) (turns-went x e.turns rests e.are).0 in
    let z = r.end in
    rw r.is (record {
      replayed = replayed r.before fresh w e.rests.idle e.end r.same r.none_left;
      log = same-known (kept_in x.history) (kept_in z.history) log (tells-log true x.at.is_live x.history z.history (w.told refl));
      sound = fresh.sound;
      added = w.added;
      told = w.told refl;
      limit = w.fed.limit;
    })

again-start : {kept old : List ℕ} {first past : Option (List ℕ)} {a : Answering} (h mid : Option History) {y : Standing} → IsNew a
    → Opens kept old first past (kept_in h) a.before (out_in h) → Starts first h mid → Replays (starting a past mid) y → Again (starting a past mid) kept old y
again-start {past = past} {a = a} h mid fresh o s r =
    again (starting-rests a past mid fresh.idle) (fresh-start h mid fresh o s) (log-start h mid o s) r

-- and then `kept,..` was shown
ready : {x y z : Standing} {kept old : List ℕ} {input : Option (List ℕ)} → (a : Again x kept old y) → Begun y input z
    → IsReady (account_of x) x.at.place x.at.state kept a.replayed.told input z
ready {x} {y} {z} {kept} {old} {input} a b =
    let k = known y.history a.log in
    let g = grown k.0 b.history (beginning y) (rw k.1 at b.happened) in
    let r = a.replayed in
    rw b.is (record {
      answered = record {
        text = r.answered.text;
        place = r.answered.place;
        state = r.answered.state;
        count = r.answered.count;
        whole = r.answered.whole;
        idle = record { window = r.answered.idle.window; empty = r.answered.idle.empty; within = r.answered.idle.within };
      };
      before = r.before_is;
      input_is = refl;
      log = ap kept_in g.1 ∙ ap (λ k. Some k) (ap (λ s. s.kept) g.2 ∙ ap (take y.kept) k.2 ∙ cut-kept kept r.length_is);
      out = ap out_in g.1 ∙ ap (λ s. Some s.out) g.2 ∙ sym (ap out_in k.1) ∙ r.out_is;
      begun = refl;
      sound = a.sound;
    })

-- ---- what it leaves

run-lived : {x y : Standing} {kept old : List ℕ} {input : Option (List ℕ)} (input2 : Option (List ℕ)) (new : Option History) → Again x kept old y
    → GoesOn y input input2 new → Lived (account_of x) kept old input input2 (kept_in new) (out_in new)
run-lived {x} {y} {kept} {old} {input} input2 new a (z, end, unread, b, e, is, happened) =
    let w = subst (λ (s : Standing). Went true z s) (sym e.last_is) (turns-went z e.turns b.rests e.are).0 in
    subst (λ h. Lived (account_of x) kept old input input2 (kept_in h) (out_in h)) happened
    (lived old input2 unread (ready a b) w e.rests.idle is e.end a.replayed.found)

-- some first events of the beginning cut the line that isn't whole off, or are none
cut-first : (n : ℕ) (y : Standing) (s : FileState) → (n ≡ 0) ⊎ (((after_file_events s (take n (beginning y))).kept ≡ take y.kept s.kept) × ((after_file_events s (take n (beginning y))).out ≡ s.out))
cut-first zero y s = inl refl
cut-first (suc zero) y s = inr (refl, refl)
cut-first (suc (suc zero)) y s = inr (refl, refl)
cut-first (suc (suc (suc zero))) y s = inr (refl, refl)
cut-first (suc (suc (suc (suc n)))) y s =
    let all = ap (after_file_events (after_file_events s (beginning y))) (take-nil n) in
    inr (ap (λ (f : FileState). f.kept) all, ap (λ (f : FileState). f.out) all)

-- a fault came once all was answered again, before the first new record
run-uncut : {x y : Standing} {kept old : List ℕ} (input : Option (List ℕ)) (new : Option History) (n : ℕ) → Again x kept old y
    → Grows y.history new (take n (beginning y)) → Ended (account_of x) kept old input input (kept_in new) (out_in new)
run-uncut {x} {y} {kept} {old} input new n a g =
    let k = known y.history a.log in
    let h = grown k.0 new (take n (beginning y)) (rw k.1 at g) in
    let out : Some (now k.0).out ≡ Some a.replayed.told = sym (ap out_in k.1) ∙ a.replayed.out_is in
    go h.0 h.1 k.0 k.2 out h.2 (cut-first n y (now k.0))
  where
    begins : (more : List (List (List ℕ))) → IsFrontOf a.replayed.told ((account_of x).text AtEnd (input_records (whole_lines kept) ++ more))
    begins = answered-front a.replayed.answered

    go : (h2 : History) → new ≡ Some h2 → (h : History) → (now h).kept ≡ kept → Some (now h).out ≡ Some a.replayed.told
        → now h2 ≡ after_file_events (now h) (take n (beginning y))
        → (n ≡ 0) ⊎ (((after_file_events (now h) (take n (beginning y))).kept ≡ take y.kept (now h).kept) × ((after_file_events (now h) (take n (beginning y))).out ≡ (now h).out))
        → Ended (account_of x) kept old input input (kept_in new) (out_in new)
    go h2 is h kept_is out state (inl none) =
        let same = state ∙ ap (λ m. after_file_events (now h) (take m (beginning y))) none in
        subst (λ l. Ended (account_of x) kept old input input l (out_in new))
        (sym (ap kept_in is ∙ ap (λ (f : FileState). Some f.kept) same ∙ ap (λ t. Some t) kept_is))
        (ended-same (account_of x) kept old a.replayed.told input (ap out_in is ∙ ap (λ (f : FileState). Some f.out) same ∙ out)
        (inr (a.sound, a.replayed.found, begins)))
    go h2 is h kept_is out state (inr (log, same)) = record {
      kept = whole_lines kept;
      told = a.replayed.told;
      bytes = [];
      log_is = ap kept_in is ∙ ap (λ (f : FileState). Some f.kept) state ∙ ap (λ t. Some t) (log ∙ ap (take y.kept) kept_is ∙ cut-kept kept a.replayed.length_is);
      out_is = ap out_in is ∙ ap (λ (f : FileState). Some f.out) state ∙ ap (λ t. Some t) same ∙ out;
      taken = consumes-none input;
      sound = λ s. whole-sound kept s;
      grows = inr (([], append-nil (whole_lines kept)), ([], refl));
      answers = inr (
        a.sound,
        a.replayed.found,
        λ more. subst (λ k. IsFrontOf a.replayed.told ((account_of x).text AtEnd (input_records k ++ more))) (sym (whole-whole kept a.sound)) (begins more),
      );
    }

-- what was kept couldn't be answered again
unreplayed-fell : {x : Standing} (new : Option History) (e : KeepFault) → IsAtRest x → Unreplayed x new e
    → (past2 : Option (List ℕ)) × (met : KeepFault) × Fell false x past2 new met
unreplayed-fell {x} new e rests (inl (met, past2, b, is)) = (past2, met, turns-fell x b.turns past2 new rests b.are b.broke)
unreplayed-fell {x} new e rests (inr (z, ends, happened, differs)) =
    let w = subst (λ (s : Standing). Went false x s) (sym ends.last_is) (turns-went x ends.turns rests ends.are).0 in (
      z.input,
      fault.Memory,
      subst (λ h. Fell false x z.input h fault.Memory) (sym happened)
          (went-fell z.input z.history [] [] w (consumes-none z.input) (λ line b. ([], refl)) tt
          (still-none z.history z.history (grows-none z.history)).1 (λ off. grows-none z.history) tt),
    )

run-unreplayed : {x : Standing} {kept old : List ℕ} (input : Option (List ℕ)) (new : Option History) (e : KeepFault) → IsAtRest x → IsFresh kept old x
    → kept_in x.history ≡ Some kept → Unreplayed x new e → Ended (account_of x) kept old input input (kept_in new) (out_in new)
run-unreplayed {x} {kept} {old} input new e rests fresh log u =
    let f = (unreplayed-fell new e rests u).2 in
    let told = f.told refl in
    subst (λ l. Ended (account_of x) kept old input input l (out_in new))
    (sym (same-known (kept_in x.history) (kept_in new) log (tells-log true x.at.is_live x.history new told.1))) (ended-replay new input fresh f)

run-ended : {x : Standing} {kept old : List ℕ} (input input2 : Option (List ℕ)) (new : Option History) (e : KeepFault) → IsAtRest x → IsFresh kept old x
    → kept_in x.history ≡ Some kept → ((input2 ≡ input) × Unreplayed x new e) ⊎ ((y : Standing) × Replays x y × Fails y input input2 new e)
    → Ended (account_of x) kept old input input2 (kept_in new) (out_in new)
run-ended input input2 new e rests fresh log (inl (is, u)) = rw is (run-unreplayed input new e rests fresh log u)
run-ended {x} {kept} {old} input input2 new e rests fresh log (inr (y, r, inl (n, g, is, fails))) =
    rw is (run-uncut input new n (again rests fresh log r) g)
run-ended {x} {kept} {old} input input2 new e rests fresh log (inr (y, r, inr (z, unread, b, f))) =
    let a = again rests fresh log r in
    ended-live old input2 unread new (ready a b) (turns-fell z f.turns (left_to_read unread input2) new b.rests f.are f.broke) a.replayed.found

-- ---- by which fault it ends

left-true : {x z : Standing} {kept old : List ℕ} (e : KeepFault) → IsFresh kept old x → (w : Went false x z) → HoldsNothing z.at → IsAtEnd z.input
    → MayDiffer e (λ d. IfSome z.at.before (λ left. HasMore left z.at.lines d)) → IsTrueFault x.at.limit (account_of x) kept old [] e
left-true (fault.Differs d) fresh w idle end h = true-left d fresh w idle end h
left-true fault.TooLong fresh w idle end h = absurd h
left-true (fault.Edited n) fresh w idle end h = absurd h
left-true e fresh w idle end h = tt

failure-true : (limit : ℕ) (all : Account) (kept old bytes : List ℕ) (e : KeepFault) → IsFailure e → IsTrueFault limit all kept old bytes e
failure-true limit all kept old bytes (fault.Differs d) h = absurd h
failure-true limit all kept old bytes fault.TooLong h = absurd h
failure-true limit all kept old bytes (fault.Edited n) h = absurd h
failure-true limit all kept old bytes e h = tt

edited-true : (limit : ℕ) (all : Account) {kept : List ℕ} (old : List ℕ) (first : Option (List ℕ)) (e : KeepFault) → first ≡ Some kept
    → MayBeEdited e (λ n. IfSome first (λ text. IsEditedAt text n)) → IsTrueFault limit all kept old [] e
edited-true limit all {kept} old first e is h = go e (rw is at h)
  where
    go : (e : KeepFault) → MayBeEdited e (IsEditedAt kept) → IsTrueFault limit all kept old [] e
    go (fault.Edited n) h = h
    go (fault.Differs d) h = absurd h
    go fault.TooLong h = absurd h
    go e h = tt

run-true : {x : Standing} {kept old : List ℕ} (input input2 : Option (List ℕ)) (new : Option History) (e : KeepFault) → IsAtRest x → IsFresh kept old x
    → kept_in x.history ≡ Some kept → ((input2 ≡ input) × Unreplayed x new e) ⊎ ((y : Standing) × Replays x y × Fails y input input2 new e)
    → (bytes : List ℕ) × Consumes input input2 bytes × IsTrueFault x.at.limit (account_of x) kept old bytes e
run-true {x} {kept} {old} input input2 new e rests fresh log (inl (is, inl (met, past2, b, by))) = (
  [],
  rw is (consumes-none input),
  rw by (true-replay past2 new met fresh (turns-fell x b.turns past2 new rests b.are b.broke)),
)
run-true {x} {kept} {old} input input2 new e rests fresh log (inl (is, inr (z, ends, happened, differs))) =
    let w = subst (λ (s : Standing). Went false x s) (sym ends.last_is) (turns-went x ends.turns rests ends.are).0 in
    ([], rw is (consumes-none input), left-true e fresh w ends.rests.idle ends.end differs)
run-true {x} {kept} {old} input input2 new e rests fresh log (inr (y, r, inl (n, g, is, fails))) =
    ([], rw is (consumes-none input), failure-true x.at.limit (account_of x) kept old [] e fails)
run-true {x} {kept} {old} input input2 new e rests fresh log (inr (y, r, inr (z, unread, b, f))) =
    let a = again rests fresh log r in
    let fell = turns-fell z f.turns (left_to_read unread input2) new b.rests f.are f.broke in
    let begins = ready a b in
    let bytes = fell.bytes ++ fell.next in
    let limit : z.at.limit ≡ x.at.limit = ap (λ (s : Standing). s.at.limit) b.is ∙ a.limit in (
      bytes ++ unread,
      read-too input input2 bytes unread (subst (λ i. Consumes i (left_to_read unread input2) bytes) begins.input_is fell.taken),
      subst (λ l. IsTrueFault l (account_of x) kept old (bytes ++ unread) e) limit (true-live old input2 unread new e begins fell),
    )

-- no more records than the limit came
run-within : {x y : Standing} {kept old : List ℕ} {input : Option (List ℕ)} (input2 : Option (List ℕ)) (new : Option History) → Again x kept old y
    → GoesOn y input input2 new
    → (bytes : List ℕ) × Consumes input input2 bytes × (length (input_records (whole_lines kept ++ kept_of_input bytes)) ≤ x.at.limit)
run-within {x} {y} {kept} {old} {input} input2 new a (z, end, unread, b, e, is, happened) =
    let w = subst (λ (s : Standing). Went true z s) (sym e.last_is) (turns-went z e.turns b.rests e.are).0 in
    let begins = ready a b in
    let h = answered-more begins.answered w.fed w.whole e.rests.idle in
    let chunk = (w.cuts [] begins.begun).1 in
    let count = h.count ∙ ap (λ c. length (input_records (whole_lines kept ++ c))) chunk in
    let limit : z.at.limit ≡ y.at.limit = ap (λ (s : Standing). s.at.limit) b.is in
    let last = e.rests.idle.within in
    let same = a.limit in
    let same2 = w.fed.limit in (
      w.bytes,
      read-all input input2 w.bytes unread (subst IsAtEnd is e.end)
          (subst (λ i. Consumes i (left_to_read unread input2) w.bytes) begins.input_is (subst (λ i. Consumes z.input i w.bytes) is w.taken)),
      omega (arith, count, last, limit, same, same2),
    )

-- ---- what it replies

silent-start : (a b c : Option History) (live : Bool) {told due : List ℕ} → Grows a b (Flushed ∷ []) → Tells live b c told due → IsSilent a c
silent-start a b c live g t = silent-more a b c (Flushed ∷ [], g, refl) (tells-silent live b c t)

silent-take : (n : ℕ) (a b : Option History) (y : Standing) → Grows a b (take n (beginning y)) → IsSilent a b
silent-take n a b y g = (take n (beginning y), g, go n)
  where
    go : (n : ℕ) → replied_in (take n (beginning y)) ≡ []
    go zero = refl
    go (suc zero) = refl
    go (suc (suc zero)) = refl
    go (suc (suc (suc zero))) = refl
    go (suc (suc (suc (suc n)))) = ap replied_in (take-nil n)

stood-start : {x y z : Standing} {kept old : List ℕ} {input : Option (List ℕ)} → (a : Again x kept old y) → (b : Begun y input z)
    → Stood (account_of x) x.at.place x.at.state z a.replayed.told (whole_lines kept) []
stood-start a b = let r = ready a b in record { answered = r.answered; begun = r.begun; rests = b.rests }

-- what happened before is no reply
after-silent : {T E : Type 0} (p : Place) (s : KeyedSite) (kept : List ℕ) (input input2 : Option (List ℕ)) (old mid new : Option History) (r : Result T E)
    → IsSilent old mid → RepliesTo p s kept input input2 mid new r → RepliesTo p s kept input input2 old new r
after-silent {T} {E} p s kept input input2 old mid new r silent (bytes, taken, events, g, replied) =
    (bytes, taken, silent.0 ++ events, grows-more old mid new silent.0 events silent.1 g, go r replied)
  where
    told : replied_in (silent.0 ++ events) ≡ replied_in events
    told = replied-append silent.0 events ∙ ap (λ t. t ++ replied_in events) silent.2

    go : (r : Result T E)
        → MatchResult r (λ _. replied_in events ≡ replies p s (whole_lines kept) bytes)
        (λ _. AreFirst (replied_in events) (replies p s (whole_lines kept) bytes))
        → MatchResult r (λ _. replied_in (silent.0 ++ events) ≡ replies p s (whole_lines kept) bytes)
        (λ _. AreFirst (replied_in (silent.0 ++ events)) (replies p s (whole_lines kept) bytes))
    go (Ok x) h = told ∙ h
    go (Err x) h = subst (λ t. AreFirst t (replies p s (whole_lines kept) bytes)) (sym told) h

replies-none : {T E : Type 0} (p : Place) (s : KeyedSite) (kept : List ℕ) (input : Option (List ℕ)) (old new : Option History) (r : Result T E) (e : E) → r ≡ Err e
    → IsSilent old new → RepliesTo p s kept input input old new r
replies-none p s kept input old new r e is (events, g, none) =
    rw is ([], consumes-none input, events, g, inl ([], append-nil (replied_in events) ∙ none))

-- what came of the input was asked and answered
asked-live : {x y : Standing} {kept old : List ℕ} {input : Option (List ℕ)} (input2 : Option (List ℕ)) (new : Option History) → Again x kept old y
    → GoesOn y input input2 new → (bytes : List ℕ) × Consumes input input2 bytes × (events : List FolderEvent) × Grows y.history new events
    × (replied_in events ≡ replies x.at.place x.at.state (whole_lines kept) bytes)
asked-live {x} {y} {kept} {old} {input} input2 new a (z, end, unread, b, e, is, happened) =
    let asks = subst (λ (s : Standing). Asks (account_of x) x.at.place x.at.state z s (whole_lines kept) []) (sym e.last_is) (turns-ask z e.turns (stood-start a b) e.are) in
    let begins = ready a b in
    let start = beginning y in (
      asks.bytes,
      read-all input input2 asks.bytes unread (subst IsAtEnd is e.end)
          (subst (λ i. Consumes i (left_to_read unread input2) asks.bytes) begins.input_is (subst (λ i. Consumes z.input i asks.bytes) is asks.taken)),
      start ++ asks.events,
      subst (λ h. Grows y.history h (start ++ asks.events)) happened (grows-more y.history z.history end.history start asks.events
          (subst (λ (s : Standing). Grows y.history s.history start) (sym b.is) b.happened) asks.grows),
      asks.replied,
    )

first-live : {x y : Standing} {kept old : List ℕ} {input : Option (List ℕ)} (input2 : Option (List ℕ)) (new : Option History) (e : KeepFault) → Again x kept old y
    → Fails y input input2 new e → (bytes : List ℕ) × Consumes input input2 bytes × (events : List FolderEvent) × Grows y.history new events
    × AreFirst (replied_in events) (replies x.at.place x.at.state (whole_lines kept) bytes)
first-live {x} {y} {kept} {old} {input} input2 new e a (inl (n, g, is, fails)) =
    let silent = silent-take n y.history new y g in
    ([], rw is (consumes-none input), silent.0, silent.1, inl ([], append-nil (replied_in silent.0) ∙ silent.2))
first-live {x} {y} {kept} {old} {input} input2 new e a (inr (z, unread, b, f)) =
    let p = x.at.place in
    let s = x.at.state in
    let asks = turns-ask-first z f.turns (left_to_read unread input2) new (stood-start a b) f.are f.broke in
    let begins = ready a b in
    let start = beginning y in
    let more = map (reply_to p s) (asked_after true (whole_lines kept ++ kept_after true [] asks.bytes) (begun_after [] asks.bytes) unread) in (
      asks.bytes ++ unread,
      read-too input input2 asks.bytes unread (subst (λ i. Consumes i (left_to_read unread input2) asks.bytes) begins.input_is asks.taken),
      start ++ asks.events,
      grows-more y.history z.history new start asks.events (subst (λ (s : Standing). Grows y.history s.history start) (sym b.is) b.happened) asks.grows,
      subst (AreFirst (replied_in asks.events)) (sym (asks-both p s (whole_lines kept) [] asks.bytes unread))
          (first-more (replied_in asks.events) (replies p s (whole_lines kept) asks.bytes) more asks.replied),
    )

-- ---- that its files are safe

-- as far as it was answered again
safe-told : (x : Standing) {kept : List ℕ} (p : Place) (s : KeyedSite) (m : History) (new : Option History) {added due : List ℕ} → x.history ≡ Some m
    → x.at.is_live ≡ false → HasSoundLines [] kept → Found kept (now m) → Tells x.at.is_live x.history new added due
    → IsFrontOf ((now m).out ++ added) ((account_of x).text AtEnd (records_in kept)) → StaysSafe (says_by (account_of x) p s) (Some m) new
safe-told x p s m None is off sound found t front = absurd (rw is at t).1
safe-told x {kept} p s m (Some h2) {added} {due} is off sound found t front =
    let told = rw is at t in
    told-within (says_by (account_of x) p s) m off sound found told
    (subst (λ o. IsFrontOf o ((account_of x).text AtEnd (records_in kept))) (sym (tells-out x.at.is_live (Some m) (Some h2) told)) front)

-- what was kept couldn't be answered again
unreplayed-safe : {x : Standing} {kept old : List ℕ} (p : Place) (s : KeyedSite) (m : History) (new : Option History) (e : KeepFault) → x.history ≡ Some m
    → x.at.is_live ≡ false → IsAtRest x → IsFresh kept old x → Found kept (now m) → IsFrontOf old ((account_of x).text AtEnd (records_in kept))
    → Unreplayed x new e → StaysSafe (says_by (account_of x) p s) (Some m) new
unreplayed-safe {x} {kept} {old} p s m new e is off rests fresh found front u =
    let f = (unreplayed-fell new e rests u).2 in
    let all = account_of x in
    let out : (now m).out ≡ old = some-is (sym (ap out_in is) ∙ fresh.out) in
    safe-told x p s m new is off fresh.sound found (f.told refl).1
    (subst (λ o. IsFrontOf (o ++ f.added) (all.text AtEnd (records_in kept))) (sym out)
    (either f.added (all.text AtEnd (records_in kept)) (subst (λ r. (f.added ≡ []) ⊎ IsFrontOf (old ++ f.added) (all.text AtEnd r)) (append-nil (records_in kept))
    (replay-begins fresh f [])) front))
  where
    either : (added text : List ℕ) → (added ≡ []) ⊎ IsFrontOf (old ++ added) text → IsFrontOf old text → IsFrontOf (old ++ added) text
    either added text (inl none) front = subst (λ o. IsFrontOf o text) (sym (ap (λ t. old ++ t) none ∙ append-nil old)) front
    either added text (inr begins) front = begins

-- it was, and then `kept,..` was shown as far as it goes
record SafeAgain (x y : Standing) (kept : List ℕ) (p : Place) (s : KeyedSite) (m m2 : History) : Type 0 where
  is : y.history ≡ Some m2
  safe : StaysSafe (says_by (account_of x) p s) (Some m) (Some m2)
  found : Found kept (now m2)

again-safe : {x y : Standing} {kept old : List ℕ} (p : Place) (s : KeyedSite) (m : History) → x.history ≡ Some m → x.at.is_live ≡ false → IsFresh kept old x
    → Found kept (now m) → (a : Again x kept old y) → (m2 : History) × SafeAgain x y kept p s m m2
again-safe {x} {y} {kept} {old} p s m is off fresh found a =
    let k = known y.history a.log in
    let all = account_of x in
    let told = rw (is, k.1) at a.told in
    let r = a.replayed in
    let out : (now k.0).out ≡ r.told = some-is (sym (ap out_in k.1) ∙ r.out_is) in
    let grows : (now k.0).out ≡ (now m).out ++ a.added = tells-out x.at.is_live (Some m) (Some k.0) told in (
      k.0,
      record {
        is = k.1;
        safe = safe-told x p s m (Some k.0) is off a.sound found (subst (λ h. Tells x.at.is_live x.history h a.added []) k.1 a.told)
            (subst (λ o. IsFrontOf o (all.text AtEnd (records_in kept))) (sym out ∙ grows) ([], append-nil r.told ∙ sym (answered-text AtEnd r.answered)));
        found = replay-found m off found told;
      },
    )

-- the run goes on from there
begun-safe : {x y z : Standing} {kept old : List ℕ} {input : Option (List ℕ)} (m2 : History) → y.history ≡ Some m2 → Found kept (now m2)
    → Again x kept old y → Begun y input z → (m3 : History) × (z.history ≡ Some m3) × StaysSafe (says_by (account_of x) x.at.place x.at.state) (Some m2) (Some m3)
    × Rested (account_of x) x.at.place x.at.state z.at (now m3)
begun-safe {x} {y} {z} {kept} {old} m2 is found a b =
    let start = starts-safe y m2 a.sound found (subst (λ h. HasReplayed (account_of x) x.at.place x.at.state y.at kept old (out_in h) y.kept) is a.replayed) in
    let g = grown m2 b.history (beginning y) (rw is at b.happened) in (
      g.0,
      ap (λ (s : Standing). s.history) b.is ∙ g.1,
      (beginning y, subst (λ h. Grows (Some m2) h (beginning y)) g.1 (rw is at b.happened), start.0),
      subst (λ (v : Answering). Rested (account_of x) x.at.place x.at.state v (now g.0)) (sym (ap (λ (s : Standing). s.at) b.is))
          (subst (Rested (account_of x) x.at.place x.at.state (record y.at { is_live = true })) (sym g.2) start.1),
    )

fails-safe : {x y : Standing} {kept old : List ℕ} {input : Option (List ℕ)} (input2 : Option (List ℕ)) (m2 : History) (new : Option History) (e : KeepFault)
    → y.history ≡ Some m2 → Found kept (now m2) → Again x kept old y → Fails y input input2 new e
    → StaysSafe (says_by (account_of x) x.at.place x.at.state) (Some m2) new
fails-safe {x} {y} {kept} {old} input2 m2 new e is found a (inl (n, g, i, fails)) =
    let start = starts-safe y m2 a.sound found (subst (λ h. HasReplayed (account_of x) x.at.place x.at.state y.at kept old (out_in h) y.kept) is a.replayed) in
    (take n (beginning y), rw is at g, safe-take (says_by (account_of x) x.at.place x.at.state) n (now m2) (beginning y) start.0)
fails-safe {x} input2 m2 new e is found a (inr (z, unread, b, f)) =
    let s = begun-safe m2 is found a b in
    stays-more (says_by (account_of x) x.at.place x.at.state) (Some m2) (Some s.0) new s.2
    (broke-safe z f.turns (left_to_read unread input2) s.0 new s.1 b.rests s.3 f.are f.rests f.broke)

goes-safe : {x y : Standing} {kept old : List ℕ} {input : Option (List ℕ)} (input2 : Option (List ℕ)) (m2 : History) (new : Option History)
    → y.history ≡ Some m2 → Found kept (now m2) → Again x kept old y → GoesOn y input input2 new
    → StaysSafe (says_by (account_of x) x.at.place x.at.state) (Some m2) new × IfSome new (λ h. IsShown (now h))
goes-safe {x} input2 m2 new is found a (z, end, unread, b, e, i, happened) =
    let s = begun-safe m2 is found a b in
    let t = turns-safe z e.turns s.0 s.1 b.rests s.3 e.are in
    let last_is : new ≡ Some t.0 = sym happened ∙ ap (λ (w : Standing). w.history) e.last_is ∙ t.1 in
    rw last_is (stays-more (says_by (account_of x) x.at.place x.at.state) (Some m2) (Some s.0) (Some t.0) s.2 t.2, (t.3.begun, t.3.shown))

-- ---- for whoever calls it

-- a site with nothing done, where its memory doesn't suffice for a desk
abbrev pub new-site : Place → KeyedSite → ℕ → Bool → Option (List ℕ) → Answering
new-site place state limit live before = record {
  place = place;
  state = state;
  held = [];
  first = 0;
  answered = 0;
  limit = limit;
  sink = [];
  is_live = live;
  before = before;
  lines = 0;
}

-- a clerk with nothing done
pub new-clerk : {O F G : Type 0} (before : O → Option (List ℕ)) (c : Clerk G) (a : Answers O F)
    → (c.keyed.desk.window.items ≡ []) × (c.served.reply.sink ≡ []) × (c.served.answered ≡ 0) → IsNew (clerk_at before c (record a { lines = 0 }))
new-clerk before c a (window, empty, none) = record {
  idle = record { window = window; empty = empty; within = omega (arith, none) };
  none = none;
  uncounted = refl;
}

pub is-new : (place : Place) (state : KeyedSite) (limit : ℕ) (live : Bool) (before : Option (List ℕ)) → IsNew (new-site place state limit live before)
is-new place state limit live before =
    record { idle = record { window = refl; empty = refl; within = omega arith }; none = refl; uncounted = refl }

pub runs-lived : {T : Type 0} (r : Result T KeepFault) (first past input input2 : Option (List ℕ)) {a : Answering} (h new : Option History)
    → IsNew a → Runs first past a input input2 h new r → OnOk r ((kept old : List ℕ) → Opens kept old first past (kept_in h) a.before (out_in h)
    → Lived (keyed_account a.place a.state 1) kept old input input2 (kept_in new) (out_in new))
runs-lived (Ok u) first past input input2 h new fresh (mid, y, s, r, goes) = λ kept old o. run-lived input2 new (again-start h mid fresh o s r) goes
runs-lived (Err e) first past input input2 h new fresh runs = tt

pub runs-ended : {T : Type 0} (r : Result T KeepFault) (first past input input2 : Option (List ℕ)) {a : Answering} (h new : Option History)
    → IsNew a → Runs first past a input input2 h new r → OnErr r ((kept old : List ℕ) → Opens kept old first past (kept_in h) a.before (out_in h)
    → Ended (keyed_account a.place a.state 1) kept old input input2 (kept_in new) (out_in new))
runs-ended (Ok u) first past input input2 h new fresh runs = tt
runs-ended (Err e) first past input input2 {a} h new fresh (inl (g, is, edited)) = λ kept old o.
    let still = still-none h new g in
    rw (is, same-known (kept_in h) (kept_in new) o.log_is still.0, same-known (out_in h) (out_in new) o.out_is still.1)
    (ended-unread (keyed_account a.place a.state 1) kept old input)
runs-ended (Err e) first past input input2 {a} h new fresh (inr (mid, s, rest)) = λ kept old o.
    run-ended input input2 new e (starting-rests a past mid fresh.idle) (fresh-start h mid fresh o s) (log-start h mid o s) rest

pub runs-true : {T : Type 0} (r : Result T KeepFault) {kept old : List ℕ} (first past input input2 : Option (List ℕ)) {a : Answering} (h new : Option History)
    → IsNew a → Runs first past a input input2 h new r → Opens kept old first past (kept_in h) a.before (out_in h)
    → EndsTruly a.limit (keyed_account a.place a.state 1) kept old input input2 r
runs-true (Ok u) first past input input2 h new fresh (mid, y, s, r, goes) o = run-within input2 new (again-start h mid fresh o s r) goes
runs-true (Err e) {kept} {old} first past input input2 {a} h new fresh (inl (g, is, edited)) o =
    ([], rw is (consumes-none input), edited-true a.limit (keyed_account a.place a.state 1) old first e o.first_is edited)
runs-true (Err e) first past input input2 {a} h new fresh (inr (mid, s, rest)) o =
    run-true input input2 new e (starting-rests a past mid fresh.idle) (fresh-start h mid fresh o s) (log-start h mid o s) rest

pub runs-reply : {T : Type 0} (r : Result T KeepFault) {kept old : List ℕ} (first past input input2 : Option (List ℕ)) {a : Answering} (h new : Option History)
    → IsNew a → Runs first past a input input2 h new r → Opens kept old first past (kept_in h) a.before (out_in h)
    → RepliesTo a.place a.state kept input input2 h new r
runs-reply {T} (Ok u) {kept} first past input input2 {a} h new fresh (mid, y, s, r, goes) o =
    let again = again-start h mid fresh o s r in
    after-silent {T = T} {E = KeepFault} a.place a.state kept input input2 h y.history new (Ok u)
    (silent-start h mid y.history a.is_live s.flushed again.told) (asked-live input2 new again goes)
runs-reply {T} (Err e) {kept} first past input input2 {a} h new fresh (inl (g, is, edited)) o =
    rw is (replies-none {T = T} {E = KeepFault} a.place a.state kept input h new (Err e) e refl ([], g, refl))
runs-reply {T} (Err e) {kept} first past input input2 {a} h new fresh (inr (mid, s, inl (is, u))) o =
    let f = (unreplayed-fell new e (starting-rests a past mid fresh.idle) u).2 in
    rw is (replies-none {T = T} {E = KeepFault} a.place a.state kept input h new (Err e) e refl (silent-start h mid new a.is_live s.flushed (f.told refl).1))
runs-reply {T} (Err e) {kept} first past input input2 {a} h new fresh (inr (mid, s, inr (y, r, fails))) o =
    let again = again-start h mid fresh o s r in
    after-silent {T = T} {E = KeepFault} a.place a.state kept input input2 h y.history new (Err e)
    (silent-start h mid y.history a.is_live s.flushed again.told) (first-live input2 new e again fails)

-- the same site, where its files are as a start finds them
pub opened-at : {p p2 : Place} {s s2 : KeyedSite} {f : FileState} → p2 ≡ p → s2 ≡ s → IsAtStart ((keyed_account p s 1).text AtEnd) f
    → IsAtStart ((keyed_account p2 s2 1).text AtEnd) f
opened-at {p} {p2} {s} {s2} {f} place state o = subst (λ q. IsAtStart ((keyed_account q s2 1).text AtEnd) f) (sym place)
    (subst (λ t. IsAtStart ((keyed_account p t 1).text AtEnd) f) (sym state) o)

-- what was kept was read through and flushed: the files are found so then, and are safe as long as they are safe from there on
record Started (a : Answering) (h : History) (kept old : List ℕ) (mid : Option History) : Type 0 where
  m : History
  is : mid ≡ Some m
  found : Found kept (now m)
  front : IsFrontOf old ((keyed_account a.place a.state 1).text AtEnd (records_in kept))
  later : (new : Option History) → StaysSafe (says_of a.place a.state) (Some m) new → StaysSafe (says_of a.place a.state) (Some h) new

started : {kept old : List ℕ} {first past : Option (List ℕ)} {a : Answering} (h : History) (mid : Option History)
    → Opens kept old first past (kept_in (Some h)) a.before (out_in (Some h)) → IsAtStart ((keyed_account a.place a.state 1).text AtEnd) (now h)
    → Starts first (Some h) mid → Started a h kept old mid
started {kept} {old} {a = a} h mid o opened s =
    let text = (keyed_account a.place a.state 1).text AtEnd in
    let g = grown h mid (Flushed ∷ []) s.flushed in
    let kept_now : (now h).kept ≡ kept = some-is o.log_is in
    record {
      m = g.0;
      is = g.1;
      found = subst (Found kept) (sym g.2) (flushed-found opened kept_now);
      front = subst (λ t. IsFrontOf t (text (records_in kept))) (some-is o.out_is)
          (subst (λ k. IsFrontOf (now h).out (text (records_in k))) kept_now (opened.left.rest, opened.left.begins));
      later = λ new safe. stays-more (says_of a.place a.state) (Some h) (Some g.0) new
          (Flushed ∷ [], subst (λ m. Grows (Some h) m (Flushed ∷ [])) g.1 s.flushed, flushed-safe (says_of a.place a.state) opened) safe;
    }

-- its files stay safe, and where it came to its end all that `out` has is shown
pub runs-safe : {T : Type 0} (r : Result T KeepFault) {kept old : List ℕ} (first past input input2 : Option (List ℕ)) {a : Answering} (h : History)
    (new : Option History) → IsNew a → a.is_live ≡ false → Runs first past a input input2 (Some h) new r
    → Opens kept old first past (kept_in (Some h)) a.before (out_in (Some h)) → IsAtStart ((keyed_account a.place a.state 1).text AtEnd) (now h)
    → StaysSafe (says_of a.place a.state) (Some h) new × OnOk r (IfSome new (λ h2. IsShown (now h2)))
runs-safe (Ok u) first past input input2 {a} h new fresh off (mid, y, s, r, goes) o opened =
    let t = started {a = a} h mid o opened s in
    let again = again-start (Some h) mid fresh o s r in
    let g = again-safe a.place a.state t.m t.is off (fresh-start (Some h) mid fresh o s) t.found again in
    let on = goes-safe input2 g.0 new g.1.is g.1.found again goes in
    (t.later new (stays-more (says_of a.place a.state) (Some t.m) (Some g.0) new g.1.safe on.0), on.1)
runs-safe (Err e) first past input input2 h new fresh off (inl (g, is, edited)) o opened = (([], g, opened.safe), tt)
runs-safe (Err e) first past input input2 {a} h new fresh off (inr (mid, s, inl (is, u))) o opened =
    let t = started {a = a} h mid o opened s in (
      t.later new (unreplayed-safe a.place a.state t.m new e t.is off (starting-rests a past mid fresh.idle) (fresh-start (Some h) mid fresh o s) t.found t.front u),
      tt,
    )
runs-safe (Err e) first past input input2 {a} h new fresh off (inr (mid, s, inr (y, r, fails))) o opened =
    let t = started {a = a} h mid o opened s in
    let again = again-start (Some h) mid fresh o s r in
    let g = again-safe a.place a.state t.m t.is off (fresh-start (Some h) mid fresh o s) t.found again in (
      t.later new (stays-more (says_of a.place a.state) (Some t.m) (Some g.0) new g.1.safe (fails-safe input2 g.0 new e g.1.is g.1.found again fails)),
      tt,
    )
