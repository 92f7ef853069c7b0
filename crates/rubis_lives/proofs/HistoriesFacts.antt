-- Shops whose sites' histories are interleaved in any way.
use Rattle.rubis_lives.proofs.Common.{◌≡◌, ◌∙◌, ◌≤◌, ◌+◌, ◌++◌, ◌∷◌, [], ℕ, zero, suc, Bool, true, false, List, cond, eqb, length, take, refl, sym}
use Rattle.rubis_lives.proofs.Common.{ap, subst, arith, append_assoc, append-nil, length-append, ◌⊎◌, inl, inr, ⊎_elim, MatchBool, ⊤, KEEP_MAX}
use Rattle.rubis_lives.proofs.Common.{process, read_by, IsShortened, Moment, has_read, recorded, Reads, Replays, Restarts, Place, opening_at}
use Rattle.rubis_lives.proofs.Common.{processes_run, restarts_change_nothing, FolderEvent, FileState, MayFollow, IsSafe, Says, after_file_event}
use Rattle.rubis_lives.proofs.Common.{records_in, IsFrontOf, Began, CutTo, Flushed, Kept, Replied, Settled, Shown, Told, HasSoundLines, whole_lines}
use Rattle.rubis_lives.proofs.Common.{sound-front}
use Rattle.std.proofs.lemmas.Bool.{cases_eq, eqb-true}
use Rattle.std.proofs.lemmas.List.{length-take}
use Rattle.rubis_model.specs.Processes.{AreReplayed, Replayed}
use Rattle.rubis_laws.proofs.Processes.AreARun.{read_more}
use Rattle.rubis_laws.proofs.Processes.Restarts.{read_on_more, recorded_more, restarted_agree}
use Rattle.rubis_lives.specs.Histories.{AreHistories, HistoriesAreRuns, IsHistory, MayHappen, RaisesKeep, ShortensKept, FolderStep, answered_by, answered_on}
use Rattle.rubis_lives.specs.Histories.{keep_after, keeps, moments_in, most_kept, shortened_to, site_keeping, stand_after, is_placed_at, kept_takes, SurvivesIn, from_disk}
use Rattle.rubis_lives.specs.Histories.{opened_again, taken_in}
use Rattle.rubis_lives.specs.Histories.FolderStep.{Does, Fails, Happens, Raises, Shortens}
use Rattle.rubis_lives.specs.Shops.{IsPrefix, bare_in, process_text, process_words}
use Rattle.rubis_keys.specs.Keys.{keyed_opening}
use Rattle.rubis_lives.proofs.RoomFacts.{front-more, records-grow, whole-front, whole-grow, raised-take-the-same, taken-more, taken-short}
use Rattle.rubis_lives.proofs.KeyFacts.{Records, bare-prefix, bare-short}
use Rattle.rubis_lives.proofs.RewritingFacts.{prefix-more, prefix-same, prefix-within, shortened-again, shortened-first, shortened-more}

-- ---- what was flushed stays

flushed-sound : {text : List (List (List ℕ)) → List ℕ} {s : FileState} → IsSafe text s → HasSoundLines [] s.flushed
flushed-sound {s} h = sound-front [] s.flushed h.flushed.0 (subst (HasSoundLines []) (sym h.flushed.1) (sound-front [] s.kept s.cut h.sound))

take-front : (n : ℕ) (a b : List ℕ) → length a ≤ n → IsFrontOf a b → IsFrontOf a (take n b)
take-front n [] b l f = (take n b, refl)
take-front zero (x ∷ a) b l f = absurd (omega (arith, l))
take-front (suc n) (x ∷ a) [] l f = absurd (cc f.1)
take-front (suc n) (x ∷ a) (y ∷ b) l f =
    let inner = take-front n a b (omega (arith, l)) (f.0, cc f.1) in
    let same : x ≡ y = cc f.1 in
    (inner.0, ap (λ t. x ∷ t) inner.1 ∙ ap (λ c. c ∷ take n b) same)

front-length : (a b : List ℕ) → IsFrontOf a b → length a ≤ length b
front-length a b f = omega (arith, ap length f.1, length-append a f.0)

cut-flushed-front : {text : List (List (List ℕ)) → List ℕ} {s : FileState} (n : ℕ) → IsSafe text s → IsFrontOf (whole_lines s.kept) (take n s.kept)
    → IsFrontOf (whole_lines s.flushed) (take n s.flushed)
cut-flushed-front {s} n h f =
    let short = flushed-sound h in
    let within : IsFrontOf (whole_lines s.flushed) (whole_lines s.kept) =
    let front = front-more (whole_lines s.flushed) s.flushed s.kept (whole-front s.flushed) h.flushed in
    (whole_lines front.0, sym (whole-grow s.flushed s.kept short front)) in
    let a = front-length (whole_lines s.flushed) (whole_lines s.kept) within in
    let b = front-length (whole_lines s.kept) (take n s.kept) f in
    let c = length-take n s.kept in
    take-front n (whole_lines s.flushed) s.flushed (omega (arith, a, b, c)) (whole-front s.flushed)

event-flushed : (says : Says) {s : FileState} (e : FolderEvent) → IsSafe says.text s → MayFollow says s e → IsFrontOf (whole_lines s.flushed) (after_file_event s e).flushed
event-flushed says {s} (Kept b) h f = whole-front s.flushed
event-flushed says {s} Flushed h f = front-more (whole_lines s.flushed) s.flushed s.kept (whole-front s.flushed) h.flushed
event-flushed says (CutTo n) h f = cut-flushed-front n h f
event-flushed says {s} (Told b) h f = whole-front s.flushed
event-flushed says {s} Settled h f = whole-front s.flushed
event-flushed says {s} (Began n counts) h f = whole-front s.flushed
event-flushed says {s} (Replied question reply) h f = whole-front s.flushed
event-flushed says {s} (Shown b) h f = whole-front s.flushed

-- what survives a power failure grows record by record, but where it is shortened
step-flushed : (p : Place) {s : FileState} (e : FolderStep) → IsSafe (process_text p) s → MayHappen p s e
    → IsFrontOf (whole_lines s.flushed) (stand_after p.site s e).flushed ⊎ ((short : List ℕ) × (e ≡ Shortens p.site short))
step-flushed p {s} (Happens j e) h m =
    elim (eqb j p.site) as (λ b. MatchBool b (MayFollow (process_words p) s e) ⊤
    → IsFrontOf (whole_lines s.flushed) (cond b (after_file_event s e) s).flushed ⊎ ((short : List ℕ) × (Happens j e ≡ Shortens p.site short))) [
      | true ↦ λ f. inl (event-flushed (process_words p) e h f)
      | false ↦ λ f. inl (whole-front s.flushed)
    ] m
step-flushed p {s} (Fails j files) h m =
    elim (eqb j p.site) as (λ b. MatchBool b (SurvivesIn s files) ⊤
    → IsFrontOf (whole_lines s.flushed) (cond b (from_disk files) s).flushed ⊎ ((short : List ℕ) × (Fails j files ≡ Shortens p.site short))) [
      | true ↦ λ f. inl (front-more (whole_lines s.flushed) s.flushed files.log (whole-front s.flushed) f.0)
      | false ↦ λ f. inl (whole-front s.flushed)
    ] m
step-flushed p {s} (Shortens j short) h m =
    elim (eqb j p.site) as (λ b. eqb j p.site ≡ b
    → IsFrontOf (whole_lines s.flushed) (cond b (shortened_to short) s).flushed ⊎ ((lines : List ℕ) × (Shortens j short ≡ Shortens p.site lines))) [
      | true ↦ λ is. inr (short, ap (λ n. Shortens n short) (eqb-true j p.site is))
      | false ↦ λ is. inl (whole-front s.flushed)
    ] refl
step-flushed p {s} (Raises j keep) h m = inl (whole-front s.flushed)
step-flushed p {s} (Does (Reads j fields)) h m = inl (whole-front s.flushed)
step-flushed p {s} (Does (Restarts j)) h m =
    elim (eqb j p.site) as (λ b. IsFrontOf (whole_lines s.flushed) (cond b (opened_again s) s).flushed
    ⊎ ((short : List ℕ) × (Does (Restarts j) ≡ Shortens p.site short))) [
      | true ↦ inl (whole-front s.flushed)
      | false ↦ inl (whole-front s.flushed)
    ]
step-flushed p {s} (Does (Replays j fields)) h m = inl (whole-front s.flushed)

pub safe-here : (sites i keep : ℕ) {s : FileState} (steps : List FolderStep) → IsHistory sites i keep s steps → IsSafe (process_text (site_keeping sites i keep)) s
safe-here sites i keep [] h = h
safe-here sites i keep (e ∷ later) h = h.0

history-later : (sites i keep : ℕ) (s : FileState) (a b : List FolderStep) → IsHistory sites i keep s (a ++ b) → IsHistory sites i (keeps i keep a) (is_placed_at i s a) b
history-later sites i keep s [] b h = h
history-later sites i keep s (e ∷ a) b h = history-later sites i (keep_after i keep e) (stand_after i s e) a b h.2

-- ---- some steps, and then others

stands-append : (i : ℕ) (s : FileState) (a b : List FolderStep) → is_placed_at i s (a ++ b) ≡ is_placed_at i (is_placed_at i s a) b
stands-append i s [] b = refl
stands-append i s (e ∷ a) b = stands-append i (stand_after i s e) a b

moments-append : (a b : List FolderStep) → moments_in (a ++ b) ≡ moments_in a ++ moments_in b
moments-append [] b = refl
moments-append (Happens i e ∷ a) b = moments-append a b
moments-append (Fails i files ∷ a) b = moments-append a b
moments-append (Shortens i short ∷ a) b = moments-append a b
moments-append (Raises i keep ∷ a) b = moments-append a b
moments-append (Does m ∷ a) b = ap (λ t. m ∷ t) (moments-append a b)

keeps-append : (i keep : ℕ) (a b : List FolderStep) → keeps i keep (a ++ b) ≡ keeps i (keeps i keep a) b
keeps-append i keep [] b = refl
keeps-append i keep (e ∷ a) b = keeps-append i (keep_after i keep e) a b

answered-append : (sites i keep n : ℕ) (a b : List FolderStep) → answered_on sites i keep n (a ++ b) ≡ answered_on sites i (keeps i keep a)
    (answered_on sites i keep n a) b
answered-append sites i keep n [] b = refl
answered-append sites i keep n (Happens j e ∷ a) b = answered-append sites i keep n a b
answered-append sites i keep n (Fails j files ∷ a) b = answered-append sites i keep n a b
answered-append sites i keep n (Shortens j short ∷ a) b =
    answered-append sites i keep (cond (eqb j i) (length (taken_in (site_keeping sites i keep) short)) n) a b
answered-append sites i keep n (Raises j more ∷ a) b = answered-append sites i (cond (eqb j i) more keep) n a b
answered-append sites i keep n (Does (Reads j fields) ∷ a) b = answered-append sites i keep (cond (eqb j i) (n + 1) n) a b
answered-append sites i keep n (Does (Restarts j) ∷ a) b = answered-append sites i keep n a b
answered-append sites i keep n (Does (Replays j fields) ∷ a) b = answered-append sites i keep n a b

read-append : (i : ℕ) (a b : List Moment) → read_by i (recorded (a ++ b)) ≡ read_by i (recorded a) ++ read_by i (recorded b)
read-append i a b = ap (read_by i) (recorded_more a b) ∙ read_more i (recorded a) (recorded b)

-- a moment is the step after those before it
moment-at : (before : List Moment) (m : Moment) (later : List Moment) (steps : List FolderStep) → moments_in steps ≡ before ++ m ∷ later
    → (a : List FolderStep) × (b : List FolderStep) × (steps ≡ a ++ Does m ∷ b) × (moments_in a ≡ before)
moment-at before m later [] e = absurd (never before e)
  where
    never : (before : List Moment) → [] ≡ before ++ m ∷ later → ⊥
    never [] e = cc e
    never (x ∷ before) e = cc e
moment-at before m later (Happens i x ∷ steps) e =
    let r = moment-at before m later steps e in
    (Happens i x ∷ r.0, r.1, ap (λ t. Happens i x ∷ t) r.2, r.3)
moment-at before m later (Fails i files ∷ steps) e =
    let r = moment-at before m later steps e in
    (Fails i files ∷ r.0, r.1, ap (λ t. Fails i files ∷ t) r.2, r.3)
moment-at before m later (Shortens i short ∷ steps) e =
    let r = moment-at before m later steps e in
    (Shortens i short ∷ r.0, r.1, ap (λ t. Shortens i short ∷ t) r.2, r.3)
moment-at before m later (Raises i keep ∷ steps) e =
    let r = moment-at before m later steps e in
    (Raises i keep ∷ r.0, r.1, ap (λ t. Raises i keep ∷ t) r.2, r.3)
moment-at [] m later (Does x ∷ steps) e =
    let same : x ≡ m = cc e in
    ([], steps, ap (λ t. Does t ∷ steps) same, refl)
moment-at (y ∷ before) m later (Does x ∷ steps) e =
    let r = moment-at before m later steps (cc e) in
    let same : x ≡ y = cc e in
    (Does x ∷ r.0, r.1, ap (λ t. Does x ∷ t) r.2, ap (λ t. x ∷ t) r.3 ∙ ap (λ t. t ∷ before) same)

-- the steps up to any moments
steps-to : (before later : List Moment) (steps : List FolderStep) → moments_in steps ≡ before ++ later
    → (a : List FolderStep) × (b : List FolderStep) × (steps ≡ a ++ b) × (moments_in a ≡ before) ×
    ((m : Moment) (more : List Moment) → later ≡ m ∷ more → (c : List FolderStep) × (b ≡ Does m ∷ c))
steps-to before [] steps e = (steps, [], sym (append-nil steps), e ∙ append-nil before, λ m more f. absurd (cc f))
steps-to before (m ∷ later) steps e =
    let r = moment-at before m later steps e in
    (r.0, Does m ∷ r.1, r.2, r.3, λ n more f. (r.1, ap (λ t. Does t ∷ r.1) (let same : m ≡ n = cc f in same)))

-- ---- what was read of what was kept

-- of the records that a site has kept and takes, some first ones were answered: they are all that any process of its site has read, but for some
-- that changed nothing; and its process has read no more of them since its start
pub record Come (sites i keep : ℕ) (s : FileState) (answered : ℕ) (moments : List Moment) : Type 0 where
  pub small : keep ≤ KEEP_MAX
  pub recording : Records
  pub short : IsShortened (process sites most_kept i) (opening_at i) recording (read_by i (recorded moments))
  pub kept : IsPrefix recording (taken_in (site_keeping sites i keep) s.flushed)
  pub count : length recording ≡ answered
  pub read : length (has_read i moments) ≤ answered

module _ (sites : ℕ) (keep : ℕ → ℕ) (start : ℕ → FileState) (steps : List FolderStep) (k : AreHistories sites keep start steps) (i : ℕ)
    (few : keep i ≤ KEEP_MAX) where
  abbrev q : Place
  q = process sites most_kept i

  abbrev at : List FolderStep → FileState
  at done = is_placed_at i (start i) done

  -- how many messages the site keeps, and the place that this makes it
  abbrev room : List FolderStep → ℕ
  room done = keeps i (keep i) done

  abbrev p : List FolderStep → Place
  p done = site_keeping sites i (room done)

  abbrev taken : List FolderStep → Records
  taken done = kept_takes sites i (keep i) (start i) done

  abbrev answered : List FolderStep → ℕ
  answered done = answered_by sites i (keep i) done

  abbrev ComeTo : List FolderStep → Type 0
  ComeTo done = Come sites i (room done) (at done) (answered done) (moments_in done)

  rest-of : (done : List FolderStep) (x : FolderStep) (later : List FolderStep) → steps ≡ done ++ x ∷ later → steps ≡ (done ++ x ∷ []) ++ later
  rest-of done x later e = e ∙ sym (append_assoc done (x ∷ []) later)

  here : (done later : List FolderStep) → steps ≡ done ++ later → IsHistory sites i (room done) (at done) later
  here done later e = history-later sites i (keep i) (start i) done later (subst (IsHistory sites i (keep i) (start i)) e (k.safe i))

  room-now : (done : List FolderStep) (x : FolderStep) → room (done ++ x ∷ []) ≡ keep_after i (room done) x
  room-now done x = keeps-append i (keep i) done (x ∷ [])

  at-now : (done : List FolderStep) (x : FolderStep) → at (done ++ x ∷ []) ≡ stand_after i (at done) x
  at-now done x = stands-append i (start i) done (x ∷ [])

  -- what was kept and flushed stays, but where it is shortened
  grows : (done : List FolderStep) (x : FolderStep) (later : List FolderStep) → steps ≡ done ++ x ∷ later → ((short : List ℕ) → x ≡ Shortens i short → ⊥)
      → keep_after i (room done) x ≡ room done → IsPrefix (taken done) (taken (done ++ x ∷ []))
  grows done x later e none same =
      let h = here done (x ∷ later) e in
      let s2 = stand_after i (at done) x in
      let more : IsPrefix (records_in (at done).flushed) (records_in s2.flushed) =
      ⊎_elim
      (λ f. records-grow (at done).flushed (flushed-sound h.0)
      (flushed-sound (safe-here sites i (keep_after i (room done) x) later h.2)) f)
      (λ w. absurd (none w.0 w.1)) (step-flushed (p done) x h.0 h.1) in
      subst (λ n. IsPrefix (taken done) (taken_in (site_keeping sites i n) (at (done ++ x ∷ [])).flushed)) (sym (room-now done x ∙ same))
      (subst (λ (t : FileState). IsPrefix (taken done) (taken_in (p done) t.flushed)) (sym (at-now done x))
      (taken-more (p done) (opening_at i) (bare_in (p done) (at done).flushed) (bare_in (p done) s2.flushed)
      (bare-prefix (p done) (keyed_opening i) (records_in (at done).flushed) (records_in s2.flushed) more)))

  -- a step of which nothing is read
  still : (done : List FolderStep) (x : FolderStep) (later : List FolderStep) → steps ≡ done ++ x ∷ later → ((short : List ℕ) → x ≡ Shortens i short → ⊥)
      → keep_after i (room done) x ≡ room done → ComeTo done
      → read_by i (recorded (moments_in (x ∷ []))) ≡ [] → answered_on sites i (room done) (answered done) (x ∷ []) ≡ answered done
      → length (has_read i (moments_in (done ++ x ∷ []))) ≤ answered done → ComeTo (done ++ x ∷ [])
  still done x later e none stays c unread same l =
      let now : answered (done ++ x ∷ []) ≡ answered done = answered-append sites i (keep i) 0 done (x ∷ []) ∙ same in
      let all : read_by i (recorded (moments_in (done ++ x ∷ []))) ≡ read_by i (recorded (moments_in done)) =
      ap (λ t. read_by i (recorded t)) (moments-append done (x ∷ [])) ∙ read-append i (moments_in done) (moments_in (x ∷ []))
      ∙ ap (λ t. read_by i (recorded (moments_in done)) ++ t) unread ∙ append-nil (read_by i (recorded (moments_in done))) in
      record {
        small = subst (λ n. n ≤ KEEP_MAX) (sym (room-now done x ∙ stays)) c.small;
        recording = c.recording;
        short = subst (IsShortened q (opening_at i) c.recording) (sym all) c.short;
        kept = prefix-more c.recording (taken done) (taken (done ++ x ∷ [])) c.kept (grows done x later e none stays);
        count = c.count ∙ sym now;
        read = subst (λ n. length (has_read i (moments_in (done ++ x ∷ []))) ≤ n) (sym now) l;
      }

  read-now : (done : List FolderStep) (x : FolderStep) → has_read i (moments_in (done ++ x ∷ [])) ≡ has_read i (moments_in done ++ moments_in (x ∷ []))
  read-now done x = ap (has_read i) (moments-append done (x ∷ []))

  -- a step that is no moment
  no-moment : (done : List FolderStep) (x : FolderStep) → moments_in (x ∷ []) ≡ [] → ComeTo done → length (has_read i (moments_in (done ++ x ∷ []))) ≤ answered done
  no-moment done x none c =
      subst (λ t. length t ≤ answered done)
      (sym (read-now done x ∙ ap (λ t. has_read i (moments_in done ++ t)) none ∙ ap (has_read i) (append-nil (moments_in done)))) c.read

  -- a record is read anew
  anew : (done : List FolderStep) (fields : List (List ℕ)) (later : List FolderStep) → steps ≡ done ++ Does (Reads i fields) ∷ later → ComeTo done
      → eqb i i ≡ true → ComeTo (done ++ Does (Reads i fields) ∷ [])
  anew done fields later e c is =
      let x = Does (Reads i fields) in
      let had = has_read i (moments_in done) in
      let all = read_by i (recorded (moments_in done)) in
      let same : had ≡ c.recording = prefix-same had c.recording (taken done) (k.ahead i done (x ∷ later) e) c.kept
      (k.anew i fields done later e ∙ sym c.count) in
      let now : has_read i (moments_in (done ++ x ∷ [])) ≡ c.recording ++ fields ∷ [] =
      read-now done x ∙ read_on_more i [] (moments_in done) (Reads i fields ∷ [])
      ∙ ap (λ b. cond b (had ++ fields ∷ []) had) is ∙ ap (λ t. t ++ fields ∷ []) same in
      let more : read_by i (recorded (moments_in (done ++ x ∷ []))) ≡ all ++ fields ∷ [] =
      ap (λ t. read_by i (recorded t)) (moments-append done (x ∷ [])) ∙ read-append i (moments_in done) (Reads i fields ∷ [])
      ∙ ap (λ b. all ++ cond b (fields ∷ []) []) is in
      let one : answered (done ++ x ∷ []) ≡ answered done + 1 =
      answered-append sites i (keep i) 0 done (x ∷ []) ∙ ap (λ b. cond b (answered done + 1) (answered done)) is in
      let size : length (c.recording ++ fields ∷ []) ≡ length c.recording + 1 = length-append c.recording (fields ∷ []) in
      record {
        small = subst (λ n. n ≤ KEEP_MAX) (sym (room-now done x)) c.small;
        recording = c.recording ++ fields ∷ [];
        short = subst (IsShortened q (opening_at i) (c.recording ++ fields ∷ [])) (sym more)
            (shortened-more q (opening_at i) c.recording all fields c.short);
        kept = subst (λ t. IsPrefix t (taken (done ++ x ∷ []))) now (k.ahead i (done ++ x ∷ []) later (rest-of done x later e));
        count = size ∙ ap (λ n. n + 1) c.count ∙ sym one;
        read = omega (arith, ap length now, size, c.count, one);
      }

  -- what was kept is shortened
  shortens : (done : List FolderStep) (lines : List ℕ) (later : List FolderStep) → steps ≡ done ++ Shortens i lines ∷ later → ComeTo done
      → eqb i i ≡ true → ComeTo (done ++ Shortens i lines ∷ [])
  shortens done lines later e c is =
      let x = Shortens i lines in
      let h = here done (x ∷ later) e in
      let short : ShortensKept (p done) (at done).kept lines = subst (λ b. MatchBool b (ShortensKept (p done) (at done).kept lines) ⊤) is h.1 in
      let flushed = flushed-sound h.0 in
      let sound : HasSoundLines [] (at done).kept = sound-front [] (at done).kept (at done).cut h.0.sound in
      let front = front-more (whole_lines (at done).flushed) (at done).flushed (at done).kept (whole-front (at done).flushed) h.0.flushed in
      let whole = taken_in (p done) (at done).kept in
      let within = taken-more (p done) (opening_at i) (bare_in (p done) (at done).flushed) (bare_in (p done) (at done).kept)
      (bare-prefix (p done) (keyed_opening i) (records_in (at done).flushed) (records_in (at done).kept) (records-grow (at done).flushed flushed sound front)) in
      let all : c.recording ≡ whole =
      prefix-same c.recording whole whole (prefix-more c.recording (taken done) whole c.kept within) ([], append-nil whole)
      (c.count ∙ k.answered i lines done later e) in
      let fresh = taken_in (p done) lines in
      let stood : at (done ++ x ∷ []) ≡ shortened_to lines = at-now done x ∙ ap (λ b. cond b (shortened_to lines) (at done)) is in
      let kept_takes : taken (done ++ x ∷ []) ≡ fresh =
      ap (λ n. taken_in (site_keeping sites i n) (at (done ++ x ∷ [])).flushed) (room-now done x) ∙ ap (λ (t : FileState). taken_in (p done) t.flushed) stood in
      let now : answered (done ++ x ∷ []) ≡ length fresh =
      answered-append sites i (keep i) 0 done (x ∷ []) ∙ ap (λ b. cond b (length fresh) (answered done)) is in
      let same : moments_in (done ++ x ∷ []) ≡ moments_in done = moments-append done (x ∷ []) ∙ append-nil (moments_in done) in
      let ahead : IsPrefix (has_read i (moments_in (done ++ x ∷ []))) fresh =
      subst (IsPrefix (has_read i (moments_in (done ++ x ∷ [])))) kept_takes (k.ahead i (done ++ x ∷ []) later (rest-of done x later e)) in
      let size = length-append (has_read i (moments_in (done ++ x ∷ []))) ahead.0 in
      record {
        small = subst (λ n. n ≤ KEEP_MAX) (sym (room-now done x)) c.small;
        recording = fresh;
        short = subst (λ t. IsShortened q (opening_at i) fresh (read_by i (recorded t))) (sym same)
            (shortened-again q (opening_at i) fresh c.recording (read_by i (recorded (moments_in done)))
            (subst (IsShortened q (opening_at i) fresh) (sym all)
            (taken-short (p done) KEEP_MAX c.small (opening_at i) (bare_in (p done) lines) (bare_in (p done) (at done).kept)
            (bare-short (p done) (keyed_opening i) (records_in lines) (records_in (at done).kept) short.without))) c.short);
        kept = subst (IsPrefix fresh) (sym kept_takes) ([], append-nil fresh);
        count = sym now;
        read = omega (arith, size, ap length ahead.1, now);
      }

  -- the site keeps more messages from now on
  raises : (done : List FolderStep) (more : ℕ) (later : List FolderStep) → steps ≡ done ++ Raises i more ∷ later → ComeTo done
      → eqb i i ≡ true → ComeTo (done ++ Raises i more ∷ [])
  raises done more later e c is =
      let x = Raises i more in
      let h = here done (x ∷ later) e in
      let r : RaisesKeep (p done) (at done) more = subst (λ b. MatchBool b (RaisesKeep (p done) (at done) more) ⊤) is h.1 in
      let grown : room (done ++ x ∷ []) ≡ more = room-now done x ∙ ap (λ b. cond b more (room done)) is in
      let all : taken_in (p done) (at done).kept ≡ taken_in (site_keeping sites i more) (at done).kept =
      raised-take-the-same (p done) more (at done).kept r.more
      (subst (λ t. IsFrontOf t (process_text (site_keeping sites i more) (records_in (at done).kept))) r.answered r.told) in
      let kept_takes : taken (done ++ x ∷ []) ≡ taken done =
      ap (λ n. taken_in (site_keeping sites i n) (at (done ++ x ∷ [])).flushed) grown
      ∙ ap (λ (t : FileState). taken_in (site_keeping sites i more) t.flushed) (at-now done x)
      ∙ ap (taken_in (site_keeping sites i more)) r.flushed ∙ sym all ∙ ap (taken_in (p done)) (sym r.flushed) in
      let now : answered (done ++ x ∷ []) ≡ answered done = answered-append sites i (keep i) 0 done (x ∷ []) in
      let same : moments_in (done ++ x ∷ []) ≡ moments_in done = moments-append done (x ∷ []) ∙ append-nil (moments_in done) in
      record {
        small = subst (λ n. n ≤ KEEP_MAX) (sym grown) r.most;
        recording = c.recording;
        short = subst (λ t. IsShortened q (opening_at i) c.recording (read_by i (recorded t))) (sym same) c.short;
        kept = subst (IsPrefix c.recording) (sym kept_takes) c.kept;
        count = c.count ∙ sym now;
        read = subst (λ n. length (has_read i (moments_in (done ++ x ∷ []))) ≤ n) (sym now) (no-moment done x refl c);
      }

  other-site : (j : ℕ) → eqb j i ≡ false → j ≡ i → ⊥
  other-site j other same = let itself : eqb i i ≡ false = ap (λ n. eqb n i) (sym same) ∙ other in absurd (grind (arith, itself))

  come-on : (done : List FolderStep) (x : FolderStep) (later : List FolderStep) → steps ≡ done ++ x ∷ later → ComeTo done → ComeTo (done ++ x ∷ [])
  come-on done (Happens j event) later e c =
      still done (Happens j event) later e (λ short w. cc w) refl c refl refl (no-moment done (Happens j event) refl c)
  come-on done (Fails j files) later e c = still done (Fails j files) later e (λ short w. cc w) refl c refl refl (no-moment done (Fails j files) refl c)
  come-on done (Shortens j lines) later e c =
      elim (eqb j i) as (λ b. eqb j i ≡ b → ComeTo (done ++ Shortens j lines ∷ [])) [
        | true ↦ λ own.
            let is : j ≡ i = eqb-true j i own in
            subst (λ n. ComeTo (done ++ Shortens n lines ∷ [])) (sym is)
            (shortens done lines later (e ∙ ap (λ n. done ++ Shortens n lines ∷ later) is) c (ap (λ n. eqb n i) (sym is) ∙ own))
        | false ↦ λ other.
            still done (Shortens j lines) later e (λ short w. other-site j other (let same : j ≡ i = cc w in same)) refl c refl
            (ap (λ b. cond b (length (taken_in (p done) lines)) (answered done)) other) (no-moment done (Shortens j lines) refl c)
      ] refl
  come-on done (Raises j more) later e c =
      elim (eqb j i) as (λ b. eqb j i ≡ b → ComeTo (done ++ Raises j more ∷ [])) [
        | true ↦ λ own.
            let is : j ≡ i = eqb-true j i own in
            subst (λ n. ComeTo (done ++ Raises n more ∷ [])) (sym is)
            (raises done more later (e ∙ ap (λ n. done ++ Raises n more ∷ later) is) c (ap (λ n. eqb n i) (sym is) ∙ own))
        | false ↦ λ other.
            still done (Raises j more) later e (λ short w. cc w) (ap (λ b. cond b more (room done)) other) c refl refl
            (no-moment done (Raises j more) refl c)
      ] refl
  come-on done (Does (Reads j fields)) later e c =
      elim (eqb j i) as (λ b. eqb j i ≡ b → ComeTo (done ++ Does (Reads j fields) ∷ [])) [
        | true ↦ λ own.
            let is : j ≡ i = eqb-true j i own in
            subst (λ n. ComeTo (done ++ Does (Reads n fields) ∷ [])) (sym is)
            (anew done fields later (e ∙ ap (λ n. done ++ Does (Reads n fields) ∷ later) is) c (ap (λ n. eqb n i) (sym is) ∙ own))
        | false ↦ λ other.
            still done (Does (Reads j fields)) later e (λ short w. cc w) refl c (ap (λ b. cond b (fields ∷ []) []) other)
            (ap (λ b. cond b (answered done + 1) (answered done)) other)
            (subst (λ t. length t ≤ answered done)
            (sym (read-now done (Does (Reads j fields)) ∙ read_on_more i [] (moments_in done) (Reads j fields ∷ [])
            ∙ ap (λ b. cond b (has_read i (moments_in done) ++ fields ∷ []) (has_read i (moments_in done))) other)) c.read)
      ] refl
  come-on done (Does (Restarts j)) later e c =
      still done (Does (Restarts j)) later e (λ short w. cc w) refl c refl refl
      (subst (λ t. length t ≤ answered done) (sym (read-now done (Does (Restarts j)) ∙ read_on_more i [] (moments_in done) (Restarts j ∷ [])))
      (no-more (eqb j i)))
    where
      no-more : (b : Bool) → length (cond b [] (has_read i (moments_in done))) ≤ answered done
      no-more true = omega arith
      no-more false = c.read
  come-on done (Does (Replays j fields)) later e c =
      elim (eqb j i) as (λ b. eqb j i ≡ b → ComeTo (done ++ Does (Replays j fields) ∷ [])) [
        | true ↦ λ own.
            let is : j ≡ i = eqb-true j i own in
            let less = k.again i fields done later (e ∙ ap (λ n. done ++ Does (Replays n fields) ∷ later) is) in
            let size = length-append (has_read i (moments_in done)) (fields ∷ []) in
            still done (Does (Replays j fields)) later e (λ short w. cc w) refl c refl refl
            (subst (λ t. length t ≤ answered done)
            (sym (read-now done (Does (Replays j fields)) ∙ read_on_more i [] (moments_in done) (Replays j fields ∷ [])
            ∙ ap (λ b. cond b (has_read i (moments_in done) ++ fields ∷ []) (has_read i (moments_in done))) own))
            (omega (arith, less, size)))
        | false ↦ λ other.
            still done (Does (Replays j fields)) later e (λ short w. cc w) refl c refl refl
            (subst (λ t. length t ≤ answered done)
            (sym (read-now done (Does (Replays j fields)) ∙ read_on_more i [] (moments_in done) (Replays j fields ∷ [])
            ∙ ap (λ b. cond b (has_read i (moments_in done) ++ fields ∷ []) (has_read i (moments_in done))) other)) c.read)
      ] refl

  pub history-at : IsSafe (process_text (p steps)) (at steps)
  history-at = safe-here sites i (room steps) [] (here steps [] (sym (append-nil steps)))

  walk : (a done b : List FolderStep) → steps ≡ done ++ (a ++ b) → ComeTo done → ComeTo (done ++ a)
  walk [] done b e c = subst ComeTo (sym (append-nil done)) c
  walk (x ∷ a) done b e c =
      subst ComeTo (append_assoc done (x ∷ []) a) (walk a (done ++ x ∷ []) b (rest-of done x (a ++ b) e) (come-on done x (a ++ b) e c))

  pub come : (a b : List FolderStep) → steps ≡ a ++ b → ComeTo a
  come a b e = walk a [] b e (record {
    small = few;
    recording = [];
    short = refl;
    kept = (taken [], refl);
    count = refl;
    read = omega arith;
  })

  replayed : (before later : List Moment) → moments_in steps ≡ before ++ later → Replayed sites most_kept i before later
  replayed before later e =
      let to = steps-to before later steps e in
      let c = come to.0 to.1 to.2 in
      let all = read_by i (recorded before) in
      let short : IsShortened q (opening_at i) c.recording all = subst (λ t. IsShortened q (opening_at i) c.recording (read_by i (recorded t))) to.3 c.short in
      let ahead : IsPrefix (has_read i before) (taken to.0) = subst (λ t. IsPrefix (has_read i t) (taken to.0)) to.3 (k.ahead i to.0 to.1 to.2) in
      let read : length (has_read i before) ≤ length c.recording =
      subst (λ n. length (has_read i before) ≤ n) (sym c.count) (subst (λ t. length (has_read i t) ≤ answered to.0) to.3 c.read) in
      let within = prefix-within (has_read i before) c.recording (taken to.0) ahead c.kept read in
      ⊎_elim
      (λ (same : length (has_read i before) ≡ length c.recording).
      let is = prefix-same (has_read i before) c.recording (taken to.0) ahead c.kept same in
      record {
        first = all;
        rest = [];
        parts = sym (append-nil all);
        again = subst (λ t. IsShortened q (opening_at i) t all) (sym is) short;
        whole = λ fields more f. refl;
      })
      (λ (fewer : length (has_read i before) ≡ length c.recording → ⊥).
      let w = shortened-first q (opening_at i) all c.recording (has_read i before) short within in
      record {
        first = w.0;
        rest = w.1;
        parts = sym w.2;
        again = w.3;
        whole = λ fields more f.
            let next = to.4 (Reads i fields) more f in
            absurd (fewer (subst (λ t. length (has_read i t) ≡ answered to.0) to.3
            (k.anew i fields to.0 next.0 (to.2 ∙ ap (λ t. to.0 ++ t) next.1)) ∙ sym c.count));
      })
      (cases_eq (length (has_read i before)) (length c.recording))

pub histories-are-replayed : {sites : ℕ} {keep : ℕ → ℕ} (start : ℕ → FileState) {steps : List FolderStep} → ((i : ℕ) → keep i ≤ KEEP_MAX)
    → AreHistories sites keep start steps → AreReplayed sites most_kept (moments_in steps)
histories-are-replayed {sites} {keep} start {steps} small k i before later e = replayed sites keep start steps k i (small i) before later e

pub histories-are-runs : HistoriesAreRuns
histories-are-runs sites keep start steps some top small k carried =
    let again = histories-are-replayed start small k in
    let never = restarts_change_nothing sites most_kept (moments_in steps) again carried in (
      never,
      processes_run sites most_kept (recorded (moments_in steps)) some top (λ i. omega arith) never.carried,
      restarted_agree sites most_kept (moments_in steps) some top (λ i. omega arith) again carried,
    )
