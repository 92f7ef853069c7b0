-- A site that is killed at any moment, or loses its power, and starts again.
use Rattle.rubis_lives.proofs.Common.{◌≡◌, ◌∙◌, ◌⊎◌, inl, inr, ◌++◌, ◌∷◌, [], ℕ, List, Some, drop, take, refl, sym, ap, subst, Option, None}
use Rattle.rubis_lives.proofs.Common.{append_assoc, Bool, true, false, length, arith, length-append, AtEnd, input_records, Files, IsFrontOf, AreSafe}
use Rattle.rubis_lives.proofs.Common.{FolderEvent, FileState, MayFollow, IsSafe, Says, after_file_event, after_file_events, records_in, Lived, HasSoundLines, begun_after, kept_of_input}
use Rattle.rubis_lives.proofs.Common.{whole_lines, sound-front, whole-ends, whole-rest, Consumes, Began, CutTo, Flushed, Kept, Replied, Settled}
use Rattle.rubis_lives.proofs.Common.{Shown, Told, IsAtStart, safe-first, MatchBool}
use Rattle.std.proofs.lemmas.List.{append-nil, take-append-drop}
use Rattle.rubis_engine.specs.Accounts.{Account}
use Rattle.rubis_engine.specs.Accounts.Ending.{Cut}
use Rattle.rubis_keep.specs.History.{IsLeft, Ended, IsAllAnswered}
use Rattle.rubis_keep.proofs.LineFacts.{begun-append}
use Rattle.rubis_keep.proofs.SoundFacts.{kept-without, kept-ends, read-whole, kept-sound, sound-append, whole-sound}
use Rattle.rubis_lives.specs.Crashes.{EndsAsUncut, DifferencesAreFound, EditsAreFound, EndsLeft, OnlyFails, Life, LivesLeft, QuestionsLeaveNothing, after_life}
use Rattle.rubis_lives.specs.Crashes.{after_lives, files_of, goes_on}
use Rattle.rubis_lives.specs.Histories.{AnsweredBeforeMore, Extends, KillsLeaveFiles, PowerFailuresLeaveFiles, RaisedKeepsTellTheSame, SurvivesIn, from_disk}
use Rattle.rubis_lives.specs.Histories.{opened_again, BegunTooEarlyIsUnsafe, KeptTooEarlyIsUnsafe, ShownTooEarlyIsUnsafe, ToldTooEarlyIsUnsafe}
use Rattle.rubis_lives.proofs.RoomFacts.{front-more, records-grow, whole-front, whole-more}

goes-on-sound : (log input : List ℕ) → HasSoundLines [] log → HasSoundLines [] (whole_lines log ++ kept_of_input input)
goes-on-sound log input h = sound-append [] (whole_lines log) (kept_of_input input) (whole-sound log h)
    (subst (λ l. HasSoundLines l (kept_of_input input)) (sym (whole-ends log h)) (kept-sound input))

life-left : {text : List (List (List ℕ)) → List ℕ} {files : Files} (life : Life) → IsLeft text files → IsLeft text (after_life text files life)
life-left {text} {files} life h = record {
  sound = sound-front [] (take life.log_bytes (whole_lines files.log ++ kept_of_input life.input)) (drop life.log_bytes (whole_lines files.log ++ kept_of_input life.input))
      (subst (HasSoundLines []) (sym (take-append-drop life.log_bytes (whole_lines files.log ++ kept_of_input life.input))) (goes-on-sound files.log life.input h.sound));
  rest = drop life.out_bytes (text (input_records (whole_lines (after_life text files life).log)));
  begins = take-append-drop life.out_bytes (text (input_records (whole_lines (after_life text files life).log)));
}

lives-left : {text : List (List (List ℕ)) → List ℕ} (files : Files) (lives : List Life) → IsLeft text files → IsLeft text (after_lives text files lives)
lives-left files [] h = h
lives-left {text} files (life ∷ lives) h = lives-left (after_life text files life) lives (life-left life h)

same-files : (text : List (List (List ℕ)) → List ℕ) (files : Files) (input : List ℕ) → HasSoundLines [] files.log
    → goes_on text files input ≡ files_of text (whole_lines files.log) input
same-files text files input h = ap (λ (l : List ℕ). record { log = l ++ kept_of_input input; out = text (input_records (l ++ kept_of_input input)) })
    (sym (read-whole files.log h))

pub comes-back : EndsAsUncut
comes-back text files lives input h =
    let left = lives-left files lives h in
    (left, same-files text (after_lives text files lives) input left.sound)

pub questions-leave-nothing : QuestionsLeaveNothing
questions-leave-nothing text files life = ap (λ (k : List ℕ). record {
  log = take life.log_bytes (whole_lines files.log ++ k);
  out = take life.out_bytes (text (input_records (whole_lines (take life.log_bytes (whole_lines files.log ++ k)))));
}) (kept-without [] life.input tt)

-- how a run ended
abbrev IsEnd : (all : Account) (files : Files) (kept told : List ℕ) → Type 0
IsEnd all files kept told = ((kept ≡ files.log) × (told ≡ files.out))
    ⊎ (HasSoundLines [] files.log × IsFrontOf files.out (all.text AtEnd (input_records (whole_lines files.log)))
    × ((more : List (List (List ℕ))) → IsFrontOf told (all.text AtEnd (input_records (whole_lines kept) ++ more))))

pub ends-left : EndsLeft
ends-left all files input later log out h e = go e.answers
  where
    whole-front : IsFrontOf (whole_lines files.log) files.log
    whole-front = (begun_after [] files.log, whole-rest [] files.log)

    grown : (e.kept ≡ files.log) ⊎ (IsFrontOf (whole_lines files.log) e.kept × IsFrontOf e.kept (whole_lines files.log ++ kept_of_input e.bytes)) →
        IsFrontOf (whole_lines files.log) e.kept
    grown (inl same) = subst (IsFrontOf (whole_lines files.log)) (sym same) whole-front
    grown (inr (front, more)) = front

    go : IsEnd all files e.kept e.told → (next : Files) × IsLeft (all.text AtEnd) next × IsFrontOf (whole_lines files.log) next.log × (log ≡ Some next.log)
        × (out ≡ Some next.out)
    go (inl same) = (files, h, whole-front, e.log_is ∙ ap (λ t. Some t) same.0, e.out_is ∙ ap (λ t. Some t) same.1)
    go (inr (sound, found, begins)) = (
      record { log = e.kept; out = e.told },
      record { sound = e.sound h.sound; rest = (begins []).0; begins = (begins []).1 ∙ ap (all.text AtEnd) (append-nil (input_records (whole_lines e.kept))) },
      grown e.grows,
      e.log_is,
      e.out_is,
    )

lines-whole : (log input : List ℕ) → HasSoundLines [] log → whole_lines (whole_lines log ++ kept_of_input input) ≡ whole_lines log ++ kept_of_input input
lines-whole log input h =
    let end : begun_after [] (whole_lines log ++ kept_of_input input) ≡ [] = begun-append [] (whole_lines log) (kept_of_input input)
    ∙ ap (λ s. begun_after s (kept_of_input input)) (whole-ends log h) ∙ kept-ends input in
    sym (append-nil (whole_lines (whole_lines log ++ kept_of_input input))) ∙ ap (λ t. whole_lines (whole_lines log ++ kept_of_input input) ++ t) (sym end)
    ∙ whole-rest [] (whole_lines log ++ kept_of_input input)

pub lives-left-too : LivesLeft
lives-left-too all files input later log out h l =
    let kept = whole_lines files.log ++ kept_of_input l.bytes in
    let same = lines-whole files.log l.bytes h.sound in (
      record { log = kept; out = all.text Cut (input_records kept) },
      record {
        sound = goes-on-sound files.log l.bytes h.sound;
        rest = (l.begins []).0;
        begins = (l.begins []).1 ∙ ap (all.text AtEnd) (append-nil (input_records kept) ∙ ap input_records (sym same));
      },
      (kept_of_input l.bytes, refl),
      l.log_is,
      l.out_is,
    )

refused : (all : Account) (files : Files) → (HasSoundLines [] files.log → IsFrontOf files.out (all.text AtEnd (input_records (whole_lines files.log))) → ⊥)
    → OnlyFails all files
refused all files never input later log out = (λ l. never l.sound l.found, λ e. go e e.answers)
  where
    go : (e : Ended all files.log files.out input later log out) → IsEnd all files e.kept e.told → (log ≡ Some files.log) × (out ≡ Some files.out)
    go e (inl same) = (e.log_is ∙ ap (λ t. Some t) same.0, e.out_is ∙ ap (λ t. Some t) same.1)
    go e (inr (sound, found, begins)) = absurd (never sound found)

pub differences-found : DifferencesAreFound
differences-found all files differs = refused all files (λ sound found. differs found.0 found.1)

pub edits-found : EditsAreFound
edits-found all files edited = refused all files (λ sound found. edited sound)

-- ---- a site that is killed at any moment, or loses its power

safe-at : (says : Says) (s : FileState) (first later : List FolderEvent) → AreSafe says s (first ++ later) → IsSafe says.text (after_file_events s first)
safe-at says s [] later h = safe-first says s later h
safe-at says s (e ∷ first) later h = safe-at says (after_file_event s e) first later h.2

sound-of : {text : List (List (List ℕ)) → List ℕ} {s : FileState} → IsSafe text s → HasSoundLines [] s.kept
sound-of {s} h = sound-front [] s.kept s.cut h.sound

-- what is told of what was flushed is the beginning of what is told of more
told-of-more : (text : List (List (List ℕ)) → List ℕ) (flushed : List ℕ) {log : List ℕ} (out : List ℕ) → Extends text → HasSoundLines [] log → IsFrontOf flushed log
    → IsFrontOf out (text (records_in flushed)) → IsFrontOf out (text (records_in log))
told-of-more text flushed {log} out extends sound front told =
    let short = sound-front [] flushed front.0 (subst (HasSoundLines []) (sym front.1) sound) in
    let more = records-grow flushed short sound (front-more (whole_lines flushed) flushed log (whole-front flushed) front) in
    front-more out (text (records_in flushed)) (text (records_in log)) told
    (subst (λ r. IsFrontOf (text (records_in flushed)) (text r)) more.1 (extends (records_in flushed) more.0))

follows-lines : (says : Says) (s : FileState) (e : FolderEvent) → MayFollow says s e → IsFrontOf (whole_lines s.kept) (after_file_event s e).kept
follows-lines says s (Kept b) f =
    (begun_after [] s.kept ++ b ∷ [], sym (append_assoc (whole_lines s.kept) (begun_after [] s.kept) (b ∷ [])) ∙ ap (λ t. t ++ b ∷ []) (whole-rest [] s.kept))
follows-lines says s Flushed f = whole-front s.kept
follows-lines says s (CutTo n) f = f
follows-lines says s (Told b) f = whole-front s.kept
follows-lines says s Settled f = whole-front s.kept
follows-lines says s (Began n counts) f = whole-front s.kept
follows-lines says s (Replied question reply) f = whole-front s.kept
follows-lines says s (Shown b) f = whole-front s.kept

lines-stay : (says : Says) (s : FileState) (first later : List FolderEvent) → AreSafe says s (first ++ later)
    → IsFrontOf (whole_lines s.kept) (after_file_events s first).kept
lines-stay says s [] later h = whole-front s.kept
lines-stay says s (e ∷ first) later h =
    whole-more s.kept (after_file_event s e).kept (after_file_events (after_file_event s e) first).kept (sound-of h.0) (follows-lines says s e h.1)
    (lines-stay says (after_file_event s e) first later h.2)

opens-again : {text : List (List (List ℕ)) → List ℕ} {s : FileState} → Extends text → IsSafe text s → IsAtStart text (opened_again s)
opens-again {text} {s} extends h =
    let told = told-of-more text s.flushed s.out extends (sound-of h) h.flushed h.told in
    record {
      safe = record { sound = h.sound; flushed = h.flushed; told = h.told; shown = refl };
      begun = refl;
      left = record { sound = sound-of h; rest = told.0; begins = told.1 };
    }

-- where the line `kept,..` is shown among these events, and all that was kept is answered then
abbrev IsBegunIn : (List (List (List ℕ)) → List ℕ) → FileState → List FolderEvent → Type 0
IsBegunIn text s events =
    (before since : List FolderEvent) × (n : ℕ) × (counts : List ℕ) × (events ≡ before ++ Began n counts ∷ since) × IsAllAnswered text (after_file_events s before)

one-later : (text : List (List (List ℕ)) → List ℕ) (s : FileState) (e : FolderEvent) (events : List FolderEvent) → IsBegunIn text (after_file_event s e) events
    → IsBegunIn text s (e ∷ events)
one-later text s e events (before, since, n, counts, is, answered) = (e ∷ before, since, n, counts, ap (λ t. e ∷ t) is, answered)

pub kills-leave-files : KillsLeaveFiles
kills-leave-files says s events extends h first later e =
    let safe = subst (AreSafe says s) (sym e) h in
    (opens-again extends (safe-at says s first later safe), lines-stay says s first later safe)

survives : {text : List (List (List ℕ)) → List ℕ} {t : FileState} (files : Files) → Extends text → IsSafe text t → SurvivesIn t files
    → IsAtStart text (from_disk files) × IsFrontOf t.out (text (records_in files.log))
survives {text} {t} files extends h left =
    let sound : HasSoundLines [] files.log = sound-front [] files.log left.1.0 (subst (HasSoundLines []) (sym left.1.1) h.sound) in
    let told = told-of-more text t.flushed t.out extends sound left.0 h.told in
    let out = front-more files.out t.out (text (records_in files.log)) left.2 told in (
      record {
        safe = record { sound = subst (HasSoundLines []) (sym (append-nil files.log)) sound; flushed = ([], append-nil files.log); told = out; shown = refl };
        begun = refl;
        left = record { sound = sound; rest = out.0; begins = out.1 };
      },
      told,
    )

pub power-failures-leave-files : PowerFailuresLeaveFiles
power-failures-leave-files says s events extends h first later e files left =
    survives files extends (safe-at says s first later (subst (AreSafe says s) (sym e) h)) left

pub answered-before-more : AnsweredBeforeMore
answered-before-more says s [] later b not_yet h = absurd (cc (not_yet, h.1.0))
answered-before-more says s (Began n counts ∷ first) later b not_yet h = ([], first, n, counts, refl, h.1.0)
answered-before-more says s (Kept c ∷ first) later b not_yet h = absurd (cc (not_yet, h.1.0))
answered-before-more says s (Flushed ∷ first) later b not_yet h = one-later says.text s Flushed first
    (answered-before-more says (after_file_event s Flushed) first later b not_yet h.2)
answered-before-more says s (CutTo n ∷ first) later b not_yet h = one-later says.text s (CutTo n) first
    (answered-before-more says (after_file_event s (CutTo n)) first later b not_yet h.2)
answered-before-more says s (Told c ∷ first) later b not_yet h = one-later says.text s (Told c) first
    (answered-before-more says (after_file_event s (Told c)) first later b not_yet h.2)
answered-before-more says s (Settled ∷ first) later b not_yet h = one-later says.text s Settled first
    (answered-before-more says (after_file_event s Settled) first later b not_yet h.2)
answered-before-more says s (Shown c ∷ first) later b not_yet h = one-later says.text s (Shown c) first
    (answered-before-more says (after_file_event s (Shown c)) first later b not_yet h.2)
answered-before-more says s (Replied question reply ∷ first) later b not_yet h =
    one-later says.text s (Replied question reply) first (answered-before-more says (after_file_event s (Replied question reply)) first later b not_yet h.2)

-- ---- a site that keeps more messages from now on

some-same : {a b : List ℕ} → Some a ≡ Some b → a ≡ b
some-same e = cc e

none-read : (bytes : List ℕ) (later : Option (List ℕ)) → Consumes (Some []) later bytes → bytes ≡ []
none-read [] later c = refl
none-read (b ∷ bytes) None c = absurd c
none-read (b ∷ bytes) (Some rest) c = absurd (cc c)

-- the answers to what was kept are complete
completed : {before : Account} (files mid : Files) {done log1 out1 : Option (List ℕ)}
    → ((records : List (List (List ℕ))) → before.text Cut records ≡ before.text AtEnd records) → Lived before files.log files.out (Some []) done log1 out1
    → log1 ≡ Some mid.log → out1 ≡ Some mid.out → mid.out ≡ before.text AtEnd (records_in files.log)
completed {before} files mid {done} same l e f =
    let none : kept_of_input l.bytes ≡ [] = ap kept_of_input (none-read l.bytes done l.taken) in
    some-same (sym f ∙ l.out_is) ∙ ap (λ k. before.text Cut (input_records (whole_lines files.log ++ k))) none
    ∙ ap (λ k. before.text Cut (input_records k)) (append-nil (whole_lines files.log)) ∙ same (records_in files.log)

pub raised-keeps-tell-the-same : RaisedKeepsTellTheSame
raised-keeps-tell-the-same before raised files mid done log1 out1 input later log out told same l e f front =
    let all : IsFrontOf told mid.out = subst (IsFrontOf told) (sym (completed files mid same l e f)) front in (
      λ lived. front-more told mid.out (raised.text AtEnd (records_in mid.log)) all lived.found,
      λ ended. ends all ended ended.answers,
    )
  where
    ends : IsFrontOf told mid.out → (d : Ended raised mid.log mid.out input later log out) → ((d.kept ≡ mid.log) × (d.told ≡ mid.out))
        ⊎ (HasSoundLines [] mid.log × IsFrontOf mid.out (raised.text AtEnd (input_records (whole_lines mid.log)))
        × ((more : List (List (List ℕ))) → IsFrontOf d.told (raised.text AtEnd (input_records (whole_lines d.kept) ++ more))))
        → ((log ≡ Some mid.log) × (out ≡ Some mid.out)) ⊎ IsFrontOf told (raised.text AtEnd (records_in mid.log))
    ends all d (inl is) = inl (d.log_is ∙ ap (λ t. Some t) is.0, d.out_is ∙ ap (λ t. Some t) is.1)
    ends all d (inr (sound, found, begins)) = inr (front-more told mid.out (raised.text AtEnd (records_in mid.log)) all found)

-- ---- histories that are refused

none-begins : {out : List ℕ} (b : ℕ) {all : List ℕ} → out ≡ [] → all ≡ [] → IsFrontOf (out ++ b ∷ []) all → ⊥
none-begins {out} b e f (rest, g) =
    let long = length-append (out ++ b ∷ []) rest in
    let first = length-append out (b ∷ []) in
    omega (arith, ap length g, ap length f, long, first)

pub told-too-early : ToldTooEarlyIsUnsafe
told-too-early says s [] b later none e f h =
    let safe = safe-first says (after_file_event s (Told b)) later h.2 in
    none-begins b f (ap (λ k. says.text (records_in k)) e ∙ none) safe.told
told-too-early says s (c ∷ lines) b later none e f h = told-too-early says (after_file_event s (Kept c)) lines b later none e f h.2

no-end : (shown : List ℕ) (b : ℕ) → shown ++ b ∷ [] ≡ [] → ⊥
no-end shown b e = let long = length-append shown (b ∷ []) in omega (arith, ap length e, long)

not-longer : {shown out : List ℕ} (b : ℕ) → shown ≡ out → IsFrontOf (shown ++ b ∷ []) out → ⊥
not-longer {shown} b e (rest, g) =
    let long = length-append (shown ++ b ∷ []) rest in
    let first = length-append shown (b ∷ []) in
    omega (arith, ap length g, ap length e, long, first)

pub shown-too-early : ShownTooEarlyIsUnsafe
shown-too-early says s b later early h = go s.begun early (safe-first says (after_file_event s (Shown b)) later h.2).shown
  where
    go : (begun : Bool) → (begun ≡ false) ⊎ (s.shown ≡ s.out) → MatchBool begun (IsFrontOf (s.shown ++ b ∷ []) s.out) (s.shown ++ b ∷ [] ≡ []) → ⊥
    go true (inl e) m = cc e
    go true (inr e) m = not-longer b e m
    go false early m = no-end s.shown b m

pub kept-too-early : KeptTooEarlyIsUnsafe
kept-too-early says s b later (inl early) h = cc (early, h.1.0)
kept-too-early says s b later (inr early) h = early h.1.1

pub begun-too-early : BegunTooEarlyIsUnsafe
begun-too-early says s n counts later (inl early) h = cc (early, h.1.3)
begun-too-early says s n counts later (inr again) h = cc (again, h.1.4)
