-- The files of a run stay safe, from its start on and turn by turn.
use Rattle.rubis_keep.proofs.Common.{◌≡◌, ◌∙◌, ◌+◌, ◌++◌, ◌∷◌, [], ℕ, Bool, true, false, List, Some, drop, length, suc, take, zero, refl, sym, ap}
use Rattle.rubis_keep.proofs.Common.{subst, append_assoc, take-append-drop, ◌⊎◌, inl, inr, Option, None, cond, map, append-nil, Place, KeyedSite}
use Rattle.rubis_keep.proofs.Common.{counts, Account, AtEnd, input_records}
use Rattle.std.proofs.Math.Seq.{take-append_seam}
use Rattle.rubis_keep.specs.History.{Answers, AreSafe, FolderEvent, FileState, History, IsSafe, Says, StaysSafe, Tells, after_file_event, after_file_events, now, out_in, records_in}
use Rattle.rubis_keep.specs.History.{told_of, IsFrontOf, Grows, KeepsLines}
use Rattle.rubis_keep.specs.History.FolderEvent.{CutTo, Flushed, Shown, Told, Kept, Replied}
use Rattle.rubis_keep.specs.Lines.{HasSoundLines, begun_after, whole_lines, is_marked, kept_after, HasWholeRecords}
use Rattle.rubis_keep.specs.Lives.{Found, HasAnsweredKept, HasReplayed, IsAtStart, Rested}
use Rattle.rubis_keep.specs.Runs.{beginning}
use Rattle.rubis_keep.specs.Saying.{says_by}
use Rattle.rubis_keep.specs.Shortened.{state_after}
use Rattle.rubis_keep.specs.Turns.{Standing, Answering, still_to_put, Answered, Broke, IsAtRest, IsLineBegun, TakesLines, Torn, Turn, Turns, Unanswered, Unreplied, last}
use Rattle.rubis_keep.specs.Turns.{replied_to}
use Rattle.rubis_keep.proofs.HistoryFacts.{some-is, now-more, only-tells, safe-answers, safe-first, after-append, due-after, only-keeps, safe-append}
use Rattle.rubis_keep.proofs.HistoryFacts.{safe-keeps, safe-last, stays-more, stays-none}
use Rattle.rubis_keep.proofs.LifeFacts.{answered-text, all-added, answered-front, answered-more}
use Rattle.rubis_keep.proofs.SoundFacts.{whole-ends, whole-rest, whole-sound, whole-whole, records-append, kept-begun-after, kept-sound-after, sound-append}
use Rattle.rubis_keep.proofs.SoundFacts.{sound-front, kept-whole}
use Rattle.rubis_keep.specs.Questions.{reply_rows, reply_text}
use Rattle.rubis_keep.specs.declared.fault.KeepFault.{KeepFault}
use Rattle.rubis_keep.proofs.LineFacts.{begun-append}
use Rattle.rubis_keep.proofs.TurnFacts.{turn-rests}

pub found-safe : (text : List (List (List ℕ)) → List ℕ) {kept : List ℕ} {s : FileState} → HasSoundLines [] kept → Found kept s → IsFrontOf s.out (text (records_in kept))
    → IsSafe text s
found-safe text {kept} {s} sound f front = record {
  sound = rw (f.kept_is, f.cut) (subst (HasSoundLines []) (sym (append-nil kept)) sound);
  flushed = ([], append-nil s.flushed ∙ f.flushed ∙ sym f.kept_is);
  told = subst (λ k. IsFrontOf s.out (text (records_in k))) (sym f.flushed) front;
  shown = rw f.begun f.shown;
}

-- ---- what was kept is answered again

pub told-within : (says : Says) {kept : List ℕ} (h : History) {h2 : History} {live : Bool} {told due : List ℕ} → live ≡ false → HasSoundLines [] kept
    → Found kept (now h) → Tells live (Some h) (Some h2) told due → IsFrontOf (now h2).out (says.text (records_in kept)) → StaysSafe says (Some h) (Some h2)
told-within says {kept} h {due} e sound f t front =
    let s = now h in
    let a = subst (λ b. Answers b t.0 [] due) e t.2 in
    let o = only-tells false t.0 [] due s a in (
      t.0,
      t.1,
      safe-answers says false t.0 [] due s a (rw (f.kept_is, f.cut) (subst (HasSoundLines []) (sym (append-nil kept)) sound))
          ([], append-nil s.flushed ∙ f.flushed ∙ sym f.kept_is) (f.begun, (f.shown, refl))
          (subst (λ k. IsFrontOf (s.out ++ told_of t.0) (says.text (records_in k))) (sym f.flushed)
          (subst (λ x. IsFrontOf x (says.text (records_in kept))) (ap (λ (x : FileState). x.out) (now-more h t.0 t.1) ∙ o.out) front)),
    )

none-shown : (es : List FolderEvent) {due : List ℕ} (due2 : List ℕ) (s : FileState) → Answers false es due due2 → due ≡ [] → (after_file_events s es).shown ≡ s.shown
none-shown [] due2 s a e = refl
none-shown (Told b ∷ es) due2 s a e = none-shown es due2 (after_file_event s (Told b)) a e
none-shown (Shown b ∷ es) due2 s a e = absurd (cc (e, a.1))
none-shown (event ∷ es) due2 s a e = absurd a

-- and the files are found so still
pub replay-found : {kept : List ℕ} (h : History) {h2 : History} {live : Bool} {told due : List ℕ} → live ≡ false → Found kept (now h)
    → Tells live (Some h) (Some h2) told due → Found kept (now h2)
replay-found h {due} e f t =
    let a = subst (λ b. Answers b t.0 [] due) e t.2 in
    let o = only-tells false t.0 [] due (now h) a in
    let is = now-more h t.0 t.1 in
    rw is (record {
      kept_is = o.kept ∙ f.kept_is;
      flushed = o.flushed ∙ f.flushed;
      cut = o.cut ∙ f.cut;
      begun = o.begun ∙ f.begun;
      shown = none-shown t.0 due (now h) a refl ∙ f.shown;
    })

-- ---- the line that isn't whole is cut off, and `kept,..` is shown

-- some first events of these are safe too
pub safe-take : (says : Says) (n : ℕ) (s : FileState) (es : List FolderEvent) → AreSafe says s es → AreSafe says s (take n es)
safe-take says zero s es h = safe-first says s es h
safe-take says (suc n) s [] h = h
safe-take says (suc n) s (e ∷ es) h = (h.0, h.1, safe-take says n (after_file_event s e) es h.2)

-- all that was kept is answered, and a line may be torn
record AtStart (all : Account) (p : Place) (s0 : KeyedSite) (y : Standing) (kept : List ℕ) (s : FileState) : Type 0 where
  sound : HasSoundLines [] kept
  found : Found kept s
  answered : HasAnsweredKept all p s0 y.at s.out (whole_lines kept)
  len : y.kept ≡ length (whole_lines kept)
  before : y.at.before ≡ Some []

pub cut-kept : (kept : List ℕ) {len : ℕ} → len ≡ length (whole_lines kept) → take len kept ≡ whole_lines kept
cut-kept kept e = ap (λ n. take n kept) e ∙ ap (take (length (whole_lines kept))) (sym (whole-rest [] kept)) ∙ take-append_seam (whole_lines kept)
    (begun_after [] kept)

told-front : {all : Account} {p : Place} {s0 : KeyedSite} {y : Standing} {kept : List ℕ} {s : FileState} → AtStart all p s0 y kept s
    → IsFrontOf s.out (all.text AtEnd (records_in kept))
told-front {all} {s = s} a = ([], append-nil s.out ∙ sym (answered-text AtEnd a.answered))

-- what is kept after the cut
cut-lines : {all : Account} {p : Place} {s0 : KeyedSite} {y : Standing} {kept : List ℕ} {s : FileState} → AtStart all p s0 y kept s
    → take y.kept s.kept ≡ whole_lines kept
cut-lines {y = y} {kept = kept} a = ap (take y.kept) a.found.kept_is ∙ cut-kept kept a.len

cut-records : {all : Account} {p : Place} {s0 : KeyedSite} {y : Standing} {kept : List ℕ} {s : FileState} → AtStart all p s0 y kept s
    → records_in (take y.kept s.kept) ≡ records_in kept
cut-records {kept = kept} a = ap records_in (cut-lines a) ∙ ap input_records (whole-whole kept a.sound)

-- once it is cut, and once that is flushed
cut-safe : {all : Account} {p : Place} {s0 : KeyedSite} {y : Standing} {kept : List ℕ} {s : FileState} → AtStart all p s0 y kept s
    → IsSafe (all.text AtEnd) (after_file_event s (CutTo y.kept))
cut-safe {all} {y = y} {kept = kept} {s = s} a =
    let f = a.found in
    let len = y.kept in
    record {
      sound = subst (HasSoundLines []) (append_assoc (take len s.kept) (drop len s.kept) s.cut)
          (subst (λ t. HasSoundLines [] (t ++ s.cut)) (sym (take-append-drop len s.kept))
          (rw (f.kept_is, f.cut) (subst (HasSoundLines []) (sym (append-nil kept)) a.sound)));
      flushed = ([], append-nil (take len s.flushed) ∙ ap (take len) (f.flushed ∙ sym f.kept_is));
      told = subst (λ r. IsFrontOf s.out (all.text AtEnd r)) (sym (ap (λ k. records_in (take len k)) (f.flushed ∙ sym f.kept_is) ∙ cut-records a)) (told-front a);
      shown = rw f.begun f.shown;
    }

flush-safe : {all : Account} {p : Place} {s0 : KeyedSite} {y : Standing} {kept : List ℕ} {s : FileState} → AtStart all p s0 y kept s
    → IsSafe (all.text AtEnd) (after_file_events s (CutTo y.kept ∷ Flushed ∷ []))
flush-safe {all} {y = y} {kept = kept} {s = s} a =
    let f = a.found in
    record {
      sound = rw (cut-lines a) (subst (HasSoundLines []) (sym (append-nil (whole_lines kept))) (whole-sound kept a.sound));
      flushed = ([], append-nil (take y.kept s.kept));
      told = subst (λ r. IsFrontOf s.out (all.text AtEnd r)) (sym (cut-records a)) (told-front a);
      shown = rw f.begun f.shown;
    }

begin-safe : {all : Account} {p : Place} {s0 : KeyedSite} {y : Standing} {kept : List ℕ} {s : FileState} → AtStart all p s0 y kept s
    → AreSafe (says_by all p s0) s (beginning y)
begin-safe {all} {p} {s0} {y} {kept} {s} a =
    let f = a.found in
    let h = a.answered in
    let flushed = flush-safe a in
    let records = cut-records a in
    let text : s.out ≡ all.text AtEnd (records_in (take y.kept s.kept)) = sym (answered-text AtEnd h) ∙ ap (all.text AtEnd) (sym records) in
    let many : y.at.answered ≡ length (records_in (take y.kept s.kept)) = h.count ∙ sym (ap (λ (r : List (List (List ℕ))). length r) records) in
    let state : y.at.state ≡ state_after p s0 (records_in (take y.kept s.kept)) = h.state ∙ ap (state_after p s0) (sym records) in (
      found-safe (all.text AtEnd) a.sound f (told-front a),
      ([], append-nil (whole_lines s.kept) ∙ ap whole_lines f.kept_is ∙ sym (cut-lines a)),
      (
        cut-safe a,
        tt,
        (
          flushed,
          (text, f.begun),
          (
            record { sound = flushed.sound; flushed = flushed.flushed; told = flushed.told; shown = flushed.shown },
            (text, many, (λ i. counts (h.place i).sites (state i).site.log), refl, f.begun),
            record { sound = flushed.sound; flushed = flushed.flushed; told = flushed.told; shown = ([], append-nil s.out) },
          ),
        ),
      ),
    )

begin-rests : {all : Account} {p : Place} {s0 : KeyedSite} {y : Standing} {kept : List ℕ} {s : FileState} → AtStart all p s0 y kept s
    → Rested all p s0 (record y.at { is_live = true }) (after_file_events s (beginning y))
begin-rests {kept = kept} a =
    let h = a.answered in
    let cut = cut-lines a in
    record {
      answered = rw cut (record { text = h.text; place = h.place; state = h.state; count = h.count; whole = h.whole; idle = record { window = h.idle.window; empty = h.idle.empty; within = h.idle.within } });
      found = a.before;
      live = refl;
      sound = rw cut (whole-sound kept a.sound);
      ends = rw cut (whole-ends kept a.sound);
      flushed = refl;
      cut = refl;
      begun = refl;
      shown = refl;
    }

pub starts-safe : {all : Account} {p : Place} {s0 : KeyedSite} {kept old : List ℕ} (y : Standing) (h : History) → HasSoundLines [] kept → Found kept (now h)
    → HasReplayed all p s0 y.at kept old (out_in (Some h)) y.kept
    → AreSafe (says_by all p s0) (now h) (beginning y) × Rested all p s0 (record y.at { is_live = true }) (after_file_events (now h) (beginning y))
starts-safe {all} {p} {s0} {kept} y h sound found r =
    let a : AtStart all p s0 y kept (now h) = record {
      sound = sound;
      found = found;
      answered = subst (λ t. HasAnsweredKept all p s0 y.at t (whole_lines kept)) (sym (some-is r.out_is)) r.answered;
      len = r.length_is;
      before = r.before_is;
    } in
    (begin-safe a, begin-rests a)

-- ---- before that

pub flushed-found : {text : List (List (List ℕ)) → List ℕ} {kept : List ℕ} {s : FileState} → IsAtStart text s → s.kept ≡ kept → Found kept (after_file_event s Flushed)
flushed-found o e = record { kept_is = e; flushed = e; cut = refl; begun = o.begun; shown = rw o.begun at o.safe.shown }

pub flushed-safe : (says : Says) {s : FileState} → IsAtStart says.text s → AreSafe says s (Flushed ∷ [])
flushed-safe says o = (o.safe, tt, found-safe says.text o.left.sound (flushed-found o refl) (o.left.rest, o.left.begins))

-- ---- the files of a run stay safe, turn by turn

-- a text that ends with a line end is its whole lines
pub all-whole : (t : List ℕ) → begun_after [] t ≡ [] → whole_lines t ≡ t
all-whole t e = sym (append-nil (whole_lines t)) ∙ ap (λ b. whole_lines t ++ b) (sym e) ∙ whole-rest [] t

-- the records of what was kept, and of lines that came after it
lines-after : {all : Account} {p : Place} {s : KeyedSite} {a : Answering} {told kept : List ℕ} (chunk : List ℕ) → HasAnsweredKept all p s a told kept
    → begun_after [] (kept ++ chunk) ≡ [] → is_marked chunk ≡ false → records_in (kept ++ chunk) ≡ input_records kept ++ input_records chunk
lines-after {kept} chunk h ends unmarked = ap input_records (all-whole (kept ++ chunk) ends) ∙ records-append chunk h.whole unmarked

told-before : {all : Account} {p : Place} {s : KeyedSite} {a : Answering} {told kept : List ℕ} (chunk : List ℕ) → HasAnsweredKept all p s a told kept
    → begun_after [] (kept ++ chunk) ≡ [] → is_marked chunk ≡ false → IsFrontOf told (all.text AtEnd (records_in (kept ++ chunk)))
told-before {all} {told} chunk h ends unmarked =
    subst (λ r. IsFrontOf told (all.text AtEnd r)) (sym (lines-after chunk h ends unmarked)) (answered-front h (input_records chunk))

pub rested-safe : {all : Account} {p : Place} {s0 : KeyedSite} {a : Answering} {s : FileState} → Rested all p s0 a s → IsSafe (all.text AtEnd) s
rested-safe {all} {s} r = record {
  sound = subst (λ c. HasSoundLines [] (s.kept ++ c)) (sym r.cut) (subst (HasSoundLines []) (sym (append-nil s.kept)) r.sound);
  flushed = ([], append-nil s.flushed ∙ r.flushed);
  told = (
    [],
    append-nil s.out ∙ sym (answered-text AtEnd r.answered) ∙ ap (λ k. all.text AtEnd (input_records k)) (sym (all-whole s.kept r.ends))
        ∙ ap (λ k. all.text AtEnd (records_in k)) (sym r.flushed),
  );
  shown = rw (r.begun, r.shown) ([], append-nil s.out);
}

-- ---- lines are kept

-- lines that end are kept after others, and flushed
record Lines (chunk : List ℕ) : Type 0 where
  whole : HasWholeRecords chunk
  sound : HasSoundLines [] chunk
  ends : begun_after [] chunk ≡ []

-- a run that rested has kept and flushed `chunk`, and answered nothing of it
record Holds (s s1 : FileState) (chunk : List ℕ) : Type 0 where
  kept : s1.kept ≡ s.kept ++ chunk
  flushed : s1.flushed ≡ s.kept ++ chunk
  cut : s1.cut ≡ []
  begun : s1.begun ≡ true
  shown : s1.shown ≡ s1.out
  out : s1.out ≡ s.out

ends-more : (kept chunk : List ℕ) → begun_after [] kept ≡ [] → begun_after [] chunk ≡ [] → begun_after [] (kept ++ chunk) ≡ []
ends-more kept chunk e f = begun-append [] kept chunk ∙ ap (λ b. begun_after b chunk) e ∙ f

sound-more : (kept chunk : List ℕ) → HasSoundLines [] kept → begun_after [] kept ≡ [] → HasSoundLines [] chunk → HasSoundLines [] (kept ++ chunk)
sound-more kept chunk s e t = sound-append [] kept chunk s (subst (λ b. HasSoundLines b chunk) (sym e) t)

kept-safe : {all : Account} {p : Place} {s0 : KeyedSite} {a : Answering} {s : FileState} {chunk : List ℕ}
    → Rested all p s0 a s → Lines chunk → AreSafe (says_by all p s0) s (map (λ b. Kept b) chunk ++ Flushed ∷ [])
kept-safe {all} {p} {s0} {s} {chunk} r l =
    let o = only-keeps chunk s in
    let first = safe-keeps (says_by all p s0) chunk (rested-safe r) (r.begun, r.shown) r.cut (sound-more s.kept chunk r.sound r.ends l.sound) in
    let s1 = after_file_events s (map (λ b. Kept b) chunk) in
    let last = safe-last (says_by all p s0) s (map (λ b. Kept b) chunk) first in
    safe-append (says_by all p s0) s (map (λ b. Kept b) chunk) (Flushed ∷ []) first (
      last,
      tt,
      record {
        sound = subst (HasSoundLines []) (sym (append-nil s1.kept)) (subst (HasSoundLines []) (sym o.kept) (sound-more s.kept chunk r.sound r.ends l.sound));
        flushed = ([], append-nil s1.kept);
        told = subst (λ k. IsFrontOf s1.out (all.text AtEnd (records_in k))) (sym o.kept)
            (subst (λ t. IsFrontOf t (all.text AtEnd (records_in (s.kept ++ chunk)))) (sym o.out)
            (told-before chunk r.answered (ends-more s.kept chunk r.ends l.ends) l.whole.unmarked));
        shown = last.shown;
      },
    )

-- what a run that rested has after its lines were kept
kept-holds : {all : Account} {p : Place} {s0 : KeyedSite} {a : Answering} (h : History) (new : Option History) {chunk : List ℕ}
    → Rested all p s0 a (now h) → Lines chunk → KeepsLines true (Some h) new chunk
    → (h1 : History) × (new ≡ Some h1) × StaysSafe (says_by all p s0) (Some h) (Some h1) × Holds (now h) (now h1) chunk
kept-holds h None r l (inl g) = absurd g
kept-holds h None r l (inr g) = absurd g.0
kept-holds h (Some h1) {chunk} r l (inl g) =
    let s = now h in
    let o = only-keeps chunk s in
    let end = now-more h (map (λ b. Kept b) chunk ++ Flushed ∷ []) g ∙ after-append s (map (λ b. Kept b) chunk) (Flushed ∷ []) in (
      h1,
      refl,
      (map (λ b. Kept b) chunk ++ Flushed ∷ [], g, kept-safe r l),
      rw end (record { kept = o.kept; flushed = o.kept; cut = refl; begun = o.begun ∙ r.begun; shown = o.shown ∙ r.shown ∙ sym o.out; out = o.out }),
    )
kept-holds h (Some h1) {chunk} r l (inr (g, none)) =
    let s = now h in
    let same : s.kept ≡ s.kept ++ chunk = sym (append-nil s.kept) ∙ ap (λ t. s.kept ++ t) (sym none) in (
      h1,
      refl,
      ([], g, rested-safe r),
      rw (now-more h [] g) (record { kept = same; flushed = r.flushed ∙ same; cut = r.cut; begun = r.begun; shown = r.shown; out = refl }),
    )

-- the lines of a turn end, and are kept as they are
lines-of : (asks : Bool) {begun : List ℕ} (bytes : List ℕ) {chunk : List ℕ} → (b : IsLineBegun begun) → chunk ≡ kept_after asks b.0 bytes → Lines chunk
lines-of asks bytes b e = record {
  whole = subst HasWholeRecords (sym e) (kept-whole asks b.0 bytes);
  sound = subst (HasSoundLines []) (sym e) (kept-sound-after asks b.0 bytes b.1);
  ends = ap (begun_after []) e ∙ kept-begun-after asks b.0 bytes b.1;
}

lines-read : {asks asked : Bool} {input input2 : Option (List ℕ)} {begun begun2 chunk question : List ℕ} → IsLineBegun begun
    → TakesLines asks asked input input2 begun begun2 chunk question → Lines chunk
lines-read {asks} b r = lines-of asks r.bytes b (r.cuts b.0 b.2).keeps

-- ---- they are answered

-- what is told of their answers is safe, and where it ends
told-safe : (all : Account) (p : Place) (s0 : KeyedSite) {s s1 : FileState} {chunk : List ℕ} (events : List FolderEvent) (due : List ℕ) → HasSoundLines [] (s.kept ++ chunk)
    → Holds s s1 chunk → Answers true events [] due → IsFrontOf (s.out ++ told_of events) (all.text AtEnd (records_in (s.kept ++ chunk)))
    → AreSafe (says_by all p s0) s1 events
told-safe all p s0 {s} {s1} {chunk} events due sound k a f =
    safe-answers (says_by all p s0) true events [] due s1 a
    (subst (λ c. HasSoundLines [] (s1.kept ++ c)) (sym k.cut) (subst (HasSoundLines []) (sym (append-nil s1.kept)) (subst (HasSoundLines []) (sym k.kept) sound)))
    ([], append-nil s1.flushed ∙ k.flushed ∙ sym k.kept) (k.begun, append-nil s1.shown ∙ k.shown)
    (subst (λ t. IsFrontOf (s1.out ++ told_of events) (all.text AtEnd (records_in t))) (sym k.flushed)
    (subst (λ t. IsFrontOf (t ++ told_of events) (all.text AtEnd (records_in (s.kept ++ chunk)))) (sym k.out) f))

tells-safe : {all : Account} {p : Place} {s0 : KeyedSite} {a : Answering} (h h1 : History) (new : Option History) {chunk added due : List ℕ} {live : Bool}
    → Rested all p s0 a (now h) → Lines chunk → Holds (now h) (now h1) chunk → live ≡ true → Tells live (Some h1) new added due
    → IsFrontOf ((now h).out ++ added) (all.text AtEnd (records_in ((now h).kept ++ chunk)))
    → (h2 : History) × (new ≡ Some h2) × StaysSafe (says_by all p s0) (Some h1) (Some h2) × ((es : List FolderEvent) × (now h2 ≡ after_file_events (now h1) es)
    × Answers true es [] due × (told_of es ≡ added))
tells-safe h h1 None r l k on t front = absurd t.1
tells-safe {all} {p} {s0} h h1 (Some h2) {chunk} {added} {due} r l k on (es, g, t, e) front =
    let a = subst (λ b. Answers b es [] due) on t in (
      h2,
      refl,
      (
        es,
        g,
        told-safe all p s0 es due (sound-more (now h).kept chunk r.sound r.ends l.sound) k a
            (subst (λ t. IsFrontOf ((now h).out ++ t) (all.text AtEnd (records_in ((now h).kept ++ chunk)))) (sym e) front),
      ),
      (es, now-more h1 es g, a, e),
    )

-- where a run is after a turn, but for its question: it rests again
abbrev RestsSafe : Account → Place → KeyedSite → History → Answering → Option History → Type 0
RestsSafe all p s0 h a new = (h2 : History) × (new ≡ Some h2) × StaysSafe (says_by all p s0) (Some h) (Some h2) × Rested all p s0 a (now h2)

answered-safe : {all : Account} {p : Place} {s0 : KeyedSite} {x y : Standing} {asked : Bool} {question : List ℕ} (h : History) → x.history ≡ Some h → IsAtRest x
    → Rested all p s0 x.at (now h) → Answered true x y asked question → RestsSafe all p s0 h y.at y.history
answered-safe {all} {p} {s0} {x} {y} h is rests r a =
    let s = now h in
    let chunk = a.chunk in
    let l = lines-read rests.begun a.reads in
    let k = kept-holds h a.mid r l (rw is at a.kept) in
    let ends = ends-more s.kept chunk r.ends l.ends in
    let put = all-added x.at.before y.at.before a.added a.text r.found a.fed.put in
    let answered = answered-more r.answered a.fed l.whole a.rests.idle in
    let told : s.out ++ a.added ≡ s.out ++ a.text = ap (λ t. s.out ++ t) put.0 in
    let text : all.text AtEnd (records_in (s.kept ++ chunk)) ≡ s.out ++ a.text =
    ap (λ k. all.text AtEnd (input_records k)) (all-whole (s.kept ++ chunk) ends) ∙ answered-text AtEnd answered in
    let t = tells-safe h k.0 y.history r l k.3 r.live (subst (λ m. Tells x.at.is_live m y.history a.added []) k.1 a.told)
    ([], append-nil (s.out ++ a.added) ∙ told ∙ sym text) in
    let o = only-tells true t.3.0 [] [] (now k.0) t.3.2 in
    let e = t.3.1 in
    let kept : (now t.0).kept ≡ s.kept ++ chunk = ap (λ (f : FileState). f.kept) e ∙ o.kept ∙ k.3.kept in
    let out : (now t.0).out ≡ s.out ++ a.text = ap (λ (f : FileState). f.out) e ∙ o.out ∙ (λ i. k.3.out i ++ t.3.3 i) ∙ told in
    let due = due-after true t.3.0 [] [] (now k.0) t.3.2 (k.3.begun, append-nil (now k.0).shown ∙ k.3.shown) in (
      t.0,
      t.1,
      stays-more (says_by all p s0) (Some h) (Some k.0) (Some t.0) k.2 t.2,
      record {
        answered = subst (λ o. HasAnsweredKept all p s0 y.at o (now t.0).kept) (sym out) (subst (HasAnsweredKept all p s0 y.at (s.out ++ a.text)) (sym kept) answered);
        found = put.1;
        live = a.fed.live ∙ r.live;
        sound = subst (HasSoundLines []) (sym kept) (sound-more s.kept chunk r.sound r.ends l.sound);
        ends = ap (begun_after []) kept ∙ ends;
        flushed = ap (λ (f : FileState). f.flushed) e ∙ o.flushed ∙ k.3.flushed ∙ sym kept;
        cut = ap (λ (f : FileState). f.cut) e ∙ o.cut ∙ k.3.cut;
        begun = ap (λ (f : FileState). f.begun) e ∙ o.begun ∙ k.3.begun;
        shown = ap (λ (f : FileState). f.shown) e ∙ sym (append-nil (after_file_events (now k.0) t.3.0).shown) ∙ due.1 ∙ ap (λ (f : FileState). f.out) (sym e);
      },
    )

-- ---- a question is answered

-- some first bytes of the answer are shown, or all
reply-safe : {all : Account} {p : Place} {s0 : KeyedSite} {a : Answering} (h h2 : History) (question reply : List ℕ) → Rested all p s0 a (now h)
    → IsFrontOf reply (replied_to a question) → Grows (Some h) (Some h2) (Replied question reply ∷ []) → RestsSafe all p s0 h a (Some h2)
reply-safe {all} {p} {s0} {a} h h2 question reply r front g =
    let s = now h in
    let whole = all-whole s.kept r.ends in
    let text : s.out ≡ all.text AtEnd (records_in s.kept) = sym (answered-text AtEnd r.answered) ∙ ap (λ k. all.text AtEnd (input_records k)) (sym whole) in
    let records : input_records s.kept ≡ records_in s.kept = ap input_records (sym whole) in
    let same : replied_to a question ≡ (says_by all p s0).reply (records_in s.kept) question =
    (λ i. reply_text (reply_rows (r.answered.place i) (r.answered.state i).site (r.answered.count i) question))
    ∙ ap (λ rs. (says_by all p s0).reply rs question) records in (
      h2,
      refl,
      (Replied question reply ∷ [], g, (rested-safe r, (text, (r.begun, r.shown), subst (IsFrontOf reply) same front), rested-safe r)),
      subst (Rested all p s0 a) (sym (now-more h (Replied question reply ∷ []) g)) r,
    )

maybe-reply-safe : {all : Account} {p : Place} {s0 : KeyedSite} {a : Answering} (h : History) (new : Option History) (asked : Bool) (question : List ℕ)
    → Rested all p s0 a (now h) → Grows (Some h) new (cond asked (Replied question (replied_to a question) ∷ []) []) → RestsSafe all p s0 h a new
maybe-reply-safe h None asked question r g = absurd g
maybe-reply-safe {a = a} h (Some h2) true question r g = reply-safe h h2 question (replied_to a question) r ([], append-nil (replied_to a question)) g
maybe-reply-safe {all} {p} {s0} {a} h (Some h2) false question r g =
    (h2, refl, ([], g, rested-safe r), subst (Rested all p s0 a) (sym (now-more h [] g)) r)

rests-on : {all : Account} {p : Place} {s0 : KeyedSite} {a : Answering} (h : History) (mid : Option History) (b : Answering) (new : Option History)
    → RestsSafe all p s0 h a mid → ((h2 : History) → mid ≡ Some h2 → Rested all p s0 a (now h2) → RestsSafe all p s0 h2 b new) → RestsSafe all p s0 h b new
rests-on {all} {p} {s0} h mid b new (h2, is, safe, r) next =
    let n = next h2 is r in
    (n.0, n.1, stays-more (says_by all p s0) (Some h) (Some h2) (Some n.0) safe n.2, n.3)

-- ---- turns

turn-safe : {all : Account} {p : Place} {s0 : KeyedSite} {x y : Standing} (h : History) → x.history ≡ Some h → IsAtRest x
    → Rested all p s0 x.at (now h) → Turn true x y → RestsSafe all p s0 h y.at y.history
turn-safe {all} {p} {s0} {y} h is rests r t =
    subst (λ (a : Answering). RestsSafe all p s0 h a y.history) (sym (ap (λ (s : Standing). s.at) t.same))
    (rests-on h t.mid.history t.mid.at y.history (answered-safe h is rests r t.answered)
    (λ h2 is2 r2. maybe-reply-safe h2 y.history t.asked t.question r2 (rw is2 at t.replied)))

pub turns-safe : {all : Account} {p : Place} {s0 : KeyedSite} (x : Standing) (ys : List Standing) (h : History) → x.history ≡ Some h → IsAtRest x
    → Rested all p s0 x.at (now h) → Turns true x ys → RestsSafe all p s0 h (last x ys).at (last x ys).history
turns-safe {all} {p} {s0} x [] h is rests r none = (h, is, stays-none (says_by all p s0) h (rested-safe r), r)
turns-safe x (y ∷ ys) h is rests r (t, later) =
    rests-on h y.history (last y ys).at (last y ys).history (turn-safe h is rests r t) (λ h2 is2 r2. turns-safe y ys h2 is2 (turn-rests t) r2 later)

-- ---- a turn that a fault ended

torn-safe : {all : Account} {p : Place} {s0 : KeyedSite} {x : Standing} {input2 : Option (List ℕ)} (h : History) (new : Option History) {e : KeepFault}
    → x.history ≡ Some h → IsAtRest x → Rested all p s0 x.at (now h) → Torn true x input2 new e → StaysSafe (says_by all p s0) (Some h) new
torn-safe {all} {p} {s0} {x} h new is rests r t =
    let b = rests.begun in
    let front = t.front b.0 b.2 in
    let l = lines-of true t.bytes b refl in
    let sound = sound-more (now h).kept (kept_after true b.0 t.bytes) r.sound r.ends l.sound in (
      map (λ b. Kept b) t.torn,
      rw is at t.kept,
      safe-keeps (says_by all p s0) t.torn (rested-safe r) (r.begun, r.shown) r.cut (sound-front [] ((now h).kept ++ t.torn) front.0
          (subst (HasSoundLines []) (sym (append_assoc (now h).kept t.torn front.0)) (subst (λ k. HasSoundLines [] ((now h).kept ++ k)) (sym front.1) sound))),
    )

unanswered-safe : {all : Account} {p : Place} {s0 : KeyedSite} {x : Standing} {input2 : Option (List ℕ)} (h : History) (new : Option History) {e : KeepFault}
    → x.history ≡ Some h → IsAtRest x → Rested all p s0 x.at (now h) → Unanswered true x input2 new e → StaysSafe (says_by all p s0) (Some h) new
unanswered-safe {all} {p} {s0} {x} h new is rests r u =
    let s = now h in
    let l = lines-read rests.begun u.reads in
    let k = kept-holds h u.mid r l (rw is at u.kept) in
    let coming_is = still_to_put x.at AtEnd (input_records u.chunk ++ []) in
    let front : IsFrontOf u.added coming_is = only (rw r.found at (u.stopped.begins [])) in
    let text : all.text AtEnd (records_in (s.kept ++ u.chunk)) ≡ s.out ++ coming_is =
    ap (all.text AtEnd) (lines-after u.chunk r.answered (ends-more s.kept u.chunk r.ends l.ends) l.whole.unmarked
    ∙ ap (λ t. input_records s.kept ++ t) (sym (append-nil (input_records u.chunk)))) ∙ r.answered.text AtEnd (input_records u.chunk ++ []) in
    let t = tells-safe h k.0 new r l k.3 r.live (subst (λ m. Tells x.at.is_live m new u.added u.due) k.1 u.told)
    (front.0, append_assoc s.out u.added front.0 ∙ ap (λ t. s.out ++ t) front.1 ∙ sym text) in
    rw t.1 (stays-more (says_by all p s0) (Some h) (Some k.0) (Some t.0) k.2 t.2)
  where
    only : (u.added ≡ []) ⊎ IsFrontOf u.added (still_to_put x.at AtEnd (input_records u.chunk ++ []))
        → IsFrontOf u.added (still_to_put x.at AtEnd (input_records u.chunk ++ []))
    only (inl none) = (still_to_put x.at AtEnd (input_records u.chunk ++ []), ap (λ t. t ++ still_to_put x.at AtEnd (input_records u.chunk ++ [])) none)
    only (inr front) = front

unreplied-safe : {all : Account} {p : Place} {s0 : KeyedSite} {x : Standing} {input2 : Option (List ℕ)} (h : History) (new : Option History) {e : KeepFault}
    → x.history ≡ Some h → IsAtRest x → Rested all p s0 x.at (now h) → Unreplied true x input2 new e → StaysSafe (says_by all p s0) (Some h) new
unreplied-safe {all} {p} {s0} h new is rests r u =
    let a = answered-safe h is rests r u.answered in
    stays-more (says_by all p s0) (Some h) (Some a.0) new a.2 (cut a.0 new a.3 (rw a.1 at u.replied))
  where
    cut : (h2 : History) (new : Option History) → Rested all p s0 u.mid.at (now h2)
        → Grows (Some h2) new [] ⊎ ((n : ℕ) × Grows (Some h2) new (Replied u.question (take n (replied_to u.mid.at u.question)) ∷ []))
        → StaysSafe (says_by all p s0) (Some h2) new
    cut h2 new r (inl g) = ([], g, rested-safe r)
    cut h2 None r (inr (n, g)) = absurd g
    cut h2 (Some h3) r (inr (n, g)) =
        let text = replied_to u.mid.at u.question in
        let t = reply-safe h2 h3 u.question (take n text) r (drop n text, take-append-drop n text) g in
        subst (StaysSafe (says_by all p s0) (Some h2)) (sym t.1) t.2

pub broke-safe : {all : Account} {p : Place} {s0 : KeyedSite} (x : Standing) (ys : List Standing) (input2 : Option (List ℕ)) (h : History) (new : Option History)
    {e : KeepFault} → x.history ≡ Some h → IsAtRest x → Rested all p s0 x.at (now h) → Turns true x ys → IsAtRest (last x ys)
    → Broke true (last x ys) input2 new e → StaysSafe (says_by all p s0) (Some h) new
broke-safe {all} {p} {s0} x ys input2 h new {e} is rests r are rests2 broke =
    let on = turns-safe x ys h is rests r are in
    stays-more (says_by all p s0) (Some h) (Some on.0) new on.2 (ends broke on.0 on.1 on.3)
  where
    ends : Broke true (last x ys) input2 new e → (h2 : History) → (last x ys).history ≡ Some h2 → Rested all p s0 (last x ys).at (now h2)
        → StaysSafe (says_by all p s0) (Some h2) new
    ends (inl t) h2 is2 r2 = torn-safe h2 new is2 rests2 r2 t
    ends (inr (inl u)) h2 is2 r2 = unanswered-safe h2 new is2 rests2 r2 u
    ends (inr (inr u)) h2 is2 r2 = unreplied-safe h2 new is2 rests2 r2 u
