-- What events do to the files of a site, and that these stay safe.
use Rattle.std.specs.Prelude.{IsErr, IsErrAnd, MatchResult, OnErr, OnOk, MatchBool}
use Rattle.std.proofs.Common.{subst, sym, ◌≡◌, ◌∙◌, ◌≤◌, ◌+◌, ◌-◌, ◌++◌, ◌∷◌, [], ◌&&◌, ℕ, suc, true, false, List, Option, Some, None, IfSome, drop, eqb}
use Rattle.std.proofs.Common.{get_or, length, take, refl, ap, arith, append_assoc, length-append, Bool, cond, map, Result, Ok, Err, take-append-drop, inl, inr}
use lib.Pointwise.{pointwise}
use Rattle.std.proofs.lemmas.Bool.{eqb-false}
use Rattle.std.proofs.lemmas.List.{get_or-append-add, get_or_append_left, get_or-drop, get_or-take, length-drop, length-take, length-take-le, take_rest}
use Rattle.std.proofs.lemmas.List.{append-nil, take_all}
use Rattle.rubis_keep.specs.Faults.{DiffersFrom}
use Rattle.rubis_keep.specs.History.{IsFrontOf, Answers, AreSafe, FolderEvent, FileState, Grows, History, IsSafe, StaysSafe, Tells, after_file_event, after_file_events, kept_in}
use Rattle.rubis_keep.specs.History.{HasDone, HasKept, IsShown, TellsFront, KeepsLines, Says, log_if_kept, now, out_in, records_in, told_of}
use Rattle.std.specs.Io.KnownBytes.{Consumes, Appends, Keeps}
use Rattle.rubis_engine.proofs.RunFacts.{take-more, more-bound}
use Rattle.rubis_keep.specs.History.FolderEvent.{Flushed, Kept, Shown, Told}
use Rattle.rubis_keep.specs.Lines.{HasSoundLines}
use Rattle.rubis_keep.specs.Telling.{answers-append, grows-more, grows-none, tells-more, told-append}
use Rattle.rubis_keep.proofs.SoundFacts.{sound-front}

-- what holds of the fault that was met holds of the one that is handed on
pub err-is : {T E : Type 0} (P : T → Type 0) (Q : E → Type 0) (r : Result T E) (e : E) → IsErrAnd r (λ x. x ≡ e) → Q e → MatchResult r P Q
err-is P Q (Ok x) e bad q = absurd bad
err-is P Q (Err x) e bad q = subst Q (sym bad) q

pub ok-of-err : {T E : Type 0} (P : Type 0) (r : Result T E) → IsErr r → OnOk r P
ok-of-err P (Ok x) e = absurd (cc e)
ok-of-err P (Err x) e = tt

pub err-weaker : {T E : Type 0} {P Q : Type 0} (r : Result T E) → (P → Q) → OnErr r P → OnErr r Q
err-weaker (Ok x) f h = tt
err-weaker (Err x) f h = f h

-- ---- bytes that a writer took and a reader gave, one part after the other

pub consumes-none : (known : Option (List ℕ)) → Consumes known known []
consumes-none None = tt
consumes-none (Some xs) = refl

pub consumes-more : (a b c : Option (List ℕ)) (xs ys : List ℕ) → Consumes a b xs → Consumes b c ys → Consumes a c (xs ++ ys)
consumes-more None b c xs ys f g = tt
consumes-more (Some x) None c xs ys f g = absurd f
consumes-more (Some x) (Some y) None xs ys f g = absurd g
consumes-more (Some x) (Some y) (Some z) xs ys f g = f ∙ ap (λ t. xs ++ t) g ∙ sym (append_assoc xs ys z)

pub some-is : {x y : List ℕ} → Some x ≡ Some y → x ≡ y
some-is e = cc e

pub cancel : {A : Type 0} (front xs ys : List A) → front ++ xs ≡ front ++ ys → xs ≡ ys
cancel [] xs ys e = e
cancel (x ∷ front) xs ys e = cancel front xs ys (cc e)

-- ---- where texts differ

-- texts that differ don't go on to be one
pub apart : (xs ys more later : List ℕ) → DiffersFrom xs ys → xs ++ more ≡ ys ++ later → ⊥
apart xs ys more later (k, inside, there, differ) e =
    differ (sym (get_or_append_left xs more 0 k there) ∙ ap (λ t. get_or t k 0) e ∙ get_or_append_left ys later 0 k inside)

pub differ-at : (xs ys : List ℕ) → length xs ≡ length ys → pointwise eqb xs ys ≡ false → DiffersFrom xs ys
differ-at [] [] l e = absurd (cc e)
differ-at [] (y ∷ ys) l e = absurd (omega (arith, l))
differ-at (x ∷ xs) [] l e = absurd (omega (arith, l))
differ-at (x ∷ xs) (y ∷ ys) l e =
    elim (eqb x y) as (λ t. eqb x y ≡ t → (t && pointwise eqb xs ys) ≡ false → DiffersFrom (x ∷ xs) (y ∷ ys)) [
      | true ↦ λ same e2. let later = differ-at xs ys (omega (arith, l)) e2 in (suc later.0, omega (arith, later.1), omega (arith, later.2), later.3)
      | false ↦ λ differ e2. (0, omega arith, omega arith, eqb-false x y differ)
    ] refl e

pub slice-at : (at n : ℕ) (text : List ℕ) → take (at + n - at) (drop at text) ≡ take n (drop at text)
slice-at at n text = let e : at + n - at ≡ n = omega arith in rw e refl

pub differs-later : (at n : ℕ) (text found : List ℕ) → at ≤ length text → DiffersFrom found (take (at + n - at) (drop at text))
    → DiffersFrom (take at text ++ found) text
differs-later at n text found l d =
    let k = d.0 in
    let size = length-take-le at text l in
    let within = ap length (slice-at at n text) in
    let bound = length-take n (drop at text) in
    let left = length-drop at text in
    let long = length-append (take at text) found in
    let here : get_or (take at text ++ found) (at + k) 0 ≡ get_or found k 0 =
    ap (λ n. get_or (take at text ++ found) (n + k) 0) (sym size) ∙ get_or-append-add (take at text) found k 0 in
    let there : get_or text (at + k) 0 ≡ get_or (take (at + n - at) (drop at text)) k 0 =
    sym (get_or-drop at text k 0)
    ∙ sym (get_or-take n (drop at text) k 0 (omega (arith, d.1, within, bound)))
    ∙ ap (λ t. get_or t k 0) (sym (slice-at at n text)) in
    (at + k, omega (arith, d.1, within, bound, left), omega (arith, d.2, long, size), λ e. d.3 (sym here ∙ e ∙ there))

pub front-consumed : (o mid new : Option (List ℕ)) (xs ys : List ℕ) → Consumes o mid xs → Consumes mid new ys → IfSome o (λ old. IsFrontOf (xs ++ ys) old)
front-consumed None mid new xs ys f g = tt
front-consumed (Some old) None new xs ys f g = absurd f
front-consumed (Some old) (Some m) None xs ys f g = absurd g
front-consumed (Some old) (Some m) (Some rest) xs ys f g = (rest, append_assoc xs ys rest ∙ sym (f ∙ ap (λ t. xs ++ t) g))

pub consumes-front : (o mid new : Option (List ℕ)) (at n : ℕ) (text found : List ℕ) → Consumes o mid (take at text)
    → Consumes mid new found → found ≡ take (at + n - at) (drop at text) → Consumes o new (take (at + n) text)
consumes-front o mid new at n text found f g e =
    subst (Consumes o new) (ap (λ t. take at text ++ t) (e ∙ slice-at at n text ∙ ap (take n) (sym (take_rest text at))) ∙ take-more at n text)
    (consumes-more o mid new (take at text) found f g)

-- ---- what events do to the files of a site, and that these stay safe

-- ---- histories that grow

pub after-append : (s : FileState) (xs ys : List FolderEvent) → after_file_events s (xs ++ ys) ≡ after_file_events (after_file_events s xs) ys
after-append s [] ys = refl
after-append s (e ∷ xs) ys = after-append (after_file_event s e) xs ys

pub now-more : (h : History) {h2 : History} (es : List FolderEvent) → h2 ≡ record { start = h.start; events = h.events ++ es } → now h2 ≡ after_file_events (now h) es
now-more h es e = ap now e ∙ after-append h.start h.events es

-- ---- answers

-- only `text` was told
pub record OnlyTells (s s2 : FileState) (text : List ℕ) : Type 0 where
  pub kept : s2.kept ≡ s.kept
  pub flushed : s2.flushed ≡ s.flushed
  pub cut : s2.cut ≡ s.cut
  pub begun : s2.begun ≡ s.begun
  pub out : s2.out ≡ s.out ++ text

pub only-tells : (live : Bool) (es : List FolderEvent) (due due2 : List ℕ) (s : FileState) → Answers live es due due2 → OnlyTells s (after_file_events s es) (told_of es)
only-tells live [] due due2 s a = record { kept = refl; flushed = refl; cut = refl; begun = refl; out = sym (append-nil s.out) }
only-tells live (Told b ∷ es) due due2 s a =
    let r = only-tells live es (cond live (due ++ b ∷ []) due) due2 (after_file_event s (Told b)) a in
    record { kept = r.kept; flushed = r.flushed; cut = r.cut; begun = r.begun; out = r.out ∙ append_assoc s.out (b ∷ []) (told_of es) }
only-tells live (Shown b ∷ es) due due2 s a =
    let r = only-tells live es a.0 due2 (after_file_event s (Shown b)) a.2 in
    record { kept = r.kept; flushed = r.flushed; cut = r.cut; begun = r.begun; out = r.out }
only-tells live (e ∷ es) due due2 s a = absurd a

told-all : (text : List ℕ) → told_of (map (λ b. Told b) text) ≡ text
told-all [] = refl
told-all (b ∷ text) = ap (λ t. b ∷ t) (told-all text)

shown-tells-none : (text : List ℕ) → told_of (map (λ b. Shown b) text) ≡ []
shown-tells-none [] = refl
shown-tells-none (b ∷ text) = shown-tells-none text

pub answers-told : (live : Bool) (text due : List ℕ) → Answers live (map (λ b. Told b) text) due (cond live (due ++ text) due)
answers-told true [] due = append-nil due
answers-told false [] due = refl
answers-told true (b ∷ text) due = subst (Answers true (map (λ b. Told b) text) (due ++ b ∷ [])) (append_assoc due (b ∷ []) text)
    (answers-told true text (due ++ b ∷ []))
answers-told false (b ∷ text) due = answers-told false text due

pub answers-shown : (text due : List ℕ) → Answers true (map (λ b. Shown b) text) (text ++ due) due
answers-shown [] due = refl
answers-shown (b ∷ text) due = (text ++ due, refl, answers-shown text due)

-- ---- safe at each moment

pub safe-first : (says : Says) (s : FileState) (es : List FolderEvent) → AreSafe says s es → IsSafe says.text s
safe-first says s [] h = h
safe-first says s (e ∷ es) h = h.0

pub safe-last : (says : Says) (s : FileState) (es : List FolderEvent) → AreSafe says s es → IsSafe says.text (after_file_events s es)
safe-last says s [] h = h
safe-last says s (e ∷ es) h = safe-last says (after_file_event s e) es h.2

pub safe-append : (says : Says) (s : FileState) (xs ys : List FolderEvent) → AreSafe says s xs → AreSafe says (after_file_events s xs) ys → AreSafe says s (xs ++ ys)
safe-append says s [] ys h k = k
safe-append says s (e ∷ xs) ys h k = (h.0, h.1, safe-append says (after_file_event s e) xs ys h.2 k)

pub stays-none : (says : Says) (h : History) → IsSafe says.text (now h) → StaysSafe says (Some h) (Some h)
stays-none says h safe = ([], grows-none (Some h), safe)

pub stays-more : (says : Says) (a b c : Option History) → StaysSafe says a b → StaysSafe says b c → StaysSafe says a c
stays-more says None b c f g = tt
stays-more says (Some h) None c f g = absurd f.1
stays-more says (Some h) (Some h2) c f g = (
  f.0 ++ g.0,
  grows-more (Some h) (Some h2) c f.0 g.0 f.1 g.1,
  safe-append says (now h) f.0 g.0 f.2 (subst (λ s. AreSafe says s g.0) (now-more h f.0 f.1) g.2),
)

-- what is shown is what `out` has, but for `due`; or nothing is shown
abbrev pub IsDue : Bool → FileState → List ℕ → Type 0
IsDue live s due = (s.begun ≡ live) × MatchBool live (s.shown ++ due ≡ s.out) ((s.shown ≡ []) × (due ≡ []))

due-shown : (live : Bool) (s : FileState) (due : List ℕ) → IsDue live s due → MatchBool s.begun (IsFrontOf s.shown s.out) (s.shown ≡ [])
due-shown live s due d = subst (λ b. MatchBool b (IsFrontOf s.shown s.out) (s.shown ≡ [])) (sym d.0) (go live d.1)
  where
    go : (b : Bool) → MatchBool b (s.shown ++ due ≡ s.out) ((s.shown ≡ []) × (due ≡ [])) → MatchBool b (IsFrontOf s.shown s.out) (s.shown ≡ [])
    go true e = (due, e)
    go false e = e.0

due-told : (live : Bool) (s : FileState) (due : List ℕ) (b : ℕ) → IsDue live s due → IsDue live (after_file_event s (Told b)) (cond live (due ++ b ∷ []) due)
due-told true s due b d = (d.0, sym (append_assoc s.shown due (b ∷ [])) ∙ ap (λ t. t ++ b ∷ []) d.1)
due-told false s due b d = d

due-more : (live : Bool) (s : FileState) {due rest : List ℕ} {b : ℕ} → due ≡ b ∷ rest → IsDue live s due → IsDue live (after_file_event s (Shown b)) rest
due-more true s {rest} {b} e d = (d.0, append_assoc s.shown (b ∷ []) rest ∙ ap (λ t. s.shown ++ t) (sym e) ∙ d.1)
due-more false s e d = absurd (cc (d.1.1, e))

pub due-after : (live : Bool) (es : List FolderEvent) (due due2 : List ℕ) (s : FileState) → Answers live es due due2 → IsDue live s due
    → IsDue live (after_file_events s es) due2
due-after live [] due due2 s a d = subst (IsDue live s) (sym a) d
due-after live (Told b ∷ es) due due2 s a d = due-after live es (cond live (due ++ b ∷ []) due) due2 (after_file_event s (Told b)) a (due-told live s due b d)
due-after live (Shown b ∷ es) due due2 s a d = due-after live es a.0 due2 (after_file_event s (Shown b)) a.2 (due-more live s a.1 d)
due-after live (e ∷ es) due due2 s a d = absurd a

safe-here : (text : List (List (List ℕ)) → List ℕ) (live : Bool) (due rest : List ℕ) (s : FileState) → HasSoundLines [] (s.kept ++ s.cut)
    → IsFrontOf s.flushed s.kept → IsDue live s due → IsFrontOf (s.out ++ rest) (text (records_in s.flushed)) → IsSafe text s
safe-here text live due rest s sound flushed d (more, e) =
    record { sound = sound; flushed = flushed; told = (rest ++ more, sym (append_assoc s.out rest more) ∙ e); shown = due-shown live s due d }

-- what is told is the next of the text of the records that were flushed
pub safe-answers : (says : Says) (live : Bool) (es : List FolderEvent) (due due2 : List ℕ) (s : FileState) → Answers live es due due2 → HasSoundLines [] (s.kept ++ s.cut)
    → IsFrontOf s.flushed s.kept → IsDue live s due → IsFrontOf (s.out ++ told_of es) (says.text (records_in s.flushed)) → AreSafe says s es
safe-answers says live [] due due2 s a sound flushed d f = safe-here says.text live due [] s sound flushed d f
safe-answers says live (Told b ∷ es) due due2 s a sound flushed d f = (
  safe-here says.text live due (b ∷ told_of es) s sound flushed d f,
  tt,
  safe-answers says live es (cond live (due ++ b ∷ []) due) due2 (after_file_event s (Told b)) a sound flushed (due-told live s due b d)
      (f.0, ap (λ t. t ++ f.0) (append_assoc s.out (b ∷ []) (told_of es)) ∙ f.1),
)
safe-answers says live (Shown b ∷ es) due due2 s a sound flushed d f = (
  safe-here says.text live due (told_of es) s sound flushed d f,
  tt,
  safe-answers says live es a.0 due2 (after_file_event s (Shown b)) a.2 sound flushed (due-more live s a.1 d) f,
)
safe-answers says live (e ∷ es) due due2 s a sound flushed d f = absurd a

-- ---- lines that are kept

pub record OnlyKeeps (s s2 : FileState) (bytes : List ℕ) : Type 0 where
  pub kept : s2.kept ≡ s.kept ++ bytes
  pub flushed : s2.flushed ≡ s.flushed
  pub cut : s2.cut ≡ s.cut
  pub begun : s2.begun ≡ s.begun
  pub shown : s2.shown ≡ s.shown
  pub out : s2.out ≡ s.out

pub only-keeps : (bytes : List ℕ) (s : FileState) → OnlyKeeps s (after_file_events s (map (λ b. Kept b) bytes)) bytes
only-keeps [] s = record { kept = sym (append-nil s.kept); flushed = refl; cut = refl; begun = refl; shown = refl; out = refl }
only-keeps (b ∷ bytes) s =
    let r = only-keeps bytes (after_file_event s (Kept b)) in
    record { kept = r.kept ∙ append_assoc s.kept (b ∷ []) bytes; flushed = r.flushed; cut = r.cut; begun = r.begun; shown = r.shown; out = r.out }

pub safe-keeps : (says : Says) (bytes : List ℕ) {s : FileState} → IsSafe says.text s → IsShown s → s.cut ≡ [] → HasSoundLines [] (s.kept ++ bytes)
    → AreSafe says s (map (λ b. Kept b) bytes)
safe-keeps says [] safe shown none sound = safe
safe-keeps says (b ∷ bytes) {s} safe shown none sound =
    let all : HasSoundLines [] ((s.kept ++ b ∷ []) ++ bytes) = subst (HasSoundLines []) (sym (append_assoc s.kept (b ∷ []) bytes)) sound in (
      safe,
      shown,
      safe-keeps says bytes (record {
        sound = subst (λ c. HasSoundLines [] ((s.kept ++ b ∷ []) ++ c)) (sym none)
            (subst (HasSoundLines []) (sym (append-nil (s.kept ++ b ∷ []))) (sound-front [] (s.kept ++ b ∷ []) bytes all));
        flushed = (safe.flushed.0 ++ b ∷ [], sym (append_assoc s.flushed safe.flushed.0 (b ∷ [])) ∙ ap (λ t. t ++ b ∷ []) safe.flushed.1);
        told = safe.told;
        shown = safe.shown;
      }) shown none all,
    )

-- ---- what the files have

pub tells-out : (live : Bool) (old new : Option History) {text due : List ℕ} → Tells live old new text due → Appends (out_in old) (out_in new) text
tells-out live None new t = tt
tells-out live (Some h) None t = absurd t.1
tells-out live (Some h) (Some h2) {due} t =
    ap (λ (s : FileState). s.out) (now-more h t.0 t.1) ∙ (only-tells live t.0 [] due (now h) t.2).out ∙ ap (λ x. (now h).out ++ x) t.3

-- ---- what of them a run sees

kept-all : (s : FileState) (bytes : List ℕ) → (after_file_events s (map (λ b. Kept b) bytes ++ Flushed ∷ [])).kept ≡ s.kept ++ bytes
kept-all s bytes = ap (λ (t : FileState). t.kept) (after-append s (map (λ b. Kept b) bytes) (Flushed ∷ [])) ∙ (only-keeps bytes s).kept

kept-same-out : (s : FileState) (bytes : List ℕ) → (after_file_events s (map (λ b. Kept b) bytes ++ Flushed ∷ [])).out ≡ s.out
kept-same-out s bytes = ap (λ (t : FileState). t.out) (after-append s (map (λ b. Kept b) bytes) (Flushed ∷ [])) ∙ (only-keeps bytes s).out

pub kept-log : (keeps : Bool) (a b : Option History) (lines : List ℕ) → KeepsLines keeps a b lines → Appends (log_if_kept keeps a) (log_if_kept keeps b) lines
kept-log false a b lines k = tt
kept-log true None b lines k = tt
kept-log true (Some h) None lines (inl g) = absurd g
kept-log true (Some h) None lines (inr g) = absurd g.0
kept-log true (Some h) (Some h2) lines (inl g) = ap (λ (s : FileState). s.kept) (now-more h _ g) ∙ kept-all (now h) lines
kept-log true (Some h) (Some h2) lines (inr g) =
    ap (λ (s : FileState). s.kept) (now-more h [] g.0) ∙ sym (append-nil (now h).kept) ∙ ap (λ t. (now h).kept ++ t) (sym g.1)

pub front-log : (a b : Option History) (bytes : List ℕ) → Grows a b (map (λ b. Kept b) bytes) → Appends (log_if_kept true a) (log_if_kept true b) bytes
front-log None b bytes g = tt
front-log (Some h) None bytes g = absurd g
front-log (Some h) (Some h2) bytes g = ap (λ (s : FileState). s.kept) (now-more h _ g) ∙ (only-keeps bytes (now h)).kept

pub kept-out : (keeps : Bool) (a b : Option History) (lines : List ℕ) → KeepsLines keeps a b lines → Keeps (out_in a) (out_in b)
kept-out keeps None b lines k = tt
kept-out true (Some h) None lines (inl g) = absurd g
kept-out true (Some h) None lines (inr g) = absurd g.0
kept-out false (Some h) None lines g = absurd g
kept-out true (Some h) (Some h2) lines (inl g) = ap (λ (s : FileState). s.out) (now-more h _ g) ∙ kept-same-out (now h) lines
kept-out true (Some h) (Some h2) lines (inr g) = ap (λ (s : FileState). s.out) (now-more h [] g.0)
kept-out false (Some h) (Some h2) lines g = ap (λ (s : FileState). s.out) (now-more h [] g)

pub front-out : (a b : Option History) (bytes : List ℕ) → Grows a b (map (λ b. Kept b) bytes) → Keeps (out_in a) (out_in b)
front-out None b bytes g = tt
front-out (Some h) None bytes g = absurd g
front-out (Some h) (Some h2) bytes g = ap (λ (s : FileState). s.out) (now-more h _ g) ∙ (only-keeps bytes (now h)).out

pub tells-log : (keeps live : Bool) (a b : Option History) {text due : List ℕ} → Tells live a b text due → Keeps (log_if_kept keeps a) (log_if_kept keeps b)
tells-log false live a b t = tt
tells-log true live None b t = tt
tells-log true live (Some h) None t = absurd t.1
tells-log true live (Some h) (Some h2) {due} t = ap (λ (s : FileState). s.kept) (now-more h t.0 t.1) ∙ (only-tells live t.0 [] due (now h) t.2).kept

-- ---- one write and the next

pub once-told : (live : Bool) (a b : Option History) (text : List ℕ) → Grows a b (map (λ c. Told c) text) → Tells live a b text (cond live text [])
once-told live a b text g = (map (λ c. Told c) text, g, answers-told live text [], told-all text)

pub once-shown : (a b c : Option History) (text : List ℕ) → Grows a b (map (λ d. Told d) text) → Grows b c (map (λ d. Shown d) text) → Tells true a c text []
once-shown a b c text f g = (
  map (λ d. Told d) text ++ map (λ d. Shown d) text,
  grows-more a b c _ _ f g,
  answers-append true (map (λ d. Told d) text) (map (λ d. Shown d) text) [] text [] (answers-told true text [])
      (subst (λ t. Answers true (map (λ d. Shown d) text) t []) (append-nil text) (answers-shown text [])),
  told-append (map (λ d. Told d) text) (map (λ d. Shown d) text) ∙ ap (λ t. told_of (map (λ d. Told d) text) ++ t) (shown-tells-none text)
      ∙ append-nil (told_of (map (λ d. Told d) text)) ∙ told-all text,
)

pub once-torn : (a b c : Option History) (text : List ℕ) (n : ℕ) → Grows a b (map (λ d. Told d) text) → Grows b c (map (λ d. Shown d) (take n text))
    → Tells true a c text (drop n text)
once-torn a b c text n f g = (
  map (λ d. Told d) text ++ map (λ d. Shown d) (take n text),
  grows-more a b c _ _ f g,
  answers-append true (map (λ d. Told d) text) (map (λ d. Shown d) (take n text)) [] text (drop n text) (answers-told true text [])
      (subst (λ t. Answers true (map (λ d. Shown d) (take n text)) t (drop n text)) (take-append-drop n text) (answers-shown (take n text) (drop n text))),
  told-append (map (λ d. Told d) text) (map (λ d. Shown d) (take n text)) ∙ ap (λ t. told_of (map (λ d. Told d) text) ++ t) (shown-tells-none (take n text))
      ∙ append-nil (told_of (map (λ d. Told d) text)) ∙ told-all text,
)

pub match-err : {T E Q : Type 0} (P : Type 0) (r : Result T E) → IsErr r → Q → MatchResult r (λ _. P) (λ _. Q)
match-err P (Ok x) e q = absurd (cc e)
match-err P (Err x) e q = q

-- ---- bytes that are written one part after the other

map-append : (event : ℕ → FolderEvent) (xs ys : List ℕ) → map event (xs ++ ys) ≡ map event xs ++ map event ys
map-append event [] ys = refl
map-append event (x ∷ xs) ys = ap (λ t. event x ∷ t) (map-append event xs ys)

pub grows-front : (a b c : Option History) (event : ℕ → FolderEvent) (at n : ℕ) (bytes : List ℕ) → Grows a b (map event (take at bytes))
    → Grows b c (map event (take n (take (length bytes - at) (drop at bytes)))) → Grows a c (map event (take (at + n) bytes))
grows-front a b c event at n bytes f g =
    subst (Grows a c) (sym (map-append event (take at bytes) (take n (take (length bytes - at) (drop at bytes)))) ∙ ap (map event) (take-more at n bytes))
    (grows-more a b c _ _ f g)

pub grows-still : (a b c : Option History) (xs : List FolderEvent) → Grows a b xs → Grows b c [] → Grows a c xs
grows-still a b c xs f g = subst (Grows a c) (append-nil xs) (grows-more a b c xs [] f g)

pub kept-end : {T E : Type 0} (a b c : Option History) (r : Result T E) (lines : List ℕ) (at : ℕ) → length lines ≤ at → at ≤ length lines
    → Grows a b (map (λ d. Kept d) (take at lines)) → HasDone Flushed b c r → HasKept true a c r lines
kept-end a b c (Ok x) lines at l m g d = inl (subst (λ t. Grows a c (map (λ d. Kept d) t ++ Flushed ∷ [])) (take_all at lines l) (grows-more a b c _ _ g d))
kept-end a b c (Err e) lines at l m g d = (refl, at, m, grows-still a b c _ g d)

pub tells-grown : (live : Bool) (a b c : Option History) (at n : ℕ) (text due : List ℕ) → Tells live a b (take at text) []
    → Tells live b c (take n (take (length text - at) (drop at text))) due → Tells live a c (take (at + n) text) due
tells-grown live a b c at n text due f g = subst (λ t. Tells live a c t due) (take-more at n text) (tells-more live a b c f g)

pub tells-whole : (live : Bool) (a b : Option History) (at : ℕ) (text due : List ℕ) → length text ≤ at → Tells live a b (take at text) due
    → Tells live a b text due
tells-whole live a b at text due l t = subst (λ x. Tells live a b x due) (take_all at text l) t

pub tells-front : (live : Bool) (a b c : Option History) (at : ℕ) (text : List ℕ) → at ≤ length text → Tells live a b (take at text) []
    → TellsFront live b c (take (length text - at) (drop at text)) → TellsFront live a c text
tells-front live a b c at text l f (n, m, due, t) = (at + n, more-bound at n text l m, due, tells-grown live a b c at n text due f t)

-- ---- what a run does between its pieces

-- what was kept and told is as it was
abbrev pub IsStill : Option History → Option History → Type 0
IsStill a b = Keeps (kept_in a) (kept_in b) × Keeps (out_in a) (out_in b)

pub still-by : (a b : Option History) (es : List FolderEvent) → Grows a b es → ((s : FileState) → ((after_file_events s es).kept ≡ s.kept) × ((after_file_events s es).out ≡ s.out))
    → IsStill a b
still-by None b es g h = (tt, tt)
still-by (Some x) None es g h = absurd g
still-by (Some x) (Some y) es g h =
    let e = now-more x es g in
    (ap (λ (s : FileState). s.kept) e ∙ (h (now x)).0, ap (λ (s : FileState). s.out) e ∙ (h (now x)).1)

pub still-none : (a b : Option History) → Grows a b [] → IsStill a b
still-none a b g = still-by a b [] g (λ s. (refl, refl))

pub still-flushed : (a b : Option History) → Grows a b (Flushed ∷ []) → IsStill a b
still-flushed a b g = still-by a b (Flushed ∷ []) g (λ s. (refl, refl))
