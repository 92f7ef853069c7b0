-- What a run has answered, from its start to its end.
use Rattle.rubis_keep.proofs.Common.{◌≡◌, ◌∙◌, ◌<◌, ◌+◌, ◌⊎◌, inl, inr, ◌++◌, ◌∷◌, [], ℕ, true, false, List, Option, Some, None, IfSome, length, refl}
use Rattle.rubis_keep.proofs.Common.{sym, ap, subst, arith, append_assoc, length-append, append-nil, Appends, Consumes, IsAtEnd, Keeps, Message}
use Rattle.rubis_keep.proofs.Common.{Place, KeyedSite, Account, AtEnd, input_records, keyed_account}
use Rattle.rubis_keys.specs.Keys.{keyed_answers}
use Rattle.rubis_engine.specs.Accounts.{Ending}
use Rattle.rubis_engine.specs.Accounts.Ending.{Cut}
use Rattle.rubis_keep.specs.Turns.{Answering, Fed, IsCause, HoldsNothing, IsPutOver, IsUnlike, PutsFront, PutsOver, still_to_put, Standing, left_to_read, with_held}
use Rattle.rubis_keep.specs.Faults.{HasMore, IsTrueFault, TellsLine, of_kept}
use Rattle.rubis_keep.specs.History.{History, log_if_kept, out_in, Ended, IsFrontOf, Lived}
use Rattle.rubis_keep.specs.Lines.{HasSoundLines, begun_after, is_marked, kept_after, kept_of_input, read_back, whole_after, whole_lines, HasWholeRecords}
use Rattle.rubis_keep.specs.Lives.{HasAnsweredKept, HasReplayed}
use Rattle.rubis_keep.specs.Shortened.{state_after}
use Rattle.rubis_keep.specs.declared.fault.Difference.{Difference}
use Rattle.rubis_keep.specs.declared.fault.KeepFault.{KeepFault}
use Rattle.rubis_keep.specs.declared.fault.KeepFault.TheVariants as fault
use Rattle.rubis_keep.proofs.DifferenceFacts.{line-end, line-later, more-left}
use Rattle.rubis_keep.proofs.HistoryFacts.{consumes-none}
use Rattle.rubis_keep.specs.Outlets.{none-right}
use Rattle.rubis_keep.proofs.LineFacts.{begun-append, kept-append}
use Rattle.rubis_keep.proofs.SoundFacts.{none-read, none-whole, records-append, kept-ends, kept-sound, sound-append, sound-back, sound-front, sound-kept}
use Rattle.rubis_keep.proofs.SoundFacts.{whole-append-after, whole-ends, whole-rest, whole-sound, kept-whole, whole-append}
use Rattle.rubis_keep.proofs.ShortenFacts.{after-append}
use Rattle.rubis_keep.proofs.TurnFacts.{Fell, Went}

-- ---- what is answered

-- a site that holds nothing answers no records with nothing
pub coming-none : (a : Answering) (e : Ending) → HoldsNothing a → still_to_put a e [] ≡ []
unfolding keyed_answers
coming-none a e idle = rw (idle.window, idle.empty) refl

-- nothing is answered yet
pub answered-none : (a : Answering) → HoldsNothing a → a.answered ≡ 0 → HasAnsweredKept (keyed_account a.place a.state 1) a.place a.state a [] []
answered-none a idle none = record {
  text = λ e m. ap (λ t. (keyed_account a.place a.state 1).text e (t ++ m)) none-read ∙ rw (idle.window, idle.empty, none) refl;
  place = refl;
  state = sym (ap (state_after a.place a.state) none-read);
  count = none ∙ sym (ap (λ (r : List (List (List ℕ))). length r) none-read);
  whole = none-whole;
  idle = idle;
}

pub answered-more : {all : Account} {p : Place} {s : KeyedSite} {a b : Answering} {told kept chunk text added : List ℕ} → HasAnsweredKept all p s a told kept
    → Fed (input_records chunk) a b text added → HasWholeRecords chunk → HoldsNothing b → HasAnsweredKept all p s b (told ++ text) (kept ++ chunk)
answered-more {all} {p} {s} {a} {b} {told} {kept} {chunk} {text} h f whole idle =
    let records = records-append chunk h.whole whole.unmarked in
    let size = length-append (input_records kept) (input_records chunk) in
    let many = ap (λ (r : List (List (List ℕ))). length r) records in
    record {
      text = λ e m. ap (λ r. all.text e (r ++ m)) records ∙ ap (all.text e) (append_assoc (input_records kept) (input_records chunk) m)
          ∙ h.text e (input_records chunk ++ m) ∙ ap (λ t. told ++ t) (f.says e m) ∙ sym (append_assoc told text (still_to_put b e m));
      place = f.place ∙ h.place;
      state = sym (ap (state_at b) idle.window) ∙ f.state ∙ ap (λ t. state_after a.place t (input_records chunk)) (ap (state_at a) h.idle.window)
          ∙ (λ i. state_after (h.place i) (h.state i) (input_records chunk)) ∙ sym (after-append true p s (input_records kept) (input_records chunk))
          ∙ ap (state_after p s) (sym records);
      count = omega (arith, h.count, f.count, size, many);
      whole = whole-append h.whole whole;
      idle = idle;
    }
  where
    state_at : (x : Answering) → List Message → KeyedSite
    state_at x held = with_held x.place x.state held

-- what was told begins the text of what is kept, whatever follows
pub answered-front : {all : Account} {p : Place} {s : KeyedSite} {a : Answering} {told kept : List ℕ} → HasAnsweredKept all p s a told kept
    → (more : List (List (List ℕ))) → IsFrontOf told (all.text AtEnd (input_records kept ++ more))
answered-front {a} h more = (still_to_put a AtEnd more, sym (h.text AtEnd more))

-- all that is kept is answered so, and nothing more
pub answered-text : {all : Account} {p : Place} {s : KeyedSite} {a : Answering} {told kept : List ℕ} (e : Ending) → HasAnsweredKept all p s a told kept
    → all.text e (input_records kept) ≡ told
answered-text {all} {a} {told} {kept} e h =
    ap (all.text e) (sym (append-nil (input_records kept))) ∙ h.text e [] ∙ ap (λ t. told ++ t) (coming-none a e h.idle) ∙ append-nil told

-- ---- what was kept is answered again

pub at-end : (input : List ℕ) (later : Option (List ℕ)) (bytes : List ℕ) → Consumes (Some input) later bytes → IsAtEnd later → bytes ≡ input
at-end input None bytes c e = absurd c
at-end input (Some rest) bytes c e = sym (c ∙ ap (λ t. bytes ++ t) e ∙ append-nil bytes)

known : (xs : List ℕ) (out : Option (List ℕ)) (added : List ℕ) → Appends (Some xs) out added → out ≡ Some (xs ++ added)
known xs None added a = absurd a
known xs (Some ys) added a = ap (λ t. Some t) a

pub same-known : {xs : List ℕ} (a b : Option (List ℕ)) → a ≡ Some xs → Keeps a b → b ≡ Some xs
same-known None b e k = absurd (cc e)
same-known (Some xs) None e k = absurd k
same-known (Some xs) (Some ys) e k = ap (λ t. Some t) k ∙ e

-- a run that began so: what is kept is what is read, the answers of before are what stands there, and no record is answered
pub record IsFresh (kept old : List ℕ) (x : Standing) : Type 0 where
  pub input : x.input ≡ Some kept
  pub before : x.at.before ≡ Some old
  pub out : out_in x.history ≡ Some old
  pub begun : x.begun ≡ []
  pub len : x.kept ≡ 0
  pub answered : x.at.answered ≡ 0
  pub uncounted : x.at.lines ≡ 0
  pub idle : HoldsNothing x.at
  pub sound : HasSoundLines [] kept

abbrev pub account_of : Standing → Account
account_of x = keyed_account x.at.place x.at.state 1

-- some first lines of it are answered, and then all of them
record Front (kept : List ℕ) (bytes chunk rest : List ℕ) : Type 0 where
  lines : whole_lines kept ≡ chunk ++ kept_after false (begun_after [] bytes) rest
  records : input_records (whole_lines kept) ≡ input_records chunk ++ input_records (kept_after false (begun_after [] bytes) rest)

front-lines : (kept bytes rest : List ℕ) {chunk : List ℕ} → HasSoundLines [] kept → kept ≡ bytes ++ rest → chunk ≡ kept_after false [] bytes
    → Front kept bytes chunk rest
front-lines kept bytes rest {chunk} sound parts holds =
    let later = kept_after false (begun_after [] bytes) rest in
    let lines : whole_lines kept ≡ chunk ++ later =
    sym (sound-kept [] kept sound) ∙ ap read_back parts ∙ kept-append false [] bytes rest ∙ ap (λ t. t ++ later) (sym holds) in
    record {
      lines = lines;
      records = ap input_records lines
          ∙ records-append later (subst HasWholeRecords (sym holds) (kept-whole false [] bytes)) (kept-whole false (begun_after [] bytes) rest).unmarked;
    }

-- what was put of it over what stood there
put-of : {x y : Standing} {kept old : List ℕ} → IsFresh kept old x → (w : Went false x y)
    → (left : List ℕ) × (y.at.before ≡ Some left) × IsPutOver old left w.added w.text
put-of {x} {y} {kept} {old} fresh w = rw fresh.before at w.fed.put

-- all of it is answered, and its answers were found
pub replayed : {x y : Standing} {kept old : List ℕ} (before : Option (List ℕ)) → IsFresh kept old x → (w : Went false x y) → HoldsNothing y.at → IsAtEnd y.input
    → Keeps y.at.before before → IsAtEnd before
    → HasReplayed (account_of x) x.at.place x.at.state (record y.at { before = before }) kept old (out_in y.history) y.kept
replayed {x} {y} {kept} {old} before fresh w idle end same none =
    let all = account_of x in
    let bytes_are : w.bytes ≡ kept = at-end kept y.input w.bytes (rw fresh.input at w.taken) end in
    let chunk_is : w.chunk ≡ whole_lines kept = (w.cuts [] fresh.begun).1 ∙ ap (kept_after false []) bytes_are ∙ sound-kept [] kept fresh.sound in
    let answered = answered-more (answered-none x.at fresh.idle fresh.answered) w.fed w.whole idle in
    let h : HasAnsweredKept all x.at.place x.at.state y.at w.text (whole_lines kept) = subst (HasAnsweredKept all x.at.place x.at.state y.at w.text) chunk_is answered in
    let put = put-of fresh w in
    let left_is : before ≡ Some put.0 = same-known y.at.before before put.1 same in
    let left : put.0 ≡ [] = rw left_is at none in
    let all_found : old ++ w.added ≡ w.text = put.2.0 ∙ ap (λ t. w.text ++ t) left ∙ append-nil w.text in
    let size = ap (λ (t : List ℕ). length t) chunk_is in
    record {
      found = (w.added, all_found ∙ sym (answered-text AtEnd h));
      told = w.text;
      answered = record { text = h.text; place = h.place; state = h.state; count = h.count; whole = h.whole; idle = record { window = h.idle.window; empty = h.idle.empty; within = h.idle.within } };
      before_is = left_is ∙ ap (λ t. Some t) left;
      out_is = known old (out_in y.history) w.added (rw fresh.out at w.out) ∙ ap (λ t. Some t) all_found;
      length_is = omega (arith, w.length_is, fresh.len, size);
    }

-- ---- a fault came before

abbrev Beginning : Account → List ℕ → List ℕ → Type 0
Beginning all kept told = (more : List (List (List ℕ))) → IsFrontOf told (all.text AtEnd (input_records (whole_lines kept) ++ more))

-- the files are as they were, but for what was told
pub ended-same : (all : Account) (kept old told : List ℕ) (input : Option (List ℕ)) {out : Option (List ℕ)} → out ≡ Some told
    → (told ≡ old) ⊎ (HasSoundLines [] kept × IsFrontOf old (all.text AtEnd (input_records (whole_lines kept))) × Beginning all kept told)
    → Ended all kept old input input (Some kept) out
ended-same all kept old told input e answers = record {
  kept = kept;
  told = told;
  bytes = [];
  log_is = refl;
  out_is = e;
  taken = consumes-none input;
  sound = λ s. s;
  grows = inl refl;
  answers = elim answers [ inl same ↦ inl (refl, same) | inr found ↦ inr found ];
}

pub ended-unread : (all : Account) (kept old : List ℕ) (input : Option (List ℕ)) → Ended all kept old input input (Some kept) (Some old)
ended-unread all kept old input = ended-same all kept old old input refl (inl refl)

-- what was added over the answers of before begins the text of all that was kept
ended-front : (all : Account) (kept old added : List ℕ) (input : Option (List ℕ)) {out : Option (List ℕ)} → HasSoundLines [] kept → out ≡ Some (old ++ added)
    → (added ≡ []) ⊎ Beginning all kept (old ++ added) → Ended all kept old input input (Some kept) out
ended-front all kept old added input sound e (inl none) =
    ended-same all kept old (old ++ added) input e (inl (ap (λ t. old ++ t) none ∙ append-nil old))
ended-front all kept old added input sound e (inr begins) =
    let b = begins [] in
    ended-same all kept old (old ++ added) input e (inr (
      sound,
      (added ++ b.0, sym (append_assoc old added b.0) ∙ b.1 ∙ ap (all.text AtEnd) (append-nil (input_records (whole_lines kept)))),
      begins,
    ))

-- a site on which nothing is answered is to say all
fresh-text : {kept old : List ℕ} {x : Standing} → IsFresh kept old x → (e : Ending) (more : List (List (List ℕ))) → still_to_put x.at e more ≡ (account_of x).text e more
fresh-text fresh e more = rw (fresh.idle.window, fresh.idle.empty, fresh.answered) refl

-- nothing was added, or this holds of each text that may follow
uniform : (old added : List ℕ) (text : List (List (List ℕ)) → List ℕ)
    → ((more : List (List (List ℕ))) → (added ≡ []) ⊎ IsFrontOf (old ++ added) (text more))
    → (added ≡ []) ⊎ ((more : List (List (List ℕ))) → IsFrontOf (old ++ added) (text more))
uniform old [] text h = inl refl
uniform old (b ∷ added) text h = inr (λ more. only more (h more))
  where
    only : (more : List (List (List ℕ))) → (b ∷ added ≡ []) ⊎ IsFrontOf (old ++ (b ∷ added)) (text more) → IsFrontOf (old ++ (b ∷ added)) (text more)
    only more (inl none) = absurd (cc none)
    only more (inr front) = front

-- what was read of what was kept is its beginning
read-of : {x : Standing} {kept old : List ℕ} (later : Option (List ℕ)) (bytes next : List ℕ) → IsFresh kept old x → Consumes x.input later (bytes ++ next)
    → (rest : List ℕ) × (kept ≡ bytes ++ rest)
read-of {x} {kept} later bytes next fresh taken = go later (rw fresh.input at taken)
  where
    go : (later : Option (List ℕ)) → Consumes (Some kept) later (bytes ++ next) → (rest : List ℕ) × (kept ≡ bytes ++ rest)
    go None c = absurd c
    go (Some rest) c = (next ++ rest, c ∙ append_assoc bytes next rest)

front-of : {x : Standing} {kept old : List ℕ} {past2 : Option (List ℕ)} {history2 : Option History} {e : KeepFault} → IsFresh kept old x
    → (f : Fell false x past2 history2 e) → (rest : List ℕ) × Front kept f.bytes f.chunk rest
front-of {x} {kept} {old} {past2} fresh f =
    let r = read-of past2 f.bytes f.next fresh f.taken in
    (r.0, front-lines kept f.bytes r.0 fresh.sound r.1 (f.cuts [] fresh.begun).0)

-- what was added begins the text of all that was kept, whatever follows
pub replay-begins : {x : Standing} {kept old : List ℕ} {past2 : Option (List ℕ)} {history2 : Option History} {e : KeepFault} → IsFresh kept old x
    → (f : Fell false x past2 history2 e) (more : List (List (List ℕ)))
    → (f.added ≡ []) ⊎ IsFrontOf (old ++ f.added) ((account_of x).text AtEnd (input_records (whole_lines kept) ++ more))
replay-begins {x} {kept} {old} fresh f more =
    let front = front-of fresh f in
    let later = input_records (kept_after false (begun_after [] f.bytes) front.0) in
    subst (PutsFront (Some old) f.added) (fresh-text fresh AtEnd (input_records f.chunk ++ (later ++ more))
    ∙ ap ((account_of x).text AtEnd) (sym (append_assoc (input_records f.chunk) later more) ∙ ap (λ r. r ++ more) (sym front.1.records)))
    (subst (λ o. PutsFront o f.added (still_to_put x.at AtEnd (input_records f.chunk ++ (later ++ more)))) fresh.before (f.stopped.begins (later ++ more)))

pub ended-replay : {x : Standing} {kept old : List ℕ} {past2 : Option (List ℕ)} (history2 : Option History) (input : Option (List ℕ)) {e : KeepFault}
    → IsFresh kept old x → Fell false x past2 history2 e → Ended (account_of x) kept old input input (Some kept) (out_in history2)
ended-replay {x} {kept} {old} history2 input fresh f =
    ended-front (account_of x) kept old f.added input fresh.sound (known old (out_in history2) f.added (rw fresh.out at f.out))
    (uniform old f.added (λ more. (account_of x).text AtEnd (input_records (whole_lines kept) ++ more)) (replay-begins fresh f))

-- it has its cause in what was kept
pub true-replay : {x : Standing} {kept old : List ℕ} (past2 : Option (List ℕ)) (history2 : Option History) (e : KeepFault) → IsFresh kept old x
    → Fell false x past2 history2 e → IsTrueFault x.at.limit (account_of x) kept old [] (of_kept e)
true-replay {x} {kept} {old} past2 history2 e fresh f = go e f.stopped.cause
  where
    front : (rest : List ℕ) × Front kept f.bytes f.chunk rest
    front = front-of fresh f

    later : List (List (List ℕ))
    later = input_records (kept_after false (begun_after [] f.bytes) front.0)

    text : List ℕ
    text = (account_of x).text AtEnd (input_records (whole_lines kept))

    unlike : (d : Difference) → IsUnlike (Some old) 0 (still_to_put x.at AtEnd (input_records f.chunk ++ later)) d → (IsFrontOf old text → ⊥) × TellsLine old text 0 d
    unlike d h = subst (λ t. (IsFrontOf old t → ⊥) × TellsLine old t 0 d) (append-nil (still_to_put x.at AtEnd (input_records f.chunk ++ later))
        ∙ fresh-text fresh AtEnd (input_records f.chunk ++ later) ∙ ap ((account_of x).text AtEnd) (sym front.1.records)) (h [])

    many : x.at.limit < x.at.answered + length (input_records f.chunk) → x.at.limit < length (input_records (whole_lines kept ++ []))
    many l =
        let none = ap (λ (t : List ℕ). length (input_records t)) (append-nil (whole_lines kept)) in
        let size = ap (λ (r : List (List (List ℕ))). length r) front.1.records in
        let size2 = length-append (input_records f.chunk) later in
        omega (arith, l, fresh.answered, none, size, size2)

    go : (e : KeepFault) → IsCause (input_records f.chunk) x.at e → IsTrueFault x.at.limit (account_of x) kept old [] (of_kept e)
    go (fault.Differs d) h = unlike d (rw (fresh.before, fresh.uncounted) at h later)
    go fault.TooLong h = many h
    go (fault.Edited n) h = absurd h
    go e h = tt

-- more stands there of before than the answers
pub true-left : {x y : Standing} {kept old : List ℕ} (d : Difference) → IsFresh kept old x → (w : Went false x y) → HoldsNothing y.at → IsAtEnd y.input
    → IfSome y.at.before (λ left. HasMore left y.at.lines d)
    → (IsFrontOf old ((account_of x).text AtEnd (input_records (whole_lines kept))) → ⊥)
    × TellsLine old ((account_of x).text AtEnd (input_records (whole_lines kept))) 0 d
true-left {x} {y} {kept} {old} d fresh w idle end there =
    let put = put-of fresh w in
    let more = subst (λ o. IfSome o (λ left. HasMore left y.at.lines d)) put.1 there in
    let bytes_are : w.bytes ≡ kept = at-end kept y.input w.bytes (rw fresh.input at w.taken) end in
    let chunk_is : w.chunk ≡ whole_lines kept = (w.cuts [] fresh.begun).1 ∙ ap (kept_after false []) bytes_are ∙ sound-kept [] kept fresh.sound in
    let h = answered-more (answered-none x.at fresh.idle fresh.answered) w.fed w.whole idle in
    let text : (account_of x).text AtEnd (input_records (whole_lines kept)) ≡ w.text = ap (λ k. (account_of x).text AtEnd (input_records k)) (sym chunk_is)
    ∙ answered-text AtEnd h in
    subst (λ t. (IsFrontOf old t → ⊥) × TellsLine old t 0 d) (sym text) (only put.0 more put.2.0 put.2.1)
  where
    behind : (xs ys zs : List ℕ) → (ys ≡ [] → ⊥) → (xs ++ ys) ++ zs ≡ xs → ⊥
    behind [] [] zs some e = some refl
    behind [] (y ∷ ys) zs some e = cc e
    behind (x ∷ xs) ys zs some e = behind xs ys zs some (cc e)

    only : (left : List ℕ) → HasMore left y.at.lines d → old ++ w.added ≡ w.text ++ left → (w.added ≡ []) ⊎ (left ≡ [])
        → (IsFrontOf old w.text → ⊥) × TellsLine old w.text 0 d
    only left more e (inr none) = absurd (more-left more none)
    only left more e (inl none) =
        let old_is : old ≡ w.text ++ left = sym (append-nil old) ∙ ap (λ t. old ++ t) (sym none) ∙ e in
        let line = line-later w.text left [] x.at.lines y.at.lines d (w.fed.counted none) (line-end more.came left y.at.lines d more.tells.line) in (
          λ (rest, f). behind w.text left rest (more-left more) (ap (λ t. t ++ rest) (sym old_is) ∙ f),
          subst (λ n. TellsLine old w.text n d) fresh.uncounted (subst (λ o. TellsLine o w.text x.at.lines d) (sym old_is)
              (subst (λ t. TellsLine (w.text ++ left) t x.at.lines d) (append-nil w.text) line)),
        )

-- ---- new records come

-- a run that begins so: the lines of `kept` are answered, and their answers are told
pub record IsReady (all : Account) (p : Place) (s : KeyedSite) (kept told : List ℕ) (input : Option (List ℕ)) (z : Standing) : Type 0 where
  pub answered : HasAnsweredKept all p s z.at told (whole_lines kept)
  pub before : z.at.before ≡ Some []
  pub input_is : z.input ≡ input
  pub log : log_if_kept true z.history ≡ Some (whole_lines kept)
  pub out : out_in z.history ≡ Some told
  pub begun : z.begun ≡ []
  pub sound : HasSoundLines [] kept

-- what is read of an input and not looked at was read of it
pub read-too : (input input2 : Option (List ℕ)) (bytes unread : List ℕ) → Consumes input (left_to_read unread input2) bytes → Consumes input input2 (bytes ++ unread)
read-too None input2 bytes unread c = tt
read-too (Some xs) None bytes unread c = absurd c
read-too (Some xs) (Some ys) bytes unread c = c ∙ sym (append_assoc bytes unread ys)

at-end-too : (input : Option (List ℕ)) (unread : List ℕ) → IsAtEnd (left_to_read unread input) → IsAtEnd input
at-end-too None unread e = tt
at-end-too (Some xs) unread e = none-right unread xs e

pub read-all : (input input2 : Option (List ℕ)) (bytes unread : List ℕ) → IsAtEnd (left_to_read unread input2) → Consumes input (left_to_read unread input2) bytes
    → Consumes input input2 bytes
read-all None input2 bytes unread e c = tt
read-all (Some xs) None bytes unread e c = absurd c
read-all (Some xs) (Some ys) bytes unread e c = c ∙ ap (λ t. bytes ++ t) (e ∙ sym (none-right unread ys e))

-- nothing is left of before, so all that was put was added
pub all-added : (x y : Option (List ℕ)) (added text : List ℕ) → x ≡ Some [] → PutsOver x y added text → (added ≡ text) × (y ≡ Some [])
all-added x y added text none put = go (rw none at put)
  where
    left-none : (left : List ℕ) → added ≡ text ++ left → (added ≡ []) ⊎ (left ≡ []) → left ≡ []
    left-none left e (inl empty) = none-right text left (sym e ∙ empty)
    left-none left e (inr empty) = empty

    go : (left : List ℕ) × (y ≡ Some left) × IsPutOver [] left added text → (added ≡ text) × (y ≡ Some [])
    go (left, is, (e, one)) =
        let empty = left-none left e one in
        (e ∙ ap (λ t. text ++ t) empty ∙ append-nil text, is ∙ ap (λ t. Some t) empty)

pub lived : {all : Account} {p : Place} {s : KeyedSite} {kept told : List ℕ} (old : List ℕ) {input : Option (List ℕ)} (input2 : Option (List ℕ)) (unread : List ℕ)
    {z y : Standing} → IsReady all p s kept told input z → Went true z y → HoldsNothing y.at → y.input ≡ left_to_read unread input2 → IsAtEnd y.input
    → IsFrontOf old (all.text AtEnd (input_records (whole_lines kept))) → Lived all kept old input input2 (log_if_kept true y.history) (out_in y.history)
lived {all} {p} {s} {kept} {told} old {input} input2 unread {z} {y} ready w idle is end found =
    let chunk_is : w.chunk ≡ kept_of_input w.bytes = (w.cuts [] ready.begun).1 in
    let h0 = answered-more ready.answered w.fed w.whole idle in
    let h : HasAnsweredKept all p s y.at (told ++ w.text) (whole_lines kept ++ kept_of_input w.bytes) = subst (λ c. HasAnsweredKept all p s y.at (told ++ w.text) (whole_lines kept ++ c)) chunk_is h0 in
    let added = all-added z.at.before y.at.before w.added w.text ready.before w.fed.put in
    let text = answered-text Cut h in
    record {
      sound = ready.sound;
      found = found;
      bytes = w.bytes;
      taken = read-all input input2 w.bytes unread (subst IsAtEnd is end)
          (subst (λ i. Consumes i (left_to_read unread input2) w.bytes) ready.input_is (subst (λ i. Consumes z.input i w.bytes) is w.taken));
      end = at-end-too input2 unread (subst IsAtEnd is end);
      log_is = known (whole_lines kept) (log_if_kept true y.history) w.chunk (rw ready.log at w.log) ∙ ap (λ c. Some (whole_lines kept ++ c)) chunk_is;
      out_is = known told (out_in y.history) w.added (rw ready.out at w.out) ∙ ap (λ t. Some (told ++ t)) added.0 ∙ ap (λ t. Some t) (sym text);
      begins = λ m. let f = answered-front h m in (f.0, ap (λ t. t ++ f.0) text ∙ f.1);
    }

-- a fault came
pub ended-live : {all : Account} {p : Place} {s : KeyedSite} {kept told : List ℕ} (old : List ℕ) {input : Option (List ℕ)} (input2 : Option (List ℕ))
    (unread : List ℕ) (history2 : Option History) {z : Standing} {e : KeepFault} → IsReady all p s kept told input z
    → Fell true z (left_to_read unread input2) history2 e → IsFrontOf old (all.text AtEnd (input_records (whole_lines kept)))
    → Ended all kept old input input2 (log_if_kept true history2) (out_in history2)
ended-live {all} {p} {s} {kept} {told} old {input} input2 unread history2 {z} {e} ready f found = record {
  kept = whole_lines kept ++ tail;
  told = told ++ f.added;
  bytes = bytes ++ unread;
  log_is = known (whole_lines kept) (log_if_kept true history2) tail (rw ready.log at f.log);
  out_is = known told (out_in history2) f.added (rw ready.out at f.out);
  taken = read-too input input2 bytes unread (subst (λ i. Consumes i (left_to_read unread input2) bytes) ready.input_is f.taken);
  sound = λ s. sound_now;
  grows = inr (
    (tail, refl),
    (
      lost ++ kept_after true (begun_after [] bytes) unread,
      append_assoc (whole_lines kept) tail (lost ++ kept_after true (begun_after [] bytes) unread)
          ∙ ap (λ t. whole_lines kept ++ t) (sym (append_assoc tail lost (kept_after true (begun_after [] bytes) unread))
          ∙ ap (λ t. t ++ kept_after true (begun_after [] bytes) unread) parts ∙ sym (kept-append true [] bytes unread)),
    ),
  );
  answers = inr (ready.sound, found, begins);
}
  where
    bytes : List ℕ
    bytes = f.bytes ++ f.next

    tail : List ℕ
    tail = f.chunk ++ f.torn

    cut : (f.chunk ≡ kept_after true [] f.bytes) × IsFrontOf f.torn (kept_after true (begun_after [] f.bytes) f.next)
    cut = f.cuts [] ready.begun

    lost : List ℕ
    lost = cut.1.0

    parts : tail ++ lost ≡ kept_of_input bytes
    parts = append_assoc f.chunk f.torn lost ∙ (λ i. cut.0 i ++ cut.1.1 i) ∙ sym (kept-append true [] f.bytes f.next)

    tail_sound : HasSoundLines [] tail
    tail_sound = sound-front [] tail lost (subst (HasSoundLines []) (sym parts) (kept-sound bytes))

    sound_now : HasSoundLines [] (whole_lines kept ++ tail)
    sound_now = sound-append [] (whole_lines kept) tail (whole-sound kept ready.sound)
        (subst (λ l. HasSoundLines l tail) (sym (whole-ends kept ready.sound)) tail_sound)

    chunk_ends : begun_after [] f.chunk ≡ []
    chunk_ends = ap (begun_after []) cut.0 ∙ kept-ends f.bytes

    torn_sound : HasSoundLines [] f.torn
    torn_sound = subst (λ l. HasSoundLines l f.torn) chunk_ends (sound-back [] f.chunk f.torn tail_sound)

    front_ends : begun_after [] (whole_lines kept ++ f.chunk) ≡ []
    front_ends = begun-append [] (whole_lines kept) f.chunk ∙ ap (λ s. begun_after s f.chunk) (whole-ends kept ready.sound) ∙ chunk_ends

    front_lines : whole_lines (whole_lines kept ++ f.chunk) ≡ whole_lines kept ++ f.chunk
    front_lines = sym (append-nil (whole_lines (whole_lines kept ++ f.chunk))) ∙ ap (λ t. whole_lines (whole_lines kept ++ f.chunk) ++ t) (sym front_ends)
        ∙ whole-rest [] (whole_lines kept ++ f.chunk)

    lines : whole_lines (whole_lines kept ++ tail) ≡ (whole_lines kept ++ f.chunk) ++ whole_lines f.torn
    lines = ap whole_lines (sym (append_assoc (whole_lines kept) f.chunk f.torn)) ∙ whole-append-after [] (whole_lines kept ++ f.chunk) f.torn
        ∙ (λ i. front_lines i ++ whole_after (front_ends i) f.torn)

    records : input_records (whole_lines (whole_lines kept ++ tail)) ≡ input_records (whole_lines kept) ++ (input_records f.chunk ++ input_records (whole_lines f.torn))
    records = ap input_records lines
        ∙ records-append (whole_lines f.torn) (whole-append ready.answered.whole f.whole)
        (subst (λ t. is_marked t ≡ false) (sound-kept [] f.torn torn_sound) (kept-whole false [] f.torn).unmarked)
        ∙ ap (λ r. r ++ input_records (whole_lines f.torn)) (records-append f.chunk ready.answered.whole f.whole.unmarked)
        ∙ append_assoc (input_records (whole_lines kept)) (input_records f.chunk) (input_records (whole_lines f.torn))

    added-front : (more : List (List (List ℕ))) → IsFrontOf f.added (still_to_put z.at AtEnd (input_records f.chunk ++ more))
    added-front more = go (rw ready.before at (f.stopped.begins more))
      where
        go : (f.added ≡ []) ⊎ IsFrontOf ([] ++ f.added) (still_to_put z.at AtEnd (input_records f.chunk ++ more))
            → IsFrontOf f.added (still_to_put z.at AtEnd (input_records f.chunk ++ more))
        go (inl none) = (still_to_put z.at AtEnd (input_records f.chunk ++ more), ap (λ t. t ++ still_to_put z.at AtEnd (input_records f.chunk ++ more)) none)
        go (inr front) = front

    begins : (more : List (List (List ℕ))) → IsFrontOf (told ++ f.added) (all.text AtEnd (input_records (whole_lines (whole_lines kept ++ tail)) ++ more))
    begins more =
        let later = input_records (whole_lines f.torn) ++ more in
        let b = added-front later in (
          b.0,
          append_assoc told f.added b.0 ∙ ap (λ t. told ++ t) b.1 ∙ sym (ready.answered.text AtEnd (input_records f.chunk ++ later))
              ∙ ap (all.text AtEnd) (ap (λ t. input_records (whole_lines kept) ++ t)
              (sym (append_assoc (input_records f.chunk) (input_records (whole_lines f.torn)) more))
              ∙ sym (append_assoc (input_records (whole_lines kept)) (input_records f.chunk ++ input_records (whole_lines f.torn)) more)
              ∙ ap (λ r. r ++ more) (sym records)),
        )

-- it has its cause in what was kept and came
pub true-live : {all : Account} {p : Place} {s : KeyedSite} {kept told : List ℕ} (old : List ℕ) {input : Option (List ℕ)} (input2 : Option (List ℕ))
    (unread : List ℕ) (history2 : Option History) {z : Standing} (e : KeepFault) → IsReady all p s kept told input z
    → (f : Fell true z (left_to_read unread input2) history2 e) → IsTrueFault z.at.limit all kept old ((f.bytes ++ f.next) ++ unread) e
true-live {all} {p} {s} {kept} {told} old {input} input2 unread history2 {z} e ready f = go e f.stopped.cause
  where
    unlike : (lines : ℕ) (text : List ℕ) (d : Difference) → IsUnlike (Some []) lines text d → ⊥
    unlike lines text d h = (h []).0 (text ++ [], refl)

    many : z.at.limit < z.at.answered + length (input_records f.chunk)
        → z.at.limit < length (input_records (whole_lines kept ++ kept_of_input ((f.bytes ++ f.next) ++ unread)))
    many l =
        let cut = f.cuts [] ready.begun in
        let later = kept_after true (begun_after [] f.bytes) (f.next ++ unread) in
        let lines : kept_of_input ((f.bytes ++ f.next) ++ unread) ≡ f.chunk ++ later =
        ap kept_of_input (append_assoc f.bytes f.next unread) ∙ kept-append true [] f.bytes (f.next ++ unread) ∙ ap (λ t. t ++ later) (sym cut.0) in
        let records = ap (λ (t : List ℕ). length (input_records (whole_lines kept ++ t))) lines in
        let first = ap (λ (r : List (List (List ℕ))). length r)
        (ap input_records (sym (append_assoc (whole_lines kept) f.chunk later))
        ∙ records-append later (whole-append ready.answered.whole f.whole) (kept-whole true (begun_after [] f.bytes) (f.next ++ unread)).unmarked
        ∙ ap (λ r. r ++ input_records later) (records-append f.chunk ready.answered.whole f.whole.unmarked)) in
        let size = length-append (input_records (whole_lines kept) ++ input_records f.chunk) (input_records later) in
        let size2 = length-append (input_records (whole_lines kept)) (input_records f.chunk) in
        omega (arith, l, ready.answered.count, records, first, size, size2)

    go : (e : KeepFault) → IsCause (input_records f.chunk) z.at e → IsTrueFault z.at.limit all kept old ((f.bytes ++ f.next) ++ unread) e
    go (fault.Differs d) h = absurd (unlike z.at.lines (still_to_put z.at AtEnd (input_records f.chunk ++ [])) d (rw ready.before at h []))
    go fault.TooLong h = many h
    go (fault.Edited n) h = absurd h
    go e h = tt
