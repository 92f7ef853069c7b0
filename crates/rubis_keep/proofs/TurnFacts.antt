-- How a run goes on, turn by turn, and what has come of its turns.
use Rattle.rubis_keep.proofs.Common.{◌≡◌, ◌∙◌, ◌≤◌, ◌+◌, ◌⊎◌, inl, inr, ◌++◌, ◌∷◌, [], ℕ, Bool, true, false, List, Option, Some, None, cond, drop}
use Rattle.rubis_keep.proofs.Common.{length, map, refl, take, take-append-drop, sym, ap, subst, arith, length-append, append-nil, Appends, Consumes}
use Rattle.rubis_keep.proofs.Common.{IsAtEnd, Keeps, Place, KeyedSite, appends-more, appends-none, input_records}
use Rattle.rubis_engine.proofs.RunFacts.{front-kept as appends-kept}
use Rattle.rubis_keep.specs.Telling.{grows-none, tells-more, tells-none}
use Rattle.rubis_keep.specs.Turns.{Answering, Fed, HasFed, HasStopped, HoldsNothing, Stopped, clerk_at, Answered, Breaks, Broke, Ends, IsAtRest, IsLineBegun, TakesLines, Standing}
use Rattle.rubis_keep.specs.Turns.{Torn, Turn, Turns, Unanswered, Unreplied, last, replied_to, with_held}
use Rattle.rubis_keep.specs.Questions.{IsUnmoved, AreListed}
use Rattle.rubis_keep.specs.Faults.{IsFailure}
use Rattle.rubis_keep.specs.History.{Grows, History, KeepsLines, Tells, log_if_kept, out_in, IsFrontOf}
use Rattle.rubis_keep.specs.History.FolderEvent.{Kept, Replied}
use Rattle.rubis_keep.specs.Lines.{begun_after, kept_after, begun_bytes, HasWholeRecords}
use Rattle.rubis_keep.specs.Shortened.{state_after}
use Rattle.rubis_keep.specs.declared.answers.Answers.{Answers}
use Rattle.rubis_keep.specs.declared.fault.KeepFault.{KeepFault}
use Rattle.rubis_keep.specs.declared.pages.Listed.{Listed}
use Rattle.rubis_keep.specs.declared.site.Clerk.{Clerk}
use Rattle.rubis_keys.specs.Maps.{known_in}
use Rattle.rubis_keep.proofs.FedFacts.{fed-more, fed-none, stopped-failed, stopped-later}
use Rattle.rubis_keep.proofs.HistoryFacts.{consumes-more, consumes-none, IsStill, front-log, front-out, kept-log, kept-out, still-by, still-none, tells-log}
use Rattle.rubis_keep.proofs.HistoryFacts.{tells-out}
use Rattle.rubis_keep.proofs.LineFacts.{begun-append, kept-append}
use Rattle.rubis_keep.proofs.SoundFacts.{none-read, none-whole, records-append, begun-no-end, kept-whole, whole-append}

-- ---- one turn more

pub turns-more : {keeps : Bool} (x : Standing) (ys : List Standing) {y : Standing} → Turns keeps x ys → Turn keeps (last x ys) y → Turns keeps x (ys ++ y ∷ [])
turns-more x [] none t = (t, tt)
turns-more x (z ∷ ys) (first, later) t = (first, turns-more z ys later t)

pub last-more : (x : Standing) (ys : List Standing) (y : Standing) → last x (ys ++ y ∷ []) ≡ y
last-more x [] y = refl
last-more x (z ∷ ys) y = last-more z ys y

pub turn-rests : {keeps : Bool} {x y : Standing} → Turn keeps x y → IsAtRest y
turn-rests {y} t = rw t.same (record { idle = t.answered.rests.idle; begun = t.answered.rests.begun; listed = t.listed })

-- ---- what has come of turns

-- these bytes were read, and `chunk` is what is kept of the lines that ended in them: it was kept, if this run keeps what it reads, and answered
-- by this text, of which `added` is new
pub record Went (keeps : Bool) (x y : Standing) : Type 0 where
  pub bytes : List ℕ
  pub chunk : List ℕ
  pub text : List ℕ
  pub added : List ℕ
  pub taken : Consumes x.input y.input bytes
  pub cuts : (line : List ℕ) → x.begun ≡ begun_bytes line → (y.begun ≡ begun_bytes (begun_after line bytes)) × (chunk ≡ kept_after keeps line bytes)
  pub whole : HasWholeRecords chunk
  pub fed : Fed (input_records chunk) x.at y.at text added
  pub log : Appends (log_if_kept keeps x.history) (log_if_kept keeps y.history) chunk
  pub out : Appends (out_in x.history) (out_in y.history) added
  pub told : keeps ≡ false → Tells x.at.is_live x.history y.history added []
  pub length_is : y.kept ≡ x.kept + length chunk

went-none : (keeps : Bool) (x : Standing) → Went keeps x x
went-none keeps x = record {
  bytes = [];
  chunk = [];
  text = [];
  added = [];
  taken = consumes-none x.input;
  cuts = λ line e. (e, refl);
  whole = none-whole;
  fed = subst (λ r. Fed r x.at x.at [] []) (sym none-read) (fed-none x.at);
  log = appends-none (log_if_kept keeps x.history);
  out = appends-none (out_in x.history);
  told = λ off. tells-none x.at.is_live x.history;
  length_is = omega arith;
}

cuts-more : (keeps : Bool) {begun begun2 begun3 : List ℕ} (xs ys : List ℕ) {chunk chunk2 : List ℕ}
    → ((line : List ℕ) → begun ≡ begun_bytes line → (begun2 ≡ begun_bytes (begun_after line xs)) × (chunk ≡ kept_after keeps line xs))
    → ((line : List ℕ) → begun2 ≡ begun_bytes line → (begun3 ≡ begun_bytes (begun_after line ys)) × (chunk2 ≡ kept_after keeps line ys))
    → (line : List ℕ) → begun ≡ begun_bytes line
    → (begun3 ≡ begun_bytes (begun_after line (xs ++ ys))) × (chunk ++ chunk2 ≡ kept_after keeps line (xs ++ ys))
cuts-more keeps xs ys f g line e =
    let one = f line e in
    let two = g (begun_after line xs) one.0 in (
      two.0 ∙ ap begun_bytes (sym (begun-append line xs ys)),
      (λ i. one.1 i ++ two.1 i) ∙ sym (kept-append keeps line xs ys),
    )

went-more : {keeps : Bool} {x y z : Standing} → Went keeps x y → Went keeps y z → Went keeps x z
went-more {keeps} {x} {y} {z} a b =
    let size = length-append a.chunk b.chunk in
    record {
      bytes = a.bytes ++ b.bytes;
      chunk = a.chunk ++ b.chunk;
      text = a.text ++ b.text;
      added = a.added ++ b.added;
      taken = consumes-more x.input y.input z.input a.bytes b.bytes a.taken b.taken;
      cuts = cuts-more keeps a.bytes b.bytes a.cuts b.cuts;
      whole = whole-append a.whole b.whole;
      fed = subst (λ r. Fed r x.at z.at (a.text ++ b.text) (a.added ++ b.added)) (sym (records-append b.chunk a.whole b.whole.unmarked)) (fed-more a.fed b.fed);
      log = appends-more (log_if_kept keeps x.history) (log_if_kept keeps y.history) (log_if_kept keeps z.history) a.chunk b.chunk a.log b.log;
      out = appends-more (out_in x.history) (out_in y.history) (out_in z.history) a.added b.added a.out b.out;
      told = λ off. tells-more x.at.is_live x.history y.history z.history (a.told off)
          (subst (λ l. Tells l y.history z.history b.added []) a.fed.live (b.told off));
      length_is = omega (arith, a.length_is, b.length_is, size);
    }

-- what was read is whole lines
pub reads-whole : {asks asked : Bool} {input input2 : Option (List ℕ)} {begun begun2 chunk question : List ℕ} → IsLineBegun begun
    → TakesLines asks asked input input2 begun begun2 chunk question → HasWholeRecords chunk
reads-whole {asks} b r = subst HasWholeRecords (sym (r.cuts b.0 b.2).keeps) (kept-whole asks b.0 r.bytes)

pub reads-begun : {asks asked : Bool} {input input2 : Option (List ℕ)} {begun begun2 chunk question : List ℕ} → IsLineBegun begun
    → TakesLines asks asked input input2 begun begun2 chunk question → IsLineBegun begun2
reads-begun b r = (begun_after b.0 r.bytes, begun-no-end b.0 r.bytes b.1, (r.cuts b.0 b.2).begins)

kept-then : (a b c : Option (List ℕ)) (added : List ℕ) → Keeps a b → Appends b c added → Appends a c added
kept-then None b c added k f = tt
kept-then (Some x) None c added k f = absurd k
kept-then (Some x) (Some y) None added k f = absurd f
kept-then (Some x) (Some y) (Some z) added k f = f ∙ ap (λ t. t ++ added) k

answered-went : {keeps asked : Bool} {x y : Standing} {question : List ℕ} → IsAtRest x → Answered keeps x y asked question → Went keeps x y
answered-went {keeps} {x} {y} rests a = record {
  bytes = a.reads.bytes;
  chunk = a.chunk;
  text = a.text;
  added = a.added;
  taken = a.reads.taken;
  cuts = λ line e. ((a.reads.cuts line e).begins, (a.reads.cuts line e).keeps);
  whole = reads-whole rests.begun a.reads;
  fed = a.fed;
  log = appends-kept (log_if_kept keeps x.history) (log_if_kept keeps a.mid) (log_if_kept keeps y.history) a.chunk (kept-log keeps x.history a.mid a.chunk a.kept)
      (tells-log keeps x.at.is_live a.mid y.history a.told);
  out = kept-then (out_in x.history) (out_in a.mid) (out_in y.history) a.added (kept-out keeps x.history a.mid a.chunk a.kept)
      (tells-out x.at.is_live a.mid y.history a.told);
  told = λ off. unkept keeps off a.kept;
  length_is = a.length_is;
}
  where
    unkept : (keeps : Bool) → keeps ≡ false → KeepsLines keeps x.history a.mid a.chunk → Tells x.at.is_live x.history y.history a.added []
    unkept true off k = absurd (cc off)
    unkept false off k = tells-more x.at.is_live x.history a.mid y.history ([], k, refl, refl) a.told

-- nothing of what it kept and told has changed
went-on : {keeps : Bool} {x z : Standing} (y : Standing) → y ≡ record z { history = y.history; listed = y.listed } → Keeps (log_if_kept keeps z.history) (log_if_kept keeps y.history)
    → Keeps (out_in z.history) (out_in y.history) → (keeps ≡ false → Grows z.history y.history []) → Went keeps x z → Went keeps x y
went-on {keeps} {x} {z} y same log out still w = rw same (record {
  bytes = w.bytes;
  chunk = w.chunk;
  text = w.text;
  added = w.added;
  taken = w.taken;
  cuts = w.cuts;
  whole = w.whole;
  fed = w.fed;
  log = appends-kept (log_if_kept keeps x.history) (log_if_kept keeps z.history) (log_if_kept keeps y.history) w.chunk w.log log;
  out = appends-kept (out_in x.history) (out_in z.history) (out_in y.history) w.added w.out out;
  told = λ off. subst (λ t. Tells x.at.is_live x.history y.history t []) (append-nil w.added)
      (tells-more x.at.is_live x.history z.history y.history (w.told off) ([], still off, refl, refl));
  length_is = w.length_is;
})

still-log : (keeps : Bool) (a b : Option History) → IsStill a b → Keeps (log_if_kept keeps a) (log_if_kept keeps b)
still-log true a b s = s.0
still-log false a b s = tt

-- a reply, or some first bytes of one, changes nothing of it
pub reply-still : (a b : Option History) (question text : List ℕ) → Grows a b (Replied question text ∷ []) → IsStill a b
reply-still a b question text g = still-by a b (Replied question text ∷ []) g (λ s. (refl, refl))

turn-still : (asked : Bool) (a b : Option History) (question text : List ℕ) → Grows a b (cond asked (Replied question text ∷ []) []) → IsStill a b
turn-still true a b question text g = reply-still a b question text g
turn-still false a b question text g = still-none a b g

unasked : (asked keeps : Bool) (a b : Option History) (question text : List ℕ) → (asked ≡ true → keeps ≡ true)
    → Grows a b (cond asked (Replied question text ∷ []) []) → keeps ≡ false → Grows a b []
unasked true keeps a b question text asks g off = absurd (cc (asks refl, off))
unasked false keeps a b question text asks g off = g

turn-went : {keeps : Bool} {x : Standing} (y : Standing) → IsAtRest x → Turn keeps x y → Went keeps x y
turn-went {keeps} y rests t =
    let z = t.mid in
    let still = turn-still t.asked z.history y.history t.question (replied_to z.at t.question) t.replied in
    went-on y t.same (still-log keeps z.history y.history still) still.1
    (unasked t.asked keeps z.history y.history t.question (replied_to z.at t.question) t.answered.reads.asks_it t.replied) (answered-went rests t.answered)

pub turns-went : {keeps : Bool} (x : Standing) (ys : List Standing) → IsAtRest x → Turns keeps x ys → Went keeps x (last x ys) × IsAtRest (last x ys)
turns-went {keeps} x [] rests none = (went-none keeps x, rests)
turns-went x (y ∷ ys) rests (t, later) =
    let next = turns-went y ys (turn-rests t) later in
    (went-more (turn-went y rests t) next.0, next.1)

-- ---- what has come of turns that a fault ended

-- these bytes were read, and what is kept of them and answered is as above; of what is kept of the bytes `next` that came after them, the
-- beginning `torn` was kept; and `added` begins the answers
pub record Fell (keeps : Bool) (x : Standing) (input2 : Option (List ℕ)) (history2 : Option History) (e : KeepFault) : Type 0 where
  pub bytes : List ℕ
  pub next : List ℕ
  pub chunk : List ℕ
  pub torn : List ℕ
  pub added : List ℕ
  pub taken : Consumes x.input input2 (bytes ++ next)
  pub cuts : (line : List ℕ) → x.begun ≡ begun_bytes line
      → (chunk ≡ kept_after keeps line bytes) × IsFrontOf torn (kept_after keeps (begun_after line bytes) next)
  pub whole : HasWholeRecords chunk
  pub stopped : Stopped (input_records chunk) x.at added e
  pub log : Appends (log_if_kept keeps x.history) (log_if_kept keeps history2) (chunk ++ torn)
  pub out : Appends (out_in x.history) (out_in history2) added
  pub told : keeps ≡ false → (due : List ℕ) × Tells x.at.is_live x.history history2 added due

-- a fault that says nothing of records came
pub went-fell : {keeps : Bool} {x y : Standing} (input2 : Option (List ℕ)) (history2 : Option History) (next torn : List ℕ) {e : KeepFault} → Went keeps x y
    → Consumes y.input input2 next → ((line : List ℕ) → y.begun ≡ begun_bytes line → IsFrontOf torn (kept_after keeps line next))
    → Appends (log_if_kept keeps y.history) (log_if_kept keeps history2) torn → Keeps (out_in y.history) (out_in history2)
    → (keeps ≡ false → Grows y.history history2 []) → IsFailure e → Fell keeps x input2 history2 e
went-fell {keeps} {x} {y} input2 history2 next torn {e} w taken front log out still fails = record {
  bytes = w.bytes;
  next = next;
  chunk = w.chunk;
  torn = torn;
  added = w.added;
  taken = consumes-more x.input y.input input2 w.bytes next w.taken taken;
  cuts = λ line b. let c = w.cuts line b in (c.1, front (begun_after line w.bytes) c.0);
  whole = w.whole;
  stopped = subst (λ r. Stopped r x.at w.added e) (append-nil (input_records w.chunk))
      (subst (λ a. Stopped (input_records w.chunk ++ []) x.at a e) (append-nil w.added) (stopped-later w.fed (stopped-failed [] y.at e fails)));
  log = appends-more (log_if_kept keeps x.history) (log_if_kept keeps y.history) (log_if_kept keeps history2) w.chunk torn w.log log;
  out = appends-kept (out_in x.history) (out_in y.history) (out_in history2) w.added w.out out;
  told = λ off. (
    [],
    subst (λ t. Tells x.at.is_live x.history history2 t []) (append-nil w.added)
        (tells-more x.at.is_live x.history y.history history2 (w.told off) ([], still off, refl, refl)),
  );
}

torn-still : (keeps : Bool) {torn : List ℕ} (a b : Option History) → (torn ≡ []) ⊎ (keeps ≡ true) → Grows a b (map (λ b. Kept b) torn) → keeps ≡ false
    → Grows a b []
torn-still keeps a b (inl none) g off = subst (λ t. Grows a b (map (λ b. Kept b) t)) none g
torn-still keeps a b (inr on) g off = absurd (cc (on, off))

torn-log : (keeps : Bool) {torn : List ℕ} (a b : Option History) → (torn ≡ []) ⊎ (keeps ≡ true) → Grows a b (map (λ b. Kept b) torn)
    → Appends (log_if_kept keeps a) (log_if_kept keeps b) torn
torn-log true {torn} a b only g = front-log a b torn g
torn-log false a b (inl none) g = tt
torn-log false a b (inr on) g = tt

-- the next turn broke
broke-fell : {keeps : Bool} {x y : Standing} (input2 : Option (List ℕ)) (history2 : Option History) {e : KeepFault} → Went keeps x y → IsAtRest y
    → Broke keeps y input2 history2 e → Fell keeps x input2 history2 e
broke-fell {keeps} {x} {y} input2 history2 w rests (inl t) =
    went-fell input2 history2 t.bytes t.torn w t.taken t.front (torn-log keeps y.history history2 t.only t.kept) (front-out y.history history2 t.torn t.kept)
    (torn-still keeps y.history history2 t.only t.kept) t.cause
broke-fell {keeps} {x} {y} input2 history2 {e} w rests (inr (inl u)) =
    let whole = reads-whole rests.begun u.reads in
    let log = kept-log keeps y.history u.mid u.chunk u.kept in
    let told = tells-log keeps y.at.is_live u.mid history2 u.told in
    record {
      bytes = w.bytes ++ u.reads.bytes;
      next = [];
      chunk = w.chunk ++ u.chunk;
      torn = [];
      added = w.added ++ u.added;
      taken = subst (Consumes x.input input2) (sym (append-nil (w.bytes ++ u.reads.bytes)))
          (consumes-more x.input y.input input2 w.bytes u.reads.bytes w.taken u.reads.taken);
      cuts = λ line b. ((cuts-more keeps w.bytes u.reads.bytes w.cuts (λ l c. let r = u.reads.cuts l c in (r.begins, r.keeps)) line b).1, ([], refl));
      whole = whole-append w.whole whole;
      stopped = subst (λ r. Stopped r x.at (w.added ++ u.added) e) (sym (records-append u.chunk w.whole whole.unmarked)) (stopped-later w.fed u.stopped);
      log = subst (Appends (log_if_kept keeps x.history) (log_if_kept keeps history2)) (sym (append-nil (w.chunk ++ u.chunk)))
          (appends-more (log_if_kept keeps x.history) (log_if_kept keeps y.history) (log_if_kept keeps history2) w.chunk u.chunk w.log
          (appends-kept (log_if_kept keeps y.history) (log_if_kept keeps u.mid) (log_if_kept keeps history2) u.chunk log told));
      out = appends-more (out_in x.history) (out_in y.history) (out_in history2) w.added u.added w.out
          (kept-then (out_in y.history) (out_in u.mid) (out_in history2) u.added (kept-out keeps y.history u.mid u.chunk u.kept)
          (tells-out y.at.is_live u.mid history2 u.told));
      told = λ off. (
        u.due,
        tells-more x.at.is_live x.history y.history history2 (w.told off)
            (subst (λ l. Tells l y.history history2 u.added u.due) w.fed.live (unkept keeps off u.kept)),
      );
    }
  where
    unkept : (keeps : Bool) → keeps ≡ false → KeepsLines keeps y.history u.mid u.chunk → Tells y.at.is_live y.history history2 u.added u.due
    unkept true off k = absurd (cc off)
    unkept false off k = tells-more y.at.is_live y.history u.mid history2 ([], k, refl, refl) u.told
broke-fell {keeps} {x} {y} input2 history2 w rests (inr (inr u)) =
    let z = u.mid in
    let on = went-more w (answered-went rests u.answered) in
    let still = replied-still z.history history2 u.replied in
    went-fell input2 history2 [] [] on (subst (λ i. Consumes z.input i []) (sym u.input_is) (consumes-none z.input)) (λ line b. ([], refl))
    (kept-none (log_if_kept keeps z.history) (log_if_kept keeps history2) (still-log keeps z.history history2 still)) still.1
    (λ off. absurd (cc (u.answered.reads.asks_it refl, off))) u.cause
  where
    replied-still : (a b : Option History) → Grows a b [] ⊎ ((n : ℕ) × Grows a b (Replied u.question (take n (replied_to u.mid.at u.question)) ∷ [])) → IsStill a b
    replied-still a b (inl g) = still-none a b g
    replied-still a b (inr (n, g)) = reply-still a b u.question (take n (replied_to u.mid.at u.question)) g

    kept-none : (a b : Option (List ℕ)) → Keeps a b → Appends a b []
    kept-none None b k = tt
    kept-none (Some xs) None k = absurd k
    kept-none (Some xs) (Some ys) k = k ∙ sym (append-nil xs)

pub turns-fell : {keeps : Bool} (x : Standing) (ys : List Standing) (input2 : Option (List ℕ)) (history2 : Option History) {e : KeepFault} → IsAtRest x
    → Turns keeps x ys → Broke keeps (last x ys) input2 history2 e → Fell keeps x input2 history2 e
turns-fell x ys input2 history2 rests are broke =
    let w = turns-went x ys rests are in
    broke-fell input2 history2 w.0 w.1 broke

-- ---- a turn, as the code takes it

-- nothing was read
pub unread-torn : (keeps : Bool) (x : Standing) (input2 : Option (List ℕ)) (e : KeepFault) → Consumes x.input input2 [] → IsFailure e
    → Torn keeps x input2 x.history e
unread-torn keeps x input2 e taken fails = record {
  bytes = [];
  torn = [];
  taken = taken;
  front = λ line b. ([], refl);
  kept = grows-none x.history;
  only = inl refl;
  cause = fails;
}

-- its lines could not be kept
pub lines-torn : {keeps asked : Bool} (x : Standing) (input2 : Option (List ℕ)) (history2 : Option History) (e : KeepFault) {begun2 chunk question : List ℕ}
    → TakesLines keeps asked x.input input2 x.begun begun2 chunk question
    → (keeps ≡ true) × (n : ℕ) × (n ≤ length chunk) × Grows x.history history2 (map (λ b. Kept b) (take n chunk)) → IsFailure e
    → Torn keeps x input2 history2 e
lines-torn x input2 history2 e {chunk = chunk} r (on, n, l, g) fails = record {
  bytes = r.bytes;
  torn = take n chunk;
  taken = r.taken;
  front = λ line b. (drop n chunk, take-append-drop n chunk ∙ (r.cuts line b).keeps);
  kept = g;
  only = inr on;
  cause = fails;
}

-- they were, and could not be answered
pub lines-unanswered : {keeps asked : Bool} (x : Standing) (input2 : Option (List ℕ)) (mid history2 : Option History) (e : KeepFault)
    {begun2 chunk question : List ℕ} → TakesLines keeps asked x.input input2 x.begun begun2 chunk question → KeepsLines keeps x.history mid chunk
    → HasStopped (input_records chunk) x.at mid history2 e → Unanswered keeps x input2 history2 e
lines-unanswered {asked = asked} x input2 mid history2 e {begun2} {chunk} {question} r kept (added, s, (due, told)) = record {
  asked = asked;
  question = question;
  begun2 = begun2;
  chunk = chunk;
  reads = r;
  mid = mid;
  kept = kept;
  added = added;
  stopped = s;
  due = due;
  told = told;
}

-- records led a site that holds nothing to one that holds nothing
pub led-idle : {rows : List (List (List ℕ))} {x y : Answering} {text added : List ℕ} → HoldsNothing x → HoldsNothing y → Fed rows x y text added
    → y.state ≡ state_after x.place x.state rows
led-idle {rows} {x} {y} i j f = sym (ap (λ w. with_held y.place y.state w) j.window) ∙ f.state ∙ ap (λ w. state_after x.place (with_held x.place x.state w) rows) i.window

-- what is held of a listing is let go where records are answered, and stays right where none are
listed-after : (p : Place) (s : KeyedSite) {s2 : KeyedSite} {records : List ℕ} {old new : Option Listed} → AreListed s.site old
    → (new ≡ None) ⊎ ((records ≡ []) × (new ≡ old)) → s2 ≡ state_after p s (input_records records) → AreListed s2.site new
listed-after p s {s2} h (inl none) led = subst (AreListed s2.site) (sym none) tt
listed-after p s {new} h (inr same) led =
    subst (λ (x : KeyedSite). AreListed x.site new) (sym (led ∙ ap (λ r. state_after p s (input_records r)) same.0 ∙ ap (state_after p s) none-read))
    (subst (AreListed s.site) (sym same.1) h)

pub lines-answered : {keeps asked : Bool} (x y : Standing) (mid : Option History) {chunk question : List ℕ}
    → TakesLines keeps asked x.input y.input x.begun y.begun chunk question → IsAtRest x → KeepsLines keeps x.history mid chunk
    → HasFed (input_records chunk) x.at y.at mid y.history → HoldsNothing y.at → (y.listed ≡ None) ⊎ ((chunk ≡ []) × (y.listed ≡ x.listed))
    → y.kept ≡ x.kept + length chunk → Answered keeps x y asked question
lines-answered x y mid {chunk} r rests kept (text, added, f, told) idle listed len = record {
  chunk = chunk;
  reads = r;
  mid = mid;
  kept = kept;
  text = text;
  added = added;
  fed = f;
  told = told;
  length_is = len;
  rests = record {
    idle = idle;
    begun = reads-begun rests.begun r;
    listed = listed-after x.at.place x.at.state rests.listed listed (led-idle rests.idle idle f);
  };
}

pub unmoved-at : {O F G : Type 0} (before : O → Option (List ℕ)) {c c2 : Clerk G} (a a2 : Answers O F) → IsUnmoved c c2
    → a2 ≡ record a { files = a2.files } → clerk_at before c2 a2 ≡ clerk_at before c a
unmoved-at before a a2 u same = λ i. record {
  place = u.place i;
  state = record { site = u.state i; keys = known_in (u.keys i) };
  held = u.window i;
  first = u.first i;
  answered = u.answered i;
  limit = u.limit i;
  sink = u.sink i;
  is_live = (same i).is_live;
  before = before (same i).before;
  lines = (same i).lines;
}

-- and its question was answered, if it asked one
pub turn-ends : {keeps asked : Bool} {x mid : Standing} (y : Standing) {question : List ℕ} → Answered keeps x mid asked question
    → Grows mid.history y.history (cond asked (Replied question (replied_to mid.at question) ∷ []) []) → y.at ≡ mid.at → y.input ≡ mid.input
    → y.begun ≡ mid.begun → y.kept ≡ mid.kept → AreListed mid.at.state.site y.listed → Turn keeps x y
turn-ends {asked = asked} {mid = mid} y {question} a g at input begun kept listed = record {
  asked = asked;
  question = question;
  mid = mid;
  answered = a;
  replied = g;
  same = λ i. record { at = at i; input = input i; history = y.history; begun = begun i; kept = kept i; listed = y.listed };
  listed = listed;
}

pub turn-unreplied : {keeps asked : Bool} {x mid : Standing} (input2 : Option (List ℕ)) (history2 : Option History) (e : KeepFault) {question : List ℕ}
    → Answered keeps x mid asked question → asked ≡ true → input2 ≡ mid.input → Grows mid.history history2 []
    ⊎ ((n : ℕ) × Grows mid.history history2 (Replied question (take n (replied_to mid.at question)) ∷ [])) → IsFailure e → Unreplied keeps x input2 history2 e
turn-unreplied {keeps} {x = x} {mid = mid} input2 history2 e {question} a on is g fails = record {
  question = question;
  mid = mid;
  answered = subst (λ b. Answered keeps x mid b question) on a;
  input_is = is;
  replied = g;
  cause = fails;
}

-- ---- many turns, as the code takes them

pub record HasTurned (keeps : Bool) (x y : Standing) : Type 0 where
  pub turns : List Standing
  pub are : Turns keeps x turns
  pub last_is : y ≡ last x turns
  pub rests : IsAtRest y

pub turned-none : (keeps : Bool) (x : Standing) → IsAtRest x → HasTurned keeps x x
turned-none keeps x rests = record { turns = []; are = tt; last_is = refl; rests = rests }

pub turned-more : {keeps : Bool} {x y : Standing} (z : Standing) → HasTurned keeps x y → Turn keeps y z → HasTurned keeps x z
turned-more {keeps} {x} z h t = record {
  turns = h.turns ++ z ∷ [];
  are = turns-more x h.turns h.are (subst (λ (s : Standing). Turn keeps s z) h.last_is t);
  last_is = sym (last-more x h.turns z);
  rests = turn-rests t;
}

pub turned-ends : {keeps : Bool} {x y : Standing} (z : Standing) → HasTurned keeps x y → Turn keeps y z → IsAtEnd z.input → Ends keeps x z
turned-ends z h t end =
    let more = turned-more z h t in
    record { turns = more.turns; are = more.are; last_is = more.last_is; rests = more.rests; end = end }

pub turned-breaks : {keeps : Bool} {x y : Standing} (input2 : Option (List ℕ)) (history2 : Option History) (e : KeepFault) → HasTurned keeps x y
    → Broke keeps y input2 history2 e → Breaks keeps x input2 history2 e
turned-breaks {keeps} input2 history2 e h broke = record {
  turns = h.turns;
  are = h.are;
  rests = subst IsAtRest h.last_is h.rests;
  broke = subst (λ (s : Standing). Broke keeps s input2 history2 e) h.last_is broke;
}
