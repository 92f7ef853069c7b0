-- The questions that a run answers, turn by turn, are those of its input.
use Rattle.rubis_keep.proofs.Common.{◌≡◌, ◌∙◌, ◌⊎◌, inl, inr, ◌++◌, ◌∷◌, [], ℕ, Bool, true, false, List, Option, cond, map, take, refl, sym, ap}
use Rattle.rubis_keep.proofs.Common.{subst, append_assoc, append-nil, Consumes, Place, KeyedSite, Account}
use Rattle.rubis_keep.specs.Telling.{grows-more, grows-none}
use Rattle.rubis_keep.specs.Turns.{Answering, Answered, Broke, IsAtRest, Standing, Turn, Turns, last, replied_to}
use Rattle.rubis_keep.specs.Questions.{AreFirst, Reply, replied_in, reply_to, reply_rows, reply_text}
use Rattle.rubis_keep.specs.Lines.{asked_by, Asked, asked_after, begun_after, kept_after, begun_bytes}
use Rattle.rubis_keep.specs.History.{FolderEvent, Grows, History}
use Rattle.rubis_keep.specs.History.FolderEvent.{Replied}
use Rattle.rubis_keep.specs.Lives.{HasAnsweredKept}
use Rattle.rubis_keep.specs.declared.fault.KeepFault.{KeepFault}
use Rattle.rubis_keep.proofs.AskFacts.{IsSilent, front-silent, kept-silent, replied-append, silent-more, tells-silent}
use Rattle.rubis_keep.proofs.SoundFacts.{asked-append}
use Rattle.rubis_keep.proofs.HistoryFacts.{consumes-more, consumes-none}
use Rattle.rubis_keep.proofs.LifeFacts.{answered-more}
use Rattle.rubis_keep.proofs.LineFacts.{begun-append, kept-append}
use Rattle.rubis_keep.proofs.TurnFacts.{reads-whole, turn-rests}

map-append : (f : Asked → Reply) (xs ys : List Asked) → map f (xs ++ ys) ≡ map f xs ++ map f ys
map-append f [] ys = refl
map-append f (x ∷ xs) ys = ap (λ r. f x ∷ r) (map-append f xs ys)

-- a run that stands there, with `kept` kept and answered, and `line` begun
pub record Stood (all : Account) (p : Place) (s : KeyedSite) (x : Standing) (told kept line : List ℕ) : Type 0 where
  pub answered : HasAnsweredKept all p s x.at told kept
  pub begun : x.begun ≡ begun_bytes line
  pub rests : IsAtRest x

-- it read these bytes, and answered the questions of them, with what has happened since; and it stands here
pub record Asks (all : Account) (p : Place) (s : KeyedSite) (x y : Standing) (kept line : List ℕ) : Type 0 where
  pub bytes : List ℕ
  pub taken : Consumes x.input y.input bytes
  pub told2 : List ℕ
  pub stood : Stood all p s y told2 (kept ++ kept_after true line bytes) (begun_after line bytes)
  pub events : List FolderEvent
  pub grows : Grows x.history y.history events
  pub replied : replied_in events ≡ map (reply_to p s) (asked_after true kept line bytes)

asks-none : {all : Account} {p : Place} {s : KeyedSite} {x : Standing} {told kept line : List ℕ} → Stood all p s x told kept line → Asks all p s x x kept line
asks-none {all} {p} {s} {x} {told} {kept} {line} h = record {
  bytes = [];
  taken = consumes-none x.input;
  told2 = told;
  stood = subst (λ k. Stood all p s x told k line) (sym (append-nil kept)) h;
  events = [];
  grows = grows-none x.history;
  replied = refl;
}

-- the questions of two texts
pub asks-both : (p : Place) (s : KeyedSite) (kept line xs ys : List ℕ) → map (reply_to p s) (asked_after true kept line (xs ++ ys))
    ≡ map (reply_to p s) (asked_after true kept line xs) ++ map (reply_to p s) (asked_after true (kept ++ kept_after true line xs) (begun_after line xs) ys)
asks-both p s kept line xs ys = ap (map (reply_to p s)) (asked-append true kept line xs ys)
    ∙ map-append (reply_to p s) (asked_after true kept line xs) (asked_after true (kept ++ kept_after true line xs) (begun_after line xs) ys)

asks-more : {all : Account} {p : Place} {s : KeyedSite} {x y z : Standing} {kept line : List ℕ} → (a : Asks all p s x y kept line)
    → Asks all p s y z (kept ++ kept_after true line a.bytes) (begun_after line a.bytes) → Asks all p s x z kept line
asks-more {all} {p} {s} {x} {y} {z} {kept} {line} a b = record {
  bytes = a.bytes ++ b.bytes;
  taken = consumes-more x.input y.input z.input a.bytes b.bytes a.taken b.taken;
  told2 = b.told2;
  stood = subst (λ k. Stood all p s z b.told2 k (begun_after line (a.bytes ++ b.bytes)))
      (append_assoc kept (kept_after true line a.bytes) (kept_after true (begun_after line a.bytes) b.bytes)
      ∙ ap (λ k. kept ++ k) (sym (kept-append true line a.bytes b.bytes)))
      (subst (Stood all p s z b.told2 ((kept ++ kept_after true line a.bytes) ++ kept_after true (begun_after line a.bytes) b.bytes))
      (sym (begun-append line a.bytes b.bytes)) b.stood);
  events = a.events ++ b.events;
  grows = grows-more x.history y.history z.history a.events b.events a.grows b.grows;
  replied = replied-append a.events b.events ∙ (λ i. a.replied i ++ b.replied i) ∙ sym (asks-both p s kept line a.bytes b.bytes);
}

-- ---- a turn

-- its lines are kept and answered, but for the question
record AsksLines (all : Account) (p : Place) (s : KeyedSite) (x y : Standing) (kept line : List ℕ) (asked : Bool) (question : List ℕ) : Type 0 where
  bytes : List ℕ
  taken : Consumes x.input y.input bytes
  told2 : List ℕ
  answered : HasAnsweredKept all p s y.at told2 (kept ++ kept_after true line bytes)
  begun : y.begun ≡ begun_bytes (begun_after line bytes)
  silent : IsSilent x.history y.history
  asks_it : map (reply_to p s) (asked_after true kept line bytes) ≡ map (reply_to p s) (asked_by asked (kept ++ kept_after true line bytes) question)

asks-lines : {all : Account} {p : Place} {s : KeyedSite} {x y : Standing} {told kept line question : List ℕ} {asked : Bool} → Stood all p s x told kept line
    → Answered true x y asked question → AsksLines all p s x y kept line asked question
asks-lines {all} {p} {s} {x} {y} {told} {kept} {line} {question} {asked} h a =
    let cut = a.reads.cuts line h.begun in
    let answered = answered-more h.answered a.fed (reads-whole h.rests.begun a.reads) a.rests.idle in
    record {
      bytes = a.reads.bytes;
      taken = a.reads.taken;
      told2 = told ++ a.text;
      answered = subst (λ c. HasAnsweredKept all p s y.at (told ++ a.text) (kept ++ c)) cut.keeps answered;
      begun = cut.begins;
      silent = silent-more x.history a.mid y.history (kept-silent true x.history a.mid a.chunk a.kept) (tells-silent x.at.is_live a.mid y.history a.told);
      asks_it = ap (map (reply_to p s)) (cut.questions kept);
    }

-- the text that answers the question is what the site says there
reply-is : {all : Account} {p : Place} {s : KeyedSite} {a : Answering} {told kept : List ℕ} (question : List ℕ) → HasAnsweredKept all p s a told kept
    → replied_to a question ≡ (reply_to p s (record { kept = kept; question = question })).text
reply-is question h = λ i. reply_text (reply_rows (h.place i) (h.state i).site (h.count i) question)

-- what is replied to the question, if one was asked, is owed
replied-owed : {all : Account} {p : Place} {s : KeyedSite} {a : Answering} {told kept : List ℕ} (asked : Bool) (question : List ℕ)
    → HasAnsweredKept all p s a told kept → replied_in (cond asked (Replied question (replied_to a question) ∷ []) []) ≡ map (reply_to p s) (asked_by asked kept question)
replied-owed true question h = ap (λ text. record { question = question; text = text } ∷ []) (reply-is question h)
replied-owed false question h = refl

asks-turn : {all : Account} {p : Place} {s : KeyedSite} {x : Standing} (y : Standing) {told kept line : List ℕ} → Stood all p s x told kept line → Turn true x y
    → Asks all p s x y kept line
asks-turn {all} {p} {s} {x} y {kept} {line} h t =
    let l = asks-lines h t.answered in
    let z = t.mid in
    let now : List ℕ = kept ++ kept_after true line l.bytes in
    let events = cond t.asked (Replied t.question (replied_to z.at t.question) ∷ []) [] in
    record {
      bytes = l.bytes;
      taken = subst (λ (w : Standing). Consumes x.input w.input l.bytes) (sym t.same) l.taken;
      told2 = l.told2;
      stood = record {
        answered = subst (λ (w : Standing). HasAnsweredKept all p s w.at l.told2 now) (sym t.same) l.answered;
        begun = ap (λ (w : Standing). w.begun) t.same ∙ l.begun;
        rests = turn-rests t;
      };
      events = l.silent.0 ++ events;
      grows = grows-more x.history z.history y.history l.silent.0 events l.silent.1 t.replied;
      replied = replied-append l.silent.0 events ∙ ap (λ r. r ++ replied_in events) l.silent.2 ∙ replied-owed t.asked t.question l.answered ∙ sym l.asks_it;
    }

pub turns-ask : {all : Account} {p : Place} {s : KeyedSite} (x : Standing) (ys : List Standing) {told kept line : List ℕ} → Stood all p s x told kept line
    → Turns true x ys → Asks all p s x (last x ys) kept line
turns-ask x [] h none = asks-none h
turns-ask x (y ∷ ys) h (t, later) =
    let a = asks-turn y h t in
    asks-more a (turns-ask y ys a.stood later)

-- ---- a fault

-- it read these bytes, and answered the first questions of them, the last of which maybe in part
pub record AsksFirst (p : Place) (s : KeyedSite) (x : Standing) (input2 : Option (List ℕ)) (history2 : Option History) (kept line : List ℕ) : Type 0 where
  pub bytes : List ℕ
  pub taken : Consumes x.input input2 bytes
  pub events : List FolderEvent
  pub grows : Grows x.history history2 events
  pub replied : AreFirst (replied_in events) (map (reply_to p s) (asked_after true kept line bytes))

first-later : (front xs all : List Reply) → AreFirst xs all → AreFirst (front ++ xs) (front ++ all)
first-later front xs all (inl (rest, e)) = inl (rest, append_assoc front xs rest ∙ ap (λ t. front ++ t) e)
first-later front xs all (inr (first, rest, r, n, e, f)) = inr (
  front ++ first,
  rest,
  r,
  n,
  ap (λ t. front ++ t) e ∙ sym (append_assoc front first (record r { text = take n r.text } ∷ [])),
  append_assoc front first (r ∷ rest) ∙ ap (λ t. front ++ t) f,
)

pub first-more : (xs all more : List Reply) → AreFirst xs all → AreFirst xs (all ++ more)
first-more xs all more (inl (rest, e)) = inl (rest ++ more, sym (append_assoc xs rest more) ∙ ap (λ t. t ++ more) e)
first-more xs all more (inr (first, rest, r, n, e, f)) = inr (first, rest ++ more, r, n, e, sym (append_assoc first (r ∷ rest) more) ∙ ap (λ t. t ++ more) f)

silent-first : (p : Place) (s : KeyedSite) {x : Standing} (input2 : Option (List ℕ)) (history2 : Option History) (kept line bytes : List ℕ)
    → Consumes x.input input2 bytes → IsSilent x.history history2 → AsksFirst p s x input2 history2 kept line
silent-first p s input2 history2 kept line bytes taken (events, g, none) = record {
  bytes = bytes;
  taken = taken;
  events = events;
  grows = g;
  replied = inl (map (reply_to p s) (asked_after true kept line bytes), ap (λ r. r ++ map (reply_to p s) (asked_after true kept line bytes)) none);
}

broke-first : {all : Account} {p : Place} {s : KeyedSite} {x : Standing} (input2 : Option (List ℕ)) (history2 : Option History) {e : KeepFault}
    {told kept line : List ℕ} → Stood all p s x told kept line → Broke true x input2 history2 e → AsksFirst p s x input2 history2 kept line
broke-first {p} {s} {x} input2 history2 {kept = kept} {line = line} h (inl t) =
    silent-first p s input2 history2 kept line t.bytes t.taken (front-silent x.history history2 t.torn t.kept)
broke-first {p} {s} {x} input2 history2 {kept = kept} {line = line} h (inr (inl u)) =
    silent-first p s input2 history2 kept line u.reads.bytes u.reads.taken
    (silent-more x.history u.mid history2 (kept-silent true x.history u.mid u.chunk u.kept) (tells-silent x.at.is_live u.mid history2 u.told))
broke-first {all} {p} {s} {x} input2 history2 {kept = kept} {line = line} h (inr (inr u)) = go (asks-lines h u.answered) u.replied
  where
    go : AsksLines all p s x u.mid kept line true u.question
        → Grows u.mid.history history2 [] ⊎ ((n : ℕ) × Grows u.mid.history history2 (Replied u.question (take n (replied_to u.mid.at u.question)) ∷ []))
        → AsksFirst p s x input2 history2 kept line
    go l (inl g) = silent-first p s input2 history2 kept line l.bytes (subst (λ i. Consumes x.input i l.bytes) (sym u.input_is) l.taken)
        (silent-more x.history u.mid.history history2 l.silent ([], g, refl))
    go l (inr (n, g)) =
        let reply = Replied u.question (take n (replied_to u.mid.at u.question)) ∷ [] in
        record {
          bytes = l.bytes;
          taken = subst (λ i. Consumes x.input i l.bytes) (sym u.input_is) l.taken;
          events = l.silent.0 ++ reply;
          grows = grows-more x.history u.mid.history history2 l.silent.0 reply l.silent.1 g;
          replied = inr (
            [],
            [],
            record { question = u.question; text = replied_to u.mid.at u.question },
            n,
            replied-append l.silent.0 reply ∙ ap (λ r. r ++ replied_in reply) l.silent.2,
            ap (λ text. record { question = u.question; text = text } ∷ []) (reply-is u.question l.answered) ∙ sym l.asks_it,
          );
        }

pub turns-ask-first : {all : Account} {p : Place} {s : KeyedSite} (x : Standing) (ys : List Standing) (input2 : Option (List ℕ)) (history2 : Option History)
    {e : KeepFault} {told kept line : List ℕ} → Stood all p s x told kept line → Turns true x ys → Broke true (last x ys) input2 history2 e
    → AsksFirst p s x input2 history2 kept line
turns-ask-first {p} {s} x ys input2 history2 {kept = kept} {line = line} h are broke =
    let a = turns-ask x ys h are in
    let b = broke-first input2 history2 a.stood broke in
    let front = map (reply_to p s) (asked_after true kept line a.bytes) in
    record {
      bytes = a.bytes ++ b.bytes;
      taken = consumes-more x.input (last x ys).input input2 a.bytes b.bytes a.taken b.taken;
      events = a.events ++ b.events;
      grows = grows-more x.history (last x ys).history history2 a.events b.events a.grows b.grows;
      replied = subst (AreFirst (replied_in (a.events ++ b.events))) (sym (asks-both p s kept line a.bytes b.bytes))
          (subst (λ r. AreFirst r (front ++ map (reply_to p s) (asked_after true (kept ++ kept_after true line a.bytes) (begun_after line a.bytes) b.bytes)))
          (sym (replied-append a.events b.events ∙ ap (λ r. r ++ replied_in b.events) a.replied))
          (first-later front (replied_in b.events) _ b.replied));
    }
