-- How a run answers the questions of its input, and why a line is refused that is one.
use Rattle.rubis_keep.proofs.Common.{◌≡◌, ◌≤◌, ◌++◌, ◌∷◌, [], ℕ, List, None, Option, Some, arith, drop, false, length, sym, true, ◌∙◌, ◌+◌, inl, inr}
use Rattle.rubis_keep.proofs.Common.{Bool, cond, map, refl, ap, Place, Replica, KeyedSite, keyed_input, keyed_step, input_records, rows_text, Advances, Gives}
use Rattle.rubis_keep.proofs.Common.{fields_now, Records}
use Rattle.std.proofs.lemmas.Bool.{le-leb}
use Rattle.std.specs.Prelude.{bytes_eq, codes, slice_get}
use Rattle.rubis_schema.specs.declared.row_keys.RowKey.{RowKey}
use Rattle.rubis_keys.proofs.BareFacts.{same_step}
use Rattle.rubis_keys.specs.Keys.{keyed_after}
use Rattle.rubis_keep.specs.Lines.{closes_quotes}
use Rattle.rubis_keep.specs.Questions.{asked_key, question_in, reply_rows, row_asked, refused_as, replied_in, question_of}
use Rattle.rubis_keep.specs.declared.questions.Question.{Question}
use Rattle.rubis_keep.specs.Telling.{grows-more}
use Rattle.rubis_keep.specs.History.{Answers, FolderEvent, Grows, History, KeepsLines, Tells}
use Rattle.rubis_keep.specs.History.FolderEvent.{Flushed, Kept, Replied, Shown, Told}
use Rattle.rubis_keep.specs.Shortened.{state_after}

pub refused-open : (p : Place) (s : Replica) (n : ℕ) (line : List ℕ) {text : List ℕ} → length line ≤ 4096 → closes_quotes (drop 1 line) ≡ false
    → text ≡ rows_text (refused_as (codes "OpenQuote")) → text ≡ rows_text (reply_rows p s n line)
refused-open p s n line small open_quote e = rw (le-leb (length line) 4096 small, open_quote) e

pub refused-bad : (p : Place) (s : Replica) (n : ℕ) (line : List ℕ) {text : List ℕ} {asked : Option Question} → length line ≤ 4096 → closes_quotes (drop 1 line) ≡ true
    → asked ≡ question_in p.sites (input_records (drop 1 line ++ 10 ∷ [])) → asked ≡ None → text ≡ rows_text (refused_as (codes "BadQuestion"))
    → text ≡ rows_text (reply_rows p s n line)
refused-bad p s n line small closed is none e = rw (le-leb (length line) 4096 small, closed, sym is, none) e

-- the row that three words ask for
pub row-three : (sites : ℕ) (fields : List (List ℕ)) (w t : List ℕ) {n : List ℕ} {k : Option RowKey} → length fields ≡ 3 → slice_get fields 0 ≡ Some w
    → slice_get fields 1 ≡ Some t → slice_get fields 2 ≡ Some n → bytes_eq w (codes "row") ≡ true → k ≡ asked_key sites t n → k ≡ row_asked sites fields
row-three sites [] w t size a b d e is = absurd (cc a)
row-three sites (x ∷ []) w t size a b d e is = absurd (cc b)
row-three sites (x ∷ y ∷ []) w t size a b d e is = absurd (cc d)
row-three sites (x ∷ y ∷ z ∷ []) w t {n} size a b d e is =
    rw (same x w a, same y t b, same z n d, e) is
  where
    same : (a b : List ℕ) → Some a ≡ Some b → a ≡ b
    same a b e = cc e
row-three sites (x ∷ y ∷ z ∷ v ∷ rest) w t size a b d e is = absurd (omega (arith, size))

-- ---- how a run answers the questions of its input

-- ---- where records lead

-- the numbers of records don't matter
pub states-alike : (p : Place) (s : KeyedSite) (n : ℕ) (rows : List (List (List ℕ))) → keyed_after p s n rows ≡ state_after p s rows
states-alike p s n [] = refl
states-alike p s n (fields ∷ rows) =
    ap (λ t. keyed_after p t (n + 1) rows) (same_step p s n 1 (keyed_input p.sites fields))
    ∙ states-alike p (keyed_step p s 1 (keyed_input p.sites fields)).0 (n + 1) rows

-- ---- what a line asks

pub question-none : {R : Type 0} (rem : R → Option (List ℕ)) (a b : Records R) (sites : ℕ) (all : List (List (List ℕ))) → Gives rem a all
    → Advances rem a b false → None ≡ question_in sites all
question-none rem a b sites all gives end = ap (question_in sites) (sym (end all gives))

pub question-one : {R : Type 0} (rem : R → Option (List ℕ)) (a b d : Records R) (sites : ℕ) (all : List (List (List ℕ))) {asked : Option Question}
    → Gives rem a all → Advances rem a b true → Advances rem b d false → asked ≡ question_of sites (fields_now b) → asked ≡ question_in sites all
question-one rem a b d sites all gives takes end e =
    let next = takes all gives in
    e ∙ ap (question_in sites) (sym (next.1 ∙ ap (λ l. fields_now b ∷ l) (end next.0 next.2)))

pub question-many : {R : Type 0} (rem : R → Option (List ℕ)) (a b d : Records R) (sites : ℕ) (all : List (List (List ℕ))) → Gives rem a all
    → Advances rem a b true → Advances rem b d true → None ≡ question_in sites all
question-many rem a b d sites all gives takes more =
    let next = takes all gives in
    let last = more next.0 next.2 in
    ap (question_in sites) (sym (next.1 ∙ ap (λ l. fields_now b ∷ l) last.1))

-- ---- events that reply to nothing

pub replied-append : (xs ys : List FolderEvent) → replied_in (xs ++ ys) ≡ replied_in xs ++ replied_in ys
replied-append [] ys = refl
replied-append (Replied question text ∷ xs) ys = ap (λ t. record { question = question; text = text } ∷ t) (replied-append xs ys)
replied-append (e ∷ xs) ys = replied-append xs ys

-- what has happened since, and nothing of it is a reply
abbrev pub IsSilent : Option History → Option History → Type 0
IsSilent a b = (events : List FolderEvent) × Grows a b events × (replied_in events ≡ [])

pub silent-more : (a b c : Option History) → IsSilent a b → IsSilent b c → IsSilent a c
silent-more a b c (xs, f, e) (ys, g, k) = (xs ++ ys, grows-more a b c xs ys f g, replied-append xs ys ∙ ap (λ t. t ++ replied_in ys) e ∙ k)

keeps-silent : (bytes : List ℕ) → replied_in (map (λ b. Kept b) bytes) ≡ []
keeps-silent [] = refl
keeps-silent (b ∷ bytes) = keeps-silent bytes

pub kept-silent : (keeps : Bool) (a b : Option History) (lines : List ℕ) → KeepsLines keeps a b lines → IsSilent a b
kept-silent true a b lines (inl g) =
    (map (λ b. Kept b) lines ++ Flushed ∷ [], g, replied-append (map (λ b. Kept b) lines) (Flushed ∷ []) ∙ ap (λ t. t ++ []) (keeps-silent lines))
kept-silent true a b lines (inr g) = ([], g.0, refl)
kept-silent false a b lines g = ([], g, refl)

pub front-silent : (a b : Option History) (bytes : List ℕ) → Grows a b (map (λ b. Kept b) bytes) → IsSilent a b
front-silent a b bytes g = (map (λ b. Kept b) bytes, g, keeps-silent bytes)

answers-silent : (live : Bool) (es : List FolderEvent) (due due2 : List ℕ) → Answers live es due due2 → replied_in es ≡ []
answers-silent live [] due due2 a = refl
answers-silent live (Told b ∷ es) due due2 a = answers-silent live es (cond live (due ++ b ∷ []) due) due2 a
answers-silent live (Shown b ∷ es) due due2 a = answers-silent live es a.0 due2 a.2
answers-silent live (e ∷ es) due due2 a = absurd a

pub tells-silent : (live : Bool) (a b : Option History) {text due : List ℕ} → Tells live a b text due → IsSilent a b
tells-silent live a b {due} t = (t.0, t.1, answers-silent live t.0 [] due t.2)
