-- What a site answers to a record and to those after it, what writing a text out in part comes to, and what holding messages leaves to be written.
use Rattle.rubis_script.proofs.Common.{◌≡◌, ◌+◌, ◌-◌, ◌++◌, ◌∷◌, ℕ, Bool, List, Err, Ok, Result, false, true, length, refl, ap, ◌∙◌, subst, sym, ◌≤◌}
use Rattle.rubis_script.proofs.Common.{[], append_assoc, arith, length-append, Option, Some, None, append-nil, inl, inr, Refusal, Message, Msg}
use Rattle.rubis_script.proofs.Common.{answers, input_step, Place, Replica, arrived, input_of, Came, Asked, SiteState, TakesFirst, after_all}
use Rattle.rubis_script.proofs.Common.{rows_text, site_after, Account, AnswersRecord, Keeps, GoesOn, AreInputs, all_came, Appends, Listing, AtEnd}
use Rattle.std.specs.Prelude.{cond}
use Rattle.rubis_schema.specs.declared.refusals.Refusal.TheVariants.{Full, NotOurs}
use Rattle.rubis_message.specs.declared.answers.Arrival.{Arrival}
use Rattle.rubis_model.specs.Site.{arrived_rows, after_came, arrival_of, is_full, is_repeat, not_ours}
use Rattle.rubis_replica.specs.State.{AnswersAsTheStep, answers_to}
use Rattle.rubis_replica.specs.declared.faults.Fault.{Fault}
use Rattle.rubis_engine.proofs.TextFacts.{text-goes}
use Rattle.rubis_engine.specs.Progress.{BreaksOff, AppendsFront, IsWrittenOrWaits}
use Rattle.rubis_engine.proofs.RunFacts.{front-longer}
use Rattle.rubis_engine.specs.Rows.{more_written}
use Rattle.rubis_message.specs.declared.answers.Arrival.TheVariants as arrival
use Rattle.rubis_script.specs.Inputs.{IsAnswered, IsRefusedBy}
use Rattle.rubis_script.specs.SiteRuns.{told_by}
use Rattle.rubis_script.specs.Windows.{arrivals_rows, made_of_held, window_rows, WritesFront, WritesOff, listed_behind}
use Rattle.rubis_script.proofs.LeadFacts.{after_more}
use Rattle.rubis_message.specs.declared.requests.Request.TheVariants as request

goes_on : (p : Place) (s : Replica) (n : ℕ) (fields : List (List ℕ)) (more : List (List (List ℕ)))
    → let step = input_step p s n (input_of p.sites fields) in answers p s n (fields ∷ more) ≡ step.1 ++ answers p step.0 (n + 1) more
unfolding answers
goes_on p s n fields more = refl

pub site_goes : (old new : SiteState) (n : ℕ) (fields : List (List ℕ)) (sink sink2 : List ℕ)
    → new.place ≡ old.place → IsAnswered n (input_of old.place.sites fields) old new sink sink2
    → (more : List (List (List ℕ))) → sink ++ rows_text (answers old.place old.state n (fields ∷ more)) ≡ sink2
    ++ rows_text (answers new.place new.state (n + 1) more)
site_goes old new n fields sink sink2 place answered more =
    let step = input_step old.place old.state n (input_of old.place.sites fields) in
    ap (λ rows. sink ++ rows_text rows) (goes_on old.place old.state n fields more)
    ∙ text-goes sink sink2 step.1 (answers old.place step.0 (n + 1) more) answered.1
    ∙ (λ i. sink2 ++ rows_text (answers (sym place i) (sym answered.0 i) (n + 1) more))

-- a message that is refused changes nothing
abbrev arrived_as : Bool → Bool → Bool → Replica → Replica → Arrival → Replica × Result Arrival Refusal
arrived_as ours again full s s2 a = cond ours (s, Err NotOurs) (cond again (s, Ok arrival.Repeat) (cond full (s, Err Full) (s2, Ok a)))

arrived_stays : (ours again full : Bool) (s s2 : Replica) (a : Arrival) (r : Refusal)
    → (arrived_as ours again full s s2 a).1 ≡ Err r → (arrived_as ours again full s s2 a).0 ≡ s
arrived_stays true again full s s2 a r e = refl
arrived_stays false true full s s2 a r e = refl
arrived_stays false false true s s2 a r e = refl
arrived_stays false false false s s2 a r e = absurd cc

pub arrived_refused : (old new : SiteState) (n : ℕ) (m : Message) (fault : Fault) (before after : List ℕ)
    → AnswersAsTheStep old new (arrived old.place old.state m) (Err fault) → IsRefusedBy n fault before after
    → IsAnswered n (Came (Msg m)) old new before after
arrived_refused old new n m fault before after step (r, is, text) =
    let p = old.place in
    let s = old.state in
    let told : (new.state ≡ s) × ((arrived p s m).1 ≡ Err r) = subst (λ f. AnswersAsTheStep old new (arrived p s m) (Err f)) is step in (
      told.0 ∙ sym (arrived_stays (not_ours p s m) (is_repeat s m) (is_full p.keep s) s (after_came s m)
          (arrival_of (length (after_came s m).log - length s.log)) r told.1),
      text ∙ ap (λ a. before ++ rows_text (arrived_rows n a)) (sym told.1),
    )

-- ---- what holding messages leaves to be written, and what taking them in writes

-- ---- a message more is held

rows_more : (p : Place) (s : Replica) (n : ℕ) (w : List Message) (m : Message)
    → window_rows p s n (w ++ m ∷ []) ≡ window_rows p s n w ++ (input_step p (after_all p s w) (n + length w) (Came (Msg m))).1
rows_more p s n [] m =
    append-nil (input_step p s n (Came (Msg m))).1 ∙ ap (λ k. (input_step p s k (Came (Msg m))).1) (let e : n ≡ n + 0 = omega arith in e)
rows_more p s n (x ∷ w) m =
    let first = (input_step p s n (Came (Msg x))).1 in
    ap (λ l. first ++ l) (rows_more p (arrived p s x).0 (n + 1) w m)
    ∙ sym (append_assoc first (window_rows p (arrived p s x).0 (n + 1) w) _)
    ∙ ap (λ k. (first ++ window_rows p (arrived p s x).0 (n + 1) w) ++ (input_step p (after_all p (arrived p s x).0 w) k (Came (Msg m))).1)
    (let e : (n + 1) + length w ≡ n + length (x ∷ w) = omega arith in e)

-- the record is a message that is held too: what is to be written stays the same
rows_held : (p : Place) (s : Replica) (first n : ℕ) (w : List Message) (m : Message) (fields : List (List ℕ)) (more : List (List (List ℕ)))
    → first + length w ≡ n → input_of p.sites fields ≡ Came (Msg m)
    → window_rows p s first w ++ answers p (after_all p s w) n (fields ∷ more)
    ≡ window_rows p s first (w ++ m ∷ []) ++ answers p (after_all p s (w ++ m ∷ [])) (n + 1) more
unfolding answers
rows_held p s first n w m fields more here is =
    let step = input_step p (after_all p s w) n (Came (Msg m)) in
    let now : answers p (after_all p s w) n (fields ∷ more) ≡ step.1 ++ answers p step.0 (n + 1) more =
    ap (λ i. (input_step p (after_all p s w) n i).1 ++ answers p (input_step p (after_all p s w) n i).0 (n + 1) more) is in
    ap (λ l. window_rows p s first w ++ l) now
    ∙ sym (append_assoc (window_rows p s first w) step.1 (answers p step.0 (n + 1) more))
    ∙ (λ i. (window_rows p s first w ++ (input_step p (after_all p s w) (sym here i) (Came (Msg m))).1) ++ answers p (sym (after_more p s w m) i) (n + 1) more)
    ∙ (λ i. sym (rows_more p s first w m) i ++ answers p (after_all p s (w ++ m ∷ [])) (n + 1) more)

pub holds_more : (s : SiteState) (first n : ℕ) (w : List Message) (m : Message) (fields : List (List ℕ)) (sink : List ℕ)
    → first + length w ≡ n → input_of s.place.sites fields ≡ Came (Msg m)
    → AnswersRecord GoesOn (made_of_held s w first n) (made_of_held s (w ++ m ∷ []) first (n + 1)) sink sink fields
holds_more s first n w m fields sink here is more =
    (λ ending. ap (λ rows. sink ++ rows_text rows) (rows_held s.place s.state first n w m fields more here is), omega arith)

-- several messages more are held, which these records mean: what is to be written stays the same
pub rows_all : (p : Place) (s : Replica) (first n k : ℕ) (w ms : List Message) (rows more : List (List (List ℕ)))
    → first + length w ≡ n → k ≡ n + length rows → AreInputs p.sites rows (all_came ms)
    → window_rows p s first w ++ answers p (after_all p s w) n (rows ++ more)
    ≡ window_rows p s first (w ++ ms) ++ answers p (after_all p s (w ++ ms)) k more
unfolding AreInputs
rows_all p s first n k w [] [] more here count h =
    let last : n ≡ k = omega (arith, count) in
    (λ i. window_rows p s first (sym (append-nil w) i) ++ answers p (after_all p s (sym (append-nil w) i)) (last i) more)
rows_all p s first n k w [] (fields ∷ rows) more here count h = absurd h
rows_all p s first n k w (m ∷ ms) [] more here count h = absurd h
rows_all p s first n k w (m ∷ ms) (fields ∷ rows) more here count h =
    rows_held p s first n w m fields (rows ++ more) here h.0.means
    ∙ rows_all p s first (n + 1) k (w ++ m ∷ []) ms rows more (omega (arith, here, length-append w (m ∷ []))) (omega (arith, count)) h.1
    ∙ ap (λ v. window_rows p s first v ++ answers p (after_all p s v) k more) (append_assoc w (m ∷ []) ms)

-- and they lead on alike
pub leads_all : (p : Place) (s : Replica) (n k : ℕ) (w ms : List Message) (rows more : List (List (List ℕ)))
    → k ≡ n + length rows → AreInputs p.sites rows (all_came ms)
    → site_after p (after_all p s w) n (rows ++ more) ≡ site_after p (after_all p s (w ++ ms)) k more
unfolding AreInputs
leads_all p s n k w [] [] more count h =
    let last : n ≡ k = omega (arith, count) in
    (λ i. site_after p (after_all p s (sym (append-nil w) i)) (last i) more)
leads_all p s n k w [] (fields ∷ rows) more count h = absurd h
leads_all p s n k w (m ∷ ms) [] more count h = absurd h
leads_all p s n k w (m ∷ ms) (fields ∷ rows) more count h =
    ap (λ i. site_after p (input_step p (after_all p s w) n i).0 (n + 1) (rows ++ more)) h.0.means
    ∙ ap (λ t. site_after p t (n + 1) (rows ++ more)) (sym (after_more p s w m))
    ∙ leads_all p s (n + 1) k (w ++ m ∷ []) ms rows more (omega (arith, count)) h.1
    ∙ ap (λ v. site_after p (after_all p s v) k more) (append_assoc w (m ∷ []) ms)

-- something is made of what is held, and then the record is answered
pub kept_answers : (held mid new : Account) (sink sink2 sink3 : List ℕ) (fields : List (List ℕ)) → Keeps held mid sink sink2
    → AnswersRecord GoesOn mid new sink2 sink3 fields → AnswersRecord GoesOn held new sink sink3 fields
kept_answers held mid new sink sink2 sink3 fields keeps answers more =
    let read = (keeps (fields ∷ more)).1 in
    let one = (answers more).1 in (
      λ ending. (keeps (fields ∷ more)).0 ending ∙ (answers more).0 ending,
      omega (arith, read, one),
    )

-- ---- those that are held are taken in

told_rows : (p : Place) (s : Replica) (n : ℕ) (ms : List Message) → arrivals_rows n (answers_to p s ms) ≡ window_rows p s n ms
told_rows p s n [] = refl
told_rows p s n (m ∷ ms) = ap (λ rest. arrived_rows n (arrived p s m).1 ++ rest) (told_rows p (arrived p s m).0 (n + 1) ms)

pub answers-length : (p : Place) (s : Replica) (ms : List Message) → length (answers_to p s ms) ≡ length ms
answers-length p s [] = refl
answers-length p s (m ∷ ms) = let rest = answers-length p (arrived p s m).0 ms in omega (arith, rest)

-- no more are answered than were handed in
pub answers-few : (p : Place) (old new : Replica) (ms rest : List Message) (answers : List _) → TakesFirst p old new ms answers rest →
    length answers ≤ length ms
answers-few p old new ms rest answers t =
    let told : length answers ≡ length t.taken = ap length t.told ∙ answers-length p old t.taken in
    let whole : length ms ≡ length t.taken + length rest = ap length t.parts ∙ length-append t.taken rest in
    omega (arith, told, whole)

pub flush_keeps : (old new : SiteState) (window rest : List Message) (n first : ℕ) (told : List _) (sink sink2 : List ℕ)
    → new.place ≡ old.place → TakesFirst old.place old.state new.state window told rest → rest ≡ []
    → sink2 ≡ sink ++ rows_text (arrivals_rows first told)
    → Keeps (made_of_held old window first n) (told_by new n) sink sink2
flush_keeps old new window rest n first told sink sink2 place t none wrote more =
    let same : t.taken ≡ window = sym (t.parts ∙ ap (λ r. t.taken ++ r) none ∙ append-nil t.taken) in
    let rows = window_rows old.place old.state first window in
    let shown : arrivals_rows first told ≡ rows =
    ap (arrivals_rows first) t.told ∙ told_rows old.place old.state first t.taken ∙ ap (window_rows old.place old.state first) same in
    let left = answers old.place (after_all old.place old.state window) n more in
    let state : after_all old.place old.state window ≡ new.state = sym (t.state ∙ ap (after_all old.place old.state) same) in (
      λ ending. text-goes sink sink2 rows left (wrote ∙ ap (λ r. sink ++ rows_text r) shown)
          ∙ (λ i. sink2 ++ rows_text (answers (sym place i) (state i) n more)),
      refl,
    )

-- those that are held are taken in, and then the record is answered
pub flush_goes : (old mid new : SiteState) (w w2 : List Message) (first first2 n : ℕ) (fields : List (List ℕ)) (sink sink2 sink3 : List ℕ)
    → Keeps (made_of_held old w first n) (told_by mid n) sink sink2 → new.place ≡ mid.place → IsAnswered n (input_of mid.place.sites fields) mid new sink2 sink3
    → w2 ≡ [] → AnswersRecord GoesOn (made_of_held old w first n) (made_of_held new w2 first2 (n + 1)) sink sink3 fields
flush_goes old mid new w w2 first first2 n fields sink sink2 sink3 keeps place answered none =
    subst (λ v. AnswersRecord GoesOn (made_of_held old w first n) (made_of_held new v first2 (n + 1)) sink sink3 fields) (sym none)
    (λ more. let read = (keeps (fields ∷ more)).1 in (
      λ ending. (keeps (fields ∷ more)).0 ending ∙ site_goes mid new n fields sink2 sink3 place answered more,
      omega (arith, read),
    ))

-- where nothing is held, the rest is the site's
pub held-told : (s : SiteState) (window : List Message) (first n : ℕ) → window ≡ [] → made_of_held s window first n ≡ told_by s n
held-told s window first n none = rw none refl

pub told-kept : (all : Account) (s : SiteState) (window : List Message) (first n : ℕ) (sink sink2 : List ℕ) → window ≡ []
    → Keeps all (told_by s n) sink sink2 → Keeps all (made_of_held s window first n) sink sink2
told-kept all s window first n sink sink2 none keeps = subst (λ (a : Account). Keeps all a sink sink2) (sym (held-told s window first n none)) keeps

pub told-held : (all : Account) (s : SiteState) (window : List Message) (first n : ℕ) (sink sink2 : List ℕ) → window ≡ []
    → Keeps all (made_of_held s window first n) sink sink2 → Keeps all (told_by s n) sink sink2
told-held all s window first n sink sink2 none keeps = subst (λ (a : Account). Keeps all a sink sink2) (held-told s window first n none) keeps

-- ---- what writing a text out in part comes to

pub appends_none : (o : Option (List ℕ)) → Appends o o []
appends_none None = tt
appends_none (Some text) = sym (append-nil text)

pub appends_more : (a b c : Option (List ℕ)) (xs ys : List ℕ) → Appends a b xs → Appends b c ys → Appends a c (xs ++ ys)
appends_more None b c xs ys f g = tt
appends_more (Some x) None c xs ys f g = absurd f
appends_more (Some x) (Some y) None xs ys f g = absurd g
appends_more (Some x) (Some y) (Some z) xs ys f g = g ∙ ap (λ (t : List ℕ). t ++ ys) f ∙ append_assoc x xs ys

-- nothing was written
pub off_none : (text : List ℕ) (now now2 : Option (List ℕ)) → now2 ≡ now → WritesOff text text now now2
off_none text now now2 same = record {
  out = [];
  appended = subst (λ o. Appends now o []) (sym same) (appends_none now);
  parts = refl;
}

pub front_none : (text : List ℕ) (now now2 : Option (List ℕ)) → now2 ≡ now → WritesFront text now now2
front_none text now now2 same = (text, off_none text now now2 same)

-- all was written
pub off_all : (text left : List ℕ) (now now2 : Option (List ℕ)) → Appends now now2 text → left ≡ [] → WritesOff text left now now2
off_all text left now now2 out none = record {
  out = text;
  appended = out;
  parts = sym (ap (λ l. text ++ l) none ∙ append-nil text);
}

-- a prefix of it was written
pub off_front : (text : List ℕ) (now now2 : Option (List ℕ)) → (front : AppendsFront now now2 text) → WritesOff text front.1 now now2
off_front text now now2 front = record { out = front.0; appended = front.2; parts = sym front.3 }

-- it was written, or waits
pub off_waited : (text left : List ℕ) (now now2 : Option (List ℕ)) → IsWrittenOrWaits text left now now2 → WritesOff text left now now2
off_waited text left now now2 (inl (out, none)) = off_all text left now now2 out none
off_waited text left now now2 (inr (same, waits)) = subst (λ l. WritesOff text l now now2) (sym waits) (off_none text now now2 same)

-- more was written after it
pub off_more : (text mid left : List ℕ) (old now now2 : Option (List ℕ)) → WritesOff text mid old now → WritesOff mid left now now2 →
    WritesOff text left old now2
off_more text mid left old now now2 first second = record {
  out = first.out ++ second.out;
  appended = appends_more old now now2 first.out second.out first.appended second.appended;
  parts = first.parts ∙ ap (λ t. first.out ++ t) second.parts ∙ sym (append_assoc first.out second.out left);
}

-- ---- a listing is the answer to record n

-- the messages that were held are taken in, and the record is answered
pub listed_goes : (old mid new : SiteState) (w w2 : List Message) (first first2 n : ℕ) (l : Listing) (fields : List (List ℕ)) (sink sink2 : List ℕ)
    → Keeps (made_of_held old w first n) (told_by mid n) sink sink2 → new.place ≡ mid.place → new.state ≡ mid.state → w2 ≡ []
    → input_of mid.place.sites fields ≡ Asked (request.List l)
    → AnswersRecord GoesOn (made_of_held old w first n) (made_of_held new w2 first2 (n + 1)) sink (listed_behind sink2 mid n l) fields
listed_goes old mid new w w2 first first2 n l fields sink sink2 keeps place state none input =
    flush_goes old mid new w w2 first first2 n fields sink sink2 (listed_behind sink2 mid n l) keeps place
    (subst (λ i. IsAnswered n i mid new sink2 (listed_behind sink2 mid n l)) (sym input) (state, refl)) none

-- the front of the answer was written
pub listed_front : (old mid : SiteState) (w : List Message) (first n : ℕ) (l : Listing) (fields : List (List ℕ)) (sink sink2 : List ℕ)
    (now now2 : Option (List ℕ)) → Keeps (made_of_held old w first n) (told_by mid n) sink sink2 → input_of mid.place.sites fields ≡ Asked (request.List l)
    → WritesFront (listed_behind sink2 mid n l) now now2 → BreaksOff (made_of_held old w first n) sink fields now now2
listed_front old mid w first n l fields sink sink2 now now2 keeps input (left, off) more =
    let answers = listed_goes old mid mid w [] first first n l fields sink sink2 keeps refl refl refl input in
    subst (AppendsFront now now2) (sym ((answers more).0 AtEnd))
    (front-longer now now2 (listed_behind sink2 mid n l) ((made_of_held mid [] first (n + 1)).text AtEnd more) (off.out, left, off.appended, sym off.parts))

-- ---- the rows of a listing

-- some first rows were added, and text was written out
pub rows_part : (sink sink2 sink3 : List ℕ) (rows first left : List (List (List ℕ))) (now now2 : Option (List ℕ)) → rows ≡ first ++ left
    → sink2 ≡ sink ++ rows_text first → WritesOff sink2 sink3 now now2 → WritesOff (sink ++ rows_text rows) (sink3 ++ rows_text left) now now2
rows_part sink sink2 sink3 rows first left now now2 split added off = record {
  out = off.out;
  appended = off.appended;
  parts = ap (λ rs. sink ++ rows_text rs) split ∙ sym (more_written first left sink sink2 (sink2 ++ rows_text left) added refl)
      ∙ ap (λ t. t ++ rows_text left) off.parts ∙ append_assoc off.out sink3 (rows_text left);
}

pub rows_end : (text sink : List ℕ) (rows : List (List (List ℕ))) (now now2 : Option (List ℕ)) → rows ≡ [] → WritesOff text (sink ++ rows_text rows) now now2
    → WritesOff text sink now now2
rows_end text sink rows now now2 none off =
    subst (λ t. WritesOff text t now now2) (ap (λ rs. sink ++ rows_text rs) none ∙ append-nil sink) off
