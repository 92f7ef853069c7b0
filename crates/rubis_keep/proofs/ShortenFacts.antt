-- Records that change nothing where they are read.
use Rattle.rubis_keep.proofs.Common.{◌≡◌, ◌∙◌, ◌++◌, ◌∷◌, [], ℕ, Bool, true, false, cond, drop, eqb, get_or, length, take, ◌<◌, ◌+◌, List, Option}
use Rattle.rubis_keep.proofs.Common.{inl, inr, refl, sym, ap, subst, append_assoc, input_records, Advances, Gives, fields_now, Records, KeyedSite, keyed_input}
use Rattle.rubis_keep.proofs.Common.{Place, Replica, next_record, records_from, strip_bom, Appends, Consumes, IsAtEnd, IsTrue, None, Some}
use Rattle.rubis_keep.proofs.Common.{take_more}
use Rattle.std.proofs.Common.{append-nil}
use Rattle.std.specs.Prelude.{Err, IfOk, Ok, Result, bytes_eq, codes, ⊤}
use Rattle.std.specs.Cmp.Lexicographic.{bytes_decides}
use Rattle.rubis_message.specs.Inputs.{input_of}
use Rattle.rubis_message.specs.declared.inputs.Input.{Input}
use Rattle.rubis_message.specs.declared.inputs.Input.TheVariants.{Neither}
use Rattle.rubis_model.specs.Site.{input_step}
use Rattle.rubis_keys.proofs.BareFacts.{key_is_neither, plain_is}
use Rattle.rubis_keys.specs.Keys.{Keys, is_key, keyed_step, under}
use Rattle.rubis_script.specs.Replica.{SiteState}
use Rattle.rubis_keys.specs.declared.inputs.KeyedInput.{KeyedInput}
use Rattle.rubis_keys.specs.declared.inputs.KeyedInput.TheVariants.{Plain, AskedUnder, CameUnder}
use Rattle.std.proofs.lemmas.List.{take-append-drop}
use Rattle.rubis_keep.specs.Lines.{HasSoundLines, begun_after, is_sound, whole_lines, HasWholeRecords}
use Rattle.rubis_keep.specs.Shortened.{IsShort, LeavesOut, Shortens, TakesRecord, TakesRecords, after_record, state_by}
use Rattle.rubis_keep.proofs.LineFacts.{begun-append}
use Rattle.rubis_keep.proofs.SoundFacts.{records-append, begun-line, begun-no-end, sound-append, sound-back, sound-front, sound-kept, sound-line}
use Rattle.rubis_keep.proofs.SoundFacts.{whole-append-after, whole-rest, kept-whole, sound-whole}

-- ---- records that follow others

pub after-append : (keyed : Bool) (p : Place) (s : KeyedSite) (xs ys : List (List (List ℕ)))
    → state_by keyed p s (xs ++ ys) ≡ state_by keyed p (state_by keyed p s xs) ys
after-append keyed p s [] ys = refl
after-append keyed p s (x ∷ xs) ys = after-append keyed p (after_record keyed p s x) xs ys

pub leaves-append : (keyed : Bool) (p : Place) (s : KeyedSite) (a b xs ys : List (List (List ℕ))) → LeavesOut keyed p s a xs
    → LeavesOut keyed p (state_by keyed p s xs) b ys → LeavesOut keyed p s (a ++ b) (xs ++ ys)
leaves-append keyed p s a b [] ys h k = subst (λ t. LeavesOut keyed p s (t ++ b) ys) (sym h) k
leaves-append keyed p s a b (x ∷ xs) ys (inl h) k =
    inl (h.0, leaves-append keyed p s a b xs ys h.1 (subst (λ t. LeavesOut keyed p (state_by keyed p t xs) b ys) h.0 k))
leaves-append keyed p s a b (x ∷ xs) ys (inr h) k =
    inr (h.0 ++ b, ap (λ t. t ++ b) h.1, leaves-append keyed p (after_record keyed p s x) h.0 b xs ys h.2 k)

-- nothing has to be left out
pub leaves-none : (keyed : Bool) (p : Place) (s : KeyedSite) (records : List (List (List ℕ))) → LeavesOut keyed p s records records
leaves-none keyed p s [] = refl
leaves-none keyed p s (x ∷ records) = inr (records, refl, leaves-none keyed p (after_record keyed p s x) records)

-- what is left leads where all of it leads
pub leaves-state : (keyed : Bool) (p : Place) (s : KeyedSite) (short full : List (List (List ℕ))) → LeavesOut keyed p s short full
    → state_by keyed p s short ≡ state_by keyed p s full
leaves-state keyed p s short [] h = ap (state_by keyed p s) h
leaves-state keyed p s short (x ∷ full) (inl h) = leaves-state keyed p s short full h.1 ∙ ap (λ t. state_by keyed p t full) (sym h.0)
leaves-state keyed p s short (x ∷ full) (inr h) = ap (state_by keyed p s) h.1 ∙ leaves-state keyed p (after_record keyed p s x) h.0 full h.2

-- ---- a record

-- one without a key
pub plain-taken : {E : Type 0} (r : Result Bool E) (keyed : Bool) (old new : SiteState) (keys : Keys) (fields : List (List ℕ)) (i : Input)
    → keyed_input old.place.sites fields ≡ Plain i → IfOk r (TakesRecord old new i)
    → IfOk r (TakesRecords keyed old.place (record { site = old.state; keys = keys }) (record { site = new.state; keys = keys }) (fields ∷ []))
plain-taken (Err e) keyed old new keys fields i is h = tt
plain-taken (Ok changed) keyed old new keys fields i is (led, same) =
    let s : KeyedSite = record { site = old.state; keys = keys } in
    let step : after_record keyed old.place s fields ≡ record s { site = (input_step old.place old.state 1 i).0 } =
    ap (λ x. (keyed_step old.place s 1 x).0) (at keyed) in (
      ap (λ (t : Replica). record s { site = t }) led ∙ sym step,
      λ none. inl (step ∙ ap (λ (t : Replica). record s { site = t }) (same none), refl),
    )
  where
    at : (b : Bool) → cond b (keyed_input old.place.sites fields) (Plain (input_of old.place.sites fields)) ≡ Plain i
    at true = is
    at false = ap (λ x. Plain x) (plain_is old.place.sites fields i is)

-- where there are no keys it is malformed
abbrev pub HasKey : KeyedInput → Type 0
HasKey (Plain i) = ⊥
HasKey (AskedUnder key a) = ⊤
HasKey (CameUnder key m) = ⊤

malformed : (sites : ℕ) (fields : List (List ℕ)) → HasKey (keyed_input sites fields) → input_of sites fields ≡ Neither
malformed sites [] h = absurd h
malformed sites (word ∷ []) h = absurd h
malformed sites (word ∷ key ∷ rest) h = at (bytes_eq word (codes "key")) (bytes_decides word (codes "key")).0 h
  where
    at : (b : Bool) → (b ≡ true → word ≡ codes "key")
        → HasKey (cond b (cond (is_key key) (under key (input_of sites rest)) (Plain Neither)) (Plain (input_of sites (word ∷ key ∷ rest))))
        → input_of sites (word ∷ key ∷ rest) ≡ Neither
    at true w h = ap (λ x. input_of sites (x ∷ key ∷ rest)) (w refl) ∙ key_is_neither sites key rest
    at false w h = absurd h

pub none-taken : (keyed : Bool) (p : Place) (s : KeyedSite) (fields : List (List ℕ)) (i : KeyedInput) → keyed ≡ false → keyed_input p.sites fields ≡ i → HasKey i
    → TakesRecords keyed p s s (fields ∷ []) false
none-taken keyed p s fields i off is has =
    let none : after_record false p s fields ≡ s =
    ap (λ x. (keyed_step p s 1 (Plain x)).0) (malformed p.sites fields (subst HasKey (sym is) has)) in
    subst (λ b. TakesRecords b p s s (fields ∷ []) false) (sym off) (sym none, λ same. inl (none, refl))

-- ---- the records of a line so far

pub record SoFar {R : Type 0} (rem : R → Option (List ℕ)) (records : Records R) (all : List (List (List ℕ))) (keyed : Bool) (p p2 : Place)
    (old new : KeyedSite) (changed : Bool) : Type 0 where
  pub done : List (List (List ℕ))
  pub rest : List (List (List ℕ))
  pub parts : all ≡ done ++ rest
  pub gives : Gives rem records rest
  pub place : p2 ≡ p
  pub takes : TakesRecords keyed p old new done changed

pub line-starts : {R : Type 0} (rem : R → Option (List ℕ)) (records : Records R) (all : List (List (List ℕ))) (keyed : Bool) (p : Place) (old : KeyedSite)
    → Gives rem records all → SoFar rem records all keyed p p old old false
line-starts rem records all keyed p old gives =
    record { done = []; rest = all; parts = refl; gives = gives; place = refl; takes = (refl, λ same. refl) }

pub line-ends : {R : Type 0} {rem : R → Option (List ℕ)} {a : Records R} (b : Records R) {all : List (List (List ℕ))} {keyed : Bool} {p p2 : Place}
    {old new : KeyedSite} {changed : Bool} → SoFar rem a all keyed p p2 old new changed → Advances rem a b false → TakesRecords keyed p old new all changed
line-ends b {all} {keyed} {p} {old} {new} {changed} s end =
    let whole : all ≡ s.done = s.parts ∙ ap (λ t. s.done ++ t) (end s.rest s.gives) ∙ append-nil s.done in
    subst (λ records. TakesRecords keyed p old new records changed) (sym whole) s.takes

-- one record more: the line changed something if it did before, or if this record does
pub line-more : {R : Type 0} {rem : R → Option (List ℕ)} {a : Records R} (b : Records R) {all : List (List (List ℕ))} {keyed : Bool} {p p2 : Place} (p3 : Place)
    {old mid : KeyedSite} (new : KeyedSite) {before : Bool} (now after : Bool) → SoFar rem a all keyed p p2 old mid before → Advances rem a b true → p3 ≡ p2
    → TakesRecords keyed p2 mid new (fields_now b ∷ []) now → (after ≡ false → before ≡ false) → (after ≡ false → now ≡ false)
    → SoFar rem b all keyed p p3 old new after
line-more b {keyed = keyed} {p} p3 {old} {mid} new now after s takes place took f g =
    let next = takes s.rest s.gives in
    let one = fields_now b ∷ [] in
    let here = subst (λ q. TakesRecords keyed q mid new one now) s.place took in
    record {
      done = s.done ++ one;
      rest = next.0;
      parts = s.parts ∙ ap (λ t. s.done ++ t) next.1 ∙ sym (append_assoc s.done one next.0);
      gives = next.2;
      place = place ∙ s.place;
      takes = (
        here.0 ∙ ap (λ t. state_by keyed p t one) s.takes.0 ∙ sym (after-append keyed p old s.done one),
        λ same. leaves-append keyed p old [] [] s.done one (s.takes.1 (f same)) (subst (λ t. LeavesOut keyed p t [] one) s.takes.0 (here.1 (g same))),
      );
    }

-- ---- line after line

whole-of : (text : List ℕ) → HasSoundLines [] text → HasWholeRecords (whole_lines text)
whole-of text h = subst HasWholeRecords (sound-kept [] text h) (kept-whole false [] text)

text-whole : {text : List ℕ} → HasSoundLines [] text → begun_after [] text ≡ [] → HasWholeRecords text
text-whole {text} h e = subst HasWholeRecords (sym (append-nil (whole_lines text)) ∙ ap (λ t. whole_lines text ++ t) (sym e) ∙ whole-rest [] text) (whole-of text h)

-- a line that is begun in a text has no line end
line-ended : {line : List ℕ} (done : List ℕ) → line ≡ begun_after [] done → begun_after [] (line ++ 10 ∷ []) ≡ []
line-ended done e = ap (λ l. begun_after [] (l ++ 10 ∷ [])) e ∙ begun-line [] (begun_after [] done) (begun-no-end [] done tt)

line-sound : {line : List ℕ} (done : List ℕ) → line ≡ begun_after [] done → IsTrue (is_sound line) → HasSoundLines [] (line ++ 10 ∷ [])
line-sound done e s =
    subst (λ l. HasSoundLines [] (l ++ 10 ∷ [])) (sym e) (sound-line [] (begun_after [] done) [] (begun-no-end [] done tt) (subst (λ l. IsTrue (is_sound l)) e s) tt)

told-more : (changed : Bool) (told text line : List ℕ) → cond changed ((told ++ text) ++ line) (told ++ text) ≡ told ++ cond changed (text ++ line) text
told-more true told text line = append_assoc told text line
told-more false told text line = refl

pub done_more : (done piece : List ℕ) (i : ℕ) → i < length piece → done ++ take (i + 1) piece ≡ (done ++ take i piece) ++ get_or piece i 0 ∷ []
done_more done piece i h = ap (λ t. done ++ t) (take_more piece i 0 h) ∙ sym (append_assoc done (take i piece) (get_or piece i 0 ∷ []))

pub front-sound : (done piece : List ℕ) (n : ℕ) → HasSoundLines [] (done ++ piece) → HasSoundLines [] (done ++ take n piece)
front-sound done piece n h =
    sound-front [] (done ++ take n piece) (drop n piece)
    (subst (HasSoundLines []) (ap (λ t. done ++ t) (sym (take-append-drop n piece)) ∙ sym (append_assoc done (take n piece) (drop n piece))) h)

module _ {keyed : Bool} where
  -- a byte that ends no line
  short-byte : {p : Place} {s state : KeyedSite} {done line text : List ℕ} (b : ℕ) → eqb b 10 ≡ false → IsShort keyed p s done line text state
      → IsShort keyed p s (done ++ b ∷ []) (line ++ b ∷ []) text state
  short-byte {p} {s} {done} {text} b e h =
      let lines : whole_lines (done ++ b ∷ []) ≡ whole_lines done =
      whole-append-after [] done (b ∷ []) ∙ ap (λ t. whole_lines done ++ cond t ((begun_after [] done ++ 10 ∷ []) ++ []) []) e ∙ append-nil (whole_lines done) in
      record {
        begun = ap (λ t. t ++ b ∷ []) h.begun ∙ sym (begun-append [] done (b ∷ []) ∙ ap (λ t. cond t [] (begun_after [] done ++ b ∷ [])) e);
        reached = h.reached ∙ ap (λ t. state_by keyed p s (input_records t)) (sym lines);
        short = subst (λ t. LeavesOut keyed p s (input_records text) (input_records t)) (sym lines) h.short;
        sound = h.sound;
        ends = h.ends;
      }

  -- a line ends, whose records were taken
  short-line : {p : Place} {s state state2 : KeyedSite} {done line text : List ℕ} (changed : Bool) → HasSoundLines [] (done ++ 10 ∷ [])
      → IsShort keyed p s done line text state → state2 ≡ state_by keyed p state (input_records (line ++ 10 ∷ []))
      → (changed ≡ false → LeavesOut keyed p state [] (input_records (line ++ 10 ∷ []))) → IsShort keyed p s (done ++ 10 ∷ []) []
      (cond changed (text ++ (line ++ 10 ∷ [])) text) state2
  short-line {p} {s} {state} {state2} {done} {line} {text} changed all h after same =
      let front = sound-front [] done (10 ∷ []) all in
      let last : HasSoundLines line (10 ∷ []) = subst (λ l. HasSoundLines l (10 ∷ [])) (sym h.begun) (sound-back [] done (10 ∷ []) all) in
      let whole = sound-whole line last.0 in
      let lines : whole_lines (done ++ 10 ∷ []) ≡ whole_lines done ++ (line ++ 10 ∷ []) =
      whole-append-after [] done (10 ∷ [])
      ∙ ap (λ t. whole_lines done ++ t) (append-nil (begun_after [] done ++ 10 ∷ []) ∙ ap (λ t. t ++ 10 ∷ []) (sym h.begun)) in
      let records : input_records (whole_lines (done ++ 10 ∷ [])) ≡ input_records (whole_lines done) ++ input_records (line ++ 10 ∷ []) =
      ap input_records lines ∙ records-append (line ++ 10 ∷ []) (whole-of done front) whole.unmarked in
      let reached : state2 ≡ state_by keyed p s (input_records (whole_lines (done ++ 10 ∷ []))) =
      after ∙ ap (λ t. state_by keyed p t (input_records (line ++ 10 ∷ []))) h.reached
      ∙ sym (after-append keyed p s (input_records (whole_lines done)) (input_records (line ++ 10 ∷ []))) ∙ ap (state_by keyed p s) (sym records) in
      let begun : [] ≡ begun_after [] (done ++ 10 ∷ []) = sym (begun-append [] done (10 ∷ [])) in
      elim changed as (λ c. (c ≡ false → LeavesOut keyed p state [] (input_records (line ++ 10 ∷ []))) →
      IsShort keyed p s (done ++ 10 ∷ []) [] (cond c (text ++ (line ++ 10 ∷ [])) text) state2) [
        | true ↦ λ f. record {
          begun = begun;
          reached = reached;
          short = subst (LeavesOut keyed p s (input_records (text ++ (line ++ 10 ∷ [])))) (sym records)
              (subst (λ t. LeavesOut keyed p s t (input_records (whole_lines done) ++ input_records (line ++ 10 ∷ [])))
              (sym (records-append (line ++ 10 ∷ []) (text-whole h.sound h.ends) whole.unmarked))
              (leaves-append keyed p s (input_records text) (input_records (line ++ 10 ∷ [])) (input_records (whole_lines done))
              (input_records (line ++ 10 ∷ [])) h.short
              (leaves-none keyed p (state_by keyed p s (input_records (whole_lines done))) (input_records (line ++ 10 ∷ [])))));
          sound = sound-append [] text (line ++ 10 ∷ []) h.sound (subst (λ l. HasSoundLines l (line ++ 10 ∷ [])) (sym h.ends) (line-sound done h.begun last.0));
          ends = begun-append [] text (line ++ 10 ∷ []) ∙ ap (λ l. begun_after l (line ++ 10 ∷ [])) h.ends ∙ line-ended done h.begun;
        }
        | false ↦ λ f. record {
          begun = begun;
          reached = reached;
          short = subst (LeavesOut keyed p s (input_records text)) (sym records)
              (subst (λ t. LeavesOut keyed p s t (input_records (whole_lines done) ++ input_records (line ++ 10 ∷ []))) (append-nil (input_records text))
              (leaves-append keyed p s (input_records text) [] (input_records (whole_lines done)) (input_records (line ++ 10 ∷ [])) h.short
              (subst (λ t. LeavesOut keyed p t [] (input_records (line ++ 10 ∷ []))) h.reached (f refl))));
          sound = h.sound;
          ends = h.ends;
        }
      ] same

  pub next-line : {p : Place} {s state state2 : KeyedSite} {done : List ℕ} (told : List ℕ) {line : List ℕ} (text : List ℕ) {text2 : List ℕ} (changed : Bool)
      → HasSoundLines [] (done ++ 10 ∷ []) → IsShort keyed p s done line (told ++ text) state → state2 ≡ state_by keyed p state (input_records (line ++ 10 ∷ []))
      → (changed ≡ false → LeavesOut keyed p state [] (input_records (line ++ 10 ∷ []))) → text2 ≡ cond changed (text ++ (line ++ 10 ∷ [])) text
      → IsShort keyed p s (done ++ 10 ∷ []) [] (told ++ text2) state2
  next-line {p} {s} {state2} {done} told {line} text changed all h after same e =
      subst (λ t. IsShort keyed p s (done ++ 10 ∷ []) [] t state2) (told-more changed told text (line ++ 10 ∷ []) ∙ ap (λ t. told ++ t) (sym e))
      (short-line changed all h after same)

  pub next-byte : {p : Place} {s state : KeyedSite} {done line line2 text : List ℕ} (b : ℕ) → eqb b 10 ≡ false → line2 ≡ line ++ b ∷ []
      → IsShort keyed p s done line text state → IsShort keyed p s (done ++ b ∷ []) line2 text state
  next-byte {p} {s} {state} {done} {text} b e f h = subst (λ l. IsShort keyed p s (done ++ b ∷ []) l text state) (sym f) (short-byte b e h)

  pub short-starts : (p : Place) (s : KeyedSite) → IsShort keyed p s [] [] [] s
  unfolding input_records records_from strip_bom next_record
  short-starts p s = record { begun = refl; reached = refl; short = refl; sound = tt; ends = refl }

  -- more was read, taken and written
  pub short-more : (p : Place) (s state state2 : KeyedSite) (bytes more line line2 told text : List ℕ) → (HasSoundLines [] bytes → IsShort keyed p s bytes line told state)
      → ((done told2 : List ℕ) → HasSoundLines [] (done ++ more) → IsShort keyed p s done line (told2 ++ []) state → IsShort keyed p s (done ++ more) line2 (told2 ++ text) state2)
      → HasSoundLines [] (bytes ++ more) → IsShort keyed p s (bytes ++ more) line2 (told ++ text) state2
  short-more p s state state2 bytes more line line2 told text h k sound =
      k bytes told sound (subst (λ t. IsShort keyed p s bytes line t state) (sym (append-nil told)) (h (sound-front [] bytes more sound)))

  pub short-ends : (p : Place) (s state : KeyedSite) (past mid past2 fresh fresh2 : Option (List ℕ)) (bytes : List ℕ) {last : List ℕ} (line : List ℕ)
      {told : List ℕ} → Consumes past mid bytes → Consumes mid past2 last → last ≡ [] → IsAtEnd past2 → Appends fresh fresh2 told
      → (HasSoundLines [] bytes → IsShort keyed p s bytes line told state) → Shortens keyed p s past fresh fresh2
  short-ends p s state past mid past2 fresh fresh2 bytes {last} line {told} c d none end a h kept is sound =
      let all : kept ≡ bytes = read-all past mid past2 bytes last kept c d none end is in
      let short = h (subst (HasSoundLines []) all sound) in
      (told, a, subst (λ t. LeavesOut keyed p s (input_records told) (input_records (whole_lines t))) (sym all) short.short, short.sound, short.ends)
    where
      read-all : (past mid past2 : Option (List ℕ)) (bytes last kept : List ℕ) → Consumes past mid bytes → Consumes mid past2 last → last ≡ [] → IsAtEnd past2 →
          past ≡ Some kept → kept ≡ bytes
      read-all None mid past2 bytes last kept c d none end is = absurd (cc is)
      read-all (Some x) None past2 bytes last kept c d none end is = absurd c
      read-all (Some x) (Some y) None bytes last kept c d none end is = absurd d
      read-all (Some x) (Some y) (Some z) bytes last kept c d none end is =
          let rest : y ≡ [] = d ∙ ap (λ t. t ++ z) none ∙ end in
          let same : kept ≡ x = cc is in
          same ∙ c ∙ ap (λ t. bytes ++ t) rest ∙ append-nil bytes

  -- the same where the site is at the same place
  pub at-place : {p p2 : Place} {s state : KeyedSite} (state2 : KeyedSite) {done : List ℕ} (done2 : List ℕ) {line : List ℕ} (line2 : List ℕ) {text : List ℕ}
      (text2 : List ℕ) → p2 ≡ p → (IsShort keyed p2 s done line text state → IsShort keyed p2 s done2 line2 text2 state2) → IsShort keyed p s done line text state
      → IsShort keyed p s done2 line2 text2 state2
  at-place {s} {state} state2 {done} done2 {line} line2 {text} text2 e k h =
      subst (λ q. IsShort keyed q s done2 line2 text2 state2) e (k (subst (λ q. IsShort keyed q s done line text state) (sym e) h))

  pub piece-taken : {p p2 : Place} {s state : KeyedSite} (state2 : KeyedSite) {line : List ℕ} (line2 start text more : List ℕ) → p2 ≡ p → start ≡ []
      → ((s2 : KeyedSite) (done told : List ℕ) → HasSoundLines [] (done ++ more) → IsShort keyed p2 s2 done line (told ++ start) state
      → IsShort keyed p2 s2 (done ++ more) line2 (told ++ text) state2) → (done told : List ℕ) → HasSoundLines [] (done ++ more) → IsShort keyed p s done line (told ++ []) state
      → IsShort keyed p s (done ++ more) line2 (told ++ text) state2
  piece-taken {p} {s} {state} state2 {line} line2 start text more e none k done told sound h =
      at-place state2 (done ++ more) line2 (told ++ text) e (k s done told sound) (subst (λ t. IsShort keyed p s done line (told ++ t) state) (sym none) h)

  -- a line ends with this byte, and its records were taken
  pub line-taken : (p : Place) (old new : KeyedSite) {s : KeyedSite} {done : List ℕ} (told : List ℕ) {line pushed seen line2 : List ℕ} (text : List ℕ) {text2 : List ℕ}
      {byte : ℕ} (changed : Bool) → byte ≡ 10 → HasSoundLines [] (done ++ byte ∷ []) → IsShort keyed p s done line (told ++ text) old
      → pushed ≡ line ++ byte ∷ [] → seen ≡ pushed → TakesRecords keyed p old new (input_records seen) changed → text2 ≡ cond changed (text ++ seen) text → line2 ≡ []
      → IsShort keyed p s (done ++ byte ∷ []) line2 (told ++ text2) new
  line-taken p old new {s} {done} told {line} {seen} {line2} text {text2} changed end sound h one two takes add none =
      let at_end : seen ≡ line ++ 10 ∷ [] = two ∙ one ∙ ap (λ b. line ++ b ∷ []) end in
      let taken = subst (λ t. TakesRecords keyed p old new (input_records t) changed) at_end takes in
      subst (λ b. IsShort keyed p s (done ++ b ∷ []) line2 (told ++ text2) new) (sym end)
      (subst (λ l. IsShort keyed p s (done ++ 10 ∷ []) l (told ++ text2) new) (sym none)
      (next-line told text changed (subst (λ b. HasSoundLines [] (done ++ b ∷ [])) end sound) h taken.0 taken.1
      (add ∙ ap (λ t. cond changed (text ++ t) text) at_end)))
