-- How records are answered, and many together.
use Rattle.rubis_keep.proofs.Common.{◌≡◌, ◌==◌, true, ◌∙◌, ◌≤◌, ◌+◌, ◌⊎◌, inl, inr, ◌++◌, ◌∷◌, [], ℕ, Bool, List, Option, Some, None, length, refl}
use Rattle.rubis_keep.proofs.Common.{sym, ap, subst, arith, append_assoc, length-append, append-nil, AtEnd, Err, input_records, goes-tears}
use Rattle.rubis_keep.proofs.Common.{tears-as, at}
use Rattle.rubis_engine.specs.Progress.{ByEnd}
use Rattle.rubis_engine.specs.declared.fault.RunFault.{RunFault}
use Rattle.rubis_engine.specs.declared.fault.Count.{Count}
use Rattle.rubis_keys.specs.Desks.{standing_at}
use Rattle.rubis_keys.specs.declared.desk.KeyedDesk.{KeyedDesk}
use Rattle.rubis_serving.proofs.GoFacts.{tears-none}
use Rattle.rubis_serving.specs.Serving.{AreAnswered, At, Fills, Goes, IsSettled, Tears}
use Rattle.rubis_engine.specs.declared.fault.RunFault.TheVariants as run
use Rattle.rubis_keep.specs.Telling.{tells-none}
use Rattle.rubis_keep.specs.Turns.{Answering, Fed, HasFed, HasStopped, IsCause, IsUnlike, PutsFront, Stopped, clerk_at, still_to_put, noted_fault, kept_run, met, with_held}
use Rattle.rubis_keep.specs.Faults.{MayDiffer, IsFailure}
use Rattle.rubis_keep.specs.History.{History, Tells, told_of}
use Rattle.rubis_keep.specs.Outlets.{answers_are_outlets, counts-more, counts-none, front-none, over-no_text, over-text}
use Rattle.rubis_keep.specs.Shortened.{state_after}
use Rattle.rubis_keep.specs.declared.answers.Answers.{Answers}
use Rattle.rubis_keep.specs.declared.fault.KeepFault.{KeepFault}
use Rattle.rubis_keep.specs.declared.fault.KeepFault.TheVariants as fault
use Rattle.rubis_keep.specs.declared.site.Clerk.{Clerk}
use Rattle.rubis_keep.proofs.AskFacts.{states-alike}
use Rattle.rubis_keep.proofs.HistoryFacts.{cancel}
use Rattle.rubis_keep.proofs.PutFacts.{empty-is, front-behind, torn-of, unlike-later}
use Rattle.rubis_keep.proofs.SoundFacts.{none-read}
use Rattle.rubis_keep.proofs.ShortenFacts.{after-append}

-- ---- records

pub fed-none : (x : Answering) → Fed [] x x [] []
fed-none x = record {
  says = λ e m. refl;
  put = over-no_text x.before;
  counted = counts-none x.lines;
  place = refl;
  state = refl;
  count = omega arith;
  limit = refl;
  live = refl;
}

pub fed-more : {rows rows2 : List (List (List ℕ))} {x y z : Answering} {text text2 added added2 : List ℕ} → Fed rows x y text added → Fed rows2 y z text2 added2
    → Fed (rows ++ rows2) x z (text ++ text2) (added ++ added2)
fed-more {rows} {rows2} {x} {y} {z} {text} {text2} {added} {added2} f g =
    let size = length-append rows rows2 in
    record {
      says = λ e m. ap (still_to_put x e) (append_assoc rows rows2 m) ∙ f.says e (rows2 ++ m) ∙ ap (λ t. text ++ t) (g.says e m)
          ∙ sym (append_assoc text text2 (still_to_put z e m));
      put = over-text x.before y.before z.before added added2 text text2 f.put g.put;
      counted = counts-more x.lines y.lines z.lines added added2 text text2 f.counted g.counted;
      place = g.place ∙ f.place;
      state = g.state ∙ (λ i. state_after (f.place i) (f.state i) rows2) ∙ sym (after-append true x.place (with_held x.place x.state x.held) rows rows2);
      count = omega (arith, f.count, g.count, size);
      limit = g.limit ∙ f.limit;
      live = g.live ∙ f.live;
    }

-- ---- a fault

cause-later : {rows : List (List (List ℕ))} (rows2 : List (List (List ℕ))) {x y : Answering} {text added : List ℕ} (e : KeepFault) → Fed rows x y text added → IsCause rows2 y e
    → IsCause (rows ++ rows2) x e
cause-later {rows} rows2 {x} {y} {text} {added} (fault.Differs d) f h =
    λ m. subst (λ t. IsUnlike x.before x.lines t d) (sym (ap (still_to_put x AtEnd) (append_assoc rows rows2 m) ∙ f.says AtEnd (rows2 ++ m)))
    (unlike-later x.before y.before x.lines y.lines added text (still_to_put y AtEnd (rows2 ++ m)) d f.put f.counted (h m))
cause-later {rows} rows2 fault.TooLong f h = let size = length-append rows rows2 in omega (arith, h, f.count, f.limit, size)
cause-later rows2 (fault.Edited n) f h = absurd h
cause-later rows2 e f h = h

failure-cause : (rows : List (List (List ℕ))) (x : Answering) (e : KeepFault) → IsFailure e → IsCause rows x e
failure-cause rows x (fault.Differs d) h = absurd h
failure-cause rows x fault.TooLong h = absurd h
failure-cause rows x e h = h

pub stopped-failed : (rows : List (List (List ℕ))) (x : Answering) (e : KeepFault) → IsFailure e → Stopped rows x [] e
stopped-failed rows x e fails = record { begins = λ m. front-none x.before (still_to_put x AtEnd (rows ++ m)); cause = failure-cause rows x e fails }

pub stopped-later : {rows rows2 : List (List (List ℕ))} {x y : Answering} {text added added2 : List ℕ} {e : KeepFault} → Fed rows x y text added
    → Stopped rows2 y added2 e → Stopped (rows ++ rows2) x (added ++ added2) e
stopped-later {rows} {rows2} {x} {y} {text} {added} {added2} {e} f s = record {
  begins = λ m. front-behind x.before y.before added added2 text (still_to_put x AtEnd ((rows ++ rows2) ++ m)) (still_to_put y AtEnd (rows2 ++ m)) f.put
      (ap (still_to_put x AtEnd) (append_assoc rows rows2 m) ∙ f.says AtEnd (rows2 ++ m)) (s.begins m);
  cause = cause-later rows2 e f s.cause;
}

-- ---- with what was told

-- a text of no bytes has none
pub feeds-empty : (text : List ℕ) (x : Answering) (a : Option History) → (length text == 0) ≡ true → HasFed (input_records text) x x a a
feeds-empty text x a none =
    subst (λ r. HasFed r x x a a) (sym (ap input_records (empty-is text none) ∙ none-read)) ([], [], fed-none x, tells-none x.is_live a)

-- ---- as the run of a desk goes

-- what was added when something failed is the same whatever comes
told-once : (live : Bool) (o n : Option History) (old : Option (List ℕ)) (texts : List (List (List ℕ)) → List ℕ)
    → ((more : List (List (List ℕ))) → (added : List ℕ) × PutsFront old added (texts more) × ((due : List ℕ) × Tells live o n added due))
    → (added : List ℕ) × ((more : List (List (List ℕ))) → PutsFront old added (texts more)) × ((due : List ℕ) × Tells live o n added due)
told-once live None n old texts h = ([], λ more. front-none old (texts more), ([], ([], tt, refl, refl)))
told-once live (Some s) None old texts h = absurd (h []).2.1.1
told-once live (Some s) (Some s2) old texts h =
    let first = h [] in (
      first.0,
      λ more.
          let other = h more in
          let events : other.2.1.0 ≡ first.2.1.0 = cancel s.events other.2.1.0 first.2.1.0 (ap (λ (t : History). t.events) (sym other.2.1.1 ∙ first.2.1.1)) in
          subst (λ t. PutsFront old t (texts more)) (sym other.2.1.3 ∙ ap told_of events ∙ first.2.1.3) other.1,
      first.2,
    )

noted-cause : (rows : List (List (List ℕ))) (x : Answering) (f : Option KeepFault)
    → ((more : List (List (List ℕ))) → (f ≡ None) ⊎ ((e : KeepFault) × (f ≡ Some e) × MayDiffer e (λ d. IsUnlike x.before x.lines (still_to_put x AtEnd (rows ++ more)) d)))
    → IsCause rows x (noted_fault f)
noted-cause rows x None h = tt
noted-cause rows x (Some e) h = go e (λ more. noted more (h more))
  where
    noted : (more : List (List (List ℕ)))
        → (Some e ≡ None) ⊎ ((e2 : KeepFault) × (Some e ≡ Some e2) × MayDiffer e2 (λ d. IsUnlike x.before x.lines (still_to_put x AtEnd (rows ++ more)) d))
        → MayDiffer e (λ d. IsUnlike x.before x.lines (still_to_put x AtEnd (rows ++ more)) d)
    noted more (inl none) = absurd (cc none)
    noted more (inr (e2, is, m)) = let same : e2 ≡ e = cc is in subst (λ f. MayDiffer f (λ d. IsUnlike x.before x.lines (still_to_put x AtEnd (rows ++ more)) d)) same m

    go : (e : KeepFault) → ((more : List (List (List ℕ))) → MayDiffer e (λ d. IsUnlike x.before x.lines (still_to_put x AtEnd (rows ++ more)) d)) → IsCause rows x e
    go (fault.Differs d) m = m
    go fault.TooLong m = absurd (m [])
    go (fault.Edited n) m = absurd (m [])
    go e m = m []

module _ {T O F : Type 0} (before : O → Option (List ℕ)) (history : F → Option History) where
  -- no record ends it
  pub desk-goes : (limit : ℕ) (rows : List (List (List ℕ))) (x y : At (KeyedDesk T) (Answers O F)) (over : Option Count)
      → AreAnswered (kept_run before history) limit rows x y over → (y.answered ≤ limit) × Goes (kept_run before history) rows x y
  desk-goes limit rows x y None h = h
  desk-goes limit rows x y (Some count) h =
      let few = (h []).read in
      let more = (h ([] ∷ [])).read in
      let size = length-append rows [] in
      let size2 = length-append rows ([] ∷ []) in
      absurd (omega (arith, few, more, size, size2))

  pub desk-fed : {rows : List (List (List ℕ))} (c c2 : Clerk T) (a a2 : Answers O F) → c2.limit ≡ c.limit
      → Goes (kept_run before history) rows (at c.keyed c.served a) (at c2.keyed c2.served a2)
      → IsSettled (kept_run {T = T} before history) (at c2.keyed c2.served a2)
      → HasFed rows (clerk_at before c a) (clerk_at before c2 a2) (history a.files) (history a2.files)
  desk-fed {rows} c c2 a a2 limit f settled =
      let x = clerk_at before c a in
      let (none, place, state) = f.led [] c2.keyed settled.rests in (
        f.text,
        f.put.added,
        record {
          says = f.told;
          put = f.put.over;
          counted = f.put.counted;
          place = place;
          state = ap (with_held c2.keyed.desk.site.place (standing_at c2.keyed)) none ∙ state
              ∙ states-alike x.place (with_held x.place x.state x.held) (c.served.answered + 1) (rows ++ [])
              ∙ ap (state_after x.place (with_held x.place x.state x.held)) (append-nil rows);
          count = f.count;
          limit = limit;
          live = f.put.live;
        },
        f.put.told,
      )

  torn-fed : {rows : List (List (List ℕ))} (c : Clerk T) (a a2 : Answers O F) → Tears (kept_run {T = T} before history) rows (at c.keyed c.served a) a2
      → (added : List ℕ) × ((more : List (List (List ℕ))) → PutsFront (before a.before) added (still_to_put (clerk_at before c a) AtEnd (rows ++ more)))
      × ((due : List ℕ) × Tells a.is_live (history a.files) (history a2.files) added due)
  torn-fed {rows} c a a2 t =
      told-once a.is_live (history a.files) (history a2.files) (before a.before) (λ more. still_to_put (clerk_at before c a) AtEnd (rows ++ more))
      (λ more. let h = torn-of _ a a2 (t.torn more) in (h.added, h.front, (h.due, h.told)))

  pub desk-torn : {rows : List (List (List ℕ))} (c : Clerk T) (a a2 : Answers O F) → a.fault ≡ None
      → Tears (kept_run {T = T} before history) rows (at c.keyed c.served a) a2
      → HasStopped rows (clerk_at before c a) (history a.files) (history a2.files) (noted_fault a2.fault)
  desk-torn {rows} c a a2 none t =
      let h = torn-fed c a a2 t in (
        h.0,
        record {
          begins = h.1;
          cause = noted-cause rows (clerk_at before c a) a2.fault
              (λ more. subst (λ f. (a2.fault ≡ f) ⊎ ((e : KeepFault) × (a2.fault ≡ Some e) × MayDiffer e (λ d. IsUnlike (before a.before) a.lines (still_to_put (clerk_at before c a) AtEnd (rows ++ more)) d)))
              none (torn-of _ a a2 (t.torn more)).noted);
        },
        h.2,
      )

  pub desk-full : {rows : List (List (List ℕ))} (c c2 : Clerk T) (a a2 : Answers O F)
      → Fills (kept_run before history) c.limit rows (at c.keyed c.served a) (at c2.keyed c2.served a2)
      → HasStopped rows (clerk_at before c a) (history a.files) (history a2.files) fault.TooLong
  desk-full {rows} c c2 a a2 h =
      let laws = answers_are_outlets before history in
      let size = ap (λ (r : List (List (List ℕ))). length r) h.parts in
      let size2 = length-append h.front (h.next ∷ h.rest) in
      let count = h.goes.count in
      let told = torn-fed c a a2 (tears-as (sym h.parts) (goes-tears laws a2 h.goes (tears-none laws (h.next ∷ h.rest) (at c2.keyed c2.served a2)))) in
      (told.0, record { begins = told.1; cause = omega (arith, size, size2, count, h.full) }, told.2)

  pub desk-stopped : {U : Type 0} {rows : List (List (List ℕ))} (c c2 : Clerk T) (a a2 : Answers O F) (e : RunFault) (done : U → Type 0) → a.fault ≡ None
      → ByEnd {T = U} (Err e) done (Fills (kept_run before history) c.limit rows (at c.keyed c.served a) (at c2.keyed c2.served a2)) ⊥
      (Tears (kept_run {T = T} before history) rows (at c.keyed c.served a) a2)
      → HasStopped rows (clerk_at before c a) (history a.files) (history a2.files) (met e a2.fault)
  desk-stopped c c2 a a2 run.TooLong done none h = desk-full c c2 a a2 h
  desk-stopped c c2 a a2 run.Read done none h = absurd h
  desk-stopped c c2 a a2 run.Memory done none h = desk-torn c a a2 none h
  desk-stopped c c2 a a2 run.Write done none h = desk-torn c a a2 none h
