-- What happens in a folder, one part after the other, and how a start ends by it.
use Rattle.std.specs.Prelude.{◌≡◌, ◌≢◌, ◌++◌, ◌∷◌, ◌⊎◌, ◌&&◌, [], Bool, Err, IfErr, List, None, Ok, OnErr, OnOk, Option, Result, Some, false}
use Rattle.std.specs.Prelude.{is_none, true}
use Rattle.std.specs.Result.{IsErrAnd}
use Rattle.std.proofs.Common.{◌∙◌, ap, append_assoc, inl, inr, refl, subst, sym}
use Rattle.std.proofs.lemmas.Bool.{ne_eqb}
use Rattle.std.proofs.lemmas.List.{append-nil}
use Rattle.rubis_script.specs.Replica.{Setup as SiteSetup}
use Rattle.rubis_keep.specs.Setups.{config_of, opening_setup, renewed}
use Rattle.rubis_keep.specs.Deeds.{AllDone, AreSettings, Comes, FolderDeed, FolderStep, IsBegun, IsFailure, IsOfFolder, KeepsFound}
use Rattle.rubis_keep.specs.Deeds.{Looks, MayHaveBegun, MayRenew, NotAll, Prepares, Serves, StaysAsFound}
use Rattle.rubis_keep.specs.Deeds.{StaysOld, StopsBy, course, preparation, renewal, service, setup_for, whole}
use Rattle.rubis_keep.specs.Deeds.FolderDeed.{AnswersAnew, SetsUp}
use Rattle.rubis_keep.specs.Deeds.FolderStep.{Began, Ended, Found}
use Rattle.rubis_keep.specs.declared.fault.FolderFault.{FolderFault}
use Rattle.rubis_keep.specs.declared.fault.FolderFault.TheVariants as fault
use Rattle.rubis_keep.specs.declared.keep.Settings.{Settings}
use Rattle.rubis_keep.specs.declared.keep.Wanted.{Wanted}
use Rattle.rubis_keep.specs.declared.setup.Setup.{Setup}
use Rattle.rubis_keep.specs.declared.setup.TheConstants.{ANSWERS, KEYLESS}
use Rattle.rubis_keep.proofs.HistoryFacts.{err-is}

-- ---- one part after the other

pub none-more : (a b : List FolderStep) → b ≡ a → b ≡ a ++ []
none-more a b e = e ∙ sym (append-nil a)

pub grown : (a b c xs ys : List FolderStep) → b ≡ a ++ xs → c ≡ b ++ ys → c ≡ a ++ (xs ++ ys)
grown a b c xs ys p q = q ∙ ap (λ t. t ++ ys) p ∙ append_assoc a xs ys

pub begun-first : (steps xs ys : List FolderStep) → IsBegun steps xs → IsBegun steps (xs ++ ys)
begun-first steps xs ys b = (b.0 ++ ys, sym (append_assoc steps b.0 ys) ∙ ap (λ t. t ++ ys) b.1)

pub begun-then : (done steps ys : List FolderStep) → IsBegun steps ys → IsBegun (done ++ steps) (done ++ ys)
begun-then done steps ys b = (b.0, append_assoc done steps b.0 ∙ ap (λ t. done ++ t) b.1)

-- ---- parts that depend on what was kept

-- something failed after these steps
pub not-all : {T : Type 0} (may : Bool → Type 0) (all : Bool → List FolderStep) (stays : List FolderStep → FolderFault → Type 0) (old new steps : List FolderStep)
    (r : Result T FolderFault) (e : FolderFault) (keys : Bool) → IsErrAnd r (λ x. x ≡ e) → IsFailure e → may keys → new ≡ old ++ steps → IsBegun steps (all keys)
    → Comes may all stays old new r
not-all may all stays old new steps r e keys is f m g b = err-is _ _ r e is (steps, g, inr (f, keys, m, b))

-- an earlier part wasn't done
pub not-first : {T : Type 0} (may may2 : Bool → Type 0) (all all2 : Bool → List FolderStep) (stays stays2 : List FolderStep → FolderFault → Type 0)
    (old new : List FolderStep) (r : Result T FolderFault) (e : FolderFault) → IsErrAnd r (λ x. x ≡ e) → NotAll may all stays old new e
    → ((steps : List FolderStep) → stays steps e → stays2 steps e)
    → ((keys : Bool) → may keys → may2 keys × (more : List FolderStep) × (all keys ++ more ≡ all2 keys)) → Comes may2 all2 stays2 old new r
not-first may may2 all all2 stays stays2 old new r e is (steps, g, inl h) first second = err-is _ _ r e is (steps, g, inl (first steps h))
not-first may may2 all all2 stays stays2 old new r e is (steps, g, inr h) first second =
    let s = second h.1 h.2 in
    err-is _ _ r e is (steps, g, inr (h.0, h.1, s.0, subst (IsBegun steps) s.2 (begun-first steps (all h.1) s.1 h.3)))

-- the result of its last deed is handed on
pub all-last : {T : Type 0} (may : Bool → Type 0) (all : Bool → List FolderStep) (stays : List FolderStep → FolderFault → Type 0)
    (old mid new before : List FolderStep) (d : FolderDeed) (r : Result T FolderFault) (keys : Bool) → may keys → mid ≡ old ++ before
    → before ++ whole (d ∷ []) ≡ all keys → OnOk r (new ≡ mid ++ whole (d ∷ [])) → OnErr r (MayHaveBegun d mid new) → IfErr r IsFailure
    → Comes may all stays old new r
all-last may all stays old mid new before d (Ok x) keys m p is q h f = (keys, m, grown old mid new before (whole (d ∷ [])) p q ∙ ap (λ t. old ++ t) is)
all-last may all stays old mid new before d (Err e) keys m p is q (inl h) f = (before, h ∙ p, inr (f, keys, m, (whole (d ∷ []), is)))
all-last may all stays old mid new before d (Err e) keys m p is q (inr h) f = (
  before ++ Began d ∷ [],
  grown old mid new before (Began d ∷ []) p h,
  inr (f, keys, m, (Ended d ∷ [], append_assoc before (Began d ∷ []) (Ended d ∷ []) ∙ is)),
)

-- ---- a folder of another version

pub is-older : (w : Wanted) (s : Setup) (config : SiteSetup) (keys : Bool) → config ≡ config_of w s → s.answers ≢ ANSWERS → s.answers ≢ KEYLESS
    → w.upgrades ≡ true → MayRenew w s keys × (whole (AnswersAnew config ∷ []) ++ whole (SetsUp (renewed s) ∷ []) ≡ renewal w s keys)
is-older w s config keys same other older is =
    let one = ne_eqb s.answers ANSWERS other in
    let two = ne_eqb s.answers KEYLESS older in
    rw (one, two) (is, ap (λ c. whole (AnswersAnew c ∷ []) ++ whole (SetsUp (renewed s) ∷ [])) same)

-- a new site is set up
prepares-none : {T : Type 0} (w : Wanted) (s : Setup) (old new : List FolderStep) (r : Result T FolderFault) → s ≡ opening_setup w
    → OnOk r (new ≡ old ++ whole (SetsUp s ∷ [])) → OnErr r (MayHaveBegun (SetsUp s) old new) → IfErr r IsFailure → Prepares w None old new r
prepares-none w s old new r e q h f =
    all-last (MayRenew w (opening_setup w)) (preparation w None) (StaysAsFound w None) old old new [] (SetsUp (opening_setup w)) r false tt (none-more old old refl)
    refl (subst (λ t. OnOk r (new ≡ old ++ whole (SetsUp t ∷ []))) e q) (subst (λ t. OnErr r (MayHaveBegun (SetsUp t) old new)) e h) f

pub prepares-new : {T : Type 0} (w : Wanted) (found : Option Setup) (s : Setup) (old new : List FolderStep) (r : Result T FolderFault) → found ≡ None
    → s ≡ setup_for w found → OnOk r (new ≡ old ++ whole (SetsUp s ∷ [])) → OnErr r (MayHaveBegun (SetsUp s) old new) → IfErr r IsFailure → Prepares w found old new r
prepares-new w found s old new r none e q h f =
    subst (λ o. Prepares w o old new r) (sym none) (prepares-none w s old new r (e ∙ ap (setup_for w) none) q h f)

-- ---- a start

pub stops-failed : (w : Wanted) (steps : List FolderStep) (e : FolderFault) → IsFailure e
    → (steps ≡ []) ⊎ ((found : Option Setup) × (keys : Bool) × IsOfFolder w found keys × IsBegun steps (Found found ∷ course w found keys)) → StopsBy w steps e
stops-failed w steps fault.NoName f h = absurd f
stops-failed w steps fault.NoSite f h = absurd f
stops-failed w steps fault.NotBelow f h = absurd f
stops-failed w steps (fault.IsOther s) f h = absurd f
stops-failed w steps (fault.IsOld v) f h = absurd f
stops-failed w steps fault.HasKeys f h = absurd f
stops-failed w steps other f h = h

stops-old : (w : Wanted) (s : Setup) (steps : List FolderStep) (e : FolderFault) → StaysOld w s steps e → StopsBy w (Found (Some s) ∷ steps) e
stops-old w s steps (fault.IsOld v) h = (s, steps, refl, h)
stops-old w s steps fault.HasKeys h = (s, steps, refl, h)
stops-old w s steps other h = absurd h

-- what is asked for is of the folder that was found, where it may be renewed
abbrev pub IsFit : Wanted → Option Setup → Type 0
IsFit w found = (keys : Bool) → MayRenew w (setup_for w found) keys → IsOfFolder w found keys

and-none : (b : Bool) → (b && true) ≡ false → b ≡ false
and-none true e = e
and-none false e = refl

pub is-fit : (w : Wanted) (found : Option Setup) (settings : Settings) → (w.shortens && is_none found) ≡ false → AreSettings w (setup_for w found) settings → IsFit w found
is-fit w found settings test is keys m = record {
  there = λ none. and-none w.shortens (subst (λ (o : Option Setup). (w.shortens && is_none o) ≡ false) none test);
  goes = is.goes;
  within = is.within;
  renews = m;
}

-- the folder isn't prepared
stops-before : (w : Wanted) (found : Option Setup) (steps : List FolderStep) (e : FolderFault) → IsFit w found
    → StaysAsFound w found steps e
    ⊎ (IsFailure e × (keys : Bool) × MayRenew w (setup_for w found) keys × IsBegun steps (preparation w found keys)) → StopsBy w (Found found ∷ steps) e
stops-before w None steps e of (inl h) = absurd h
stops-before w (Some s) steps e of (inl h) = stops-old w s steps e h
stops-before w found steps e of (inr h) = stops-failed w (Found found ∷ steps) e h.0
    (inr (
      found,
      h.1,
      of h.1 h.2,
      begun-then (Found found ∷ []) steps (course w found h.1)
          (begun-first steps (preparation w found h.1) (whole (service w (setup_for w found))) h.3),
    ))

pub keeps-unprepared : {T : Type 0} (w : Wanted) (found : Option Setup) (old mid new : List FolderStep) (r : Result T FolderFault) (e : FolderFault) → IsFit w found
    → mid ≡ old ++ Found found ∷ [] → IsErrAnd r (λ x. x ≡ e)
    → NotAll (MayRenew w (setup_for w found)) (preparation w found) (StaysAsFound w found) mid new e → KeepsFound w old new r
keeps-unprepared w found old mid new r e of p is (steps, g, h) =
    (Found found ∷ steps, grown old mid new (Found found ∷ []) steps p g, err-is _ _ r e is (stops-before w found steps e of h))

-- it is prepared, and serves
pub keeps-served : {T : Type 0} (w : Wanted) (found : Option Setup) (old mid last new : List FolderStep) (r : Result T FolderFault) → IsFit w found
    → mid ≡ old ++ Found found ∷ [] → AllDone (MayRenew w (setup_for w found)) (preparation w found) mid last
    → Serves (service w (setup_for w found)) last new r → KeepsFound w old new r
keeps-served w found old mid last new (Ok x) of p (keys, m, g) s = (
  Found found ∷ course w found keys,
  grown old mid new (Found found ∷ []) (course w found keys) p (grown mid last new (preparation w found keys) (whole (service w (setup_for w found))) g s),
  (found, keys, of keys m, refl),
)
keeps-served w found old mid last new (Err e) of p (keys, m, g) s = (
  Found found ∷ (preparation w found keys ++ s.1),
  grown old mid new (Found found ∷ []) (preparation w found keys ++ s.1) p (grown mid last new (preparation w found keys) s.1 g s.2),
  stops-failed w (Found found ∷ (preparation w found keys ++ s.1)) e s.0 (inr (
    found,
    keys,
    of keys m,
    begun-then (Found found ∷ preparation w found keys) s.1 (whole (service w (setup_for w found))) s.3,
  )),
)

-- ---- the folder is looked at, made and found

pub looks-found : {T : Type 0} (w : Wanted) (found : Option Setup) (old new : List FolderStep) (r : Result T FolderFault) → new ≡ old ++ Found found ∷ []
    → IfErr r (StopsBy w (Found found ∷ [])) → Looks w old new r
looks-found w found old new (Ok x) g h = (Some found, g)
looks-found w found old new (Err e) g h = (Found found ∷ [], g, h)
