-- Text that is put over answers of before.
use Rattle.rubis_keep.proofs.Common.{◌≡◌, ◌==◌, true, arith, ◌∙◌, ◌+◌, ◌-◌, ◌⊎◌, inl, inr, ◌++◌, ◌∷◌, [], ℕ, Bool, List, Option, Some, None, Result}
use Rattle.rubis_keep.proofs.Common.{Ok, Err, IfSome, drop, length, take, refl, sym, ap, subst, append_assoc, take-append-drop, min, ◌^◌, Decides-eqb}
use Rattle.rubis_keep.proofs.Common.{append-nil, take_all, take_rest, IsErr, MatchResult, Account, AtEnd}
use Rattle.std.proofs.lemmas.Bool.{cases_lt}
use Rattle.std.proofs.lemmas.List.{drop_all}
use Rattle.rubis_engine.specs.Accounts.{AnswersRecord}
use Rattle.rubis_engine.specs.declared.service.Course.{Course}
use Rattle.rubis_engine.specs.declared.service.Course.TheVariants.{Ends, GoesOn}
use lib.Seq.{take-nil}
use Rattle.rubis_keep.specs.Turns.{CountsOn, HasPut, HasTorn, HasTornOff, IsPutOver, IsUnlike, Puts, PutsFront, PutsOver}
use Rattle.rubis_keep.specs.Faults.{HasDifference, Found, MayDiffer, TellsLine, ends_in}
use Rattle.rubis_keep.specs.Outlets.{counts-none, front-none, off-at, off-later, off-longer, over-no_text, put-more}
use Rattle.rubis_keep.specs.Telling.{tells-more, tells-none}
use Rattle.rubis_keep.specs.History.{History, Tells, TellsFront, IsFrontOf}
use Rattle.rubis_keep.specs.declared.answers.Answers.{Answers}
use Rattle.rubis_keep.specs.declared.fault.Difference.{Difference}
use Rattle.rubis_keep.specs.declared.fault.KeepFault.{KeepFault}
use Rattle.rubis_keep.proofs.DifferenceFacts.{differs-there, line-later, line-there, may-differ-more}
use Rattle.rubis_keep.proofs.HistoryFacts.{apart, cancel}

-- a text was found as far as there was more of before, and the rest was told
found-over : (before before2 : Option (List ℕ)) {n : ℕ} (text : List ℕ) → Found before before2 text n → PutsOver before before2 (drop n text) text
found-over None before2 text f = tt
found-over (Some old) None text f = absurd f.1
found-over (Some old) (Some left) {n} text (l, taken, end) = (
  left,
  refl,
  elim (cases_lt n (length text)) [
    | inl more ↦ (
      ap (λ t. t ++ drop n text) (taken ∙ ap (λ t. take n text ++ t) (end more) ∙ append-nil (take n text)) ∙ take-append-drop n text
          ∙ sym (append-nil text) ∙ ap (λ t. text ++ t) (sym (end more)),
      inr (end more),
    )
    | inr all ↦ (
      ap (λ t. old ++ t) (drop_all n text all) ∙ append-nil old ∙ taken ∙ ap (λ t. t ++ left) (take_all n text all),
      inl (drop_all n text all),
    )
  ],
)

-- some first bytes of what was to be added were
over-front : (old left added text : List ℕ) (m : ℕ) → IsPutOver old left added text → (take m added ≡ []) ⊎ IsFrontOf (old ++ take m added) text
over-front old left added text m (e, inl none) = inl (ap (take m) none ∙ take-nil m)
over-front old left added text m (e, inr none) = inr (
  drop m added,
  append_assoc old (take m added) (drop m added) ∙ ap (λ t. old ++ t) (take-append-drop m added) ∙ e ∙ ap (λ t. text ++ t) none ∙ append-nil text,
)

over-torn : (before before2 : Option (List ℕ)) (added text : List ℕ) (m : ℕ) → PutsOver before before2 added text → PutsFront before (take m added) text
over-torn None before2 added text m p = tt
over-torn (Some old) before2 added text m p = over-front old p.0 added text m p.2

-- where all of it was found, its lines are counted
pub found-counted : (lines lines2 n : ℕ) (text : List ℕ) → lines2 ≡ min (lines + ends_in (take n text)) (2 ^ 64 - 1) → CountsOn lines lines2 (drop n text) text
found-counted lines lines2 n text is none few =
    let whole : ends_in (take n text) ≡ ends_in text =
    ap ends_in (sym (append-nil (take n text)) ∙ ap (λ t. take n text ++ t) (sym none) ∙ take-append-drop n text) in
    omega (arith, is, whole, few)

pub none-found : (lines lines2 n : ℕ) (text : List ℕ) → lines2 ≡ lines → n ≡ 0 → CountsOn lines lines2 (drop n text) text
none-found lines lines2 n text same first none few =
    let ends = ap ends_in (sym (ap (λ m. drop m text) first) ∙ none) in omega (arith, same, ends)

pub puts-told : {T : Type 0} (live : Bool) (before before2 : Option (List ℕ)) (lines lines2 : ℕ) (a b : Option History) (r : Result T KeepFault) {n : ℕ}
    (text : List ℕ) → Found before before2 text n → CountsOn lines lines2 (drop n text) text
    → MatchResult r (λ _. Tells live a b (take (length text - n) (drop n text)) []) (λ _. TellsFront live a b (take (length text - n) (drop n text)))
    → Puts live before before2 lines lines2 a b text r
puts-told live before before2 lines lines2 a b (Ok x) {n} text f c t =
    (drop n text, found-over before before2 text f, c, subst (λ t. Tells live a b t []) (take_rest text n) t)
puts-told live before before2 lines lines2 a b (Err e) {n} text f c (m, l, due, t) = (
  take m (drop n text),
  over-torn before before2 (drop n text) text m (found-over before before2 text f),
  (due, subst (λ t. Tells live a b (take m t) due) (take_rest text n) t),
)

pub puts-none : {T : Type 0} (live : Bool) (before before2 : Option (List ℕ)) (lines lines2 : ℕ) (a : Option History) (text : List ℕ)
    (r : Result T KeepFault) → IsErr r → Puts live before before2 lines lines2 a a text r
puts-none live before before2 lines lines2 a text (Ok x) bad = absurd (cc bad)
puts-none live before before2 lines lines2 a text (Err e) bad = ([], front-none before text, ([], tells-none live a))

pub differs-unlike : (before : Option (List ℕ)) (text : List ℕ) (lines : ℕ) (d : Difference) → IfSome before (λ old. HasDifference old text lines d)
    → IsUnlike before lines text d
differs-unlike None text lines d h = tt
differs-unlike (Some old) text lines d h =
    λ rest. (λ front. apart old text front.0 rest (differs-there (Some old) text lines d h) front.1, line-there old text rest lines d h)

pub empty-is : (xs : List ℕ) → (length xs == 0) ≡ true → xs ≡ []
empty-is [] none = refl
empty-is (x ∷ xs) none = let no = (Decides-eqb (length (x ∷ xs)) 0).0 none in absurd (omega (arith, no))

-- ---- what comes behind it

-- what was added so far and then some of what comes begins all of it
front-later : (old left added added2 text all rest : List ℕ) → IsPutOver old left added text → all ≡ text ++ rest
    → (added2 ≡ []) ⊎ IsFrontOf (left ++ added2) rest → (added ++ added2 ≡ []) ⊎ IsFrontOf (old ++ (added ++ added2)) all
front-later old left added added2 text all rest (e, one) is (inr (later, g)) = inr (
  later,
  ap (λ t. t ++ later) (sym (append_assoc old added added2) ∙ ap (λ t. t ++ added2) e ∙ append_assoc text left added2)
      ∙ append_assoc text (left ++ added2) later ∙ ap (λ t. text ++ t) g ∙ sym is,
)
front-later old left added added2 text all rest (e, inl none) is (inl none2) = inl (λ i. none i ++ none2 i)
front-later old left added added2 text all rest (e, inr none) is (inl none2) = inr (
  rest,
  ap (λ t. t ++ rest) (ap (λ t. old ++ (added ++ t)) none2 ∙ ap (λ t. old ++ t) (append-nil added) ∙ e ∙ ap (λ t. text ++ t) none ∙ append-nil text) ∙ sym is,
)

pub front-behind : (a b : Option (List ℕ)) (added added2 text all rest : List ℕ) → PutsOver a b added text → all ≡ text ++ rest
    → PutsFront b added2 rest → PutsFront a (added ++ added2) all
front-behind None b added added2 text all rest p is f = tt
front-behind (Some old) b added added2 text all rest p is f = front-later old p.0 added added2 text all rest p.2 is (subst (λ o. PutsFront o added2 rest) p.1 f)

front-longer : (before : Option (List ℕ)) (added text rest : List ℕ) → PutsFront before added text → PutsFront before added (text ++ rest)
front-longer None added text rest f = tt
front-longer (Some old) added text rest (inl none) = inl none
front-longer (Some old) added text rest (inr (later, g)) = inr (later ++ rest, sym (append_assoc (old ++ added) later rest) ∙ ap (λ t. t ++ rest) g)

unlike-longer : (before : Option (List ℕ)) (lines : ℕ) (text rest : List ℕ) (d : Difference) → IsUnlike before lines text d
    → IsUnlike before lines (text ++ rest) d
unlike-longer None lines text rest d h = tt
unlike-longer (Some old) lines text rest d h =
    λ more. subst (λ t. (IsFrontOf old t → ⊥) × TellsLine old t lines d) (sym (append_assoc text rest more)) (h (rest ++ more))

-- what is left of before is no beginning of what comes, so all of before wasn't of all
pub unlike-later : (a b : Option (List ℕ)) (lines lines2 : ℕ) (added text rest : List ℕ) (d : Difference) → PutsOver a b added text
    → CountsOn lines lines2 added text → IsUnlike b lines2 rest d → IsUnlike a lines (text ++ rest) d
unlike-later None b lines lines2 added text rest d p counts h = tt
unlike-later (Some old) b lines lines2 added text rest d (left, e, (f, one)) counts h = λ more. ends more one
  where
    unlike : (more : List ℕ) → (IsFrontOf left (rest ++ more) → ⊥) × TellsLine left (rest ++ more) lines2 d
    unlike = subst (λ o. IsUnlike o lines2 rest d) e h

    ends : (more : List ℕ) → (added ≡ []) ⊎ (left ≡ []) → (IsFrontOf old ((text ++ rest) ++ more) → ⊥) × TellsLine old ((text ++ rest) ++ more) lines d
    ends more (inr none) = absurd ((unlike more).0 (rest ++ more, ap (λ t. t ++ (rest ++ more)) none))
    ends more (inl none) =
        let old_is : old ≡ text ++ left = sym (append-nil old) ∙ ap (λ t. old ++ t) (sym none) ∙ f in
        let assoc = append_assoc text rest more in (
          λ (later, g). (unlike more).0 (
            later,
            cancel text (left ++ later) (rest ++ more)
                (sym (append_assoc text left later) ∙ ap (λ t. t ++ later) (sym old_is) ∙ g ∙ assoc),
          ),
          subst (λ o. TellsLine o ((text ++ rest) ++ more) lines d) (sym old_is)
              (subst (λ t. TellsLine (text ++ left) t lines d) (sym assoc) (line-later text left (rest ++ more) lines lines2 d (counts none) (unlike more).1)),
        )

-- ---- the answers of a site

module _ {O F : Type 0} {before : O → Option (List ℕ)} {history : F → Option History} where
  -- some of a text was put, or none
  pub torn-of : (text : List ℕ) (a b : Answers O F) → HasTornOff before history text a b → HasTorn before history text a b
  torn-of text a b t = subst (λ x. HasTorn before history x a b) t.parts (record {
    added = t.put.added ++ t.torn.added;
    front = front-behind (before a.before) (before t.mid.before) t.put.added t.torn.added t.front (t.front ++ (t.next ++ t.later)) (t.next ++ t.later)
        t.put.over refl (front-longer (before t.mid.before) t.torn.added t.next t.later t.torn.front);
    due = t.torn.due;
    told = tells-more a.is_live (history a.files) (history t.mid.files) (history b.files) t.put.told
        (subst (λ l. Tells l (history t.mid.files) (history b.files) t.torn.added t.torn.due) t.put.live t.torn.told);
    noted = noted t.torn.noted;
  })
    where
      noted : (b.fault ≡ t.mid.fault) ⊎ ((e : KeepFault) × (b.fault ≡ Some e) × MayDiffer e (λ d. IsUnlike (before t.mid.before) t.mid.lines t.next d))
          → (b.fault ≡ a.fault) ⊎ ((e : KeepFault) × (b.fault ≡ Some e) × MayDiffer e (λ d. IsUnlike (before a.before) a.lines (t.front ++ (t.next ++ t.later)) d))
      noted (inl same) = inl (same ∙ t.put.fault)
      noted (inr (e, is, h)) = inr (
        e,
        is,
        may-differ-more e _ _ (λ d u. unlike-later (before a.before) (before t.mid.before) a.lines t.mid.lines t.put.added t.front (t.next ++ t.later) d
            t.put.over t.put.counted (unlike-longer (before t.mid.before) t.mid.lines t.next t.later d u)) h,
      )

  put-still : (a b : Answers O F) → b ≡ record a { text = b.text } → HasPut before history [] a b
  put-still a b alike = subst (HasPut before history [] a) (sym alike) (record {
    added = [];
    over = over-no_text (before a.before);
    counted = counts-none a.lines;
    told = tells-none a.is_live (history a.files);
    live = refl;
    fault = refl;
  })

  pub put-from : (xs ys : List ℕ) (a mid b : Answers O F) → mid ≡ record a { text = mid.text } → xs ≡ ys → HasPut before history xs mid b
      → HasPut before history ys a b
  put-from xs ys a mid b alike is p = subst (λ t. HasPut before history t a b) is (put-more [] xs a mid b (put-still a mid alike) p)

  pub torn-from : (xs ys : List ℕ) (a mid b : Answers O F) → mid ≡ record a { text = mid.text } → xs ≡ ys → HasTorn before history xs mid b
      → HasTornOff before history ys a b
  torn-from xs ys a mid b alike is t = subst (λ t. HasTornOff before history t a b) is (off-later [] xs a mid b (put-still a mid alike) (off-at xs mid b t))

  -- of an answer some first bytes were put
  pub answer-torn : (course : Course) (old new : Account) (sink out sink2 : List ℕ) (fields : List (List ℕ)) (a b : Answers O F)
      → AnswersRecord course old new sink (out ++ sink2) fields → HasTornOff before history out a b → (more : List (List (List ℕ)))
      → HasTornOff before history (sink ++ old.text AtEnd (fields ∷ more)) a b
  answer-torn GoesOn old new sink out sink2 fields a b answers torn more =
      subst (λ t. HasTornOff before history t a b) (sym ((answers more).0 AtEnd))
      (off-longer (out ++ sink2) (new.text AtEnd more) a b (off-longer out sink2 a b torn))
  answer-torn Ends old new sink out sink2 fields a b answers torn more =
      subst (λ t. HasTornOff before history t a b) (sym (answers more).0) (off-longer out sink2 a b torn)
