-- The forms of records: each reads back what is written so, and takes nothing else.
use Rattle.std.proofs.Common.{◌≡◌, ◌<◌, ◌+◌, ◌==◌, ℕ, List, [], ◌∷◌, length, get_or, drop, Bor, Option, Some, None, false, refl, sym, ap, ◌∙◌, add-one, ◌≤◌}
use Rattle.std.proofs.Common.{◌||◌, suc, ◌++◌, decimal, arith, length-drop, true, ◌≢◌, zero, ◌^◌, Bool, cond, subst}
use Rattle.std.specs.Prelude.{MatchResult, option_and_then, option_map, not, IfSome, bytes_eq, codes, All}
use Rattle.std.specs.List.{slice_get, AllByRecursion}
use Rattle.std.specs.Option.{ok_or}
use Rattle.std.proofs.Math.Seq.{drop-cons}
use Rattle.std.proofs.lemmas.Option.{slice_get-get_or, none-some, same_Some}
use Rattle.rubis_message.specs.Readings.{at_end, request_of, id_or_none}
use Rattle.rubis_message.specs.WorldReadings.{asked_with, request_at, take_at}
use Rattle.rubis_message.specs.declared.requests.Request.{Request}
use Rattle.rubis_message.specs.declared.world_inputs.WorldInput.TheVariants.{Asked}
use Rattle.rubis_message.specs.declared.faults.ReadFault.TheVariants.{BadRecord}
use Rattle.std.proofs.lemmas.Bool.{not-true}
use Rattle.std.proofs.lemmas.List.Folds.{list_any-append}
use Rattle.std.proofs.lemmas.List.{append-nil, append_assoc}
use Rattle.rubis_schema.specs.NumberForms.{◌>>=◌, number_of, IsField}
use Rattle.rubis_schema.specs.FieldForms.{cut_at, number_before, id_of}
use Rattle.rubis_schema.specs.FieldList.{is_mark, is_plain}
use Rattle.rubis_schema.specs.declared.limits.TheConstants.{COUNT_MAX}
use Rattle.rubis_schema.proofs.Before.{before_then}
use Rattle.rubis_message.specs.Counts.{deps_of}
use Rattle.rubis_message.specs.Grammar.{deps_text, winner_text}
use Rattle.std.specs.Cmp.Lexicographic.{bytes_decides}
use Rattle.std.proofs.lemmas.List.Elements.{recursion_from_All, All-cons, All-nil}
use Rattle.rubis_schema.specs.Ids.{IsId, id_text}
use Rattle.rubis_schema.specs.declared.ids.Id.{Id}
use Rattle.rubis_schema.proofs.NumberForms.{number_is}
use Rattle.rubis_schema.proofs.FieldLaws.{id_is, step_back, step_by, step_only, decimal_free}
use Rattle.rubis_schema.proofs.Marks.{cut_back, cut_only}

pub next_field : (xs : List (List ℕ)) (n : ℕ) (o : Option (Bor (List ℕ))) → n < length xs → option_map (λ s. s.now) o ≡ slice_get xs n
    → MatchResult (ok_or o BadRecord) (λ f. drop n xs ≡ f.now ∷ drop (n + 1) xs) (λ e. (e ≡ BadRecord) × (drop n xs ≡ []))
next_field xs n None lt e = absurd (none-some _ (e ∙ slice_get-get_or xs n [] lt))
next_field xs n (Some f) lt e =
    let item : f.now ≡ get_or xs n [] = same_Some _ _ (e ∙ slice_get-get_or xs n [] lt) in
    drop-cons xs n [] lt ∙ (λ i. sym item i ∷ drop (sym (add-one n) i) xs)

-- a field is left
pub more_left : (xs left : List (List ℕ)) (n : ℕ) → n < length xs → drop n xs ≡ left → at_end left ≡ None
more_left xs left n lt is = ap at_end (sym is ∙ drop-cons xs n [] lt)

-- the fields after the number of a site, at least one
pub asked_behind : (sites i : ℕ) (fields rest : List (List ℕ)) (r : Option Request) → take_at sites fields ≡ Some (i, rest) → (length rest == 0) ≡ false
    → request_of sites rest ≡ r → request_at sites fields ≡ Some (Asked i r)
unfolding request_at
asked_behind sites i fields rest r at some is =
    ap (option_and_then (λ p. asked_with sites p.0 p.1)) at ∙ with_some rest some ∙ ap (λ o. Some (Asked i o)) is
  where
    with_some : (rest : List (List ℕ)) → (length rest == 0) ≡ false → asked_with sites i rest ≡ Some (Asked i (request_of sites rest))
    with_some [] e = cc e
    with_some (field ∷ more) e = refl

-- ---- counts that are joined by `:`

-- two texts that call for no quotes, one behind the other
pub plain_both : (a b : List ℕ) → is_plain a ≡ true → is_plain b ≡ true → is_plain (a ++ b) ≡ true
plain_both a b first second = ap not (list_any-append is_mark a b ∙ (λ i. not-true _ first i || not-true _ second i))

-- one more count in front
text_before : (c : ℕ) (rest text marked more : List ℕ) → text ≡ deps_text rest → (0 < length rest → marked ≡ 58 ∷ text)
    → (length rest ≤ 0 → marked ≡ text)
    → more ≡ decimal c ++ marked → more ≡ deps_text (c ∷ rest)
text_before c [] text marked more e mark last is =
    let same = last (omega arith) in
    is ∙ ap (λ t. decimal c ++ t) (same ∙ e) ∙ append-nil (decimal c)
text_before c (x ∷ xs) text marked more e mark last is =
    let same = mark (omega arith) in
    is ∙ ap (λ t. decimal c ++ t) (same ∙ ap (λ t. 58 ∷ t) e)

pub text_more : (counts text marked more : List ℕ) (i at : ℕ) → at ≡ i + 1 → i < length counts → text ≡ deps_text (drop at counts)
    → (i + 1 < length counts → marked ≡ 58 ∷ text) → (length counts ≤ i + 1 → marked ≡ text)
    → more ≡ decimal (get_or counts i 0) ++ marked → more ≡ deps_text (drop i counts)
text_more counts text marked more i at next lt e mark last is =
    let rest = length-drop (suc i) counts in
    let here : at ≡ suc i = omega (arith, next) in
    let tail : text ≡ deps_text (drop (suc i) counts) = e ∙ ap (λ n. deps_text (drop n counts)) here in
    text_before (get_or counts i 0) (drop (suc i) counts) text marked more tail
    (λ some. mark (omega (arith, rest, some))) (λ none. last (omega (arith, rest, none, lt))) is
    ∙ ap deps_text (sym (drop-cons counts i 0 lt))

-- the counts that were read, and those that are left
abbrev pub then_left : List ℕ → Option (List ℕ) → Option (List ℕ)
then_left read left = option_map (λ more. read ++ more) left

-- what is left, by its first count and by what follows that
abbrev more_by : ℕ → List ℕ → Option ℕ → Option (List ℕ)
more_by k back first = first >>= (λ count. option_map (λ others. count ∷ others) (deps_of (suc k) back))

abbrev left_by : ℕ → Option (List ℕ × List ℕ) → Option (List ℕ)
left_by k cut = cut >>= (λ parts. more_by k parts.1 (number_of COUNT_MAX parts.0))

-- the same, by the count before the first mark, with what follows the mark
abbrev left_before : ℕ → Option (ℕ × List ℕ) → Option (List ℕ)
left_before k first = first >>= (λ f. option_map (λ others. f.0 ∷ others) (deps_of (suc k) f.1))

pushed_by : (read : List ℕ) (n : ℕ) (left : Option (List ℕ))
    → then_left (read ++ n ∷ []) left ≡ then_left read (option_map (λ others. n ∷ others) left)
pushed_by read n None = refl
pushed_by read n (Some more) = ap Some (append_assoc read (n ∷ []) more)

module _ (size k : ℕ) (read rest : List ℕ) (all : Option (List ℕ)) (so_far : then_left read (deps_of size rest) ≡ all) where
  module _ (more : size ≡ suc (suc k)) where
    by_cut : (cut : Option (List ℕ × List ℕ)) → cut ≡ cut_at 58 rest → then_left read (left_by k cut) ≡ all
    unfolding deps_of
    by_cut cut is = ap (λ c. then_left read (left_by k c)) is ∙ ap (λ n. then_left read (deps_of n rest)) (sym more) ∙ so_far

    by_count : (front back : List ℕ) (first : Option ℕ) → Some (front, back) ≡ cut_at 58 rest
        → first ≡ number_of COUNT_MAX front → then_left read (more_by k back first) ≡ all
    by_count front back first cut is = ap (λ o. then_left read (more_by k back o)) is ∙ by_cut (Some (front, back)) cut

    pub no_mark_left : None ≡ cut_at 58 rest → None ≡ all
    no_mark_left none = by_cut None none

    pub no_count_left : (front back : List ℕ) → Some (front, back) ≡ cut_at 58 rest → None ≡ number_of COUNT_MAX front
        → None ≡ all
    no_count_left front back cut none = by_count front back None cut none

    pub one_less : (front back pushed : List ℕ) (n less : ℕ) → Some (front, back) ≡ cut_at 58 rest
        → Some n ≡ number_of COUNT_MAX front
        → pushed ≡ read ++ n ∷ [] → less ≡ suc k → then_left pushed (deps_of less back) ≡ all
    one_less front back pushed n less cut is push size =
        (λ i. then_left (push i) (deps_of (size i) back)) ∙ pushed_by read n (deps_of (suc k) back)
        ∙ by_count front back (Some n) cut is

    by_first : (first : Option (ℕ × List ℕ)) → first ≡ number_before 58 COUNT_MAX rest
        → then_left read (left_before k first) ≡ all
    unfolding deps_of
    by_first first is =
        ap (λ f. then_left read (left_before k f)) is
        ∙ ap (then_left read) (sym (before_then 58 COUNT_MAX rest (λ f. option_map (λ others. f.0 ∷ others) (deps_of (suc k) f.1))))
        ∙ ap (λ n. then_left read (deps_of n rest)) (sym more) ∙ so_far

    pub no_first_left : None ≡ number_before 58 COUNT_MAX rest → None ≡ all
    no_first_left none = by_first None none

    pub first_less : (back pushed : List ℕ) (n less : ℕ) → Some (n, back) ≡ number_before 58 COUNT_MAX rest
        → pushed ≡ read ++ n ∷ [] → less ≡ suc k → then_left pushed (deps_of less back) ≡ all
    first_less back pushed n less is push size =
        (λ i. then_left (push i) (deps_of (size i) back)) ∙ pushed_by read n (deps_of (suc k) back)
        ∙ by_first (Some (n, back)) is

  module _ (last : size ≡ 1) where
    by_last : (o : Option ℕ) → o ≡ number_of COUNT_MAX rest → then_left read (option_map (λ n. n ∷ []) o) ≡ all
    unfolding deps_of
    by_last o is =
        ap (λ p. then_left read (option_map (λ n. n ∷ []) p)) is ∙ ap (λ n. then_left read (deps_of n rest)) (sym last)
        ∙ so_far

    pub no_last_left : None ≡ number_of COUNT_MAX rest → None ≡ all
    no_last_left none = by_last None none

    pub none_left : (pushed : List ℕ) (n : ℕ) → Some n ≡ number_of COUNT_MAX rest → pushed ≡ read ++ n ∷ [] → Some pushed ≡ all
    none_left pushed n is push = ap Some push ∙ by_last (Some n) is

-- ---- the forms of a winner and of counts: each is read back from its own text, and nothing else is read

-- ---- winners

winner_by : (sites : ℕ) (few : sites < 2 ^ 8) (field : List ℕ) (w : Option Id) (b : Bool) (o : Option Id)
    → bytes_eq field (codes "none") ≡ b → id_of sites field ≡ o
    → cond b (Some None) (option_map Some o) ≡ Some w → IfSome w (IsId sites) × (field ≡ winner_text w)
winner_by sites few field None true o says is e = (tt, (bytes_decides field (codes "none")).0 says)
winner_by sites few field (Some id) true o says is e = absurd cc
winner_by sites few field w false None says is e = absurd cc
winner_by sites few field None false (Some i) says is e = absurd cc
winner_by sites few field (Some id) false (Some i) says is e =
    let same : i ≡ id = cc in (id_is sites few).only field id (is ∙ ap Some same)

none_of : (sites : ℕ) → id_of sites (codes "none") ≡ None
unfolding id_of
none_of sites = refl

-- `none` is no id
no_id : (sites : ℕ) (id : Id) (b : Bool) → sites < 2 ^ 8 → IsId sites id → bytes_eq (id_text id) (codes "none") ≡ b → b ≡ false
no_id sites id true few h says =
    let same : id_text id ≡ codes "none" = (bytes_decides (id_text id) (codes "none")).0 says in
    let read : Some id ≡ None = sym ((id_is sites few).back id h) ∙ ap (id_of sites) same ∙ none_of sites in
    absurd cc
no_id sites id false few h says = refl

winner_back : (sites : ℕ) (few : sites < 2 ^ 8) (w : Option Id) → IfSome w (IsId sites) → id_or_none sites (winner_text w) ≡ Some w
unfolding id_or_none
winner_back sites few None h = refl
winner_back sites few (Some id) h =
    ap (λ b. cond b (Some None) (option_map Some (id_of sites (id_text id)))) (no_id sites id _ few h refl)
    ∙ ap (option_map Some) ((id_is sites few).back id h)

pub winner_is : (sites : ℕ) → sites < 2 ^ 8 → IsField (λ w. IfSome w (IsId sites)) winner_text (id_or_none sites)
unfolding id_or_none
winner_is sites few = record { back = winner_back sites few; only = λ field w e. winner_by sites few field w _ _ refl refl e }

-- ---- counts

abbrev pub FitsDeps : ℕ → List ℕ → Type 0
FitsDeps sites d = (0 < sites) × ((length d ≡ sites) × All (λ n. n ≤ COUNT_MAX) d)

count_number : IsField (λ n. n ≤ COUNT_MAX) decimal (number_of COUNT_MAX)
count_number = number_is COUNT_MAX (omega arith)

no_colon : (n : ℕ) → n ≤ COUNT_MAX → All (λ b. b ≢ 58) (decimal n)
no_colon n h = decimal_free n 58 (omega (arith, h)) (λ r. absurd (omega (arith, r.1)))

deps_back : (d : ℕ) (ds : List ℕ) → AllByRecursion (λ n. n ≤ COUNT_MAX) (d ∷ ds)
    → deps_of (length (d ∷ ds)) (deps_text (d ∷ ds)) ≡ Some (d ∷ ds)
unfolding deps_of
deps_back d [] h = ap (option_map (λ n. n ∷ [])) (count_number.back d h.0)
deps_back d (e ∷ ds) h =
    step_by (cut_back 58 (decimal d) (deps_text (e ∷ ds)) (no_colon d h.0)) _
    ∙ step_back count_number d _ h.0
    ∙ ap (option_map (λ others. d ∷ others)) (deps_back e ds h.1)

deps_by : (sites : ℕ) (d : List ℕ) → FitsDeps sites d → deps_of sites (deps_text d) ≡ Some d
deps_by sites [] h = absurd (omega (arith, h.0, h.1.0))
deps_by sites (d ∷ ds) h =
    ap (λ n. deps_of n (deps_text (d ∷ ds))) (sym h.1.0)
    ∙ deps_back d ds (recursion_from_All (λ n. n ≤ COUNT_MAX) (d ∷ ds) h.1.1)

text_cons : (n : ℕ) (d : List ℕ) → 0 < length d → deps_text (n ∷ d) ≡ decimal n ++ 58 ∷ deps_text d
text_cons n [] some = absurd (omega (arith, some))
text_cons n (x ∷ xs) some = refl

one_count : (field d : List ℕ) (o : Option ℕ) → number_of COUNT_MAX field ≡ o → option_map (λ n. n ∷ []) o ≡ Some d
    → FitsDeps 1 d × (field ≡ deps_text d)
one_count field d None is e = absurd cc
one_count field d (Some n) is e =
    let w = count_number.only field n is in
    subst (λ x. FitsDeps 1 x × (field ≡ deps_text x)) (same_Some _ _ e)
    ((omega arith, (refl, All-cons (λ n. n ≤ COUNT_MAX) n [] w.0 (All-nil (λ n. n ≤ COUNT_MAX)))), w.1)

more_counts : (more count : ℕ) (field front back d : List ℕ) (o : Option (List ℕ)) → field ≡ front ++ 58 ∷ back
    → (count ≤ COUNT_MAX) × (front ≡ decimal count)
    → ((x : List ℕ) → o ≡ Some x → FitsDeps (suc more) x × (back ≡ deps_text x))
    → option_map (λ others. count ∷ others) o ≡ Some d
    → FitsDeps (suc (suc more)) d × (field ≡ deps_text d)
more_counts more count field front back d None cut w rest e = absurd cc
more_counts more count field front back d (Some ds) cut w rest e =
    let r = rest ds refl in
    subst (λ x. FitsDeps (suc (suc more)) x × (field ≡ deps_text x)) (same_Some _ _ e) (
      (omega arith, (ap suc r.0.1.0, All-cons (λ n. n ≤ COUNT_MAX) count ds w.0 r.0.1.1)),
      cut ∙ (λ i. w.1 i ++ 58 ∷ r.1 i) ∙ sym (text_cons count ds (omega (arith, r.0.1.0))),
    )

deps_only : (sites : ℕ) (field d : List ℕ) → deps_of sites field ≡ Some d → FitsDeps sites d × (field ≡ deps_text d)
unfolding deps_of
deps_only zero field d e = absurd cc
deps_only (suc zero) field d e = one_count field d _ refl e
deps_only (suc (suc more)) field d e =
    step_only (cut_at 58 field) _ d e (λ parts is e0.
    step_only (number_of COUNT_MAX parts.0) _ d e0 (λ count is0 e1.
    more_counts more count field parts.0 parts.1 d _ (cut_only 58 field parts is) (count_number.only parts.0 count is0)
    (λ x same. deps_only (suc more) parts.1 x same) e1))

pub deps_is : (sites : ℕ) → IsField (FitsDeps sites) deps_text (deps_of sites)
deps_is sites = record { back = deps_by sites; only = deps_only sites }
