-- A text that is cut at its first mark.
use Rattle.std.proofs.Common.{◌≡◌, ◌≢◌, ◌<◌, ◌+◌, ◌==◌, ℕ, List, ◌∷◌, ◌++◌, length, get_or, take, drop, refl, ap, sym, subst, ◌∙◌, arith, add-one}
use Rattle.std.proofs.Common.{length-append}
use Rattle.std.specs.Prelude.{nat_lt, cond, Option, Some, None, option_map}
use Rattle.std.specs.List.{All, position, position_or_len}
use Rattle.std.proofs.lemmas.List.{get_or_append_left}
use Rattle.std.proofs.lemmas.List.Elements.{All-get_or}
use Rattle.std.proofs.lemmas.List.Quantifiers.{position-Some}
use Rattle.std.proofs.lemmas.List.Sums.{position_or_len_is}
use Rattle.std.proofs.lemmas.Option.{same_Some}
use Rattle.std.proofs.lemmas.Bool.{ne_eqb}
use Rattle.std.proofs.lemmas.Bool.Decides.{Decides-eqb, Decides-ltb}
use Rattle.std.proofs.Math.Seq.{split_at, get_or-append_seam, take-append_seam, drop-append-add}
use Rattle.rubis_schema.specs.FieldForms.{cut_at}

first_mark : (mark : ℕ) (xs ys : List ℕ) → All (λ b. b ≢ mark) xs → position_or_len (λ b. b == mark) (xs ++ mark ∷ ys) ≡ length xs
first_mark mark xs ys free =
    position_or_len_is (λ b. b == mark) (xs ++ mark ∷ ys) (length xs) 0 (omega (arith, length-append xs (mark ∷ ys)))
    (λ k lt. ap (λ b. b == mark) (get_or_append_left xs (mark ∷ ys) 0 k lt)
    ∙ ne_eqb _ mark (All-get_or (λ b. b ≢ mark) xs k 0 lt free))
    (λ lt. ap (λ b. b == mark) (get_or-append_seam xs mark ys 0) ∙ (Decides-eqb mark mark).1 refl)

mark_at : (mark : ℕ) (xs ys : List ℕ) → All (λ b. b ≢ mark) xs → position (λ b. b == mark) (xs ++ mark ∷ ys) ≡ Some (length xs)
mark_at mark xs ys free =
    let within : length xs < length (xs ++ mark ∷ ys) = omega (arith, length-append xs (mark ∷ ys)) in
    ap (λ n. cond (nat_lt n (length (xs ++ mark ∷ ys))) (Some n) None) (first_mark mark xs ys free)
    ∙ ap (λ b. cond b (Some (length xs)) None) ((Decides-ltb (length xs) (length (xs ++ mark ∷ ys))).1 within)

-- it falls into what is free of marks in front, and what follows the mark
pub cut_back : (mark : ℕ) (xs ys : List ℕ) → All (λ b. b ≢ mark) xs → cut_at mark (xs ++ mark ∷ ys) ≡ Some (xs, ys)
cut_back mark xs ys free =
    ap (option_map (λ place. (take place (xs ++ mark ∷ ys), drop (place + 1) (xs ++ mark ∷ ys)))) (mark_at mark xs ys free)
    ∙ (λ i. Some (take-append_seam xs (mark ∷ ys) i, drop-append-add xs (mark ∷ ys) 1 i))

cut_by : (mark : ℕ) (field : List ℕ) (parts : List ℕ × List ℕ) (o : Option ℕ) → position (λ b. b == mark) field ≡ o
    → option_map (λ place. (take place field, drop (place + 1) field)) o ≡ Some parts → field ≡ parts.0 ++ mark ∷ parts.1
cut_by mark field parts None is e = absurd cc
cut_by mark field parts (Some place) is e =
    let at = position-Some (λ b. b == mark) field place 0 is in
    let here : get_or field place 0 ≡ mark = (Decides-eqb (get_or field place 0) mark).0 at.1 in
    let cut : field ≡ take place field ++ mark ∷ drop (place + 1) field =
    split_at field place 0 at.0 ∙ (λ i. take place field ++ here i ∷ drop (sym (add-one place) i) field) in
    subst (λ (p : List ℕ × List ℕ). field ≡ p.0 ++ mark ∷ p.1) (same_Some _ _ e) cut

-- put together with the mark between, the two parts are the text
pub cut_only : (mark : ℕ) (field : List ℕ) (parts : List ℕ × List ℕ) → cut_at mark field ≡ Some parts
    → field ≡ parts.0 ++ mark ∷ parts.1
cut_only mark field parts e = cut_by mark field parts _ refl e
