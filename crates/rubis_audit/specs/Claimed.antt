-- Rows that are claimed, and others that come one by one.
use Rattle.std.proofs.Common.{◌≡◌, ℕ, List, [], ◌∷◌, ◌++◌, refl, ap, ◌∙◌}
use Rattle.std.specs.Prelude.{Option, Some, None, cond, bytes_eq, option_and_then, option_map}
use Rattle.std.specs.Cmp.Lexicographic.{pointwise}
use Rattle.rubis_audit.specs.declared.rows.Claimed.{Claimed}

abbrev pub ClaimedRows : Type 0
ClaimedRows = List (List (List ℕ))

-- the claimed rows behind this one, if it is the first of them
abbrev pub behind_row : List (List ℕ) → ClaimedRows → Option ClaimedRows
behind_row row [] = None
behind_row row (first ∷ rest) = cond (pointwise bytes_eq first row) (Some rest) None

-- those behind these, if they are the first
abbrev pub behind_rows : ClaimedRows → Option ClaimedRows → Option ClaimedRows
behind_rows [] claimed = claimed
behind_rows (row ∷ rows) claimed = behind_rows rows (option_and_then (behind_row row) claimed)

-- those for which none has come, if each that came was the next of them
abbrev pub rest_for_next : Claimed → Option ClaimedRows
rest_for_next c = option_map (λ r. r.now) c.rest

pub none_came : (c : Claimed) → rest_for_next c ≡ behind_rows [] (rest_for_next c)
none_came c = refl

behind_more : (xs ys : ClaimedRows) (claimed : Option ClaimedRows) → behind_rows ys (behind_rows xs claimed) ≡ behind_rows (xs ++ ys) claimed
behind_more [] ys claimed = refl
behind_more (x ∷ xs) ys claimed = behind_more xs ys (option_and_then (behind_row x) claimed)

pub more_came : (xs ys : ClaimedRows) (a b c : Claimed) → rest_for_next b ≡ behind_rows xs (rest_for_next a) → rest_for_next c ≡ behind_rows ys (rest_for_next b)
    → rest_for_next c ≡ behind_rows (xs ++ ys) (rest_for_next a)
more_came xs ys a b c e f = f ∙ ap (behind_rows ys) e ∙ behind_more xs ys (rest_for_next a)
