-- Rows that are compared with claimed ones.
use Rattle.rubis_audit.proofs.Common.{ℕ, ◌≡◌, ◌==◌, List, [], ◌∷◌, Some, length, refl, sym, ap, ◌∙◌, Bool, None, Option, bytes_eq, cond, false, not}
use Rattle.rubis_audit.proofs.Common.{true, option_map_or, Decides-eqb, nil_from_length, same_rows}
use Rattle.std.specs.Prelude.{◌↔◌, Decides, IsTrue}
use Rattle.std.specs.Cmp.Lexicographic.{bytes_decides, pointwise}
use Rattle.std.proofs.lemmas.Bool.Decides.{Decides-and, Decides-like, same_from_decides}
use Rattle.std.proofs.lemmas.Option.{same_Some}
use mathlib.Core.Bool.{true≢false}
use Rattle.rubis_audit.specs.Claimed.{ClaimedRows, behind_row, behind_rows}

Decides-record : (a b : List (List ℕ)) → Decides (pointwise bytes_eq a b) (a ≡ b)
Decides-record [] [] = (λ e. refl, λ e. refl)
Decides-record [] (y ∷ b) = (λ e. absurd (true≢false (sym e)), λ e. absurd cc)
Decides-record (x ∷ a) [] = (λ e. absurd (true≢false (sym e)), λ e. absurd cc)
Decides-record (x ∷ a) (y ∷ b) =
    Decides-like _ (λ h i. h.0 i ∷ h.1 i) (λ e. (let p : x ≡ y = cc in p, let q : a ≡ b = cc in q)) (Decides-and _ _ (bytes_decides x y) (Decides-record a b))

Decides-rows : (a b : List (List (List ℕ))) → Decides (same_rows a b) (a ≡ b)
Decides-rows [] [] = (λ e. refl, λ e. refl)
Decides-rows [] (y ∷ b) = (λ e. absurd (true≢false (sym e)), λ e. absurd cc)
Decides-rows (x ∷ a) [] = (λ e. absurd (true≢false (sym e)), λ e. absurd cc)
Decides-rows (x ∷ a) (y ∷ b) =
    Decides-like _ (λ h i. h.0 i ∷ h.1 i) (λ e. (let p : x ≡ y = cc in p, let q : a ≡ b = cc in q)) (Decides-and _ _ (Decides-record x y) (Decides-rows a b))

-- whether claimed rows are others, by a comparison
pub rows_by : (claimed shown want : List (List (List ℕ))) (rows : Option (List (List (List ℕ)))) (same : Bool) → IsTrue same ↔ (claimed ≡ shown) → shown ≡ want
    → Some claimed ≡ rows → not same ≡ option_map_or (λ rs. not (same_rows rs want)) rows false
rows_by claimed shown want rows same d s r =
    ap not (same_from_decides same (same_rows claimed shown) d (Decides-rows claimed shown))
    ∙ ap (λ w. not (same_rows claimed w)) s ∙ ap (λ o. option_map_or (λ rs. not (same_rows rs want)) o false) r

-- ---- rows that come one by one

-- what is left behind a row that was compared with the first
pub behind_first : (row first : List (List ℕ)) (rest claimed : ClaimedRows) (same : Bool) → IsTrue same ↔ (first ≡ row) → claimed ≡ first ∷ rest
    → cond same (Some rest) None ≡ behind_row row claimed
behind_first row first rest claimed same d is =
    ap (λ b. cond b (Some rest) None) (same_from_decides same (pointwise bytes_eq first row) d (Decides-record first row)) ∙ ap (behind_row row) (sym is)

none_left : (rows : ClaimedRows) → behind_rows rows None ≡ None
none_left [] = refl
none_left (row ∷ rows) = none_left rows

all_left : (rows : ClaimedRows) → behind_rows rows (Some rows) ≡ Some []
all_left [] = refl
all_left (row ∷ rows) = ap (λ b. behind_rows rows (cond b (Some rows) None)) ((Decides-record row row).1 refl) ∙ all_left rows

all_were : (rows claimed : ClaimedRows) → behind_rows rows (Some claimed) ≡ Some [] → claimed ≡ rows
all_were [] claimed e = let same : claimed ≡ [] = cc in same
all_were (row ∷ rows) [] e = let none : ◌≡◌ {A = Option ClaimedRows} None (Some []) = sym (none_left rows) ∙ e in absurd cc
all_were (row ∷ rows) (first ∷ rest) e = at (pointwise bytes_eq first row) refl e (all_were rows rest)
  where
    at : (b : Bool) → pointwise bytes_eq first row ≡ b → behind_rows rows (cond (pointwise bytes_eq first row) (Some rest) None) ≡ Some []
        → (behind_rows rows (Some rest) ≡ Some [] → rest ≡ rows) → first ∷ rest ≡ row ∷ rows
    at true is e more =
        let same : first ≡ row = (Decides-record first row).0 is in
        let others : rest ≡ rows = more (ap (λ b. behind_rows rows (cond b (Some rest) None)) (sym is) ∙ e) in
        λ i. same i ∷ others i
    at false is e more =
        let none : ◌≡◌ {A = Option ClaimedRows} None (Some []) = sym (none_left rows) ∙ ap (λ b. behind_rows rows (cond b (Some rest) None)) (sym is) ∙ e in
        absurd cc

-- all claimed rows have come and no others, where they are the rows
pub all_came : (rows claimed : ClaimedRows) (left : Option ClaimedRows) → left ≡ behind_rows rows (Some claimed) → (left ≡ Some []) ↔ (claimed ≡ rows)
all_came rows claimed left is = (
  λ e. all_were rows claimed (sym is ∙ e),
  λ e. is ∙ ap (λ c. behind_rows rows (Some c)) e ∙ all_left rows,
)

-- whether none is left to come
pub none_more : (rest : ClaimedRows) (left : Option ClaimedRows) (empty : Bool) → left ≡ Some rest → empty ≡ (length rest == 0) → IsTrue empty ↔ (left ≡ Some [])
none_more rest left empty is e = (
  λ yes. is ∙ ap Some (nil_from_length rest ((Decides-eqb (length rest) 0).0 (sym e ∙ yes))),
  λ done. let none : rest ≡ [] = same_Some _ _ (sym is ∙ done) in e ∙ ap (λ (r : ClaimedRows). length r == 0) none,
)

pub never_done : (left : Option ClaimedRows) → left ≡ None → IsTrue false ↔ (left ≡ Some [])
never_done left is = (λ yes. absurd (true≢false (sym yes)), λ done. let none : ◌≡◌ {A = Option ClaimedRows} None (Some []) = sym is ∙ done in absurd cc)
