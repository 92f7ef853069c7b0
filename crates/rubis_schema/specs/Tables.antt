-- The tables of a site, and lists of rows.
use Rattle.std.specs.Prelude.{ℤ, Bool, false, ◌&&◌, nat_eq, pos, ◌∷◌, ◌⊎◌}
use Rattle.rubis_schema.specs.declared.rows.CatRow.{CatRow}
use Rattle.std.specs.FinMap as map
use Rattle.rubis_schema.specs.Keys.{key_order}
use Rattle.rubis_schema.specs.declared.rows.Row.{Row}
use Rattle.std.proofs.Common.{◌≡◌, ℕ, ◌+◌, List, [], ◌++◌, length, sym, ap, ◌∙◌, add-zero, add_assoc, append_assoc, length-append}
use Rattle.std.proofs.lemmas.List.{append-nil}

-- the number is 0
abbrev pub is_zero : ℤ → Bool
is_zero (pos n) = nat_eq n 0
is_zero n = false

-- a category shows something where it has items, or live ones
abbrev pub shows_nothing : CatRow → Bool
shows_nothing c = nat_eq c.items 0 && is_zero c.live

-- ---- the tables of a site

-- a finite map from keys to rows
abbrev pub Tables : Type 0
Tables = map.FinMap key_order Row

-- ---- rows that are added to a list

pub added_none : (s : List (List (List ℕ))) → s ≡ s ++ []
added_none s = sym (append-nil s)

pub added_more : (xs ys a b c : List (List (List ℕ))) → b ≡ a ++ xs → c ≡ b ++ ys → c ≡ a ++ (xs ++ ys)
added_more xs ys a b c e f = f ∙ ap (λ s. s ++ ys) e ∙ append_assoc a xs ys

pub held_more : (xs ys a b : List (List (List ℕ))) → a ≡ xs → b ≡ a ++ ys → b ≡ xs ++ ys
held_more xs ys a b e f = f ∙ ap (λ s. s ++ ys) e

pub counted_none : (n : ℕ) → n ≡ n + length {A = List (List ℕ)} []
counted_none n = sym (add-zero n)

pub counted_more : (xs ys : List (List (List ℕ))) (a b c : ℕ) → b ≡ a + length xs → c ≡ b + length ys → c ≡ a + length (xs ++ ys)
counted_more xs ys a b c e f = f ∙ ap (λ n. n + length ys) e ∙ add_assoc a (length xs) (length ys) ∙ ap (λ n. a + n) (sym (length-append xs ys))

pub count_held : (xs ys : List (List (List ℕ))) (a b : ℕ) → a ≡ length xs → b ≡ a + length ys → b ≡ length (xs ++ ys)
count_held xs ys a b e f = f ∙ ap (λ n. n + length ys) e ∙ sym (length-append xs ys)

-- ---- what is in a list: a word that the definitions of all crates above share

-- x is in the list
abbrev pub Has : {A : Type 0} → A → List A → Type 0
Has x [] = ⊥
Has x (y ∷ ys) = (x ≡ y) ⊎ Has x ys
