-- Parts folded on a shard, one more at a time, and that its rows stay at home.
use Rattle.rubis_shard.proofs.Common.{◌≡◌, ℕ, ◌+◌, ◌-◌, ◌<◌, ◌≤◌, List, [], ◌∷◌, ◌++◌, length, take, drop, get_or, Bool, true, false, cond, sym, ap}
use Rattle.rubis_shard.proofs.Common.{◌∙◌, refl, subst, arith, ⊎_elim, slice_get, slice_range, Some, IfSome, Option, nat_eq, Result, Ok, Err, All}
use Rattle.rubis_shard.proofs.Common.{Decides-eqb, take_more, slice_get-get_or, slice_get_within, get_or_from_slice_get, home, after_part, Numbered}
use Rattle.rubis_shard.proofs.Common.{Folded, step, part_of}
use Rattle.std.proofs.Common.{length-drop, get_or-drop}
use Rattle.std.specs.Result.{OnOk, is_err}
use Rattle.std.proofs.lemmas.List.Sums.{fold-append}
use Rattle.std.proofs.lemmas.Option.{slice_get_cases}
use Rattle.rubis_model.proofs.Shares.{part_after}
use Rattle.rubis_shard.specs.States.{ShardState, with_parts, IsHomeOf}

-- ---- a list, one more at a time
pub slice_range_more : {X : Type 0} (xs : List X) (i j : ℕ) (x : X) → i ≤ j → slice_get xs j ≡ Some x
    → slice_range xs i (j + 1) ≡ slice_range xs i j ++ x ∷ []
slice_range_more xs i j x h g =
    let inside : j < length xs = slice_get_within xs j x g in
    let e : (j + 1) - i ≡ (j - i) + 1 = omega arith in
    let k : i + (j - i) ≡ j = omega arith in
    let fits : j - i < length (drop i xs) = omega (arith, length-drop i xs) in
    ap (λ n. take n (drop i xs)) e ∙ take_more (drop i xs) (j - i) x fits
    ∙ ap (λ y. slice_range xs i j ++ y ∷ []) (get_or-drop i xs (j - i) x ∙ ap (λ n. get_or xs n x) k
    ∙ get_or_from_slice_get xs j x x g)

pub with_append : (s : ShardState) (xs ys : List Numbered) → with_parts s (xs ++ ys) ≡ with_parts (with_parts s xs) ys
with_append s xs ys = λ i. record { number = s.number; shards = s.shards; folded = fold-append step s.folded xs ys i }

pub folds_more : (s now next : ShardState) (xs : List Numbered) (i j : ℕ) → i ≤ j → j < length xs
    → now ≡ with_parts s (slice_range xs i j)
    → IfSome (slice_get xs j) (λ n. next ≡ with_parts now (n ∷ [])) → next ≡ with_parts s (slice_range xs i (j + 1))
folds_more s now next xs i j h l e n = ⊎_elim
    (λ w. subst (λ o. IfSome o (λ x. next ≡ with_parts now (x ∷ []))) w.2 n ∙ ap (λ z. with_parts z (w.0 ∷ [])) e
    ∙ sym (with_append s (slice_range xs i j) (w.0 ∷ [])) ∙ ap (with_parts s) (sym (slice_range_more xs i j w.0 h w.2)))
    (λ w. absurd (omega arith)) (slice_get_cases xs j).1

pub of_ok : {T E : Type 0} (P : Type 0) (r : Result T E) → is_err r ≡ false → OnOk r P → P
of_ok P (Ok x) e h = h
of_ok P (Err x) e h = cc

-- ---- rows at home
pub part_kept : (shards k : ℕ) (f g : Folded) (n : Numbered) → part_of shards k f.tables ≡ f.tables
    → home shards n.effect.key ≡ k → g ≡ step f n
    → part_of shards k g.tables ≡ g.tables
part_kept shards k f g n own here next =
    ap (λ (x : Folded). part_of shards k x.tables) next
    ∙ part_after shards k f.tables n.effect
    ∙ ap (λ b. cond b (after_part (part_of shards k f.tables) n.effect) (part_of shards k f.tables)) ((Decides-eqb _ _).1 here)
    ∙ ap (λ t. after_part t n.effect) own
    ∙ ap (λ (x : Folded). x.tables) (sym next)

-- a part of the list is at home where all are
pub home_of_one : (s : ShardState) (ns : List Numbered) (i : ℕ) (n : Numbered) → All (IsHomeOf s) ns
    → slice_get ns i ≡ Some n → IsHomeOf s n
home_of_one s ns i n all e = subst (IsHomeOf s) (get_or_from_slice_get ns i n n e) (all i n (slice_get_within ns i n e))

pub not_equal : (a b : ℕ) → ¬ (a ≡ b) → nat_eq a b ≡ false
not_equal a b n = at (nat_eq a b) refl
  where
    at : (x : Bool) → nat_eq a b ≡ x → nat_eq a b ≡ false
    at true e = absurd (n ((Decides-eqb a b).0 e))
    at false e = e

pub if_some : {X : Type 0} (P : X → Type 0) (o : Option X) (x : X) → o ≡ Some x → P x → IfSome o P
if_some P o x e p = subst (λ (r : Option _). IfSome r P) (sym e) p

-- what was read from the list
pub part_at : {X : Type 0} (xs ys : List X) (i : ℕ) (x y : X) → ys ≡ xs → y ≡ get_or ys i y → x ≡ y → i < length xs
    → slice_get xs i ≡ Some x
part_at xs ys i x y same read copied within =
    slice_get-get_or xs i y within ∙ ap Some (ap (λ zs. get_or zs i y) (sym same) ∙ sym read ∙ sym copied)
