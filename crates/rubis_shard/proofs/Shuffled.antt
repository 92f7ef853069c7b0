-- Entries with different keys that are found alike are the same, in some order.
use Rattle.rubis_shard.proofs.Common.{◌≡◌, Bool, false, ⊎_elim, refl, sym, ap, subst, ◌∙◌, List, [], ◌∷◌, arith, None, Some, Option, is_some, cond}
use Rattle.rubis_shard.proofs.Common.{unwrap_or, AllByRecursion, IsDistinct, IsPermutation, keys_of, lookup, false≢true, IsPermutation-refl}
use Rattle.rubis_shard.proofs.Common.{IsPermutation-sym, IsPermutation-trans, key_eq, Decides-key_eq, key_eq_equiv, RowKey, Row}
use Rattle.std.specs.Map.{remove_entry}
use Rattle.std.proofs.lemmas.Bool.{cases_Bool, cond-true, cond-false, cond_both}
use Rattle.std.proofs.lemmas.List.Sorted.{IsPermutation-cons, IsPermutation-swap}
use Rattle.std.proofs.lemmas.Map.{lookup-remove_entry}
use Rattle.std.proofs.lemmas.Map.Keys.{IsDistinct-head, IsDistinct-tail, IsDistinct-cons}
use Rattle.std.proofs.lemmas.Map.Entries.{lookup_head, lookup_tail}

abbrev Entries : Type 0
Entries = List (RowKey × Row)

all_without : (P : RowKey → Type 0) (test : RowKey → Bool) (es : Entries) → AllByRecursion P (keys_of es) → AllByRecursion P (keys_of (remove_entry test es))
all_without P test [] a = tt
all_without P test (e ∷ es) a = cond_both (test e.0) es (e ∷ remove_entry test es) (λ l. AllByRecursion P (keys_of l)) (λ _. a.1)
    (λ _. (a.0, all_without P test es a.1))

distinct_without : (test : RowKey → Bool) (es : Entries) → IsDistinct key_eq (keys_of es) → IsDistinct key_eq (keys_of (remove_entry test es))
distinct_without test [] d = d
distinct_without test (e ∷ es) d =
    let rest = IsDistinct-tail key_eq e.0 (keys_of es) d in
    cond_both (test e.0) es (e ∷ remove_entry test es) (λ l. IsDistinct key_eq (keys_of l)) (λ _. rest)
    (λ _. IsDistinct-cons key_eq e.0 _ (all_without (λ y. key_eq e.0 y ≡ false) test es (IsDistinct-head key_eq e.0 (keys_of es) d))
    (distinct_without test es rest))

-- what is found, put in front
pulled : (q : RowKey) (v : Row) (es : Entries) → lookup (key_eq q) es ≡ Some v → IsPermutation es ((q, v) ∷ remove_entry (key_eq q) es)
pulled q v [] h = absurd cc
pulled q v (e ∷ es) h =
    let more = remove_entry (key_eq q) es in
    ⊎_elim
    (λ y.
    let value : v ≡ e.1 = ap (λ u. unwrap_or u v) (sym h ∙ lookup_head (key_eq q) e es y) in
    let whole : (q, v) ∷ cond (key_eq q e.0) es (e ∷ more)
    ≡ e ∷ es = λ j. ((Decides-key_eq q e.0).0 y j, value j) ∷ cond-true (key_eq q e.0) es (e ∷ more) y j in
    subst (IsPermutation (e ∷ es)) (sym whole) (IsPermutation-refl (e ∷ es)))
    (λ n.
    let turned = IsPermutation-trans _ _ _ (IsPermutation-cons e _ _ (pulled q v es (sym (lookup_tail (key_eq q) e es n) ∙ h)))
    (IsPermutation-swap (e ∷ (q, v) ∷ more) ((q, v) ∷ e ∷ more) 0 1 (omega arith) (omega arith) refl) in
    subst (λ l. IsPermutation (e ∷ es) ((q, v) ∷ l)) (sym (cond-false (key_eq q e.0) es (e ∷ more) n)) turned)
    (cases_Bool (key_eq q e.0))

pub shuffled : (es fs : Entries) → IsDistinct key_eq (keys_of es) → IsDistinct key_eq (keys_of fs)
    → ((q : RowKey) → lookup (key_eq q) es ≡ lookup (key_eq q) fs) → IsPermutation es fs
shuffled [] [] c d h = IsPermutation-refl []
shuffled [] (y ∷ ys) c d h =
    let none : ◌≡◌ {A = Option Row} None (Some y.1) = h y.0 ∙ lookup_head (key_eq y.0) y ys (key_eq_equiv.refl y.0) in
    absurd (false≢true (ap (λ (o : Option Row). is_some o) none))
shuffled (x ∷ xs) fs c d h =
    let k = x.0 in
    let gone : remove_entry (key_eq k) (x ∷ xs) ≡ xs = cond-true (key_eq k k) xs (x ∷ remove_entry (key_eq k) xs) (key_eq_equiv.refl k) in
    let others = shuffled xs (remove_entry (key_eq k) fs) (IsDistinct-tail key_eq k (keys_of xs) c) (distinct_without (key_eq k) fs d)
    (λ q. ap (lookup (key_eq q)) (sym gone) ∙ lookup-remove_entry key_eq_equiv (key_eq k) (key_eq_equiv.congr k) q (x ∷ xs) c
    ∙ ap (cond (key_eq k q) None) (h q) ∙ sym (lookup-remove_entry key_eq_equiv (key_eq k) (key_eq_equiv.congr k) q fs d)) in
    IsPermutation-trans _ _ _ (IsPermutation-cons x _ _ others)
    (IsPermutation-sym _ _ (pulled k x.1 fs (sym (h k) ∙ lookup_head (key_eq k) x xs (key_eq_equiv.refl k))))
