-- What is put into a map of keys.
use Rattle.std.proofs.Common.{◌≡◌, ◌∙◌, ℕ, Bool, List, None, Option, Some, ap, cond, refl, subst, sym, true, false, Vec, Global}
use Rattle.std.specs.Prelude.{bytes_eq, unwrap_or, IsSome}
use Rattle.std.specs.BTreeMap.{BTreeMap, Updates, is_at}
use Rattle.std.specs.Map.{KeepsOthers}
use Rattle.std.specs.Ordering.{eq_by_cmp, nat_cmp}
use Rattle.std.specs.Cmp.{eq_by_cmp_equiv}
use Rattle.std.specs.Cmp.Lexicographic.{bytes_decides, nat_list_cmp_total, nat_list_eq_equiv, slice_cmp, texts_ties}
use Rattle.rubis_keys.specs.Maps.{Puts, at}
use Rattle.rubis_keys.specs.declared.keys.Known.{Known}

-- a key that is there has what it had
there : (o : Option Known) (b : Bool) (k : Known) → (b ≡ true → IsSome o) → o ≡ cond b (Some (unwrap_or o k)) o
there o false k some = refl
there (Some x) true k some = refl
there None true k some = let e = some refl in absurd cc

pub put_there : (old : BTreeMap (Vec ℕ Global) Known) (key : Vec ℕ Global) (known : Known) → IsSome (at old key.items) → Puts old old key.items known
put_there old key known some k = there (at old k) (bytes_eq key.items k) known (λ e. subst (λ q. IsSome (at old q)) ((bytes_decides key.items k).0 e) some)

fresh : (o : Option Known) (b : Bool) (known : Known) → (b ≡ true → o ≡ None) → cond b (Some known) o ≡ cond b (Some (unwrap_or o known)) o
fresh o false known h = refl
fresh o true known h = ap (λ x. Some (unwrap_or x known)) (sym (h refl))

-- what is found at other bytes is as it was
others : (old new : BTreeMap (Vec ℕ Global) Known) (key : Vec ℕ Global) (k : List ℕ) → KeepsOthers (eq_by_cmp (λ x y. slice_cmp nat_cmp x.items y.items)) (is_at (λ x. slice_cmp nat_cmp key.items x.items)) old.entries new.entries
    → bytes_eq key.items k ≡ false → at new k ≡ at old k
unfolding KeepsOthers
others old new key k keeps apart = keeps (is_at (λ v. slice_cmp nat_cmp k v.items))
    (λ x y. (eq_by_cmp_equiv nat_list_cmp_total).congr k x.items y.items)
    (λ v e. sym (texts_ties k v.items)
    ∙ (nat_list_eq_equiv.symm k v.items ∙ sym (nat_list_eq_equiv.congr key.items v.items k (texts_ties key.items v.items ∙ e)) ∙ apart))

put_at : (old new : BTreeMap (Vec ℕ Global) Known) (key : Vec ℕ Global) (known : Known) (k : List ℕ) (b : Bool) → bytes_eq key.items k ≡ b
    → Updates (λ x y. slice_cmp nat_cmp x.items y.items) old new key (Some known) → at new k ≡ cond b (Some known) (at old k)
put_at old new key known k true same updates = subst (λ q. at new q ≡ Some known) ((bytes_decides key.items k).0 same) updates.1
put_at old new key known k false apart updates = others old new key k updates.3 apart

pub put_new : (old new : BTreeMap (Vec ℕ Global) Known) (key : Vec ℕ Global) (known : Known) → at old key.items ≡ None
    → Updates (λ x y. slice_cmp nat_cmp x.items y.items) old new key (Some known) → Puts old new key.items known
put_new old new key known none updates k =
    put_at old new key known k (bytes_eq key.items k) refl updates
    ∙ fresh (at old k) (bytes_eq key.items k) known (λ e. ap (at old) (sym ((bytes_decides key.items k).0 e)) ∙ none)
