-- The laws of the order of keys, which its impls name.
use Rattle.std.proofs.Common.{ℕ, ◌≡◌, List, [], ◌∷◌, Bool, true, false, refl, sym, ap, ◌∙◌, subst}
use Rattle.std.specs.Prelude.{Decides, ◌&&◌, nat_eq}
use mathlib.Core.Bool.{true≢false}
use Rattle.std.proofs.lemmas.Bool.Decides.{Decides-eqb, same_from_decides}
use Rattle.std.specs.Cmp.{IsTotalOrder, IsEquivalence, Equal-is, tied_itself, eq_by_cmp_equiv}
use Rattle.std.specs.Cmp.Lexicographic.{on_texts, bytes_decides}
use Rattle.std.specs.Ordering.{is_eq}
use Rattle.std.specs.FinMap.{IsAntisymmetric, slice_cmp-IsAntisymmetric, nat_cmp-IsAntisymmetric}
pub use Rattle.rubis_schema.specs.Keys.{key_eq}
use Rattle.rubis_schema.specs.Keys.{key_code, key_order, tied, same_id}
use Rattle.rubis_schema.specs.declared.ids.Id.{Id}
use Rattle.rubis_schema.specs.declared.row_keys.RowKey.{RowKey}
use Rattle.rubis_schema.specs.declared.row_keys.RowKey.TheVariants.{User, Item, Bid, Purchase, Comment, Nick, Cat}

pub key_total : IsTotalOrder key_order
unfolding key_order
key_total = on_texts key_code

same_ids : {s q t r : ℕ} → s ≡ t → q ≡ r → ◌≡◌ {A = Id} (record { site = s; seq = q }) (record { site = t; seq = r })
same_ids a b = λ i. record { site = a i; seq = b i }

ids : (i j : Id) (a b : ℕ) → a ∷ i.site ∷ i.seq ∷ [] ≡ b ∷ j.site ∷ j.seq ∷ [] → i ≡ j
ids i j a b e =
    let s : i.site ≡ j.site = cc in
    let q : i.seq ≡ j.seq = cc in
    same_ids s q

pub key_of_code : (k l : RowKey) → key_code k ≡ key_code l → k ≡ l
key_of_code (User i) (User j) e = ap User (ids i j _ _ e)
key_of_code (Item i) (Item j) e = ap Item (ids i j _ _ e)
key_of_code (Bid i) (Bid j) e = ap Bid (ids i j _ _ e)
key_of_code (Purchase i) (Purchase j) e = ap Purchase (ids i j _ _ e)
key_of_code (Comment i) (Comment j) e = ap Comment (ids i j _ _ e)
key_of_code (Nick m) (Nick n) e =
    let s : m ≡ n = cc in
    ap Nick s
key_of_code (Cat m) (Cat n) e =
    let s : m ≡ n = cc in
    ap Cat s
key_of_code k l e = absurd cc

pub key_antisymmetric : IsAntisymmetric key_order
unfolding key_order
key_antisymmetric x y e = key_of_code x y (slice_cmp-IsAntisymmetric nat_cmp-IsAntisymmetric (key_code x) (key_code y) e)

pub tied-refl : (k : RowKey) → tied k k ≡ true
tied-refl k = ap is_eq (tied_itself key_total k)

pub Decides-tied : (k l : RowKey) → Decides (tied k l) (k ≡ l)
Decides-tied k l = (λ e. key_antisymmetric k l ((Equal-is (key_order k l)).0 e), λ e. ap (λ x. tied k x) (sym e) ∙ tied-refl k)

pub other_key : (k l : RowKey) → ¬ (k ≡ l) → tied k l ≡ false
other_key k l n = elim (tied k l) as (λ b. tied k l ≡ b → b ≡ false) [ true ↦ λ e. absurd (n ((Decides-tied k l).0 e)) | false ↦ λ e. refl ] refl

and_parts : (a b : Bool) → (a && b) ≡ true → (a ≡ true) × (b ≡ true)
and_parts true true e = (refl, refl)
and_parts true false e = absurd (true≢false (sym e))
and_parts false b e = absurd (true≢false (sym e))

pub Decides-same_id : (i j : Id) → Decides (same_id i j) (i ≡ j)
Decides-same_id i j = (
  λ e. same_ids ((Decides-eqb _ _).0 (and_parts _ _ e).0) ((Decides-eqb _ _).0 (and_parts (nat_eq i.site j.site) _ e).1),
  λ e. subst (λ k. same_id i k ≡ true) e (λ t. (Decides-eqb i.site i.site).1 refl t && (Decides-eqb i.seq i.seq).1 refl t),
)

of_ids : (f : Id → RowKey) (back : RowKey → Id) → ((i : Id) → back (f i) ≡ i) → (i j : Id) → Decides (same_id i j) (f i ≡ f j)
of_ids f back undo i j = (
  λ e. ap f ((Decides-same_id i j).0 e),
  λ e. (Decides-same_id i j).1 (sym (undo i) ∙ ap back e ∙ undo j),
)

key_id : RowKey → Id
key_id (User i) = i
key_id (Item i) = i
key_id (Bid i) = i
key_id (Purchase i) = i
key_id (Comment i) = i
key_id k = record { site = 0; seq = 0 }

nick_of : RowKey → List ℕ
nick_of (Nick n) = n
nick_of k = []

cat_of : RowKey → ℕ
cat_of (Cat k) = k
cat_of k = 0

pub Decides-key_eq : (k l : RowKey) → Decides (key_eq k l) (k ≡ l)
unfolding key_id nick_of cat_of
Decides-key_eq (User i) (User j) = of_ids User key_id (λ _. refl) i j
Decides-key_eq (Item i) (Item j) = of_ids Item key_id (λ _. refl) i j
Decides-key_eq (Bid i) (Bid j) = of_ids Bid key_id (λ _. refl) i j
Decides-key_eq (Purchase i) (Purchase j) = of_ids Purchase key_id (λ _. refl) i j
Decides-key_eq (Comment i) (Comment j) = of_ids Comment key_id (λ _. refl) i j
Decides-key_eq (Nick m) (Nick n) = (λ e. ap Nick ((bytes_decides m n).0 e), λ e. (bytes_decides m n).1 (ap nick_of e))
Decides-key_eq (Cat m) (Cat n) = (λ e. ap Cat ((Decides-eqb m n).0 e), λ e. (Decides-eqb m n).1 (ap cat_of e))
Decides-key_eq k l = (λ e. absurd (true≢false (sym e)), λ e. absurd cc)

pub tied-key_eq : (k l : RowKey) → tied k l ≡ key_eq k l
tied-key_eq k l = same_from_decides _ _ (Decides-tied k l) (Decides-key_eq k l)

-- ---- the laws that the comparisons of keys have to keep
pub key_eq_equiv : IsEquivalence key_eq
key_eq_equiv = subst (λ (E : RowKey → RowKey → Bool). IsEquivalence E) (λ i k l. tied-key_eq k l i) (eq_by_cmp_equiv key_total)
