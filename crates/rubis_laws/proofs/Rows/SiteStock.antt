-- What there was to sell of an item in a log that a site can have is far below the end of its type.
use Rattle.rubis_laws.proofs.Common.{ℕ, ◌≡◌, ◌+◌, ◌*◌, ◌^◌, ◌<◌, ◌≤◌, List, [], ◌∷◌, ◌++◌, Bool, true, false, length, length-append, refl, sym, ap, ◌∙◌, subst}
use Rattle.rubis_laws.proofs.Common.{arith, Option, Some, None, IfSome, fold_push, same_id, Id, InLimits, Shadow, Item, IsMessage, Message, supplied, supply_at}
use Rattle.rubis_laws.proofs.Common.{core, cores, Has, cores_push, has_last, has_left}
use Rattle.rubis_schema.specs.declared.limits.TheConstants.{QUANTITY_MAX}
use Rattle.rubis_model.specs.Forged.{SitesKeepStock}
use Rattle.rubis_laws.proofs.Order.FitsByKind.{restocked_in}
use Rattle.rubis_laws.proofs.Rows.Forged.{stock_is_kept}
use Rattle.rubis_laws.proofs.Rows.Sets.{by_pushes}

-- at most a million for each message so far
abbrev Few : ℕ → Option ℕ → Type 0
Few n o = IfSome o (λ s. s ≤ 1000000 * n)

million : QUANTITY_MAX ≡ 1000000
million = refl

few_more : (n : ℕ) {q s : ℕ} → s ≤ 1000000 * n → q ≤ QUANTITY_MAX → s + q ≤ 1000000 * (n + 1)
few_more n l k = omega (arith, l, k, million)

few_first : (n : ℕ) {q : ℕ} → q ≤ QUANTITY_MAX → q ≤ 1000000 * (n + 1)
few_first n k = omega (arith, k, million)

-- what one more message within the limits adds
few_next : (sites n : ℕ) (i : Id) (own : Bool) (o : Option ℕ) (x : Shadow) → InLimits sites x → Few n o → Few (n + 1) (supplied i own o x)
few_next sites n i true None (Item k) l h = few_first n l.stock.small
few_next sites n i false None (Item k) l h = tt
few_next sites n i own None x l h = tt
few_next sites n i own (Some s) x l h = few_more n h (restocked_in i x (sites, l))

abbrev FewIn : Id → List Message → Type 0
FewIn i log = ((m : Message) → Has m log → IsMessage m) → Few (length log) (supply_at i (cores log))

few_pushed : (i : Id) (log : List Message) (m : Message) → FewIn i log → FewIn i (log ++ m ∷ [])
few_pushed i log m h all =
    let before = h (λ x k. all x (has_left x log (m ∷ []) k)) in
    let is = all m (has_last m log) in
    let more = ap (supply_at i) (cores_push log m) ∙ fold_push _ None (cores log) (core m) in
    subst (λ o. Few (length (log ++ m ∷ [])) o) (sym more)
    (subst (λ n. Few n (supplied i (same_id i m.stamp.id) (supply_at i (cores log)) m.shadow)) (sym (length-append log (m ∷ [])))
    (few_next _ (length log) i (same_id i m.stamp.id) (supply_at i (cores log)) m.shadow is.shadow before))

few_in : (i : Id) (log : List Message) → FewIn i log
few_in i log = by_pushes (FewIn i) (λ all. tt) (λ xs x h. few_pushed i xs x h) log

pub sites_keep_stock : SitesKeepStock
sites_keep_stock log i all few = stock_is_kept (cores log) i (at (supply_at i (cores log)) (few_in i log all))
  where
    at : (o : Option ℕ) → Few (length log) o → IfSome o (λ s. s < 2 ^ 64)
    at None h = tt
    at (Some s) h = omega (arith, h, few)
