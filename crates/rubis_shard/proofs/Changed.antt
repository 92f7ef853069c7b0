-- A row of one map that is changed where it stands.
use Rattle.rubis_shard.proofs.Common.{◌≡◌, ◌-◌, Bool, true, false, List, sym, ap, ◌∙◌, subst, cond, refl, Option, Some, None, is_none, is_some}
use Rattle.rubis_shard.proofs.Common.{nat_le, AllByRecursion, lookup, insert_entry, row_key, same_id_key, IdKey, Tables, RowKey, ItemRow, Row, Sale}
use Rattle.rubis_shard.proofs.Common.{after_part, change_row, count_up, fits_as, if_open, misfits_as, with_row, Done, FreesOnlyNicks, IsNickKey, Change}
use Rattle.rubis_shard.proofs.Common.{Effect, StockShort, after_none, misfit_none, none_of, row_stays}
use Rattle.std.specs.Prelude.{not, IsSome}
use Rattle.rubis_shadow.specs.Changes.{misfit_of}
use Rattle.rubis_shadow.specs.declared.changes.Change.TheVariants.{Insert}
use Rattle.rubis_shadow.specs.declared.changes.Fate.{Fate}
use Rattle.rubis_shadow.proofs.Rows.{after_alter, misfit_alter, remove_none, not_insert}
use Rattle.std.specs.FinMap as map
use Rattle.rubis_schema.specs.declared.rows.Row.TheVariants as row
use Rattle.rubis_schema.specs.declared.rows.Sale.TheVariants as sale
use Rattle.rubis_shadow.specs.declared.changes.Change.TheVariants as change
use Rattle.rubis_shard.specs.Chains.{chains_of, IsLinkedSoFar, chain_written}
use Rattle.rubis_shard.specs.Rows.{no_row, IsAltered, IsChanged}
use Rattle.rubis_shard.specs.declared.chains.Chains.{Chains}
use Rattle.rubis_shard.proofs.InMaps.{all_set, new_last}
use Rattle.rubis_shard.proofs.Linking.{chain_stays, chains_pushed, chains_set, linked_more}

pub not_true : (b : Bool) → not b ≡ true → b ≡ false
not_true true e = sym e
not_true false e = refl

pub not_false : (b : Bool) → not b ≡ false → b ≡ true
not_false true e = refl
not_false false e = sym e

-- a row that was changed and then removed
none_over : (b : Bool) (row : Row) (o : Option Row) → cond b None (cond b (Some row) o) ≡ cond b None o
none_over true row o = refl
none_over false row o = refl

pub removed_found : (b : Bool) (row : Row) (o p q : Option Row) → q ≡ cond b None p → p ≡ cond b (Some row) o → q ≡ cond b None o
removed_found b row o p q less changed = less ∙ ap (cond b None) changed ∙ none_over b row o

-- the first of the rows that were linked are linked when one was put after
pub linked_put : (es fs : List (IdKey × Row)) (k : IdKey) (row : Row) (c : Chains) → true ≡ is_none (lookup (same_id_key k) es)
    → fs ≡ insert_entry same_id_key es k row → IsLinkedSoFar (chains_of (chain_written row_key es)) c
    → IsLinkedSoFar (chains_of (chain_written row_key fs)) c
linked_put es fs k row c free put linked =
    subst (λ xs. IsLinkedSoFar (chains_of (chain_written row_key xs)) c) (sym (put ∙ new_last same_id_key k row es (none_of _ free)))
    (subst (λ cs. IsLinkedSoFar cs c) (sym (chains_pushed row_key es k row)) (linked_more _ _ c linked))

module _ {K : Type 0} (same : K → K → Bool) (old new : List (K × Row)) (key : K) (e : Effect) (fate : Fate)
    (none : lookup (same key) old ≡ None → (new ≡ old) × (fate ≡ no_row))
    (some : (was : Row) → lookup (same key) old ≡ Some was → IsChanged same old new key e.change was fate) where
  pub changed_tables : (t t' : Tables) → map.get t e.key ≡ lookup (same key) old → ((row : Row) → e.change ≡ Insert row → ⊥)
      → (new ≡ old → t' ≡ t)
      → ((v : Option Row) → ((q : K) → lookup (same q) new ≡ cond (same key q) v (lookup (same q) old)) → t' ≡ with_row t e.key v)
      → t' ≡ after_part t e
  changed_tables t t' at insert kept put = by (lookup (same key) old) refl
    where
      by : (o : Option Row) → lookup (same key) old ≡ o → t' ≡ after_part t e
      by None is = kept (none is).0 ∙ sym (remove_none t e.key (at ∙ is)) ∙ after_none t e _ (at ∙ is) (not_insert e.change insert)
      by (Some was) is = let h = some was is in put h.row h.found ∙ after_alter t e was h.row (at ∙ is) h.changed

  pub changed_misfit : (t : Tables) → map.get t e.key ≡ lookup (same key) old → ((row : Row) → e.change ≡ Insert row → ⊥)
      → fate.misfit ≡ misfit_of t e
  changed_misfit t at insert = by (lookup (same key) old) refl
    where
      by : (o : Option Row) → lookup (same key) old ≡ o → fate.misfit ≡ misfit_of t e
      by None is = ap (λ (f : Fate). f.misfit) (none is).1 ∙ misfit_none t e _ (at ∙ is) (not_insert e.change insert)
      by (Some was) is = misfit_alter t e was fate.misfit (at ∙ is) (some was is).told

-- ---- rows with ids and categories are never removed
if_open_stays : (i : ItemRow) (sale : Sale) (d : Done) → IsSome d.row → IsSome (if_open i sale d).row
if_open_stays i sale.Open d e = e
if_open_stays i (sale.Ended w) d e = refl

row_kept : (k : RowKey) → ¬ IsNickKey k → (r : Row) (c : Change) → FreesOnlyNicks k c → IsSome (change_row c (Some r)).row
unfolding change_row
row_kept k other (row.Item i) (change.BidTaken b) frees = if_open_stays i i.sale _ refl
row_kept k other (row.Item i) (change.Sold q) frees =
    if_open_stays i i.sale _
    (elim (nat_le q i.stock) as
    (λ b. IsSome (cond b (fits_as (row.Item (record i { stock = i.stock - q; sold = count_up i.sold q }))) (misfits_as StockShort (Some (row.Item i)))).row)
    [ true ↦ refl | false ↦ refl ])
row_kept k other (row.Item i) (change.End w) frees = if_open_stays i i.sale _ refl
row_kept k other (row.Nick i) (change.NickFreed u) frees = absurd (other frees)
row_kept k other (row.User u) (change.Insert x) frees = refl
row_kept k other (row.Cat n) (change.Insert x) frees = refl
row_kept k other (row.Bid b) (change.Insert x) frees = refl
row_kept k other (row.Purchase p) (change.Insert x) frees = refl
row_kept k other (row.Comment m) (change.Insert x) frees = refl
row_kept k other r c frees = refl

pub row_stays_at : (k : RowKey) (c : Change) (r : Row) → ¬ IsNickKey k → FreesOnlyNicks k c → IsSome (change_row c (Some r)).row
row_stays_at k c r other frees = row_kept k other r c frees

stays_if_some : (b : Bool) (row : Row) (o : Option Row) → IsSome o → o ≡ cond b (Some row) None → b ≡ true
stays_if_some true row o some is = refl
stays_if_some false row o some is = absurd (let none : true ≡ false = sym some ∙ ap is_some is in cc)

-- a row that was changed where it stands, by a change that removes none
module _ {K : Type 0} (same : K → K → Bool) (old new : List (K × Row)) (key : K) (c : Change) (fate : Fate)
    (none : lookup (same key) old ≡ None → (new ≡ old) × (fate ≡ no_row))
    (some : (was : Row) → lookup (same key) old ≡ Some was → IsAltered same old new key c was fate)
    (stays : (was : Row) → IsSome (change_row c (Some was)).row) where
  kept : (was : Row) (is : lookup (same key) old ≡ Some was) → (change_row c (Some was)).row ≡ Some (some was is).row
  kept was is =
      let h = some was is in
      h.changed ∙ row_stays fate.stays h.row (stays_if_some fate.stays h.row _ (stays was) h.changed)

  pub altered : (was : Row) → lookup (same key) old ≡ Some was → IsChanged same old new key c was fate
  altered was is = let h = some was is in record { row = Some h.row; changed = kept was is; told = h.told; found = h.found }

  -- it is in the chain that it was in
  pub altered_chains : (f : K → RowKey) → chains_of (chain_written f new) ≡ chains_of (chain_written f old)
  altered_chains f = by (lookup (same key) old) refl
    where
      by : (o : Option Row) → lookup (same key) old ≡ o → chains_of (chain_written f new) ≡ chains_of (chain_written f old)
      by None is = ap (λ es. chains_of (chain_written f es)) (none is).0
      by (Some was) is =
          let h = some was is in
          ap (λ es. chains_of (chain_written f es)) h.entries
          ∙ chains_set f (same key) old was h.row is (λ k. chain_stays c k was h.row (kept was is))

-- rows with ids that were all of one kind before
pub altered_all : (P : IdKey → Type 0) (old new : List (IdKey × Row)) (key : IdKey) (c : Change) (fate : Fate)
    → (lookup (same_id_key key) old ≡ None → (new ≡ old) × (fate ≡ no_row))
    → ((was : Row) → lookup (same_id_key key) old ≡ Some was → IsAltered same_id_key old new key c was fate)
    → AllByRecursion (λ e. P e.0) old → AllByRecursion (λ e. P e.0) new
altered_all P old new key c fate none some all = by (lookup (same_id_key key) old) refl
  where
    by : (o : Option Row) → lookup (same_id_key key) old ≡ o → AllByRecursion (λ e. P e.0) new
    by None is = subst (AllByRecursion (λ (e : IdKey × Row). P e.0)) (sym (none is).0) all
    by (Some was) is =
        let h = some was is in
        subst (AllByRecursion (λ (e : IdKey × Row). P e.0)) (sym h.entries) (all_set P (same_id_key key) old h.row all)
