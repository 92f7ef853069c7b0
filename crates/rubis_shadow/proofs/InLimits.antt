-- Parts of shadows within the limits keep the tables within the limits.
use Rattle.std.proofs.Common.{ℕ, zero, suc, ◌+◌, Bool, true, false, cond, sym, subst, List, [], ◌∷◌}
use Rattle.std.specs.Prelude.{Some, None, Option, IfSome, ⊤, nat_lt, nat_le}
use Rattle.std.specs.FinMap as map
use Rattle.rubis_schema.specs.declared.limits.TheConstants.{CATEGORIES}
use Rattle.rubis_schema.specs.Ids.{IsId}
use Rattle.rubis_schema.specs.Keys.{key_order, same_id, tied}
use Rattle.rubis_schema.specs.KeyLaws.{key_total}
use Rattle.rubis_schema.specs.Tables.{Tables}
use Rattle.rubis_schema.specs.declared.ids.Id.{Id}
use Rattle.rubis_schema.specs.declared.row_keys.RowKey.{RowKey}
use Rattle.rubis_schema.specs.declared.row_keys.RowKey.TheVariants as key
use Rattle.rubis_schema.specs.declared.rows.Row.{Row}
use Rattle.rubis_schema.specs.declared.rows.Row.TheVariants as row
use Rattle.rubis_schema.specs.declared.rows.Best.{Best}
use Rattle.rubis_schema.specs.declared.rows.Sale.{Sale}
use Rattle.rubis_schema.specs.declared.rows.Sale.TheVariants.{Open, Ended}
use Rattle.rubis_schema.specs.declared.rows.ItemRow.{ItemRow}
use Rattle.rubis_shadow.specs.Changes.{Done, change_row, after_part, with_row, better, if_open, misfits_as, removed}
use Rattle.rubis_shadow.specs.Tables.{RowInLimits, AllInLimits, categories_from, new_category, opening}
use Rattle.rubis_shadow.specs.Shadows.{InLimits, parts}
use Rattle.rubis_shadow.specs.declared.changes.Change.{Change}
use Rattle.rubis_shadow.specs.declared.changes.Change.TheVariants.{Insert, BidTaken, Sold, End, NickFreed}
use Rattle.rubis_shadow.specs.declared.keyed_change.Effect.{Effect}
use Rattle.rubis_shadow.specs.declared.changes.MisfitKind.{MisfitKind}
use Rattle.rubis_shadow.specs.declared.shadows.Shadow.{Shadow}
use Rattle.rubis_shadow.specs.declared.shadows.Shadow.TheVariants as shadow

-- what a change within the limits brings
abbrev pub ChangeInLimits : ℕ → Change → Type 0
ChangeInLimits sites (Insert r) = RowInLimits sites r
ChangeInLimits sites (BidTaken b) = IsId sites b.bid
ChangeInLimits sites c = ⊤

module _ (sites : ℕ) where
  abbrev Kept : Option Row → Type 0
  Kept o = IfSome o (RowInLimits sites)

  best_kept : (o : Option Best) (b : Best) → IfSome o (λ x. IsId sites x.bid) → IsId sites b.bid → IfSome (better o b) (λ x. IsId sites x.bid)
  best_kept None b h g = g
  best_kept (Some old) b h g = elim (nat_lt old.amount b.amount) as (λ t. IfSome (cond t (Some b) (Some old)) (λ x. IsId sites x.bid)) [ true ↦ g | false ↦ h ]

  open_kept : (i : ItemRow) (s : Sale) (d : Done) → Kept (Some (row.Item i)) → Kept d.row → Kept (if_open i s d).row
  open_kept i Open d h g = g
  open_kept i (Ended w) d h g = h

  stock_kept : (i : ItemRow) (b : Bool) (d : Done) → Kept (Some (row.Item i)) → Kept d.row →
      Kept (cond b d (misfits_as MisfitKind.StockShort (Some (row.Item i)))).row
  stock_kept i true d h g = g
  stock_kept i false d h g = h

  freed_kept : (b : Bool) (i : Id) → Kept (cond b removed (misfits_as MisfitKind.OtherUser (Some (row.Nick i)))).row
  freed_kept true i = tt
  freed_kept false i = tt

  -- of a row, whatever its change: only an item's row has limits
  row_kept : (r : Row) (c : Change) → ChangeInLimits sites c → Kept (Some r) → Kept (change_row c (Some r)).row
  unfolding change_row
  row_kept (row.Item i) (BidTaken b) g h = open_kept i i.sale _ h (h.0, best_kept i.best b h.1 g)
  row_kept (row.Item i) (Sold q) g h = open_kept i i.sale _ h (stock_kept i (nat_le q i.stock) _ h h)
  row_kept (row.Item i) (End w) g h = open_kept i i.sale _ h h
  row_kept (row.Item i) c g h = h
  row_kept (row.Nick i) (NickFreed u) g h = freed_kept (same_id u i) i
  row_kept (row.User u) (Insert r) g h = tt
  row_kept (row.Cat k) (Insert r) g h = tt
  row_kept (row.Bid b) (Insert r) g h = tt
  row_kept (row.Purchase p) (Insert r) g h = tt
  row_kept (row.Comment k) (Insert r) g h = tt
  row_kept r c g h = tt

  change_kept : (c : Change) (o : Option Row) → ChangeInLimits sites c → Kept o → Kept (change_row c o).row
  unfolding change_row
  change_kept (Insert r) None g h = g
  change_kept c None g h = tt
  change_kept c (Some r) g h = row_kept r c g h

  at_key : (b : Bool) (o q : Option Row) → Kept o → Kept q → Kept (cond b o q)
  at_key true o q h g = h
  at_key false o q h g = g

  with_row_kept : (t : Tables) (k : RowKey) (o : Option Row) → Kept o → AllInLimits sites t → AllInLimits sites (with_row t k o)
  with_row_kept t k None h g q = subst (λ (r : Option Row). Kept r) (sym (map.get-remove key_total t k q)) (at_key (tied q k) None (map.get t q) h (g q))
  with_row_kept t k (Some r) h g q = subst (λ (x : Option Row). Kept x) (sym (map.get-insert key_total t k r q))
      (at_key (tied q k) (Some r) (map.get t q) h (g q))

  -- a part within the limits keeps the tables within them
  pub after_kept : (t : Tables) (e : Effect) → ChangeInLimits sites e.change → AllInLimits sites t → AllInLimits sites (after_part t e)
  after_kept t e g h = with_row_kept t e.key _ (change_kept e.change (map.get t e.key) g (h e.key)) h

-- of the parts of a shadow only a new item and a bid have limits
abbrev pub WithinThen : ℕ → Change → Type 0 → Type 0
WithinThen sites (Insert (row.Item i)) rest = RowInLimits sites (row.Item i) × rest
WithinThen sites (BidTaken b) rest = IsId sites b.bid × rest
WithinThen sites c rest = rest

abbrev pub PartsInLimits : ℕ → List Effect → Type 0
PartsInLimits sites [] = ⊤
PartsInLimits sites (e ∷ es) = WithinThen sites e.change (PartsInLimits sites es)

-- the first part, and the others
pub first_within : (sites : ℕ) (c : Change) (rest : Type 0) → WithinThen sites c rest → ChangeInLimits sites c × rest
first_within sites (Insert (row.Item i)) rest h = h
first_within sites (Insert r) rest h = (tt, h)
first_within sites (BidTaken b) rest h = h
first_within sites c rest h = (tt, h)

-- the parts of a shadow within the limits are within them
pub parts_in_limits : (sites : ℕ) (id : Id) (red : ℕ) (x : Shadow) → IsId sites id → InLimits sites x → PartsInLimits sites (parts id red x)
parts_in_limits sites id red (shadow.Item n) i h = ((h.cat, tt), tt)
parts_in_limits sites id red (shadow.Bid b) i h = (i, tt)
parts_in_limits sites id red x i h = tt

module _ (sites : ℕ) where
  empty_in_limits : AllInLimits sites map.empty
  empty_in_limits q = subst (λ (r : Option Row). IfSome r (RowInLimits sites)) (sym (map.get-empty key_order q)) tt

  categories_in_limits : (k n : ℕ) → AllInLimits sites (map.from_entries (categories_from k n))
  unfolding categories_from
  categories_in_limits k zero q = empty_in_limits q
  categories_in_limits k (suc n) q =
      subst (λ (r : Option Row). IfSome r (RowInLimits sites))
      (sym (map.get-insert key_total (map.from_entries (categories_from (k + 1) n)) (key.Cat k) new_category q))
      (at_key sites (tied q (key.Cat k)) (Some new_category) (map.get (map.from_entries (categories_from (k + 1) n)) q) tt (categories_in_limits (k + 1) n q))

  -- so are the tables before any message
  pub opening_in_limits : AllInLimits sites opening
  unfolding opening
  opening_in_limits = categories_in_limits 0 CATEGORIES
