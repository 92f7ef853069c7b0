-- In every log, forged or not, nicknames stay until their users are renamed, and stock is kept.
use Rattle.rubis_laws.proofs.Common.{ℕ, ◌≡◌, ◌+◌, ◌-◌, ◌^◌, ◌≤◌, ◌<◌, List, [], ◌∷◌, ◌++◌, length, Bool, true, false, cond, refl, sym, ap, ◌∙◌, subst, arith}
use Rattle.rubis_laws.proofs.Common.{Option, Some, None, ◌&&◌, fold, option_map, nat_le, bytes_eq, IfSome, option_or, nat_tests, fold_push, Id, RowKey, ItemRow}
use Rattle.rubis_laws.proofs.Common.{Row, Best, Open, Ended, same_id, change_row, better, fits_as, misfits_as, removed, parts, new_item, opening, Change}
use Rattle.rubis_laws.proofs.Common.{Insert, BidTaken, Sold, End, Restocked, NickFreed, Effect, StockShort, OtherUser, NewItem, NewRename, NewRestock, Shadow}
use Rattle.rubis_laws.proofs.Common.{Core, Folded, fold_of, fold_on, number_parts, parts_of, step, as_item, meaning_row, restocked_of, when, supplied}
use Rattle.rubis_laws.proofs.Common.{supply_at}
use Rattle.std.specs.FinMap as map
use Rattle.rubis_schema.specs.declared.rows.Sale.{Sale}
use Rattle.rubis_shadow.specs.Changes.{count_up, if_open}
use Rattle.rubis_model.specs.Forged.{IsKept, NamesAreHeld, NamesStay, StockIsKept, frees, holder, named_by, still_named}
use Rattle.rubis_laws.proofs.Rows.FoldIsMeaning.{effects_after, fold_push_parts, get-effects_after, opening_rows}
use Rattle.rubis_laws.proofs.Rows.Sets.{by_pushes, or_none}
use Rattle.rubis_laws.proofs.Rows.RowsOfUser.{at_key}

-- ---- one more message, whatever it is

folded_tables : (entry part : ℕ) (id : Id) (es : List Effect) (f : Folded) → (fold_on f (number_parts entry part id es)).tables ≡ effects_after f.tables es
folded_tables entry part id [] f = refl
folded_tables entry part id (e ∷ es) f = folded_tables entry (part + 1) id es (step f (record { entry = entry; part = part; id = id; effect = e }))

row_after : (a : List Core) (m : Core) (q : RowKey) → map.get (fold_of (a ++ m ∷ [])).tables q ≡ fold (at_key q) (map.get (fold_of a).tables q) (parts_of m)
row_after a m q =
    ap (λ (f : Folded). map.get f.tables q) (fold_push_parts a m) ∙ ap (λ t. map.get t q) (folded_tables (1 + length a) 1 m.id (parts_of m) (fold_of a))
    ∙ get-effects_after (fold_of a).tables (parts_of m) q

-- ---- nicknames

inserted_nick : (b : Bool) (u : Id) (o : Option Id) → cond b (change_row (Insert (Row.Nick u)) (option_map Row.Nick o)).row
    (option_map Row.Nick o) ≡ option_map Row.Nick (option_or o (when b (Some u)))
unfolding change_row
inserted_nick true u None = refl
inserted_nick true u (Some v) = refl
inserted_nick false u None = refl
inserted_nick false u (Some v) = refl

freed_row : (c : Bool) (v : Id) → (cond c removed (misfits_as OtherUser (Some (Row.Nick v)))).row ≡ option_map Row.Nick (cond c None (Some v))
freed_row true v = refl
freed_row false v = refl

freed_nick : (n : List ℕ) (r : NewRename) (b : Bool) → bytes_eq n r.from ≡ b → (o : Option Id)
    → cond b (change_row (NickFreed r.user) (option_map Row.Nick o)).row (option_map Row.Nick o) ≡ option_map Row.Nick (still_named n o (Shadow.Rename r))
unfolding change_row
freed_nick n r true e None = refl
freed_nick n r true e (Some v) = freed_row (same_id r.user v) v ∙ (λ j. option_map Row.Nick (cond (sym e j && same_id r.user v) None (Some v)))
freed_nick n r false e None = refl
freed_nick n r false e (Some v) = λ j. option_map Row.Nick (cond (sym e j && same_id r.user v) None (Some v))

still_is : (n : List ℕ) (x : Shadow) (o : Option Id) → ((u : Id) → frees n u x ≡ false) → still_named n o x ≡ o
still_is n x None e = refl
still_is n x (Some u) e = ap (λ b. cond b None (Some u)) (e u)

nick_after : (n : List ℕ) (m : Core) (x : Shadow) (o : Option Id) → fold (at_key (RowKey.Nick n)) (option_map Row.Nick o)
    (parts m.id m.red x) ≡ option_map Row.Nick (option_or (still_named n o x) (named_by n m.id x))
nick_after n m (Shadow.User k) o = inserted_nick _ m.id o ∙ ap (λ p. option_map Row.Nick (option_or p (when (bytes_eq n k) (Some m.id))))
    (sym (still_is n _ o (λ u. refl)))
nick_after n m (Shadow.Rename r) o = ap (λ p. cond (bytes_eq n r.to) (change_row (Insert (Row.Nick r.user)) p).row p) (freed_nick n r _ refl o) ∙ inserted_nick
    _ _ _
nick_after n m x o = ap (option_map Row.Nick) (sym (or_none (still_named n o x) ∙ still_is n x o (λ u. refl)))

no_nick : (n : List ℕ) → map.get opening (RowKey.Nick n) ≡ None
unfolding meaning_row
no_nick n = opening_rows (RowKey.Nick n)

pub names_are_held : NamesAreHeld
names_are_held log n = by_pushes (λ a. map.get (fold_of a).tables (RowKey.Nick n) ≡ option_map Row.Nick (holder n a)) (no_nick n)
    (λ a m h. row_after a m (RowKey.Nick n) ∙ ap (λ o. fold (at_key (RowKey.Nick n)) o (parts_of m)) h ∙ nick_after n m m.shadow (holder n a)
    ∙ ap (option_map Row.Nick) (sym (fold_push (λ o (k : Core). option_or (still_named n o k.shadow) (named_by n k.id k.shadow)) None a m))) log

pub names_stay : NamesStay
names_stay log m n user e h = row_after log m _ ∙ ap (λ o. fold (at_key (RowKey.Nick n)) o (parts_of m)) h ∙ nick_after n m _ (Some user) ∙ ap
    (λ b. option_map Row.Nick (option_or (cond b None (Some user)) (named_by n m.id m.shadow))) e

-- ---- stock

-- an item's row of which so much is left and sold in all
abbrev Has : ℕ → Option Row → Type 0
Has s r = (x : ItemRow) × (r ≡ Some (Row.Item x)) × (x.sold + x.stock ≡ s)

abbrev Small : Option ℕ → Type 0
Small o = IfSome o (λ s. s < 2 ^ 64)

-- a bid or a close leaves stock as it is
bid_keeps : (b : Best) {s : ℕ} (x : ItemRow) (z : Sale) → x.sold + x.stock ≡ s → Has s
    (if_open x z (fits_as (Row.Item (record x { bids = count_up x.bids 1; best = better x.best b })))).row
bid_keeps b x Open e = (record x { bids = count_up x.bids 1; best = better x.best b }, refl, e)
bid_keeps b x (Ended w) e = (x, refl, e)

end_keeps : (w : Option Id) {s : ℕ} (x : ItemRow) (z : Sale) → x.sold + x.stock ≡ s → Has s (if_open x z (fits_as (Row.Item (record x { sale = Ended w })))).row
end_keeps w x Open e = (record x { sale = Ended w }, refl, e)
end_keeps w x (Ended v) e = (x, refl, e)

-- what is sold is taken from what is left, or stays there
sold_sum : (q sold stock : ℕ) {s : ℕ} → nat_le q stock ≡ true → sold + stock ≡ s → s < 2 ^ 64 → count_up sold q + (stock - q) ≡ s
sold_sum q sold stock h e l = let k : q ≤ stock = grind (arith, nat_tests) in omega (arith, k)

sold_keeps : (q : ℕ) {s : ℕ} (x : ItemRow) (z : Sale) (b : Bool) → nat_le q x.stock ≡ b → s < 2 ^ 64 → x.sold + x.stock ≡ s
    → Has s (if_open x z (cond b (fits_as (Row.Item (record x { stock = x.stock - q; sold = count_up x.sold q })))
    (misfits_as StockShort (Some (Row.Item x))))).row
sold_keeps q x Open true h l e = (record x { stock = x.stock - q; sold = count_up x.sold q }, refl, sold_sum q x.sold x.stock h e l)
sold_keeps q x Open false h l e = (x, refl, e)
sold_keeps q x (Ended w) b h l e = (x, refl, e)

-- a change of an item's row, not its insert
data Kind : Type 0 where
  AsBid : Best → Kind
  AsSale : ℕ → Kind
  AsEnd : Option Id → Kind

abbrev change : Kind → Change
change (AsBid b) = BidTaken b
change (AsSale q) = Sold q
change (AsEnd w) = End w

here_keeps : (c : Kind) (s : ℕ) {r : Option Row} → s < 2 ^ 64 → Has s r → Has s (change_row (change c) r).row
unfolding change_row
here_keeps (AsBid b) s l (x, p, e) = subst (λ o. Has s (change_row (BidTaken b) o).row) (sym p) (bid_keeps b x x.sale e)
here_keeps (AsSale q) s l (x, p, e) = subst (λ o. Has s (change_row (Sold q) o).row) (sym p) (sold_keeps q x x.sale (nat_le q x.stock) refl l e)
here_keeps (AsEnd w) s l (x, p, e) = subst (λ o. Has s (change_row (End w) o).row) (sym p) (end_keeps w x x.sale e)

none_stays : (c : Kind) → (change_row (change c) None).row ≡ None
unfolding change_row
none_stays (AsBid b) = refl
none_stays (AsSale q) = refl
none_stays (AsEnd w) = refl

change_keeps : (c : Kind) (b : Bool) (o : Option ℕ) (r : Option Row) → Small o → IsKept o r → IsKept o (cond b (change_row (change c) r).row r)
change_keeps c true None r l k = ap (λ o. (change_row (change c) o).row) k ∙ none_stays c
change_keeps c true (Some s) r l k = here_keeps c s {r = r} l k
change_keeps c false o r l k = k

insert_none : (n : NewItem) → (change_row (Insert (Row.Item (new_item n))) None).row ≡ Some (Row.Item (new_item n))
unfolding change_row
insert_none n = refl

insert_some : (n : NewItem) (x : ItemRow) → (change_row (Insert (Row.Item (new_item n))) (Some (Row.Item x))).row ≡ Some (Row.Item x)
unfolding change_row
insert_some n x = refl

insert_keeps : (i : Id) (k : NewItem) (own : Bool) (o : Option ℕ) (r : Option Row) → IsKept o r
    → IsKept (supplied i own o (Shadow.Item k)) (cond own (change_row (Insert (Row.Item (new_item k))) r).row r)
insert_keeps i k true None r h = (new_item k, ap (λ o. (change_row (Insert (Row.Item (new_item k))) o).row) h ∙ insert_none k, omega arith)
insert_keeps i k true (Some s) r (x, p, e) = (x, ap (λ o. (change_row (Insert (Row.Item (new_item k))) o).row) p ∙ insert_some k x, omega (arith, e))
insert_keeps i k false None r h = h
insert_keeps i k false (Some s) r (x, p, e) = (x, p, omega (arith, e))

-- a restock adds to the stock of an item that has a row, and else does nothing
add_sum : (q sold stock : ℕ) {s : ℕ} → sold + stock ≡ s → s + q < 2 ^ 64 → sold + count_up stock q ≡ s + q
add_sum q sold stock e l = omega (arith, l, e)

some_added : (q : ℕ) (b : Bool) (s : ℕ) (r : Option Row) → s + cond b q 0 < 2 ^ 64 → Has s r → Has (s + cond b q 0) (cond b (change_row (Restocked q) r).row r)
unfolding change_row
some_added q true s r l (x, p, e) = (record x { stock = count_up x.stock q }, ap (λ o. (change_row (Restocked q) o).row) p, add_sum q x.sold x.stock e l)
some_added q false s r l (x, p, e) = (x, p, omega (arith, e))

none_added : (q : ℕ) (b own : Bool) {r : Option Row} → r ≡ None → IsKept (when {X = ℕ} own None) (cond b (change_row (Restocked q) r).row r)
unfolding change_row
none_added q true true h = ap (λ o. (change_row (Restocked q) o).row) h
none_added q true false h = ap (λ o. (change_row (Restocked q) o).row) h
none_added q false true h = h
none_added q false false h = h

restock_keeps : (i : Id) (k : NewRestock) (own : Bool) (o : Option ℕ) (r : Option Row) → Small (supplied i own o (Shadow.Restock k)) → IsKept o r
    → IsKept (supplied i own o (Shadow.Restock k)) (cond (same_id i k.item) (change_row (Restocked k.quantity) r).row r)
restock_keeps i k own None r l h = none_added k.quantity (same_id i k.item) own h
restock_keeps i k own (Some s) r l h = some_added k.quantity (same_id i k.item) s r l h

-- another kind, which lists nothing and adds nothing
same_item : (i : Id) (own : Bool) (x : Shadow) (o : Option ℕ) (r : Option Row) → as_item x ≡ None → restocked_of i x ≡ 0 → IsKept o r
    → IsKept (supplied i own o x) r
same_item i true x None r n z k = subst (λ q. IsKept (option_map (λ (n : NewItem). n.stock) q) r) (sym n) k
same_item i false x None r n z k = k
same_item i own x (Some s) r n z (y, p, e) = (y, p, omega (arith, e, z))

before : (i : Id) (own : Bool) (x : Shadow) (o : Option ℕ) → Small (supplied i own o x) → Small o
before i own x None l = tt
before i own x (Some s) l = omega (arith, l)

item_after : (i : Id) (m : Core) (x : Shadow) (o : Option ℕ) (r : Option Row) → Small (supplied i (same_id i m.id) o x) → IsKept o r
    → IsKept (supplied i (same_id i m.id) o x) (fold (at_key (RowKey.Item i)) r (parts m.id m.red x))
item_after i m (Shadow.Item k) o r l h = insert_keeps i k (same_id i m.id) o r h
item_after i m (Shadow.Bid b) o r l h = same_item i (same_id i m.id) (Shadow.Bid b) o _ refl refl
    (change_keeps (AsBid (record { bid = m.id; amount = b.amount })) (same_id i b.item) o r (before i (same_id i m.id) (Shadow.Bid b) o l) h)
item_after i m (Shadow.Buy p) o r l h = same_item i _ _ o _ refl refl (change_keeps (AsSale p.quantity) _ o r (before i _ _ o l) h)
item_after i m (Shadow.Close c) o r l h = same_item i _ _ o _ refl refl (change_keeps (AsEnd c.winner) _ o r (before i _ _ o l) h)
item_after i m (Shadow.Restock k) o r l h = restock_keeps i k (same_id i m.id) o r l h
item_after i m x o r l h = same_item i (same_id i m.id) x o _ refl refl h

no_item : (i : Id) → map.get opening (RowKey.Item i) ≡ None
unfolding meaning_row
no_item i = opening_rows (RowKey.Item i)

pub stock_is_kept : StockIsKept
stock_is_kept log i = by_pushes (λ a. Small (supply_at i a) → IsKept (supply_at i a) (map.get (fold_of a).tables (RowKey.Item i))) (λ l. no_item i) (λ a m h l.
    let e = fold_push (λ s (n : Core). supplied i (same_id i n.id) s n.shadow) None a m in
    let s = subst Small e l in
    subst (λ o. IsKept o (map.get (fold_of (a ++ m ∷ [])).tables (RowKey.Item i))) (sym e)
    (subst (IsKept (supplied i (same_id i m.id) (supply_at i a) m.shadow)) (sym (row_after a m (RowKey.Item i)))
    (item_after i m m.shadow (supply_at i a) (map.get (fold_of a).tables (RowKey.Item i)) s (h (before i (same_id i m.id) m.shadow (supply_at i a) s))))) log
