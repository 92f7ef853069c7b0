-- Rows in chains: one more row, and that the rows that match a listing are found along them.
use Rattle.rubis_shard.proofs.Common.{◌≡◌, ℕ, zero, suc, ◌+◌, ◌-◌, ◌<◌, ◌≤◌, Bool, true, false, cond, List, [], ◌∷◌, ◌++◌, length, take, get_or, refl}
use Rattle.rubis_shard.proofs.Common.{sym, ap, ◌∙◌, subst, arith, length-append, inl, inr, ◌&&◌, reverse, append_assoc, option_map, slice_get, Option}
use Rattle.rubis_shard.proofs.Common.{None, Some, nat_le, OnOk, Result, Ok, Err, filter, unwrap_or, cases_lt, false≢true, append-nil, take_all}
use Rattle.rubis_shard.proofs.Common.{get_or-map, length-map, lookup, set_value, RowKey, ItemRow, Row, Sale, change_row, count_up, fits_as, if_open}
use Rattle.rubis_shard.proofs.Common.{misfits_as, Done, row_key, holds, Change, StockShort, IdKey, Decides-eqb, filter-append, get_or_from_slice_get}
use Rattle.rubis_shard.proofs.Common.{Id, Listing, Table, new_category, is_of}
use Rattle.std.specs.Prelude.{slice_index}
use Rattle.std.proofs.lemmas.List.{get_or_append_left, length-take-le, take-append-le, take-map, reverse-append}
use Rattle.rubis_shadow.specs.Changes.{removed}
use Rattle.rubis_schema.specs.Keys.{same_id}
use Rattle.rubis_shadow.specs.declared.changes.MisfitKind.TheVariants.{OtherUser}
use Rattle.rubis_schema.specs.IdKeyLaws.{same_id_key, Decides-same_id_key}
use Rattle.std.proofs.lemmas.List.Elements.{filter_more}
use Rattle.rubis_schema.specs.KeyLaws.{Decides-same_id}
use Rattle.rubis_schema.specs.declared.row_keys.RowKey.TheVariants as key
use Rattle.rubis_schema.specs.declared.rows.Row.TheVariants as row
use Rattle.rubis_schema.specs.declared.rows.Sale.TheVariants as sale
use Rattle.rubis_shadow.specs.declared.changes.Change.TheVariants as change
use Rattle.rubis_schema.specs.declared.id_keys.IdTable.TheVariants as table
use Rattle.rubis_shard.specs.Chains.{chain_of, chain_of_row, chain_of_users, chains_of, is_in, last_among, last_before, last_noted, IsLinkedSoFar, Links}
use Rattle.rubis_shard.specs.Chains.{chain_written, chain_by, chain_of_items, chain_with}
use Rattle.rubis_shard.specs.declared.chains.Chains.{Chains}
use Rattle.rubis_schema.specs.declared.listings.Listing.TheVariants as listing
use Rattle.rubis_shard.specs.Rows.{kept_of, linked_of}
use Rattle.rubis_shard.specs.declared.row_map.LinkedRows.{LinkedRows}
use Rattle.rubis_shard.specs.Listed.{listed_among}

at_end : {A : Type 0} (cs : List A) (c d : A) → get_or (cs ++ c ∷ []) (length cs) d ≡ c
at_end [] c d = refl
at_end (x ∷ xs) c d = at_end xs c d

pub in_itself : (k : IdKey) → is_in (Some k) k ≡ true
in_itself k = (Decides-same_id_key k k).1 refl

pub in_chain : (o : Option IdKey) (k : IdKey) → is_in o k ≡ true → o ≡ Some k
in_chain None k e = absurd (false≢true e)
in_chain (Some chain) k e = ap (λ (l : IdKey). Some l) ((Decides-same_id_key chain k).0 e)

module _ (k : IdKey) where
  -- a row that comes doesn't change what is the last of those before it
  last_more : (cs : List (Option IdKey)) (c : Option IdKey) (n : ℕ) → n ≤ length cs → last_among k (cs ++ c ∷ []) n ≡ last_among k cs n
  unfolding last_among
  last_more cs c zero h = refl
  last_more cs c (suc n) h =
      let before = last_more cs c n (omega arith) in
      let here = get_or_append_left cs (c ∷ []) None n (omega arith) in
      λ i. cond (is_in (here i) k) (suc n) (before i)

  pub last_small : (cs : List (Option IdKey)) (n : ℕ) → last_among k cs n ≤ n
  unfolding last_among
  last_small cs zero = omega arith
  last_small cs (suc n) =
      let before = last_small cs n in
      elim (is_in (get_or cs n None) k) as (λ b. cond b (suc n) (last_among k cs n) ≤ suc n) [
        | true ↦ omega arith
        | false ↦ omega arith
      ]

  last_pushed : (cs : List (Option IdKey)) (c : Option IdKey) → last_among k (cs ++ c ∷ []) (suc (length cs))
      ≡ cond (is_in c k) (suc (length cs)) (last_among k cs (length cs))
  unfolding last_among
  last_pushed cs c =
      let before = last_more cs c (length cs) (omega arith) in
      λ i. cond (is_in (at_end cs c None i) k) (suc (length cs)) (before i)

before_more : (o : Option IdKey) (cs : List (Option IdKey)) (c : Option IdKey) (n : ℕ) → n ≤ length cs → last_before o (cs ++ c ∷ []) n ≡ last_before o cs n
before_more None cs c n h = refl
before_more (Some k) cs c n h = last_more k cs c n h

-- ---- one row more
noted_or : (b : Bool) (place : ℕ) (o : Option ℕ) → unwrap_or (cond b (Some place) o) 0 ≡ cond b place (unwrap_or o 0)
noted_or true place o = refl
noted_or false place o = refl

noted_before : (chain : Option IdKey) (cs : List (Option IdKey)) (c : Chains) → Links cs c → last_noted chain c.last.entries ≡ last_before chain cs (length cs)
noted_before None cs c links = refl
noted_before (Some k) cs c links = links.last k

links_before : (cs : List (Option IdKey)) (before : List ℕ) (chain : Option IdKey) (last : ℕ) → length before ≡ length cs → last
    ≡ last_before chain cs (length cs)
    → ((i : ℕ) → i < length cs → slice_index before i ≡ last_before (get_or cs i None) cs i)
    → (i : ℕ) → i < length cs + 1
    → slice_index (before ++ last ∷ []) i ≡ last_before (get_or (cs ++ chain ∷ []) i None) (cs ++ chain ∷ []) i
links_before cs before chain last many ends held i inside = elim (cases_lt i (length cs)) [
  | inl low ↦
      get_or_append_left before (last ∷ []) 0 i (omega arith) ∙ held i low
      ∙ sym (before_more (get_or cs i None) cs chain i (omega arith))
      ∙ ap (λ o. last_before o (cs ++ chain ∷ []) i) (sym (get_or_append_left cs (chain ∷ []) None i low))
  | inr high ↦
      let here : i ≡ length cs = omega arith in
      ap (slice_index (before ++ last ∷ [])) (here ∙ sym many) ∙ at_end before last 0 ∙ ends
      ∙ sym (before_more chain cs chain (length cs) (omega arith))
      ∙ ap (λ o. last_before o (cs ++ chain ∷ []) (length cs)) (sym (at_end cs chain None))
      ∙ ap (λ n. last_before (get_or (cs ++ chain ∷ []) n None) (cs ++ chain ∷ []) n) (sym here)
]

pub links_push : (cs : List (Option IdKey)) (chain : Option IdKey) (last : ℕ) (old new : Chains) → last ≡ last_noted chain old.last.entries
    → new.before.items ≡ old.before.items ++ last ∷ []
    → ((k : IdKey) → lookup (same_id_key k) new.last.entries
    ≡ cond (is_in chain k) (Some (length old.before.items + 1)) (lookup (same_id_key k) old.last.entries))
    → Links cs old → Links (cs ++ chain ∷ []) new
links_push cs chain last old new noted before more links =
    let size = length-append cs (chain ∷ []) in
    let grown = length-append old.before.items (last ∷ []) in
    let place : length old.before.items + 1 ≡ suc (length cs) = omega (arith, links.many) in
    let all : suc (length cs) ≡ length (cs ++ chain ∷ []) = omega (arith, size) in
    record {
      many = omega (arith, size, grown, ap length before, links.many);
      last = λ k. ap (λ (o : Option ℕ). unwrap_or o 0) (more k)
          ∙ noted_or (is_in chain k) (length old.before.items + 1) (lookup (same_id_key k) old.last.entries)
          ∙ (λ i. cond (is_in chain k) (place i) (links.last k i)) ∙ sym (last_pushed k cs chain) ∙ ap (last_among k (cs ++ chain ∷ [])) all;
      before = λ i within. ap (λ xs. slice_index xs i) before
          ∙ links_before cs old.before.items chain last links.many (noted ∙ noted_before chain cs old links) links.before i (omega (arith, size, within));
    }

pub links_none : (c : Chains) → c.before.items ≡ [] → c.last.entries ≡ [] → Links [] c
unfolding last_among
links_none c before last = record {
  many = ap length before;
  last = λ k. ap (last_noted (Some k)) last;
  before = λ i inside. absurd (omega arith);
}

-- ---- the first of the rows
pub take_next : (cs : List (Option IdKey)) (n : ℕ) (x : Option IdKey) → slice_get cs n ≡ Some x → take (suc n) cs ≡ take n cs ++ x ∷ []
take_next [] n x e = absurd cc
take_next (c ∷ cs) zero x e = ap (λ y. y ∷ []) (let same : c ≡ x = cc in same)
take_next (c ∷ cs) (suc n) x e = ap (λ ys. c ∷ ys) (take_next cs n x e)

pub chains_length : {K : Type 0} (f : K → RowKey) (es : List (K × Row)) → length (chains_of (chain_written f es)) ≡ length es
chains_length f [] = refl
chains_length f (e ∷ es) = ap suc (chains_length f es)

pub chain_at : {K : Type 0} (f : K → RowKey) (es : List (K × Row)) (i : ℕ) (k : K) (row : Row) → slice_get es i ≡ Some (k, row)
    → slice_get (chains_of (chain_written f es)) i ≡ Some (chain_of (f k) row)
chain_at f [] i k row e = absurd cc
chain_at f (x ∷ es) zero k row e = ap (option_map (λ y. chain_of (f y.0) y.1)) e
chain_at f (x ∷ es) (suc i) k row e = chain_at f es i k row e

pub linked_links : (cs : List (Option IdKey)) (n : ℕ) (c : Chains) → Links (take n cs) c → n ≤ length cs → IsLinkedSoFar cs c
linked_links cs n c links few =
    let size : length c.before.items ≡ n = links.many ∙ length-take-le n cs few in
    record { many = omega (arith, size); links = subst (λ k. Links (take k cs) c) (sym size) links }

pub linked_more : (cs ds : List (Option IdKey)) (c : Chains) → IsLinkedSoFar cs c → IsLinkedSoFar (cs ++ ds) c
linked_more cs ds c linked = record {
  many = omega (arith, linked.many, length-append cs ds);
  links = subst (λ xs. Links xs c) (sym (take-append-le (length c.before.items) cs ds linked.many)) linked.links;
}

-- ---- what a change does to a row
chain_or : Option Row → Option IdKey
chain_or None = None
chain_or (Some row) = chain_of_row row

if_open_kept : (i : ItemRow) (sale : Sale) (d : Done) → chain_or d.row ≡ chain_of_row (row.Item i) → chain_or (if_open i sale d).row ≡ chain_of_row (row.Item i)
unfolding chain_or
if_open_kept i sale.Open d e = e
if_open_kept i (sale.Ended w) d e = refl

stays : (r : Row) (c : Change) → chain_or (change_row c (Some r)).row ≡ chain_of_row r
unfolding change_row chain_or
stays (row.Item i) (change.BidTaken b) = if_open_kept i i.sale _ refl
stays (row.Item i) (change.Sold q) =
    if_open_kept i i.sale _
    (elim (nat_le q i.stock) as
    (λ b. chain_or (cond b (fits_as (row.Item (record i { stock = i.stock - q; sold = count_up i.sold q }))) (misfits_as StockShort (Some (row.Item i)))).row
    ≡ chain_of_row (row.Item i)) [ true ↦ refl | false ↦ refl ])
stays (row.Item i) (change.End w) = if_open_kept i i.sale _ refl
stays (row.Nick i) (change.NickFreed u) =
    elim (same_id u i) as (λ b. chain_or (cond b removed (misfits_as OtherUser (Some (row.Nick i)))).row ≡ None) [ true ↦ refl | false ↦ refl ]
stays (row.User u) (change.Insert x) = refl
stays (row.Cat k) (change.Insert x) = refl
stays (row.Bid b) (change.Insert x) = refl
stays (row.Purchase p) (change.Insert x) = refl
stays (row.Comment m) (change.Insert x) = refl
stays r c = refl

row_stays : (c : Change) (old new : Row) → (change_row c (Some old)).row ≡ Some new → chain_of_row new ≡ chain_of_row old
unfolding chain_or
row_stays c old new e = ap chain_or (sym e) ∙ stays old c

pub chain_stays : (c : Change) (k : RowKey) (old new : Row) → (change_row c (Some old)).row ≡ Some new → chain_of k new ≡ chain_of k old
chain_stays c (key.User id) old new e = refl
chain_stays c k old new e = row_stays c old new e

-- the chain of a row that may be at a key
chain_there : RowKey → Option Row → Option IdKey
chain_there k None = None
chain_there k (Some row) = chain_of k row

-- a row in the place of one that is in the same chain
pub chains_set : {K : Type 0} (f : K → RowKey) (test : K → Bool) (es : List (K × Row)) (old new : Row) → lookup test es ≡ Some old →
    ((k : RowKey) → chain_of k new ≡ chain_of k old)
    → chains_of (chain_written f (set_value test es new)) ≡ chains_of (chain_written f es)
unfolding chain_there
chains_set f test [] old new found same = refl
chains_set f test (e ∷ es) old new found same =
    at (test e.0) refl (λ is. chains_set f test es old new (ap (λ b. cond b (Some e.1) (lookup test es)) (sym is) ∙ found) same)
  where
    at : (b : Bool) → test e.0 ≡ b → (test e.0 ≡ false → chains_of (chain_written f (set_value test es new)) ≡ chains_of (chain_written f es))
        → chains_of (chain_written f (cond (test e.0) ((e.0, new) ∷ es) (e ∷ set_value test es new))) ≡ chains_of (chain_written f (e ∷ es))
    at true is rest = ap (λ b. chains_of (chain_written f (cond b ((e.0, new) ∷ es) (e ∷ set_value test es new)))) is
        ∙ ap (λ n. n ∷ chains_of (chain_written f es)) (same (f e.0) ∙ ap (chain_there (f e.0)) (sym found ∙ ap (λ b. cond b (Some e.1) (lookup test es)) is))
    at false is rest = ap (λ b. chains_of (chain_written f (cond b ((e.0, new) ∷ es) (e ∷ set_value test es new)))) is
        ∙ ap (λ cs. chain_of (f e.0) e.1 ∷ cs) (rest is)

-- one row more
pub chains_pushed : {K : Type 0} (f : K → RowKey) (es : List (K × Row)) (k : K) (row : Row)
    → chains_of (chain_written f (es ++ (k, row) ∷ [])) ≡ chains_of (chain_written f es) ++ chain_of (f k) row ∷ []
chains_pushed f [] k row = refl
chains_pushed f (e ∷ es) k row = ap (λ cs. chain_of (f e.0) e.1 ∷ cs) (chains_pushed f es k row)

-- ---- the chain of a key
pub chain_of_user : (k : IdKey) (row : Row) → k.table ≡ table.User → chain_of (row_key k) row ≡ Some chain_of_users
chain_of_user k row is = ap (λ t. chain_of (row_key (record { seq = k.seq; site = k.site; table = t })) row) is

pub chain_of_other : (k : IdKey) (row : Row) → (k.table ≡ table.User → ⊥) → chain_of (row_key k) row ≡ chain_of_row row
chain_of_other k row =
    elim k.table as (λ t. (t ≡ table.User → ⊥) → chain_of (row_key (record { seq = k.seq; site = k.site; table = t })) row ≡ chain_of_row row) [
      | table.User ↦ λ other. absurd (other refl)
      | table.Item ↦ λ other. refl
      | table.Bid ↦ λ other. refl
      | table.Purchase ↦ λ other. refl
      | table.Comment ↦ λ other. refl
    ]

-- ---- the rows that match a listing are found along their chain, the last one first

-- the chains of the linked rows
pub linked_chains : (r : LinkedRows) → Links (chains_of (linked_of r)) r.chains
linked_chains r = subst (λ cs. Links cs r.chains) (take-map _ (length r.chains.before.items) (kept_of r)) r.linked.links

pub linked_few : (r : LinkedRows) → length r.chains.before.items ≤ length (kept_of r)
linked_few r = omega (arith, length-map (kept_of r) (λ (e : RowKey × Row). chain_of e.0 e.1), r.linked.many)

pub linked_length : (r : LinkedRows) → length (linked_of r) ≡ length r.chains.before.items
linked_length r =
    length-take-le (length r.chains.before.items) (kept_of r) (linked_few r)

abbrev Entry : Type 0
Entry = RowKey × Row

of_users : (k : RowKey) (r : Row) → is_of listing.Users k r ≡ true → chain_of k r ≡ Some chain_of_users
of_users (key.User id) r e = refl
of_users k r e = absurd (false≢true e)

of_items : (cat : ℕ) (k : RowKey) (r : Row) → is_of (listing.Items cat) k r ≡ true → chain_of k r ≡ Some (chain_of_items cat)
of_items cat (key.Item id) (row.Item i) e = ap (λ n. Some (chain_of_items n)) ((Decides-eqb _ _).0 e)
of_items cat k r e = absurd (false≢true e)

of_bids : (item : Id) (k : RowKey) (r : Row) → is_of (listing.Bids item) k r ≡ true → chain_of k r ≡ Some (chain_by table.Bid item)
of_bids item (key.Bid id) (row.Bid b) e = ap (λ (i : Id). Some (chain_by table.Bid i)) ((Decides-same_id b.item item).0 e)
of_bids item k r e = absurd (false≢true e)

of_purchases : (item : Id) (k : RowKey) (r : Row) → is_of (listing.Purchases item) k r ≡ true → chain_of k r ≡ Some (chain_by table.Purchase item)
of_purchases item (key.Purchase id) (row.Purchase p) e = ap (λ (i : Id). Some (chain_by table.Purchase i)) ((Decides-same_id p.item item).0 e)
of_purchases item k r e = absurd (false≢true e)

of_comments : (user : Id) (k : RowKey) (r : Row) → is_of (listing.Comments user) k r ≡ true → chain_of k r ≡ Some (chain_by table.Comment user)
of_comments user (key.Comment id) (row.Comment c) e = ap (λ (i : Id). Some (chain_by table.Comment i)) ((Decides-same_id c.to user).0 e)
of_comments user k r e = absurd (false≢true e)

-- a row that matches a listing is in the listing's chain
of_chain : (l : Listing) (k : RowKey) (r : Row) (chain : IdKey) → chain_with l ≡ Some chain → is_of l k r ≡ true → chain_of k r ≡ Some chain
of_chain listing.Users k r chain w e = of_users k r e ∙ w
of_chain (listing.Items cat) k r chain w e = of_items cat k r e ∙ w
of_chain (listing.Bids item) k r chain w e = of_bids item k r e ∙ w
of_chain (listing.Purchases item) k r chain w e = of_purchases item k r e ∙ w
of_chain (listing.Comments user) k r chain w e = of_comments user k r e ∙ w
of_chain l k r chain w e = absurd cc

default : Entry
default = (key.Cat 0, new_category)

one_picked : (b c : Bool) (e : Entry) (h : Entry → Bool) → h e ≡ c → filter h (cond b (e ∷ []) []) ≡ cond (b && c) (e ∷ []) []
one_picked true c e h is = ap (λ x. cond x (e ∷ []) []) is
one_picked false c e h is = refl

one_turned : (b : Bool) (e : Entry) → reverse (cond b (e ∷ []) []) ≡ cond b (e ∷ []) []
one_turned true e = refl
one_turned false e = refl

module _ (l : Listing) (t : Table) (chain : IdKey) (with_chain : chain_with l ≡ Some chain) (es : List Entry) where
  is_picked : Entry → Bool
  is_picked e = is_of l e.0 e.1 && holds t e.0

  among : ℕ → List Entry
  among n = listed_among l t (take n es)

  -- one row more
  among_more : (n : ℕ) → n < length es
      → among (n + 1) ≡ among n ++ cond (is_picked (get_or es n default)) (get_or es n default ∷ []) []
  unfolding among is_picked
  among_more n within =
      let e = get_or es n default in
      ap (filter (λ (x : Entry). holds t x.0)) (filter_more (λ (x : Entry). is_of l x.0 x.1) es n default within)
      ∙ filter-append (λ (x : Entry). holds t x.0) (filter (λ (x : Entry). is_of l x.0 x.1) (take n es)) (cond (is_of l e.0 e.1) (e ∷ []) [])
      ∙ ap (λ xs. listed_among l t (take n es) ++ xs) (one_picked (is_of l e.0 e.1) (holds t e.0) e (λ (x : Entry). holds t x.0) refl)

  -- the row at a place is in the chain
  here : ℕ → Bool
  here n = is_in (get_or (chains_of es) n None) chain

  -- a row of another chain isn't picked
  not_picked : (n : ℕ) → n < length es → here n ≡ false → is_picked (get_or es n default) ≡ false
  unfolding is_picked here
  not_picked n within other = at (is_of l (get_or es n default).0 (get_or es n default).1) refl
    where
      at : (b : Bool) → is_of l (get_or es n default).0 (get_or es n default).1 ≡ b → is_picked (get_or es n default) ≡ false
      at false e = ap (λ b. b && holds t (get_or es n default).0) e
      at true e =
          let own : get_or (chains_of es) n None ≡ Some chain = get_or-map (λ (x : Entry). chain_of x.0 x.1) es n default None within
          ∙ of_chain l (get_or es n default).0 (get_or es n default).1 chain with_chain e in
          absurd (false≢true (sym other ∙ ap (λ o. is_in o chain) own ∙ in_itself chain))

  -- no row is picked between two that are linked
  between : (n : ℕ) → n ≤ length es → among n ≡ among (last_among chain (chains_of es) n)
  unfolding last_among here
  between zero within = refl
  between (suc n) within = at (here n) refl (between n (omega arith))
    where
      at : (b : Bool) → here n ≡ b → among n ≡ among (last_among chain (chains_of es) n)
          → among (suc n) ≡ among (cond (here n) (suc n) (last_among chain (chains_of es) n))
      at true e before = ap (λ b. among (cond b (suc n) (last_among chain (chains_of es) n))) (sym e)
      at false e before =
          let next : suc n ≡ n + 1 = omega arith in
          ap among next ∙ among_more n (omega arith)
          ∙ ap (λ b. among n ++ cond b (get_or es n default ∷ []) []) (not_picked n (omega arith) e)
          ∙ append-nil (among n) ∙ before
          ∙ ap (λ b. among (cond b (suc n) (last_among chain (chains_of es) n))) (sym e)

  last_own : (n : ℕ) → 0 < last_among chain (chains_of es) n → here (last_among chain (chains_of es) n - 1) ≡ true
  unfolding last_among here
  last_own zero some = absurd (omega arith)
  last_own (suc n) some = at (here n) refl (last_own n) some
    where
      at : (b : Bool) → here n ≡ b
          → (0 < last_among chain (chains_of es) n → here (last_among chain (chains_of es) n - 1) ≡ true)
          → 0 < cond (here n) (suc n) (last_among chain (chains_of es) n)
          → here (cond (here n) (suc n) (last_among chain (chains_of es) n) - 1) ≡ true
      at true e before some =
          let one : suc n - 1 ≡ n = omega arith in
          ap (λ b. here (cond b (suc n) (last_among chain (chains_of es) n) - 1)) e ∙ ap here one ∙ e
      at false e before some =
          ap (λ b. here (cond b (suc n) (last_among chain (chains_of es) n) - 1)) e
          ∙ before (subst (λ b. 0 < cond b (suc n) (last_among chain (chains_of es) n)) e some)

  -- the walk begins at the last row of the chain, and goes on to the row that is linked before
  pub walk_from : (last : ℕ) → last ≡ last_among chain (chains_of es) (length (chains_of es))
      → listed_among l t (take last es) ++ reverse [] ≡ listed_among l t es
  unfolding among
  walk_from last is =
      append-nil (listed_among l t (take last es))
      ∙ ap among (is ∙ ap (last_among chain (chains_of es)) (length-map es (λ (x : Entry). chain_of x.0 x.1)))
      ∙ sym (between (length es) (omega arith)) ∙ ap (listed_among l t) (take_all (length es) es (omega arith))

  pub walk_on : (at next : ℕ) (e : Entry) (b : Bool) (picked more : List Entry) → at < length es → slice_get es at ≡ Some e
      → b ≡ (is_of l e.0 e.1 && holds t e.0) → next ≡ last_among chain (chains_of es) at
      → more ≡ picked ++ cond b (e ∷ []) []
      → listed_among l t (take (at + 1) es) ++ reverse picked ≡ listed_among l t es
      → listed_among l t (take next es) ++ reverse more ≡ listed_among l t es
  unfolding among is_picked
  walk_on at next e b picked more within here test is pushed walked =
      let x = cond b (e ∷ []) [] in
      let read : get_or es at default ≡ e = get_or_from_slice_get es at e default here in
      let grown : among (at + 1) ≡ among at ++ x = among_more at within
      ∙ ap (λ (y : Entry). among at ++ cond (is_picked y) (y ∷ []) []) read ∙ ap (λ c. among at ++ cond c (e ∷ []) []) (sym test) in
      ap (λ xs. listed_among l t (take next es) ++ reverse xs) pushed
      ∙ ap (λ xs. among next ++ xs) (reverse-append picked x ∙ ap (λ xs. xs ++ reverse picked) (one_turned b e))
      ∙ ap (λ n. among n ++ (x ++ reverse picked)) is ∙ ap (λ xs. xs ++ (x ++ reverse picked)) (sym (between at (omega arith)))
      ∙ sym (append_assoc (among at) x (reverse picked)) ∙ ap (λ xs. xs ++ reverse picked) (sym grown) ∙ walked

  pub own_last : (n last : ℕ) → last ≡ last_among chain (chains_of es) n → 0 < last → get_or (chains_of es) (last - 1) None ≡ Some chain
  unfolding here
  own_last n last is some = in_chain _ chain (ap (λ k. here (k - 1)) is ∙ last_own n (omega (arith, is)))

-- a fact of a call that succeeds, from another one
pub if_done : {A E : Type 0} (P Q : Type 0) → (P → Q) → (r : Result A E) → OnOk r P → OnOk r Q
if_done P Q f (Ok x) h = f h
if_done P Q f (Err e) h = h
