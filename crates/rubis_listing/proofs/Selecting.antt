-- The records of the rows that match a listing, entry by entry and table by table.
use Rattle.rubis_listing.proofs.Common.{◌≡◌, inl, inr, ℕ, Bool, true, false, cond, List, [], ◌∷◌, ◌++◌, refl, sym, ap, ◌∙◌, filter, not}
use Rattle.rubis_listing.proofs.Common.{flat_map-append, shows_nothing, Tables, holds, Listing, RowKey, Table, CatRow, Row, rows_of, category_record}
use Rattle.rubis_listing.proofs.Common.{records_of, row_record, table_rows}
use Rattle.std.proofs.Common.{◌⊎◌}
use Rattle.std.specs.List.{flat_map}
use Rattle.std.proofs.lemmas.List.Elements.{filter-append}
use Rattle.rubis_schema.specs.declared.ids.Id.{Id}
use Rattle.rubis_model.specs.Listings.{is_of}
use Rattle.rubis_shard.specs.Listed.{categories_among, categories_of, listed_of, shown_among, shows}
use Rattle.std.specs.FinMap as map
use Rattle.rubis_schema.specs.declared.listings.Listing.TheVariants as listing
use Rattle.rubis_schema.specs.declared.row_keys.RowKey.TheVariants as key
use Rattle.rubis_schema.specs.declared.row_keys.Table.TheVariants as table
use Rattle.rubis_schema.specs.declared.rows.Row.TheVariants as row

abbrev pub Entries : Type 0
Entries = List (RowKey × Row)

pub records_append : (l : Listing) (xs ys : Entries) → records_of l (xs ++ ys) ≡ records_of l xs ++ records_of l ys
records_append l xs ys =
    ap (flat_map (λ (e : RowKey × Row). row_record e.0 e.1)) (filter-append (λ (e : RowKey × Row). is_of l e.0 e.1) xs ys)
    ∙ flat_map-append (λ (e : RowKey × Row). row_record e.0 e.1) (filter (λ e. is_of l e.0 e.1) xs) (filter (λ e. is_of l e.0 e.1) ys)

-- no row outside the table matches the listing
abbrev pub IsWithin : Listing → Table → Type 0
IsWithin l t = (k : RowKey) (r : Row) → holds t k ≡ false → is_of l k r ≡ false

-- a filter within a filter
both_by : (h p : Bool) (e : RowKey × Row) (es : Entries) (q : RowKey × Row → Bool) → q e ≡ p → (h ≡ false → p ≡ false)
    → filter q (cond h (e ∷ es) es) ≡ cond p (e ∷ filter q es) (filter q es)
both_by true p e es q same w = ap (λ b. cond b (e ∷ filter q es) (filter q es)) same
both_by false p e es q same w = ap (λ b. cond b (e ∷ filter q es) (filter q es)) (sym (w refl))

filtered : (l : Listing) (t : Table) → IsWithin l t → (es : Entries)
    → filter (λ e. is_of l e.0 e.1) (filter (λ e. holds t e.0) es) ≡ filter (λ e. is_of l e.0 e.1) es
filtered l t w [] = refl
filtered l t w (e ∷ es) =
    both_by (holds t e.0) (is_of l e.0 e.1) e (filter (λ e. holds t e.0) es) (λ e. is_of l e.0 e.1) refl (w e.0 e.1)
    ∙ ap (λ fs. cond (is_of l e.0 e.1) (e ∷ fs) fs) (filtered l t w es)

-- a listing of the rows of one table
pub one_table : (l : Listing) (t : Table) → IsWithin l t → (m : Tables) → records_of l (rows_of t m) ≡ table_rows l m
one_table l t w m = ap (flat_map (λ (e : RowKey × Row). row_record e.0 e.1)) (filtered l t w (map.entries m))

pub users_within : IsWithin listing.Users table.Users
users_within (key.User id) r e = absurd cc
users_within k r e = refl

pub items_within : (cat : ℕ) → IsWithin (listing.Items cat) table.Items
items_within cat (key.Item id) r e = absurd cc
items_within cat k r e = refl

pub bids_within : (item : Id) → IsWithin (listing.Bids item) table.Bids
bids_within item (key.Bid id) r e = absurd cc
bids_within item k r e = refl

pub purchases_within : (item : Id) → IsWithin (listing.Purchases item) table.Purchases
purchases_within item (key.Purchase id) r e = absurd cc
purchases_within item k r e = refl

pub comments_within : (user : Id) → IsWithin (listing.Comments user) table.Comments
comments_within user (key.Comment id) r e = absurd cc
comments_within user k r e = refl

pub categories_within : IsWithin listing.Categories table.Cats
categories_within (key.Cat k) r e = absurd cc
categories_within k r e = refl

-- the others show no rows
none_of : (l : Listing) → ((k : RowKey) (r : Row) → is_of l k r ≡ false) → (es : Entries) → records_of l es ≡ []
none_of l none [] = refl
none_of l none (e ∷ es) =
    ap (λ b. flat_map (λ (e : RowKey × Row). row_record e.0 e.1) (cond b (e ∷ filter (λ e. is_of l e.0 e.1) es) (filter (λ e. is_of l e.0 e.1) es)))
    (none e.0 e.1)
    ∙ none_of l none es

pub shows_none : (l : Listing) (m : Tables) → (l ≡ listing.Log) ⊎ (l ≡ listing.Misfits) → table_rows l m ≡ []
shows_none l m (inl e) = ap (λ x. table_rows x m) e ∙ none_of listing.Log (λ k r. refl) (map.entries m)
shows_none l m (inr e) = ap (λ x. table_rows x m) e ∙ none_of listing.Misfits (λ k r. refl) (map.entries m)

-- a test that was passed passes again
again : (h p : RowKey × Row → Bool) (es : Entries) → filter p (filter h (filter p es)) ≡ filter p (filter h es)
again h p [] = refl
again h p (e ∷ es) = by (p e) refl (again h p es)
  where
    by : (b : Bool) → p e ≡ b → filter p (filter h (filter p es)) ≡ filter p (filter h es)
        → filter p (filter h (cond (p e) (e ∷ filter p es) (filter p es))) ≡ filter p (cond (h e) (e ∷ filter h es) (filter h es))
    by true pass rest =
        ap (λ b. filter p (filter h (cond b (e ∷ filter p es) (filter p es)))) pass
        ∙ within (h e) rest
      where
        within : (c : Bool) → filter p (filter h (filter p es)) ≡ filter p (filter h es)
            → filter p (cond c (e ∷ filter h (filter p es)) (filter h (filter p es))) ≡ filter p (cond c (e ∷ filter h es) (filter h es))
        within true same = ap (λ fs. cond (p e) (e ∷ fs) fs) same
        within false same = same
    by false fail rest =
        ap (λ b. filter p (filter h (cond b (e ∷ filter p es) (filter p es)))) fail
        ∙ rest
        ∙ without (h e)
      where
        without : (c : Bool) → filter p (filter h es) ≡ filter p (cond c (e ∷ filter h es) (filter h es))
        without true = ap (λ b. cond b (e ∷ filter p (filter h es)) (filter p (filter h es))) (sym fail)
        without false = refl

-- the rows that match a listing have the records of all rows of the table
pub listed_records : (l : Listing) (t : Table) (m : Tables) → records_of l (listed_of l t m) ≡ records_of l (rows_of t m)
listed_records l t m = ap (flat_map (λ (e : RowKey × Row). row_record e.0 e.1))
    (again (λ e. holds t e.0) (λ e. is_of l e.0 e.1) (map.entries m))

-- rows that are those that match a listing, of the table u
pub listed_as : (l : Listing) (t u : Table) (m : Tables) (rows : Entries) → rows ≡ listed_of l t m → t ≡ u → records_of l rows ≡ records_of l (rows_of u m)
listed_as l t u m rows is same = ap (records_of l) is ∙ listed_records l t m ∙ ap (λ (x : Table). records_of l (rows_of x m)) same

-- ---- rows without a record

no_record : (l : Listing) (e : RowKey × Row) → row_record e.0 e.1 ≡ [] → records_of l (e ∷ []) ≡ []
no_record l e none = elim (is_of l e.0 e.1) as (λ b. flat_map (λ (x : RowKey × Row). row_record x.0 x.1) (cond b (e ∷ []) []) ≡ []) [
  | true ↦ ap (λ (rows : List (List (List ℕ))). rows ++ []) none
  | false ↦ refl
]

-- nicknames have none
of_nicks : (l : Listing) (es : Entries) → records_of l (filter (λ (e : RowKey × Row). holds table.Nicks e.0) es) ≡ []
of_nicks l [] = refl
of_nicks l ((k, r) ∷ es) = elim k as (λ k. records_of l (filter (λ (e : RowKey × Row). holds table.Nicks e.0) ((k, r) ∷ es)) ≡ []) [
  | key.User i ↦ of_nicks l es
  | key.Item i ↦ of_nicks l es
  | key.Bid i ↦ of_nicks l es
  | key.Purchase i ↦ of_nicks l es
  | key.Comment i ↦ of_nicks l es
  | key.Nick n ↦ records_append l ((key.Nick n, r) ∷ []) (filter (λ (e : RowKey × Row). holds table.Nicks e.0) es)
      ∙ (λ i. no_record l (key.Nick n, r) refl i ++ of_nicks l es i)
  | key.Cat c ↦ of_nicks l es
]

pub nick_records : (l : Listing) (m : Tables) → records_of l (rows_of table.Nicks m) ≡ []
nick_records l m = of_nicks l (map.entries m)

of_category : (k : RowKey) (c : CatRow) → shows_nothing c ≡ true → row_record k (row.Cat c) ≡ []
of_category (key.Cat n) c nothing = ap (λ b. cond b [] (category_record n c ∷ [])) nothing
of_category k c nothing = refl

nothing_shown : (b : Bool) → not b ≡ false → b ≡ true
nothing_shown true e = refl
nothing_shown false e = sym e

-- a row that listings don't show has no record
unshown : (k : RowKey) (r : Row) → shows r ≡ false → row_record k r ≡ []
unshown k (row.Cat c) e = of_category k c (nothing_shown (shows_nothing c) e)
unshown k r e = absurd cc

one_record : (l : Listing) (e : RowKey × Row) (xs ys : Entries) → records_of l xs ≡ records_of l ys → records_of l (e ∷ xs) ≡ records_of l (e ∷ ys)
one_record l e xs ys same =
    records_append l (e ∷ []) xs ∙ ap (λ rows. records_of l (e ∷ []) ++ rows) same ∙ sym (records_append l (e ∷ []) ys)

-- one row more, shown or not, of the table or of another
one_category : (l : Listing) (e : RowKey × Row) (has is : Bool) (xs ys : Entries) → (is ≡ false → row_record e.0 e.1 ≡ []) → records_of l xs ≡ records_of l ys
    → records_of l (cond is (cond has (e ∷ xs) xs) xs) ≡ records_of l (cond has (e ∷ ys) ys)
one_category l e true true xs ys none same = one_record l e xs ys same
one_category l e false true xs ys none same = same
one_category l e true false xs ys none same =
    same ∙ ap (λ rows. rows ++ records_of l ys) (sym (no_record l e (none refl))) ∙ sym (records_append l (e ∷ []) ys)
one_category l e false false xs ys none same = same

shown_first : (is : Bool) (e : RowKey × Row) (es : Entries)
    → filter (λ (x : RowKey × Row). holds table.Cats x.0) (cond is (e ∷ es) es)
    ≡ cond is (cond (holds table.Cats e.0) (e ∷ filter (λ (x : RowKey × Row). holds table.Cats x.0) es)
    (filter (λ (x : RowKey × Row). holds table.Cats x.0) es)) (filter (λ (x : RowKey × Row). holds table.Cats x.0) es)
shown_first true e es = refl
shown_first false e es = refl

shown_records : (l : Listing) (es : Entries) → records_of l (categories_among es) ≡ records_of l (filter (λ (e : RowKey × Row). holds table.Cats e.0) es)
shown_records l [] = refl
shown_records l (e ∷ es) =
    ap (records_of l) (shown_first (shows e.1) e (shown_among es))
    ∙ one_category l e (holds table.Cats e.0) (shows e.1) (categories_among es) (filter (λ (x : RowKey × Row). holds table.Cats x.0) es)
    (unshown e.0 e.1) (shown_records l es)

-- the categories that listings show have the records of all
pub categories_records : (l : Listing) (m : Tables) → records_of l (categories_of m) ≡ records_of l (rows_of table.Cats m)
categories_records l m = shown_records l (map.entries m)
