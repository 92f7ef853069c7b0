-- The categories that listings show, among the rows of four maps.
use Rattle.rubis_shard.proofs.Common.{◌≡◌, ℕ, Bool, true, false, cond, List, [], ◌∷◌, ◌++◌, refl, sym, ap, ◌∙◌, append_assoc, filter, filter-append}
use Rattle.rubis_shard.proofs.Common.{row_key, holds, IdKey, RowKey, Row}
use Rattle.std.specs.FinMap as map
use Rattle.rubis_schema.specs.declared.id_keys.IdTable.TheVariants as ids
use Rattle.rubis_schema.specs.declared.row_keys.RowKey.TheVariants as key
use Rattle.rubis_schema.specs.declared.row_keys.Table.TheVariants as table
use Rattle.rubis_shard.specs.Listed.{categories_among, categories_of, shown_among, shows}
use Rattle.rubis_shard.specs.Rows.{entries_of, kept_of}
use Rattle.rubis_shard.specs.Chains.{chain_written}
use Rattle.rubis_shard.specs.declared.row_map.Rows.{Rows}
use Rattle.rubis_shard.proofs.InMaps.{Entries}
use Rattle.rubis_shard.proofs.Openings.{none_there}

pub no_categories : categories_of map.empty ≡ []
no_categories = ap categories_among (none_there map.empty refl)

-- ---- the map that has them
append_among : (xs ys : Entries) → categories_among (xs ++ ys) ≡ categories_among xs ++ categories_among ys
append_among xs ys =
    ap (filter (λ (e : RowKey × Row). holds table.Cats e.0)) (filter-append (λ (e : RowKey × Row). shows e.1) xs ys)
    ∙ filter-append (λ (e : RowKey × Row). holds table.Cats e.0) (shown_among xs) (shown_among ys)

abbrev in_cats : RowKey × Row → Bool
in_cats e = holds table.Cats e.0

without : (b : Bool) (e : RowKey × Row) (rest : Entries) → in_cats e ≡ false → filter in_cats (cond b (e ∷ rest) rest) ≡ filter in_cats rest
without true e rest other = ap (λ c. cond c (e ∷ filter in_cats rest) (filter in_cats rest)) other
without false e rest other = refl

with_all : (b : Bool) (e : RowKey × Row) (rest : Entries) → in_cats e ≡ true → filter in_cats rest ≡ rest
    → filter in_cats (cond b (e ∷ rest) rest) ≡ cond b (e ∷ rest) rest
with_all true e rest is same = ap (λ c. cond c (e ∷ filter in_cats rest) (filter in_cats rest)) is ∙ ap (λ (xs : Entries). e ∷ xs) same
with_all false e rest is same = same

none_among : {K : Type 0} (f : K → RowKey) → ((k : K) → holds table.Cats (f k) ≡ false) → (es : List (K × Row)) → categories_among (chain_written f es) ≡ []
none_among f none [] = refl
none_among f none (e ∷ es) = without (shows e.1) (f e.0, e.1) (shown_among (chain_written f es)) (none e.0) ∙ none_among f none es

all_among : (es : List (ℕ × Row)) → categories_among (chain_written key.Cat es) ≡ shown_among (chain_written key.Cat es)
all_among [] = refl
all_among (e ∷ es) = with_all (shows e.1) (key.Cat e.0, e.1) (shown_among (chain_written key.Cat es)) refl (all_among es)

no_key : (k : IdKey) → holds table.Cats (row_key k) ≡ false
no_key k = elim k.table as (λ t. holds table.Cats (row_key (record { seq = k.seq; site = k.site; table = t })) ≡ false) [
  | ids.User ↦ refl
  | ids.Item ↦ refl
  | ids.Bid ↦ refl
  | ids.Purchase ↦ refl
  | ids.Comment ↦ refl
]

pub categories_shown : (r : Rows) → shown_among (chain_written key.Cat r.cats.entries) ≡ categories_among (entries_of r)
categories_shown r =
    let nicks = chain_written key.Nick r.nicks.entries in
    let cats = chain_written key.Cat r.cats.entries in
    let first = none_among row_key no_key r.users.rows.entries in
    let second = none_among row_key no_key r.others.rows.entries in
    sym (append_among (kept_of r.users) (kept_of r.others ++ (nicks ++ cats))
    ∙ (λ i. first i ++ append_among (kept_of r.others) (nicks ++ cats) i)
    ∙ (λ i. second i ++ append_among nicks cats i)
    ∙ ap (λ es. es ++ categories_among cats) (none_among key.Nick (λ n. refl) r.nicks.entries)
    ∙ all_among r.cats.entries)

-- ---- going over them
one_more : (b : Bool) (e : RowKey × Row) (es : Entries) → cond b (e ∷ []) [] ++ es ≡ cond b (e ∷ es) es
one_more true e es = refl
one_more false e es = refl

pub shown_step : (done : Entries) (k : ℕ) (v : Row) (rest es : List (ℕ × Row)) (b : Bool) → es ≡ (k, v) ∷ rest → b ≡ shows v
    → (done ++ cond b ((key.Cat k, v) ∷ []) []) ++ shown_among (chain_written key.Cat rest) ≡ done ++ shown_among (chain_written key.Cat es)
shown_step done k v rest es b next test =
    let left = shown_among (chain_written key.Cat rest) in
    append_assoc done (cond b ((key.Cat k, v) ∷ []) []) left
    ∙ ap (λ xs. done ++ xs) (one_more b (key.Cat k, v) left ∙ ap (λ c. cond c ((key.Cat k, v) ∷ left) left) test
    ∙ ap (λ (xs : List (ℕ × Row)). shown_among (chain_written key.Cat xs)) (sym next))
