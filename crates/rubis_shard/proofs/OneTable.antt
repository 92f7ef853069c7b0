-- The rows that match a listing, among those of four maps.
use Rattle.rubis_shard.proofs.Common.{◌≡◌, ℕ, Bool, true, false, cond, ◌&&◌, ◌+◌, ◌<◌, List, [], ◌∷◌, ◌++◌, drop, take, length, refl, sym, ap, ◌∙◌}
use Rattle.rubis_shard.proofs.Common.{append_assoc, arith, Some, filter, option_map, slice_get, zero, suc, AllByRecursion, false≢true, append-nil}
use Rattle.rubis_shard.proofs.Common.{filter-append, row_key, holds, IdKey, IdTable, Listing, RowKey, Table, Row, is_of}
use Rattle.std.proofs.lemmas.List.{take-append-drop}
use Rattle.rubis_schema.specs.declared.id_keys.IdTable.TheVariants as table
use Rattle.rubis_schema.specs.declared.row_keys.RowKey.TheVariants as key
use Rattle.rubis_schema.specs.declared.row_keys.Table.TheVariants as tables
use Rattle.rubis_shard.specs.Listed.{listed_among, table_with}
use Rattle.rubis_shard.specs.Chains.{is_user, AreOthers, AreUsers, chain_written}
use Rattle.rubis_shard.specs.Rows.{entries_of, kept_of, rows_with}
use Rattle.rubis_shard.specs.declared.row_map.Rows.{Rows}
use Rattle.rubis_shard.proofs.InMaps.{Entries}

no_more : (b : Bool) → (b && false) ≡ false
no_more true = refl
no_more false = refl

no_kept_nick : (k : IdKey) → holds tables.Nicks (row_key k) ≡ false
no_kept_nick k = elim k.table as (λ t. holds tables.Nicks (row_key (record { seq = k.seq; site = k.site; table = t })) ≡ false) [
  | table.User ↦ refl
  | table.Item ↦ refl
  | table.Bid ↦ refl
  | table.Purchase ↦ refl
  | table.Comment ↦ refl
]

no_kept_cat : (k : IdKey) → holds tables.Cats (row_key k) ≡ false
no_kept_cat k = elim k.table as (λ t. holds tables.Cats (row_key (record { seq = k.seq; site = k.site; table = t })) ≡ false) [
  | table.User ↦ refl
  | table.Item ↦ refl
  | table.Bid ↦ refl
  | table.Purchase ↦ refl
  | table.Comment ↦ refl
]

module _ (l : Listing) (t : Table) where
  pub picked : RowKey → Row → Bool
  picked k v = is_of l k v && holds t k

  -- one row more in front
  pub listed_cons : (e : RowKey × Row) (es : Entries) → listed_among l t (e ∷ es) ≡ cond (picked e.0 e.1) (e ∷ []) [] ++ listed_among l t es
  unfolding picked
  listed_cons e es = at (is_of l e.0 e.1) (holds t e.0) refl refl
    where
      at : (b c : Bool) → is_of l e.0 e.1 ≡ b → holds t e.0 ≡ c
          → listed_among l t (e ∷ es) ≡ cond (is_of l e.0 e.1 && holds t e.0) (e ∷ []) [] ++ listed_among l t es
      at true c is has =
          ap (λ b. filter (λ (x : RowKey × Row). holds t x.0)
          (cond b (e ∷ filter (λ (x : RowKey × Row). is_of l x.0 x.1) es) (filter (λ (x : RowKey × Row). is_of l x.0 x.1) es))) is
          ∙ one c has ∙ ap (λ b. cond (b && holds t e.0) (e ∷ []) [] ++ listed_among l t es) (sym is)
        where
          one : (c : Bool) → holds t e.0 ≡ c → cond (holds t e.0) (e ∷ listed_among l t es) (listed_among l t es) ≡ cond (holds t e.0) (e ∷ []) []
              ++ listed_among l t es
          one true has = ap (λ b. cond b (e ∷ listed_among l t es) (listed_among l t es)) has ∙ ap (λ b. cond b (e ∷ []) [] ++ listed_among l t es) (sym has)
          one false has = ap (λ b. cond b (e ∷ listed_among l t es) (listed_among l t es)) has ∙ ap (λ b. cond b (e ∷ []) [] ++ listed_among l t es) (sym has)
      at false c is has =
          ap (λ b. filter (λ (x : RowKey × Row). holds t x.0)
          (cond b (e ∷ filter (λ (x : RowKey × Row). is_of l x.0 x.1) es) (filter (λ (x : RowKey × Row). is_of l x.0 x.1) es))) is
          ∙ ap (λ b. cond (b && holds t e.0) (e ∷ []) [] ++ listed_among l t es) (sym is)

  pub listed_append : (es fs : Entries) → listed_among l t (es ++ fs) ≡ listed_among l t es ++ listed_among l t fs
  listed_append es fs =
      ap (filter (λ (x : RowKey × Row). holds t x.0)) (filter-append (λ (x : RowKey × Row). is_of l x.0 x.1) es fs)
      ∙ filter-append (λ (x : RowKey × Row). holds t x.0) (filter (λ (x : RowKey × Row). is_of l x.0 x.1) es)
      (filter (λ (x : RowKey × Row). is_of l x.0 x.1) fs)

  none_listed : {K : Type 0} (f : K → RowKey) → ((k : K) (v : Row) → picked (f k) v ≡ false) → (es : List (K × Row)) → listed_among l t (chain_written f es) ≡ []
  none_listed f none [] = refl
  none_listed f none (e ∷ es) = listed_cons (f e.0, e.1) (chain_written f es)
      ∙ ap (λ b. cond b ((f e.0, e.1) ∷ []) [] ++ listed_among l t (chain_written f es)) (none e.0 e.1) ∙ none_listed f none es

  none_kept : (es : List (IdKey × Row)) → AllByRecursion (λ e. holds t (row_key e.0) ≡ false) es → listed_among l t (chain_written row_key es) ≡ []
  unfolding picked
  none_kept [] none = refl
  none_kept (e ∷ es) none = listed_cons (row_key e.0, e.1) (chain_written row_key es)
      ∙ ap (λ b. cond b ((row_key e.0, e.1) ∷ []) [] ++ listed_among l t (chain_written row_key es)) (ap (λ b. is_of l (row_key e.0) e.1 && b) none.0 ∙ no_more _)
      ∙ none_kept es none.1

  -- those of each of four lists
  listed_four : (ws xs ys zs : Entries) → listed_among l t (ws ++ (xs ++ (ys ++ zs)))
      ≡ listed_among l t ws ++ (listed_among l t xs ++ (listed_among l t ys ++ listed_among l t zs))
  listed_four ws xs ys zs = listed_append ws (xs ++ (ys ++ zs))
      ∙ ap (λ es. listed_among l t ws ++ es) (listed_append xs (ys ++ zs) ∙ ap (λ es. listed_among l t xs ++ es) (listed_append ys zs))

-- ---- which keys a table has
of_users : Table → Bool
of_users tables.Users = true
of_users t = false

held_alike : (t : Table) (k : RowKey) → holds t k ≡ true → is_user k ≡ of_users t
unfolding of_users
held_alike tables.Users (key.User i) e = refl
held_alike tables.Items (key.Item i) e = refl
held_alike tables.Bids (key.Bid i) e = refl
held_alike tables.Purchases (key.Purchase i) e = refl
held_alike tables.Comments (key.Comment i) e = refl
held_alike tables.Nicks (key.Nick n) e = refl
held_alike tables.Cats (key.Cat k) e = refl
held_alike t k e = absurd (false≢true e)

not_held : (t : Table) (k : RowKey) (b c : Bool) → is_user k ≡ b → of_users t ≡ c → (b ≡ c → ⊥) → holds t k ≡ false
not_held t k b c own other apart = at (holds t k) refl
  where
    at : (x : Bool) → holds t k ≡ x → holds t k ≡ false
    at true e = absurd (apart (sym own ∙ held_alike t k e ∙ other))
    at false e = e

no_others : (t : Table) → of_users t ≡ true → (es : List (IdKey × Row)) → AreOthers es → AllByRecursion (λ e. holds t (row_key e.0) ≡ false) es
no_others t user [] all = tt
no_others t user (e ∷ es) all = (not_held t (row_key e.0) false true all.0 user false≢true, no_others t user es all.1)

no_users : (t : Table) → of_users t ≡ false → (es : List (IdKey × Row)) → AreUsers es → AllByRecursion (λ e. holds t (row_key e.0) ≡ false) es
no_users t not_user [] all = tt
no_users t not_user (e ∷ es) all = (not_held t (row_key e.0) true false all.0 not_user (λ same. false≢true (sym same)), no_users t not_user es all.1)

-- ---- the rows of a table are in one of the maps
module _ (l : Listing) (r : Rows) where
  users : Entries
  users = kept_of r.users

  others : Entries
  others = kept_of r.others

  nicks : Entries
  nicks = chain_written key.Nick r.nicks.entries

  cats : Entries
  cats = chain_written key.Cat r.cats.entries

  by_map : (t : Table) → listed_among l t (entries_of r)
      ≡ listed_among l t users ++ (listed_among l t others ++ (listed_among l t nicks ++ listed_among l t cats))
  unfolding users others nicks cats
  by_map t = listed_four l t users others nicks cats

  no_nicks : (t : Table) → ((n : List ℕ) → holds t (key.Nick n) ≡ false) → listed_among l t nicks ≡ []
  unfolding nicks picked
  no_nicks t none = none_listed l t key.Nick (λ n v. ap (λ b. is_of l (key.Nick n) v && b) (none n) ∙ no_more _) r.nicks.entries

  no_cats : (t : Table) → ((n : ℕ) → holds t (key.Cat n) ≡ false) → listed_among l t cats ≡ []
  unfolding cats picked
  no_cats t none = none_listed l t key.Cat (λ n v. ap (λ b. is_of l (key.Cat n) v && b) (none n) ∙ no_more _) r.cats.entries

  only_users : (t : Table) → of_users t ≡ true → ((n : List ℕ) → holds t (key.Nick n) ≡ false) → ((n : ℕ) → holds t (key.Cat n) ≡ false)
      → listed_among l t (kept_of r.users) ≡ listed_among l t (entries_of r)
  unfolding users others
  only_users t user other last =
      let none = none_kept l t r.others.rows.entries (no_others t user r.others.rows.entries r.are_others) in
      sym (by_map t ∙ (λ i. listed_among l t users ++ (none i ++ (no_nicks t other i ++ no_cats t last i))) ∙ append-nil (listed_among l t users))

  only_others : (t : Table) → of_users t ≡ false → ((n : List ℕ) → holds t (key.Nick n) ≡ false) → ((n : ℕ) → holds t (key.Cat n) ≡ false)
      → listed_among l t (kept_of r.others) ≡ listed_among l t (entries_of r)
  unfolding users others
  only_others t not_user other last =
      let none = none_kept l t r.users.rows.entries (no_users t not_user r.users.rows.entries r.are_users) in
      sym (by_map t ∙ (λ i. none i ++ (listed_among l t others ++ (no_nicks t other i ++ no_cats t last i))) ∙ append-nil (listed_among l t others))

  no_ids : (t : Table) → ((k : IdKey) → holds t (row_key k) ≡ false) → (es : List (IdKey × Row)) → AllByRecursion (λ e. holds t (row_key e.0) ≡ false) es
  no_ids t none [] = tt
  no_ids t none (e ∷ es) = (none e.0, no_ids t none es)

  pub nicks_listed : listed_among l tables.Nicks (chain_written key.Nick r.nicks.entries) ≡ listed_among l tables.Nicks (entries_of r)
  unfolding users others nicks
  nicks_listed =
      let t = tables.Nicks in
      let first = none_kept l t r.users.rows.entries (no_ids t no_kept_nick r.users.rows.entries) in
      let second = none_kept l t r.others.rows.entries (no_ids t no_kept_nick r.others.rows.entries) in
      sym (by_map t ∙ (λ i. first i ++ (second i ++ (listed_among l t nicks ++ no_cats t (λ n. refl) i))) ∙ append-nil (listed_among l t nicks))

  pub cats_listed : listed_among l tables.Cats (chain_written key.Cat r.cats.entries) ≡ listed_among l tables.Cats (entries_of r)
  unfolding users others cats
  cats_listed =
      let t = tables.Cats in
      let first = none_kept l t r.users.rows.entries (no_ids t no_kept_cat r.users.rows.entries) in
      let second = none_kept l t r.others.rows.entries (no_ids t no_kept_cat r.others.rows.entries) in
      sym (by_map t ∙ (λ i. first i ++ (second i ++ (no_nicks t (λ n. refl) i ++ listed_among l t cats))))

  pub users_listed : listed_among l tables.Users (kept_of r.users) ≡ listed_among l tables.Users (entries_of r)
  unfolding of_users
  users_listed = only_users tables.Users refl (λ n. refl) (λ n. refl)

  pub others_listed : (t : Table) → (t ≡ tables.Users → ⊥) → (t ≡ tables.Nicks → ⊥) → (t ≡ tables.Cats → ⊥)
      → listed_among l t (kept_of r.others) ≡ listed_among l t (entries_of r)
  unfolding of_users
  others_listed tables.Users u n c = absurd (u refl)
  others_listed tables.Items u n c = only_others tables.Items refl (λ n. refl) (λ n. refl)
  others_listed tables.Nicks u n c = absurd (n refl)
  others_listed tables.Cats u n c = absurd (c refl)
  others_listed tables.Bids u n c = only_others tables.Bids refl (λ n. refl) (λ n. refl)
  others_listed tables.Purchases u n c = only_others tables.Purchases refl (λ n. refl) (λ n. refl)
  others_listed tables.Comments u n c = only_others tables.Comments refl (λ n. refl) (λ n. refl)

  pub ids_listed : (t : IdTable) → listed_among l (table_with t) (kept_of (rows_with t r)) ≡ listed_among l (table_with t) (entries_of r)
  unfolding of_users
  ids_listed table.User = users_listed
  ids_listed table.Item = only_others tables.Items refl (λ n. refl) (λ n. refl)
  ids_listed table.Bid = only_others tables.Bids refl (λ n. refl) (λ n. refl)
  ids_listed table.Purchase = only_others tables.Purchases refl (λ n. refl) (λ n. refl)
  ids_listed table.Comment = only_others tables.Comments refl (λ n. refl) (λ n. refl)

-- ---- going over rows by their places
pub listed_one : (l : Listing) (t : Table) (k : RowKey) (v : Row) (b : Bool) → b ≡ (is_of l k v && holds t k)
    → listed_among l t ((k, v) ∷ []) ≡ cond b ((k, v) ∷ []) []
unfolding picked
listed_one l t k v b test = listed_cons l t (k, v) [] ∙ append-nil (cond (is_of l k v && holds t k) ((k, v) ∷ []) [])
    ∙ ap (λ c. cond c ((k, v) ∷ []) []) (sym test)

drop_here : (es : Entries) (n : ℕ) (e : RowKey × Row) → slice_get es n ≡ Some e → drop n es ≡ e ∷ drop (suc n) es
drop_here [] n e h = absurd cc
drop_here (x ∷ es) zero e h = ap (λ y. y ∷ es) (let same : x ≡ e = cc in same)
drop_here (x ∷ es) (suc n) e h = drop_here es n e h

pub pick_step : (l : Listing) (t : Table) (done more es : Entries) (n : ℕ) (e : RowKey × Row) → slice_get es n ≡ Some e
    → more ≡ done ++ listed_among l t (e ∷ []) → more ++ listed_among l t (drop (n + 1) es) ≡ done ++ listed_among l t (drop n es)
pick_step l t done more es n e here pushed =
    let next : n + 1 ≡ suc n = omega arith in
    let rest = drop (suc n) es in
    ap (λ m. more ++ listed_among l t (drop m es)) next
    ∙ ap (λ xs. xs ++ listed_among l t rest) pushed
    ∙ append_assoc done (listed_among l t (e ∷ [])) (listed_among l t rest)
    ∙ ap (λ xs. done ++ xs) (sym (listed_append l t (e ∷ []) rest) ∙ ap (listed_among l t) (sym (drop_here es n e here)))

pub pick_split : (l : Listing) (t : Table) (n : ℕ) (es : Entries) → listed_among l t es ≡ listed_among l t (take n es) ++ listed_among l t (drop n es)
pick_split l t n es = ap (listed_among l t) (sym (take-append-drop n es)) ∙ listed_append l t (take n es) (drop n es)

-- ---- going over the rows of a map
pub walk_step : {K : Type 0} (f : K → RowKey) (l : Listing) (t : Table) (done : Entries) (q : RowKey) (k : K) (v : Row) (rest es : List (K × Row)) (b : Bool)
    → q ≡ f k → es ≡ (k, v) ∷ rest → b ≡ (is_of l q v && holds t q)
    → (done ++ cond b ((q, v) ∷ []) []) ++ listed_among l t (chain_written f rest) ≡ done ++ listed_among l t (chain_written f es)
unfolding picked
walk_step f l t done q k v rest es b is next test =
    append_assoc done (cond b ((q, v) ∷ []) []) (listed_among l t (chain_written f rest))
    ∙ ap (λ xs. done ++ xs) (ap (λ c. cond c ((q, v) ∷ []) [] ++ listed_among l t (chain_written f rest)) test
    ∙ ap (λ (x : RowKey). cond (is_of l x v && holds t x) ((x, v) ∷ []) [] ++ listed_among l t (chain_written f rest)) is
    ∙ sym (listed_cons l t (f k, v) (chain_written f rest)) ∙ ap (λ (xs : List _). listed_among l t (chain_written f xs)) (sym next))

pub written_length : (es : List (IdKey × Row)) → length (chain_written row_key es) ≡ length es
written_length [] = refl
written_length (e ∷ es) = ap suc (written_length es)

pub taken_at : (es : Entries) (n i : ℕ) → i < n → slice_get (take n es) i ≡ slice_get es i
taken_at es zero i low = absurd (omega arith)
taken_at [] (suc n) i low = refl
taken_at (e ∷ es) (suc n) zero low = refl
taken_at (e ∷ es) (suc n) (suc i) low = taken_at es n i (omega arith)

pub written_at : {K : Type 0} (f : K → RowKey) (es : List (K × Row)) (i : ℕ) (k : K) (v : Row) → slice_get es i ≡ Some (k, v) → slice_get (chain_written f es) i
    ≡ Some (f k, v)
written_at f [] i k v e = absurd cc
written_at f (x ∷ es) zero k v e = ap (option_map (λ y. (f y.0, y.1))) e
written_at f (x ∷ es) (suc i) k v e = written_at f es i k v e
