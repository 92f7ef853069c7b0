-- What is found at a key of rows, which stand in four maps.
use Rattle.rubis_shard.proofs.Common.{◌≡◌, ℕ, Bool, true, false, cond, List, [], ◌∷◌, ◌++◌, refl, sym, ap, subst, ◌∙◌, Option, Some, None, bytes_eq}
use Rattle.rubis_shard.proofs.Common.{nat_eq, false≢true, AllByRecursion, lookup, set_value, same_as_row_keys, row_key, key_eq, insert_entry}
use Rattle.rubis_shard.proofs.Common.{Decides-key_eq, Tables, IdKey, RowKey, Row, tables_of, get_tables_of, with_row, IsNickKey}
use Rattle.rubis_schema.specs.IdKeyLaws.{same_id_key}
use Rattle.rubis_shadow.proofs.Rows.{tables_of_update, tables_of_remove}
use Rattle.std.specs.Bool.{MatchBool}
use Rattle.rubis_schema.specs.declared.id_keys.IdTable.TheVariants as table
use Rattle.rubis_schema.specs.declared.row_keys.RowKey.TheVariants as key
use Rattle.rubis_shard.specs.Chains.{is_user, key_at, AreOthers, AreUsers, IsPlaced, chain_written}
use Rattle.rubis_shard.specs.declared.map_keys.MapPlace.{MapPlace}
use Rattle.rubis_shard.specs.declared.map_keys.MapPlace.TheVariants as place
use Rattle.rubis_shard.specs.declared.row_map.Rows.{Rows}
use Rattle.std.specs.FinMap as map

abbrev pub Entries : Type 0
Entries = List (RowKey × Row)

-- ---- one map
-- in a map whose keys are told apart as those of rows are
pub found_written : {K : Type 0} (f : K → RowKey) (same : K → K → Bool) → ((k l : K) → same k l ≡ key_eq (f k) (f l)) → (k : K) (es : List (K × Row))
    → lookup (key_eq (f k)) (chain_written f es) ≡ lookup (same k) es
found_written f same is k [] = refl
found_written f same is k (e ∷ es) = λ i. cond (sym (is k e.0) i) (Some e.1) (found_written f same is k es i)

-- in a map of other keys
pub none_written : {K : Type 0} (f : K → RowKey) (q : RowKey) → ((k : K) → key_eq q (f k) ≡ false) → (es : List (K × Row))
    → lookup (key_eq q) (chain_written f es) ≡ None
none_written f q apart [] = refl
none_written f q apart (e ∷ es) = ap (λ b. cond b (Some e.1) (lookup (key_eq q) (chain_written f es))) (apart e.0) ∙ none_written f q apart es

-- ---- users, and other rows with ids
-- a key of a user is none of another row
pub unlike : (p q : RowKey) → (is_user p ≡ is_user q → ⊥) → key_eq p q ≡ false
unlike p q other = at (key_eq p q) refl
  where
    at : (b : Bool) → key_eq p q ≡ b → key_eq p q ≡ false
    at true e = absurd (other (ap is_user ((Decides-key_eq p q).0 e)))
    at false e = e

pub user_apart : (p q : RowKey) → is_user p ≡ true → is_user q ≡ false → key_eq p q ≡ false
user_apart p q user not_user = unlike p q (λ same. false≢true (sym not_user ∙ sym same ∙ user))

pub other_apart : (p q : RowKey) → is_user p ≡ false → is_user q ≡ true → key_eq p q ≡ false
other_apart p q not_user user = unlike p q (λ same. false≢true (sym not_user ∙ same ∙ user))

no_other : (q : RowKey) → is_user q ≡ true → (es : List (IdKey × Row)) → AreOthers es → lookup (key_eq q) (chain_written row_key es) ≡ None
no_other q user [] all = refl
no_other q user (e ∷ es) all =
    ap (λ b. cond b (Some e.1) (lookup (key_eq q) (chain_written row_key es))) (user_apart q (row_key e.0) user all.0) ∙ no_other q user es all.1

no_user : (q : RowKey) → is_user q ≡ false → (es : List (IdKey × Row)) → AreUsers es → lookup (key_eq q) (chain_written row_key es) ≡ None
no_user q not_user [] all = refl
no_user q not_user (e ∷ es) all =
    ap (λ b. cond b (Some e.1) (lookup (key_eq q) (chain_written row_key es))) (other_apart q (row_key e.0) not_user all.0) ∙ no_user q not_user es all.1

-- all of a map are of its kind when one was put after, and when one was changed where it stands
module _ (P : IdKey → Type 0) where
  pub all_set : (test : IdKey → Bool) (es : List (IdKey × Row)) (row : Row) → AllByRecursion (λ e. P e.0) es →
      AllByRecursion (λ e. P e.0) (set_value test es row)
  all_set test [] row all = tt
  all_set test (e ∷ es) row all = elim (test e.0) as (λ b. AllByRecursion (λ x. P x.0) (cond b ((e.0, row) ∷ es) (e ∷ set_value test es row))) [
    | true ↦ (all.0, all.1)
    | false ↦ (all.0, all_set test es row all.1)
  ]

  all_put : (es : List (IdKey × Row)) (k : IdKey) (row : Row) → P k → AllByRecursion (λ e. P e.0) es →
      AllByRecursion (λ e. P e.0) (insert_entry same_id_key es k row)
  all_put [] k row own all = (own, tt)
  all_put (e ∷ es) k row own all =
      elim (same_id_key k e.0) as (λ b. AllByRecursion (λ x. P x.0) (cond b ((e.0, row) ∷ es) (e ∷ insert_entry same_id_key es k row))) [
        | true ↦ (all.0, all.1)
        | false ↦ (all.0, all_put es k row own all.1)
      ]

  pub all_put_in : (put : Bool) (es fs : List (IdKey × Row)) (k : IdKey) (row : Row) → (put ≡ true → fs ≡ insert_entry same_id_key es k row) →
      (put ≡ false → fs ≡ es)
      → P k → AllByRecursion (λ e. P e.0) es → AllByRecursion (λ e. P e.0) fs
  all_put_in true es fs k row put same own all = subst (AllByRecursion (λ (e : IdKey × Row). P e.0)) (sym (put refl)) (all_put es k row own all)
  all_put_in false es fs k row put same own all = subst (AllByRecursion (λ (e : IdKey × Row). P e.0)) (sym (same refl)) all

-- ---- one map after another
pub found_first : (test : RowKey → Bool) (xs ys : Entries) → lookup test ys ≡ None → lookup test (xs ++ ys) ≡ lookup test xs
found_first test [] ys none = none
found_first test (x ∷ xs) ys none = ap (cond (test x.0) (Some x.1)) (found_first test xs ys none)

pub found_second : (test : RowKey → Bool) (xs ys : Entries) → lookup test xs ≡ None → lookup test (xs ++ ys) ≡ lookup test ys
found_second test [] ys none = refl
found_second test (x ∷ xs) ys none = at (test x.0) refl none (found_second test xs ys)
  where
    at : (b : Bool) → test x.0 ≡ b → cond (test x.0) (Some x.1) (lookup test xs) ≡ None
        → (lookup test xs ≡ None → lookup test (xs ++ ys) ≡ lookup test ys)
        → cond (test x.0) (Some x.1) (lookup test (xs ++ ys)) ≡ lookup test ys
    at true is none rest = absurd (let some : Some x.1 ≡ None = ap (λ b. cond b (Some x.1) (lookup test xs)) (sym is) ∙ none in cc)
    at false is none rest = ap (λ b. cond b (Some x.1) (lookup test (xs ++ ys))) is
        ∙ rest (ap (λ b. cond b (Some x.1) (lookup test xs)) (sym is) ∙ none)

-- ---- the four maps
pub key_of_nick : (n : List ℕ) (k : IdKey) → key_eq (key.Nick n) (row_key k) ≡ false
key_of_nick n k = elim k.table as (λ t. key_eq (key.Nick n) (row_key (record { seq = k.seq; site = k.site; table = t })) ≡ false) [
  | table.User ↦ refl
  | table.Item ↦ refl
  | table.Bid ↦ refl
  | table.Purchase ↦ refl
  | table.Comment ↦ refl
]

pub key_of_cat : (n : ℕ) (k : IdKey) → key_eq (key.Cat n) (row_key k) ≡ false
key_of_cat n k = elim k.table as (λ t. key_eq (key.Cat n) (row_key (record { seq = k.seq; site = k.site; table = t })) ≡ false) [
  | table.User ↦ refl
  | table.Item ↦ refl
  | table.Bid ↦ refl
  | table.Purchase ↦ refl
  | table.Comment ↦ refl
]

pub nick_of_key : (k : IdKey) (n : List ℕ) → key_eq (row_key k) (key.Nick n) ≡ false
nick_of_key k n = elim k.table as (λ t. key_eq (row_key (record { seq = k.seq; site = k.site; table = t })) (key.Nick n) ≡ false) [
  | table.User ↦ refl
  | table.Item ↦ refl
  | table.Bid ↦ refl
  | table.Purchase ↦ refl
  | table.Comment ↦ refl
]

pub cat_of_key : (k : IdKey) (n : ℕ) → key_eq (row_key k) (key.Cat n) ≡ false
cat_of_key k n = elim k.table as (λ t. key_eq (row_key (record { seq = k.seq; site = k.site; table = t })) (key.Cat n) ≡ false) [
  | table.User ↦ refl
  | table.Item ↦ refl
  | table.Bid ↦ refl
  | table.Purchase ↦ refl
  | table.Comment ↦ refl
]

pub kept_is_no_nick : (k : IdKey) → ¬ IsNickKey (row_key k)
kept_is_no_nick k = elim k.table as (λ t. ¬ IsNickKey (row_key (record { seq = k.seq; site = k.site; table = t }))) [
  | table.User ↦ λ nick. nick
  | table.Item ↦ λ nick. nick
  | table.Bid ↦ λ nick. nick
  | table.Purchase ↦ λ nick. nick
  | table.Comment ↦ λ nick. nick
]

-- the entries of the four maps
pub record Four : Type 0 where
  pub users : List (IdKey × Row)
  pub others : List (IdKey × Row)
  pub nicks : List (List ℕ × Row)
  pub cats : List (ℕ × Row)
  pub are_users : AreUsers users
  pub are_others : AreOthers others

abbrev pub four : Rows → Four
four r = record {
  users = r.users.rows.entries;
  others = r.others.rows.entries;
  nicks = r.nicks.entries;
  cats = r.cats.entries;
  are_users = r.are_users;
  are_others = r.are_others;
}

abbrev pub all_in : Four → Entries
all_in r = chain_written row_key r.users ++ (chain_written row_key r.others ++ (chain_written key.Nick r.nicks ++ chain_written key.Cat r.cats))

abbrev pub made_of : Four → Tables
made_of r = map.from_entries (all_in r)

-- what the map of a place has there
unfoldable pub found_at : Four → MapPlace → Option Row
found_at r (place.User k) = lookup (same_id_key k) r.users
found_at r (place.Other k) = lookup (same_id_key k) r.others
found_at r (place.Nick n) = lookup (bytes_eq n) r.nicks
found_at r (place.Cat n) = lookup (nat_eq n) r.cats

pub looked_up : (r : Four) (p : MapPlace) → IsPlaced p → lookup (key_eq (key_at p)) (all_in r) ≡ found_at r p
unfolding found_at
looked_up r (place.User k) user =
    let ds = chain_written row_key r.others in
    let ns = chain_written key.Nick r.nicks in
    let cs = chain_written key.Cat r.cats in
    let q = row_key k in
    found_first (key_eq q) (chain_written row_key r.users) (ds ++ (ns ++ cs))
    (found_second (key_eq q) ds (ns ++ cs) (no_other q user r.others r.are_others)
    ∙ found_second (key_eq q) ns cs (none_written key.Nick q (nick_of_key k) r.nicks) ∙ none_written key.Cat q (cat_of_key k) r.cats)
    ∙ found_written row_key same_id_key same_as_row_keys k r.users
looked_up r (place.Other k) not_user =
    let ds = chain_written row_key r.others in
    let ns = chain_written key.Nick r.nicks in
    let cs = chain_written key.Cat r.cats in
    let q = row_key k in
    found_second (key_eq q) (chain_written row_key r.users) (ds ++ (ns ++ cs)) (no_user q not_user r.users r.are_users)
    ∙ found_first (key_eq q) ds (ns ++ cs)
    (found_second (key_eq q) ns cs (none_written key.Nick q (nick_of_key k) r.nicks) ∙ none_written key.Cat q (cat_of_key k) r.cats)
    ∙ found_written row_key same_id_key same_as_row_keys k r.others
looked_up r (place.Nick n) placed =
    let ds = chain_written row_key r.others in
    let ns = chain_written key.Nick r.nicks in
    let cs = chain_written key.Cat r.cats in
    let q = key.Nick n in
    found_second (key_eq q) (chain_written row_key r.users) (ds ++ (ns ++ cs)) (none_written row_key q (key_of_nick n) r.users)
    ∙ found_second (key_eq q) ds (ns ++ cs) (none_written row_key q (key_of_nick n) r.others)
    ∙ found_first (key_eq q) ns cs (none_written key.Cat q (λ k. refl) r.cats)
    ∙ found_written key.Nick bytes_eq (λ k l. refl) n r.nicks
looked_up r (place.Cat n) placed =
    let ds = chain_written row_key r.others in
    let ns = chain_written key.Nick r.nicks in
    let cs = chain_written key.Cat r.cats in
    let q = key.Cat n in
    found_second (key_eq q) (chain_written row_key r.users) (ds ++ (ns ++ cs)) (none_written row_key q (key_of_cat n) r.users)
    ∙ found_second (key_eq q) ds (ns ++ cs) (none_written row_key q (key_of_cat n) r.others)
    ∙ found_second (key_eq q) ns cs (none_written key.Nick q (λ k. refl) r.nicks)
    ∙ found_written key.Cat nat_eq (λ k l. refl) n r.cats

-- what the tables have at the key of a place
pub found_there : (r : Four) (key : RowKey) (p : MapPlace) → IsPlaced p → key_at p ≡ key → map.get (made_of r) key ≡ found_at r p
found_there r key p placed is = ap (map.get (made_of r)) (sym is) ∙ get_tables_of (all_in r) (key_at p) ∙ looked_up r p placed

-- the place of each key
pub place_for : RowKey → MapPlace
place_for (key.User i) = place.User (record { seq = i.seq; site = i.site; table = table.User })
place_for (key.Item i) = place.Other (record { seq = i.seq; site = i.site; table = table.Item })
place_for (key.Bid i) = place.Other (record { seq = i.seq; site = i.site; table = table.Bid })
place_for (key.Purchase i) = place.Other (record { seq = i.seq; site = i.site; table = table.Purchase })
place_for (key.Comment i) = place.Other (record { seq = i.seq; site = i.site; table = table.Comment })
place_for (key.Nick n) = place.Nick n
place_for (key.Cat k) = place.Cat k

pub key_for : (q : RowKey) → key_at (place_for q) ≡ q
unfolding place_for
key_for (key.User i) = refl
key_for (key.Item i) = refl
key_for (key.Bid i) = refl
key_for (key.Purchase i) = refl
key_for (key.Comment i) = refl
key_for (key.Nick n) = refl
key_for (key.Cat k) = refl

placed_for : (q : RowKey) → IsPlaced (place_for q)
unfolding place_for
placed_for (key.User i) = refl
placed_for (key.Item i) = refl
placed_for (key.Bid i) = refl
placed_for (key.Purchase i) = refl
placed_for (key.Comment i) = refl
placed_for (key.Nick n) = tt
placed_for (key.Cat k) = tt

tables_with : (es fs : Entries) (k : RowKey) (v : Option Row) → ((q : RowKey) → lookup (key_eq q) fs ≡ cond (key_eq k q) v (lookup (key_eq q) es)) →
    tables_of fs ≡ with_row (tables_of es) k v
tables_with es fs k None h = tables_of_remove es fs k h
tables_with es fs k (Some v) h = tables_of_update es fs k v h

-- rows that have v at a place, a row or none, and at each other place what they had
tables_at : (old new : Four) (k : RowKey) (p : MapPlace) (v : Option Row) → key_at p ≡ k
    → ((q : MapPlace) → IsPlaced q → found_at new q ≡ cond (key_eq (key_at p) (key_at q)) v (found_at old q))
    → made_of new ≡ with_row (made_of old) k v
tables_at old new k p v is each = tables_with (all_in old) (all_in new) k v (λ q.
    let at = key_for q in
    let w = place_for q in
    let own = placed_for q in
    ap (λ x. lookup (key_eq x) (all_in new)) (sym at) ∙ looked_up new w own ∙ each w own
    ∙ ap (cond (key_eq (key_at p) (key_at w)) v) (sym (looked_up old w own))
    ∙ (λ i. cond (key_eq (is i) (at i)) v (lookup (key_eq (key_at w)) (all_in old)))
    ∙ ap (λ x. cond (key_eq k q) v (lookup (key_eq x) (all_in old))) at)

module _ (old new : Four) (at : RowKey) (v : Option Row) where
  pub user_with : (k : IdKey) → is_user (row_key k) ≡ true → row_key k ≡ at → new.others ≡ old.others → new.nicks ≡ old.nicks → new.cats ≡ old.cats
      → ((l : IdKey) → lookup (same_id_key l) new.users ≡ cond (same_id_key k l) v (lookup (same_id_key l) old.users))
      → made_of new ≡ with_row (made_of old) at v
  unfolding found_at
  user_with k own is others nicks cats found = tables_at old new at (place.User k) v is by
    where
      by : (q : MapPlace) → IsPlaced q → found_at new q ≡ cond (key_eq (row_key k) (key_at q)) v (found_at old q)
      by (place.User l) user = found l ∙ ap (λ b. cond b v (lookup (same_id_key l) old.users)) (same_as_row_keys k l)
      by (place.Other l) not_user = ap (lookup (same_id_key l)) others
          ∙ ap (λ b. cond b v (lookup (same_id_key l) old.others)) (sym (user_apart (row_key k) (row_key l) own not_user))
      by (place.Nick n) placed = ap (lookup (bytes_eq n)) nicks ∙ ap (λ b. cond b v (lookup (bytes_eq n) old.nicks)) (sym (nick_of_key k n))
      by (place.Cat n) placed = ap (lookup (nat_eq n)) cats ∙ ap (λ b. cond b v (lookup (nat_eq n) old.cats)) (sym (cat_of_key k n))

  pub other_with : (k : IdKey) → is_user (row_key k) ≡ false → row_key k ≡ at → new.users ≡ old.users → new.nicks ≡ old.nicks → new.cats ≡ old.cats
      → ((l : IdKey) → lookup (same_id_key l) new.others ≡ cond (same_id_key k l) v (lookup (same_id_key l) old.others))
      → made_of new ≡ with_row (made_of old) at v
  unfolding found_at
  other_with k own is users nicks cats found = tables_at old new at (place.Other k) v is by
    where
      by : (q : MapPlace) → IsPlaced q → found_at new q ≡ cond (key_eq (row_key k) (key_at q)) v (found_at old q)
      by (place.User l) user = ap (lookup (same_id_key l)) users
          ∙ ap (λ b. cond b v (lookup (same_id_key l) old.users)) (sym (other_apart (row_key k) (row_key l) own user))
      by (place.Other l) not_user = found l ∙ ap (λ b. cond b v (lookup (same_id_key l) old.others)) (same_as_row_keys k l)
      by (place.Nick n) placed = ap (lookup (bytes_eq n)) nicks ∙ ap (λ b. cond b v (lookup (bytes_eq n) old.nicks)) (sym (nick_of_key k n))
      by (place.Cat n) placed = ap (lookup (nat_eq n)) cats ∙ ap (λ b. cond b v (lookup (nat_eq n) old.cats)) (sym (cat_of_key k n))

  pub nick_with : (k : List ℕ) → key.Nick k ≡ at → new.users ≡ old.users → new.others ≡ old.others → new.cats ≡ old.cats
      → ((l : List ℕ) → lookup (bytes_eq l) new.nicks ≡ cond (bytes_eq k l) v (lookup (bytes_eq l) old.nicks))
      → made_of new ≡ with_row (made_of old) at v
  unfolding found_at
  nick_with k is users others cats found = tables_at old new at (place.Nick k) v is by
    where
      by : (q : MapPlace) → IsPlaced q → found_at new q ≡ cond (key_eq (key.Nick k) (key_at q)) v (found_at old q)
      by (place.User l) user = ap (lookup (same_id_key l)) users ∙ ap (λ b. cond b v (lookup (same_id_key l) old.users)) (sym (key_of_nick k l))
      by (place.Other l) not_user = ap (lookup (same_id_key l)) others ∙ ap (λ b. cond b v (lookup (same_id_key l) old.others)) (sym (key_of_nick k l))
      by (place.Nick n) placed = found n
      by (place.Cat n) placed = ap (lookup (nat_eq n)) cats

  pub cat_with : (k : ℕ) → key.Cat k ≡ at → new.users ≡ old.users → new.others ≡ old.others → new.nicks ≡ old.nicks
      → ((l : ℕ) → lookup (nat_eq l) new.cats ≡ cond (nat_eq k l) v (lookup (nat_eq l) old.cats))
      → made_of new ≡ with_row (made_of old) at v
  unfolding found_at
  cat_with k is users others nicks found = tables_at old new at (place.Cat k) v is by
    where
      by : (q : MapPlace) → IsPlaced q → found_at new q ≡ cond (key_eq (key.Cat k) (key_at q)) v (found_at old q)
      by (place.User l) user = ap (lookup (same_id_key l)) users ∙ ap (λ b. cond b v (lookup (same_id_key l) old.users)) (sym (key_of_cat k l))
      by (place.Other l) not_user = ap (lookup (same_id_key l)) others ∙ ap (λ b. cond b v (lookup (same_id_key l) old.others)) (sym (key_of_cat k l))
      by (place.Nick n) placed = ap (lookup (bytes_eq n)) nicks
      by (place.Cat n) placed = found n

-- ---- rows whose maps have the same entries
module _ (old new : Four) (users : new.users ≡ old.users) (others : new.others ≡ old.others) (nicks : new.nicks ≡ old.nicks) (cats : new.cats ≡ old.cats) where
  pub same_entries : all_in new ≡ all_in old
  same_entries = λ i. chain_written row_key (users i) ++ (chain_written row_key (others i) ++ (chain_written key.Nick (nicks i) ++ chain_written key.Cat (cats i)))

-- a key that isn't there comes last
pub new_last : {K : Type 0} (same : K → K → Bool) (k : K) (v : Row) (es : List (K × Row)) → lookup (same k) es ≡ None → insert_entry same es k v ≡ es
    ++ (k, v) ∷ []
new_last same k v [] none = refl
new_last same k v (e ∷ es) none = at (same k e.0) refl none (new_last same k v es)
  where
    at : (b : Bool) → same k e.0 ≡ b → cond (same k e.0) (Some e.1) (lookup (same k) es) ≡ None
        → (lookup (same k) es ≡ None → insert_entry same es k v ≡ es ++ (k, v) ∷ [])
        → insert_entry same (e ∷ es) k v ≡ e ∷ (es ++ (k, v) ∷ [])
    at true is none rest = absurd (let some : Some e.1 ≡ None = ap (λ b. cond b (Some e.1) (lookup (same k) es)) (sym is) ∙ none in cc)
    at false is none rest = ap (λ b. cond b ((e.0, v) ∷ es) (e ∷ insert_entry same es k v)) is
        ∙ ap (λ xs. e ∷ xs) (rest (ap (λ b. cond b (Some e.1) (lookup (same k) es)) (sym is) ∙ none))

pub match_put : (P Q : Type 0) (b : Bool) → (b ≡ true → P) → (b ≡ false → Q) → MatchBool b P Q
match_put P Q true f g = f refl
match_put P Q false f g = g refl
