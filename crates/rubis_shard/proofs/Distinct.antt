-- The keys of rows in four maps differ.
use Rattle.rubis_shard.proofs.Common.{◌≡◌, Bool, true, false, List, [], ◌∷◌, ◌++◌, refl, sym, ap, ◌∙◌, subst, AllByRecursion, IsDistinct, keys_of}
use Rattle.rubis_shard.proofs.Common.{same_as_row_keys, row_key, key_eq, IdKey, RowKey, Row, bytes_eq, nat_eq}
use Rattle.rubis_schema.specs.IdKeyLaws.{same_id_key}
use Rattle.rubis_schema.specs.declared.row_keys.RowKey.TheVariants as key
use Rattle.rubis_shard.specs.Chains.{is_user, AreOthers, AreUsers, chain_written}
use Rattle.rubis_shard.specs.Rows.{entries_of}
use Rattle.rubis_shard.specs.declared.row_map.Rows.{Rows}
use Rattle.rubis_shard.proofs.InMaps.{Entries, nick_of_key, cat_of_key, user_apart}

keys_append : (es fs : Entries) → keys_of (es ++ fs) ≡ keys_of es ++ keys_of fs
keys_append [] fs = refl
keys_append (e ∷ es) fs = ap (λ ks. e.0 ∷ ks) (keys_append es fs)

all_append : (P : RowKey → Type 0) (xs ys : List RowKey) → AllByRecursion P xs → AllByRecursion P ys → AllByRecursion P (xs ++ ys)
all_append P [] ys h k = k
all_append P (x ∷ xs) ys h k = (h.0, all_append P xs ys h.1 k)

-- the keys of a map differ from one of other keys
others : {K : Type 0} (f : K → RowKey) (q : RowKey) → ((k : K) → key_eq q (f k) ≡ false) → (es : List (K × Row))
    → AllByRecursion (λ y. key_eq q y ≡ false) (keys_of (chain_written f es))
others f q apart [] = tt
others f q apart (e ∷ es) = (apart e.0, others f q apart es)

module _ {K : Type 0} (f : K → RowKey) (same : K → K → Bool) (is : (k l : K) → same k l ≡ key_eq (f k) (f l)) where
  all_written : (k : K) (es : List (K × Row)) → AllByRecursion (λ y. same k y ≡ false) (keys_of es)
      → AllByRecursion (λ y. key_eq (f k) y ≡ false) (keys_of (chain_written f es))
  all_written k [] h = tt
  all_written k (e ∷ es) h = (sym (is k e.0) ∙ h.0, all_written k es h.1)

  -- after them come keys of other maps
  distinct_written : (ys : List RowKey) → IsDistinct key_eq ys → (es : List (K × Row))
      → AllByRecursion (λ e. AllByRecursion (λ y. key_eq (f e.0) y ≡ false) ys) es
      → IsDistinct same (keys_of es) → IsDistinct key_eq (keys_of (chain_written f es) ++ ys)
  unfolding IsDistinct
  distinct_written ys behind [] apart d = behind
  distinct_written ys behind (e ∷ es) apart d = (
    all_append _ (keys_of (chain_written f es)) ys (all_written e.0 es d.0) apart.0,
    distinct_written ys behind es apart.1 d.1,
  )

each_of : {A : Type 0} (P : A → Type 0) → ((x : A) → P x) → (xs : List A) → AllByRecursion P xs
each_of P f [] = tt
each_of P f (x ∷ xs) = (f x, each_of P f xs)

-- the keys of users differ from those of other rows with ids
no_other : (q : RowKey) → is_user q ≡ true → (es : List (IdKey × Row)) → AreOthers es → AllByRecursion (λ y. key_eq q y ≡ false) (keys_of (chain_written row_key es))
no_other q user [] all = tt
no_other q user (e ∷ es) all = (user_apart q (row_key e.0) user all.0, no_other q user es all.1)

no_more : (xs : List RowKey) → xs ++ [] ≡ xs
no_more [] = refl
no_more (x ∷ xs) = ap (λ ys. x ∷ ys) (no_more xs)

module _ (r : Rows) where
  ns : Entries
  ns = chain_written key.Nick r.nicks.entries

  cs : Entries
  cs = chain_written key.Cat r.cats.entries

  others_behind : (k : IdKey) → AllByRecursion (λ y. key_eq (row_key k) y ≡ false) (keys_of ns ++ (keys_of cs ++ []))
  unfolding ns cs
  others_behind k = all_append _ (keys_of ns) _ (others key.Nick (row_key k) (nick_of_key k) r.nicks.entries)
      (all_append _ (keys_of cs) [] (others key.Cat (row_key k) (cat_of_key k) r.cats.entries) tt)

  behind_users : (es : List (IdKey × Row)) → AreUsers es
      → AllByRecursion (λ e. AllByRecursion (λ y. key_eq (row_key e.0) y ≡ false)
      (keys_of (chain_written row_key r.others.rows.entries) ++ (keys_of ns ++ (keys_of cs ++ [])))) es
  behind_users [] all = tt
  behind_users (e ∷ es) all = (
    all_append _ (keys_of (chain_written row_key r.others.rows.entries)) _ (no_other (row_key e.0) all.0 r.others.rows.entries r.are_others) (others_behind e.0),
    behind_users es all.1,
  )

  keys_in_order : keys_of (entries_of r) ≡ keys_of (chain_written row_key r.users.rows.entries)
      ++ (keys_of (chain_written row_key r.others.rows.entries) ++ (keys_of ns ++ (keys_of cs ++ [])))
  unfolding ns cs
  keys_in_order =
      let ss = chain_written row_key r.users.rows.entries in
      let ds = chain_written row_key r.others.rows.entries in
      keys_append ss (ds ++ (ns ++ cs)) ∙ ap (λ ks. keys_of ss ++ ks) (keys_append ds (ns ++ cs)
      ∙ ap (λ ks. keys_of ds ++ ks) (keys_append ns cs ∙ ap (λ ks. keys_of ns ++ ks) (sym (no_more (keys_of cs)))))

  pub keys_differ : IsDistinct same_id_key (keys_of r.users.rows.entries) → IsDistinct same_id_key (keys_of r.others.rows.entries)
      → IsDistinct bytes_eq (keys_of r.nicks.entries) → IsDistinct nat_eq (keys_of r.cats.entries) → IsDistinct key_eq (keys_of (entries_of r))
  unfolding IsDistinct ns cs
  keys_differ users rest nicks cats =
      let last : IsDistinct key_eq (keys_of cs ++ []) = distinct_written key.Cat nat_eq (λ k l. refl) [] tt r.cats.entries
      (each_of _ (λ e. tt) r.cats.entries) cats in
      let next : IsDistinct key_eq (keys_of ns ++ (keys_of cs ++ [])) = distinct_written key.Nick bytes_eq (λ k l. refl) (keys_of cs ++ []) last r.nicks.entries
      (each_of _ (λ e. all_append _ (keys_of cs) [] (others key.Cat (key.Nick e.0) (λ k. refl) r.cats.entries) tt) r.nicks.entries) nicks in
      let more = distinct_written row_key same_id_key same_as_row_keys (keys_of ns ++ (keys_of cs ++ [])) next r.others.rows.entries
      (each_of _ (λ e. others_behind e.0) r.others.rows.entries) rest in
      let all = distinct_written row_key same_id_key same_as_row_keys (keys_of (chain_written row_key r.others.rows.entries) ++ (keys_of ns ++ (keys_of cs ++ [])))
      more
      r.users.rows.entries (behind_users r.users.rows.entries r.are_users) users in
      subst (IsDistinct key_eq) (sym keys_in_order) all
