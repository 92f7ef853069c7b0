-- Parts with different keys may be done in either order, and each shard comes to hold its part of the tables.
use Rattle.std.proofs.Common.{◌≡◌, Bool, true, false, cond, refl, sym, ap, ◌∙◌, Option, Some, None, ℕ, ◌+◌, List, [], ◌∷◌, ◌++◌, length, arith, append_assoc}
use Rattle.std.specs.FinMap as map
use Rattle.rubis_schema.specs.declared.row_keys.RowKey.{RowKey}
use Rattle.rubis_schema.specs.declared.rows.Row.{Row}
use Rattle.rubis_shadow.specs.declared.keyed_change.Effect.{Effect}
use Rattle.rubis_schema.specs.Keys.{tied, home}
use Rattle.rubis_schema.specs.Tables.{Tables}
use Rattle.rubis_shadow.specs.Changes.{with_row, after_part, doing, misfit_of, change_row}
use Rattle.rubis_schema.specs.KeyLaws.{key_total, key_antisymmetric, Decides-tied, other_key}
use Rattle.std.specs.Prelude.{nat_eq, filter, flat_map}
use Rattle.std.proofs.lemmas.Bool.Decides.{Decides-eqb}
use Rattle.std.proofs.lemmas.List.Sums.{fold-append}
use mathlib.Core.Bool.{true≢false}
use Rattle.rubis_shadow.specs.declared.changes.MisfitKind.{MisfitKind}
use Rattle.rubis_shadow.specs.declared.numbered.Numbered.{Numbered}
use Rattle.rubis_shadow.specs.declared.numbered.Misfit.{Misfit}
use Rattle.rubis_model.specs.Log.{Core, noted, number_parts, numbered_from, parts_of, share, step, fold_on, before_any, fold_of}
use Rattle.rubis_model.specs.Shares.{part_of, batch_folded, share_folded}

pub same_tables : (t u : Tables) → ((q : RowKey) → map.get t q ≡ map.get u q) → t ≡ u
same_tables = map.same_map key_total key_antisymmetric

pub get-with_row : (t : Tables) (k : RowKey) (o : Option Row) (q : RowKey) → map.get (with_row t k o) q ≡ cond (tied q k) o (map.get t q)
get-with_row t k None q = map.get-remove key_total t k q
get-with_row t k (Some r) q = map.get-insert key_total t k r q

pub get-after_else : (t : Tables) (e : Effect) (q : RowKey) → ¬ (q ≡ e.key) → map.get (after_part t e) q ≡ map.get t q
get-after_else t e q n = get-with_row t e.key _ q ∙ ap (λ b. cond b (doing t e).row (map.get t q)) (other_key q e.key n)

pub doing_else : (t : Tables) (e f : Effect) → ¬ (f.key ≡ e.key) → doing (after_part t e) f ≡ doing t f
doing_else t e f n = ap (change_row f.change) (get-after_else t e f.key n)

swapped : {A : Type 0} (a b : Bool) (x y z : A) → (a ≡ true → b ≡ true → ⊥) → cond a x (cond b y z) ≡ cond b y (cond a x z)
swapped true true x y z n = absurd (n refl refl)
swapped true false x y z n = refl
swapped false b x y z n = refl

get-after_both : (t : Tables) (e f : Effect) → ¬ (f.key ≡ e.key) → (q : RowKey)
    → map.get (after_part (after_part t e) f) q ≡ cond (tied q f.key) (doing t f).row (cond (tied q e.key) (doing t e).row (map.get t q))
get-after_both t e f n q =
    get-with_row (after_part t e) f.key _ q
    ∙ (λ i. cond (tied q f.key) (doing_else t e f n i).row (get-with_row t e.key (doing t e).row q i))

-- in either order the same tables, and the same misfit for each part
pub parts_commute : (t : Tables) (e f : Effect) → ¬ (e.key ≡ f.key)
    → (after_part (after_part t e) f ≡ after_part (after_part t f) e) × (misfit_of (after_part t e) f ≡ misfit_of t f)
    × (misfit_of (after_part t f) e ≡ misfit_of t e)
parts_commute t e f n =
    let m : ¬ (f.key ≡ e.key) = λ p. n (sym p) in (
      same_tables _ _ (λ q. get-after_both t e f m q
          ∙ swapped (tied q f.key) (tied q e.key) _ _ _ (λ p r. m (sym ((Decides-tied q f.key).0 p) ∙ (Decides-tied q e.key).0 r))
          ∙ sym (get-after_both t f e n q)),
      ap (λ d. d.misfit) (doing_else t e f m),
      ap (λ d. d.misfit) (doing_else t f e n),
    )

-- ---- each shard, folding its share on what it holds, comes to hold its part of the tables that one thread makes

abbrev pub tables_after : Tables → List Numbered → Tables
tables_after t [] = t
tables_after t (n ∷ ns) = tables_after (after_part t n.effect) ns

-- each part with its misfit, if it has one
abbrev pub outcomes : Tables → List Numbered → List (Numbered × Option MisfitKind)
outcomes t [] = []
outcomes t (n ∷ ns) = (n, misfit_of t n.effect) ∷ outcomes (after_part t n.effect) ns

abbrev pub all_noted : List (Numbered × Option MisfitKind) → List Misfit
all_noted os = flat_map (λ o. noted o.0 o.1) os

pub fold_on_is : (t : Tables) (ms : List Misfit) (ns : List Numbered)
    → fold_on (record { tables = t; misfits = ms }) ns ≡ record { tables = tables_after t ns; misfits = ms ++ all_noted (outcomes t ns) }
fold_on_is t ms [] = λ i. record { tables = t; misfits = nothing_more i }
  where
    nothing_more : ms ≡ ms ++ []
    nothing_more = search Rattle.std.proofs.Common.rules
fold_on_is t ms (n ∷ ns) =
    fold_on_is (after_part t n.effect) (ms ++ noted n (misfit_of t n.effect)) ns
    ∙ (λ i. record {
      tables = tables_after (after_part t n.effect) ns;
      misfits = append_assoc ms (noted n (misfit_of t n.effect)) (all_noted (outcomes (after_part t n.effect) ns)) i;
    })

module _ (shards k : ℕ) where
  abbrev at_home : RowKey → Bool
  at_home q = nat_eq (home shards q) k

  abbrev mine : Numbered → Bool
  mine n = at_home n.effect.key

  pub get-part_of : (t : Tables) (q : RowKey) → map.get (part_of shards k t) q ≡ cond (at_home q) (map.get t q) None
  get-part_of t q = map.get-retain_keys t at_home q (λ x e. ap at_home (sym (key_antisymmetric q x e)))

  same_doing : (t : Tables) (e : Effect) → at_home e.key ≡ true → doing (part_of shards k t) e ≡ doing t e
  same_doing t e h = ap (change_row e.change) (get-part_of t e.key ∙ ap (λ b. cond b (map.get t e.key) None) h)

  -- one key, and what it holds in the part and in the whole
  one_key : (a s h : Bool) (x y : Option Row) → (s ≡ true → a ≡ h) → cond a (cond s x y) None ≡ cond h (cond s x (cond a y None)) (cond a y None)
  one_key a false true x y e = refl
  one_key a false false x y e = refl
  one_key true true true x y e = refl
  one_key true true false x y e = absurd (true≢false (e refl))
  one_key false true true x y e = absurd (true≢false (sym (e refl)))
  one_key false true false x y e = refl

  -- a row at a key in the part and in the whole
  pub part_with_row : (t : Tables) (p : RowKey) (o : Option Row)
      → part_of shards k (with_row t p o) ≡ cond (at_home p) (with_row (part_of shards k t) p o) (part_of shards k t)
  part_with_row t p o =
      elim (at_home p) as (λ b. at_home p ≡ b → part_of shards k (with_row t p o) ≡ cond b (with_row (part_of shards k t) p o) (part_of shards k t)) [
        | true ↦ λ h. same_tables _ _ (λ q. left q ∙ one_key (at_home q) (tied q p) true _ _ (λ s. ap at_home ((Decides-tied q p).0 s) ∙ h)
            ∙ sym (get-with_row (part_of shards k t) p o q ∙ ap (cond (tied q p) o) (get-part_of t q)))
        | false ↦ λ h. same_tables _ _
            (λ q. left q ∙ one_key (at_home q) (tied q p) false _ _ (λ s. ap at_home ((Decides-tied q p).0 s) ∙ h) ∙ sym (get-part_of t q))
      ] refl
    where
      left : (q : RowKey) → map.get (part_of shards k (with_row t p o)) q ≡ cond (at_home q) (cond (tied q p) o (map.get t q)) None
      left q = get-part_of (with_row t p o) q ∙ ap (λ x. cond (at_home q) x None) (get-with_row t p o q)

  pub part_after : (t : Tables) (e : Effect) → part_of shards k (after_part t e) ≡ cond (at_home e.key) (after_part (part_of shards k t) e) (part_of shards k t)
  part_after t e = part_with_row t e.key (doing t e).row ∙ at (at_home e.key) refl
    where
      at : (b : Bool) → at_home e.key ≡ b
          → cond b (with_row (part_of shards k t) e.key (doing t e).row) (part_of shards k t) ≡ cond b (after_part (part_of shards k t) e) (part_of shards k t)
      at true h = ap (λ d. with_row (part_of shards k t) e.key d.row) (sym (same_doing t e h))
      at false h = refl

  pub share_tables : (t : Tables) (ns : List Numbered) → tables_after (part_of shards k t) (filter mine ns) ≡ part_of shards k (tables_after t ns)
  share_tables t [] = refl
  share_tables t (n ∷ ns) =
      elim (mine n) as (λ b. mine n ≡ b → tables_after (part_of shards k t) (cond b (n ∷ filter mine ns) (filter mine ns))
      ≡ part_of shards k (tables_after (after_part t n.effect) ns)) [
        | true ↦ λ h. ap (λ u. tables_after u (filter mine ns))
            (sym (part_after t n.effect ∙ ap (λ b. cond b (after_part (part_of shards k t) n.effect) (part_of shards k t)) h))
            ∙ share_tables (after_part t n.effect) ns
        | false ↦ λ h. ap (λ u. tables_after u (filter mine ns))
            (sym (part_after t n.effect ∙ ap (λ b. cond b (after_part (part_of shards k t) n.effect) (part_of shards k t)) h))
            ∙ share_tables (after_part t n.effect) ns
      ] refl

  abbrev mine_done : Numbered × Option MisfitKind → Bool
  mine_done o = mine o.0

  pub share_outcomes : (t : Tables) (ns : List Numbered) → outcomes (part_of shards k t) (filter mine ns) ≡ filter mine_done (outcomes t ns)
  share_outcomes t [] = refl
  share_outcomes t (n ∷ ns) =
      elim (mine n) as (λ b. mine n ≡ b → outcomes (part_of shards k t) (cond b (n ∷ filter mine ns) (filter mine ns))
      ≡ cond b ((n, misfit_of t n.effect) ∷ filter mine_done (outcomes (after_part t n.effect) ns)) (filter mine_done (outcomes (after_part t n.effect) ns))) [
        | true ↦ λ h. λ i. (n, (same_doing t n.effect h i).misfit) ∷
            ((ap (λ u. outcomes u (filter mine ns))
            (sym (part_after t n.effect ∙ ap (λ b. cond b (after_part (part_of shards k t) n.effect) (part_of shards k t)) h))
            ∙ share_outcomes (after_part t n.effect) ns) i)
        | false ↦ λ h. ap (λ u. outcomes u (filter mine ns))
            (sym (part_after t n.effect ∙ ap (λ b. cond b (after_part (part_of shards k t) n.effect) (part_of shards k t)) h))
            ∙ share_outcomes (after_part t n.effect) ns
      ] refl

-- every row is in its home's part
pub in_its_part : (shards : ℕ) (t : Tables) (q : RowKey) → map.get (part_of shards (home shards q) t) q ≡ map.get t q
in_its_part shards t q = get-part_of shards (home shards q) t q ∙ ap (λ b. cond b (map.get t q) None) ((Decides-eqb _ _).1 refl)

-- ---- a whole share
pub share_is_part : (shards first k : ℕ) (t : Tables) (batch : List Core)
    → (share_folded shards first t batch k).tables ≡ part_of shards k (batch_folded first t batch).tables
share_is_part shards first k t batch =
    ap (λ f. f.tables) (fold_on_is (part_of shards k t) [] (share shards first batch k))
    ∙ share_tables shards k t (numbered_from first batch)
    ∙ ap (part_of shards k) (sym (ap (λ f. f.tables) (fold_on_is t [] (numbered_from first batch))))

-- ---- a log, batch by batch
pub numbered_append : (first : ℕ) (a b : List Core) → numbered_from first (a ++ b) ≡ numbered_from first a ++ numbered_from (first + length a) b
numbered_append first [] b = ap (λ n. numbered_from n b) (omega arith)
numbered_append first (m ∷ a) b =
    ap (λ ns. number_parts first 1 m.id (parts_of m) ++ ns)
    (numbered_append (first + 1) a b ∙ ap (λ n. numbered_from (first + 1) a ++ numbered_from n b) (omega arith))
    ∙ sym (append_assoc (number_parts first 1 m.id (parts_of m)) (numbered_from (first + 1) a) (numbered_from (first + length (m ∷ a)) b))

pub fold_batch : (log batch : List Core) → fold_of (log ++ batch) ≡ record {
  tables = (batch_folded (1 + length log) (fold_of log).tables batch).tables;
  misfits = (fold_of log).misfits ++ (batch_folded (1 + length log) (fold_of log).tables batch).misfits;
}
fold_batch log batch =
    ap (fold_on before_any) (numbered_append 1 log batch)
    ∙ fold-append step before_any (numbered_from 1 log) (numbered_from (1 + length log) batch)
    ∙ fold_on_is (fold_of log).tables (fold_of log).misfits (numbered_from (1 + length log) batch)
    ∙ (λ i. record { tables = (sym alone i).tables; misfits = (fold_of log).misfits ++ (sym alone i).misfits })
  where
    alone : batch_folded (1 + length log) (fold_of log).tables batch ≡ record {
      tables = tables_after (fold_of log).tables (numbered_from (1 + length log) batch);
      misfits = all_noted (outcomes (fold_of log).tables (numbered_from (1 + length log) batch));
    }
    alone = fold_on_is (fold_of log).tables [] (numbered_from (1 + length log) batch)
