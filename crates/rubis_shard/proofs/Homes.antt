-- One message folded on the shards of a set, home by home.
use Rattle.rubis_shard.proofs.Common.{◌≡◌, ℕ, zero, suc, ◌+◌, ◌<◌, ◌≤◌, List, [], ◌∷◌, length, get_or, set, refl, sym, ap, ◌∙◌, subst, arith, cond}
use Rattle.rubis_shard.proofs.Common.{length-set, ⊎_elim, None, Option, Some, slice_get, Result, Ok, Err, OnOk, cases_lt, append-nil}
use Rattle.rubis_shard.proofs.Common.{slice_get-get_or, slice_get_within, get_or_from_slice_get, home, Id, Effect, Numbered, few_parts, Core, Folded}
use Rattle.rubis_shard.proofs.Common.{fold_on, number_parts, parts_of, share, part_of}
use Rattle.std.specs.Prelude.{OnErr}
use Rattle.std.proofs.lemmas.Bool.{cases_eq}
use Rattle.std.proofs.lemmas.List.{set-get_or}
use Rattle.std.proofs.lemmas.Option.{slice_get_past}
use Rattle.rubis_shard.specs.States.{ShardState, with_parts}
use Rattle.rubis_shard.specs.Holdings.{home_or, shard_of_log, parts_at, AreInOrder, FoldsOn, TakesOn, FoldsFrom, emptied, list_of, NoneAt}
use Rattle.rubis_shard.specs.declared.part_homes.PartHomes.{PartHomes}
use Rattle.rubis_shard.proofs.Folds.{not_equal}
use Rattle.rubis_shard.proofs.Logs.{shard_with_share}
use Rattle.rubis_shard.proofs.Parts.{none_of_all, own_after}
use Rattle.rubis_shard.proofs.Picked.{written_here, written_elsewhere}

set_twice : {X : Type 0} (xs : List X) (i : ℕ) (x y : X) → set (set xs i y) i x ≡ set xs i x
set_twice [] i x y = refl
set_twice (z ∷ xs) zero x y = refl
set_twice (z ∷ xs) (suc i) x y = ap (λ zs. z ∷ zs) (set_twice xs i x y)

-- what was taken out and is put back
pub put_back : {X : Type 0} (xs : List X) (i : ℕ) (x y : X) → slice_get xs i ≡ Some x → set (set xs i y) i x ≡ xs
put_back xs i x y e = set_twice xs i x y ∙ ap (set xs i) (sym (get_or_from_slice_get xs i x x e)) ∙ set-get_or xs i x

-- a shard in the place of one of the same number and set
pub order_set : (ts : List ShardState) (at : ℕ) (x y : ShardState) → AreInOrder ts → slice_get ts at ≡ Some x
    → y.number ≡ x.number → y.shards ≡ x.shards
    → AreInOrder (set ts at y)
order_set ts at x y order there number shards k s e = ⊎_elim
    (λ here.
    let w = order at x there in
    let is : y ≡ s = let a = written_here ts at y (slice_get_within ts at x there) in
    let b = ap (slice_get (set ts at y)) (sym here) in cc in (
      ap (λ (z : ShardState). z.number) (sym is) ∙ number ∙ w.0 ∙ sym here,
      ap (λ (z : ShardState). z.shards) (sym is)
          ∙ shards ∙ w.1 ∙ sym (length-set ts at y),
    ))
    (λ other.
    let l : k < length ts = let a = slice_get_within (set ts at y) k s e in let b = length-set ts at y in omega arith in
    let w = order k s (sym (written_elsewhere ts at k y other l) ∙ e) in (w.0, w.1 ∙ sym (length-set ts at y)))
    (cases_eq k at)

-- with parts folded on
pub folds_on : (ts : List ShardState) (at : ℕ) (x y : ShardState) (ns : List Numbered) → slice_get ts at ≡ Some x
    → y ≡ with_parts x ns → FoldsOn at ns ts (set ts at y)
folds_on ts at x y ns there is = record {
  many = length-set ts at y;
  here = λ s e. written_here ts at y (slice_get_within ts at x there) ∙ ap Some is ∙ (let same : x ≡ s = cc in
      ap (λ z. Some (with_parts z ns)) same);
  others = λ j other. ⊎_elim
      (λ l. written_elsewhere ts at j y other l)
      (λ l. slice_get_past (set ts at y) j (let m = length-set ts at y in omega (arith, l, m))
      ∙ sym (slice_get_past ts j l)) (cases_lt j (length ts));
}

module _ (ts : List ShardState) (at : ℕ) (x : ShardState) (there : slice_get ts at ≡ Some x) where
  abbrev pub hollow : List ShardState
  hollow = set ts at (emptied x)

  inside : at < length ts
  inside = slice_get_within ts at x there

  at_hollow : slice_get hollow at ≡ Some (emptied x)
  at_hollow = written_here ts at (emptied x) inside

  else_hollow : (k : ℕ) → ¬ (k ≡ at) → k < length ts → slice_get hollow k ≡ slice_get ts k
  else_hollow k other l = written_elsewhere ts at k (emptied x) other l

  pub hollow_length : length hollow ≡ length ts
  hollow_length = length-set ts at (emptied x)

  -- a shard without its rows is still the one of its number
  pub hollow_order : AreInOrder ts → AreInOrder hollow
  hollow_order order = order_set ts at x (emptied x) order there refl refl

  module _ (from : ℕ) (ns : List Numbered) (mid : List ShardState) (after : from ≤ at) where
    -- the shards after it are done, so it is as it was left
    pub mid_at : FoldsFrom (at + 1) hollow ns mid → slice_get mid at ≡ Some (emptied x)
    mid_at h = h.before at (omega arith) ∙ at_hollow

    -- and with its own parts folded on, those from `from` on are done
    pub folds_more : (z : ShardState) → FoldsFrom (at + 1) hollow ns mid → z ≡ with_parts x (parts_at (length ts) at ns)
        → ((k : ℕ) → from ≤ k → k < at → parts_at (length ts) k ns ≡ []) → FoldsFrom from ts ns (set mid at z)
    folds_more z h is none = record {
      many = length-set mid at z ∙ many;
      before = λ k l. elsewhere_before k (λ e. omega (arith, e)) (omega arith) (omega (arith, l, inside));
      behind = λ k s l e.
          let within : k < length ts = slice_get_within ts k s e in
          ⊎_elim
          (λ here.
          let same : x ≡ s = let a = ap (slice_get ts) here in cc in
          ap (slice_get (set mid at z)) here ∙ written_here mid at z (let m = many in omega arith)
          ∙ ap Some (is ∙ (λ i. with_parts (same i) (parts_at (length ts) (sym here i) ns))))
          (λ other. ⊎_elim
          (λ low.
          elsewhere_before k other (omega arith) within ∙ e
          ∙ ap (λ ps. Some (with_parts s ps)) (sym (none k l low)))
          (λ high.
          written_elsewhere mid at k z other (let m = many in omega arith)
          ∙ h.behind k s (beyond k other high) (else_hollow k other within ∙ e)
          ∙ ap (λ n. Some (with_parts s (parts_at n k ns))) hollow_length)
          (cases_lt k at))
          (cases_eq k at);
    }
      where
        many : length mid ≡ length ts
        many = h.many ∙ hollow_length

        beyond : (k : ℕ) → ¬ (k ≡ at) → at ≤ k → at + 1 ≤ k
        beyond k other high = ⊎_elim (λ l. absurd (other (omega arith))) (λ l. l) (cases_lt k (at + 1))

        elsewhere_before : (k : ℕ) → ¬ (k ≡ at) → k < at + 1 → k < length ts → slice_get (set mid at z) k ≡ slice_get ts k
        elsewhere_before k other low within =
            written_elsewhere mid at k z other (let m = many in omega arith) ∙ h.before k low ∙ else_hollow k other within

-- ---- a shard that was taken from `at`, and is put back once the shards after it are folded on
module _ (ts mid : List ShardState) (shards at : ℕ) (ns : List Numbered) (x y s : ShardState)
    (there : slice_get ts at ≡ Some x) (order : AreInOrder ts) (many : shards ≡ length ts) (left : y ≡ emptied x)
    (done : FoldsFrom (at + 1) (set ts at y) ns mid) (back : s ≡ get_or mid at s) where
  done_hollow : FoldsFrom (at + 1) (hollow ts at x there) ns mid
  done_hollow = subst (λ z. FoldsFrom (at + 1) (set ts at z) ns mid) left done

  -- what is found there
  found_empty : s ≡ emptied x
  found_empty = back ∙ get_or_from_slice_get mid at (emptied x) s (mid_at ts at x there at ns mid (omega arith) done_hollow)

  own_there : parts_at shards at ns ≡ parts_at x.shards x.number ns
  own_there = let w = order at x there in λ i. parts_at ((many ∙ sym w.1) i) (sym w.0 i) ns

  -- the rows that are put into it are its own
  pub own_back : (old new : Folded) → part_of x.shards x.number x.folded.tables ≡ x.folded.tables → old ≡ x.folded
      → new ≡ fold_on old (parts_at shards at ns) → part_of s.shards s.number new.tables ≡ new.tables
  own_back old new rows was is = subst (λ z. part_of z.shards z.number new.tables ≡ new.tables) (sym found_empty)
      (own_after x.shards x.number old new ns (subst (λ (f : Folded). part_of x.shards x.number f.tables ≡ f.tables) (sym was) rows)
      (is ∙ ap (fold_on old) own_there))

  pub ended_ok : (z : ShardState) (old new : Folded) → z ≡ record { number = s.number; shards = s.shards; folded = new }
      → old ≡ x.folded → new ≡ fold_on old (parts_at shards at ns) → FoldsFrom at ts ns (set mid at z)
  ended_ok z old new put was is = folds_more ts at x there at ns mid (omega arith) z done_hollow
      (put ∙ (λ i. record {
        number = (found_empty i).number;
        shards = (found_empty i).shards;
        folded = (is ∙ (λ j. fold_on (was j) (parts_at (many j) at ns))) i;
      }))
      (λ k low high. absurd (omega (arith, low, high)))

-- ---- a shard that was taken from `at`, and is put back as it was since those after it could not be folded on
pub ended_err : (ts mid : List ShardState) (at : ℕ) (x y s z : ShardState) (f : Folded) → slice_get ts at ≡ Some x → y ≡ emptied x
    → mid ≡ set ts at y → s ≡ get_or mid at s → z ≡ record { number = s.number; shards = s.shards; folded = f } → f ≡ x.folded
    → set mid at z ≡ ts
ended_err ts mid at x y s z f there left same back put is = (λ i. set (same i) at (whole i)) ∙ put_back ts at x y there
  where
    found_empty : s ≡ emptied x
    found_empty = back ∙ get_or_from_slice_get mid at (emptied x) s
        (ap (λ us. slice_get us at) (same ∙ ap (set ts at) left) ∙ at_hollow ts at x there)

    whole : z ≡ x
    whole = put ∙ (λ i. record { number = (found_empty i).number; shards = (found_empty i).shards; folded = is i })

-- ---- from an earlier shard on, where no part has its home in between
pub folds_sooner : (from next shards : ℕ) (old new : List ShardState) (ns : List Numbered) → shards ≡ length old → from ≤ next
    → ((k : ℕ) → from ≤ k → k < next → parts_at shards k ns ≡ []) → FoldsFrom next old ns new → FoldsFrom from old ns new
folds_sooner from next shards old new ns many low none h = record {
  many = h.many;
  before = λ k l. h.before k (omega (arith, l, low));
  behind = λ k s l e. ⊎_elim
      (λ high.
      h.before k high ∙ e
      ∙ ap (λ ps. Some (with_parts s ps)) (sym (ap (λ n. parts_at n k ns) (sym many) ∙ none k l high)))
      (λ high. h.behind k s high e)
      (cases_lt k next);
}

-- ---- all shards
pub folds_none : (next shards : ℕ) (ts : List ShardState) (ns : List Numbered) → shards ≡ length ts → length ts ≤ next
    → ((k : ℕ) → 0 ≤ k → k < next → parts_at shards k ns ≡ []) → FoldsFrom 0 ts ns ts
folds_none next shards ts ns many all none = record {
  many = refl;
  before = λ k l. refl;
  behind = λ k s l e.
      let within : k < length ts = slice_get_within ts k s e in
      e ∙ ap (λ ps. Some (with_parts s ps)) (sym (ap (λ n. parts_at n k ns) (sym many) ∙ none k l (omega arith)));
}

pub order_kept : {E : Type 0} (old new : List ShardState) (ns : List Numbered) (r : Result (Unit {0}) E) → AreInOrder old
    → OnOk r (FoldsFrom 0 old ns new) → OnErr r (new ≡ old) → AreInOrder new
order_kept old new ns (Ok u) order h e k s is =
    let many = h.many in
    let within : k < length old = let a = slice_get_within new k s is in omega arith in
    let was = slice_get-get_or old k s within in
    let w = order k (get_or old k s) was in
    let same : s ≡ with_parts (get_or old k s) (parts_at (length old) k ns) = let a = h.behind k (get_or old k s) (omega arith)
    was in cc in
    (ap (λ (z : ShardState). z.number) same ∙ w.0, ap (λ (z : ShardState). z.shards) same ∙ w.1 ∙ sym many)
order_kept old new ns (Err u) order h e k s is = subst AreInOrder (sym e) order k s is

pub takes_on : (m : Core) (entry : ℕ) (old new : List ShardState) → FoldsFrom 0 old (number_parts entry 1 m.id (parts_of m)) new
    → TakesOn m entry old new
takes_on m entry old new h shards log next holds = record {
  many = h.many ∙ holds.many;
  each = λ k l.
      h.behind k (shard_of_log shards log k) (omega arith) (holds.each k l)
      ∙ ap Some (ap (with_parts (shard_of_log shards log k)) (own k) ∙ shard_with_share shards log (m ∷ []) k);
}
  where
    first : entry ≡ 1 + length log
    first = omega arith

    own : (k : ℕ) → parts_at (length old) k (number_parts entry 1 m.id (parts_of m)) ≡ share shards (1 + length log) (m ∷ []) k
    own k = λ i. parts_at (holds.many i) k (sym (append-nil (number_parts (first i) 1 m.id (parts_of m))) i)

pub takes_on_ok : {E : Type 0} (m : Core) (entry : ℕ) (old new whole : List ShardState) (r : Result (Unit {0}) E)
    → OnOk r (FoldsFrom 0 old (number_parts entry 1 m.id (parts_of m)) new) → new ≡ whole → OnOk r (TakesOn m entry old whole)
takes_on_ok m entry old new whole (Ok u) h e = subst (TakesOn m entry old) e (takes_on m entry old new h)
takes_on_ok m entry old new whole (Err u) h e = tt

-- ---- the last shard that is a home
pub folds_last : (ts : List ShardState) (at from : ℕ) (ns : List Numbered) (x z : ShardState) → slice_get ts at ≡ Some x
    → z ≡ with_parts x (parts_at (length ts) at ns)
    → ((k : ℕ) → from ≤ k → k < at → parts_at (length ts) k ns ≡ [])
    → ((k : ℕ) → at + 1 ≤ k → k < length ts → parts_at (length ts) k ns ≡ []) → from ≤ at → FoldsFrom from ts ns (set ts at z)
folds_last ts at from ns x z there is low_none high_none after = record {
  many = length-set ts at z;
  before = λ k l. written_elsewhere ts at k z (λ e. omega (arith, e)) (omega (arith, l, inside));
  behind = λ k s l e.
      let within : k < length ts = slice_get_within ts k s e in
      ⊎_elim
      (λ here.
      let same : x ≡ s = let a = ap (slice_get ts) here in cc in
      ap (slice_get (set ts at z)) here ∙ written_here ts at z inside
      ∙ ap Some (is ∙ (λ i. with_parts (same i) (parts_at (length ts) (sym here i) ns))))
      (λ other.
      let none : parts_at (length ts) k ns ≡ [] = ⊎_elim (λ low. low_none k l low) (λ high. high_none k (beyond k other high) within) (cases_lt k at) in
      written_elsewhere ts at k z other within ∙ e ∙ ap (λ ps. Some (with_parts s ps)) (sym none))
      (cases_eq k at);
}
  where
    inside : at < length ts
    inside = slice_get_within ts at x there

    beyond : (k : ℕ) → ¬ (k ≡ at) → at ≤ k → at + 1 ≤ k
    beyond k other high = ⊎_elim (λ l. absurd (other (omega arith))) (λ l. l) (cases_lt k (at + 1))

pub folds_last_ok : {E : Type 0} (r : Result (Unit {0}) E) (ts : List ShardState) (at from : ℕ) (ns : List Numbered) (x z : ShardState)
    → slice_get ts at ≡ Some x → OnOk r (z ≡ with_parts x (parts_at (length ts) at ns))
    → ((k : ℕ) → from ≤ k → k < at → parts_at (length ts) k ns ≡ [])
    → ((k : ℕ) → at + 1 ≤ k → k < length ts → parts_at (length ts) k ns ≡ []) → from ≤ at
    → OnOk r (FoldsFrom from ts ns (set ts at z))
folds_last_ok (Ok u) ts at from ns x z there is low high after = folds_last ts at from ns x z there is low high after
folds_last_ok (Err u) ts at from ns x z there is low high after = tt

pub if_ok : {A E : Type 0} (P Q : Type 0) → (P → Q) → (r : Result A E) → OnOk r P → OnOk r Q
if_ok P Q f (Ok x) h = f h
if_ok P Q f (Err x) h = tt

-- ---- one shard alone
pub one_kept : {E : Type 0} (r : Result (Unit {0}) E) (x y : ShardState) (ns : List Numbered) → OnOk r (y ≡ with_parts x ns)
    → OnErr r (y ≡ x) → (y.number ≡ x.number) × (y.shards ≡ x.shards)
one_kept (Ok u) x y ns ok err = (ap (λ (s : ShardState). s.number) ok, ap (λ (s : ShardState). s.shards) ok)
one_kept (Err u) x y ns ok err = (ap (λ (s : ShardState). s.number) err, ap (λ (s : ShardState). s.shards) err)

pub folds_one_ok : {E : Type 0} (r : Result (Unit {0}) E) (ts : List ShardState) (at : ℕ) (x y : ShardState) (ns : List Numbered)
    → AreInOrder ts → slice_get ts at ≡ Some x → OnOk r (y ≡ with_parts x (parts_at x.shards x.number ns))
    → OnOk r (FoldsOn at (parts_at (length ts) at ns) ts (set ts at y))
folds_one_ok (Ok u) ts at x y ns order there is =
    folds_on ts at x y (parts_at (length ts) at ns) there
    (is ∙ (λ i. with_parts x (parts_at ((order at x there).1 i) ((order at x there).0 i) ns)))
folds_one_ok (Err u) ts at x y ns order there is = tt

-- ---- messages of which a shard has no part
apart : (shards k h entry part : ℕ) (id : Id) (o : Option Effect) → k < shards → ¬ (h ≡ k) → h ≡ home_or shards o
    → parts_at shards k (number_parts entry part id (list_of o)) ≡ []
apart shards k h entry part id None within other is = refl
apart shards k h entry part id (Some e) within other is =
    ap (λ b. cond b (record { entry = entry; part = part; id = id; effect = e } ∷ []) [])
    (not_equal (home shards e.key) k (λ same. other (is ∙ same)))

pub none_of_homes : (k : ℕ) (h : PartHomes) → ¬ (h.first ≡ k) → ¬ (h.second ≡ k) → ¬ (h.third ≡ k) → NoneAt k h
none_of_homes k h first second third shards entry m within homes =
    let ps = parts_of m in
    none_of_all shards k entry m.id ps (few_parts m.id m.red m.shadow)
    (apart shards k h.first entry 1 m.id (slice_get ps 0) within first homes.first)
    (apart shards k h.second entry 2 m.id (slice_get ps 1) within second homes.second)
    (apart shards k h.third entry 3 m.id (slice_get ps 2) within third homes.third)
