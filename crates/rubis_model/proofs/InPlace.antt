-- Misfits stand in the order of their places, and that fixes the list: it is the only list in that order with the
-- shards' misfits and no others.
use Rattle.std.proofs.Common.{ℕ, ◌≡◌, ◌+◌, ◌≤◌, ◌<◌, List, [], ◌∷◌, ◌++◌, Bool, true, false, cond, refl, sym, ap, ◌∙◌, subst, arith, Option, Some, None, inl}
use Rattle.std.proofs.Common.{inr, ⊎_elim}
use Rattle.std.specs.Prelude.{◌⊎◌, ◌↔◌, ⊤, nat_eq, filter}
use Rattle.std.proofs.lemmas.Bool.Decides.{Decides-eqb}
use Rattle.std.proofs.lemmas.Nat.{mod_below}
use Rattle.rubis_schema.specs.Keys.{home}
use Rattle.rubis_schema.specs.Tables.{Tables}
use Rattle.rubis_schema.specs.declared.ids.Id.{Id}
use Rattle.rubis_schema.specs.declared.row_keys.RowKey.{RowKey}
use Rattle.rubis_schema.specs.declared.row_keys.RowKey.TheVariants as key
use Rattle.rubis_shadow.specs.declared.keyed_change.Effect.{Effect}
use Rattle.rubis_shadow.specs.declared.changes.MisfitKind.{MisfitKind}
use Rattle.rubis_shadow.specs.declared.numbered.Numbered.{Numbered}
use Rattle.rubis_shadow.specs.declared.numbered.Misfit.{Misfit}
use Rattle.rubis_shadow.specs.Changes.{after_part, misfit_of}
use Rattle.rubis_model.specs.Log.{Core, noted, number_parts, numbered_from, parts_of, share}
use Rattle.rubis_model.specs.Site.{Has}
use Rattle.rubis_model.specs.Shares.{part_of, batch_folded, share_folded, IsBefore, InPlace}
use Rattle.rubis_model.proofs.Shares.{outcomes, all_noted, fold_on_is, share_outcomes}
use Rattle.rubis_model.proofs.Settling.{has_left, has_right, has_append}

-- ---- lists in a strict order
module _ {X : Type 0} (Before : X → X → Type 0) (apart : (x y : X) → Before x y → Before y x → ⊥) where
  abbrev pub Rising : List X → Type 0
  Rising [] = ⊤
  Rising (x ∷ xs) = ((y : X) → Has y xs → Before x y) × Rising xs

  -- the first of two such lists
  first_same : (x y : X) (xs ys : List X) → Rising (x ∷ xs) → Rising (y ∷ ys) → Has x (y ∷ ys) → Has y (x ∷ xs) → x ≡ y
  first_same x y xs ys h k (inl e) m = e
  first_same x y xs ys h k (inr l) (inl e) = sym e
  first_same x y xs ys h k (inr l) (inr m) = absurd (apart x y (h.0 y m) (k.0 x l))

  rest_half : (x : X) (xs ys : List X) → Rising (x ∷ xs) → ((z : X) → Has z (x ∷ xs) → Has z (x ∷ ys)) → (z : X) → Has z xs → Has z ys
  rest_half x xs ys h s z m = ⊎_elim (λ e. let b = subst (Before x) e (h.0 z m) in absurd (apart x x b b)) (λ r. r) (s z (inr m))

  -- the members fix a rising list
  pub same_rising : (xs ys : List X) → Rising xs → Rising ys → ((z : X) → Has z xs ↔ Has z ys) → xs ≡ ys
  same_rising [] [] r q s = refl
  same_rising [] (y ∷ ys) r q s = absurd ((s y).1 (inl refl))
  same_rising (x ∷ xs) [] r q s = absurd ((s x).0 (inl refl))
  same_rising (x ∷ xs) (y ∷ ys) r q s =
      let e = first_same x y xs ys r q ((s x).0 (inl refl)) ((s y).1 (inl refl)) in
      let k : Rising (x ∷ ys) = subst (λ w. Rising (w ∷ ys)) (sym e) q in
      let there : (z : X) → Has z (x ∷ xs) → Has z (x ∷ ys) = λ z m. ⊎_elim (λ p. inl (p ∙ sym e)) (λ p. inr p) ((s z).0 m) in
      let back : (z : X) → Has z (x ∷ ys) → Has z (x ∷ xs) = λ z m. (s z).1 (⊎_elim (λ p. inl (p ∙ e)) (λ p. inr p) m) in
      (λ i. e i ∷ same_rising xs ys r.1 q.1 (λ z. (rest_half x xs ys r there z, rest_half x ys xs k back z)) i)

-- ---- a misfit of the whole is one of its part's home, and the other way round

abbrev home_of : ℕ → Numbered × Option MisfitKind → ℕ
home_of shards o = home shards o.0.effect.key

pub home_within : (shards : ℕ) (q : RowKey) → 0 < shards → home shards q < shards
unfolding home
home_within shards (key.User i) l = mod_below _ shards l
home_within shards (key.Item i) l = mod_below _ shards l
home_within shards (key.Bid i) l = mod_below _ shards l
home_within shards (key.Purchase i) l = mod_below _ shards l
home_within shards (key.Comment i) l = mod_below _ shards l
home_within shards (key.Nick n) l = mod_below _ shards l
home_within shards (key.Cat k) l = mod_below _ shards l

noted_part : (shards k : ℕ) (os : List (Numbered × Option MisfitKind)) (z : Misfit) → Has z (all_noted (filter (λ o. nat_eq (home_of shards o) k) os))
    → Has z (all_noted os)
noted_part shards k [] z m = m
noted_part shards k (o ∷ os) z m = at (nat_eq (home_of shards o) k) m (noted_part shards k os z)
  where
    at : (b : Bool) → Has z (all_noted (cond b (o ∷ filter (λ o. nat_eq (home_of shards o) k) os) (filter (λ o. nat_eq (home_of shards o) k) os)))
        → (Has z (all_noted (filter (λ o. nat_eq (home_of shards o) k) os)) → Has z (all_noted os)) → Has z (noted o.0 o.1 ++ all_noted os)
    at true m ih =
        ⊎_elim (λ l. has_left z (noted o.0 o.1) (all_noted os) l) (λ r. has_right z (noted o.0 o.1) (all_noted os) (ih r))
        (has_append z (noted o.0 o.1) (all_noted (filter (λ o. nat_eq (home_of shards o) k) os)) m)
    at false m ih = has_right z (noted o.0 o.1) (all_noted os) (ih m)

more_noted : (shards k : ℕ) (o : Numbered × Option MisfitKind) (os : List (Numbered × Option MisfitKind)) (z : Misfit)
    → Has z (all_noted (filter (λ o. nat_eq (home_of shards o) k) os)) → Has z (all_noted (filter (λ o. nat_eq (home_of shards o) k) (o ∷ os)))
more_noted shards k o os z m = at (nat_eq (home_of shards o) k)
  where
    at : (b : Bool) → Has z (all_noted (cond b (o ∷ filter (λ o. nat_eq (home_of shards o) k) os) (filter (λ o. nat_eq (home_of shards o) k) os)))
    at true = has_right z (noted o.0 o.1) _ m
    at false = m

noted_home : (shards : ℕ) → 0 < shards → (os : List (Numbered × Option MisfitKind)) (z : Misfit) → Has z (all_noted os)
    → (k : ℕ) × (k < shards) × Has z (all_noted (filter (λ o. nat_eq (home_of shards o) k) os))
noted_home shards some [] z m = absurd m
noted_home shards some (o ∷ os) z m = ⊎_elim here (λ r. let w = noted_home shards some os z r in (w.0, w.1, more_noted shards w.0 o os z w.2))
    (has_append z (noted o.0 o.1) (all_noted os) m)
  where
    here : Has z (noted o.0 o.1) → (k : ℕ) × (k < shards) × Has z (all_noted (filter (λ o. nat_eq (home_of shards o) k) (o ∷ os)))
    here l = (
      home_of shards o,
      home_within shards o.0.effect.key some,
      subst (λ b. Has z (all_noted
          (cond b (o ∷ filter (λ p. nat_eq (home_of shards p) (home_of shards o)) os) (filter (λ p. nat_eq (home_of shards p) (home_of shards o)) os))))
          (sym ((Decides-eqb _ _).1 refl)) (has_left z (noted o.0 o.1) _ l),
    )

-- ---- the places of a batch's parts rise

apart_places : (x y : Misfit) → IsBefore x y → IsBefore y x → ⊥
apart_places x y (inl a) (inl b) = omega (arith, a, b)
apart_places x y (inl a) (inr b) = let e = b.0 in omega (arith, a, e)
apart_places x y (inr a) (inl b) = let e = a.0 in omega (arith, b, e)
apart_places x y (inr a) (inr b) = let l = a.1 in let k = b.1 in omega (arith, l, k)

-- of an earlier message, or of an earlier part of the same one
abbrev PartBefore : Numbered → Numbered → Type 0
PartBefore x y = (x.entry < y.entry) ⊎ ((x.entry ≡ y.entry) × (x.part < y.part))

abbrev PartsInPlace : List Numbered → Type 0
PartsInPlace [] = ⊤
PartsInPlace (x ∷ xs) = ((y : Numbered) → Has y xs → PartBefore x y) × PartsInPlace xs

part_place : (entry part : ℕ) (id : Id) (es : List Effect) (y : Numbered) → Has y (number_parts entry part id es)
    → (y.entry ≡ entry) × (part ≤ y.part)
part_place entry part id [] y h = absurd h
part_place entry part id (e ∷ es) y (inl p) = (ap (λ (n : Numbered). n.entry) p, (let q = ap (λ (n : Numbered). n.part) p in omega (arith, q)))
part_place entry part id (e ∷ es) y (inr h) = let w = part_place entry (part + 1) id es y h in (w.0, (let l = w.1 in omega (arith, l)))

later_place : (first : ℕ) (ms : List Core) (y : Numbered) → Has y (numbered_from first ms) → first ≤ y.entry
later_place first [] y h = absurd h
later_place first (m ∷ ms) y h = ⊎_elim
    (λ k. let e = (part_place first 1 m.id (parts_of m) y k).0 in omega (arith, e))
    (λ k. let l = later_place (first + 1) ms y k in omega (arith, l))
    (has_append y (number_parts first 1 m.id (parts_of m)) (numbered_from (first + 1) ms) h)

parts_rise : (entry part : ℕ) (id : Id) (es : List Effect) (rest : List Numbered) → ((y : Numbered) → Has y rest → entry + 1 ≤ y.entry)
    → PartsInPlace rest → PartsInPlace (number_parts entry part id es ++ rest)
parts_rise entry part id [] rest l r = r
parts_rise entry part id (e ∷ es) rest l r = (
  (λ y h. ⊎_elim
      (λ k. let w = part_place entry (part + 1) id es y k in inr (sym w.0, (let l = w.1 in omega (arith, l))))
      (λ k. inl (let q = l y k in omega (arith, q)))
      (has_append y (number_parts entry (part + 1) id es) rest h)),
  parts_rise entry (part + 1) id es rest l r,
)

numbered_rise : (first : ℕ) (ms : List Core) → PartsInPlace (numbered_from first ms)
numbered_rise first [] = tt
numbered_rise first (m ∷ ms) =
    parts_rise first 1 m.id (parts_of m) (numbered_from (first + 1) ms) (later_place (first + 1) ms) (numbered_rise (first + 1) ms)

-- whose misfit it is
noted_of : (t : Tables) (ns : List Numbered) (z : Misfit) → Has z (all_noted (outcomes t ns))
    → (n : Numbered) × (Has n ns) × (z.entry ≡ n.entry) × (z.part ≡ n.part)
noted_of t [] z h = absurd h
noted_of t (n ∷ ns) z h = ⊎_elim (here (misfit_of t n.effect)) (λ k. let w = noted_of (after_part t n.effect) ns z k in (w.0, inr w.1, w.2, w.3))
    (has_append z (noted n (misfit_of t n.effect)) (all_noted (outcomes (after_part t n.effect) ns)) h)
  where
    here : (o : Option MisfitKind) → Has z (noted n o) → (n' : Numbered) × (Has n' (n ∷ ns)) × (z.entry ≡ n'.entry) × (z.part ≡ n'.part)
    here None m = absurd m
    here (Some kind) (inl e) = (n, inl refl, ap (λ (q : Misfit). q.entry) e, ap (λ (q : Misfit). q.part) e)
    here (Some kind) (inr m) = absurd m

misfits_rise : (t : Tables) (ns : List Numbered) → PartsInPlace ns → InPlace (all_noted (outcomes t ns))
misfits_rise t [] r = tt
misfits_rise t (n ∷ ns) r = at (misfit_of t n.effect) (misfits_rise (after_part t n.effect) ns r.1)
  where
    later : (kind : MisfitKind) (z : Misfit) → Has z (all_noted (outcomes (after_part t n.effect) ns))
        → IsBefore (record { entry = n.entry; part = n.part; id = n.id; kind = kind }) z
    later kind z h =
        let w = noted_of (after_part t n.effect) ns z h in
        ⊎_elim (λ l. inl (let e = w.2 in omega (arith, l, e))) (λ p. inr (p.0 ∙ sym w.2, (let l = p.1 in let e = w.3 in omega (arith, l, e)))) (r.0 w.0 w.1)

    at : (o : Option MisfitKind) → InPlace (all_noted (outcomes (after_part t n.effect) ns))
        → InPlace (noted n o ++ all_noted (outcomes (after_part t n.effect) ns))
    at None k = k
    at (Some kind) k = (later kind, k)

-- ---- the misfits of a batch are in place, and no other such list has the shards' misfits and no others
batch_misfits : (first : ℕ) (t : Tables) (batch : List Core)
    → (batch_folded first t batch).misfits ≡ all_noted (outcomes t (numbered_from first batch))
batch_misfits first t batch = ap (λ f. f.misfits) (fold_on_is t [] (numbered_from first batch))

share_misfits : (shards first : ℕ) (t : Tables) (batch : List Core) (k : ℕ)
    → (share_folded shards first t batch k).misfits ≡ all_noted (filter (λ o. nat_eq (home_of shards o) k) (outcomes t (numbered_from first batch)))
share_misfits shards first t batch k =
    ap (λ f. f.misfits) (fold_on_is (part_of shards k t) [] (share shards first batch k))
    ∙ ap all_noted (share_outcomes shards k t (numbered_from first batch))

pub in_place : (first : ℕ) (t : Tables) (batch : List Core) → InPlace (batch_folded first t batch).misfits
in_place first t batch = subst InPlace (sym (batch_misfits first t batch)) (misfits_rise t (numbered_from first batch) (numbered_rise first batch))

pub misfits_in_place : (shards first : ℕ) (t : Tables) (batch : List Core) (all : List Misfit) → 0 < shards → InPlace all →
    ((z : Misfit) → Has z all ↔ ((k : ℕ) × (k < shards) × Has z (share_folded shards first t batch k).misfits)) → all ≡ (batch_folded first t batch).misfits
misfits_in_place shards first t batch all some r s =
    let whole = outcomes t (numbered_from first batch) in
    same_rising IsBefore apart_places all (all_noted whole) r (misfits_rise t (numbered_from first batch) (numbered_rise first batch))
    (λ z. (
      (λ m. let w = (s z).0 m in noted_part shards w.0 whole z (subst (Has z) (share_misfits shards first t batch w.0) w.2)),
      (λ m. let w = noted_home shards some whole z m in (s z).1 (w.0, w.1, subst (Has z) (sym (share_misfits shards first t batch w.0)) w.2)),
    ))
    ∙ sym (batch_misfits first t batch)
