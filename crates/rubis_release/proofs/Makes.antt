-- The message that a site makes.
use Rattle.rubis_release.proofs.Common.{◌≡◌, ◌≢◌, ℕ, ◌+◌, ◌<◌, ◌≤◌, ◌==◌, Bool, true, false, cond, Option, Some, None, List, [], ◌∷◌, ◌++◌, length}
use Rattle.rubis_release.proofs.Common.{refl, sym, ap, ◌∙◌, subst, inl, inr, ⊎_elim, arith, nat_lt, ◌⊎◌, leb-false, lt-ltb, cases_lt, get_or_past}
use Rattle.rubis_release.proofs.Common.{InLimits, is_red, Stamp, Message, IsMessage, sites_of, dep, counted, Ready, Settles, Place, Replica, counts}
use Rattle.rubis_release.proofs.Common.{made, after_made, red_for, issued_after, is_current, is_full, settles_one}
use Rattle.std.specs.Prelude.{unwrap_or, option_map}
use Rattle.std.specs.Option.{option_map_or}
use Rattle.std.proofs.lemmas.Bool.{eqb-true}
use Rattle.std.proofs.lemmas.List.Elements.{All-from_get_or}
use Rattle.rubis_schema.specs.Ids.{IsId}
use Rattle.rubis_shadow.specs.Shadows.{colour_of}
use Rattle.rubis_shadow.specs.declared.shadows.Shadow.{Shadow}
use Rattle.rubis_shadow.specs.declared.shadows.Colour.TheVariants.{Red, Blue}
use Rattle.rubis_model.specs.Site.{reds, settle}
use mathlib.Core.Bool.{true≢false}
use Rattle.rubis_release.specs.Release.{IsAmong, AreKept, Intake, IsIntake, IsUpToDate}
use Rattle.rubis_release.proofs.Keeping.{length_counts, counts_at, settling_keeps, making_keeps}
use Rattle.rubis_release.proofs.Intakes.{among_is}

at_most_one : (b : Bool) → cond {A = ℕ} b 1 0 ≤ 1
at_most_one true = omega arith
at_most_one false = omega arith

pub counted_few : (j : ℕ) (log : List Message) → counted j log ≤ length log
counted_few j [] = omega arith
counted_few j (m ∷ log) = let l = counted_few j log in let o = at_most_one (m.stamp.id.site == j) in omega (arith, l, o)

pub reds_few : (log : List Message) → reds log ≤ length log
reds_few [] = omega arith
reds_few (m ∷ log) = let l = reds_few log in let o = at_most_one (nat_lt 0 m.stamp.red) in omega (arith, l, o)

pub room_left : (i : Intake) → IsIntake i → is_full i.place.keep i.state ≡ false → length i.state.log + length i.state.waiting < i.place.keep
room_left i h e = leb-false i.place.keep (length i.state.log + length i.state.waiting) e

-- ---- red numbers
red_by : (b : Bool) → cond b Red Blue ≡ Red → b ≡ true
red_by true e = refl
red_by false e = absurd cc

red_colour : (x : Shadow) → colour_of x ≡ Red → is_red x ≡ true
red_colour x e = red_by (is_red x) e

blue_by : (b : Bool) → cond b Red Blue ≡ Blue → b ≡ false
blue_by true e = absurd cc
blue_by false e = refl

blue_colour : (x : Shadow) → colour_of x ≡ Blue → is_red x ≡ false
blue_colour x e = blue_by (is_red x) e

current_held : (n : ℕ) (held : Option ℕ) → option_map_or (λ issued. n == issued) held false ≡ true → held ≡ Some n
current_held n None e = absurd (true≢false (sym e))
current_held n (Some k) e = ap Some (sym (eqb-true n k e))

pub held_is : (s : Replica) → is_current s ≡ true → s.held ≡ Some (reds s.log)
held_is s e = current_held (reds s.log) s.held e

pub red_number : (s : Replica) (x : Shadow) → (is_red x ≡ true → is_current s ≡ true) → colour_of x ≡ Red → reds s.log + 1 ≡ red_for x s.held
red_number s x right e = let r = red_colour x e in λ j. cond (sym r j) (unwrap_or (sym (held_is s (right r)) j) 0 + 1) 0

pub blue_number : (s : Replica) (x : Shadow) → colour_of x ≡ Blue → 0 ≡ red_for x s.held
blue_number s x e = let r = blue_colour x e in λ j. cond (sym r j) (unwrap_or s.held 0 + 1) 0

-- the number as it is in both cases
red_cases : (s : Replica) (x : Shadow) → (is_red x ≡ true → is_current s ≡ true) →
    ((is_red x ≡ true) × (red_for x s.held ≡ reds s.log + 1) × (issued_after x s.held ≡ Some (reds s.log + 1)))
    ⊎ ((is_red x ≡ false) × (red_for x s.held ≡ 0) × (issued_after x s.held ≡ s.held))
red_cases s x right = go (is_red x) refl
  where
    go : (b : Bool) → is_red x ≡ b → ((is_red x ≡ true) × (red_for x s.held ≡ reds s.log + 1) × (issued_after x s.held ≡ Some (reds s.log + 1)))
        ⊎ ((is_red x ≡ false) × (red_for x s.held ≡ 0) × (issued_after x s.held ≡ s.held))
    go true r = inl (
      r,
      (λ j. cond (r j) (unwrap_or (held_is s (right r) j) 0 + 1) 0),
      (λ j. cond (r j) (option_map (λ issued. issued + 1) (held_is s (right r) j)) (held_is s (right r) j)),
    )
    go false r = inr (r, (λ j. cond (r j) (unwrap_or s.held 0 + 1) 0), (λ j. cond (r j) (option_map (λ issued. issued + 1) s.held) s.held))

-- what the token has issued afterwards
pub held_for_blue : (s : Replica) (x : Shadow) (red : ℕ) → (is_red x ≡ true → is_current s ≡ true) → red ≡ red_for x s.held → red ≡ 0 → s.held
    ≡ issued_after x s.held
held_for_blue s x red right e z = ⊎_elim (λ r. let a = r.1 in absurd (omega (arith, e, z, a))) (λ b. sym b.2) (red_cases s x right)

pub held_for_red : (s : Replica) (x : Shadow) (red : ℕ) → (is_red x ≡ true → is_current s ≡ true) → red ≡ red_for x s.held → red ≢ 0 → Some red
    ≡ issued_after x s.held
held_for_red s x red right e z = ⊎_elim (λ r. ap Some (e ∙ r.1) ∙ sym r.2) (λ b. absurd (z (e ∙ b.1))) (red_cases s x right)

pub built : (p : Place) (s : Replica) (x : Shadow) (count red : ℕ) (deps : List ℕ) → count ≡ counted p.site s.log → deps ≡ counts p.sites s.log → red
    ≡ red_for x s.held
    → record { id = record { site = p.site; seq = count + 1 }; red = red; deps = deps } ≡ (made p s x).stamp
built p s x count red deps c d r = λ j. record { id = record { site = p.site; seq = c j + 1 }; red = r j; deps = d j }

pub made_dep : (i : Intake) (x : Shadow) (j : ℕ) → j < i.place.sites → dep (made i.place i.state x) j ≡ counted j i.state.log
made_dep i x j l = counts_at i.place.sites i.state.log j l

made_id : (i : Intake) (x : Shadow) → IsIntake i → is_full i.place.keep i.state ≡ false → IsId i.place.sites (made i.place i.state x).stamp.id
made_id i x h full = record {
  site = h.site;
  positive = omega arith;
  small = let l = room_left i h full in let c = counted_few i.place.site i.state.log in let k = h.keep in omega (arith, l, c, k);
}

pub made_is_ready : (i : Intake) (x : Shadow) → (is_red x ≡ true → is_current i.state ≡ true) → Ready i.state.log (made i.place i.state x)
made_is_ready i x right = record {
  next = refl;
  released = λ j n. ⊎_elim (λ l. let e = made_dep i x j l in omega (arith, e))
      (λ l. let e = get_or_past (counts i.place.sites i.state.log) j 0 (let z = length_counts i.place.sites i.state.log in omega (arith, z, l)) in
      omega (arith, e)) (cases_lt j i.place.sites);
  number = λ l. ⊎_elim (λ r. r.1) (λ b. let z = b.1 in absurd (omega (arith, z, l))) (red_cases i.state x right);
}

pub made_is_message : (i : Intake) (x : Shadow) → IsIntake i → is_full i.place.keep i.state ≡ false → (is_red x ≡ true → is_current i.state ≡ true) →
    InLimits i.place.sites x → IsMessage (made i.place i.state x)
made_is_message i x h full right limits = record {
  sites = let e = size in let k = h.sites in omega (arith, e, k);
  id = subst (λ n. IsId n (made i.place i.state x).stamp.id) (sym size) (made_id i x h full);
  own = ap (λ n. n + 1) (sym (made_dep i x i.place.site h.site));
  counts = All-from_get_or (λ n. n ≤ 1000000) (counts i.place.sites i.state.log) 0
      (λ j l. let e = counts_at i.place.sites i.state.log j (let z = size in omega (arith, z, l)) in let c = counted_few j i.state.log in let k = h.keep in
      let r = room_left i h full in omega (arith, e, c, k, r));
  red = ⊎_elim (λ r. let e = r.1 in let c = reds_few i.state.log in let k = h.keep in let l = room_left i h full in omega (arith, e, c, k, l))
      (λ b. let e = b.1 in omega (arith, e)) (red_cases i.state x right);
  colour = ⊎_elim (λ r. r.0 ∙ sym (ap (nat_lt 0) r.1 ∙ lt-ltb 0 (reds i.state.log + 1) (omega arith))) (λ b. b.0 ∙ sym (ap (nat_lt 0) b.1))
      (red_cases i.state x right);
  shadow = subst (λ n. InLimits n x) (sym size) limits;
}
  where
    size : sites_of (made i.place i.state x) ≡ i.place.sites
    size = length_counts i.place.sites i.state.log

pub made_among : (i : Intake) (x : Shadow) → IsIntake i → is_full i.place.keep i.state ≡ false → (is_red x ≡ true → is_current i.state ≡ true) →
    InLimits i.place.sites x → IsAmong i.place.sites (made i.place i.state x)
made_among i x h full right limits = among_is i.place.sites (made i.place i.state x) (made_is_message i x h full right limits)
    (length_counts i.place.sites i.state.log)

pub made_kept : (i : Intake) (n : ℕ) (x : Shadow) (m : Message) (log waiting : List Message) → IsUpToDate i n → is_full i.place.keep i.state ≡ false →
    (is_red x ≡ true → is_current i.state ≡ true) → InLimits i.place.sites x → m ≡ made i.place i.state x
    → Settles (i.state.log ++ m ∷ []) i.state.waiting log waiting → AreKept i.place log waiting
made_kept i n x m log waiting h full right limits e s =
    settling_keeps i.place (i.state.log ++ made i.place i.state x ∷ []) i.state.waiting log waiting
    (making_keeps i.place i.state.log i.state.waiting (made i.place i.state x) h.conditions.kept (room_left i h.conditions full) refl
    (made_among i x h.conditions full right limits) (made_is_ready i x right))
    (subst (λ u. Settles (i.state.log ++ u ∷ []) i.state.waiting log waiting) e s)

pub made_is : (p : Place) (s : Replica) (x : Shadow) (m : Message) (log waiting : List Message) (held : Option ℕ) → m ≡ made p s x → held
    ≡ issued_after x s.held → Settles (s.log ++ m ∷ []) s.waiting log waiting
    → record { log = log; waiting = waiting; held = held; last = s.last } ≡ after_made p s x
made_is p s x m log waiting held e f h =
    let one : settle (length s.waiting) (s.log ++ made p s x ∷ []) s.waiting
    ≡ (log, waiting) = settles_one (s.log ++ made p s x ∷ []) s.waiting log waiting (subst (λ u. Settles (s.log ++ u ∷ []) s.waiting log waiting) e h) in
    λ j. record { log = (sym one j).0; waiting = (sym one j).1; held = f j; last = s.last }

-- the message that was built of that stamp
pub made_of : (i i' : Intake) (x : Shadow) (s : Stamp) (m : Message) → i ≡ i' → s ≡ (made i'.place i'.state x).stamp → m ≡ record { stamp = s; shadow = x } → m
    ≡ made i.place i.state x
made_of i i' x s m v e f = f ∙ (λ j. record { stamp = (e ∙ ap (λ (k : Intake). (made k.place k.state x).stamp) (sym v)) j; shadow = x })
