-- Settling has one outcome, that of the function.
use Rattle.std.proofs.Common.{◌≡◌, ℕ, ◌+◌, ◌≤◌, zero, suc, Bool, true, false, ◌&&◌, Option, Some, None, List, [], ◌∷◌, ◌++◌, length, refl, sym, ap, ◌∙◌, subst}
use Rattle.std.proofs.Common.{inl, inr, ⊎_elim, arith}
use Rattle.std.specs.Prelude.{◌||◌, ◌==◌, nat_le}
use Rattle.std.specs.List.{list_all, range_with_len}
use Rattle.std.proofs.lemmas.Bool.{cases_eq, cases_lt, cond-true, cond-false, eq-eqb, le-leb, and_from, cond_both, false_from_ne_true}
use Rattle.rubis_message.specs.Message.{Message, dep}
use Rattle.rubis_model.specs.Site.{counted, reds, Ready, Has, is_ready, first_ready, behind, settle, Settles}
use Rattle.rubis_model.specs.Site.Settles.{Rest, Release}
use Rattle.rubis_model.proofs.Settling.{ready_is}

-- ---- what is ready passes the test
all_pass : (test : ℕ → Bool) → ((j : ℕ) → test j ≡ true) → (js : List ℕ) → list_all test js ≡ true
all_pass test h [] = refl
all_pass test h (j ∷ js) = and_from (test j) (list_all test js) (h j) (all_pass test h js)

or_right : (x y : Bool) → y ≡ true → (x || y) ≡ true
or_right true y e = refl
or_right false y e = e

or_left : (x y : Bool) → x ≡ true → (x || y) ≡ true
or_left x y e = ap (λ b. b || y) e

dep_passes : (log : List Message) (m : Message) → Ready log m → (j : ℕ) → ((j == m.stamp.id.site) || nat_le (dep m j) (counted j log)) ≡ true
dep_passes log m r j = ⊎_elim (λ e. or_left (j == m.stamp.id.site) (nat_le (dep m j) (counted j log)) (eq-eqb j m.stamp.id.site e))
    (λ n. or_right (j == m.stamp.id.site) (nat_le (dep m j) (counted j log)) (le-leb (dep m j) (counted j log) (r.released j n))) (cases_eq j m.stamp.id.site)

red_passes : (log : List Message) (m : Message) → Ready log m → ((m.stamp.red == 0) || (m.stamp.red == reds log + 1)) ≡ true
red_passes log m r = ⊎_elim (λ l. or_right (m.stamp.red == 0) (m.stamp.red == reds log + 1) (eq-eqb m.stamp.red (reds log + 1) (r.number l)))
    (λ l. or_left (m.stamp.red == 0) (m.stamp.red == reds log + 1) (eq-eqb m.stamp.red 0 (omega arith))) (cases_lt 0 m.stamp.red)

is_ready_from : (log : List Message) (m : Message) → Ready log m → is_ready log m ≡ true
is_ready_from log m r =
    and_from ((m.stamp.id.seq == counted m.stamp.id.site log + 1) && list_all (λ j. (j == m.stamp.id.site) || nat_le (dep m j) (counted j log))
    (range_with_len 0 (length m.stamp.deps))) ((m.stamp.red == 0) || (m.stamp.red == reds log + 1))
    (and_from (m.stamp.id.seq == counted m.stamp.id.site log + 1)
    (list_all (λ j. (j == m.stamp.id.site) || nat_le (dep m j) (counted j log)) (range_with_len 0 (length m.stamp.deps)))
    (eq-eqb m.stamp.id.seq (counted m.stamp.id.site log + 1) r.next)
    (all_pass (λ j. (j == m.stamp.id.site) || nat_le (dep m j) (counted j log)) (dep_passes log m r) (range_with_len 0 (length m.stamp.deps))))
    (red_passes log m r)

not_ready : (log : List Message) (m : Message) → (Ready log m → ⊥) → is_ready log m ≡ false
not_ready log m n = false_from_ne_true (is_ready log m) (λ e. n (ready_is log m e))

-- ---- the first that is ready
none_first : (log waiting : List Message) → ((x : Message) → Has x waiting → Ready log x → ⊥) → first_ready log waiting ≡ None
none_first log [] h = refl
none_first log (m ∷ rest) h =
    cond-false (is_ready log m) (Some (m, rest)) (behind m (first_ready log rest)) (not_ready log m (h m (inl refl)))
    ∙ ap (behind m) (none_first log rest (λ x k. h x (inr k)))

this_first : (log front back : List Message) (m : Message) → ((x : Message) → Has x front → Ready log x → ⊥) → Ready log m
    → first_ready log (front ++ m ∷ back) ≡ Some (m, front ++ back)
this_first log [] back m h r = cond-true (is_ready log m) (Some (m, back)) (behind m (first_ready log back)) (is_ready_from log m r)
this_first log (x ∷ front) back m h r =
    cond-false (is_ready log x) (Some (x, front ++ m ∷ back)) (behind x (first_ready log (front ++ m ∷ back))) (not_ready log x (h x (inl refl)))
    ∙ ap (behind x) (this_first log front back m (λ y k. h y (inr k)) r)

shorter : (front back : List Message) (m : Message) → length (front ++ m ∷ back) ≡ suc (length (front ++ back))
shorter [] back m = refl
shorter (x ∷ front) back m = ap suc (shorter front back m)

next : ℕ → List Message → List Message → Option (Message × List Message) → List Message × List Message
next n log waiting o = elim o [ None ↦ (log, waiting) | Some p ↦ settle n (log ++ p.0 ∷ []) p.1 ]

settle_none : (n : ℕ) (log waiting : List Message) → first_ready log waiting ≡ None → settle n log waiting ≡ (log, waiting)
unfolding next
settle_none zero log waiting e = refl
settle_none (suc n) log waiting e = ap (next n log waiting) e

settle_some : (n : ℕ) (log waiting : List Message) (p : Message × List Message) → first_ready log waiting ≡ Some p
    → settle (suc n) log waiting ≡ settle n (log ++ p.0 ∷ []) p.1
unfolding next
settle_some n log waiting p e = ap (next n log waiting) e

-- what the relation gives is what the function gives, so there is one answer
pub settles_one : (log waiting log' waiting' : List Message) → Settles log waiting log' waiting'
    → settle (length waiting) log waiting ≡ (log', waiting')
settles_one _ _ _ _ (Rest log waiting h) = settle_none (length waiting) log waiting (none_first log waiting h)
settles_one _ _ _ _ (Release log front back log' waiting' m h r s) =
    ap (λ n. settle n log (front ++ m ∷ back)) (shorter front back m)
    ∙ settle_some (length (front ++ back)) log (front ++ m ∷ back) (m, front ++ back) (this_first log front back m h r)
    ∙ settles_one (log ++ m ∷ []) (front ++ back) log' waiting' s

-- ---- and the function gives what the relation allows
Split : List Message → List Message → Option (Message × List Message) → Type 0
Split log waiting None = (x : Message) → Has x waiting → Ready log x → ⊥
Split log waiting (Some p) =
    (front : List Message) × (back : List Message) × (waiting ≡ front ++ p.0 ∷ back) × (p.1 ≡ front ++ back) × ((x : Message) → Has x front → Ready log x → ⊥)
    × (Ready log p.0)

none_more : (log rest : List Message) (m : Message) → (Ready log m → ⊥) → ((x : Message) → Has x rest → Ready log x → ⊥) → (x : Message)
    → Has x (m ∷ rest) → Ready log x → ⊥
none_more log rest m n h x (inl e) r = n (subst (Ready log) e r)
none_more log rest m n h x (inr k) r = h x k r

split_behind : (log rest : List Message) (m : Message) (o : Option (Message × List Message)) → (Ready log m → ⊥) → Split log rest o
    → Split log (m ∷ rest) (behind m o)
unfolding Split
split_behind log rest m None n h = none_more log rest m n h
split_behind log rest m (Some p) n h = (m ∷ h.0, h.1, ap (λ q. m ∷ q) h.2, ap (λ q. m ∷ q) h.3, none_more log h.0 m n h.4, h.5)

split_this : (log rest : List Message) (m : Message) → is_ready log m ≡ true → Split log (m ∷ rest) (Some (m, rest))
unfolding Split
split_this log rest m e = ([], rest, refl, refl, (λ x h. absurd h), ready_is log m e)

unready : (log : List Message) (m : Message) → is_ready log m ≡ false → Ready log m → ⊥
unready log m e r = let k = is_ready_from log m r in absurd (cc)

split_first : (log waiting : List Message) → Split log waiting (first_ready log waiting)
unfolding Split
split_first log [] = λ x h. absurd h
split_first log (m ∷ rest) =
    cond_both (is_ready log m) (Some (m, rest)) (behind m (first_ready log rest)) (Split log (m ∷ rest)) (split_this log rest m)
    (λ e. split_behind log rest m (first_ready log rest) (unready log m e) (split_first log rest))

settles_next : (n : ℕ) → ((log waiting : List Message) → length waiting ≤ n → Settles log waiting (settle n log waiting).0 (settle n log waiting).1)
    → (log waiting : List Message) (o : Option (Message × List Message)) → Split log waiting o → length waiting ≤ suc n →
    Settles log waiting (next n log waiting o).0 (next n log waiting o).1
unfolding Split next
settles_next n rec log waiting None h l = Rest log waiting h
settles_next n rec log waiting (Some p) h l =
    let e : suc (length (h.0 ++ h.1)) ≡ length waiting = sym (ap length h.2 ∙ shorter h.0 h.1 p.0) in
    let s : Settles (log ++ p.0 ∷ []) (h.0 ++ h.1) (settle n (log ++ p.0 ∷ []) (h.0 ++ h.1)).0 (settle n (log ++ p.0 ∷ []) (h.0 ++ h.1)).1 =
    rec (log ++ p.0 ∷ []) (h.0 ++ h.1) (omega arith) in
    subst (λ w. Settles log w (settle n (log ++ p.0 ∷ []) p.1).0 (settle n (log ++ p.0 ∷ []) p.1).1) (sym h.2)
    (subst (λ q. Settles log (h.0 ++ p.0 ∷ h.1) (settle n (log ++ p.0 ∷ []) q).0 (settle n (log ++ p.0 ∷ []) q).1) (sym h.3)
    (Release log h.0 h.1 (settle n (log ++ p.0 ∷ []) (h.0 ++ h.1)).0 (settle n (log ++ p.0 ∷ []) (h.0 ++ h.1)).1 p.0 h.4 h.5 s))

pub settle_settles : (n : ℕ) (log waiting : List Message) → length waiting ≤ n → Settles log waiting (settle n log waiting).0 (settle n log waiting).1
unfolding next
settle_settles zero log [] l = Rest log [] (λ x h. absurd h)
settle_settles zero log (m ∷ rest) l = absurd (omega arith)
settle_settles (suc n) log waiting l = settles_next n (settle_settles n) log waiting (first_ready log waiting) (split_first log waiting) l
