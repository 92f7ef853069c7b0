-- A blue message and another one may follow a log in either order.
use Rattle.rubis_laws.proofs.Common.{ℕ, ◌≡◌, ◌+◌, List, [], ◌∷◌, ◌++◌, Bool, true, false, cond, length-append, refl, sym, ap, ◌∙◌, subst, arith, None, Some}
use Rattle.rubis_laws.proofs.Common.{inl, inr, ⊎_elim, append_assoc, option_or, true≢false, same_id, Decides-same_id, is_red, Checked, Follows, SameSet, has_id}
use Rattle.rubis_laws.proofs.Common.{Core, count, when}
use Rattle.rubis_model.specs.Commuting.{BlueMessagesCommute}
use Rattle.rubis_laws.proofs.Rows.EqualSets.{Apart, apart_push, checked_apart, equal_sets_equal_tables}
use Rattle.rubis_laws.proofs.Order.Deciding.{fits_on, checked_end}
use Rattle.rubis_laws.proofs.Rows.Sets.{at_id_push, count_push, Member, contains_of, member_append, member_left, member_of, member_right}

still_new : (log : List Core) (u v : Core) → has_id v.id log ≡ None → ¬ (u.id ≡ v.id) → has_id v.id (log ++ u ∷ []) ≡ None
still_new log u v new other =
    at_id_push Some v.id log u ∙ (λ i. option_or (new i) (when (not_same (same_id v.id u.id) refl i) (Some u)))
  where
    not_same : (b : Bool) → same_id v.id u.id ≡ b → same_id v.id u.id ≡ false
    not_same true e = absurd (other (sym ((Decides-same_id v.id u.id).0 e)))
    not_same false e = e

module _ (log : List Core) (u v : Core) (checked : Checked log) (fu : Follows log u) (fv : Follows log v) (other : ¬ (u.id ≡ v.id))
    (blue : is_red u.shadow ≡ false) where
  apart : Apart log
  apart = checked_apart checked

  -- the other one still follows after the blue one
  follows_blue : Follows (log ++ u ∷ []) v
  follows_blue =
      let after = apart_push apart fu in
      let same : count is_red (log ++ u ∷ []) ≡ count is_red log = omega (arith, count_push is_red log u, ap (λ b. cond {A = ℕ} b 1 0) blue) in record {
        new_id = still_new log u v fv.new_id other;
        next_red = fv.next_red ∙ ap (λ n. cond (is_red v.shadow) (n + 1) 0) (sym same);
        fits = fits_on log (log ++ u ∷ []) (λ m h. member_left log (u ∷ []) m h) apart.ids after.ids after.reds {x = v.shadow} back fv.fits;
        limits = fv.limits;
      }
    where
      back : is_red v.shadow ≡ true → (m : Core) → Member (log ++ u ∷ []) m → is_red m.shadow ≡ true → Member log m
      back e m h red = ⊎_elim (λ k. k) (λ k. ⊎_elim (λ q. absurd (true≢false (sym red ∙ ap (λ (x : Core). is_red x.shadow) (sym q) ∙ blue))) (λ z. absurd z) k)
          (member_append log (u ∷ []) m h)

  -- and the blue one after the other one
  blue_follows : Follows (log ++ v ∷ []) u
  blue_follows =
      let after = apart_push apart fv in record {
        new_id = still_new log v u fu.new_id (λ e. other (sym e));
        next_red = fu.next_red ∙ (λ i. cond (blue i) (count is_red log + 1) 0) ∙ (λ i. cond (sym blue i) (count is_red (log ++ v ∷ []) + 1) 0);
        fits = fits_on log _ (λ m h. member_left log _ m h) apart.ids after.ids after.reds (λ e. absurd (true≢false (sym e ∙ blue))) fu.fits;
        limits = fu.limits;
      }

  one_order : Checked (log ++ u ∷ v ∷ [])
  one_order = subst Checked (append_assoc log (u ∷ []) (v ∷ [])) (checked_end [] (log ++ u ∷ []) (checked_end [] log checked fu) follows_blue)

  other_order : Checked (log ++ v ∷ u ∷ [])
  other_order = subst Checked (append_assoc log (v ∷ []) (u ∷ [])) (checked_end [] (log ++ v ∷ []) (checked_end [] log checked fv) blue_follows)

turned : (log : List Core) (u v m : Core) → Member (log ++ u ∷ v ∷ []) m → Member (log ++ v ∷ u ∷ []) m
turned log u v m h = ⊎_elim (λ k. member_left log (v ∷ u ∷ []) m k)
    (λ k. member_right log (v ∷ u ∷ []) m (⊎_elim (λ e. inr (inl e)) (λ q. ⊎_elim (λ e. inl e) (λ z. absurd z) q) k)) (member_append log (u ∷ v ∷ []) m h)

same_members : (log : List Core) (u v : Core) → SameSet (log ++ u ∷ v ∷ []) (log ++ v ∷ u ∷ [])
same_members log u v m = (
  (λ h. contains_of (log ++ v ∷ u ∷ []) (turned log u v m (member_of (log ++ u ∷ v ∷ []) h))),
  λ h. contains_of (log ++ u ∷ v ∷ []) (turned log v u m (member_of (log ++ v ∷ u ∷ []) h)),
)

pub blue_messages_commute : BlueMessagesCommute
blue_messages_commute log u v checked fu fv other blue few = record {
  one = one_order log u v checked fu fv other blue;
  other = other_order log u v checked fu fv other blue;
  tables = equal_sets_equal_tables _ _ (one_order log u v checked fu fv other blue) (other_order log u v checked fu fv other blue)
      (omega (arith, few, length-append log (u ∷ v ∷ []))) (omega (arith, few, length-append log (v ∷ u ∷ []))) (same_members log u v);
}
